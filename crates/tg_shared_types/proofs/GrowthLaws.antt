-- Laws of tables that grow, and of planted types.
use Rattle.std.proofs.Common.{ℕ, zero, suc, ◌≡◌, ◌+◌, ◌-◌, ◌<◌, ◌≤◌, List, [], ◌∷◌, ◌++◌, length, get_or, take, nat_eq, if◌then◌else◌, refl, ap, sym, ◌∙◌, subst, arith, inl, inr}
use Rattle.std.specs.Prelude.{◌≢◌, Some, None, slice_get, unwrap_or, Result, Ok, Err, IfOk}
use Rattle.std.proofs.lemmas.Bool.{eq-eqb}
use Rattle.std.proofs.lemmas.Bool.Decides.{eqb_tells}
use Rattle.std.proofs.lemmas.List.{take_more}
use Rattle.tg_model.specs.Types as model
use Rattle.tg_model.specs.Types.{elements}
use Rattle.tg_model.specs.Theory.{instance, instances}
use Rattle.tg_types.specs.declared.types.Ty as declared
use Rattle.tg_types.specs.Types.{ty, types}
use Rattle.tg_types.specs.Substitutions.{Assignment}
use Rattle.tg_shared_types.specs.declared.nodes.Node.{Node}
use Rattle.tg_shared_types.specs.declared.nodes.Node.TheVariants.{Open, Nat, Bool, App}
use Rattle.tg_shared_types.specs.Nodes.{types_of, Says, node_at, Fits, AreBelow, Names, IsNodeTable}
use Rattle.tg_shared_types.specs.Growth.{Grows, IsDeclared, AreDeclared, Plants, PlantsAll}
use Rattle.tg_shared_types.proofs.NodeLaws.{pushed_old, pushed_new, pushed_length}
use Rattle.tg_shared_types.proofs.PartLaws.{named_parts, says_same, value, says_value, says_alike}

pub grows_itself : (ns : List Node) → Grows ns ns
grows_itself ns = record {
  longer = omega arith;
  older = λ ρ f. f;
  extends = λ ρ f. record { types = ρ; fits = f; same = λ i h. refl };
  determined = λ ρ φ f g e i h. e i h;
}

pub grows_then : {old mid new : List Node} → Grows old mid → Grows mid new → Grows old new
grows_then {old} {mid} {new} a b = record {
  longer = omega (arith, a.longer, b.longer);
  older = λ ρ f. a.older ρ (b.older ρ f);
  extends = λ ρ f.
      let x = a.extends ρ f in
      let y = b.extends x.types x.fits in
      record { types = y.types; fits = y.fits; same = λ i h. y.same i (omega (arith, h, a.longer)) ∙ x.same i h };
  determined = λ ρ φ f g e i h. b.determined ρ φ f g (λ j k. a.determined ρ φ (b.older ρ f) (b.older φ g) e j k) i h;
}

-- one node more, which is no open one
module _ (ns : List Node) (n : Node) (t : IsNodeTable ns) (names : Names (length ns) (length ns) n) where
  place : ℕ
  place = length ns

  more : length (ns ++ n ∷ []) ≡ suc (length ns)
  more = pushed_length ns n

  pub pushed_says : (ρ : Assignment) → Fits ρ (ns ++ n ∷ []) → Says ρ (length ns) n
  pushed_says ρ f = subst (Says ρ (length ns)) (pushed_new ns n) (f.at (length ns) (omega (arith, more)))

  pub pushed_older : (ρ : Assignment) → Fits ρ (ns ++ n ∷ []) → Fits ρ ns
  pushed_older ρ f = record { at = λ i h. subst (Says ρ i) (pushed_old ns n i h) (f.at i (omega (arith, h, more))) }

  with_type : Assignment → Assignment
  with_type ρ k = if nat_eq k (length ns) then value ρ model.nat n else ρ k

  type_here : (ρ : Assignment) → with_type ρ (length ns) ≡ value ρ model.nat n
  unfolding with_type
  type_here ρ = rw (eq-eqb (length ns) (length ns) refl) refl

  type_old : (ρ : Assignment) (k : ℕ) → k < length ns → with_type ρ k ≡ ρ k
  unfolding with_type
  type_old ρ k h = elim (eqb_tells k (length ns)) [ inl p ↦ absurd (omega (arith, h, p.1)) | inr p ↦ rw p.0 refl ]

  says_pushed : (ρ : Assignment) → Fits ρ ns → (i : ℕ) → i < length (ns ++ n ∷ []) → Says (with_type ρ) i (node_at (ns ++ n ∷ []) i)
  says_pushed ρ f i h = elim (eqb_tells i (length ns)) [
    | inl p ↦
        subst (λ x. Says (with_type ρ) x (node_at (ns ++ n ∷ []) x)) (sym p.1)
        (subst (Says (with_type ρ) (length ns)) (sym (pushed_new ns n))
        (says_value (λ k. k < length ns) ρ (with_type ρ) model.nat (length ns) n (named_parts (length ns) (length ns) n (omega arith) names) (type_old ρ) (type_here ρ)))
    | inr p ↦
        let k : i < length ns = omega (arith, h, more, p.1) in
        subst (Says (with_type ρ) i) (sym (pushed_old ns n i k))
        (says_same (λ x. x < length ns) ρ (with_type ρ) i (node_at ns i) (named_parts (length ns) i (node_at ns i) (omega (arith, k)) (t.at i k)) (type_old ρ) (type_old ρ i k) (f.at i k))
  ]

  pub grows_pushed : n ≢ Open → Grows ns (ns ++ n ∷ [])
  grows_pushed shut = record {
    longer = omega (arith, more);
    older = pushed_older;
    extends = λ ρ f. record { types = with_type ρ; fits = record { at = says_pushed ρ f }; same = type_old ρ };
    determined = λ ρ φ f g e i h. elim (eqb_tells i (length ns)) [
      | inl p ↦
          subst (λ x. ρ x ≡ φ x) (sym p.1)
          (says_alike (λ k. k < length ns) ρ φ (length ns) n (named_parts (length ns) (length ns) n (omega arith) names) e (λ o. absurd (shut o))
          (pushed_says ρ f) (pushed_says φ g))
      | inr p ↦ e i (omega (arith, h, more, p.1))
    ];
  }

-- the node of a call of `push`
abbrev Pushed : List Node → Node → List Node → ℕ → Type 0
Pushed old n new at = (new ≡ old ++ n ∷ []) × (at ≡ length old)

module _ (old : List Node) (given : List ℕ) (table : IsNodeTable old) where
  planted : (mid : List Node) (n : Node) (t : model.Ty) → IsNodeTable mid → Grows old mid → Names (length mid) (length mid) n → n ≢ Open →
      ((ρ : Assignment) → Fits ρ mid → Says ρ (length mid) n → ρ (length mid) ≡ instance (elements (types_of ρ given)) t) →
      Plants old given t (mid ++ n ∷ []) (length mid)
  planted mid n t m g names shut reads = record {
    grows = grows_then g (grows_pushed mid n m names shut);
    inside = omega (arith, pushed_length mid n);
    reads = λ ρ f. reads ρ (pushed_older mid n m names ρ f) (pushed_says mid n m names ρ f);
  }

  written : (mid : List Node) (n : Node) (t : model.Ty) (new : List Node) (at : ℕ) → Plants old given t (mid ++ n ∷ []) (length mid) →
      new ≡ mid ++ n ∷ [] → at ≡ length mid → Plants old given t new at
  written mid n t new at p e f = subst (λ x. Plants old given t x at) (sym e) (subst (λ x. Plants old given t (mid ++ n ∷ []) x) (sym f) p)

  pub if_nat : {E : Type 0} (new : List Node) (r : Result ℕ E) → IfOk r (λ at. new ≡ old ++ Nat ∷ []) → IfOk r (λ at. at ≡ length old) →
      IfOk r (λ at. Plants old given model.nat new at)
  if_nat new (Ok at) e f = written old Nat model.nat new at (planted old Nat model.nat table (grows_itself old) tt (λ o. cc) (λ ρ g s. s)) e f
  if_nat new (Err x) e f = tt

  pub if_bool : {E : Type 0} (new : List Node) (r : Result ℕ E) → IfOk r (λ at. new ≡ old ++ Bool ∷ []) → IfOk r (λ at. at ≡ length old) →
      IfOk r (λ at. Plants old given model.bool new at)
  if_bool new (Ok at) e f = written old Bool model.bool new at (planted old Bool model.bool table (grows_itself old) tt (λ o. cc) (λ ρ g s. s)) e f
  if_bool new (Err x) e f = tt

  pub if_parameter : {E : Type 0} (n : ℕ) (new : List Node) (r : Result ℕ E) →
      ((ρ : Assignment) → model.nat ≡ instance (elements (types_of ρ given)) (model.parameter n)) →
      IfOk r (λ at. new ≡ old ++ Nat ∷ []) → IfOk r (λ at. at ≡ length old) → IfOk r (λ at. Plants old given (model.parameter n) new at)
  if_parameter n new (Ok at) same e f =
      written old Nat (model.parameter n) new at
      (planted old Nat (model.parameter n) table (grows_itself old) tt (λ o. cc) (λ ρ g s. s ∙ same ρ)) e f
  if_parameter n new (Err x) same e f = tt

  pub if_applied : {E : Type 0} (d : ℕ) (ts : model.Tys) (mid : List Node) (ks : List ℕ) (new : List Node) (r : Result ℕ E) → IsNodeTable mid →
      PlantsAll old given ts mid ks → IfOk r (λ at. new ≡ mid ++ App d ks ∷ []) → IfOk r (λ at. at ≡ length mid) →
      IfOk r (λ at. Plants old given (model.applied d ts) new at)
  if_applied d ts mid ks new (Ok at) m p e f =
      written mid (App d ks) (model.applied d ts) new at
      (planted mid (App d ks) (model.applied d ts) m p.grows p.inside (λ o. cc) (λ ρ g s. s ∙ ap (model.applied d) (p.reads ρ g))) e f
  if_applied d ts mid ks new (Err x) m p e f = tt

-- parameters
types_length : (ρ : Assignment) (ks : List ℕ) → length (elements (types_of ρ ks)) ≡ length ks
types_length ρ [] = refl
types_length ρ (k ∷ ks) = ap suc (types_length ρ ks)

type_past : (ρ : Assignment) (ks : List ℕ) (i : ℕ) → length ks ≤ i → slice_get (elements (types_of ρ ks)) i ≡ None
type_past ρ [] i h = refl
type_past ρ (k ∷ ks) zero h = absurd (omega (arith, h))
type_past ρ (k ∷ ks) (suc i) h = type_past ρ ks i (omega (arith, h))

type_at : (ρ : Assignment) (ks : List ℕ) (i : ℕ) (k : ℕ) → i < length ks → k ≡ get_or ks i k → slice_get (elements (types_of ρ ks)) i ≡ Some (ρ k)
type_at ρ [] i k h e = absurd (omega (arith, h))
type_at ρ (l ∷ ks) zero k h e = ap (λ x. Some (ρ x)) (sym e)
type_at ρ (l ∷ ks) (suc i) k h e = type_at ρ ks i k (omega (arith, h)) e

pub parameter_zero : (ρ : Assignment) (given : List ℕ) (n : ℕ) → n ≡ 0 → model.nat ≡ instance (elements (types_of ρ given)) (model.parameter n)
parameter_zero ρ given zero e = refl
parameter_zero ρ given (suc n) e = absurd (omega (arith, e))

pub parameter_past : (ρ : Assignment) (given : List ℕ) (n : ℕ) → length given < n →
    model.nat ≡ instance (elements (types_of ρ given)) (model.parameter n)
parameter_past ρ given zero h = refl
parameter_past ρ given (suc n) h = ap (λ o. unwrap_or o model.nat) (sym (type_past ρ given n (omega (arith, h))))

below_at : (n : ℕ) (ks : List ℕ) (i k : ℕ) → AreBelow n ks → i < length ks → k ≡ get_or ks i k → k < n
below_at n [] i k b h e = absurd (omega (arith, h))
below_at n (l ∷ ks) zero k b h e = subst (λ x. x < n) (sym e) b.0
below_at n (l ∷ ks) (suc i) k b h e = below_at n ks i k b.1 (omega (arith, h)) e

any_default : (ks : List ℕ) (i d e : ℕ) → i < length ks → get_or ks i d ≡ get_or ks i e
any_default [] i d e h = absurd (omega (arith, h))
any_default (k ∷ ks) zero d e h = refl
any_default (k ∷ ks) (suc i) d e h = any_default ks i d e (omega (arith, h))

pub given_parameter : (ns : List Node) (given : List ℕ) (n : ℕ) → AreBelow (length ns) given → n ≢ 0 → n ≤ length given →
    Plants ns given (model.parameter n) ns (get_or given (n - 1) 0)
given_parameter ns given zero b z h = absurd (z refl)
given_parameter ns given (suc n) b z h =
    let i : n < length given = omega arith in
    let p : n ≡ suc n - 1 = omega arith in
    let k : ℕ = get_or given n 0 in
    let q : k ≡ get_or given n k = any_default given n 0 k i in
    subst (λ x. Plants ns given (model.parameter (suc n)) ns (get_or given x 0)) p (record {
      grows = grows_itself ns;
      inside = below_at (length ns) given n k b i q;
      reads = λ ρ f. ap (λ o. unwrap_or o model.nat) (sym (type_at ρ given n k i q));
    })

-- lists of types, one longer
abbrev pub snoc : model.Tys → model.Ty → model.Tys
snoc model.none t = model.more t model.none
snoc (model.more u ts) t = model.more u (snoc ts t)

pub types_of_end : (ρ : Assignment) (ks : List ℕ) (k : ℕ) → types_of ρ (ks ++ k ∷ []) ≡ snoc (types_of ρ ks) (ρ k)
types_of_end ρ [] k = refl
types_of_end ρ (l ∷ ks) k = ap (model.more (ρ l)) (types_of_end ρ ks k)

instances_end : (us : List model.Ty) (ts : model.Tys) (t : model.Ty) → instances us (snoc ts t) ≡ snoc (instances us ts) (instance us t)
instances_end us model.none t = refl
instances_end us (model.more u ts) t = ap (model.more (instance us u)) (instances_end us ts t)

pub types_end : (ts : List declared.Ty) (t : declared.Ty) → types (ts ++ t ∷ []) ≡ snoc (types ts) (ty t)
types_end [] t = refl
types_end (u ∷ ts) t = ap (model.more (ty u)) (types_end ts t)

pub below_end : (m n : ℕ) (ks : List ℕ) (k : ℕ) → m ≤ n → AreBelow m ks → k < n → AreBelow n (ks ++ k ∷ [])
below_end m n [] k h b i = (i, tt)
below_end m n (l ∷ ks) k h b i = (omega (arith, b.0, h), below_end m n ks k h b.1 i)

pub below_grown : (m n : ℕ) (ks : List ℕ) → m ≤ n → AreBelow m ks → AreBelow n ks
below_grown m n [] h b = tt
below_grown m n (k ∷ ks) h b = (omega (arith, b.0, h), below_grown m n ks h b.1)

pub plants_none : (ns : List Node) (given : List ℕ) → PlantsAll ns given model.none ns []
plants_none ns given = record { grows = grows_itself ns; inside = tt; reads = λ ρ f. refl }

pub plants_next : (old mid new : List Node) (given ks longer : List ℕ) (k : ℕ) (ts : List declared.Ty) (i : ℕ) (t : declared.Ty) → i < length ts →
    t ≡ get_or ts i t → PlantsAll old given (types (take i ts)) mid ks → Plants mid given (ty t) new k → longer ≡ ks ++ k ∷ [] →
    PlantsAll old given (types (take (i + 1) ts)) new longer
plants_next old mid new given ks longer k ts i t h e p q m =
    let s : types (take (i + 1) ts) ≡ snoc (types (take i ts)) (ty t) =
    ap types (take_more ts i t h) ∙ types_end (take i ts) (get_or ts i t) ∙ ap (λ x. snoc (types (take i ts)) (ty x)) (sym e) in
    subst (PlantsAll old given (types (take (i + 1) ts)) new) (sym m) (record {
      grows = grows_then p.grows q.grows;
      inside = below_end (length mid) (length new) ks k q.grows.longer p.inside q.inside;
      reads = λ ρ f.
          types_of_end ρ ks k ∙ (λ j. snoc (p.reads ρ (q.grows.older ρ f) j) (q.reads ρ f j))
          ∙ sym (instances_end (elements (types_of ρ given)) (types (take i ts)) (ty t)) ∙ ap (instances (elements (types_of ρ given))) (sym s);
    })

pub declared_at : (ts : List declared.Ty) (i : ℕ) (t : declared.Ty) → AreDeclared (types ts) → i < length ts → t ≡ get_or ts i t → IsDeclared (ty t)
declared_at [] i t d h e = absurd (omega (arith, h))
declared_at (u ∷ ts) zero t d h e = subst (λ x. IsDeclared (ty x)) (sym e) d.0
declared_at (u ∷ ts) (suc i) t d h e = declared_at ts i t d.1 (omega (arith, h)) e
