-- Types as they stand, as nodes.
use Rattle.std.proofs.Common.{ℕ, zero, suc, ◌≡◌, ◌+◌, ◌<◌, List, [], ◌∷◌, ◌++◌, length, get_or, take, refl, ap, sym, ◌∙◌, subst, arith}
use Rattle.std.specs.Prelude.{◌≢◌, Result, Ok, Err, IfOk}
use Rattle.std.proofs.lemmas.List.{take_more}
use Rattle.tg_model.specs.Types as model
use Rattle.tg_model.specs.Accepted.{parameters_from}
use Rattle.tg_types.specs.declared.types.Ty as declared
use Rattle.tg_types.specs.Types.{ty, types}
use Rattle.tg_types.specs.Substitutions.{Assignment}
use Rattle.tg_shared_types.specs.declared.nodes.Node.{Node}
use Rattle.tg_shared_types.specs.declared.nodes.Node.TheVariants.{Open, Nat, Bool, Param, App}
use Rattle.tg_shared_types.specs.Nodes.{Says, Fits, Names, IsNodeTable}
use Rattle.tg_shared_types.specs.Growth.{Grows}
use Rattle.tg_shared_types.proofs.NodeLaws.{pushed_length}
use Rattle.tg_shared_types.proofs.GrowthLaws.{grows_itself, grows_then, grows_pushed, pushed_says, pushed_older, snoc, types_of_end, types_end, below_end}
use Rattle.tg_typing.specs.Nodes.{Stands, AllStand}

module _ (old : List Node) where
  standing : (mid : List Node) (n : Node) (t : model.Ty) (new : List Node) (at : ℕ) → IsNodeTable mid → Grows old mid → Names (length mid) (length mid) n →
      n ≢ Open → ((ρ : Assignment) → Fits ρ mid → Says ρ (length mid) n → ρ (length mid) ≡ t) → new ≡ mid ++ n ∷ [] → at ≡ length mid →
      Stands old t new at
  standing mid n t new at m g names shut reads e f =
      subst (λ x. Stands old t x at) (sym e) (subst (λ x. Stands old t (mid ++ n ∷ []) x) (sym f) (record {
        grows = grows_then g (grows_pushed mid n m names shut);
        inside = omega (arith, pushed_length mid n);
        reads = λ ρ f. reads ρ (pushed_older mid n m names ρ f) (pushed_says mid n m names ρ f);
      }))

  pub if_nat : {E : Type 0} (new : List Node) (r : Result ℕ E) → IsNodeTable old → IfOk r (λ at. new ≡ old ++ Nat ∷ []) → IfOk r (λ at. at ≡ length old) →
      IfOk r (λ at. Stands old model.nat new at)
  if_nat new (Ok at) m e f = standing old Nat model.nat new at m (grows_itself old) tt (λ o. cc) (λ ρ g s. s) e f
  if_nat new (Err x) m e f = tt

  pub if_bool : {E : Type 0} (new : List Node) (r : Result ℕ E) → IsNodeTable old → IfOk r (λ at. new ≡ old ++ Bool ∷ []) →
      IfOk r (λ at. at ≡ length old) → IfOk r (λ at. Stands old model.bool new at)
  if_bool new (Ok at) m e f = standing old Bool model.bool new at m (grows_itself old) tt (λ o. cc) (λ ρ g s. s) e f
  if_bool new (Err x) m e f = tt

  pub if_parameter : {E : Type 0} (n : ℕ) (new : List Node) (r : Result ℕ E) → IsNodeTable old → IfOk r (λ at. new ≡ old ++ Param n ∷ []) →
      IfOk r (λ at. at ≡ length old) → IfOk r (λ at. Stands old (model.parameter n) new at)
  if_parameter n new (Ok at) m e f = standing old (Param n) (model.parameter n) new at m (grows_itself old) tt (λ o. cc) (λ ρ g s. s) e f
  if_parameter n new (Err x) m e f = tt

  pub if_applied : {E : Type 0} (d : ℕ) (ts : model.Tys) (mid : List Node) (ks : List ℕ) (new : List Node) (r : Result ℕ E) → IsNodeTable mid →
      AllStand old ts mid ks → IfOk r (λ at. new ≡ mid ++ App d ks ∷ []) → IfOk r (λ at. at ≡ length mid) →
      IfOk r (λ at. Stands old (model.applied d ts) new at)
  if_applied d ts mid ks new (Ok at) m p e f =
      standing mid (App d ks) (model.applied d ts) new at m p.grows p.inside (λ o. cc) (λ ρ g s. s ∙ ap (model.applied d) (p.reads ρ g)) e f
  if_applied d ts mid ks new (Err x) m p e f = tt

pub stand_none : (ns : List Node) → AllStand ns model.none ns []
stand_none ns = record { grows = grows_itself ns; inside = tt; reads = λ ρ f. refl }

pub stand_next : (old mid new : List Node) (ks longer : List ℕ) (k : ℕ) (ts : List declared.Ty) (i : ℕ) (t : declared.Ty) → i < length ts →
    t ≡ get_or ts i t → AllStand old (types (take i ts)) mid ks → Stands mid (ty t) new k → longer ≡ ks ++ k ∷ [] →
    AllStand old (types (take (i + 1) ts)) new longer
stand_next old mid new ks longer k ts i t h e p q m =
    let s : types (take (i + 1) ts) ≡ snoc (types (take i ts)) (ty t) =
    ap types (take_more ts i t h) ∙ types_end (take i ts) (get_or ts i t) ∙ ap (λ x. snoc (types (take i ts)) (ty x)) (sym e) in
    subst (AllStand old (types (take (i + 1) ts)) new) (sym m) (record {
      grows = grows_then p.grows q.grows;
      inside = below_end (length mid) (length new) ks k q.grows.longer p.inside q.inside;
      reads = λ ρ f. types_of_end ρ ks k ∙ (λ j. snoc (p.reads ρ (q.grows.older ρ f) j) (q.reads ρ f j)) ∙ sym s;
    })

parameters_end : (m n : ℕ) → parameters_from m (suc n) ≡ parameters_from m n ++ model.parameter (m + n) ∷ []
parameters_end m zero = let e : m ≡ m + 0 = omega arith in ap (λ k. model.parameter k ∷ []) e
parameters_end m (suc n) =
    let e : suc m + n ≡ m + suc n = omega arith in
    ap (λ ts. model.parameter m ∷ ts) (parameters_end (suc m) n ∙ ap (λ k. parameters_from (suc m) n ++ model.parameter k ∷ []) e)

tys_end : (ts : List model.Ty) (t : model.Ty) → model.tys (ts ++ t ∷ []) ≡ snoc (model.tys ts) t
tys_end [] t = refl
tys_end (u ∷ ts) t = ap (model.more u) (tys_end ts t)

pub parameters_next : (old mid new : List Node) (ks longer : List ℕ) (k n number : ℕ) → IsNodeTable mid → AllStand old (model.tys (parameters_from 1 n)) mid ks →
    number ≡ n + 1 → new ≡ mid ++ Param number ∷ [] → k ≡ length mid → longer ≡ ks ++ k ∷ [] →
    AllStand old (model.tys (parameters_from 1 (n + 1))) new longer
parameters_next old mid new ks longer k n number table p number_is pushed place m =
    let q : Stands mid (model.parameter number) new k = if_parameter mid {E = ℕ} number new (Ok k) table pushed place in
    let one : suc n ≡ n + 1 = omega arith in
    let same : number ≡ 1 + n = omega (arith, number_is) in
    let s : model.tys (parameters_from 1 (n + 1)) ≡ snoc (model.tys (parameters_from 1 n)) (model.parameter number) =
    ap (λ c. model.tys (parameters_from 1 c)) (sym one) ∙ ap model.tys (parameters_end 1 n) ∙ tys_end (parameters_from 1 n) (model.parameter (1 + n))
    ∙ ap (λ c. snoc (model.tys (parameters_from 1 n)) (model.parameter c)) (sym same) in
    subst (AllStand old (model.tys (parameters_from 1 (n + 1))) new) (sym m) (record {
      grows = grows_then p.grows q.grows;
      inside = below_end (length mid) (length new) ks k q.grows.longer p.inside q.inside;
      reads = λ ρ f. types_of_end ρ ks k ∙ (λ j. snoc (p.reads ρ (q.grows.older ρ f) j) (q.reads ρ f j)) ∙ sym s;
    })
