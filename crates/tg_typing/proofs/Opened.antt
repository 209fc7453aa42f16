-- Open nodes, whose types are asked nothing.
use Rattle.std.proofs.Common.{ℕ, ◌+◌, zero, suc, ◌≡◌, ◌<◌, ◌≤◌, List, [], ◌∷◌, ◌++◌, length, nat_eq, if◌then◌else◌, refl, sym, ◌∙◌, ap, subst, arith, inl, inr}
use Rattle.std.specs.Prelude.{map}
use Rattle.std.proofs.lemmas.Bool.{eq-eqb}
use Rattle.std.proofs.lemmas.Bool.Decides.{eqb_tells}
use Rattle.tg_model.specs.Types.{Ty}
use Rattle.tg_types.specs.Substitutions.{Assignment}
use Rattle.tg_shared_types.specs.declared.nodes.Node.{Node}
use Rattle.tg_shared_types.specs.declared.nodes.Node.TheVariants.{Open}
use Rattle.tg_shared_types.specs.Nodes.{Fits, Says, AreBelow, IsNodeTable, node_at}
use Rattle.tg_shared_types.proofs.NodeLaws.{pushed_old, pushed_new, pushed_length}
use Rattle.tg_shared_types.proofs.PartLaws.{named_parts, says_same}
use Rattle.tg_typing.specs.Nodes.{AreOpened}
use Rattle.tg_typing.specs.Growing.{Grown}
use Rattle.tg_typing.proofs.Turns.{Makes, grown_in_turn, agree_itself}

module _ (ns : List Node) (table : IsNodeTable ns) where
  with_type : Assignment → Ty → Assignment
  with_type ρ t k = if nat_eq k (length ns) then t else ρ k

  type_here : (ρ : Assignment) (t : Ty) → with_type ρ t (length ns) ≡ t
  unfolding with_type
  type_here ρ t = rw (eq-eqb (length ns) (length ns) refl) refl

  type_old : (ρ : Assignment) (t : Ty) (k : ℕ) → k < length ns → with_type ρ t k ≡ ρ k
  unfolding with_type
  type_old ρ t k h = elim (eqb_tells k (length ns)) [ inl p ↦ absurd (omega (arith, h, p.1)) | inr p ↦ rw p.0 refl ]

  says_opened : (ρ : Assignment) (t : Ty) → Fits ρ ns → (i : ℕ) → i < length (ns ++ Open ∷ []) → Says (with_type ρ t) i (node_at (ns ++ Open ∷ []) i)
  says_opened ρ t f i h = elim (eqb_tells i (length ns)) [
    | inl p ↦
        subst (λ x. Says (with_type ρ t) x (node_at (ns ++ Open ∷ []) x)) (sym p.1)
        (subst (Says (with_type ρ t) (length ns)) (sym (pushed_new ns Open)) tt)
    | inr p ↦
        let l : length (ns ++ Open ∷ []) ≡ suc (length ns) = pushed_length ns Open in
        let k : i < length ns = omega (arith, h, l, p.1) in
        subst (Says (with_type ρ t) i) (sym (pushed_old ns Open i k))
        (says_same (λ x. x < length ns) ρ (with_type ρ t) i (node_at ns i) (named_parts (length ns) i (node_at ns i) (omega (arith, k)) (table.at i k))
        (type_old ρ t) (type_old ρ t i k) (f.at i k))
  ]

  -- an open node, whose type is read
  pub opened : Grown ns (ns ++ Open ∷ []) Ty (λ ρ. ρ (length ns)) (λ ρ t. Unit {0})
  opened = record {
    longer = let l = pushed_length ns Open in omega arith;
    older = λ ρ f. record {
      at = λ i h. let l = pushed_length ns Open in subst (Says ρ i) (pushed_old ns Open i h) (f.at i (omega (arith, h, l)));
    };
    sound = λ ρ f. tt;
    complete = λ ρ t f w. record {
      types = with_type ρ t;
      fits = record { at = says_opened ρ t f };
      same = record { at = type_old ρ t };
      reads = type_here ρ t;
    };
    determined = λ ρ φ f g e r. record {
      at = λ i h. elim (eqb_tells i (length ns)) [
        | inl p ↦ subst (λ x. ρ x ≡ φ x) (sym p.1) r
        | inr p ↦ let l = pushed_length ns Open in e.at i (omega (arith, h, l, p.1))
      ];
    };
    local = λ ρ φ e. e.at (length ns) (let l = pushed_length ns Open in omega arith);
  }

pub none_opened : (ns : List Node) → AreOpened ns ns [] 0
none_opened ns = (
  tt,
  record {
    longer = omega arith;
    older = λ ρ f. f;
    sound = λ ρ f. refl;
    complete = λ ρ ts f w. record { types = ρ; fits = f; same = agree_itself; reads = empty ts w };
    determined = λ ρ φ f g e r. e;
    local = λ ρ φ e. refl;
  },
) where
  empty : (ts : List Ty) → length ts ≡ 0 → [] ≡ ts
  empty [] e = refl
  empty (t ∷ ts) e = cc e

map_end : (ρ : Assignment) (ks : List ℕ) (k : ℕ) → map ρ (ks ++ k ∷ []) ≡ map ρ ks ++ ρ k ∷ []
map_end ρ [] k = refl
map_end ρ (l ∷ ks) k = ap (λ ts. ρ l ∷ ts) (map_end ρ ks k)

length_end : (ts : List Ty) (t : Ty) → length (ts ++ t ∷ []) ≡ suc (length ts)
length_end [] t = refl
length_end (u ∷ ts) t = ap suc (length_end ts t)

-- a list that isn't empty is a list with an item at its end
split : (n : ℕ) (ts : List Ty) → length ts ≡ suc n → (us : List Ty) × (t : Ty) × (length us ≡ n) × (us ++ t ∷ [] ≡ ts)
split n [] e = cc e
split zero (t ∷ []) e = ([], t, refl, refl)
split zero (t ∷ u ∷ ts) e = cc e
split (suc n) (t ∷ ts) e =
    let f : length ts ≡ suc n = cc e in
    let x = split n ts f in
    (t ∷ x.0, x.1, ap suc x.2, ap (λ us. t ∷ us) x.3)

ends : (us vs : List Ty) (t u : Ty) → us ++ t ∷ [] ≡ vs ++ u ∷ [] → length us ≡ length vs → (us ≡ vs) × (t ≡ u)
ends [] [] t u e l = (refl, cc e)
ends [] (v ∷ vs) t u e l = cc l
ends (w ∷ us) [] t u e l = cc l
ends (w ∷ us) (v ∷ vs) t u e l =
    let f : us ++ t ∷ [] ≡ vs ++ u ∷ [] = cc e in
    let k : length us ≡ length vs = cc l in
    let x = ends us vs t u f k in
    ((let h : w ≡ v = cc e in λ i. h i ∷ x.0 i), x.1)

below_end : (m n : ℕ) (ks : List ℕ) (k : ℕ) → m ≤ n → AreBelow m ks → k < n → AreBelow n (ks ++ k ∷ [])
below_end m n [] k h b i = (i, tt)
below_end m n (l ∷ ks) k h b i = (omega (arith, b.0, h), below_end m n ks k h b.1 i)

pub opened_next : (old mid : List Node) (ks : List ℕ) (n : ℕ) → IsNodeTable mid → AreOpened old mid ks n →
    AreOpened old (mid ++ Open ∷ []) (ks ++ length mid ∷ []) (suc n)
opened_next old mid ks n table o =
    let l = pushed_length mid Open in (
      below_end (length mid) (length (mid ++ Open ∷ [])) ks (length mid) (omega (arith, l)) o.0 (omega (arith, l)),
      subst (λ read. Grown old (mid ++ Open ∷ []) (List Ty) read (λ ρ ts. length ts ≡ suc n)) (λ i ρ. sym (map_end ρ ks (length mid)) i)
          (grown_in_turn o.1 makes (opened mid table)),
    )
  where
    makes : Makes old mid (λ ρ. map ρ ks) (λ ρ ts. length ts ≡ n) (λ ρ t. Unit {0}) (λ ts t. ts ++ t ∷ []) (λ ρ ts. length ts ≡ suc n)
    makes = record {
      there = λ ρ t f p q. length_end (map ρ ks) t ∙ ap suc p;
      back = λ ρ ts f w. let x = split n ts w in (x.0, x.2, λ φ g e r. (x.1, tt, x.3));
      apart = λ ρ φ t u f g p p' q q' r. ends (map ρ ks) (map φ ks) t u r (p ∙ sym p');
    }

-- the same of a table and a list that are given by equations
pub opened_on : (old mid new : List Node) (ks longer : List ℕ) (k n : ℕ) → IsNodeTable mid → AreOpened old mid ks n → new ≡ mid ++ Open ∷ [] →
    k ≡ length mid → longer ≡ ks ++ k ∷ [] → AreOpened old new longer (n + 1)
opened_on old mid new ks longer k n table o e place l =
    let s : suc n ≡ n + 1 = omega arith in
    subst (AreOpened old new longer) s (subst (λ x. AreOpened old new x (suc n)) (sym (l ∙ ap (λ x. ks ++ x ∷ []) place))
    (subst (λ x. AreOpened old x (ks ++ length mid ∷ []) (suc n)) (sym e) (opened_next old mid ks n table o)))
