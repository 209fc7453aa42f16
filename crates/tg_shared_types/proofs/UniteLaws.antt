-- Laws of the steps of a union.
use Rattle.std.proofs.Common.{ℕ, ◌≡◌, ◌<◌, Bool, true, false, List, [], ◌∷◌, ◌++◌, length, refl, ap, sym, ◌∙◌, subst}
use Rattle.std.specs.Prelude.{Result, Ok, Err, IfOk}
use Rattle.tg_types.specs.Substitutions.{Assignment}
use Rattle.tg_shared_types.specs.declared.nodes.Node.{Node}
use Rattle.tg_shared_types.specs.Nodes.{Fits, IsNodeTable, SameFits, HasTypeOf}
use Rattle.tg_shared_types.specs.Pairs.{AreSame, PairsBelow, Carries, NoneFits, CarriesOr}
use Rattle.tg_shared_types.specs.Uniting.{IsUnion}
use Rattle.tg_shared_types.proofs.JoinLaws.{same_append, append_same, append_below}

-- one pair for another with the same types
swapped : (ρ : Assignment) (work : List (ℕ × ℕ)) (p q : ℕ × ℕ) → (ρ p.0 ≡ ρ p.1 → ρ q.0 ≡ ρ q.1) → AreSame ρ (work ++ p ∷ []) → AreSame ρ (work ++ q ∷ [])
swapped ρ work p q f s = let r = same_append ρ work (p ∷ []) s in append_same ρ work (q ∷ []) r.0 (f r.1.0, tt)

-- The pair `(a, b)` by way of the roots `x` and `y`, found one after the other.
module _ (old mid new : List Node) (work : List (ℕ × ℕ)) (a b x y : ℕ)
    (first : SameFits old mid) (second : SameFits mid new) (to_x : HasTypeOf old a x) (to_y : HasTypeOf mid b y) where
  into : (ρ : Assignment) → Fits ρ old → Fits ρ new
  into ρ f = (second.same ρ).1 ((first.same ρ).1 f)

  out : (ρ : Assignment) → Fits ρ new → Fits ρ old
  out ρ f = (first.same ρ).0 ((second.same ρ).0 f)

  there : (ρ : Assignment) → Fits ρ old → ρ a ≡ ρ b → ρ x ≡ ρ y
  there ρ f e = sym (to_x ρ f) ∙ e ∙ to_y ρ ((first.same ρ).1 f)

  back : (ρ : Assignment) → Fits ρ old → ρ x ≡ ρ y → ρ a ≡ ρ b
  back ρ f e = to_x ρ f ∙ e ∙ sym (to_y ρ ((first.same ρ).1 f))

  pub by_roots : (ok : Bool) (last : List Node) (left : List (ℕ × ℕ)) → CarriesOr ok new (work ++ (x, y) ∷ []) last left →
      CarriesOr ok old (work ++ (a, b) ∷ []) last left
  by_roots true last left c = record {
    table = c.table;
    long = c.long ∙ second.long ∙ first.long;
    below = subst (λ n. PairsBelow n left) (second.long ∙ first.long) c.below;
    same = λ ρ. (
      λ p. let q = (c.same ρ).0 p in (out ρ q.0, swapped ρ work (x, y) (a, b) (back ρ (out ρ q.0)) q.1),
      λ p. (c.same ρ).1 (into ρ p.0, swapped ρ work (a, b) (x, y) (there ρ p.0) p.1),
    );
  }
  by_roots false last left c = λ ρ f s. c ρ (into ρ f) (swapped ρ work (a, b) (x, y) (there ρ f) s)

  pub by_roots_turned : (ok : Bool) (last : List Node) (left : List (ℕ × ℕ)) → CarriesOr ok new (work ++ (y, x) ∷ []) last left →
      CarriesOr ok old (work ++ (a, b) ∷ []) last left
  by_roots_turned true last left c = record {
    table = c.table;
    long = c.long ∙ second.long ∙ first.long;
    below = subst (λ n. PairsBelow n left) (second.long ∙ first.long) c.below;
    same = λ ρ. (
      λ p. let q = (c.same ρ).0 p in (out ρ q.0, swapped ρ work (y, x) (a, b) (λ e. back ρ (out ρ q.0) (sym e)) q.1),
      λ p. (c.same ρ).1 (into ρ p.0, swapped ρ work (a, b) (y, x) (λ e. sym (there ρ p.0 e)) p.1),
    );
  }
  by_roots_turned false last left c = λ ρ f s. c ρ (into ρ f) (swapped ρ work (a, b) (y, x) (λ e. sym (there ρ f e)) s)

  pub if_by_roots : {E : Type 0} (last : List Node) (left : List (ℕ × ℕ)) (r : Result Bool E) →
      IfOk r (λ ok. CarriesOr ok new (work ++ (x, y) ∷ []) last left) → IfOk r (λ ok. CarriesOr ok old (work ++ (a, b) ∷ []) last left)
  if_by_roots last left (Ok ok) h = by_roots ok last left h
  if_by_roots last left (Err e) h = tt

  pub if_by_roots_turned : {E : Type 0} (last : List Node) (left : List (ℕ × ℕ)) (r : Result Bool E) →
      IfOk r (λ ok. CarriesOr ok new (work ++ (y, x) ∷ []) last left) → IfOk r (λ ok. CarriesOr ok old (work ++ (a, b) ∷ []) last left)
  if_by_roots_turned last left (Ok ok) h = by_roots_turned ok last left h
  if_by_roots_turned last left (Err e) h = tt

  -- one root for both
  pub by_one_root : PairsBelow (length old) work → x ≡ y → Carries old (work ++ (a, b) ∷ []) new work
  by_one_root w e = record {
    table = second.table;
    long = second.long ∙ first.long;
    below = w;
    same = λ ρ. (
      λ p. (out ρ p.0, append_same ρ work ((a, b) ∷ []) p.1 (back ρ (out ρ p.0) (ap ρ e), tt)),
      λ p. let q = same_append ρ work ((a, b) ∷ []) p.1 in (into ρ p.0, q.0),
    );
  }

-- one step after others
pub carries_on : (old mid new : List Node) (asked work rest left : List (ℕ × ℕ)) (p : ℕ × ℕ) (ok : Bool) → Carries old asked mid work → work ≡ rest ++ p ∷ [] →
    CarriesOr ok mid (rest ++ p ∷ []) new left → CarriesOr ok old asked new left
carries_on old mid new asked work rest left p true c e d = record {
  table = d.table;
  long = d.long ∙ c.long;
  below = subst (λ n. PairsBelow n left) c.long d.below;
  same = λ ρ. (
    λ q. let r = (d.same ρ).0 q in (c.same ρ).0 (r.0, subst (AreSame ρ) (sym e) r.1),
    λ q. let r = (c.same ρ).1 q in (d.same ρ).1 (r.0, subst (AreSame ρ) e r.1),
  );
}
carries_on old mid new asked work rest left p false c e d = λ ρ f s. let r = (c.same ρ).1 (f, s) in d ρ r.0 (subst (AreSame ρ) e r.1)

pub carries_itself : (ns : List Node) (ps : List (ℕ × ℕ)) → IsNodeTable ns → PairsBelow (length ns) ps → Carries ns ps ns ps
carries_itself ns ps t b = record { table = t; long = refl; below = b; same = λ ρ. (λ p. p, λ p. p) }

pub popped_below : (n : ℕ) (work rest : List (ℕ × ℕ)) (p : ℕ × ℕ) → work ≡ rest ++ p ∷ [] → PairsBelow n work → PairsBelow n rest × (p.0 < n) × (p.1 < n)
popped_below n work rest p e b = let r = append_below n rest (p ∷ []) (subst (PairsBelow n) e b) in (r.0, r.1.0, r.1.1)

-- at the end nothing is left
pub united : (old new : List Node) (a b : ℕ) → Carries old ((a, b) ∷ []) new [] → IsUnion old a b new
united old new a b c = record {
  long = c.long;
  same = λ ρ. (λ f. let r = (c.same ρ).0 (f, tt) in (r.0, r.1.0), λ p. ((c.same ρ).1 (p.0, (p.1, tt))).0);
}

pub not_united : (old new : List Node) (a b : ℕ) → NoneFits old ((a, b) ∷ []) → (ρ : Assignment) → Fits ρ old → ¬ (ρ a ≡ ρ b)
not_united old new a b c = λ ρ f e. c ρ f (e, tt)
