-- The truth of joined clauses, of products, and of the sides of a term.
use Rattle.std.proofs.Common.{◌≡◌, Bool, true, false, not, ◌&&◌, ◌||◌, List, [], ◌∷◌, ◌++◌, map, refl, ap, sym, ◌∙◌, inl, inr}
use Rattle.std.specs.Prelude.{cond}
use Rattle.std.specs.List.{list_any, filter}
use Rattle.std.proofs.lemmas.List.Folds.{list_any-append, list_all-append}
use Rattle.tg_model.specs.Tree.{Tree}
use Rattle.tg_model.specs.Value.{Value, same_truth}
use Rattle.tg_model.specs.Denotation.{World}
use Rattle.tg_model.proofs.Booleans.{or_left, or_right, or_cases}
use Rattle.tg_clause.specs.declared.literals.Literal.{Literal}
use Rattle.tg_clause.specs.Clauses.{Clause, Sides, same_literal, has, joined, product, turned, of_truth, of_atom, of_conjunction, of_disjunction, of_implication, of_equality}
use Rattle.tg_clause.specs.Truth.{truth_at, holds, clause_holds, all_hold}
use Rattle.tg_clause.proofs.LiteralLaws.{same_is}

-- laws of truth values
or_true : (a : Bool) → true ≡ (a || true)
or_true true = refl
or_true false = refl

beyond : (a b x y : Bool) → (a || x) ≡ (a || y) → (a || (b || x)) ≡ (a || (b || y))
beyond true b x y e = refl
beyond false true x y e = refl
beyond false false x y e = e

within : (a b x y : Bool) → (b ≡ true → a ≡ true) → (a || x) ≡ (a || y) → (a || x) ≡ (a || (b || y))
within true b x y h e = refl
within false true x y h e = absurd (cc (h refl))
within false false x y h e = e

shared_left : (a x y : Bool) → ((a || x) && (a || y)) ≡ (a || (x && y))
shared_left true x y = refl
shared_left false x y = refl

shared_right : (a x y : Bool) → ((a || y) && (x || y)) ≡ ((a && x) || y)
shared_right true x y = refl
shared_right false x true = sym (or_true x)
shared_right false x false = refl

plain : (a : Bool) → ((a || false) && true) ≡ a
plain true = refl
plain false = refl

twice : (a : Bool) → a ≡ not (not a)
twice true = refl
twice false = refl

both_denied : (a b : Bool) → (not a || not b) ≡ not (a && b)
both_denied true b = refl
both_denied false b = refl

denied_both : (a b : Bool) → not (not a && not b) ≡ (a || b)
denied_both true b = refl
denied_both false b = sym (twice b)

alike : (a b : Bool) → ((not a || b) && (not b || a)) ≡ same_truth a b
alike true true = refl
alike true false = refl
alike false true = refl
alike false false = refl

unlike : (a b : Bool) → ((a || b) && (not a || not b)) ≡ not (same_truth a b)
unlike true true = refl
unlike true false = refl
unlike false true = refl
unlike false false = refl

module _ (w : World) (env loc : List Value) where
  abbrev one : Literal → Bool
  one = holds w env loc

  abbrev some : Clause → Bool
  some = clause_holds w env loc

  abbrev every : List Clause → Bool
  every = all_hold w env loc

  pub has_holds : (c : Clause) (l : Literal) → has c l ≡ true → holds w env loc l ≡ true → clause_holds w env loc c ≡ true
  has_holds [] l e k = absurd (cc e)
  has_holds (m ∷ c) l e k = elim (or_cases (same_literal l m) (has c l) e) [
    | inl f ↦ or_left (one m) (some c) (sym (ap one (same_is l m f)) ∙ k)
    | inr f ↦ or_right (one m) (some c) (has_holds c l f k)
  ]

  new_holds : (c d : Clause) → (some c || list_any one (filter (λ l. not (has c l)) d)) ≡ (some c || some d)
  new_holds c [] = refl
  new_holds c (l ∷ d) = by (new_holds c d) (has c l) refl
    where
      by : (some c || list_any one (filter (λ m. not (has c m)) d)) ≡ (some c || some d) → (b : Bool) → has c l ≡ b
          → (some c || list_any one (cond (not b) (l ∷ filter (λ m. not (has c m)) d) (filter (λ m. not (has c m)) d))) ≡ (some c || (one l || some d))
      by rest true e = within (some c) (one l) (list_any one (filter (λ m. not (has c m)) d)) (some d) (has_holds c l e) rest
      by rest false e = beyond (some c) (one l) (list_any one (filter (λ m. not (has c m)) d)) (some d) rest

  pub joined_holds : (c d : Clause) → clause_holds w env loc (joined c d) ≡ (clause_holds w env loc c || clause_holds w env loc d)
  joined_holds c d = list_any-append one c (filter (λ l. not (has c l)) d) ∙ new_holds c d

  all_joined : (c : Clause) (ds : List Clause) → every (map (joined c) ds) ≡ (some c || every ds)
  all_joined c [] = or_true (some c)
  all_joined c (d ∷ ds) = (λ i. joined_holds c d i && all_joined c ds i) ∙ shared_left (some c) (some d) (every ds)

  product_holds : (cs ds : List Clause) → every (product cs ds) ≡ (every cs || every ds)
  product_holds [] ds = refl
  product_holds (c ∷ cs) ds =
      list_all-append some (map (joined c) ds) (product cs ds) ∙ (λ i. all_joined c ds i && product_holds cs ds i)
      ∙ shared_right (some c) (every cs) (every ds)

  beside_holds : (cs ds : List Clause) → every (cs ++ ds) ≡ (every cs && every ds)
  beside_holds cs ds = list_all-append some cs ds

  -- the sides of a term that is True, or that isn't
  pub record Mean (s : Sides) (b : Bool) : Type 0 where
    pub met : all_hold w env loc s.positive.list ≡ b
    pub unmet : all_hold w env loc s.negative.list ≡ not b

  pub mean_as : (s : Sides) (a b : Bool) → a ≡ b → Mean s a → Mean s b
  mean_as s a b e m = record { met = m.met ∙ e; unmet = m.unmet ∙ ap not e }

  pub mean_atom : (t : Tree) → Mean (of_atom t) (truth_at w env loc t)
  mean_atom t = record { met = plain (truth_at w env loc t); unmet = plain (not (truth_at w env loc t)) }

  pub mean_truth : (b : Bool) → Mean (of_truth b) b
  mean_truth true = record { met = refl; unmet = refl }
  mean_truth false = record { met = refl; unmet = refl }

  pub mean_turned : (s : Sides) (a : Bool) → Mean s a → Mean (turned s) (not a)
  mean_turned s a m = record { met = m.unmet; unmet = m.met ∙ twice a }

  pub mean_conjunction : (s r : Sides) (a b : Bool) → Mean s a → Mean r b → Mean (of_conjunction s r) (a && b)
  mean_conjunction s r a b m n = record {
    met = beside_holds s.positive.list r.positive.list ∙ (λ i. m.met i && n.met i);
    unmet = product_holds s.negative.list r.negative.list ∙ (λ i. m.unmet i || n.unmet i) ∙ both_denied a b;
  }

  pub mean_disjunction : (s r : Sides) (a b : Bool) → Mean s a → Mean r b → Mean (of_disjunction s r) (a || b)
  mean_disjunction s r a b m n =
      mean_as (of_disjunction s r) (not (not a && not b)) (a || b) (denied_both a b)
      (mean_turned (of_conjunction (turned s) (turned r)) (not a && not b)
      (mean_conjunction (turned s) (turned r) (not a) (not b) (mean_turned s a m) (mean_turned r b n)))

  pub mean_implication : (s r : Sides) (a b : Bool) → Mean s a → Mean r b → Mean (of_implication s r) (not a || b)
  mean_implication s r a b m n = mean_disjunction (turned s) r (not a) b (mean_turned s a m) n

  pub mean_equality : (s r : Sides) (a b : Bool) → Mean s a → Mean r b → Mean (of_equality s r) (same_truth a b)
  mean_equality s r a b m n = record {
    met = beside_holds (product s.negative.list r.positive.list) (product r.negative.list s.positive.list)
        ∙ (λ i. product_holds s.negative.list r.positive.list i && product_holds r.negative.list s.positive.list i)
        ∙ (λ i. (m.unmet i || n.met i) && (n.unmet i || m.met i)) ∙ alike a b;
    unmet = beside_holds (product s.positive.list r.positive.list) (product s.negative.list r.negative.list)
        ∙ (λ i. product_holds s.positive.list r.positive.list i && product_holds s.negative.list r.negative.list i)
        ∙ (λ i. (m.met i || n.met i) && (m.unmet i || n.unmet i)) ∙ unlike a b;
  }
