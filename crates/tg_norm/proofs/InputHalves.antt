-- Halves keep the inputs of program calls: what stands in an input has no program call, and its value stays.
use Rattle.std.proofs.Common.{◌≡◌, Bool, true, false, List, [], ◌∷◌, ◌++◌, Some, refl, ap, sym, ◌∙◌, subst}
use Rattle.std.specs.Prelude.{if◌then◌else◌}
use Rattle.std.proofs.lemmas.Option.{same_Some}
use Rattle.tg_model.specs.Tree as tree
use Rattle.tg_model.specs.Tree.{Tree, Trees, bound, free, literal, truth, con, call, put, choice, case, bind, op}
use Rattle.tg_model.specs.Value.{Value, boolean, made, values}
use Rattle.tg_model.specs.Theory.{Theory}
use Rattle.tg_model.specs.Table.{Table}
use Rattle.tg_model.specs.Denotation.{World, value_in, values_in, world, den}
use Rattle.tg_model.specs.Equality.{same_tree}
use Rattle.tg_model.specs.Calls.{has_call, EachPut, EachPuts}
use Rattle.tg_model.specs.Made.{IsMade, AreMade}
use Rattle.tg_model.proofs.Equalities.{decides_trees}
use Rattle.tg_model.proofs.MadeTerms.{made_terms_stay}
use Rattle.tg_accept.specs.Checks.{Each}
use Rattle.tg_rows.specs.Laws.{HaveValues}
use Rattle.tg_norm.specs.Halves.{conditions, all_conditions, or_first, first_plain, condition_of, replaced, all_replaced, unless_same}

-- a condition with a program call doesn't stand in a made term
module _ (q : Tree) (b : Bool) (calls : has_call q ≡ true) where
  unless_untouched : (t u : Tree) → has_call t ≡ false → u ≡ t → unless_same q b t u ≡ t
  unless_untouched t u h e = by (same_tree t q) refl
    where
      by : (c : Bool) → same_tree t q ≡ c → (if c then truth b else u) ≡ t
      by true f = let z : true ≡ false = sym calls ∙ ap has_call (sym ((decides_trees t q).0 f)) ∙ h in absurd (cc z)
      by false f = e

  mutual
    untouched : (t : Tree) → IsMade t → replaced q b t ≡ t
    untouched (free n) m = unless_untouched (free n) (free n) refl refl
    untouched (truth c) m = unless_untouched (truth c) (truth c) refl refl
    untouched (con c ts) m = unless_untouched (con c ts) (con c (all_replaced q b ts)) (made_terms_stay (con c ts) m).no_call (ap (con c) (all_untouched ts m))
    untouched t m = absurd m

    all_untouched : (ts : Trees) → AreMade ts → all_replaced q b ts ≡ ts
    all_untouched tree.none m = refl
    all_untouched (tree.more t ts) m = λ i. tree.more (untouched t m.0 i) (all_untouched ts m.1 i)

-- another one has the truth value
module _ (w : World) (env : List Value) (q : Tree) (b : Bool) (known : value_in w env [] q ≡ boolean b) where
  abbrev Stays : Tree → Tree → Type 0
  Stays t u = IsMade u × (value_in w env [] u ≡ value_in w env [] t)

  unless_stays : (t u : Tree) → Stays t u → Stays t (unless_same q b t u)
  unless_stays t u h = by (same_tree t q) refl
    where
      by : (c : Bool) → same_tree t q ≡ c → Stays t (if c then truth b else u)
      by true f = (tt, sym known ∙ ap (value_in w env []) (sym ((decides_trees t q).0 f)))
      by false f = h

  mutual
    stays : (t : Tree) → IsMade t → Stays t (replaced q b t)
    stays (free n) m = unless_stays (free n) (free n) (tt, refl)
    stays (truth c) m = unless_stays (truth c) (truth c) (tt, refl)
    stays (con c ts) m =
        let r = all_stay ts m in unless_stays (con c ts) (con c (all_replaced q b ts)) (r.0, ap (λ vs. made c (values vs)) r.1)
    stays t m = absurd m

    all_stay : (ts : Trees) → AreMade ts → AreMade (all_replaced q b ts) × (values_in w env [] (all_replaced q b ts) ≡ values_in w env [] ts)
    all_stay tree.none m = (tt, refl)
    all_stay (tree.more t ts) m =
        let r = stays t m.0 in let rest = all_stay ts m.1 in ((r.0, rest.0), λ i. r.1 i ∷ rest.1 i)

module _ (th : Theory) (tb : Table) (env d : List Value) (q : Tree) (b : Bool) (known : has_call q ≡ false → den th tb env [] q ≡ boolean b) where
  abbrev P : Trees → Type 0
  P = HaveValues th tb env d

  inputs_stay : (ts : Trees) → P ts → P (all_replaced q b ts)
  inputs_stay ts g = by (has_call q) refl
    where
      by : (c : Bool) → has_call q ≡ c → P (all_replaced q b ts)
      by true e = subst P (sym (all_untouched q b e ts g.made)) g
      by false e = let r = all_stay (world th tb) env q b (known e) ts g.made in record { values = r.1 ∙ g.values; made = r.0 }

  unless_good : (t u : Tree) → EachPut P u → EachPut P (unless_same q b t u)
  unless_good t u g = by (same_tree t q)
    where
      by : (c : Bool) → EachPut P (if c then truth b else u)
      by true = tt
      by false = g

  mutual
    pub half_good : (t : Tree) → EachPut P t → EachPut P (replaced q b t)
    half_good (bound k) g = unless_good (bound k) (bound k) tt
    half_good (free n) g = unless_good (free n) (free n) tt
    half_good (literal n) g = unless_good (literal n) (literal n) tt
    half_good (truth c) g = unless_good (truth c) (truth c) tt
    half_good (con c ts) g = unless_good (con c ts) (con c (all_replaced q b ts)) (halves_good ts g)
    half_good (call f ts) g = unless_good (call f ts) (call f (all_replaced q b ts)) (halves_good ts g)
    half_good (put ts) g = unless_good (put ts) (put (all_replaced q b ts)) (inputs_stay ts g.0, halves_good ts g.1)
    half_good (choice ts) g = unless_good (choice ts) (choice (all_replaced q b ts)) (halves_good ts g)
    half_good (case n t arms) g = unless_good (case n t arms) (case n (replaced q b t) arms) (half_good t g.0, g.1)
    half_good (bind t body) g = unless_good (bind t body) (bind (replaced q b t) (replaced q b body)) (half_good t g.0, half_good body g.1)
    half_good (op o ts) g = unless_good (op o ts) (op o (all_replaced q b ts)) (halves_good ts g)

    halves_good : (ts : Trees) → EachPuts P ts → EachPuts P (all_replaced q b ts)
    halves_good tree.none g = tt
    halves_good (tree.more t ts) g = (half_good t g.0, halves_good ts g.1)

-- a condition stands in the term
module _ (P : Trees → Type 0) where
  both : (cs ds : List Tree) → Each (EachPut P) cs → Each (EachPut P) ds → Each (EachPut P) (cs ++ ds)
  both [] ds h k = k
  both (c ∷ cs) ds h k = (h.0, both cs ds h.1 k)

  mutual
    conditions_good : (t : Tree) → EachPut P t → Each (EachPut P) (conditions t)
    conditions_good (bound k) g = tt
    conditions_good (free n) g = tt
    conditions_good (literal n) g = tt
    conditions_good (truth b) g = tt
    conditions_good (con c ts) g = all_good ts g
    conditions_good (call f ts) g = all_good ts g
    conditions_good (put ts) g = all_good ts g.1
    conditions_good (choice tree.none) g = tt
    conditions_good (choice (tree.more t ts)) g = (g.0, both (conditions t) (all_conditions ts) (conditions_good t g.0) (all_good ts g.1))
    conditions_good (case n t arms) g = conditions_good t g.0
    conditions_good (bind t body) g = both (conditions t) (conditions body) (conditions_good t g.0) (conditions_good body g.1)
    conditions_good (op o ts) g = all_good ts g

    all_good : (ts : Trees) → EachPuts P ts → Each (EachPut P) (all_conditions ts)
    all_good tree.none g = tt
    all_good (tree.more t ts) g = both (conditions t) (all_conditions ts) (conditions_good t g.0) (all_good ts g.1)

  first_good : (cs : List Tree) (q : Tree) → Each (EachPut P) cs → first_plain cs ≡ Some q → EachPut P q
  first_good [] q g e = absurd (cc e)
  first_good (c ∷ cs) q g e = by (λ f. first_good cs q g.1 f) (conditions c) e
    where
      by : (first_plain cs ≡ Some q → EachPut P q) → (ds : List Tree) → or_first ds c (first_plain cs) ≡ Some q → EachPut P q
      by later [] f = subst (EachPut P) (same_Some c q f) g.0
      by later (d ∷ ds) f = later f

  pub condition_good : (t q : Tree) → condition_of t ≡ Some q → EachPut P t → EachPut P q
  condition_good t q e g = first_good (conditions t) q (conditions_good t g) e
