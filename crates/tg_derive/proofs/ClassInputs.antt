-- The program calls in the checks of a class have the inputs of its member.
use Rattle.std.proofs.Common.{ℕ, zero, suc, ◌≡◌, ◌+◌, false, List, [], ◌∷◌, ◌++◌, length, refl, ap, sym, ◌∙◌, subst, append_assoc}
use Rattle.std.specs.Prelude.{slice_get}
use Rattle.std.specs.Option.{option_map_or}
use Rattle.std.specs.List.{flat_map}
use Rattle.tg_model.specs.Tree as tree
use Rattle.tg_model.specs.Tree.{Tree, Trees, Arms, bound, free, literal, truth, con, call, put, choice, case, bind, op, trees, elements}
use Rattle.tg_model.specs.Value.{Value}
use Rattle.tg_model.specs.Theory.{Theory}
use Rattle.tg_model.specs.Typing.{AreTyped}
use Rattle.tg_model.specs.Table.{Table, IsTable}
use Rattle.tg_model.specs.Denotation.{world, values_in}
use Rattle.tg_model.specs.Walk.{walk, walk_all, walk_arms, as_bound, raised, lifted, given, substituted}
use Rattle.tg_model.specs.Calls.{EachPut, EachPuts, EachPutOf}
use Rattle.tg_model.specs.Made.{IsMade, AreMade}
use Rattle.tg_model.specs.Accepted.{IsAccepted, IsAmong, variables_from}
use Rattle.tg_model.proofs.MadeTerms.{made_terms_stay}
use Rattle.tg_accept.specs.Checks.{Each}
use Rattle.tg_rows.specs.Laws.{HaveValues}
use Rattle.tg_rows.proofs.TypedLists.{as_long, listed_typed}
use Rattle.tg_norm.proofs.KeepingInputs.{form_good}
use Rattle.tg_norm.proofs.MadeForms.{AllMade, all_made}
use Rattle.tg_norm.proofs.SplitLaws.{splits_carry}
use Rattle.tg_clause.specs.Clauses.{Clause, clauses_of}
use Rattle.tg_clause.specs.Minimal.{minimised}
use Rattle.tg_clause.specs.Laws.{HasInputs}
use Rattle.tg_clause.proofs.MinimalTruth.{minimised_are_among}
use Rattle.tg_clause.proofs.InputLaws.{clauses_have_inputs, implications_have_inputs, checks_have_inputs}
use Rattle.tg_split.specs.Patterns.{Pattern, patterns}
use Rattle.tg_split.specs.Laws.{AllOf, IsPatternOf}
use Rattle.tg_split.proofs.TypedPatterns.{patterns_are_typed}
use Rattle.tg_hyps.specs.Hypotheses.{Class}
use Rattle.tg_hyps.specs.Meaning.{IsMember}
use Rattle.tg_derive.specs.Goals.{start}
use Rattle.tg_derive.specs.Classes.{class_of}
use Rattle.tg_derive.specs.Trees.{AreClassesAt, AreClassesOf}
use Rattle.tg_derive.specs.Laws.{CallsAreAtInputs}
use Rattle.tg_derive.proofs.EachLaws.{each_both, each_among, each_of, each_flat, each_map, among_itself}
use Rattle.tg_derive.proofs.BothWays.{setting, form_typed, to_each}
use Rattle.tg_derive.proofs.TreeLaws.{classes_are_of_trees}

trees_elements : (ts : Trees) → trees (elements ts) ≡ ts
trees_elements tree.none = refl
trees_elements (tree.more t ts) = ap (tree.more t) (trees_elements ts)

-- the terms in the places of `?1` to `?n`, which are made of constructors, variables and truth values
given_at : (pre ts : List Tree) (t : Tree) (d : ℕ) → IsMade t → option_map_or (lifted d) (slice_get (pre ++ t ∷ ts) (length pre)) (truth false) ≡ t
given_at [] ts t d m = (made_terms_stay t m).walked (raised d) 0
given_at (p ∷ pre) ts t d m = given_at pre ts t d m

length_more : (pre : List Tree) (t : Tree) → length (pre ++ t ∷ []) ≡ suc (length pre)
length_more [] t = refl
length_more (p ∷ pre) t = ap suc (length_more pre t)

given_all : (pre ts : List Tree) (d : ℕ) → AllMade ts
    → walk_all as_bound (given (pre ++ ts)) d (trees (variables_from (suc (length pre)) (length ts))) ≡ trees ts
given_all pre [] d m = refl
given_all pre (t ∷ ts) d m =
    (λ i. tree.more (given_at pre ts t d m.0 i) (walk_all as_bound (given (sym (append_assoc pre (t ∷ []) ts) i)) d (trees (variables_from (suc (sym (length_more pre t) i)) (length ts)))))
    ∙ ap (tree.more t) (given_all (pre ++ t ∷ []) ts d m.1)

module _ (P : Trees → Type 0) where
  mutual
    none_made : (t : Tree) → IsMade t → EachPut P t
    none_made (free n) m = tt
    none_made (truth b) m = tt
    none_made (con c us) m = none_among us m
    none_made t m = absurd m

    none_among : (us : Trees) → AreMade us → EachPuts P us
    none_among tree.none m = tt
    none_among (tree.more u us) m = (none_made u m.0, none_among us m.1)

  none_called : (ts : List Tree) → AllMade ts → EachPuts P (trees ts)
  none_called [] m = tt
  none_called (t ∷ ts) m = (none_made t m.0, none_called ts m.1)

-- a term whose program calls are on the inputs alone, at such terms
module _ (P : Trees → Type 0) (us : List Tree) (made : AllMade us) (good : P (trees us)) where
  abbrev OnInputs : Trees → Type 0
  OnInputs ts = ts ≡ trees (variables_from 1 (length us))

  abbrev at : ℕ → Tree → Tree
  at d t = walk as_bound (given us) d t

  at_place : (ts : List Tree) (k d : ℕ) → AllMade ts → EachPut P (option_map_or (lifted d) (slice_get ts k) (truth false))
  at_place [] k d m = tt
  at_place (t ∷ ts) zero d m = subst (EachPut P) (sym ((made_terms_stay t m.0).walked (raised d) 0)) (none_made P t m.0)
  at_place (t ∷ ts) (suc k) d m = at_place ts k d m.1

  at_free : (n d : ℕ) → EachPut P (given us d n)
  at_free zero d = tt
  at_free (suc n) d = at_place us n d made

  mutual
    put_in : (t : Tree) (d : ℕ) → EachPut OnInputs t → EachPut P (walk as_bound (given us) d t)
    put_in (bound k) d h = tt
    put_in (free n) d h = at_free n d
    put_in (literal n) d h = tt
    put_in (truth b) d h = tt
    put_in (con c ts) d h = all_put_in ts d h
    put_in (call f ts) d h = all_put_in ts d h
    put_in (put ts) d h =
        let same : walk_all as_bound (given us) d ts ≡ trees us = ap (walk_all as_bound (given us) d) h.0 ∙ given_all [] us d made in
        (subst P (sym same) good, subst (EachPuts P) (sym same) (none_called P us made))
    put_in (choice ts) d h = all_put_in ts d h
    put_in (case e t arms) d h = (put_in t d h.0, arms_put_in arms d h.1)
    put_in (bind t body) d h = (put_in t d h.0, put_in body (d + 1) h.1)
    put_in (op o ts) d h = all_put_in ts d h

    all_put_in : (ts : Trees) (d : ℕ) → EachPuts OnInputs ts → EachPuts P (walk_all as_bound (given us) d ts)
    all_put_in tree.none d h = tt
    all_put_in (tree.more t ts) d h = (put_in t d h.0, all_put_in ts d h.1)

    arms_put_in : (arms : Arms) (d : ℕ) → EachPutOf OnInputs arms → EachPutOf P (walk_arms as_bound (given us) d arms)
    arms_put_in tree.end d h = tt
    arms_put_in (tree.arm n body arms) d h = (put_in body (d + n) h.0, arms_put_in arms d h.1)

  pub put_on_terms : (t : Tree) → EachPut (λ ts. ts ≡ trees (variables_from 1 (length us))) t → EachPut P (substituted us t)
  put_on_terms t h = put_in t 0 h

module _ (th : Theory) (accepted : IsAccepted th) (tb : Table) (table : IsTable th tb) (vs inputs : List Value) where
  -- of the start of a pattern at whose values the inputs are
  module _ (p : Pattern) (is : IsPatternOf th th.program.inputs p) (typed : AreTyped th vs p.variables)
      (there : values_in (world th tb) vs [] p.terms ≡ inputs) where
    have : HaveValues th tb vs inputs (trees (elements p.terms))
    have = subst (HaveValues th tb vs inputs) (sym (trees_elements p.terms)) (record { values = there; made = is.made })

    as_many : length (elements p.terms) ≡ length th.program.inputs
    as_many = as_long th p.variables [] (elements p.terms) th.program.inputs (listed_typed th p.variables [] p.terms th.program.inputs is.typed)

    start_good : EachPut (HaveValues th tb vs inputs) (start th p).term
    start_good = put_on_terms (HaveValues th tb vs inputs) (elements p.terms) (all_made p.terms is.made) have th.specification
        (subst (λ n. EachPut (λ ts. ts ≡ trees (variables_from 1 n)) th.specification) (sym as_many) accepted.calls)

    clauses_good : (cs : List Class) (a : AreClassesAt th p cs) → Each (HasInputs th tb vs inputs) (minimised (flat_map clauses_of a.leaves))
    clauses_good cs a =
        let n = setting th accepted p is tb table vs typed in
        let form : EachPut (HaveValues th tb vs inputs) a.form =
        subst (EachPut (HaveValues th tb vs inputs)) a.is_form.2 (form_good th accepted tb vs inputs (start th p).term a.is_form.0 a.is_form.1 start_good) in
        let leaves : Each (λ l. Each (HasInputs th tb vs inputs) (clauses_of l)) a.leaves =
        splits_carry th accepted n inputs (λ l. Each (HasInputs th tb vs inputs) (clauses_of l))
        (λ t h g. clauses_have_inputs th tb vs inputs t g) (λ q t h g f. implications_have_inputs th accepted.well_typed n inputs q t h g f)
        (start th p).term a.form a.leaves a.is_form a.are_leaves (form_typed th accepted p is tb table vs typed cs a).1 form in
        each_of (HasInputs th tb vs inputs) (minimised (flat_map clauses_of a.leaves)) (flat_map clauses_of a.leaves)
        (each_flat (HasInputs th tb vs inputs) clauses_of a.leaves leaves) (minimised_are_among (flat_map clauses_of a.leaves))

  abbrev Good : Class → Type 0
  Good c = IsMember th tb c vs inputs → Each (EachPut (HaveValues th tb vs inputs)) c.checks

  -- a class is asked after at its member alone, so its pattern's values are typed
  class_good : (p : Pattern) → IsPatternOf th th.program.inputs p → (cs : List Class) (a : AreClassesAt th p cs) (c : Clause)
      → IsAmong c (minimised (flat_map clauses_of a.leaves)) → Good (class_of p c)
  class_good p is cs a c among member =
      checks_have_inputs th tb vs inputs c
      (each_among (HasInputs th tb vs inputs) (minimised (flat_map clauses_of a.leaves)) c (clauses_good p is member.typed member.is cs a) among)
      (to_each th accepted tb vs (class_of p c).constraints member.constraints)

  all_good : (ps : List Pattern) → AllOf (IsPatternOf th th.program.inputs) ps → (cs : List Class) → AreClassesOf th ps cs → Each Good cs
  all_good [] is cs e = subst (Each Good) (sym e) tt
  all_good (p ∷ ps) is cs a =
      subst (Each Good) (sym a.4)
      (each_both Good a.0 a.1
      (subst (Each Good) (sym a.2.classes)
      (each_map Good (class_of p) (minimised (flat_map clauses_of a.2.leaves))
      (among_itself (λ c. Good (class_of p c)) (minimised (flat_map clauses_of a.2.leaves)) (class_good p is.0 a.0 a.2))))
      (all_good ps is.1 a.1 a.3))

pub calls_are_at_inputs : CallsAreAtInputs
calls_are_at_inputs th k cs accepted are tb table c among vs inputs member =
    each_among (Good th accepted tb table vs inputs) cs c
    (all_good th accepted tb table vs inputs (patterns th k) (patterns_are_typed th k accepted) cs (classes_are_of_trees th k cs are)) among member
