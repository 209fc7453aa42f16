-- The classes cover the specification both ways.
use Rattle.std.proofs.Common.{◌≡◌, Bool, true, false, ◌&&◌, inl, inr, List, [], ◌∷◌, ◌++◌, refl, ap, sym, ◌∙◌, subst}
use Rattle.std.specs.List.{flat_map, list_all}
use Rattle.tg_model.specs.Tree.{Tree, elements}
use Rattle.tg_model.specs.Types.{bool}
use Rattle.tg_model.specs.Value.{Value, boolean, same_value}
use Rattle.tg_model.specs.Theory.{Theory}
use Rattle.tg_model.specs.Typing.{AreTyped}
use Rattle.tg_model.specs.Table.{Table, IsTable}
use Rattle.tg_model.specs.Denotation.{den, world, values_in}
use Rattle.tg_model.specs.TermTyping.{IsTyped}
use Rattle.tg_model.specs.WellTyped.{IsWellTyped}
use Rattle.tg_model.specs.Accepted.{IsAccepted, IsAmong}
use Rattle.tg_model.proofs.Keeping.{substitution_keeps, substitution_keeps_types}
use Rattle.tg_model.proofs.SameValue.{decides_equality}
use Rattle.tg_accept.specs.Checks.{Each, Any}
use Rattle.tg_rows.specs.Laws.{Setting}
use Rattle.tg_rows.proofs.TypedLists.{values_map, listed_typed}
use Rattle.tg_norm.proofs.Keeping.{form_kept}
use Rattle.tg_norm.proofs.SplitLaws.{splits_keep}
use Rattle.tg_clause.specs.Clauses.{Clause, clauses_of}
use Rattle.tg_clause.specs.Minimal.{minimised}
use Rattle.tg_clause.specs.Classes.{constraints_of, checks_of}
use Rattle.tg_clause.specs.Truth.{clause_holds, all_hold}
use Rattle.tg_clause.specs.Laws.{AtomsOf}
use Rattle.tg_clause.proofs.TermTruth.{clauses_are_true}
use Rattle.tg_clause.proofs.MinimalTruth.{minimised_are_among, minimising_keeps}
use Rattle.tg_clause.proofs.AtomLaws.{atoms_are_typed}
use Rattle.tg_clause.proofs.ClassTruth.{classes_say_clauses}
use Rattle.tg_split.specs.Patterns.{Pattern, patterns}
use Rattle.tg_split.specs.Laws.{AllOf, OneOf, Matches, IsPatternOf}
use Rattle.tg_split.proofs.Covering.{covers_once}
use Rattle.tg_split.proofs.TypedPatterns.{patterns_are_typed}
use Rattle.tg_hyps.specs.Hypotheses.{Class}
use Rattle.tg_hyps.specs.Meaning.{IsTrueTerm, AllTrue, SomeTrue, IsTrueAt}
use Rattle.tg_derive.specs.Goals.{start}
use Rattle.tg_derive.specs.Classes.{class_of}
use Rattle.tg_derive.specs.Trees.{AreClassesAt, AreClassesOf}
use Rattle.tg_derive.specs.Laws.{AreTrueAt, ClassesCover}
use Rattle.tg_derive.proofs.EachLaws.{each_left, each_right, each_both, each_among, each_of, each_flat, each_map, each_mapped, each_given, among_itself}
use Rattle.tg_derive.proofs.TreeLaws.{classes_are_of_trees}

both_true : (a b : Bool) → (a && b) ≡ true → (a ≡ true) × (b ≡ true)
both_true true b h = (refl, h)
both_true false b h = absurd (cc h)

all_of : {A : Type 0} (p : A → Bool) (xs : List A) → list_all p xs ≡ true → Each (λ x. p x ≡ true) xs
all_of p [] h = tt
all_of p (x ∷ xs) h = let k = both_true (p x) (list_all p xs) h in (k.0, all_of p xs k.1)

of_all : {A : Type 0} (p : A → Bool) (xs : List A) → Each (λ x. p x ≡ true) xs → list_all p xs ≡ true
of_all p [] h = refl
of_all p (x ∷ xs) h = ap (λ b. b && list_all p xs) h.0 ∙ of_all p xs h.1

and_assoc : (a b c : Bool) → ((a && b) && c) ≡ (a && (b && c))
and_assoc true b c = refl
and_assoc false b c = refl

all_append : {A : Type 0} (p : A → Bool) (xs ys : List A) → list_all p (xs ++ ys) ≡ (list_all p xs && list_all p ys)
all_append p [] ys = refl
all_append p (x ∷ xs) ys = ap (λ b. p x && b) (all_append p xs ys) ∙ sym (and_assoc (p x) (list_all p xs) (list_all p ys))

module _ (th : Theory) (accepted : IsAccepted th) where
  abbrev wt : IsWellTyped th
  wt = accepted.well_typed

  -- of the leaves of a pattern
  module _ (p : Pattern) (is : IsPatternOf th th.program.inputs p) where
    start_typed : IsTyped th p.variables [] (start th p).term bool
    start_typed = substitution_keeps_types th p.variables [] th.program.inputs (elements p.terms) th.specification bool
        (listed_typed th p.variables [] p.terms th.program.inputs is.typed) wt.specification

    module _ (tb : Table) (table : IsTable th tb) (vs : List Value) (typed : AreTyped th vs p.variables) where
      abbrev pub setting : Setting th
      setting = record {
        table = tb;
        is_table = table;
        vars = p.variables;
        locs = [];
        env = vs;
        loc = [];
        closed_vars = is.closed;
        closed_locs = tt;
        typed_env = typed;
        typed_loc = tt;
      }

      abbrev pub truth : Tree → Bool
      truth t = same_value (boolean true) (den th tb vs [] t)

      clauses_truth : (ls : List Tree) → Each (λ l. IsTyped th p.variables [] l bool) ls
          → all_hold (world th tb) vs [] (flat_map clauses_of ls) ≡ list_all truth ls
      clauses_truth [] h = refl
      clauses_truth (l ∷ ls) h =
          all_append (clause_holds (world th tb) vs []) (clauses_of l) (flat_map clauses_of ls)
          ∙ (λ i. clauses_are_true th wt setting l h.0 i && clauses_truth ls h.1 i)

      start_value : (inputs : List Value) → values_in (world th tb) vs [] p.terms ≡ inputs
          → den th tb vs [] (start th p).term ≡ den th tb inputs [] th.specification
      start_value inputs e =
          substitution_keeps th tb vs [] (elements p.terms) th.specification
          ∙ ap (λ l. den th tb l [] th.specification) (sym (values_map (world th tb) vs [] p.terms) ∙ e)

      module _ (cs : List Class) (a : AreClassesAt th p cs) where
        abbrev pub found : List Clause
        found = flat_map clauses_of a.leaves

        pub form_typed : (den th tb vs [] (start th p).term ≡ den th tb vs [] a.form) × IsTyped th p.variables [] a.form bool
        form_typed =
            let k = form_kept th wt setting (start th p).term a.is_form.0 a.is_form.1 bool start_typed in
            (k.0 ∙ ap (den th tb vs []) a.is_form.2, subst (λ t. IsTyped th p.variables [] t bool) a.is_form.2 k.1)

        kept : Each (λ l. IsTyped th p.variables [] l bool) a.leaves × (list_all truth a.leaves ≡ truth a.form)
        kept = splits_keep th wt setting (start th p).term a.form a.leaves a.is_form a.are_leaves form_typed.1

        -- the minimal clauses all hold exactly where the specification is True
        same_truth : (inputs : List Value) → values_in (world th tb) vs [] p.terms ≡ inputs
            → all_hold (world th tb) vs [] (minimised found) ≡ same_value (boolean true) (den th tb inputs [] th.specification)
        same_truth inputs e =
            minimising_keeps (world th tb) vs [] found ∙ clauses_truth a.leaves kept.0 ∙ kept.1
            ∙ ap (same_value (boolean true)) (sym form_typed.0 ∙ start_value inputs e)

        pub atoms_typed : Each (AtomsOf (λ t. IsTyped th p.variables [] t bool)) (minimised found)
        atoms_typed =
            each_of (AtomsOf (λ t. IsTyped th p.variables [] t bool)) (minimised found) found
            (each_flat (AtomsOf (λ t. IsTyped th p.variables [] t bool)) clauses_of a.leaves
            (each_given (λ l. IsTyped th p.variables [] l bool) (λ l. Each (AtomsOf (λ t. IsTyped th p.variables [] t bool)) (clauses_of l)) a.leaves
            (λ l h. atoms_are_typed th p.variables [] l h) kept.0))
            (minimised_are_among found)

        says : (c : Clause) → AtomsOf (λ t. IsTyped th p.variables [] t bool) c
            → (clause_holds (world th tb) vs [] c ≡ true → Each (IsTrueTerm th tb vs) (constraints_of c) → Any (IsTrueTerm th tb vs) (checks_of c))
            × ((Each (IsTrueTerm th tb vs) (constraints_of c) → Any (IsTrueTerm th tb vs) (checks_of c)) → clause_holds (world th tb) vs [] c ≡ true)
        says c h = classes_say_clauses th wt setting c h

  -- where the terms are True: as the formulas of classes and as the laws of clauses have it
  module _ (tb : Table) (vs : List Value) where
    pub to_each : (ts : List Tree) → AllTrue th tb vs ts → Each (IsTrueTerm th tb vs) ts
    to_each [] h = tt
    to_each (t ∷ ts) h = (h.0, to_each ts h.1)

    from_each : (ts : List Tree) → Each (IsTrueTerm th tb vs) ts → AllTrue th tb vs ts
    from_each [] h = tt
    from_each (t ∷ ts) h = (h.0, from_each ts h.1)

    from_any : (ts : List Tree) → Any (IsTrueTerm th tb vs) ts → SomeTrue th tb vs ts
    from_any [] h = absurd h
    from_any (t ∷ ts) (inl h) = inl h
    from_any (t ∷ ts) (inr h) = inr (from_any ts h)

    to_any : (ts : List Tree) → SomeTrue th tb vs ts → Any (IsTrueTerm th tb vs) ts
    to_any [] h = absurd h
    to_any (t ∷ ts) (inl h) = inl h
    to_any (t ∷ ts) (inr h) = inr (to_any ts h)

  module _ (tb : Table) (table : IsTable th tb) (inputs : List Value) where
    true_value : IsTrueTerm th tb inputs th.specification → same_value (boolean true) (den th tb inputs [] th.specification) ≡ true
    true_value h = (decides_equality (boolean true) (den th tb inputs [] th.specification)).1 (sym h)

    from_true : same_value (boolean true) (den th tb inputs [] th.specification) ≡ true → IsTrueTerm th tb inputs th.specification
    from_true h = sym ((decides_equality (boolean true) (den th tb inputs [] th.specification)).0 h)

    -- a clause that stands among those that hold where the specification is True
    one_true : (p : Pattern) → IsPatternOf th th.program.inputs p → (cs : List Class) (a : AreClassesAt th p cs) → IsTrueTerm th tb inputs th.specification
        → (c : Clause) → IsAmong c (minimised (flat_map clauses_of a.leaves)) → IsTrueAt th tb (class_of p c) inputs
    one_true p is cs a h c among vs member =
        from_any tb vs (checks_of c)
        ((says p is tb table vs member.typed cs a c (each_among (AtomsOf (λ t. IsTyped th p.variables [] t bool)) _ c (atoms_typed p is tb table vs member.typed cs a) among)).0
        (each_among (λ d. clause_holds (world th tb) vs [] d ≡ true) _ c
        (all_of (clause_holds (world th tb) vs []) _ (same_truth p is tb table vs member.typed cs a inputs member.is ∙ true_value h)) among)
        (to_each tb vs (constraints_of c) member.constraints))

    all_true : (ps : List Pattern) → AllOf (IsPatternOf th th.program.inputs) ps → (cs : List Class) → AreClassesOf th ps cs
        → IsTrueTerm th tb inputs th.specification → AreTrueAt th tb cs inputs
    all_true [] is cs e h = subst (λ l. AreTrueAt th tb l inputs) (sym e) tt
    all_true (p ∷ ps) is cs a h =
        subst (λ l. AreTrueAt th tb l inputs) (sym a.4)
        (each_both (λ c. IsTrueAt th tb c inputs) a.0 a.1
        (subst (λ l. AreTrueAt th tb l inputs) (sym a.2.classes)
        (each_map (λ c. IsTrueAt th tb c inputs) (class_of p) (minimised (flat_map clauses_of a.2.leaves))
        (among_itself (λ c. IsTrueAt th tb (class_of p c) inputs) _ (one_true p is.0 a.0 a.2 h))))
        (all_true ps is.1 a.1 a.3 h))

    -- at inputs that match the pattern
    matched : (p : Pattern) → IsPatternOf th th.program.inputs p → (cs : List Class) → AreClassesAt th p cs → Matches th inputs p → AreTrueAt th tb cs inputs
        → IsTrueTerm th tb inputs th.specification
    matched p is cs a m h = from_true (sym (same_truth p is tb table m.0 m.1 cs a inputs there) ∙ of_all (clause_holds (world th tb) m.0 []) _ (each_hold _ (λ c k. k) given))
      where
        there : values_in (world th tb) m.0 [] p.terms ≡ inputs
        there = is.value tb m.0 ∙ m.2

        given : Each (λ c. IsTrueAt th tb (class_of p c) inputs) (minimised (flat_map clauses_of a.leaves))
        given = each_mapped (λ c. IsTrueAt th tb c inputs) (class_of p) _ (subst (λ l. AreTrueAt th tb l inputs) a.classes h)

        one : (c : Clause) → IsAmong c (minimised (flat_map clauses_of a.leaves)) → IsTrueAt th tb (class_of p c) inputs
            → clause_holds (world th tb) m.0 [] c ≡ true
        one c among k =
            (says p is tb table m.0 m.1 cs a c (each_among (AtomsOf (λ t. IsTyped th p.variables [] t bool)) _ c (atoms_typed p is tb table m.0 m.1 cs a) among)).1
            (λ constraints. to_any tb m.0 (checks_of c)
            (k m.0 (record { typed = m.1; is = there; constraints = from_each tb m.0 (constraints_of c) constraints })))

        each_hold : (xs : List Clause) → ((c : Clause) → IsAmong c xs → IsAmong c (minimised (flat_map clauses_of a.leaves)))
            → Each (λ c. IsTrueAt th tb (class_of p c) inputs) xs → Each (λ c. clause_holds (world th tb) m.0 [] c ≡ true) xs
        each_hold [] f k = tt
        each_hold (x ∷ xs) f k = (one x (f x (inl refl)) k.0, each_hold xs (λ c l. f c (inr l)) k.1)

    some_matched : (ps : List Pattern) → AllOf (IsPatternOf th th.program.inputs) ps → (cs : List Class) → AreClassesOf th ps cs → OneOf (Matches th inputs) ps
        → AreTrueAt th tb cs inputs → IsTrueTerm th tb inputs th.specification
    some_matched [] is cs a m h = absurd m
    some_matched (p ∷ ps) is cs a (inl m) h =
        matched p is.0 a.0 a.2 m.0 (each_left (λ c. IsTrueAt th tb c inputs) a.0 a.1 (subst (λ l. AreTrueAt th tb l inputs) a.4 h))
    some_matched (p ∷ ps) is cs a (inr m) h =
        some_matched ps is.1 a.1 a.3 m.1 (each_right (λ c. IsTrueAt th tb c inputs) a.0 a.1 (subst (λ l. AreTrueAt th tb l inputs) a.4 h))

pub classes_cover : ClassesCover
classes_cover th k cs accepted are tb table inputs typed = record {
  true_there = all_true th accepted tb table inputs (patterns th k) (patterns_are_typed th k accepted) cs (classes_are_of_trees th k cs are);
  suffice = λ shallow h. some_matched th accepted tb table inputs (patterns th k) (patterns_are_typed th k accepted) cs (classes_are_of_trees th k cs are)
      ((covers_once th k inputs typed).0 shallow) h;
}
