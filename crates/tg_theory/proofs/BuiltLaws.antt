-- What a builder keeps stays with each declaration.
use Rattle.std.proofs.Common.{◌≡◌, Bool, true, false, not, ◌||◌, ◌&&◌, List, [], ◌∷◌, ◌++◌, map, length, take, Option, Some, None, is_some, is_none, refl, sym, ◌∙◌, ap, subst, append_assoc, if◌then◌else◌}
use Rattle.std.specs.List.{list_any}
use Rattle.std.proofs.lemmas.List.{append-nil, map-append, length-map}
use Rattle.tg_model.specs.Tree.{Tree}
use Rattle.tg_model.specs.Theory.{Datatype, Constructor, Function, Program}
use Rattle.tg_model.specs.Accepted.{constructor_names, bodies}
use Rattle.tg_model.specs.Calls.{has_call}
use Rattle.tg_model.proofs.Booleans.{and_left, and_right}
use Rattle.tg_types.specs.Types.{ty}
use Rattle.tg_declarations.specs.declared.definitions.DataDef.{DataDef}
use Rattle.tg_declarations.specs.declared.definitions.FunDef.{FunDef}
use Rattle.tg_declarations.specs.declared.definitions.ProgDef.{ProgDef}
use Rattle.tg_declarations.specs.View.{datatype, function, body, program as program_of}
use Rattle.tg_accept.specs.Declared.{Declared, theory, nothing, with_datatype, with_function, with_program, with_specification}
use Rattle.tg_accept.specs.Kept.{names_of_types, names_of_values, name_of_program}
use Rattle.tg_accept.specs.Faults.{Fault, name, shape, program, is_taken, is_body_shaped, from_one_to_eight, has_parameter, datatype_fault, function_fault, program_fault, specification_fault}
use Rattle.tg_accept.specs.Meant.{IsDatatypeMeant, IsFunctionMeant, IsProgramMeant, IsSpecificationMeant}
use Rattle.tg_accept.proofs.KeptTheories.{nothing_is_kept, datatypes_keep, functions_keep, programs_keep, specifications_keep}
use Rattle.tg_theory.specs.Names.{IsName, AreNames, HaveSameNames}
use Rattle.tg_theory.specs.Built.{IsBuilt}
use Rattle.tg_theory.specs.Taking.{BeginsWith, constructor_names as constructor_names_of}
use Rattle.tg_theory.proofs.Taken.{Name, taken_append, not_true}
use Rattle.tg_theory.proofs.DatatypeFaults.{names_seen}

-- ---- names that are words

pub words_both : (xs ys : List Name) → AreNames xs → AreNames ys → AreNames (xs ++ ys)
words_both [] ys p q = q
words_both (x ∷ xs) ys p q = (p.0, words_both xs ys p.1 q)

pub words_left : (xs ys : List Name) → AreNames (xs ++ ys) → AreNames xs
words_left [] ys p = tt
words_left (x ∷ xs) ys p = (p.0, words_left xs ys p.1)

pub words_right : (xs ys : List Name) → AreNames (xs ++ ys) → AreNames ys
words_right [] ys p = p
words_right (x ∷ xs) ys p = words_right xs ys p.1

-- ---- names that are taken

or_first : (a c r : Bool) → ((a || r) || c) ≡ ((a || c) || r)
or_first true c r = refl
or_first false true true = refl
or_first false true false = refl
or_first false false true = refl
or_first false false false = refl

or_middle : (a f n p : Bool) → ((a || (f || p)) || n) ≡ (a || ((f || n) || p))
or_middle true f n p = refl
or_middle false true n p = refl
or_middle false false true true = refl
or_middle false false true false = refl
or_middle false false false true = refl
or_middle false false false false = refl

pub same_type_names : (ts ns : List Name) (n : Name) → HaveSameNames ts ns → HaveSameNames (ts ++ n ∷ []) (ns ++ n ∷ [])
same_type_names ts ns n h x = taken_append x ts (n ∷ []) ∙ ap (λ b. b || is_taken x (n ∷ [])) (h x) ∙ sym (taken_append x ns (n ∷ []))

-- the constructors' names stand before those of functions and of the program
pub same_constructor_names : (vs ks cs rs : List Name) → HaveSameNames vs (ks ++ rs) → HaveSameNames (vs ++ cs) ((ks ++ cs) ++ rs)
same_constructor_names vs ks cs rs h x =
    taken_append x vs cs
    ∙ ap (λ b. b || is_taken x cs) (h x ∙ taken_append x ks rs)
    ∙ or_first (is_taken x ks) (is_taken x cs) (is_taken x rs)
    ∙ ap (λ b. b || is_taken x rs) (sym (taken_append x ks cs))
    ∙ sym (taken_append x (ks ++ cs) rs)

pub same_function_name : (vs ks fs ps : List Name) (n : Name) → HaveSameNames vs (ks ++ (fs ++ ps)) → HaveSameNames (vs ++ n ∷ []) (ks ++ ((fs ++ n ∷ []) ++ ps))
same_function_name vs ks fs ps n h x =
    taken_append x vs (n ∷ [])
    ∙ ap (λ b. b || is_taken x (n ∷ [])) (h x ∙ taken_append x ks (fs ++ ps) ∙ ap (λ b. is_taken x ks || b) (taken_append x fs ps))
    ∙ or_middle (is_taken x ks) (is_taken x fs) (is_taken x (n ∷ [])) (is_taken x ps)
    ∙ ap (λ b. is_taken x ks || (b || is_taken x ps)) (sym (taken_append x fs (n ∷ [])))
    ∙ ap (λ b. is_taken x ks || b) (sym (taken_append x (fs ++ n ∷ []) ps))
    ∙ sym (taken_append x ks ((fs ++ n ∷ []) ++ ps))

names_appended : (xs : List Datatype) (x : Datatype) → constructor_names (xs ++ x ∷ []) ≡ constructor_names xs ++ map (λ (c : Constructor). c.name) x.constructors
names_appended [] x = append-nil (map (λ (c : Constructor). c.name) x.constructors)
names_appended (y ∷ xs) x =
    let own = map (λ (c : Constructor). c.name) y.constructors in
    ap (λ l. own ++ l) (names_appended xs x) ∙ sym (append_assoc own (constructor_names xs) (map (λ (c : Constructor). c.name) x.constructors))

pub keeps_nothing : IsBuilt [] [] nothing
keeps_nothing = record {
  right = record { kept = nothing_is_kept; type_names = tt; value_names = tt };
  types = λ x. refl;
  values = λ x. refl;
}

-- what was added to a list is cut off
pub cut_back : {A : Type 0} (old new : List A) → BeginsWith old new → take (length old) new ≡ old
cut_back old new h = ap (take (length old)) h.is ∙ front old h.more
  where
    front : {A : Type 0} (xs ys : List A) → take (length xs) (xs ++ ys) ≡ xs
    front [] ys = refl
    front (x ∷ xs) ys = ap (λ l. x ∷ l) (front xs ys)

-- ---- datatypes

module _ (D : Declared) (x : Datatype) where
  abbrev own : List Name
  own = map (λ (c : Constructor). c.name) x.constructors

  abbrev rest : List Name
  rest = map (λ (f : Function). f.name) D.functions ++ name_of_program D.program

  types_with : names_of_types D ++ x.name ∷ [] ≡ names_of_types (with_datatype D x)
  types_with = sym (map-append (λ (y : Datatype). y.name) D.datatypes (x ∷ []))

  values_with : (constructor_names D.datatypes ++ own) ++ rest ≡ names_of_values (with_datatype D x)
  values_with = ap (λ l. l ++ rest) (sym (names_appended D.datatypes x))

  pub keeps_datatype : (ts vs : List Name) → IsBuilt ts vs D → IsName x.name → AreNames own → IsDatatypeMeant D x → datatype_fault D x ≡ None
      → IsBuilt (ts ++ x.name ∷ []) (vs ++ own) (with_datatype D x)
  keeps_datatype ts vs k word words meant fine = record {
    right = record {
      kept = datatypes_keep D x k.right.kept meant fine;
      type_names = subst AreNames types_with (words_both (names_of_types D) (x.name ∷ []) k.right.type_names (word, tt));
      value_names =
          subst AreNames values_with
          (words_both (constructor_names D.datatypes ++ own) rest
          (words_both (constructor_names D.datatypes) own (words_left (constructor_names D.datatypes) rest k.right.value_names) words)
          (words_right (constructor_names D.datatypes) rest k.right.value_names));
    };
    types = subst (HaveSameNames (ts ++ x.name ∷ [])) types_with (same_type_names ts (names_of_types D) x.name k.types);
    values = subst (HaveSameNames (vs ++ own)) values_with (same_constructor_names vs (constructor_names D.datatypes) own rest k.values);
  }

-- ---- functions

module _ (D : Declared) (x : Function) where
  abbrev cons : List Name
  cons = constructor_names D.datatypes

  abbrev funs : List Name
  funs = map (λ (f : Function). f.name) D.functions

  abbrev prog : List Name
  prog = name_of_program D.program

  function_with : cons ++ ((funs ++ x.name ∷ []) ++ prog) ≡ names_of_values (with_function D x)
  function_with = ap (λ l. cons ++ (l ++ prog)) (sym (map-append (λ (f : Function). f.name) D.functions (x ∷ [])))

  pub keeps_function : (ts vs : List Name) → IsBuilt ts vs D → IsName x.name → IsFunctionMeant D x → function_fault D x ≡ None
      → IsBuilt ts (vs ++ x.name ∷ []) (with_function D x)
  keeps_function ts vs k word meant fine =
      let before = words_right cons (funs ++ prog) k.right.value_names in
      record {
        right = record {
          kept = functions_keep D x k.right.kept meant fine;
          type_names = k.right.type_names;
          value_names =
              subst AreNames function_with
              (words_both cons ((funs ++ x.name ∷ []) ++ prog) (words_left cons (funs ++ prog) k.right.value_names)
              (words_both (funs ++ x.name ∷ []) prog (words_both funs (x.name ∷ []) (words_left funs prog before) (word, tt)) (words_right funs prog before)));
        };
        types = k.types;
        values = subst (HaveSameNames (vs ++ x.name ∷ [])) function_with (same_function_name vs cons funs prog x.name k.values);
      }

pub builds_datatype : (D : Declared) (def : DataDef) (ts vs ts' vs' : List Name) (D' : Declared) → IsBuilt ts vs D → IsName def.name
    → AreNames (constructor_names_of def.cons) → IsDatatypeMeant D (datatype def) → datatype_fault D (datatype def) ≡ None
    → ts' ≡ ts ++ def.name ∷ [] → vs' ≡ vs ++ constructor_names_of def.cons → D' ≡ with_datatype D (datatype def) → IsBuilt ts' vs' D'
builds_datatype D def ts vs ts' vs' D' k word words meant fine e f g =
    let seen = names_seen def.cons in
    subst (λ w. IsBuilt w vs' D') (sym e)
    (subst (λ w. IsBuilt (ts ++ def.name ∷ []) w D') (sym (f ∙ ap (λ l. vs ++ l) (sym seen)))
    (subst (IsBuilt (ts ++ def.name ∷ []) (vs ++ own D (datatype def))) (sym g)
    (keeps_datatype D (datatype def) ts vs k word (subst AreNames (sym seen) words) meant fine)))

fault_free : (D : Declared) (x : Function) (vs : List Name) → HaveSameNames vs (names_of_values D) → is_taken x.name vs ≡ false
    → is_body_shaped D x x.body ≡ true → list_any has_call (bodies x.body) ≡ false → function_fault D x ≡ None
fault_free D x vs same free shaped calls =
    ap (λ b. if b then Some (name x.name) else if not (is_body_shaped D x x.body) then Some shape else if list_any has_call (bodies x.body) then Some program else None)
    (sym (same x.name) ∙ free)
    ∙ ap (λ b. if not b then Some shape else if list_any has_call (bodies x.body) then Some program else None) shaped
    ∙ ap (λ b. if b then Some program else None) calls

pub builds_function : (D : Declared) (def : FunDef) (ts vs vs' : List Name) (D' : Declared) → IsBuilt ts vs D → IsName def.name → IsFunctionMeant D (function def)
    → is_taken def.name vs ≡ false → is_body_shaped D (function def) (body def.body) ≡ true → list_any has_call (bodies (body def.body)) ≡ false
    → vs' ≡ vs ++ def.name ∷ [] → D' ≡ with_function D (function def) → IsBuilt ts vs' D'
builds_function D def ts vs vs' D' k word meant free shaped calls e f =
    subst (λ w. IsBuilt ts w D') (sym e)
    (subst (IsBuilt ts (vs ++ def.name ∷ [])) (sym f)
    (keeps_function D (function def) ts vs k word meant (fault_free D (function def) vs k.values free shaped calls)))

-- ---- the program and the specification

program_free : (D : Declared) (p : Program) (vs : List Name) → HaveSameNames vs (names_of_values D) → is_taken p.name vs ≡ false → is_some D.program ≡ false
    → (from_one_to_eight (length p.inputs) && not (list_any has_parameter (p.answer ∷ p.inputs))) ≡ true → program_fault D p ≡ None
program_free D p vs same free none fit =
    ap (λ b. if b then Some (name p.name) else if is_some D.program || not (from_one_to_eight (length p.inputs)) || list_any has_parameter (p.answer ∷ p.inputs) then Some program else None)
    (sym (same p.name) ∙ free)
    ∙ ap (λ b. if b || not (from_one_to_eight (length p.inputs)) || list_any has_parameter (p.answer ∷ p.inputs) then Some program else None) none
    ∙ ap (λ b. if not b || list_any has_parameter (p.answer ∷ p.inputs) then Some program else None) (and_left _ _ fit)
    ∙ ap (λ b. if b then Some program else None) (not_true (list_any has_parameter (p.answer ∷ p.inputs)) (and_right _ _ fit))

module _ (D : Declared) (p : Program) where
  abbrev early : List Name
  early = constructor_names D.datatypes ++ map (λ (f : Function). f.name) D.functions

  -- without a program before
  program_with : D.program ≡ None → names_of_values D ++ p.name ∷ [] ≡ names_of_values (with_program D p)
  program_with e =
      let funs = map (λ (f : Function). f.name) D.functions in
      let cons = constructor_names D.datatypes in
      ap (λ o. (cons ++ (funs ++ name_of_program o)) ++ p.name ∷ []) e
      ∙ ap (λ l. (cons ++ l) ++ p.name ∷ []) (append-nil funs)
      ∙ append_assoc cons funs (p.name ∷ [])

  pub keeps_program : (ts vs : List Name) → IsBuilt ts vs D → D.program ≡ None → IsName p.name → IsProgramMeant D p → program_fault D p ≡ None
      → IsBuilt ts (vs ++ p.name ∷ []) (with_program D p)
  keeps_program ts vs k none word meant fine = record {
    right = record {
      kept = programs_keep D p k.right.kept meant fine;
      type_names = k.right.type_names;
      value_names = subst AreNames (program_with none) (words_both (names_of_values D) (p.name ∷ []) k.right.value_names (word, tt));
    };
    types = k.types;
    values = subst (HaveSameNames (vs ++ p.name ∷ [])) (program_with none) (same_type_names vs (names_of_values D) p.name k.values);
  }

pub builds_program : (D : Declared) (def : ProgDef) (ts vs vs' : List Name) (D' : Declared) → IsBuilt ts vs D → IsName def.name → IsProgramMeant D (program_of def)
    → is_taken def.name vs ≡ false → is_some D.program ≡ false
    → (from_one_to_eight (length def.inputs) && not (list_any has_parameter (ty def.answer ∷ map ty def.inputs))) ≡ true
    → vs' ≡ vs ++ def.name ∷ [] → D' ≡ with_program D (program_of def) → IsBuilt ts vs' D'
builds_program D def ts vs vs' D' k word meant free none fit e f =
    let many : length (map ty def.inputs) ≡ length def.inputs = length-map def.inputs ty in
    let fits = ap (λ n. from_one_to_eight n && not (list_any has_parameter (ty def.answer ∷ map ty def.inputs))) many ∙ fit in
    subst (λ w. IsBuilt ts w D') (sym e)
    (subst (IsBuilt ts (vs ++ def.name ∷ [])) (sym f)
    (keeps_program D (program_of def) ts vs k (no_program D.program none) word meant (program_free D (program_of def) vs k.values free none fits)))
  where
    no_program : (o : Option Program) → is_some o ≡ false → o ≡ None
    no_program None h = refl
    no_program (Some p) h = cc h

pub keeps_specification : (D : Declared) (t : Tree) (ts vs : List Name) → IsBuilt ts vs D → IsSpecificationMeant (theory [] D) D.program t
    → specification_fault D t ≡ None → IsBuilt ts vs (with_specification D t)
keeps_specification D t ts vs k meant fine = record {
  right = record {
    kept = specifications_keep D t k.right.kept meant fine;
    type_names = k.right.type_names;
    value_names = k.right.value_names;
  };
  types = k.types;
  values = k.values;
}

pub no_fault : (o : Option Fault) → is_none o ≡ true → o ≡ None
no_fault None e = refl
no_fault (Some f) e = cc e
