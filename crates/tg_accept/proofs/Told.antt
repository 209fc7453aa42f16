-- What the builder's answer on a declaration tells.
use Rattle.std.proofs.Common.{◌≡◌, Bool, true, false, not, List, [], ◌∷◌, ◌++◌, map, length, Option, Some, None, refl, sym, ◌∙◌, ap, if◌then◌else◌}
use Rattle.std.specs.Prelude.{◌&&◌, ◌||◌, is_some, unwrap_or, option_and_then}
use Rattle.std.specs.Option.{option_map_or}
use Rattle.std.specs.List.{list_any, list_all}
use Rattle.tg_model.specs.Types.{Ty}
use Rattle.tg_model.specs.Theory.{Datatype, Constructor, Function, Program}
use Rattle.tg_model.specs.Calls.{has_call}
use Rattle.tg_model.specs.Accepted.{AreDistinct, bodies}
use Rattle.tg_model.proofs.Booleans.{and_left, and_right}
use Rattle.tg_accept.specs.Declared.{Declared, no_program, theory}
use Rattle.tg_accept.specs.Kept.{names_of_types, names_of_values}
use Rattle.tg_accept.specs.Faults as faults
use Rattle.tg_accept.specs.Faults.{Fault, is_taken, first_taken, is_argument, is_base, is_datatype_shaped, is_body_shaped, from_one_to_eight, has_parameter, each_put, datatype_fault, function_fault, program_fault, specification_fault}
use Rattle.tg_accept.specs.Resolved.{Resolveds}
use Rattle.tg_accept.specs.Raw.{Name, RawType, RawConstructor}
use Rattle.tg_accept.specs.Meaning.{each_meant, type_meant, type_variables}
use Rattle.tg_accept.specs.Datatypes.{are_taken, names_in, constructor_meant, datatype_meant, next_datatype, IsDatatypeShaped}
use Rattle.tg_accept.specs.Equations.{equation_meant}
use Rattle.tg_accept.specs.Functions.{Meant, split_last, signature_of, signature_meant, scope_of, body_of, whole_function, IsTypable, IsFunctionShaped, NamesNoProgram}
use Rattle.tg_accept.specs.Programs.{IsProgramFit, whole_specification, IsSpecificationFit}
use Rattle.tg_accept.specs.MeantLaws.{Tells, DatatypeTold, FunctionTold, ProgramTold, SpecificationTold, IsFunctionWritten}
use Rattle.tg_accept.specs.Uses.{variables_on}
use Rattle.tg_accept.proofs.FitTerms.{IsFit, fit}
use Rattle.tg_accept.proofs.SameCalls.{put_right, right_put}
use Rattle.tg_accept.proofs.InputCalls.{inputs_in_order}
use Rattle.tg_accept.proofs.FunctionAnswers.{primrec_lower, lower_primrec, primrec_free, free_primrec, definition_free, free_definition}
use Rattle.tg_accept.proofs.LeftSides.{mapped, then_some}

pub none_if : {A : Type 0} (b : Bool) (o : Option A) (y : A) → (if b then None else o) ≡ Some y → (b ≡ false) × (o ≡ Some y)
none_if true o y e = cc e
none_if false o y e = (refl, e)

-- ---- datatypes

or_false : (a b : Bool) → (a || b) ≡ false → (a ≡ false) × (b ≡ false)
or_false true b e = cc e
or_false false b e = (refl, e)

not_some : {A : Type 0} (o : Option A) → is_some o ≡ false → o ≡ None
not_some None e = refl
not_some (Some x) e = cc e

named_alike : (params names : List Name) (cs : List RawConstructor) (ks : List Constructor) → each_meant (constructor_meant params names) cs ≡ Some ks
    → map (λ (c : Constructor). c.name) ks ≡ names_in cs
named_alike params names [] ks e = let q : [] ≡ ks = cc e in ap (map (λ (c : Constructor). c.name)) (sym q)
named_alike params names (c ∷ cs) ks e =
    let k = then_some _ (constructor_meant params names c) ks e in
    let rest = mapped (λ ys. k.0 ∷ ys) (each_meant (constructor_meant params names) cs) ks k.2 in
    let here = mapped _ (each_meant (type_meant params names) c.arguments) k.0 k.1 in
    ap (map (λ (d : Constructor). d.name)) (sym rest.2)
    ∙ (ap (λ (x : Name). x ∷ map (λ (d : Constructor). d.name) rest.0) (ap (λ (d : Constructor). d.name) (sym here.2))
    ∙ ap (λ (l : List Name). c.name ∷ l) (named_alike params names cs rest.0 rest.1))

-- a shape alone may be wrong
shape_told : (Shaped : Type 0) (x : Name) (a : Bool) (o : Option Name) (b : Bool) → a ≡ false → o ≡ None → (b ≡ true → Shaped) → (Shaped → b ≡ true)
    → Tells (if a then Some (faults.name x) else option_map_or (λ y. Some (faults.name y)) o (if b then None else Some faults.shape)) Shaped (Unit {0})
shape_told Shaped x true o b ea eo to back = cc ea
shape_told Shaped x false (Some y) b ea eo to back = cc eo
shape_told Shaped x false None true ea eo to back = (to refl, tt)
shape_told Shaped x false None false ea eo to back = λ s. let q = back s in cc q

and_both : (a b : Bool) → a ≡ true → b ≡ true → (a && b) ≡ true
and_both true b ea eb = eb
and_both false b ea eb = cc ea

module _ (D : Declared) (x : Name) (params : List Name) (cs : List RawConstructor) (m : Datatype) (is : datatype_meant D x params cs ≡ Some m) where
  abbrev Names : Datatype → List Name
  Names y = map (λ (c : Constructor). c.name) y.constructors

  meaning : (is_taken x (names_of_types D) ≡ false) × (first_taken (names_of_values D) (names_in cs) ≡ None) × (m.name ≡ x) × (Names m ≡ names_in cs)
  meaning =
      let free = none_if (is_taken x (names_of_types D) || are_taken (names_of_values D) (names_in cs)) _ m is in
      let each = or_false (is_taken x (names_of_types D)) (are_taken (names_of_values D) (names_in cs)) free.0 in
      let ks = mapped _ (each_meant (constructor_meant params (names_of_types D ++ x ∷ [])) cs) m free.1 in (
        each.0,
        not_some (first_taken (names_of_values D) (names_in cs)) each.1,
        ap (λ (y : Datatype). y.name) (sym ks.2),
        ap Names (sym ks.2) ∙ named_alike params (names_of_types D ++ x ∷ []) cs ks.0 ks.1,
      )

  told_datatype : AreDistinct params → Tells (datatype_fault D m) (IsDatatypeShaped D params m) (Unit {0})
  told_datatype distinct =
      shape_told (IsDatatypeShaped D params m) m.name (is_taken m.name (names_of_types D)) (first_taken (names_of_values D) (Names m))
      (is_datatype_shaped (next_datatype D) m)
      (ap (λ (y : Name). is_taken y (names_of_types D)) meaning.2 ∙ meaning.0)
      (ap (first_taken (names_of_values D)) meaning.3 ∙ meaning.1)
      (λ e. record {
        parameters = distinct;
        arguments = and_left (list_all (λ (c : Constructor). list_all (is_argument (next_datatype D) m.parameters) c.arguments) m.constructors) _ e;
        base = and_right _ (list_any (λ (c : Constructor). is_base (next_datatype D) c.arguments) m.constructors) e;
      })
      (λ s. and_both _ _ s.arguments s.base)

pub datatype_told : DatatypeTold
datatype_told D x params cs m is distinct = told_datatype D x params cs m is distinct

-- ---- functions

function_checks_told : (Shaped Fit : Type 0) (x : Name) (a b c : Bool) → a ≡ false → (b ≡ true → Shaped) → (Shaped → b ≡ true)
    → (c ≡ false → Fit) → (Fit → c ≡ false)
    → Tells (if a then Some (faults.name x) else if not b then Some faults.shape else if c then Some faults.program else None) Shaped Fit
function_checks_told Shaped Fit x true b c ea to back to' back' = cc ea
function_checks_told Shaped Fit x false false c ea to back to' back' = λ s. let q = back s in cc q
function_checks_told Shaped Fit x false true true ea to back to' back' = (to refl, λ s. let q = back' s in cc q)
function_checks_told Shaped Fit x false true false ea to back to' back' = (to refl, to' refl)

named_so : (D : Declared) (x : Name) (ts : List RawType) (f : Function) → signature_meant D x ts ≡ Some f → f.name ≡ x
named_so D x ts f e =
    let p = mapped (signature_of x (length (type_variables ts))) (option_and_then split_last (each_meant (type_meant (type_variables ts) (names_of_types D)) ts)) f e in
    ap (λ (g : Function). g.name) (sym p.2)

pub function_told : FunctionTold
function_told D x r ts es m is typable written =
    let free = none_if (is_taken x (names_of_values D)) _ m is in
    let f = then_some _ (signature_meant D x ts) m free.1 in
    let ks = mapped (λ ks. record { signature = f.0; equations = ks }) (each_meant (equation_meant (scope_of D x r)) es) m f.2 in
    let name : m.signature.name ≡ x = ap (λ (n : Meant). n.signature.name) (sym ks.2) ∙ named_so D x ts f.0 f.1 in
    let w = whole_function D r m in
    function_checks_told (IsFunctionShaped D r m) (NamesNoProgram m) w.name (is_taken w.name (names_of_values D)) (is_body_shaped D w w.body)
    (list_any has_call (bodies w.body))
    (ap (λ (y : Name). is_taken y (names_of_values D)) name ∙ free.0) (to r typable written) (back r typable) (none_named r typable written) (none_called r typable written)
  where
    to : (b : Bool) → IsTypable D b m → IsFunctionWritten D b m → is_body_shaped D (whole_function D b m) (body_of D b m) ≡ true → IsFunctionShaped D b m
    to true t h e = record { written = h; lower = primrec_lower D m t h e }
    to false t h e = h

    back : (b : Bool) → IsTypable D b m → IsFunctionShaped D b m → is_body_shaped D (whole_function D b m) (body_of D b m) ≡ true
    back true t s = lower_primrec D m t s.written s.lower
    back false t s = refl

    none_named : (b : Bool) → IsTypable D b m → IsFunctionWritten D b m → list_any has_call (bodies (body_of D b m)) ≡ false → NamesNoProgram m
    none_named true t h e = primrec_free D m t h e
    none_named false t h e = definition_free D m t h e

    none_called : (b : Bool) → IsTypable D b m → IsFunctionWritten D b m → NamesNoProgram m → list_any has_call (bodies (body_of D b m)) ≡ false
    none_called true t h e = free_primrec D m t h e
    none_called false t h e = free_definition D m h e

-- ---- the program and the specification

program_checks_told : (Fit : Type 0) (x : Name) (a b c d : Bool) → a ≡ false → (b ≡ false → c ≡ true → d ≡ false → Fit)
    → (Fit → (b ≡ false) × (c ≡ true) × (d ≡ false))
    → Tells (if a then Some (faults.name x) else if b || not c || d then Some faults.program else None) (Unit {0}) Fit
program_checks_told Fit x true b c d ea to back = cc ea
program_checks_told Fit x false true c d ea to back = (tt, λ s. let q = (back s).0 in cc q)
program_checks_told Fit x false false false d ea to back = (tt, λ s. let q = (back s).1 in cc q)
program_checks_told Fit x false false true true ea to back = (tt, λ s. let q = (back s).2 in cc q)
program_checks_told Fit x false false true false ea to back = (tt, to refl refl refl)

pub program_told : ProgramTold
program_told D x ts p is =
    let free = none_if (is_taken x (names_of_values D)) _ p is in
    let q = mapped (λ (k : List Ty × Ty). record { name = x; inputs = k.0; answer = k.1 })
    (option_and_then split_last (each_meant (type_meant (type_variables ts) (names_of_types D)) ts)) p free.1 in
    let name : p.name ≡ x = ap (λ (g : Program). g.name) (sym q.2) in
    program_checks_told (IsProgramFit D p) p.name (is_taken p.name (names_of_values D)) (is_some D.program) (from_one_to_eight (length p.inputs))
    (list_any has_parameter (p.answer ∷ p.inputs))
    (ap (λ (y : Name). is_taken y (names_of_values D)) name ∙ free.0)
    (λ b c d. record { first = b; inputs = c; closed = d }) (λ s. (s.first, s.inputs, s.closed))

specification_checks_told : (Fit : Type 0) (b c : Bool) → (b ≡ false → c ≡ true → Fit) → (Fit → (b ≡ false) × (c ≡ true))
    → Tells (if b || not c then Some faults.program else None) (Unit {0}) Fit
specification_checks_told Fit true c to back = (tt, λ s. let q = (back s).0 in cc q)
specification_checks_told Fit false false to back = (tt, λ s. let q = (back s).1 in cc q)
specification_checks_told Fit false true to back = (tt, to refl refl)

pub specification_told : SpecificationTold
specification_told D xs t for has shaped = by D.program refl for.program
  where
    fits : IsFit (theory [] D) t
    fits = fit (theory [] D) None [] (theory [] D).program.inputs t has.typing [] has.is.0 shaped.cases.once

    by : (o : Option Program) → D.program ≡ o → is_some o ≡ true
        → Tells (option_map_or (λ (p : Program). if is_some D.specification || not (each_put (length p.inputs) (whole_specification D t)) then Some faults.program else None) o (Some faults.program))
        (Unit {0}) (IsSpecificationFit D t)
    by None e h = cc h
    by (Some p) e h =
        let same : (theory [] D).program ≡ p = ap (λ o. unwrap_or o no_program) e in
        let calls : each_put (length (theory [] D).program.inputs) (whole_specification D t) ≡ each_put (length p.inputs) (whole_specification D t) =
        ap (λ (g : Program). each_put (length g.inputs) (whole_specification D t)) same in
        let n = length (theory [] D).program.inputs in
        let Inputs : Resolveds → Type 0 = λ ts. ts ≡ variables_on 1 n in
        specification_checks_told (IsSpecificationFit D t) (is_some D.specification) (each_put (length p.inputs) (whole_specification D t))
        (λ b c. record { first = b; calls = right_put (theory [] D) 0 n Inputs (inputs_in_order (theory [] D) 0 n) t fits (calls ∙ c) })
        (λ s. (s.first, sym calls ∙ put_right (theory [] D) 0 n Inputs (inputs_in_order (theory [] D) 0 n) t fits s.calls))
