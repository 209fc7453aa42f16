use Rattle.std.proofs.Common.{◌≡◌, ◌∙◌, sym, ap, subst, ◌∷◌, true, false, map, Some, rules}
use Rattle.tg_accept.specs.Datatypes.{names_in}
use Rattle.tg_declarations.specs.View.{datatype}
use Rattle.tg_accept.specs.Raw as raw
use Rattle.tg_accept.specs.Theories.{checks_of}
use Rattle.tg_infer.specs.Refused.{IsFirst}
use Rattle.tg_model.specs.Accepted.{AreDistinct}
use Rattle.tg_infer.specs.Datatypes.{datatype_in, HaveNames}
use Rattle.tg_infer.specs.Words.{values_in}
use Rattle.tg_infer.specs.View.{raw_constructor}
use Rattle.tg_accept.specs.Meant.{IsDatatypeMeant}
use Rattle.tg_infer.proofs.DatatypeLaws.{MeansDatatype, unmade_first, repeated_first, cause_first, datatype_declared, name_needed, names_needed}
use Rattle.tg_infer.proofs.datatypes.declare_datatype.Goals as goal

pub returns-then-not-is_datatype_made-clause-cause : goal.returns-then-not-is_datatype_made-clause-cause
returns-then-not-is_datatype_made-clause-cause c =
    let D = c.args.builder.now in
    let w = c.args.words.now in
    let cs = map raw_constructor c.args.cons.now in
    let is : Some (datatype c.in-Some.def) ≡ datatype_in w.types (values_in w) c.args.name.now c.args.params.now cs = search rules in
    let m : MeansDatatype D w c.args.name.now c.args.params.now cs c.in-Some.def = record { words = c.requires.words; is = is } in
    let answer : ¬ (IsDatatypeMeant c.declarations.result.now (datatype c.in-Some.def)) = search rules in
    let made : ¬ (IsDatatypeMeant D (datatype c.in-Some.def)) = subst (λ d. ¬ (IsDatatypeMeant d (datatype c.in-Some.def))) c.declarations.ensures.declared answer in
    unmade_first D w c.args.name.now c.args.params.now cs c.in-Some.def m made

pub returns-then-not-branch-clause-cause : goal.returns-then-not-branch-clause-cause
returns-then-not-branch-clause-cause c =
    let D = c.args.builder.now in
    let w = c.args.words.now in
    let cs = map raw_constructor c.args.cons.now in
    let is : Some (datatype c.in-Some.def) ≡ datatype_in w.types (values_in w) c.args.name.now c.args.params.now cs = search rules in
    let m : MeansDatatype D w c.args.name.now c.args.params.now cs c.in-Some.def = record { words = c.requires.words; is = is } in
    let answer : IsDatatypeMeant c.declarations.result.now (datatype c.in-Some.def) = search rules in
    let made : IsDatatypeMeant D (datatype c.in-Some.def) = subst (λ d. IsDatatypeMeant d (datatype c.in-Some.def)) c.declarations.ensures.declared answer in
    let repeats : ¬ (AreDistinct c.args.params.now) = search rules in
    repeated_first D w c.args.name.now c.args.params.now cs c.in-Some.def m made repeats

pub add_data-requires-clause-type_name : goal.add_data-requires-clause-type_name
add_data-requires-clause-type_name c =
    let w = c.args.words.now in
    let cs = map raw_constructor c.args.cons.now in
    let is : Some (datatype c.in-Some.def) ≡ datatype_in w.types (values_in w) c.args.name.now c.args.params.now cs = search rules in
    let m : MeansDatatype c.args.builder.now w c.args.name.now c.args.params.now cs c.in-Some.def = record { words = c.requires.words; is = is } in
    name_needed c.args.builder.now w c.args.name.now c.args.params.now cs c.in-Some.def m c.requires.named

pub add_data-requires-clause-value_names : goal.add_data-requires-clause-value_names
add_data-requires-clause-value_names c =
    let w = c.args.words.now in
    let cs = map raw_constructor c.args.cons.now in
    let is : Some (datatype c.in-Some.def) ≡ datatype_in w.types (values_in w) c.args.name.now c.args.params.now cs = search rules in
    let m : MeansDatatype c.args.builder.now w c.args.name.now c.args.params.now cs c.in-Some.def = record { words = c.requires.words; is = is } in
    names_needed c.args.builder.now w c.args.name.now c.args.params.now cs c.in-Some.def m c.requires.named

pub add_data-requires-clause-meant : goal.add_data-requires-clause-meant
add_data-requires-clause-meant c =
    let answer : IsDatatypeMeant c.declarations.result.now (datatype c.in-Some.def) = search rules in
    let made : IsDatatypeMeant c.args.builder.now (datatype c.in-Some.def) = subst (λ d. IsDatatypeMeant d (datatype c.in-Some.def)) c.declarations.ensures.declared answer in
    made

pub returns-in-Err-clause-cause : goal.returns-in-Err-clause-cause
returns-in-Err-clause-cause c =
    let D = c.args.builder.now in
    let w = c.args.words.now in
    let cs = map raw_constructor c.args.cons.now in
    let is : Some (datatype c.in-Some.def) ≡ datatype_in w.types (values_in w) c.args.name.now c.args.params.now cs = search rules in
    let m : MeansDatatype D w c.args.name.now c.args.params.now cs c.in-Some.def = record { words = c.requires.words; is = is } in
    let answer : IsDatatypeMeant c.declarations.result.now (datatype c.in-Some.def) = search rules in
    let made : IsDatatypeMeant D (datatype c.in-Some.def) = subst (λ d. IsDatatypeMeant d (datatype c.in-Some.def)) c.declarations.ensures.declared answer in
    let distinct : AreDistinct c.args.params.now = search rules in
    let first = cause_first D w c.args.name.now c.args.params.now cs c.in-Some.def m made distinct c.in-Err.error c.in-Err.ensures.cause in
    subst (IsFirst (checks_of D (raw.datatype c.args.name.now c.args.params.now cs))) (sym c.from.ensures) first

pub returns-in-Ok-clause-declared : goal.returns-in-Ok-clause-declared
returns-in-Ok-clause-declared c =
    let D = c.args.builder.now in
    let w = c.args.words.now in
    let cs = map raw_constructor c.args.cons.now in
    let is : Some (datatype c.in-Some.def) ≡ datatype_in w.types (values_in w) c.args.name.now c.args.params.now cs = search rules in
    let m : MeansDatatype D w c.args.name.now c.args.params.now cs c.in-Some.def = record { words = c.requires.words; is = is } in
    let answer : IsDatatypeMeant c.declarations.result.now (datatype c.in-Some.def) = search rules in
    let made : IsDatatypeMeant D (datatype c.in-Some.def) = subst (λ d. IsDatatypeMeant d (datatype c.in-Some.def)) c.declarations.ensures.declared answer in
    let distinct : AreDistinct c.args.params.now = search rules in
    let names : HaveNames w c.datatype_def.new.words c.args.name.now (names_in cs) = search rules in
    datatype_declared D w c.args.name.now c.args.params.now cs c.in-Some.def m made distinct c.add_data.new.self c.datatype_def.new.words
    c.in-Ok.ensures.right c.in-Ok.ensures.added names
