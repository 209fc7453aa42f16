use Rattle.std.proofs.Common.{◌≡◌, ◌∙◌, map, Some, None, sym, ap, subst, rules}
use Rattle.tg_accept.specs.Declared.{with_program}
use Rattle.tg_accept.specs.Faults.{program_fault}
use Rattle.tg_accept.specs.Raw as raw
use Rattle.tg_accept.specs.Theories.{checks_of}
use Rattle.tg_theory.specs.Causes.{IsCause}
use Rattle.tg_infer.specs.Refused.{IsFirst}
use Rattle.tg_infer.specs.Signatures.{IsSignatureMade, seen_signature, value_meant}
use Rattle.tg_infer.specs.Words.{HaveProgram, values_in}
use Rattle.tg_infer.specs.View.{raw_type}
use Rattle.tg_infer.proofs.ProgramLaws.{MeansProgram, program_of, program_cause, program_declared}
use Rattle.tg_infer.proofs.programs.declare_program.Goals as goal

pub set_program-requires-clause-meant : goal.set_program-requires-clause-meant
set_program-requires-clause-meant c =
    let s = seen_signature c.in-Some.signature in
    let answer : IsSignatureMade c.declarations.result.now s = search rules in
    let made : IsSignatureMade c.args.builder.now s = subst (λ d. IsSignatureMade d s) c.declarations.ensures.declared answer in
    record { params = c.in-Some.signature.params; types = made }

pub returns-in-Ok-clause-declared : goal.returns-in-Ok-clause-declared
returns-in-Ok-clause-declared c =
    let D = c.args.builder.now in
    let w = c.args.words.now in
    let ts = map raw_type c.args.tys.now in
    let s = seen_signature c.in-Some.signature in
    let answer : IsSignatureMade c.declarations.result.now s = search rules in
    let made : IsSignatureMade D s = subst (λ d. IsSignatureMade d s) c.declarations.ensures.declared answer in
    let is : Some s ≡ value_meant w.types (values_in w) c.args.name.now ts = search rules in
    let m : MeansProgram D w c.args.name.now ts s = record { words = c.requires.words; is = is } in
    let name : c.in_ok-clone.field-0 ≡ c.args.name.now = search rules in
    let free : program_fault D (program_of c.args.name.now s) ≡ None = ap (λ x. program_fault D (program_of x s)) (sym name) ∙ c.in-Ok.ensures.right in
    let new : c.set_program.new.self ≡ with_program D (program_of c.args.name.now s) = c.in-Ok.ensures.added ∙ ap (λ x. with_program D (program_of x s)) name in
    let word : c.in_ok-word.word ≡ c.args.name.now = search rules in
    let named : HaveProgram w c.set_program-in-Ok.new.self c.args.name.now = subst (HaveProgram w c.set_program-in-Ok.new.self) word c.set_program-in-Ok.ensures in
    program_declared D w c.args.name.now ts s m made c.set_program.new.self c.set_program-in-Ok.new.self free new named

pub returns-in-Err-clause-cause : goal.returns-in-Err-clause-cause
returns-in-Err-clause-cause c =
    let D = c.args.builder.now in
    let w = c.args.words.now in
    let ts = map raw_type c.args.tys.now in
    let s = seen_signature c.in-Some.signature in
    let answer : IsSignatureMade c.declarations.result.now s = search rules in
    let made : IsSignatureMade D s = subst (λ d. IsSignatureMade d s) c.declarations.ensures.declared answer in
    let is : Some s ≡ value_meant w.types (values_in w) c.args.name.now ts = search rules in
    let m : MeansProgram D w c.args.name.now ts s = record { words = c.requires.words; is = is } in
    let name : c.in_ok-clone.field-0 ≡ c.args.name.now = search rules in
    let cause : IsCause (program_fault D (program_of c.args.name.now s)) c.in-Err.error =
    subst (λ x. IsCause (program_fault D (program_of x s)) c.in-Err.error) name c.in-Err.ensures.cause in
    subst (IsFirst (checks_of D (raw.program c.args.name.now ts))) (sym c.from.ensures)
    (program_cause D w c.args.name.now ts s m made c.in-Err.error cause)
