use Rattle.std.proofs.Common.{◌≡◌, true, false, map, IfErr, subst, rules}
use Rattle.tg_accept.specs.Raw as raw
use Rattle.tg_accept.specs.Theories.{checks_of}
use Rattle.tg_infer.specs.Refused.{IsFirst}
use Rattle.tg_infer.specs.View.{raw_type, raw_term, raw_constructor, raw_equation, raw_declaration}
use Rattle.tg_infer.proofs.elaborating.declare.Goals as goal

pub returns-in-Datatype-clause-cause : goal.returns-in-Datatype-clause-cause
returns-in-Datatype-clause-cause c =
    let e : raw.datatype c.in-Datatype.name c.as_slice.result.now (map raw_constructor c.as_slice-in-Datatype.result.now) ≡ raw_declaration c.args.decl.now = search rules in
    subst (λ d. IfErr c.declare_datatype.result (IsFirst (checks_of c.args.builder.now d))) e c.declare_datatype.ensures.cause

pub returns-in-Primrec-clause-cause : goal.returns-in-Primrec-clause-cause
returns-in-Primrec-clause-cause c =
    let e : raw.primrec c.in-Primrec.name (map raw_type c.as_slice-in-Primrec.result.now) (map raw_equation c.as_slice-in-Primrec-2.result.now) ≡ raw_declaration c.args.decl.now = search rules in
    subst (λ d. IfErr c.declare_function.result (IsFirst (checks_of c.args.builder.now d))) e c.declare_function.ensures.cause

pub returns-in-Definition-clause-cause : goal.returns-in-Definition-clause-cause
returns-in-Definition-clause-cause c =
    let e : raw.definition c.in-Definition.name (map raw_type c.as_slice-in-Definition.result.now) (map raw_equation c.as_slice-in-Definition-2.result.now) ≡ raw_declaration c.args.decl.now = search rules in
    subst (λ d. IfErr c.declare_function-in-Definition.result (IsFirst (checks_of c.args.builder.now d))) e c.declare_function-in-Definition.ensures.cause

pub returns-in-Program-clause-cause : goal.returns-in-Program-clause-cause
returns-in-Program-clause-cause c =
    let e : raw.program c.in-Program.name (map raw_type c.as_slice-in-Program.result.now) ≡ raw_declaration c.args.decl.now = search rules in
    subst (λ d. IfErr c.declare_program.result (IsFirst (checks_of c.args.builder.now d))) e c.declare_program.ensures.cause

pub returns-in-Spec-clause-cause : goal.returns-in-Spec-clause-cause
returns-in-Spec-clause-cause c =
    let e : raw.specification c.as_slice-in-Spec.result.now (raw_term c.in-Spec.body) ≡ raw_declaration c.args.decl.now = search rules in
    subst (λ d. IfErr c.declare_specification.result (IsFirst (checks_of c.args.builder.now d))) e c.declare_specification.ensures.cause
