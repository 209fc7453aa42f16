use Rattle.std.proofs.Common.{rules, ◌≡◌, [], Some, None}
use Rattle.tg_accept.specs.Declared.{theory}
use Rattle.tg_rows.specs.Rows.{row}
use Rattle.tg_schema.specs.Found.{term_of}
use Rattle.tg_schema.proofs.StepLaws.{step_is, step_some}
use Rattle.tg_schema.proofs.step.Goals as goal

pub returns-in_ok-build-in-Some : goal.returns-in_ok-build-in-Some
returns-in_ok-build-in-Some c =
    let e : Some (term_of c.in-Some.found) ≡ row (theory [] c.declarations.result.now) c.args.schema c.args.t.now = search rules in
    let p : c.in_ok-build-in-Some.field-0 ≡ term_of c.in-Some.found = search rules in
    step_some c.args.th.now c.declarations.result.now c.args.schema c.args.t.now c.in_ok-build-in-Some.field-0 (term_of c.in-Some.found)
    c.accepted.ensures.accepted c.declarations.ensures.named e p

pub returns-in-None : goal.returns-in-None
returns-in-None c =
    let e : None ≡ row (theory [] c.declarations.result.now) c.args.schema c.args.t.now = search rules in
    step_is c.args.th.now c.declarations.result.now c.args.schema c.args.t.now None c.accepted.ensures.accepted c.declarations.ensures.named e
