use Rattle.std.proofs.Common.{sym, ◌∙◌}
use Rattle.tg_typing.specs.Contexts.{theory_in}
use Rattle.tg_typing.proofs.CaseNodes.{case_of_nat, case_of_data}
use Rattle.tg_typing.proofs.cases.open_case.Goals as goal

pub returns-then-n-eq0 : goal.returns-then-n-eq0
returns-then-n-eq0 c =
    case_of_nat (theory_in c.args.context.now) c.args.n c.in-Some.count c.args.table.now c.open_nodes.new.table c.push.new.self c.in_ok-us.us
    c.in_ok-whole.whole c.if-n-eq0.true (sym c.parameters.ensures ∙ c.in-Some.is) c.in_ok-us.ensures c.in_ok-whole.ensures.table c.in_ok-whole.ensures.ok
    c.in_ok-whole.ensures.place

pub returns : goal.returns
returns c =
    case_of_data (theory_in c.args.context.now) c.args.n c.in-Some.count c.args.table.now c.open_nodes.new.table c.push-2.new.self c.in_ok-us.us
    c.in_ok-args.args c.in_ok-whole-2.whole c.if-n-eq0.false (sym c.parameters.ensures ∙ c.in-Some.is) c.in_ok-us.ensures c.in_ok-whole-2.ensures.table
    (c.in_ok-args.ensures ∙ c.as_slice.ensures) c.in_ok-whole-2.ensures.ok c.in_ok-whole-2.ensures.place
