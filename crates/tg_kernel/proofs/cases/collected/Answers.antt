use Rattle.std.proofs.Common.{◌≡◌, ◌+◌, [], drop, length, ◌≤◌, arith}
use Rattle.std.proofs.lemmas.List.{drop_all}
use Rattle.tg_kernel.proofs.CaseLaws.{all_end}
use Rattle.tg_kernel.proofs.cases.collected.Goals as goal

pub returns : goal.returns
returns c =
    all_end c.args.vars.now c.args.n c.loop-i.all _ (c.args.first + c.loop-i.i) c.loop-i.i c.args.cases.now c.args.ps.now
    (drop_all c.loop-i.i c.args.ps.now c.loop-i-test.false) c.loop-i.invariant
