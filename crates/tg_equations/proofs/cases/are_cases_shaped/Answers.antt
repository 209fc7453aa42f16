use Rattle.std.proofs.Common.{[]}
use Rattle.tg_accept.specs.Declared.{theory}
use Rattle.tg_typing.specs.View.{resolved}
use Rattle.tg_equations.proofs.CheckedLaws.{cases_shaped}
use Rattle.tg_equations.proofs.cases.are_cases_shaped.Goals as goal

pub returns : goal.returns
returns c = cases_shaped (theory [] c.args.declared.now) (resolved c.args.t.now) c.in_ok-shaped.shaped c.in_ok-shaped.ensures
