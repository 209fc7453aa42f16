use Rattle.std.proofs.Common.{length, sym, ◌∙◌, arith}
use Rattle.std.proofs.lemmas.Bool.{eqb-true}
use Rattle.tg_solver.proofs.WalkLaws.{worth_all, worth_greatest}
use Rattle.tg_solver.proofs.walking.first_worth.Goals as goal

pub returns-then-most-from : goal.returns-then-most-from
returns-then-most-from c = λ test vars s.
    worth_greatest test c.args.greatest c.args.most c.from-then-most-from.result vars s c.args.rest.now
    (eqb-true (length c.args.rest.now) 0 (sym c.is_empty.ensures ∙ c.if-is_empty.true)) (omega arith) (omega arith)

pub returns-else-is_empty : goal.returns-else-is_empty
returns-else-is_empty c = λ test vars s. worth_all test c.args.greatest c.args.most vars s c.args.rest.now
