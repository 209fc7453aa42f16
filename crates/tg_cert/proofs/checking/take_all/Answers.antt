use Rattle.std.proofs.Common.{rules, ◌≡◌, ◌+◌, Bool, Some, refl, subst}
use Rattle.std.specs.Prelude.{slice_get}
use Rattle.std.proofs.lemmas.Option.{slice_get_read}
use Rattle.tg_cert.specs.Code.{Takes}
use Rattle.tg_cert.proofs.CheckLaws.{stops, goes_on}
use Rattle.tg_cert.proofs.checking.take_all.Goals as goal

pub returns-then-not-branch-clause-refused : goal.returns-then-not-branch-clause-refused
returns-then-not-branch-clause-refused c =
    let r = c.line-item.result in
    let at : slice_get c.args.lines.now c.loop-line.line-index ≡ Some r = slice_get_read c.args.lines.now _ _ r refl c.loop-line-test.true c.line-item.is in
    let is : c.in_ok-place.place ≡ c.len.result + 1 = search rules in
    stops c.args.book.now.theory c.args.lines.now c.loop-line.line-index c.loop-line.book c.takes.new.book c.loop-line.invariant r at c.in_ok-place.place
    c.len.result (subst (λ (b : Bool). Takes c.loop-line.book c.takes.new.book r b) c.if-not-branch.true c.in_ok-takes.ensures) c.len.ensures is

pub loop-line-preserved : goal.loop-line-preserved
loop-line-preserved c =
    let r = c.line-item.result in
    let at : slice_get c.args.lines.now c.loop-line.line-index ≡ Some r = slice_get_read c.args.lines.now _ _ r refl c.loop-line-test.true c.line-item.is in
    goes_on c.args.book.now.theory c.args.lines.now c.loop-line.line-index c.loop-line.book c.takes.new.book c.loop-line.invariant r at
    (subst (λ (b : Bool). Takes c.loop-line.book c.takes.new.book r b) c.if-not-branch.false c.in_ok-takes.ensures)
