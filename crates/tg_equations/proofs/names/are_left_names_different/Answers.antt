use Rattle.std.proofs.Common.{◌≡◌, ◌∙◌, true, false, [], Some, refl, sym, ap, subst, rules}
use Rattle.std.specs.Prelude.{slice_get, option_map}
use Rattle.std.proofs.lemmas.Option.{slice_get_read, slice_get-map}
use Rattle.tg_equations.specs.Checked.{names_in, Takes}
use Rattle.tg_equations.specs.View.{pattern, patterns}
use Rattle.tg_equations.proofs.DifferentLaws.{left_next, left_stop}
use Rattle.tg_equations.proofs.names.are_left_names_different.Goals as goal

pub returns-then-not-branch : goal.returns-then-not-branch
returns-then-not-branch c =
    let p : slice_get c.args.ps.now c.loop-p.p-index ≡ Some c.p-item.result = slice_get_read c.args.ps.now _ _ c.p-item.result refl c.loop-p-test.true c.p-item.is in
    let at : slice_get (patterns c.args.ps.now) c.loop-p.p-index ≡ Some (pattern c.p-item.result) = slice_get-map pattern c.args.ps.now c.loop-p.p-index ∙ ap (option_map pattern) p in
    let taken : c.in_ok-take_pattern.field-0 ≡ false = search rules in
    sym (left_stop [] c.loop-p.seen.keys c.take_pattern.new.seen.keys (patterns c.args.ps.now) c.loop-p.p-index (pattern c.p-item.result) at c.loop-p.invariant
    (subst (Takes c.loop-p.seen.keys c.take_pattern.new.seen.keys (names_in (pattern c.p-item.result))) taken c.in_ok-take_pattern.ensures))

pub loop-p-preserved : goal.loop-p-preserved
loop-p-preserved c =
    let p : slice_get c.args.ps.now c.loop-p.p-index ≡ Some c.p-item.result = slice_get_read c.args.ps.now _ _ c.p-item.result refl c.loop-p-test.true c.p-item.is in
    let at : slice_get (patterns c.args.ps.now) c.loop-p.p-index ≡ Some (pattern c.p-item.result) = slice_get-map pattern c.args.ps.now c.loop-p.p-index ∙ ap (option_map pattern) p in
    let free : c.in_ok-take_pattern.field-0 ≡ true = search rules in
    left_next [] c.loop-p.seen.keys c.take_pattern.new.seen.keys (patterns c.args.ps.now) c.loop-p.p-index (pattern c.p-item.result) at c.loop-p.invariant
    (subst (Takes c.loop-p.seen.keys c.take_pattern.new.seen.keys (names_in (pattern c.p-item.result))) free c.in_ok-take_pattern.ensures)
