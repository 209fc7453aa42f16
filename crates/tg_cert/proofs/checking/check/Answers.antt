use Rattle.tg_kernel.specs.Sequents.{sequent}
use Rattle.tg_cert.specs.Code.{AreChecked}
use Rattle.tg_cert.proofs.CheckLaws.{proves, derives, is_true, refuses, checked_for, ok_map, err_map}
use Rattle.tg_cert.proofs.checking.check.Goals as goal

pub returns-clause-proves : goal.returns-clause-proves
returns-clause-proves c =
    let checked : AreChecked c.args.th.now c.args.raw.now.lines c.take_all.new.book =
    checked_for _ _ _ _ c.take_all.new.book c.new-book.ensures.theory c.as_slice.ensures c.in_ok-take_all.ensures.checked in
    ok_map _ _ c.last.result (λ s h. proves c.args.th.now c.args.raw.now.lines c.take_all.new.book checked (sequent s) h) c.last.ensures.last

pub returns-clause-refused : goal.returns-clause-refused
returns-clause-refused c =
    let checked : AreChecked c.args.th.now c.args.raw.now.lines c.take_all.new.book =
    checked_for _ _ _ _ c.take_all.new.book c.new-book.ensures.theory c.as_slice.ensures c.in_ok-take_all.ensures.checked in
    err_map _ _ c.last.result (λ e w. refuses c.args.th.now c.args.raw.now.lines c.take_all.new.book checked e w) c.last.ensures.none

pub returns-clause-derivable : goal.returns-clause-derivable
returns-clause-derivable c =
    let checked : AreChecked c.args.th.now c.args.raw.now.lines c.take_all.new.book =
    checked_for _ _ _ _ c.take_all.new.book c.new-book.ensures.theory c.as_slice.ensures c.in_ok-take_all.ensures.checked in
    ok_map _ _ c.last.result (λ s h. derives c.args.th.now c.args.raw.now.lines c.take_all.new.book checked (sequent s) h) c.last.ensures.derivable

pub returns-clause-truth : goal.returns-clause-truth
returns-clause-truth c =
    let checked : AreChecked c.args.th.now c.args.raw.now.lines c.take_all.new.book =
    checked_for _ _ _ _ c.take_all.new.book c.new-book.ensures.theory c.as_slice.ensures c.in_ok-take_all.ensures.checked in
    ok_map _ _ c.last.result (λ s h. is_true c.args.th.now c.args.raw.now.lines c.take_all.new.book checked (sequent s) h) c.last.ensures.truth
