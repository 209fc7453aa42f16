use Rattle.std.proofs.Common.{◌∙◌, sym, ap, arith, ◌<◌, length}
use Rattle.std.proofs.lemmas.List.{get_or_read}
use Rattle.tg_shared_types.specs.Marks.{is_ready}
use Rattle.tg_shared_types.specs.declared.nodes.Node.TheVariants.{Open}
use Rattle.tg_shared_types.proofs.MarkLaws.{marks_next, marks_fewer}
use Rattle.tg_shared_types.proofs.settling.mark.Goals as goal

pub returns-clause-marks : goal.returns-clause-marks
returns-clause-marks c =
    let read = get_or_read c.args.nodes.now c.args.at c.index-nodes-at.result c.requires.inside c.index-nodes-at.is Open in
    marks_next _ _ _ c.requires.marks c.requires.inside c.if-marks-at.false
    (ap (is_ready c.args.marks.now) (sym read) ∙ sym c.if-not-is_ready.ensures)

pub returns-clause-fewer : goal.returns-clause-fewer
returns-clause-fewer c =
    let h : c.args.at < length c.args.marks.now = omega (arith, c.requires.inside, c.requires.marks.long) in
    omega (arith, marks_fewer c.args.marks.now c.args.at h c.if-marks-at.false)
