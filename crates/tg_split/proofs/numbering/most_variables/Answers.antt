use Rattle.std.proofs.Common.{◌≤◌, get_or, length, take, subst, arith, sym}
use Rattle.std.proofs.lemmas.List.{take_all}
use Rattle.std.proofs.lemmas.List.Elements.{All-more, All-weaker, All-same}
use Rattle.tg_split.specs.declared.numbering.Part.{Part}
use Rattle.tg_split.proofs.numbering.most_variables.Goals as goal
use Rattle.tg_split.proofs.numbering.most_variables.Goals.{then-most-count, else-most-count}

pub loop-part-preserved : goal.loop-part-preserved
loop-part-preserved c =
    let P : Part → Type 0 = λ p. length p.vars ≤ c.if-most-count.most in
    let Q : Part → Type 0 = λ p. length p.vars ≤ c.loop-part.most in
    let this : Part = c.part-item.result in
    let enough : length this.vars ≤ c.if-most-count.most = elim c.if-most-count.branch [
      | then-most-count w ↦ omega (arith, w.most-is, c.len-count.ensures)
      | else-most-count w ↦ omega (arith, w.most-is, w.if-most-count.false, c.len-count.ensures)
    ] in
    let grows : c.loop-part.most ≤ c.if-most-count.most = elim c.if-most-count.branch [
      | then-most-count w ↦ omega (arith, w.most-is, w.if-most-count.true)
      | else-most-count w ↦ omega (arith, w.most-is)
    ] in
    let here : P (get_or c.args.parts.now c.loop-part.part-index this) = subst P c.part-item.is enough in
    All-more P c.args.parts.now c.loop-part.part-index this c.loop-part-test.true
    (All-weaker Q P (λ p h. omega (arith, h, grows)) (take c.loop-part.part-index c.args.parts.now) c.loop-part.invariant) here

pub returns : goal.returns
returns c =
    let P : Part → Type 0 = λ p. length p.vars ≤ c.loop-part.most in
    All-same P c.args.parts.now (take c.loop-part.part-index c.args.parts.now)
    (sym (take_all c.loop-part.part-index c.args.parts.now (omega (arith, c.loop-part-test.false)))) c.loop-part.invariant
