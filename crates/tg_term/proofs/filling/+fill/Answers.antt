use Rattle.std.proofs.Common.{map, ◌∙◌, ap, sym}
use Rattle.std.proofs.lemmas.List.{take_all}
use Rattle.tg_model.specs.Filling.{filled_term}
use Rattle.tg_term.specs.Values.{value}
use Rattle.tg_term.proofs.ValueLists.{fill_trees}
use Rattle.tg_term.proofs.filling.+fill.Goals as goal

pub fill_terms-returns : goal.fill_terms-returns
fill_terms-returns t c = c.loop-t.invariant
    ∙ ap (map (filled_term (map value c.args.vs.now))) (take_all c.loop-t.t-index c.args.ts.now c.loop-t-test.false)
    ∙ sym (fill_trees (map value c.args.vs.now) c.args.ts.now)
