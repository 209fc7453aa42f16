use Rattle.std.proofs.Common.{◌≡◌, ◌+◌, max, Some, ap, ◌∙◌, arith, refl}
use Rattle.std.specs.Prelude.{slice_get, option_map}
use Rattle.std.proofs.lemmas.Option.{slice_get_read}
use Rattle.tg_model.specs.Tree.{con, trees}
use Rattle.tg_term.specs.Measures.{counted}
use Rattle.tg_term.specs.Parts.{outside, plain}
use Rattle.tg_term.proofs.MeasureLaws.{leads_first, leads_on, leads_end}
use Rattle.tg_term.proofs.PartLaws.{plain_at, plain_count}
use Rattle.tg_term.proofs.measuring.above_terms.Goals as goal

pub loop-t-init : goal.loop-t-init
loop-t-init c = leads_first (con 0 (trees c.args.ts.now))

pub loop-t-preserved : goal.loop-t-preserved
loop-t-preserved c =
    let e : slice_get (plain (trees c.args.ts.now)) c.loop-t.t-index ≡ Some (outside c.t-item.result) =
    plain_at c.args.ts.now c.loop-t.t-index ∙ ap (option_map outside) (slice_get_read c.args.ts.now _ _ c.t-item.result refl c.loop-t-test.true c.t-item.is) in
    leads_on (con 0 (trees c.args.ts.now)) _ _ _ _ _ _ _ (outside c.t-item.result) e c.loop-t.invariant
    (c.saturating_add-nodes.ensures ∙ ap (λ n. counted (c.loop-t.nodes + n)) c.nodes.ensures)
    (c.max-height.ensures ∙ ap (λ n. max c.loop-t.height (n + 1)) c.height.ensures.is)
    (omega (arith, c.max-loose_range.ensures, c.loose_range.ensures))

pub returns : goal.returns
returns c = leads_end (con 0 (trees c.args.ts.now)) _ _ _ _ (omega (arith, c.loop-t-test.false, plain_count c.args.ts.now)) c.loop-t.invariant
