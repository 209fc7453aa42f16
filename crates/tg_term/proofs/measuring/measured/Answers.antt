use Rattle.std.proofs.Common.{◌≡◌, ◌+◌, ◌-◌, max, Some, ap, sym, ◌∙◌, arith}
use Rattle.std.specs.Prelude.{slice_get, option_map}
use Rattle.tg_term.specs.Measures.{counted}
use Rattle.tg_term.specs.Parts.{seen, parts}
use Rattle.tg_term.specs.View.{tree}
use Rattle.tg_term.proofs.MeasureLaws.{leads_first, leads_on, leads_end}
use Rattle.tg_term.proofs.measuring.measured.Goals as goal

pub loop-at-init : goal.loop-at-init
loop-at-init c = rw c.own_range-loose_range.ensures (leads_first _)

pub loop-at-preserved : goal.loop-at-preserved
loop-at-preserved c =
    let e : slice_get (parts (tree c.args.node.now)) c.loop-at.at ≡ Some (seen c.in-Some.part) = sym c.part_at.ensures ∙ ap (option_map seen) c.in-Some.is in
    leads_on _ _ _ _ _ _ _ _ _ e c.loop-at.invariant
    (c.saturating_add-nodes.ensures ∙ ap (λ n. counted (c.loop-at.nodes + n)) c.nodes.ensures)
    (c.max-height.ensures ∙ ap (λ n. max c.loop-at.height (n + 1)) c.height.ensures.is)
    (c.max-loose_range.ensures ∙ ap (max c.loop-at.loose_range) (c.saturating_sub-range.ensures ∙ (λ i. c.loose_range.ensures i - c.from.ensures i)))

pub returns : goal.returns
returns c = leads_end _ _ _ _ _ (omega (arith, c.loop-at-test.false, c.part_count-at-end.ensures)) c.loop-at.invariant
