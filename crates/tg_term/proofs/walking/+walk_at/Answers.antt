use Rattle.std.proofs.Common.{◌≡◌, ◌≢◌, [], Some, List, map, take, ap, sym, ◌∙◌, arith}
use Rattle.std.specs.Prelude.{slice_get, option_map}
use Rattle.std.proofs.lemmas.Grind.{common_steps}
use Rattle.std.proofs.lemmas.List.{take_all}
use Rattle.tg_model.specs.Tree.{Tree}
use Rattle.tg_model.specs.Walk.{walk}
use Rattle.tg_term.specs.Measures.{height}
use Rattle.tg_term.specs.Parts.{Part, seen, parts, term_of, with_parts}
use Rattle.tg_term.specs.View.{tree}
use Rattle.tg_term.proofs.PartLaws.{part_lower}
use Rattle.tg_term.proofs.WalkLaws.{walked, kept_parts, walked_parts}
use Rattle.tg_term.proofs.walking.+walk_at.Goals as goal

pub walk_at-requires : goal.walk_at-requires
walk_at-requires g t c κs within =
    let node = c.node-node.result.now in
    let e : slice_get (parts (tree node)) c.loop-at.at ≡ Some (seen c.in-Some.part) = sym c.part_at.ensures ∙ ap (option_map seen) c.in-Some.is in
    let low = part_lower (tree node) c.loop-at.at (seen c.in-Some.part) e in
    let same : height (tree node) ≡ height c.args.t.now = ap height c.node-node.ensures in
    (omega (arith, c.decreases, low, same), within)

pub returns-then-is_empty : goal.returns-then-is_empty
returns-then-is_empty g t c =
    let node = c.node-node.result.now in
    let step : Part → Tree = walked (g.R.Replace.on_bound c.args.r.now) (g.R.Replace.on_free c.args.r.now) c.args.depth in
    let none : c.loop-at.terms.items ≡ [] = grind (arith, common_steps) in
    let all : take c.loop-at.at (parts (tree node)) ≡ parts (tree node) = take_all _ _ (omega (arith, c.loop-at-test.false, c.part_count-at-end.ensures)) in
    let same : map step (parts (tree node)) ≡ map term_of (parts (tree node)) =
    ap (λ (l : List Part). map step l) (sym all) ∙ c.loop-at.invariant.walked.kept none ∙ ap (λ (l : List Part). map term_of l) all in
    record {
      exact = sym c.node-node.ensures ∙ sym (kept_parts node) ∙ ap (with_parts (tree node)) (sym same)
          ∙ walked_parts _ _ c.args.depth node c.in_default.not-Bound c.in_default.not-Free
          ∙ ap (walk (g.R.Replace.on_bound c.args.r.now) (g.R.Replace.on_free c.args.r.now) c.args.depth) c.node-node.ensures;
      kept = c.loop-at.invariant.kept;
    }

pub returns : goal.returns
returns g t c =
    let node = c.node-node.result.now in
    let step : Part → Tree = walked (g.R.Replace.on_bound c.args.r.now) (g.R.Replace.on_free c.args.r.now) c.args.depth in
    let some : c.loop-at.terms.items ≢ [] = grind (arith, common_steps) in
    let all : take c.loop-at.at (parts (tree node)) ≡ parts (tree node) = take_all _ _ (omega (arith, c.loop-at-test.false, c.part_count-at-end.ensures)) in
    record {
      exact = c.in_ok-with_parts.ensures ∙ ap (with_parts (tree node)) (c.loop-at.invariant.walked.made some ∙ ap (λ (l : List Part). map step l) all)
          ∙ walked_parts _ _ c.args.depth node c.in_default.not-Bound c.in_default.not-Free
          ∙ ap (walk (g.R.Replace.on_bound c.args.r.now) (g.R.Replace.on_free c.args.r.now) c.args.depth) c.node-node.ensures;
      kept = c.loop-at.invariant.kept;
    }
