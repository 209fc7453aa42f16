use Rattle.std.proofs.Common.{◌≡◌, ◌≢◌, [], Some, List, map, take, ap, subst, sym, ◌∙◌, arith, unwrap_or}
use Rattle.std.specs.Prelude.{slice_get}
use Rattle.std.proofs.lemmas.Grind.{common_steps}
use Rattle.std.proofs.lemmas.List.{take_all}
use Rattle.std.proofs.lemmas.Option.{slice_get-get_or}
use Rattle.tg_model.specs.Tree.{Tree, trees}
use Rattle.tg_model.specs.Walk.{walk}
use Rattle.tg_term.specs.Parts.{Part, IsWalked, outside, plain, term_of}
use Rattle.tg_term.proofs.PartLaws.{plain_next}
use Rattle.tg_term.proofs.WalkLaws.{walked, here, walked_plain, kept_plain}
use Rattle.tg_term.proofs.walking.walk_list.Goals as goal

pub loop-at-preserved : goal.loop-at-preserved
loop-at-preserved g c =
    let t = c.index-ts-at.result in
    let step : Part → Tree = walked (g.R.Replace.on_bound c.args.r.now) (g.R.Replace.on_free c.args.r.now) c.args.depth in
    let e : slice_get c.args.ts.now c.loop-at.at ≡ Some t =
    slice_get-get_or c.args.ts.now c.loop-at.at t (omega (arith, c.loop-at-test.true)) ∙ ap Some (sym c.index-ts-at.is) in
    let same : step (outside t) ≡ unwrap_or c.in_ok-walked.walked t =
    here _ _ c.args.depth t ∙ ap (λ r. walk (g.R.Replace.on_bound r) (g.R.Replace.on_free r) c.args.depth t) (sym c.loop-at.invariant.kept) ∙ sym c.in_ok-walked.ensures.exact in
    record {
      walked = subst (λ (l : List Part). IsWalked step l c.add_term.new.terms.items) (plain_next c.args.ts.now c.loop-at.at t e)
          (c.in_ok-add_term.ensures step same c.loop-at.invariant.walked);
      kept = c.in_ok-walked.ensures.kept ∙ c.loop-at.invariant.kept;
    }

pub returns-then-is_empty-clause-exact : goal.returns-then-is_empty-clause-exact
returns-then-is_empty-clause-exact g c =
    let step : Part → Tree = walked (g.R.Replace.on_bound c.args.r.now) (g.R.Replace.on_free c.args.r.now) c.args.depth in
    let none : c.loop-at.out.items ≡ [] = grind (arith, common_steps) in
    let all : take c.loop-at.at c.args.ts.now ≡ c.args.ts.now = take_all _ _ (omega (arith, c.loop-at-test.false)) in
    let same : map step (plain (trees c.args.ts.now)) ≡ map term_of (plain (trees c.args.ts.now)) =
    subst (λ (l : List Tree). map step (plain (trees l)) ≡ map term_of (plain (trees l))) all (c.loop-at.invariant.walked.kept none) in
    sym (kept_plain (trees c.args.ts.now)) ∙ ap trees (sym same) ∙ walked_plain _ _ c.args.depth (trees c.args.ts.now)

pub returns-clause-exact : goal.returns-clause-exact
returns-clause-exact g c =
    let step : Part → Tree = walked (g.R.Replace.on_bound c.args.r.now) (g.R.Replace.on_free c.args.r.now) c.args.depth in
    let some : c.loop-at.out.items ≢ [] = grind (arith, common_steps) in
    let all : take c.loop-at.at c.args.ts.now ≡ c.args.ts.now = take_all _ _ (omega (arith, c.loop-at-test.false)) in
    ap trees (c.from_vec.ensures ∙ c.loop-at.invariant.walked.made some ∙ ap (λ (l : List Tree). map step (plain (trees l))) all)
    ∙ walked_plain _ _ c.args.depth (trees c.args.ts.now)
