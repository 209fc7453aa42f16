use Rattle.std.proofs.Common.{◌≡◌, ◌∙◌, true, false, take, Some, refl, sym, ap, subst, rules, arith}
use Rattle.std.specs.Prelude.{slice_get, option_map}
use Rattle.std.proofs.lemmas.List.{take_all, length-map}
use Rattle.std.proofs.lemmas.Option.{slice_get_read, slice_get-map}
use Rattle.tg_accept.specs.Core.{same_head}
use Rattle.tg_typing.specs.View.{head}
use Rattle.tg_typing.specs.declared.resolved.Branch.{Branch}
use Rattle.tg_equations.specs.Checked.{are_different}
use Rattle.tg_equations.specs.Placed.{ArePlaces}
use Rattle.tg_equations.proofs.CheckedLaws.{branch_heads, heads_seen, once_next, once_stop}
use Rattle.tg_equations.proofs.PlaceLaws.{placed_next}
use Rattle.tg_equations.proofs.cases.places_once.Goals as goal

pub loop-at-preserved : goal.loop-at-preserved
loop-at-preserved c =
    let b : slice_get c.args.bs.now c.loop-at.at ≡ Some c.index-bs-at.result = slice_get_read c.args.bs.now _ _ c.index-bs-at.result refl c.loop-at-test.true c.index-bs-at.is in
    let at : slice_get (branch_heads c.args.bs.now) c.loop-at.at ≡ Some (head c.index-bs-at.result.head) =
    slice_get-map (λ (x : Branch). head x.head) c.args.bs.now c.loop-at.at ∙ ap (option_map (λ (x : Branch). head x.head)) b in
    let free : c.in_ok-note.field-0 ≡ true = search rules in
    record {
      different = once_next (branch_heads c.args.bs.now) c.loop-at.at (head c.index-bs-at.result.head) c.loop-at.places c.in_ok-note.field-0 at c.in_ok-note.ensures.free
          c.loop-at.invariant.places free c.loop-at.invariant.different;
      places = placed_next (λ h x. same_head x h) (branch_heads c.args.bs.now) c.loop-at.at (head c.index-bs-at.result.head) at c.loop-at.places c.note.new.self
          (head c.index-bs-at.result.head) (λ h. refl) c.loop-at.invariant.places c.in_ok-note.ensures.noted;
    }

pub returns-then-not-branch : goal.returns-then-not-branch
returns-then-not-branch c =
    let b : slice_get c.args.bs.now c.loop-at.at ≡ Some c.index-bs-at.result = slice_get_read c.args.bs.now _ _ c.index-bs-at.result refl c.loop-at-test.true c.index-bs-at.is in
    let at : slice_get (branch_heads c.args.bs.now) c.loop-at.at ≡ Some (head c.index-bs-at.result.head) =
    slice_get-map (λ (x : Branch). head x.head) c.args.bs.now c.loop-at.at ∙ ap (option_map (λ (x : Branch). head x.head)) b in
    let taken : c.in_ok-note.field-0 ≡ false = search rules in
    ap (are_different same_head) (sym (heads_seen c.args.bs.now))
    ∙ once_stop (branch_heads c.args.bs.now) c.loop-at.at (head c.index-bs-at.result.head) c.loop-at.places c.in_ok-note.field-0 at c.in_ok-note.ensures.free
    c.loop-at.invariant.places taken

pub returns : goal.returns
returns c =
    let full : take c.loop-at.at (branch_heads c.args.bs.now) ≡ branch_heads c.args.bs.now =
    take_all c.loop-at.at (branch_heads c.args.bs.now) (let l = length-map c.args.bs.now (λ (x : Branch). head x.head) in omega (arith, c.loop-at-test.false, l)) in (
      ap (are_different same_head) (sym (full ∙ heads_seen c.args.bs.now)) ∙ c.loop-at.invariant.different,
      subst (ArePlaces c.loop-at.places) (full ∙ heads_seen c.args.bs.now) c.loop-at.invariant.places,
    )
