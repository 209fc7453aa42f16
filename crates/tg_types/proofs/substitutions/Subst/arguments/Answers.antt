use Rattle.std.proofs.Common.{◌≡◌, length, ap, sym, ◌∙◌, subst}
use Rattle.tg_model.specs.Types.{applied}
use Rattle.tg_types.specs.Substitutions.{IsWhole}
use Rattle.tg_types.specs.Types.{ty, types, ty-App}
use Rattle.tg_types.specs.Walks.{Walk}
use Rattle.tg_types.proofs.Arguments.{count_types}
use Rattle.tg_types.proofs.PutLater.{got_arguments}
use Rattle.tg_types.proofs.substitutions.Subst.arguments.Goals as goal

pub returns-in-App-App : goal.returns-in-App-App
returns-in-App-App c =
    let same : length c.as_slice.result.now ≡ length c.as_slice-in-App-App.result.now =
    ap length c.as_slice.ensures ∙ sym c.len.ensures ∙ c.if-len.true ∙ c.len-then-d-e.ensures ∙ sym (ap length c.as_slice-in-App-App.ensures) in
    let left : applied c.in-App-App.d (types c.as_slice.result.now) ≡ ty c.args.a.now =
    ap (λ l. applied c.in-App-App.d (types l)) c.as_slice.ensures ∙ sym (ap ty c.in-App-App.is-0 ∙ ty-App _ _) in
    let right : applied c.in-App-App.e (types c.as_slice-in-App-App.result.now) ≡ ty c.args.b.now =
    ap (λ l. applied c.in-App-App.e (types l)) c.as_slice-in-App-App.ensures ∙ sym (ap ty c.in-App-App.is-1 ∙ ty-App _ _) in (
      same,
      λ r h.
          subst (λ x. Walk c.args.self.now x (ty c.args.b.now) r) left
          (subst (λ y. Walk c.args.self.now (applied c.in-App-App.d (types c.as_slice.result.now)) y r) right
          (got_arguments c.args.self.now _ _ _ _ r (subst IsWhole c.self.view_is c.self.invariant) c.if-d-e.true
          (count_types c.as_slice.result.now ∙ same ∙ sym (count_types c.as_slice-in-App-App.result.now)) h)),
    )
