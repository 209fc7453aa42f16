use Rattle.std.proofs.Common.{Some, map, option_map, ap, sym, ◌∙◌}
use Rattle.tg_types.specs.Types.{ty}
use Rattle.tg_solver.specs.Numbers.{is_truth}
use Rattle.tg_solver.proofs.DataLaws.{of_class}
use Rattle.tg_solver.proofs.data.datum.Goals as goal

pub returns-in-Some : goal.returns-in-Some
returns-in-Some c =
    of_class c.args.th.now.name c.declarations.result.now c.args.th.now c.args.c.now c.args.s.now c.args.index c.as_slice-2.result.now c.as_slice-3.result.now _
    c.declarations.ensures.named (c.as_slice-2.ensures.value ∙ c.in_ok-truths.ensures ∙ ap (map (λ t. is_truth (ty t))) c.as_slice.ensures) c.as_slice-3.ensures
    (ap Some (c.in_ok-plain_all-in-Some.ensures ∙ c.as_slice-in-Some.ensures.value) ∙ sym (ap (option_map (λ vs. vs.items)) c.in-Some.is) ∙ c.in_ok-found.ensures)

pub returns : goal.returns
returns c =
    of_class c.args.th.now.name c.declarations.result.now c.args.th.now c.args.c.now c.args.s.now c.args.index c.as_slice-2.result.now c.as_slice-3.result.now _
    c.declarations.ensures.named (c.as_slice-2.ensures.value ∙ c.in_ok-truths.ensures ∙ ap (map (λ t. is_truth (ty t))) c.as_slice.ensures) c.as_slice-3.ensures
    (sym (ap (option_map (λ vs. vs.items)) c.in-None.is) ∙ c.in_ok-found.ensures)
