use Rattle.std.proofs.Common.{◌∙◌, sym}
use Rattle.std.proofs.lemmas.Result.{on_ok_weaker}
use Rattle.tg_report.proofs.TermLaws.{term_next, branch_next, choice_written, operation_written, branches_written}
use Rattle.tg_report.proofs.terms.+terms.Goals as goal

pub put_all-loop-t-preserved : goal.put_all-loop-t-preserved
put_all-loop-t-preserved t c = term_next _ _ _ _ _ _ _ _ c.loop-t-test.true c.t-item.is c.loop-t.invariant c.in_ok-put_at.ensures

pub put_more_branches-loop-at-preserved : goal.put_more_branches-loop-at-preserved
put_more_branches-loop-at-preserved t c =
    branch_next _ _ _ _ _ _ _ _ _ _ c.loop-at-test.true c.index-bs-at.is c.loop-at.invariant c.in_ok-put_token.ensures c.in_ok-put_branch.ensures

pub put_choice-returns : goal.put_choice-returns
put_choice-returns t c =
    on_ok_weaker _ (choice_written _ _ _ _ _ _ _ _ _ _ _ _ _ _ _ c.if-ts-ne3.false c.index-ts-0.is c.index-ts-1.is c.index-ts-2.is
    c.in_ok-put_token.ensures c.in_ok-put_token-2.ensures c.in_ok-put_at.ensures c.in_ok-put_token-3.ensures c.in_ok-put_at-2.ensures
    c.in_ok-put_token-4.ensures c.in_ok-put_at-3.ensures) c.put_token-5.ensures

pub put_operation-returns : goal.put_operation-returns
put_operation-returns t c =
    on_ok_weaker _ (operation_written _ _ _ _ _ _ _ _ _ _ _ _ _ c.if-ts-ne2.false c.index-ts-0.is c.index-ts-1.is
    (sym c.if-not-is_infix.false ∙ c.is_infix.ensures) c.sign-sign.ensures
    c.in_ok-put_token.ensures c.in_ok-put_at.ensures c.in_ok-put_token-2.ensures c.in_ok-put_at-2.ensures) c.put_token-3.ensures

pub put_branches-returns : goal.put_branches-returns
put_branches-returns t c =
    on_ok_weaker _ (branches_written _ _ _ _ _ _ _ _ (sym c.is_empty.ensures ∙ c.if-is_empty.false) c.index-bs-0.is
    c.in_ok-put_branch.ensures) c.put_more_branches.ensures
