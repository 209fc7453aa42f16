use Rattle.std.proofs.Common.{ℕ, ◌≡◌, ◌∙◌, Option, Some, sym, ap, subst}
use Rattle.tg_accept.specs.Standing.{IsAnswer}
use Rattle.tg_tables.specs.Rows.{entry_of}
use Rattle.tg_cert.specs.Lines.{Optional, IsRowOf}
use Rattle.tg_cert.proofs.RowLaws.{row_none, row_found}
use Rattle.tg_cert.proofs.lines.row_of.Goals as goal

pub returns-in_err-place : goal.returns-in_err-place
returns-in_err-place c =
    let named : c.args.word.now ≡ Some c.bytes.result.now = c.in-Some.is ∙ ap Some (sym c.bytes.ensures) in
    subst (λ (o : Option (Option ℕ)). IsAnswer (Optional IsRowOf c.args.word.now) o) (sym c.from_residual.ensures)
    (row_none c.schemas-rows.result c.schemas-rows.ensures c.args.word.now c.bytes.result.now named c.find.result c.find.ensures.exact c.in_err-place.was)

pub returns : goal.returns
returns c =
    let named : c.args.word.now ≡ Some c.bytes.result.now = c.in-Some.is ∙ ap Some (sym c.bytes.ensures) in
    row_found c.schemas-rows.result c.schemas-rows.ensures c.args.word.now c.bytes.result.now named c.find.result c.find.ensures.exact c.in_ok-place.place
    (entry_of c.get.result.now) c.in_ok-place.was c.get.ensures
