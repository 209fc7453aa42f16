use Rattle.std.proofs.Common.{◌≡◌, ◌∙◌, List, Some, sym, ap}
use Rattle.tg_model.specs.Theory.{numbered}
use Rattle.tg_calculus.specs.Book.{lines}
use Rattle.tg_kernel.specs.Books.{Book}
use Rattle.tg_kernel.specs.declared.concluding.Entry.{Entry}
use Rattle.tg_kernel.proofs.BookLaws.{found_line}
use Rattle.tg_kernel.proofs.books.Book.line.Goals as goal

pub returns : goal.returns
returns c =
    let g : numbered c.self.inside.entries.items c.args.t.0 ≡ Some c.entry_at.result.now =
    ap (λ (es : List Entry). numbered es c.args.t.0) (sym c.as_slice.ensures.value) ∙ c.entry_at.ensures in
    ap (λ (b : Book). numbered (lines b.entries) c.args.t.0) (sym c.self.view_is) ∙ found_line c.self.inside.entries.items c.args.t.0 c.entry_at.result.now g
