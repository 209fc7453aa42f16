use Rattle.std.proofs.Common.{◌≡◌, ◌∙◌, List, Some, sym, ap, subst}
use Rattle.tg_model.specs.Theory.{numbered}
use Rattle.tg_calculus.specs.Book.{sequents}
use Rattle.tg_calculus.specs.Derivation.{Derives}
use Rattle.tg_calculus.proofs.TrueOnTables.{derivable_is_true}
use Rattle.tg_kernel.specs.Books.{Book, IsTrueEverywhere}
use Rattle.tg_kernel.specs.Entries.{entry}
use Rattle.tg_kernel.specs.Sequents.{sequent}
use Rattle.tg_kernel.specs.declared.concluding.Entry.{Entry}
use Rattle.tg_kernel.proofs.BookLaws.{done, found_earlier, line_derives}
use Rattle.tg_kernel.proofs.books.Book.sequent.Goals as goal

pub returns-clause-value : goal.returns-clause-value
returns-clause-value c =
    let g : numbered c.self.inside.entries.items c.args.t.0 ≡ Some c.entry_at.result.now =
    ap (λ (es : List Entry). numbered es c.args.t.0) (sym c.as_slice.ensures.value) ∙ c.entry_at.ensures in
    ap (λ (b : Book). numbered (sequents b.entries) c.args.t.0) (sym c.self.view_is)
    ∙ sym (found_earlier c.self.inside.entries.items c.args.t.0 c.entry_at.result.now (sym g))

pub returns-clause-derivable : goal.returns-clause-derivable
returns-clause-derivable c =
    let g : numbered c.self.inside.entries.items c.args.t.0 ≡ Some c.entry_at.result.now =
    ap (λ (es : List Entry). numbered es c.args.t.0) (sym c.as_slice.ensures.value) ∙ c.entry_at.ensures in
    subst (λ (b : Book). Derives b.theory (sequent c.entry_at.result.now.sequent)) c.self.view_is
    (line_derives _ _ c.args.t.0 (sequent c.entry_at.result.now.sequent) c.self.invariant
    (sym (found_earlier c.self.inside.entries.items c.args.t.0 c.entry_at.result.now (sym g))))

pub returns-clause-truth : goal.returns-clause-truth
returns-clause-truth c =
    let g : numbered c.self.inside.entries.items c.args.t.0 ≡ Some c.entry_at.result.now =
    ap (λ (es : List Entry). numbered es c.args.t.0) (sym c.as_slice.ensures.value) ∙ c.entry_at.ensures in
    subst (λ (b : Book). IsTrueEverywhere b.theory (sequent c.entry_at.result.now.sequent)) c.self.view_is
    (derivable_is_true c.self.inside.theory.now c.accepted.ensures.accepted (sequent c.entry_at.result.now.sequent)
    (line_derives c.self.inside.theory.now _ c.args.t.0 (sequent c.entry_at.result.now.sequent) c.self.invariant
    (sym (found_earlier c.self.inside.entries.items c.args.t.0 c.entry_at.result.now (sym g)))))
