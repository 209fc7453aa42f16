use Rattle.std.proofs.Common.{rules, ◌≡◌, ◌++◌, ◌∷◌, [], ◌∙◌, List, Option, Some, None, map, length, refl, sym, ap, subst}
use Rattle.std.specs.Prelude.{option_map}
use Rattle.tg_calculus.specs.Book.{IsBook, IsInstance, sequents}
use Rattle.tg_kernel.specs.Books.{Book, IsAppended, IsNone}
use Rattle.tg_kernel.specs.Entries.{entry, book_of, Concludes}
use Rattle.tg_kernel.specs.Rules.{as_line}
use Rattle.tg_kernel.specs.Sequents.{sequent}
use Rattle.tg_kernel.specs.declared.concluding.Entry.{Entry}
use Rattle.tg_kernel.specs.declared.sequents.Sequent.{Sequent}
use Rattle.tg_kernel.proofs.BookLaws.{done, book_more, appended_is}
use Rattle.tg_kernel.proofs.books.Book.try_step.Goals as goal

pub invariant_of-self-in-Some : goal.invariant_of-self-in-Some
invariant_of-self-in-Some c =
    let e : Entry = record { line = c.args.line; sequent = c.in-Some.sequent } in
    let i : IsInstance c.self.inside.theory.now (done c.as_slice.result.now) (as_line c.args.line) (sequent c.in-Some.sequent) =
    subst (λ (o : Option Sequent). Concludes c.self.inside.theory.now (map entry c.as_slice.result.now) (as_line c.args.line) (option_map sequent o))
    c.in-Some.is c.in_ok-sequent.ensures in
    let j : IsInstance c.self.inside.theory.now (done c.self.inside.entries.items) (as_line c.args.line) (sequent c.in-Some.sequent) =
    subst (λ (es : List Entry). IsInstance c.self.inside.theory.now (done es) (as_line c.args.line) (sequent c.in-Some.sequent)) c.as_slice.ensures.value i in
    subst (λ (es : List Entry). IsBook c.self.inside.theory.now (map entry es)) (sym c.in_ok-append-in-Some.ensures.ok)
    (book_more c.self.inside.theory.now c.self.inside.entries.items (as_line c.args.line) (sequent c.in-Some.sequent) e c.self.invariant j refl refl)

pub returns-in_ok-append-in-Some-clause-ok : goal.returns-in_ok-append-in-Some-clause-ok
returns-in_ok-append-in-Some-clause-ok c =
    let e : Entry = record { line = c.args.line; sequent = c.in-Some.sequent } in
    let i : IsInstance c.self.inside.theory.now (done c.as_slice.result.now) (as_line c.args.line) (sequent c.in-Some.sequent) =
    subst (λ (o : Option Sequent). Concludes c.self.inside.theory.now (map entry c.as_slice.result.now) (as_line c.args.line) (option_map sequent o))
    c.in-Some.is c.in_ok-sequent.ensures in
    let j : IsInstance c.self.inside.theory.now (done c.self.inside.entries.items) (as_line c.args.line) (sequent c.in-Some.sequent) =
    subst (λ (es : List Entry). IsInstance c.self.inside.theory.now (done es) (as_line c.args.line) (sequent c.in-Some.sequent)) c.as_slice.ensures.value i in
    let n : c.len.result ≡ length c.append.new.entries.items = search rules in
    subst (λ (b : Book). IsAppended b (book_of c.self.inside.theory.now c.append.new.entries.items) (as_line c.args.line) c.len.result) c.self.view_is
    (appended_is c.self.inside.theory.now c.self.inside.entries.items c.append.new.entries.items e c.len.result j c.in_ok-append-in-Some.ensures.ok n)

pub returns-in-None-clause-err : goal.returns-in-None-clause-err
returns-in-None-clause-err c =
    let n : Concludes c.self.inside.theory.now (map entry c.as_slice.result.now) (as_line c.args.line) None =
    subst (λ (o : Option Sequent). Concludes c.self.inside.theory.now (map entry c.as_slice.result.now) (as_line c.args.line) (option_map sequent o))
    c.in-None.is c.in_ok-sequent.ensures in
    let m : IsNone (book_of c.self.inside.theory.now c.self.inside.entries.items) (as_line c.args.line) =
    subst (λ (es : List Entry). IsNone (book_of c.self.inside.theory.now es) (as_line c.args.line)) c.as_slice.ensures.value n in
    (c.number.ensures, subst (λ (b : Book). IsNone b (as_line c.args.line)) c.self.view_is m)
