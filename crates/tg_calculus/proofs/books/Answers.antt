use Rattle.tg_calculus.proofs.BookLaws.{books_derive, derivable_ends_book, concludes_exactly}
use Rattle.tg_calculus.proofs.Reading.{one_book, one_refusal, never_both, passes_or_is_refused}
use Rattle.tg_calculus.proofs.books.Goals as goal

pub returns-clause-lines : goal.returns-clause-lines
returns-clause-lines c = concludes_exactly

pub returns-clause-derivable : goal.returns-clause-derivable
returns-clause-derivable c = books_derive

pub returns-clause-ends : goal.returns-clause-ends
returns-clause-ends c = derivable_ends_book

pub returns-clause-one : goal.returns-clause-one
returns-clause-one c = one_book

pub returns-clause-refusal : goal.returns-clause-refusal
returns-clause-refusal c = one_refusal

pub returns-clause-apart : goal.returns-clause-apart
returns-clause-apart c = never_both

pub returns-clause-either : goal.returns-clause-either
returns-clause-either c = passes_or_is_refused
