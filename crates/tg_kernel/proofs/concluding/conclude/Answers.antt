use Rattle.std.proofs.Common.{rules, ◌≡◌, true, false, map, Some, None}
use Rattle.tg_calculus.specs.Book.{premises_at, sequents}
use Rattle.tg_calculus.specs.Draft.{draft}
use Rattle.tg_kernel.specs.Drafts.{drafted}
use Rattle.tg_kernel.specs.Entries.{entry}
use Rattle.tg_kernel.specs.Rules.{as_line, as_rule}
use Rattle.tg_kernel.specs.Sequents.{sequent}
use Rattle.tg_kernel.proofs.BookLaws.{no_draft, gives, gives_none}
use Rattle.tg_kernel.proofs.concluding.conclude.Goals as goal

pub returns-in_default-2 : goal.returns-in_default-2
returns-in_default-2 c =
    let e : Some (map sequent c.in-Some.ps.items) ≡ premises_at (sequents (map entry c.args.entries.now)) c.args.line.now.premises = search rules in
    let d : None ≡ draft c.args.th.now (as_rule c.args.line.now.rule) (map sequent c.in-Some.ps.items) = search rules in
    no_draft c.args.th.now (map entry c.args.entries.now) (as_line c.args.line.now) (map sequent c.in-Some.ps.items) e d

pub returns-then-not-branch : goal.returns-then-not-branch
returns-then-not-branch c =
    let e : Some (map sequent c.in-Some.ps.items) ≡ premises_at (sequents (map entry c.args.entries.now)) c.args.line.now.premises = search rules in
    let f : Some (drafted c.in-Some-2.draft) ≡ draft c.args.th.now (as_rule c.args.line.now.rule) (map sequent c.in-Some.ps.items) = search rules in
    let n : c.in_ok-are_met.field-0 ≡ false = search rules in
    gives_none c.args.th.now (map entry c.args.entries.now) (as_line c.args.line.now) (map sequent c.in-Some.ps.items) e c.in-Some-2.draft f c.in_ok-are_met.field-0
    c.in_ok-are_met.ensures c.requires n

pub returns : goal.returns
returns c =
    let e : Some (map sequent c.in-Some.ps.items) ≡ premises_at (sequents (map entry c.args.entries.now)) c.args.line.now.premises = search rules in
    let f : Some (drafted c.in-Some-2.draft) ≡ draft c.args.th.now (as_rule c.args.line.now.rule) (map sequent c.in-Some.ps.items) = search rules in
    let y : c.in_ok-are_met.field-0 ≡ true = search rules in
    gives c.args.th.now (map entry c.args.entries.now) (as_line c.args.line.now) (map sequent c.in-Some.ps.items) e c.in-Some-2.draft f c.in_ok-are_met.field-0
    c.in_ok-are_met.ensures y
