use Rattle.std.proofs.Common.{◌≡◌, [], true, false, rules}
use Rattle.tg_accept.specs.Declared.{theory}
use Rattle.tg_typing.specs.View.{branches}
use Rattle.tg_equations.proofs.CheckedLaws.{branches_missing, branches_unnamed, branches_named}
use Rattle.tg_equations.proofs.cases.are_branches.Goals as goal

pub returns-then-not-branch : goal.returns-then-not-branch
returns-then-not-branch c =
    let no : c.in_ok-has_all.field-0 ≡ false = search rules in
    branches_missing (theory [] c.args.checks.now.declared.now) c.args.n (branches c.args.bs.now) c.in_ok-places.field-0 c.in-Some.places c.in_ok-places.ensures c.in-Some.is
    c.args.checks.now.named c.in_ok-has_all.field-0 c.in_ok-has_all.ensures no

pub returns-then-not-checks : goal.returns-then-not-checks
returns-then-not-checks c =
    let yes : c.in_ok-has_all.field-0 ≡ true = search rules in
    let unnamed : c.args.checks.now.named ≡ false = search rules in
    branches_unnamed (theory [] c.args.checks.now.declared.now) c.args.n (branches c.args.bs.now) c.in_ok-places.field-0 c.in-Some.places c.in_ok-places.ensures c.in-Some.is
    c.args.checks.now.named c.in_ok-has_all.field-0 c.in_ok-has_all.ensures yes unnamed

pub returns : goal.returns
returns c =
    let yes : c.in_ok-has_all.field-0 ≡ true = search rules in
    let named : c.args.checks.now.named ≡ true = search rules in
    branches_named (theory [] c.args.checks.now.declared.now) c.args.n (branches c.args.bs.now) c.in_ok-places.field-0 c.in-Some.places c.in_ok-places.ensures c.in-Some.is
    c.args.checks.now.named c.in_ok-has_all.field-0 c.in_ok-has_all.ensures c.in_ok-different.different yes named c.in_ok-different.ensures
