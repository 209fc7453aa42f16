use Rattle.std.proofs.Common.{◌≡◌, ◌+◌, ◌<◌, ◌≤◌, true, false, [], ◌∷◌, ◌++◌, length, reverse, take, get_or, suc, Some, refl, sym, ◌∙◌, ap, subst, arith}
use Rattle.std.specs.Prelude.{map, slice_get}
use Rattle.tg_model.specs.Theory.{numbered}
use Rattle.tg_model.specs.TermTyping.{Typing, Typings, ArmTypings}
use Rattle.tg_shared_types.specs.declared.nodes.Node.TheVariants.{Open, Nat, Bool}
use Rattle.tg_shared_types.specs.Nodes.{AreBelow, Fits}
use Rattle.tg_shared_types.specs.Growth.{Grows}
use Rattle.tg_shared_types.proofs.NodeLaws.{pushed_length}
use Rattle.tg_shared_types.proofs.GrowthLaws.{grows_pushed, pushed_says}
use Rattle.tg_typing.specs.View.{head, resolved, all_resolved, branches, resolved-Bound, resolved-Free, resolved-Lit, resolved-Truth}
use Rattle.tg_typing.specs.Contexts.{theory_in, self_in}
use Rattle.tg_typing.specs.Growing.{IsImpossible, Outcome}
use Rattle.tg_typing.specs.Scopes.{HasTyping, HaveTypings, HaveBranchTypings}
use Rattle.tg_typing.specs.Uses.{Frames}
use Rattle.tg_typing.specs.Frames.{IsUseOf}
use Rattle.tg_typing.specs.Cases.{OpensCase, BindsBranch}
use Rattle.tg_typing.specs.Walks.{scope_in, TypesTerm}
use Rattle.std.proofs.lemmas.List.{reverse-append}
use Rattle.tg_typing.proofs.CaseArm.{below_both, below_reverse}
use Rattle.tg_typing.proofs.FrameLaws.{if_ok}
use Rattle.tg_typing.proofs.Leaves.{get_below, bound_typed, bound_untyped, free_typed, free_untyped, literal_typed, truth_typed}
use Rattle.tg_typing.proofs.Scoped.{below_more}
use Rattle.tg_typing.proofs.ResolvedSizes.{size, branch_sizes, size_at, body_at}
use Rattle.tg_typing.proofs.WalkLaws.{longer_when, when_true, when_false, arguments_next, arguments_stop, arguments_start, arguments_end, other_arguments, ArgumentsLead, BranchesLead, used_typed, unused, no_frame, below_at, branches_next, branches_stop, branches_fail, branches_end}
use Rattle.tg_typing.proofs.WalkForms.{on_true, always, then_true, scope_on, case_is, let_is, numbered_below, read_at, take_back, case_fails, case_done, let_fails, let_done}
use Rattle.tg_typing.proofs.walking.+walk.Goals as goal

pub type_at-unite-requires-clause-left : goal.type_at-unite-requires-clause-left
type_at-unite-requires-clause-left t c =
    let e : slice_get (reverse c.args.locs.now.items) c.in-Bound.k ≡ Some c.in-Some.node =
    ap (λ l. slice_get (reverse l) c.in-Bound.k) (sym c.deref.ensures.value) ∙ sym c.bound.ensures ∙ c.in-Some.is in
    get_below (length c.args.table.now) (reverse c.args.locs.now.items) c.in-Bound.k c.in-Some.node c.requires.scope.2 e

pub type_at-unite-requires-in-Some-free-clause-left : goal.type_at-unite-requires-in-Some-free-clause-left
type_at-unite-requires-in-Some-free-clause-left t c =
    let e : numbered c.args.context.now.vars c.in-Free.n ≡ Some c.in-Some-free.node =
    ap (λ l. numbered l c.in-Free.n) (sym c.as_slice.ensures) ∙ sym c.free.ensures ∙ c.in-Some-free.is in
    numbered_below (length c.args.table.now) c.args.context.now.vars c.in-Free.n c.in-Some-free.node c.requires.scope.1 e

pub type_at-type_at-requires : goal.type_at-type_at-requires
type_at-type_at-requires t c =
    let nodes = subst (OpensCase (theory_in c.args.context.now) c.in-Case.n c.args.table.now c.open_case.new.table) c.in-Some-2.is c.in_ok-us-in-Case.ensures in
    let is = case_is c.args.t.now c.in-Case.n c.in-Case.t c.in-Case.bs c.get.result.now c.in-Case.is c.get.ensures in
    let s : size (resolved c.args.t.now) ≡ suc (size (resolved c.get.result.now) + branch_sizes (branches c.in-Case.bs)) = ap size is in (
      omega (arith, c.decreases, s),
      (c.requires.closed, (scope_on c.args.context.now c.args.locs.now.items c.args.locs.now.items (length c.args.table.now) (length c.open_case.new.table) nodes.grown.longer refl c.requires.scope, nodes.inside)),
    )

pub type_at-returns-then-not-branch : goal.type_at-returns-then-not-branch
type_at-returns-then-not-branch t c =
    let nodes = subst (OpensCase (theory_in c.args.context.now) c.in-Case.n c.args.table.now c.open_case.new.table) c.in-Some-2.is c.in_ok-us-in-Case.ensures in
    let is = case_is c.args.t.now c.in-Case.n c.in-Case.t c.in-Case.bs c.get.result.now c.in-Case.is c.get.ensures in (
      case_fails c.args.context.now c.args.locs.now.items c.args.table.now c.open_case.new.table c.in-Case.n c.in-Some-2.us c.in-Some-2.whole c.args.expected (resolved c.args.t.now) (resolved c.get.result.now)
          (branches c.in-Case.bs) is nodes c.requires.scope c.requires.expected
          (when_false c.args.context.now c.open_case.new.table c.type_at.new.table c.args.locs.now.items c.type_at.new.locs.items (resolved c.get.result.now) c.in-Some-2.whole c.in_ok-type_at-in-Case.field-0 c.if-not-branch.true c.in_ok-type_at-in-Case.ensures),
      tt,
    )

pub type_at-type_branches-requires : goal.type_at-type_branches-requires
type_at-type_branches-requires t c =
    let nodes = subst (OpensCase (theory_in c.args.context.now) c.in-Case.n c.args.table.now c.open_case.new.table) c.in-Some-2.is c.in_ok-us-in-Case.ensures in
    let is = case_is c.args.t.now c.in-Case.n c.in-Case.t c.in-Case.bs c.get.result.now c.in-Case.is c.get.ensures in
    let s : size (resolved c.args.t.now) ≡ suc (size (resolved c.get.result.now) + branch_sizes (branches c.in-Case.bs)) = ap size is in
    let late = longer_when c.args.context.now c.open_case.new.table c.type_at.new.table c.args.locs.now.items c.type_at.new.locs.items (resolved c.get.result.now) c.in-Some-2.whole c.in_ok-type_at-in-Case.field-0 c.if-not-branch.false c.in_ok-type_at-in-Case.ensures in
    let b : branch_sizes (branches c.as_slice-in-Case-2.result.now) ≡ branch_sizes (branches c.in-Case.bs) =
    ap (λ y. branch_sizes (branches y)) c.as_slice-in-Case-2.ensures in
    let l = nodes.grown.longer in (
      omega (arith, c.decreases, s, b),
      (
        c.requires.closed,
        (
          scope_on c.args.context.now c.args.locs.now.items c.type_at.new.locs.items (length c.args.table.now) (length c.type_at.new.table) (omega (arith, l, late))
              (on_true c.in_ok-type_at-in-Case.field-0 c.if-not-branch.false c.in_ok-type_at-in-Case.ensures.1) c.requires.scope,
          (
            subst (AreBelow (length c.type_at.new.table)) (sym c.as_slice-in-Case.ensures)
                (below_more (length c.open_case.new.table) (length c.type_at.new.table) c.in-Some-2.us late nodes.below),
            omega (arith, l, late, c.requires.expected),
          ),
        ),
      ),
    )

pub type_at-type_at-requires-in-Let : goal.type_at-type_at-requires-in-Let
type_at-type_at-requires-in-Let t c =
    let is = let_is c.args.t.now c.in-Let.t c.in-Let.body c.get-in-Let.result.now c.in-Let.is c.get-in-Let.ensures in
    let s : size (resolved c.args.t.now) ≡ suc (size (resolved c.get-in-Let.result.now) + size (resolved c.in-Let.body)) = ap size is in
    let l : length c.push-in-Let.new.self ≡ suc (length c.args.table.now) = ap length c.in_ok-node-in-Let.ensures.ok ∙ pushed_length c.args.table.now Open in (
      omega (arith, c.decreases, s),
      (
        c.requires.closed,
        (
          scope_on c.args.context.now c.args.locs.now.items c.args.locs.now.items (length c.args.table.now) (length c.push-in-Let.new.self) (omega (arith, l)) refl c.requires.scope,
          omega (arith, l, c.in_ok-node-in-Let.ensures.place),
        ),
      ),
    )

pub type_at-returns-then-not-branch-2 : goal.type_at-returns-then-not-branch-2
type_at-returns-then-not-branch-2 t c =
    let is = let_is c.args.t.now c.in-Let.t c.in-Let.body c.get-in-Let.result.now c.in-Let.is c.get-in-Let.ensures in (
      let_fails c.args.context.now c.args.locs.now.items c.args.table.now c.push-in-Let.new.self c.in_ok-node-in-Let.node c.args.expected (resolved c.args.t.now) (resolved c.get-in-Let.result.now)
          (resolved c.in-Let.body) is c.in_ok-node-in-Let.ensures.table c.in_ok-node-in-Let.ensures.ok c.in_ok-node-in-Let.ensures.place c.requires.scope
          c.requires.expected
          (when_false c.args.context.now c.push-in-Let.new.self c.type_at-in-Let.new.table c.args.locs.now.items c.type_at-in-Let.new.locs.items (resolved c.get-in-Let.result.now) c.in_ok-node-in-Let.node c.in_ok-type_at-in-Let.field-0 c.if-not-branch-2.true c.in_ok-type_at-in-Let.ensures),
      tt,
    )

pub type_at-type_at-requires-in-Let-2 : goal.type_at-type_at-requires-in-Let-2
type_at-type_at-requires-in-Let-2 t c =
    let is = let_is c.args.t.now c.in-Let.t c.in-Let.body c.get-in-Let.result.now c.in-Let.is c.get-in-Let.ensures in
    let s : size (resolved c.args.t.now) ≡ suc (size (resolved c.get-in-Let.result.now) + size (resolved c.in-Let.body)) = ap size is in
    let l : length c.push-in-Let.new.self ≡ suc (length c.args.table.now) = ap length c.in_ok-node-in-Let.ensures.ok ∙ pushed_length c.args.table.now Open in
    let late = longer_when c.args.context.now c.push-in-Let.new.self c.type_at-in-Let.new.table c.args.locs.now.items c.type_at-in-Let.new.locs.items (resolved c.get-in-Let.result.now) c.in_ok-node-in-Let.node c.in_ok-type_at-in-Let.field-0 c.if-not-branch-2.false c.in_ok-type_at-in-Let.ensures in
    let same = on_true c.in_ok-type_at-in-Let.field-0 c.if-not-branch-2.false c.in_ok-type_at-in-Let.ensures.1 in
    let pushed : c.push-in-Let-2.new.self.items ≡ c.args.locs.now.items ++ c.in_ok-node-in-Let.node ∷ [] =
    c.in_ok-push-in-Let.ensures.items ∙ ap (λ ls. ls ++ c.in_ok-node-in-Let.node ∷ []) same in
    let b : size (resolved c.get-in-Let-2.result.now) ≡ size (resolved c.in-Let.body) = ap (λ y. size (resolved y)) c.get-in-Let-2.ensures in
    let h : c.in_ok-node-in-Let.node < length c.type_at-in-Let.new.table = omega (arith, l, late, c.in_ok-node-in-Let.ensures.place) in
    let outer = scope_on c.args.context.now c.args.locs.now.items c.args.locs.now.items (length c.args.table.now) (length c.type_at-in-Let.new.table) (omega (arith, l, late)) refl c.requires.scope in (
      omega (arith, c.decreases, s, b),
      (
        c.requires.closed,
        (
          (
            outer.0,
            outer.1,
            subst (AreBelow (length c.type_at-in-Let.new.table)) (sym (ap reverse pushed ∙ reverse-append c.args.locs.now.items (c.in_ok-node-in-Let.node ∷ []))) (h, outer.2),
          ),
          omega (arith, l, late, c.requires.expected),
        ),
      ),
    )

pub type_at-returns-in-None : goal.type_at-returns-in-None
type_at-returns-in-None t c = (
  subst (λ y. IsImpossible c.args.table.now Typing (HasTyping (theory_in c.args.context.now) (self_in c.args.context.now) (scope_in c.args.context.now c.args.locs.now.items) y c.args.expected)) (sym (ap resolved c.in-Bound.is ∙ resolved-Bound c.in-Bound.k))
      (bound_untyped (theory_in c.args.context.now) (self_in c.args.context.now) (scope_in c.args.context.now c.args.locs.now.items) c.args.expected c.args.table.now c.requires.scope c.requires.expected c.in-Bound.k
      (ap (λ l. slice_get (reverse l) c.in-Bound.k) (sym c.deref.ensures.value) ∙ sym c.bound.ensures ∙ c.in-None.is)),
  tt,
)

pub type_at-returns-in-None-free : goal.type_at-returns-in-None-free
type_at-returns-in-None-free t c = (
  subst (λ y. IsImpossible c.args.table.now Typing (HasTyping (theory_in c.args.context.now) (self_in c.args.context.now) (scope_in c.args.context.now c.args.locs.now.items) y c.args.expected)) (sym (ap resolved c.in-Free.is ∙ resolved-Free c.in-Free.n))
      (free_untyped (theory_in c.args.context.now) (self_in c.args.context.now) (scope_in c.args.context.now c.args.locs.now.items) c.args.expected c.args.table.now c.requires.scope c.requires.expected c.in-Free.n
      (ap (λ l. numbered l c.in-Free.n) (sym c.as_slice.ensures) ∙ sym c.free.ensures ∙ c.in-None-free.is)),
  tt,
)

pub type_at-returns-in-Some : goal.type_at-returns-in-Some
type_at-returns-in-Some t c =
    let e : slice_get (reverse c.args.locs.now.items) c.in-Bound.k ≡ Some c.in-Some.node =
    ap (λ l. slice_get (reverse l) c.in-Bound.k) (sym c.deref.ensures.value) ∙ sym c.bound.ensures ∙ c.in-Some.is in
    if_ok c.unite.result (λ ok u. (
      subst (λ y. Outcome c.args.table.now c.unite.new.self Typing (HasTyping (theory_in c.args.context.now) (self_in c.args.context.now) (scope_in c.args.context.now c.args.locs.now.items) y c.args.expected) ok) (sym (ap resolved c.in-Bound.is ∙ resolved-Bound c.in-Bound.k))
          (bound_typed (theory_in c.args.context.now) (self_in c.args.context.now) (scope_in c.args.context.now c.args.locs.now.items) c.args.expected c.args.table.now c.requires.scope c.requires.expected c.unite.new.self c.in-Bound.k c.in-Some.node ok e u),
      always ok refl,
    )) c.unite.ensures.unites

pub type_at-returns-in-Some-free : goal.type_at-returns-in-Some-free
type_at-returns-in-Some-free t c =
    let e : numbered c.args.context.now.vars c.in-Free.n ≡ Some c.in-Some-free.node =
    ap (λ l. numbered l c.in-Free.n) (sym c.as_slice.ensures) ∙ sym c.free.ensures ∙ c.in-Some-free.is in
    if_ok c.unite-in-Some-free.result (λ ok u. (
      subst (λ y. Outcome c.args.table.now c.unite-in-Some-free.new.self Typing (HasTyping (theory_in c.args.context.now) (self_in c.args.context.now) (scope_in c.args.context.now c.args.locs.now.items) y c.args.expected) ok) (sym (ap resolved c.in-Free.is ∙ resolved-Free c.in-Free.n))
          (free_typed (theory_in c.args.context.now) (self_in c.args.context.now) (scope_in c.args.context.now c.args.locs.now.items) c.args.expected c.args.table.now c.requires.scope c.requires.expected c.unite-in-Some-free.new.self c.in-Free.n c.in-Some-free.node ok e u),
      always ok refl,
    )) c.unite-in-Some-free.ensures.unites

pub type_at-returns-in_ok-node-in-Lit : goal.type_at-returns-in_ok-node-in-Lit
type_at-returns-in_ok-node-in-Lit t c =
    let l : length c.push.new.self ≡ suc (length c.args.table.now) = ap length c.in_ok-node-in-Lit.ensures.ok ∙ pushed_length c.args.table.now Nat in
    let grows : Grows c.args.table.now c.push.new.self = subst (Grows c.args.table.now) (sym c.in_ok-node-in-Lit.ensures.ok) (grows_pushed c.args.table.now Nat c.in_ok-node-in-Lit.ensures.table tt (λ o. cc)) in
    if_ok c.unite-in-Lit.result (λ ok u. (
      subst (λ y. Outcome c.args.table.now c.unite-in-Lit.new.self Typing (HasTyping (theory_in c.args.context.now) (self_in c.args.context.now) (scope_in c.args.context.now c.args.locs.now.items) y c.args.expected) ok) (sym (ap resolved c.in-Lit.is ∙ resolved-Lit c.in-Lit.field-0))
          (literal_typed (theory_in c.args.context.now) (self_in c.args.context.now) (scope_in c.args.context.now c.args.locs.now.items) c.args.expected c.args.table.now c.requires.scope c.requires.expected c.push.new.self c.unite-in-Lit.new.self c.in-Lit.field-0 c.in_ok-node-in-Lit.node ok grows
          (omega (arith, l, c.in_ok-node-in-Lit.ensures.place))
          (λ ρ f. ap ρ c.in_ok-node-in-Lit.ensures.place ∙ pushed_says c.args.table.now Nat c.in_ok-node-in-Lit.ensures.table tt ρ (subst (Fits ρ) c.in_ok-node-in-Lit.ensures.ok f)) u),
      always ok refl,
    )) c.unite-in-Lit.ensures.unites

pub type_at-returns-in_ok-node-in-Truth : goal.type_at-returns-in_ok-node-in-Truth
type_at-returns-in_ok-node-in-Truth t c =
    let l : length c.push-in-Truth.new.self ≡ suc (length c.args.table.now) = ap length c.in_ok-node-in-Truth.ensures.ok ∙ pushed_length c.args.table.now Bool in
    let grows : Grows c.args.table.now c.push-in-Truth.new.self = subst (Grows c.args.table.now) (sym c.in_ok-node-in-Truth.ensures.ok) (grows_pushed c.args.table.now Bool c.in_ok-node-in-Truth.ensures.table tt (λ o. cc)) in
    if_ok c.unite-in-Truth.result (λ ok u. (
      subst (λ y. Outcome c.args.table.now c.unite-in-Truth.new.self Typing (HasTyping (theory_in c.args.context.now) (self_in c.args.context.now) (scope_in c.args.context.now c.args.locs.now.items) y c.args.expected) ok) (sym (ap resolved c.in-Truth.is ∙ resolved-Truth c.in-Truth.field-0))
          (truth_typed (theory_in c.args.context.now) (self_in c.args.context.now) (scope_in c.args.context.now c.args.locs.now.items) c.args.expected c.args.table.now c.requires.scope c.requires.expected c.push-in-Truth.new.self c.unite-in-Truth.new.self c.in-Truth.field-0 c.in_ok-node-in-Truth.node ok grows
          (omega (arith, l, c.in_ok-node-in-Truth.ensures.place))
          (λ ρ f. ap ρ c.in_ok-node-in-Truth.ensures.place ∙ pushed_says c.args.table.now Bool c.in_ok-node-in-Truth.ensures.table tt ρ (subst (Fits ρ) c.in_ok-node-in-Truth.ensures.ok f)) u),
      always ok refl,
    )) c.unite-in-Truth.ensures.unites

pub type_at-returns-else-not-branch : goal.type_at-returns-else-not-branch
type_at-returns-else-not-branch t c =
    let nodes = subst (OpensCase (theory_in c.args.context.now) c.in-Case.n c.args.table.now c.open_case.new.table) c.in-Some-2.is c.in_ok-us-in-Case.ensures in
    let is = case_is c.args.t.now c.in-Case.n c.in-Case.t c.in-Case.bs c.get.result.now c.in-Case.is c.get.ensures in
    let same = on_true c.in_ok-type_at-in-Case.field-0 c.if-not-branch.false c.in_ok-type_at-in-Case.ensures.1 in
    if_ok c.type_branches.result (λ ok w. (
      case_done c.args.context.now c.args.locs.now.items c.args.table.now c.open_case.new.table c.in-Case.n c.in-Some-2.us c.in-Some-2.whole c.args.expected (resolved c.args.t.now) (resolved c.get.result.now)
          (branches c.in-Case.bs) is nodes c.requires.scope c.requires.expected c.type_at.new.table c.type_branches.new.table ok
          (when_true c.in_ok-type_at-in-Case.field-0 c.if-not-branch.false c.in_ok-type_at-in-Case.ensures.0)
          (subst (λ l. Outcome c.type_at.new.table c.type_branches.new.table ArmTypings
          (HaveBranchTypings (theory_in c.args.context.now) (self_in c.args.context.now) (scope_in c.args.context.now l) c.in-Case.n c.in-Some-2.us (branches c.in-Case.bs) c.args.expected) ok) same
          (subst (λ us. Outcome c.type_at.new.table c.type_branches.new.table ArmTypings
          (HaveBranchTypings (theory_in c.args.context.now) (self_in c.args.context.now) (scope_in c.args.context.now c.type_at.new.locs.items) c.in-Case.n us (branches c.in-Case.bs) c.args.expected) ok) c.as_slice-in-Case.ensures
          (subst (λ bs. Outcome c.type_at.new.table c.type_branches.new.table ArmTypings
          (HaveBranchTypings (theory_in c.args.context.now) (self_in c.args.context.now) (scope_in c.args.context.now c.type_at.new.locs.items) c.in-Case.n c.as_slice-in-Case.result.now (branches bs) c.args.expected) ok)
          c.as_slice-in-Case-2.ensures w.0))),
      then_true ok (λ e. e ∙ same) w.1,
    )) c.type_branches.ensures

pub type_at-returns-in_ok-ok-in-Let : goal.type_at-returns-in_ok-ok-in-Let
type_at-returns-in_ok-ok-in-Let t c =
    let is = let_is c.args.t.now c.in-Let.t c.in-Let.body c.get-in-Let.result.now c.in-Let.is c.get-in-Let.ensures in
    let late = longer_when c.args.context.now c.push-in-Let.new.self c.type_at-in-Let.new.table c.args.locs.now.items c.type_at-in-Let.new.locs.items (resolved c.get-in-Let.result.now) c.in_ok-node-in-Let.node c.in_ok-type_at-in-Let.field-0 c.if-not-branch-2.false c.in_ok-type_at-in-Let.ensures in
    let same = on_true c.in_ok-type_at-in-Let.field-0 c.if-not-branch-2.false c.in_ok-type_at-in-Let.ensures.1 in
    let pushed : c.push-in-Let-2.new.self.items ≡ c.args.locs.now.items ++ c.in_ok-node-in-Let.node ∷ [] =
    c.in_ok-push-in-Let.ensures.items ∙ ap (λ ls. ls ++ c.in_ok-node-in-Let.node ∷ []) same in (
      let_done c.args.context.now c.args.locs.now.items c.args.table.now c.push-in-Let.new.self c.in_ok-node-in-Let.node c.args.expected (resolved c.args.t.now) (resolved c.get-in-Let.result.now)
          (resolved c.in-Let.body) is c.in_ok-node-in-Let.ensures.table c.in_ok-node-in-Let.ensures.ok c.in_ok-node-in-Let.ensures.place c.requires.scope
          c.requires.expected c.type_at-in-Let.new.table c.type_at-in-Let-2.new.table c.in_ok-ok-in-Let.ok c.push-in-Let-2.new.self.items pushed
          (when_true c.in_ok-type_at-in-Let.field-0 c.if-not-branch-2.false c.in_ok-type_at-in-Let.ensures.0)
          (subst (λ y. Outcome c.type_at-in-Let.new.table c.type_at-in-Let-2.new.table Typing
          (HasTyping (theory_in c.args.context.now) (self_in c.args.context.now) (scope_in c.args.context.now c.push-in-Let-2.new.self.items) (resolved y) c.args.expected) c.in_ok-ok-in-Let.ok) c.get-in-Let-2.ensures c.in_ok-ok-in-Let.ensures.0),
      then_true c.in_ok-ok-in-Let.ok (λ e.
          c.truncate.ensures.items ∙ ap (take c.len-outer.result) (e ∙ pushed)
          ∙ ap (λ n. take n (c.args.locs.now.items ++ c.in_ok-node-in-Let.node ∷ [])) (c.len-outer.ensures ∙ c.type_at-in-Let.new.locs.ok.0 ∙ ap length same) ∙ take_back c.args.locs.now.items (c.in_ok-node-in-Let.node ∷ []))
          c.in_ok-ok-in-Let.ensures.1,
    )

pub type_branches-bind_branch-requires-clause-given : goal.type_branches-bind_branch-requires-clause-given
type_branches-bind_branch-requires-clause-given t c =
    below_more (length c.args.table.now) (length c.loop-b.table) c.args.us.now c.loop-b.invariant.longer c.requires.given

pub type_branches-returns-then-not-branch : goal.type_branches-returns-then-not-branch
type_branches-returns-then-not-branch t c =
    let binds = subst (λ l. BindsBranch (theory_in c.args.context.now) c.loop-b.table c.bind_branch.new.table c.args.n c.args.us.now (head c.b-item.result.head) c.b-item.result.names l
    c.bind_branch.new.locs.items c.in_ok-bind_branch.field-0) c.loop-b.invariant.locs c.in_ok-bind_branch.ensures in (
      branches_stop c.args.context.now c.args.locs.now.items c.args.n c.args.us.now c.args.expected c.args.table.now c.loop-b.table c.bind_branch.new.table c.args.bs.now c.loop-b.b-index c.b-item.result c.loop-b-test.true c.b-item.is c.requires.scope c.requires.expected c.requires.given c.loop-b.invariant.longer c.loop-b.invariant.leads c.bind_branch.new.locs.items
          (subst (BindsBranch (theory_in c.args.context.now) c.loop-b.table c.bind_branch.new.table c.args.n c.args.us.now (head c.b-item.result.head) c.b-item.result.names c.args.locs.now.items
          c.bind_branch.new.locs.items) c.if-not-branch.true binds),
      tt,
    )

pub type_branches-type_at-requires : goal.type_branches-type_at-requires
type_branches-type_at-requires t c =
    let binds = subst (λ l. BindsBranch (theory_in c.args.context.now) c.loop-b.table c.bind_branch.new.table c.args.n c.args.us.now (head c.b-item.result.head) c.b-item.result.names l
    c.bind_branch.new.locs.items c.in_ok-bind_branch.field-0) c.loop-b.invariant.locs c.in_ok-bind_branch.ensures in
    let yes = subst (BindsBranch (theory_in c.args.context.now) c.loop-b.table c.bind_branch.new.table c.args.n c.args.us.now (head c.b-item.result.head) c.b-item.result.names c.args.locs.now.items
    c.bind_branch.new.locs.items) c.if-not-branch.false binds in
    let s = body_at c.args.bs.now c.loop-b.b-index c.b-item.result c.loop-b-test.true c.b-item.is in
    let a = c.loop-b.invariant.longer in
    let b = yes.1.grows.longer in
    let outer = scope_on c.args.context.now c.args.locs.now.items c.args.locs.now.items (length c.args.table.now) (length c.bind_branch.new.table) (omega (arith, a, b)) refl c.requires.scope in (
      omega (arith, c.decreases, s),
      (
        c.requires.closed,
        (
          (
            outer.0,
            outer.1,
            subst (AreBelow (length c.bind_branch.new.table)) (sym (ap reverse yes.3 ∙ reverse-append c.args.locs.now.items yes.0))
                (below_both (length c.bind_branch.new.table) (reverse yes.0) (reverse c.args.locs.now.items) (below_reverse (length c.bind_branch.new.table) yes.0 yes.1.inside) outer.2),
          ),
          omega (arith, a, b, c.requires.expected),
        ),
      ),
    )

pub type_branches-returns-then-not-branch-2 : goal.type_branches-returns-then-not-branch-2
type_branches-returns-then-not-branch-2 t c =
    let binds = subst (λ l. BindsBranch (theory_in c.args.context.now) c.loop-b.table c.bind_branch.new.table c.args.n c.args.us.now (head c.b-item.result.head) c.b-item.result.names l
    c.bind_branch.new.locs.items c.in_ok-bind_branch.field-0) c.loop-b.invariant.locs c.in_ok-bind_branch.ensures in
    let yes = subst (BindsBranch (theory_in c.args.context.now) c.loop-b.table c.bind_branch.new.table c.args.n c.args.us.now (head c.b-item.result.head) c.b-item.result.names c.args.locs.now.items
    c.bind_branch.new.locs.items) c.if-not-branch.false binds in (
      branches_fail c.args.context.now c.args.locs.now.items c.args.n c.args.us.now c.args.expected c.args.table.now c.loop-b.table c.bind_branch.new.table c.args.bs.now c.loop-b.b-index c.b-item.result c.loop-b-test.true c.b-item.is c.requires.scope c.requires.expected c.requires.given c.loop-b.invariant.longer c.loop-b.invariant.leads c.bind_branch.new.locs.items yes
          (when_false c.args.context.now c.bind_branch.new.table c.type_at.new.table c.bind_branch.new.locs.items c.type_at.new.locs.items (resolved c.b-item.result.body) c.args.expected c.in_ok-type_at.field-0 c.if-not-branch-2.true c.in_ok-type_at.ensures),
      tt,
    )

pub type_branches-loop-b-preserved : goal.type_branches-loop-b-preserved
type_branches-loop-b-preserved t c =
    let binds = subst (λ l. BindsBranch (theory_in c.args.context.now) c.loop-b.table c.bind_branch.new.table c.args.n c.args.us.now (head c.b-item.result.head) c.b-item.result.names l
    c.bind_branch.new.locs.items c.in_ok-bind_branch.field-0) c.loop-b.invariant.locs c.in_ok-bind_branch.ensures in
    let yes = subst (BindsBranch (theory_in c.args.context.now) c.loop-b.table c.bind_branch.new.table c.args.n c.args.us.now (head c.b-item.result.head) c.b-item.result.names c.args.locs.now.items
    c.bind_branch.new.locs.items) c.if-not-branch.false binds in
    let a = c.loop-b.invariant.longer in
    let b = yes.1.grows.longer in
    let late = longer_when c.args.context.now c.bind_branch.new.table c.type_at.new.table c.bind_branch.new.locs.items c.type_at.new.locs.items (resolved c.b-item.result.body) c.args.expected c.in_ok-type_at.field-0 c.if-not-branch-2.false c.in_ok-type_at.ensures in
    record {
      longer = omega (arith, a, b, late);
      locs =
          c.truncate.ensures.items
          ∙ ap (take c.len-outer.result) (on_true c.in_ok-type_at.field-0 c.if-not-branch-2.false c.in_ok-type_at.ensures.1 ∙ yes.3)
          ∙ ap (λ n. take n (c.args.locs.now.items ++ yes.0)) (c.len-outer.ensures ∙ c.args.locs.now.ok.0) ∙ take_back c.args.locs.now.items yes.0;
      leads =
          branches_next c.args.context.now c.args.locs.now.items c.args.n c.args.us.now c.args.expected c.args.table.now c.loop-b.table c.bind_branch.new.table c.args.bs.now c.loop-b.b-index c.b-item.result c.loop-b-test.true c.b-item.is c.requires.scope c.requires.expected c.requires.given c.loop-b.invariant.longer c.loop-b.invariant.leads c.bind_branch.new.locs.items yes c.type_at.new.table
          (when_true c.in_ok-type_at.field-0 c.if-not-branch-2.false c.in_ok-type_at.ensures.0);
    }

pub type_branches-returns : goal.type_branches-returns
type_branches-returns t c =
    let i : c.loop-b.b-index ≡ length c.args.bs.now = (let a = c.loop-b-test.false in let b = c.loop-b.auto.b-index-end in omega (arith, a, b)) in (
      branches_end c.args.context.now c.args.locs.now.items c.args.n c.args.us.now c.args.expected c.args.table.now c.loop-b.table c.args.bs.now
          (subst (BranchesLead c.args.context.now c.args.locs.now.items c.args.n c.args.us.now c.args.expected c.args.table.now c.loop-b.table c.args.bs.now) i c.loop-b.invariant.leads),
      c.loop-b.invariant.locs,
    )

pub type_use-returns-in_default : goal.type_use-returns-in_default
type_use-returns-in_default t c = (
  unused c.args.context.now c.args.locs.now.items c.args.table.now c.args.ts.now c.args.used c.args.expected
      (no_frame c.args.table.now c.frame.new.table (λ ρ. IsUseOf (theory_in c.args.context.now) (self_in c.args.context.now) (map ρ c.args.context.now.parameters) c.args.used) c.args.expected c.in_ok-es.field-0 c.in_default.not-Some c.in_ok-es.ensures),
  tt,
)

pub type_use-returns-then-nodes-ts : goal.type_use-returns-then-nodes-ts
type_use-returns-then-nodes-ts t c =
    let frame = subst (Frames c.args.table.now c.frame.new.table (λ ρ. IsUseOf (theory_in c.args.context.now) (self_in c.args.context.now) (map ρ c.args.context.now.parameters) c.args.used) c.args.expected) c.in-Some.is c.in_ok-es.ensures in
    let nodes : c.as_slice-nodes.result.now ≡ c.in-Some.es = c.as_slice-nodes.ensures in (
      used_typed c.args.context.now c.args.locs.now.items c.args.table.now c.frame.new.table [] c.args.ts.now c.in-Some.es c.args.used c.args.expected false c.requires.scope frame
          (other_arguments c.args.context.now c.args.locs.now.items c.frame.new.table c.args.ts.now c.in-Some.es (λ e. c.if-nodes-ts.true (ap length nodes ∙ e))),
      tt,
    )

pub type_use-loop-at-init : goal.type_use-loop-at-init
type_use-loop-at-init t c =
    record { longer = omega arith; locs = refl; leads = arguments_start c.args.context.now c.args.locs.now.items c.frame.new.table c.args.ts.now c.as_slice-nodes.result.now }

pub type_use-type_at-requires : goal.type_use-type_at-requires
type_use-type_at-requires t c =
    let frame = subst (Frames c.args.table.now c.frame.new.table (λ ρ. IsUseOf (theory_in c.args.context.now) (self_in c.args.context.now) (map ρ c.args.context.now.parameters) c.args.used) c.args.expected) c.in-Some.is c.in_ok-es.ensures in
    let nodes : c.as_slice-nodes.result.now ≡ c.in-Some.es = c.as_slice-nodes.ensures in
    let inside = subst (AreBelow (length c.frame.new.table)) (sym nodes) frame.inside in
    let first : length c.args.table.now ≤ length c.frame.new.table = frame.grown.longer in
    let count : length c.as_slice-nodes.result.now ≡ length c.args.ts.now = c.if-nodes-ts.false in
    let at = read_at c.as_slice-nodes.result.now c.loop-at.at (let a = c.loop-at-test.true in omega (arith, a, count)) in
    let s = size_at c.args.ts.now c.loop-at.at c.index-ts-at.result c.loop-at-test.true c.index-ts-at.is in
    let a = c.loop-at.invariant.longer in
    let i = c.loop-at-test.true in (
      omega (arith, c.decreases, s),
      (
        c.requires.closed,
        (
          scope_on c.args.context.now c.args.locs.now.items c.loop-at.locs.items (length c.args.table.now) (length c.loop-at.table) (omega (arith, a, first)) c.loop-at.invariant.locs c.requires.scope,
          (let b : (get_or c.as_slice-nodes.result.now c.loop-at.at 0) < length c.frame.new.table = below_at (length c.frame.new.table) c.as_slice-nodes.result.now c.loop-at.at (get_or c.as_slice-nodes.result.now c.loop-at.at 0) inside (omega (arith, i, count)) at in omega (arith, a, b)),
        ),
      ),
    )

pub type_use-returns-then-not-branch : goal.type_use-returns-then-not-branch
type_use-returns-then-not-branch t c =
    let frame = subst (Frames c.args.table.now c.frame.new.table (λ ρ. IsUseOf (theory_in c.args.context.now) (self_in c.args.context.now) (map ρ c.args.context.now.parameters) c.args.used) c.args.expected) c.in-Some.is c.in_ok-es.ensures in
    let nodes : c.as_slice-nodes.result.now ≡ c.in-Some.es = c.as_slice-nodes.ensures in
    let inside = subst (AreBelow (length c.frame.new.table)) (sym nodes) frame.inside in
    let first : length c.args.table.now ≤ length c.frame.new.table = frame.grown.longer in
    let count : length c.as_slice-nodes.result.now ≡ length c.args.ts.now = c.if-nodes-ts.false in
    let at = read_at c.as_slice-nodes.result.now c.loop-at.at (let a = c.loop-at-test.true in omega (arith, a, count)) in
    let typed = subst (λ l. TypesTerm c.args.context.now c.loop-at.table c.type_at.new.table l c.type_at.new.locs.items (resolved c.index-ts-at.result) (get_or c.as_slice-nodes.result.now c.loop-at.at 0) c.in_ok-type_at.field-0)
    c.loop-at.invariant.locs c.in_ok-type_at.ensures in (
      used_typed c.args.context.now c.args.locs.now.items c.args.table.now c.frame.new.table [] c.args.ts.now c.in-Some.es c.args.used c.args.expected false c.requires.scope frame
          (subst (λ es. IsImpossible c.frame.new.table Typings (HaveTypings (theory_in c.args.context.now) (self_in c.args.context.now) (scope_in c.args.context.now c.args.locs.now.items) (all_resolved c.args.ts.now) es)) nodes
          (arguments_stop c.args.context.now c.args.locs.now.items c.frame.new.table c.loop-at.table c.type_at.new.table c.args.ts.now c.as_slice-nodes.result.now c.loop-at.at c.index-ts-at.result (get_or c.as_slice-nodes.result.now c.loop-at.at 0) c.loop-at-test.true count c.index-ts-at.is at (scope_on c.args.context.now c.args.locs.now.items c.args.locs.now.items (length c.args.table.now) (length c.frame.new.table) first refl c.requires.scope) inside c.loop-at.invariant.longer c.loop-at.invariant.leads (when_false c.args.context.now c.loop-at.table c.type_at.new.table c.args.locs.now.items c.type_at.new.locs.items (resolved c.index-ts-at.result) (get_or c.as_slice-nodes.result.now c.loop-at.at 0) c.in_ok-type_at.field-0 c.if-not-branch.true typed))),
      tt,
    )

pub type_use-loop-at-preserved : goal.type_use-loop-at-preserved
type_use-loop-at-preserved t c =
    let frame = subst (Frames c.args.table.now c.frame.new.table (λ ρ. IsUseOf (theory_in c.args.context.now) (self_in c.args.context.now) (map ρ c.args.context.now.parameters) c.args.used) c.args.expected) c.in-Some.is c.in_ok-es.ensures in
    let nodes : c.as_slice-nodes.result.now ≡ c.in-Some.es = c.as_slice-nodes.ensures in
    let inside = subst (AreBelow (length c.frame.new.table)) (sym nodes) frame.inside in
    let first : length c.args.table.now ≤ length c.frame.new.table = frame.grown.longer in
    let count : length c.as_slice-nodes.result.now ≡ length c.args.ts.now = c.if-nodes-ts.false in
    let at = read_at c.as_slice-nodes.result.now c.loop-at.at (let a = c.loop-at-test.true in omega (arith, a, count)) in
    let typed = subst (λ l. TypesTerm c.args.context.now c.loop-at.table c.type_at.new.table l c.type_at.new.locs.items (resolved c.index-ts-at.result) (get_or c.as_slice-nodes.result.now c.loop-at.at 0) c.in_ok-type_at.field-0)
    c.loop-at.invariant.locs c.in_ok-type_at.ensures in
    let a = c.loop-at.invariant.longer in
    let late : length c.loop-at.table ≤ length c.type_at.new.table = longer_when c.args.context.now c.loop-at.table c.type_at.new.table c.args.locs.now.items c.type_at.new.locs.items (resolved c.index-ts-at.result) (get_or c.as_slice-nodes.result.now c.loop-at.at 0) c.in_ok-type_at.field-0 c.if-not-branch.false typed in
    record {
      longer = omega (arith, a, late);
      locs = on_true c.in_ok-type_at.field-0 c.if-not-branch.false typed.1;
      leads = arguments_next c.args.context.now c.args.locs.now.items c.frame.new.table c.loop-at.table c.type_at.new.table c.args.ts.now c.as_slice-nodes.result.now c.loop-at.at c.index-ts-at.result (get_or c.as_slice-nodes.result.now c.loop-at.at 0) c.loop-at-test.true count c.index-ts-at.is at (scope_on c.args.context.now c.args.locs.now.items c.args.locs.now.items (length c.args.table.now) (length c.frame.new.table) first refl c.requires.scope) inside c.loop-at.invariant.longer c.loop-at.invariant.leads (when_true c.in_ok-type_at.field-0 c.if-not-branch.false typed.0);
    }

pub type_use-returns : goal.type_use-returns
type_use-returns t c =
    let frame = subst (Frames c.args.table.now c.frame.new.table (λ ρ. IsUseOf (theory_in c.args.context.now) (self_in c.args.context.now) (map ρ c.args.context.now.parameters) c.args.used) c.args.expected) c.in-Some.is c.in_ok-es.ensures in
    let nodes : c.as_slice-nodes.result.now ≡ c.in-Some.es = c.as_slice-nodes.ensures in
    let count : length c.as_slice-nodes.result.now ≡ length c.args.ts.now = c.if-nodes-ts.false in
    let i : c.loop-at.at ≡ length c.args.ts.now = (let a = c.loop-at-test.false in let b = c.loop-at.auto.at-end in omega (arith, a, b)) in (
      used_typed c.args.context.now c.args.locs.now.items c.args.table.now c.frame.new.table c.loop-at.table c.args.ts.now c.in-Some.es c.args.used c.args.expected true c.requires.scope frame
          (subst (λ es. Outcome c.frame.new.table c.loop-at.table Typings (HaveTypings (theory_in c.args.context.now) (self_in c.args.context.now) (scope_in c.args.context.now c.args.locs.now.items) (all_resolved c.args.ts.now) es) true) nodes
          (arguments_end c.args.context.now c.args.locs.now.items c.frame.new.table c.loop-at.table c.args.ts.now c.as_slice-nodes.result.now count
          (subst (ArgumentsLead c.args.context.now c.args.locs.now.items c.frame.new.table c.loop-at.table c.args.ts.now c.as_slice-nodes.result.now) i c.loop-at.invariant.leads))),
      c.loop-at.invariant.locs,
    )
