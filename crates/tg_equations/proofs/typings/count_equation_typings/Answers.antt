use Rattle.std.proofs.Common.{◌≡◌, ◌∙◌, [], map, Some, sym, ap, subst}
use Rattle.std.specs.Prelude.{option_map}
use Rattle.tg_accept.specs.Declared.{theory}
use Rattle.tg_accept.specs.Equations.{left_types}
use Rattle.tg_accept.specs.Functions.{self_of}
use Rattle.tg_declarations.specs.View.{function}
use Rattle.tg_types.specs.Types.{ty}
use Rattle.tg_typing.specs.Answers.{Counts, IsTypingAt}
use Rattle.tg_typing.specs.Contexts.{HasClosedTypes}
use Rattle.tg_typing.specs.View.{resolved}
use Rattle.tg_equations.specs.LeftSides.{together}
use Rattle.tg_equations.specs.View.{equation, patterns}
use Rattle.tg_equations.proofs.TypingLaws.{own_closed, answer_declared, vars_declared, equation_told}
use Rattle.tg_equations.proofs.typings.count_equation_typings.Goals as goal

pub count_typings_at-requires-clause-closed : goal.count_typings_at-requires-clause-closed
count_typings_at-requires-clause-closed c =
    subst (λ o. HasClosedTypes (theory [] c.args.declared.now) o) (sym c.own_of-own.ensures)
    (own_closed c.args.declared.now c.args.is_recursive (function c.args.signature.now) c.requires.kept c.requires.made)

pub count_typings_at-requires-clause-vars : goal.count_typings_at-requires-clause-vars
count_typings_at-requires-clause-vars c =
    let left : Some (map ty c.as_slice-2.result.now) ≡ together (left_types (theory [] c.args.declared.now) (patterns c.args.e.now.patterns) (map ty c.args.signature.now.args)) =
    ap (λ l. Some (map ty l)) c.as_slice-2.ensures ∙ ap (option_map (map ty)) (sym c.in-Some.is) ∙ c.in_ok-vars.ensures
    ∙ (λ i. together (left_types (theory [] c.args.declared.now) (patterns (c.as_slice.ensures i)) (map ty (c.as_slice-args.ensures i)))) in
    vars_declared c.args.declared.now c.args.is_recursive (function c.args.signature.now) c.requires.kept c.requires.made (patterns c.args.e.now.patterns)
    (map ty c.as_slice-2.result.now) left

pub count_typings_at-requires-clause-at : goal.count_typings_at-requires-clause-at
count_typings_at-requires-clause-at c = answer_declared c.args.declared.now c.args.is_recursive (function c.args.signature.now) c.requires.kept c.requires.made

pub returns : goal.returns
returns c =
    let left : Some (map ty c.as_slice-2.result.now) ≡ together (left_types (theory [] c.args.declared.now) (patterns c.args.e.now.patterns) (map ty c.args.signature.now.args)) =
    ap (λ l. Some (map ty l)) c.as_slice-2.ensures ∙ ap (option_map (map ty)) (sym c.in-Some.is) ∙ c.in_ok-vars.ensures
    ∙ (λ i. together (left_types (theory [] c.args.declared.now) (patterns (c.as_slice.ensures i)) (map ty (c.as_slice-args.ensures i)))) in
    equation_told (theory [] c.args.declared.now) (self_of c.args.is_recursive (function c.args.signature.now)) (function c.args.signature.now) (equation c.args.e.now)
    c.as_slice-2.result.now c.in_ok-typings.typings left
    (subst (λ o. Counts (IsTypingAt (theory [] c.args.declared.now) o c.as_slice-2.result.now [] (resolved c.args.e.now.body) (ty c.args.signature.now.result)) c.in_ok-typings.typings)
    c.own_of-own.ensures c.in_ok-typings.ensures)
