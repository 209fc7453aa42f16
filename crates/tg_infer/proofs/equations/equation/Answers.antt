use Rattle.std.proofs.Common.{◌≡◌, ◌∙◌, [], Some, None, ap, map, rules}
use Rattle.tg_accept.specs.Equations.{pattern_meant, left_variables}
use Rattle.tg_accept.specs.Meaning.{each_meant, resolve}
use Rattle.tg_equations.specs.View.{patterns, equation}
use Rattle.tg_typing.specs.View.{resolved}
use Rattle.tg_infer.specs.Binders.{binders}
use Rattle.tg_infer.specs.Finding.{Finds}
use Rattle.tg_infer.specs.Scopes.{scope_of, AreSameVariables}
use Rattle.tg_infer.specs.View.{raw_pattern, raw_term}
use Rattle.tg_infer.proofs.EquationLaws.{equation_found, no_side}
use Rattle.tg_infer.proofs.equations.equation.Goals as goal

pub returns-in_default-2 : goal.returns-in_default-2
returns-in_default-2 c =
    let S = scope_of c.args.scope.now in
    let vs = c.in_ok-variables.variables in
    let T = record S { variables = vs } in
    let found : None ≡ resolve T (binders c.new-outer.result) (raw_term c.args.e.now.body) = search rules in
    let left : Some (patterns c.in-Some.patterns) ≡ each_meant (pattern_meant S) (map raw_pattern c.args.e.now.pats) = search rules in
    let same : AreSameVariables vs (left_variables (patterns c.in-Some.patterns)) = search rules in
    no_side S vs c.in-Some.patterns c.args.e.now left same (found ∙ ap (λ l. resolve T l (raw_term c.args.e.now.body)) c.new-outer.ensures.none)

pub returns : goal.returns
returns c =
    let S = scope_of c.args.scope.now in
    let vs = c.in_ok-variables.variables in
    let T = record S { variables = vs } in
    let found : Finds c.new-outer.result c.resolve.new.outer (Some (resolved c.in-Some-2.body)) (resolve T (binders c.new-outer.result) (raw_term c.args.e.now.body)) = search rules in
    let left : Some (patterns c.in-Some.patterns) ≡ each_meant (pattern_meant S) (map raw_pattern c.args.e.now.pats) = search rules in
    let same : AreSameVariables vs (left_variables (patterns c.in-Some.patterns)) = search rules in
    let head : c.in_ok-head.head ≡ c.args.e.now.head = search rules in
    ap (λ x. Some (equation (record { head = x; patterns = c.in-Some.patterns; body = c.in-Some-2.body }))) head
    ∙ equation_found S vs c.in-Some.patterns c.args.e.now c.in-Some-2.body left same (found.0 ∙ ap (λ l. resolve T l (raw_term c.args.e.now.body)) c.new-outer.ensures.none)
