use Rattle.std.proofs.Common.{◌≡◌, ◌∙◌, ◌++◌, [], false, sym, ap, reverse, rules}
use Rattle.std.specs.Prelude.{option_map}
use Rattle.std.specs.List.{list_any}
use Rattle.tg_accept.specs.Equations.{numbered_from}
use Rattle.tg_accept.specs.Faults.{is_taken}
use Rattle.tg_accept.specs.Meaning.{resolve}
use Rattle.tg_typing.specs.View.{resolved}
use Rattle.tg_infer.specs.Binders.{binders}
use Rattle.tg_infer.specs.Scopes.{scope_of, outside, AreSameVariables}
use Rattle.tg_infer.specs.View.{raw_term}
use Rattle.tg_infer.specs.Words.{values_in}
use Rattle.tg_infer.proofs.ResolvingLaws.{found_is}
use Rattle.tg_infer.proofs.SpecificationLaws.{free_variables}
use Rattle.tg_infer.proofs.specifications.look_up.Goals as goal

pub returns : goal.returns
returns c =
    let D = c.args.declared.now in
    let vs = c.add_numbered.new.variables in
    let t = raw_term c.args.body.now in
    let free : list_any (λ x. is_taken x (values_in c.args.words.now)) c.args.vars.now ≡ false = search rules in
    let same : AreSameVariables vs (reverse (numbered_from 1 c.args.vars.now) ++ []) = search rules in
    let found : option_map resolved c.in_ok-t.t ≡ resolve (scope_of c.outside-scope.result) (binders c.new-outer.result) t =
    found_is c.new-outer.result c.resolve.new.outer (option_map resolved c.in_ok-t.t) (resolve (scope_of c.outside-scope.result) (binders c.new-outer.result) t) c.in_ok-t.ensures in
    free_variables D c.args.words.now c.args.vars.now vs t (option_map resolved c.in_ok-t.t) c.requires free same
    (found ∙ (λ i. resolve (c.outside-scope.ensures.is i) (c.new-outer.ensures.none i) t))
