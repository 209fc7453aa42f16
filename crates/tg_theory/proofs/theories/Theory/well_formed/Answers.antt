use Rattle.std.proofs.Common.{◌≡◌, ◌↔◌, [], true, false, map, reverse, subst, rules}
use Rattle.tg_model.specs.TermTyping.{IsWellFormed}
use Rattle.tg_accept.specs.Declared.{theory}
use Rattle.tg_types.specs.Types.{ty, types}
use Rattle.tg_theory.specs.Typed.{are_declared}
use Rattle.tg_theory.proofs.ClosedTypes.{all_declared_if}
use Rattle.tg_theory.proofs.FormedLaws.{no_formula_vars, formed_as}
use Rattle.tg_theory.proofs.theories.Theory.well_formed.Goals as goal

pub returns-then-not-are_declared : goal.returns-then-not-are_declared
returns-then-not-are_declared c =
    let no : are_declared (types c.args.vars.now) ≡ false = search rules in
    no_formula_vars c.args.self.now c.args.vars.now c.args.f.now no

pub is_formed-requires-clause-vars : goal.is_formed-requires-clause-vars
is_formed-requires-clause-vars c =
    let vars : are_declared (types c.args.vars.now) ≡ true = search rules in
    all_declared_if (types c.args.vars.now) vars

pub returns : goal.returns
returns c =
    let vars : are_declared (types c.args.vars.now) ≡ true = search rules in
    formed_as c.args.self.now c.self.inside.name c.self.inside.declared c.args.vars.now c.args.f.now c.in_ok-formed.formed c.self.view_is vars
    (subst (λ l. (c.in_ok-formed.formed ≡ true) ↔ IsWellFormed (theory [] c.self.inside.declared) (map ty c.args.vars.now) (reverse (map ty l)) c.args.f.now)
    c.new-locs.ensures.items c.in_ok-formed.ensures.formed)
