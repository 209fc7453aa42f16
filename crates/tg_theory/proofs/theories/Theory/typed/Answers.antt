use Rattle.std.proofs.Common.{◌≡◌, true, false, rules}
use Rattle.tg_types.specs.Types.{ty, types}
use Rattle.tg_theory.specs.Typed.{is_declared, are_declared}
use Rattle.tg_theory.proofs.ClosedTypes.{declared_if, all_declared_if}
use Rattle.tg_theory.proofs.FormedLaws.{no_vars, no_type, typed_as}
use Rattle.tg_theory.proofs.theories.Theory.typed.Goals as goal

pub returns-then-not-are_declared : goal.returns-then-not-are_declared
returns-then-not-are_declared c =
    let no : are_declared (types c.args.vars.now) ≡ false = search rules in
    no_vars c.args.self.now c.args.vars.now c.args.t.now c.args.at.now no

pub returns-then-not-is_declared : goal.returns-then-not-is_declared
returns-then-not-is_declared c =
    let no : is_declared (ty c.args.at.now) ≡ false = search rules in
    no_type c.args.self.now c.args.vars.now c.args.t.now c.args.at.now no

pub is_typed-requires-clause-vars : goal.is_typed-requires-clause-vars
is_typed-requires-clause-vars c =
    let vars : are_declared (types c.args.vars.now) ≡ true = search rules in
    all_declared_if (types c.args.vars.now) vars

pub is_typed-requires-clause-at : goal.is_typed-requires-clause-at
is_typed-requires-clause-at c =
    let at : is_declared (ty c.args.at.now) ≡ true = search rules in
    declared_if (ty c.args.at.now) at

pub returns : goal.returns
returns c =
    let vars : are_declared (types c.args.vars.now) ≡ true = search rules in
    let at : is_declared (ty c.args.at.now) ≡ true = search rules in
    typed_as c.args.self.now c.self.inside.name c.self.inside.declared c.args.vars.now c.args.t.now c.args.at.now c.in_ok-typed.typed c.self.view_is vars at c.in_ok-typed.ensures
