use Rattle.std.proofs.Common.{◌≡◌, ◌++◌, ◌∷◌, [], true, false, rules}
use Rattle.std.specs.List.{list_any}
use Rattle.tg_model.specs.Accepted.{bodies}
use Rattle.tg_model.specs.Calls.{has_call}
use Rattle.tg_accept.specs.Faults.{is_taken, is_body_shaped}
use Rattle.tg_accept.specs.Meant.{IsFunctionMeant}
use Rattle.tg_declarations.specs.View.{function, body}
use Rattle.tg_theory.proofs.BuiltLaws.{builds_function}
use Rattle.tg_theory.proofs.building.Builder.add_def.Goals as goal

pub invariant_of-self-in-Ok : goal.invariant_of-self-in-Ok
invariant_of-self-in-Ok c =
    let meant : IsFunctionMeant c.self.inside.declared (function c.args.def) = search rules in
    let free : is_taken c.args.def.name c.self.inside.values ≡ false = search rules in
    let shaped : is_body_shaped c.self.inside.declared (function c.args.def) (body c.args.def.body) ≡ true = search rules in
    let calls : list_any has_call (bodies (body c.args.def.body)) ≡ false = search rules in
    let taken : c.take.new.self ≡ c.self.inside.values ++ c.args.def.name ∷ [] = search rules in
    builds_function c.self.inside.declared c.args.def c.self.inside.types c.self.inside.values c.take.new.self c.add_function.new.self c.self.invariant
    c.requires.named meant free shaped calls taken c.in-Ok.ensures.added
