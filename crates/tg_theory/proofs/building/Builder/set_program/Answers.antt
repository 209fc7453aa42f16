use Rattle.std.proofs.Common.{◌≡◌, ◌++◌, ◌∷◌, [], ◌&&◌, true, false, not, is_some, length, map, rules}
use Rattle.std.specs.List.{list_any}
use Rattle.tg_types.specs.Types.{ty}
use Rattle.tg_accept.specs.Faults.{is_taken, from_one_to_eight, has_parameter}
use Rattle.tg_accept.specs.Meant.{IsProgramMeant}
use Rattle.tg_declarations.specs.View.{program}
use Rattle.tg_theory.proofs.BuiltLaws.{builds_program}
use Rattle.tg_theory.proofs.building.Builder.set_program.Goals as goal

pub invariant_of-self-2 : goal.invariant_of-self-2
invariant_of-self-2 c =
    let meant : IsProgramMeant c.self.inside.declared (program c.args.def) = search rules in
    let free : is_taken c.args.def.name c.self.inside.values ≡ false = search rules in
    let none : is_some c.self.inside.declared.program ≡ false = search rules in
    let fit : (from_one_to_eight (length c.args.def.inputs) && not (list_any has_parameter (ty c.args.def.answer ∷ map ty c.args.def.inputs))) ≡ true = search rules in
    let taken : c.take.new.self ≡ c.self.inside.values ++ c.args.def.name ∷ [] = search rules in
    builds_program c.self.inside.declared c.args.def c.self.inside.types c.self.inside.values c.take.new.self c.set_program.new.self c.self.invariant
    c.requires.named meant free none fit taken c.set_program.ensures
