use Rattle.std.proofs.Common.{◌≡◌, ◌++◌, ◌∷◌, [], None, rules}
use Rattle.tg_accept.specs.Declared.{with_datatype}
use Rattle.tg_accept.specs.Faults.{datatype_fault}
use Rattle.tg_accept.specs.Meant.{IsDatatypeMeant}
use Rattle.tg_declarations.specs.View.{datatype}
use Rattle.tg_theory.specs.Taking.{constructor_names}
use Rattle.tg_theory.proofs.BuiltLaws.{builds_datatype}
use Rattle.tg_theory.proofs.building.Builder.add_data.Goals as goal

pub invariant_of-self-else-is_err : goal.invariant_of-self-else-is_err
invariant_of-self-else-is_err c =
    let meant : IsDatatypeMeant c.self.inside.declared (datatype c.args.def) = search rules in
    let fine : datatype_fault c.self.inside.declared (datatype c.args.def) ≡ None = search rules in
    let types : c.add_datatype-added.new.types ≡ c.self.inside.types ++ c.args.def.name ∷ [] = search rules in
    let values : c.add_datatype-added.new.values ≡ c.self.inside.values ++ constructor_names c.args.def.cons = search rules in
    let added : c.add_datatype-added.new.declared ≡ with_datatype c.self.inside.declared (datatype c.args.def) = search rules in
    builds_datatype c.self.inside.declared c.args.def c.self.inside.types c.self.inside.values c.add_datatype-added.new.types c.add_datatype-added.new.values
    c.add_datatype-added.new.declared c.self.invariant c.requires.type_name c.requires.value_names meant fine types values added
