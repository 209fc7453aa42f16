use Rattle.std.proofs.Common.{◌≡◌, [], true, is_none, subst, sym, rules}
use Rattle.tg_accept.specs.Declared.{theory}
use Rattle.tg_accept.specs.Faults.{specification_fault}
use Rattle.tg_accept.specs.Meant.{IsSpecificationMeant}
use Rattle.tg_theory.specs.Built.{IsBuilt}
use Rattle.tg_theory.proofs.BuiltLaws.{keeps_specification, no_fault}
use Rattle.tg_theory.proofs.building.Builder.set_spec.Goals as goal

pub invariant_of-self : goal.invariant_of-self
invariant_of-self c =
    let meant : IsSpecificationMeant (theory [] c.self.inside.declared) c.self.inside.declared.program c.args.t = search rules in
    let right : is_none (specification_fault c.self.inside.declared c.args.t) ≡ true = search rules in
    let fine = no_fault (specification_fault c.self.inside.declared c.args.t) right in
    subst (IsBuilt c.self.inside.types c.self.inside.values) (sym c.set_specification.ensures)
    (keeps_specification c.self.inside.declared c.args.t c.self.inside.types c.self.inside.values c.self.invariant meant fine)
