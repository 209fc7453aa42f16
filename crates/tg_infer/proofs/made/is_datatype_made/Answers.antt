use Rattle.std.proofs.Common.{◌≡◌, ◌↔◌, true, sym, subst, rules}
use Rattle.tg_accept.specs.Meant.{IsDatatypeMeant}
use Rattle.tg_declarations.specs.View.{datatype}
use Rattle.tg_infer.proofs.MadeLaws.{ConstructorsMade, datatype_tells}
use Rattle.tg_infer.proofs.made.is_datatype_made.Goals as goal

pub returns : goal.returns
returns c =
    let D = c.args.declared.now in
    let def = c.args.def.now in
    let is : c.are_constructors_made.result ≡ ConstructorsMade D def.params def.cons = search rules in
    subst (λ b. (b ≡ true) ↔ IsDatatypeMeant D (datatype def)) (sym is) (datatype_tells D def)
