use Rattle.std.proofs.Common.{◌≡◌, true, [], Option, Some, None, refl, sym, subst}
use Rattle.tg_model.specs.Tree.{Tree, truth}
use Rattle.tg_model.specs.Types.{bool}
use Rattle.tg_model.specs.Theory.{Program}
use Rattle.tg_model.specs.TermTyping.{leaf}
use Rattle.tg_accept.specs.Declared.{Declared, theory}
use Rattle.tg_accept.specs.Meant.{IsSpecificationMeant}
use Rattle.tg_harness.proofs.tests.theory.Goals as goal

-- True is a condition on any inputs
true_meant : (D : Declared) (t : Tree) → t ≡ truth true → IsSpecificationMeant (theory [] D) D.program t
true_meant D t same = subst (IsSpecificationMeant (theory [] D) D.program) (sym same) (by D.program)
  where
    by : (o : Option Program) → IsSpecificationMeant (theory [] D) o (truth true)
    by None = tt
    by (Some p) = (leaf bool, refl, refl)

pub set_spec-requires : goal.set_spec-requires
set_spec-requires c = true_meant c.set_program.new.self c.in_ok-spec.spec c.in_ok-spec.ensures.is
