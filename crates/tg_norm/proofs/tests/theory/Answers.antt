use Rattle.std.proofs.Common.{◌≡◌, true, [], ◌∷◌, map, Option, Some, None, refl, sym, ◌∙◌, subst}
use Rattle.tg_model.specs.Tree.{Tree, truth, free, op, plus, two}
use Rattle.tg_model.specs.Types.{bool}
use Rattle.tg_model.specs.Types as model
use Rattle.tg_model.specs.Theory.{Program, Function, plain}
use Rattle.tg_model.specs.TermTyping.{leaf, compound, none, more}
use Rattle.tg_accept.specs.Declared.{Declared, theory}
use Rattle.tg_accept.specs.Meant.{IsFunctionMeant, IsSpecificationMeant}
use Rattle.tg_declarations.specs.declared.definitions.FunDef.{FunDef}
use Rattle.tg_declarations.specs.declared.definitions.Body.TheVariants.{Plain}
use Rattle.tg_declarations.specs.View.{function, body}
use Rattle.tg_types.specs.Types.{ty, ty-Nat}
use Rattle.tg_types.specs.declared.types.Ty.TheVariants.{Nat}
use Rattle.tg_norm.proofs.tests.theory.Goals as goal

-- `x + x` is a natural where `x` is one
dup_meant : (D : Declared) (def : FunDef) → def.params ≡ 0 → def.args ≡ Nat ∷ [] → def.result ≡ Nat → def.body ≡ Plain (op plus (two (free 1) (free 1)))
    → IsFunctionMeant D (function def)
dup_meant D def p a r b =
    let known : Function = record { name = def.name; parameters = 0; arguments = model.nat ∷ []; answer = model.nat; body = plain (op plus (two (free 1) (free 1))) } in
    let same : function def ≡ record known { arguments = ty Nat ∷ []; answer = ty Nat } =
    λ i. record { name = def.name; parameters = p i; arguments = map ty (a i); answer = ty (r i); body = body (b i) } in
    let nats : record known { arguments = ty Nat ∷ []; answer = ty Nat } ≡ known = λ i. record known { arguments = ty-Nat i ∷ []; answer = ty-Nat i } in
    subst (IsFunctionMeant D) (sym (same ∙ nats)) (record {
      types = (tt, (tt, tt));
      body = (compound model.nat (more (leaf model.nat) (more (leaf model.nat) none)), ((refl, refl), (refl, (refl, tt))), refl);
    })

pub add_def-requires-clause-meant : goal.add_def-requires-clause-meant
add_def-requires-clause-meant c =
    dup_meant c.new-builder.result c.in_ok-dup.field-0 c.in_ok-dup.ensures.params c.in_ok-dup.ensures.args c.in_ok-dup.ensures.answer c.in_ok-dup.ensures.body

-- True is a condition on any inputs
true_meant : (D : Declared) (t : Tree) → t ≡ truth true → IsSpecificationMeant (theory [] D) D.program t
true_meant D t same = subst (IsSpecificationMeant (theory [] D) D.program) (sym same) (by D.program)
  where
    by : (o : Option Program) → IsSpecificationMeant (theory [] D) o (truth true)
    by None = tt
    by (Some p) = (leaf bool, refl, refl)

pub set_spec-requires : goal.set_spec-requires
set_spec-requires c = true_meant c.set_program.new.self c.in_ok-spec.spec c.in_ok-spec.ensures.is
