-- What the declarations of the tests are asked for.
use Rattle.std.proofs.Common.{◌≡◌, ℕ, ◌<◌, ◌≤◌, true, List, [], ◌∷◌, map, codes, Option, Some, None, refl, sym, ap, ◌∙◌, subst, arith}
use Rattle.tg_model.specs.Tree.{Tree, truth}
use Rattle.tg_model.specs.Types as model
use Rattle.tg_model.specs.Types.{parameter, applied, tys}
use Rattle.tg_model.specs.Theory.{Program, Datatype}
use Rattle.tg_model.specs.TermTyping.{leaf}
use Rattle.tg_accept.specs.Declared.{Declared, nothing, theory}
use Rattle.tg_accept.specs.Meant.{IsDatatypeMeant, IsSpecificationMeant}
use Rattle.tg_declarations.specs.declared.definitions.ConDef.{ConDef}
use Rattle.tg_declarations.specs.declared.definitions.DataDef.{DataDef}
use Rattle.tg_declarations.specs.View.{constructor, datatype}
use Rattle.tg_types.specs.Types.{ty, ty-Param, ty-App}
use Rattle.tg_types.specs.declared.types.Ty.TheVariants.{Param, App}

-- True is a condition on any inputs
pub true_meant : (D : Declared) (t : Tree) → t ≡ truth true → IsSpecificationMeant (theory [] D) D.program t
true_meant D t same = subst (IsSpecificationMeant (theory [] D) D.program) (sym same) (by D.program)
  where
    by : (o : Option Program) → IsSpecificationMeant (theory [] D) o (truth true)
    by None = tt
    by (Some p) = (leaf model.bool, refl, refl)

-- a datatype as it is declared
as_declared : (def : DataDef) (params : ℕ) (cons : List ConDef) → def.params ≡ params → def.cons ≡ cons
    → datatype def ≡ record { name = def.name; parameters = params; constructors = map constructor cons }
as_declared def params cons p c = λ i. record { name = def.name; parameters = p i; constructors = map constructor (c i) }

-- `datatype endless = Again endless`
pub endless_meant : (D : Declared) (def : DataDef) → D ≡ nothing → def.params ≡ 0
    → def.cons ≡ record { name = codes "Again"; args = App 1 [] ∷ [] } ∷ [] → IsDatatypeMeant D (datatype def)
endless_meant D def d p c =
    let known : Datatype = record { name = def.name; parameters = 0; constructors = record { name = codes "Again"; arguments = applied 1 (tys []) ∷ [] } ∷ [] } in
    let types : record known { constructors = record { name = codes "Again"; arguments = ty (App 1 []) ∷ [] } ∷ [] } ≡ known =
    λ i. record known { constructors = record { name = codes "Again"; arguments = ty-App 1 [] i ∷ [] } ∷ [] } in
    let low : 1 < 2 = omega arith in
    subst (λ (x : Declared). IsDatatypeMeant x (datatype def)) (sym d)
    (subst (IsDatatypeMeant nothing) (sym (as_declared def 0 _ p c ∙ types)) ((((low, (known, refl, refl)), tt), tt), tt))

-- `datatype 'a list = Nil | Cons 'a ('a list)`
pub list_meant : (D : Declared) (def : DataDef) → D ≡ nothing → def.params ≡ 1
    → def.cons ≡ record { name = codes "Nil"; args = [] } ∷ record { name = codes "Cons"; args = Param 1 ∷ App 1 (Param 1 ∷ []) ∷ [] } ∷ [] → IsDatatypeMeant D (datatype def)
list_meant D def d p c =
    let known : Datatype = record {
      name = def.name;
      parameters = 1;
      constructors = record { name = codes "Nil"; arguments = [] } ∷ record { name = codes "Cons"; arguments = parameter 1 ∷ applied 1 (tys (parameter 1 ∷ [])) ∷ [] } ∷ [];
    } in
    let own : ty (App 1 (Param 1 ∷ [])) ≡ applied 1 (tys (parameter 1 ∷ [])) = ty-App 1 (Param 1 ∷ []) ∙ ap (λ t. applied 1 (tys (t ∷ []))) (ty-Param 1) in
    let types : record known {
      constructors = record { name = codes "Nil"; arguments = [] } ∷ record { name = codes "Cons"; arguments = ty (Param 1) ∷ ty (App 1 (Param 1 ∷ [])) ∷ [] } ∷ [];
    } ≡ known = λ i. record known {
      constructors = record { name = codes "Nil"; arguments = [] } ∷ record { name = codes "Cons"; arguments = ty-Param 1 i ∷ own i ∷ [] } ∷ [];
    } in
    let low : 1 < 2 = omega arith in
    let first : 0 < 1 = omega arith in
    let last : 1 ≤ 1 = omega arith in
    subst (λ (x : Declared). IsDatatypeMeant x (datatype def)) (sym d)
    (subst (IsDatatypeMeant nothing) (sym (as_declared def 1 _ p c ∙ types))
    (tt, (((first, last), (((low, (known, refl, refl)), ((first, last), tt)), tt)), tt)))
