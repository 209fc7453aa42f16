-- What is promised of the nodes of a use's types.
use Rattle.std.specs.Prelude.{ℕ, zero, suc, ◌≡◌, ◌<◌, Bool as Truth, true, false, List, map, length, Option, Some, None, option_map, slice_get}
use Rattle.tg_model.specs.Types.{Ty}
use Rattle.tg_model.specs.Theory.{Theory, Datatype, Function}
use Rattle.tg_types.specs.Substitutions.{Assignment}
use Rattle.tg_shared_types.specs.declared.nodes.Node.{Node}
use Rattle.tg_shared_types.specs.Nodes.{Fits, AreBelow}
use Rattle.tg_shared_types.specs.Growth.{Grows}
use Rattle.tg_shared_types.specs.Uniting.{Unites}
use Rattle.tg_term.specs.Operators.{operator}
use Rattle.tg_accept.specs.Resolved as resolved
use Rattle.tg_accept.specs.Resolved.{Resolved, Resolveds}
use Rattle.tg_typing.specs.Uses.{Use, UsesConstructor, UsesFunction, UsesOwn, UsesProgram, UsesChoice, UsesOperator}
use Rattle.tg_typing.specs.declared.framing.Used.{Used}
use Rattle.tg_typing.specs.declared.framing.Used.TheVariants.{Con, Call, Own, Put, If, Op}

-- the term that is a use of something at the arguments `ts`
abbrev pub use_term : Used → Resolveds → Resolved
use_term (Con c) ts = resolved.con c ts
use_term (Call f) ts = resolved.call f ts
use_term Own ts = resolved.own ts
use_term Put ts = resolved.put ts
use_term If ts = resolved.choice ts
use_term (Op o) ts = resolved.op (operator o) ts

abbrev pub IsUseOf : Theory → Option Function → List Ty → Used → Use → Type 0
IsUseOf th self ps (Con c) u = UsesConstructor th c u
IsUseOf th self ps (Call f) u = UsesFunction th f u
IsUseOf th self ps Own u = UsesOwn self ps u
IsUseOf th self ps Put u = UsesProgram th u
IsUseOf th self ps If u = UsesChoice u
IsUseOf th self ps (Op o) u = UsesOperator (operator o) u

abbrev pub nodes_if : Truth → List ℕ → Option (List ℕ)
nodes_if true es = Some es
nodes_if false es = None

-- the node `top` of the answer united with `e`: then the nodes `es` are found
abbrev pub Closes : List Node → List Node → ℕ → ℕ → List ℕ → Option (List ℕ) → Type 0
Closes old new top e es found = (ok : Truth) × Unites ok old top e new × (found ≡ nodes_if ok es)

-- nodes for the types of the arguments and the answer, which those of the nodes `us` settle; then the answer's united with `e`
pub record Ends (old new : List Node) (us : List ℕ) (arguments : List Ty → List Ty) (answer : List Ty → Ty) (e : ℕ) (found : Option (List ℕ)) : Type 0 where
  pub mid : List Node
  pub es : List ℕ
  pub top : ℕ
  pub grows : Grows old mid
  pub inside : top < length mid
  pub below : AreBelow (length mid) es
  pub answers : (ρ : Assignment) → Fits ρ mid → ρ top ≡ answer (map ρ us)
  pub takes : (ρ : Assignment) → Fits ρ mid → map ρ es ≡ arguments (map ρ us)
  pub closes : Closes mid new top e es found

-- how many type parameters datatype `n` has, 0 being nat
abbrev pub parameters_of : List Datatype → ℕ → Option ℕ
parameters_of xs zero = Some 0
parameters_of xs (suc d) = option_map (λ (x : Datatype). x.parameters) (slice_get xs d)
