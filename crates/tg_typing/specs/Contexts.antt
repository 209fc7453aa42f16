-- What a term is typed in, as the definitions have it.
use Rattle.std.specs.Prelude.{ℕ, ◌≡◌, [], Option, Some, option_map}
use Rattle.tg_model.specs.Types.{tys}
use Rattle.tg_model.specs.Theory.{Theory, Function, Owned, constructor_at, numbered}
use Rattle.tg_shared_types.specs.Growth.{IsDeclared, AreDeclared}
use Rattle.tg_accept.specs.Declared.{theory}
use Rattle.tg_declarations.specs.View.{function}
use Rattle.tg_typing.specs.declared.contexts.Context.{Context}

-- the theory of what is declared
abbrev pub theory_in : Context → Theory
theory_in x = theory [] x.declared.now

abbrev pub self_in : Context → Option Function
self_in x = option_map (λ f. function f.now) x.own

abbrev pub IsClosedFunction : Function → Type 0
IsClosedFunction f = AreDeclared (tys f.arguments) × IsDeclared f.answer

-- no declared type has an open one in it
pub record HasClosedTypes (th : Theory) (self : Option Function) : Type 0 where
  pub constructors : (c : ℕ) (o : Owned) → constructor_at th c ≡ Some o → AreDeclared (tys o.constructor.arguments)
  pub functions : (f : ℕ) (x : Function) → numbered th.functions f ≡ Some x → IsClosedFunction x
  pub own : (x : Function) → self ≡ Some x → IsClosedFunction x
  pub inputs : AreDeclared (tys th.program.inputs)
  pub answer : IsDeclared th.program.answer
