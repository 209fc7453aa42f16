-- What the answers on typings promise.
use Rattle.std.specs.Prelude.{ℕ, ◌≡◌, List, [], map, reverse, Option, Some, None}
use Rattle.tg_model.specs.Types.{Ty, tys}
use Rattle.tg_model.specs.Theory.{Theory, Function}
use Rattle.tg_model.specs.Accepted.{parameters_from}
use Rattle.tg_model.specs.TermTyping.{Typing, type_of}
use Rattle.tg_types.specs.declared.types.Ty as declared
use Rattle.tg_types.specs.Types.{ty, types}
use Rattle.tg_shared_types.specs.declared.nodes.Node.{Node}
use Rattle.tg_shared_types.specs.declared.settling.Solutions.{Solutions}
use Rattle.tg_shared_types.specs.declared.settling.Solutions.TheVariants as solutions
use Rattle.tg_accept.specs.Resolved.{Resolved}
use Rattle.tg_accept.specs.ResolvedTyping.{IsTypingOf}
use Rattle.tg_typing.specs.declared.typings.Typings.{Typings}
use Rattle.tg_typing.specs.declared.typings.Typings.TheVariants as typings
use Rattle.tg_typing.specs.Counts.{HasNoTyping, HasOneTyping, HasTwoTypings}
use Rattle.tg_typing.specs.Nodes.{AllStand}

abbrev pub Counts : (Typing → Type 0) → Typings → Type 0
Counts Is typings.None = HasNoTyping Is
Counts Is typings.One = HasOneTyping Is
Counts Is typings.Several = HasTwoTypings Is

abbrev pub answer_of : Solutions → Typings
answer_of solutions.Zero = typings.None
answer_of solutions.One = typings.One
answer_of solutions.Several = typings.Several

-- the types that stand for the type parameters of the function that is being declared: they themselves
abbrev pub own_parameters : Option Function → List Ty
own_parameters None = []
own_parameters (Some x) = parameters_from 1 x.parameters

-- a typing of the term outside all binders, where the free variables have the types `vars`
abbrev pub IsTypingIn : Theory → Option Function → List declared.Ty → Resolved → Typing → Type 0
IsTypingIn th self vars t d = IsTypingOf th self (own_parameters self) (map ty vars) [] t d

-- a typing of the term at a type, where the loose bound variables have the types `locs`, the outermost first
abbrev pub IsTypingAt : Theory → Option Function → List declared.Ty → List declared.Ty → Resolved → Ty → Typing → Type 0
IsTypingAt th self vars locs t u d = IsTypingOf th self (own_parameters self) (map ty vars) (reverse (map ty locs)) t d × (type_of d ≡ u)

-- nodes of the type parameters and of the variables' types
pub record Prepares (old new : List Node) (self : Option Function) (vars : List declared.Ty) (parameters free : List ℕ) : Type 0 where
  pub mid : List Node
  pub first : AllStand old (tys (own_parameters self)) mid parameters
  pub then_vars : AllStand mid (types vars) new free
