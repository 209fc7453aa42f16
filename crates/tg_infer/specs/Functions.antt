-- Declarations of functions.
use Rattle.std.specs.Prelude.{ℕ, ◌≡◌, ◌↔◌, Bool, true, false, List, Option, Some, None}
use Rattle.tg_accept.specs.Checks.{Each, Any}
use Rattle.tg_accept.specs.Declared.{Declared}
use Rattle.tg_accept.specs.Functions as model
use Rattle.tg_accept.specs.Functions.{whole_function, IsTypable, HasOneTypingEach, HasTwoTypingsSomewhere}
use Rattle.tg_accept.specs.MeantLaws.{IsFunctionWritten}
use Rattle.tg_accept.specs.Raw.{Name, RawType, RawEquation, RawDeclaration, primrec, definition}
use Rattle.tg_accept.specs.Theories.{IsSmall}
use Rattle.tg_accept.specs.Typings.{HasTyping, HasOneTyping, HasTwoTypings}
use Rattle.tg_declarations.specs.View.{function}
use Rattle.tg_equations.specs.View.{equations}
use Rattle.tg_model.specs.TermTyping.{Typing}
use Rattle.tg_model.specs.Theory.{Function}
use Rattle.tg_typing.specs.declared.typings.Typings.{Typings}
use Rattle.tg_typing.specs.declared.typings.Typings.TheVariants as counts
use Rattle.tg_infer.specs.declared.functions.Meant.{Meant}
use Rattle.tg_infer.specs.declared.refusals.Kind.{Kind}
use Rattle.tg_infer.specs.declared.refusals.Kind.TheVariants as kinds

-- a function that may use itself, or one that may not
abbrev pub raw_function : Bool → Name → List RawType → List RawEquation → RawDeclaration
raw_function true x ts es = primrec x ts es
raw_function false x ts es = definition x ts es

abbrev pub seen_meant : Meant → model.Meant
seen_meant m = record { signature = function m.signature; equations = equations m.equations }

abbrev pub SmallSides : List RawEquation → Type 0
SmallSides es = Each (λ (e : RawEquation). IsSmall e.body) es

-- the function, where its equations have their shape, but for the uses that it makes of itself
abbrev pub IsWritten : Declared → Bool → model.Meant → Option Function → Type 0
IsWritten D r m (Some f) = IsFunctionWritten D r m × (f ≡ whole_function D r m)
IsWritten D r m None = ¬ (IsFunctionWritten D r m)

-- which fault of typing there is, if there is one
abbrev pub IsTypingFault : Declared → Bool → model.Meant → Option Kind → Type 0
IsTypingFault D r m None = IsTypable D r m × HasOneTypingEach D r m
IsTypingFault D r m (Some kinds.Typing) = ¬ (IsTypable D r m)
IsTypingFault D r m (Some kinds.Ambiguous) = IsTypable D r m × HasTwoTypingsSomewhere D r m
IsTypingFault D r m (Some k) = ⊥

-- how many typings a list of equations has: none where one has none, and several where one has several
abbrev pub HaveTypings : {A : Type 0} → (A → Typing → Type 0) → List A → Typings → Type 0
HaveTypings Is es counts.None = ¬ (Each (λ e. HasTyping (Is e)) es)
HaveTypings Is es counts.One = Each (λ e. HasTyping (Is e)) es × Each (λ e. HasOneTyping (Is e)) es
HaveTypings Is es counts.Several = Each (λ e. HasTyping (Is e)) es × Any (λ e. HasTwoTypings (Is e)) es
