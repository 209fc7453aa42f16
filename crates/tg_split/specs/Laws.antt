-- What patterns cover.
use Rattle.std.specs.Prelude.{ℕ, ◌≡◌, ◌≤◌, ◌⊎◌, List, [], ◌∷◌, map, length}
use Rattle.tg_model.specs.Value.{Value, depth, IsShallow}
use Rattle.tg_model.specs.Types.{Ty, tys}
use Rattle.tg_model.specs.Theory.{Theory, AreClosed}
use Rattle.tg_model.specs.Table.{Table}
use Rattle.tg_model.specs.Denotation.{world, values_in}
use Rattle.tg_model.specs.TermTyping.{AllTyped}
use Rattle.tg_model.specs.Accepted.{IsAccepted}
use Rattle.tg_model.specs.Typing.{HasType, AreTyped}
use Rattle.tg_model.specs.Filling.{fill, HaveVariables}
use Rattle.tg_model.specs.Made.{AreMade}
use Rattle.tg_split.specs.Patterns.{Pattern, Input, patterns, patterns_at}

-- how many items have a property: none, exactly one, or all
module _ {A : Type 0} (P : A → Type 0) where
  abbrev pub NoneOf : List A → Type 0
  NoneOf [] = Unit {0}
  NoneOf (x ∷ xs) = (¬ (P x)) × NoneOf xs

  abbrev pub OneOf : List A → Type 0
  OneOf [] = ⊥
  OneOf (x ∷ xs) = (P x × NoneOf xs) ⊎ ((¬ (P x)) × OneOf xs)

  abbrev pub AllOf : List A → Type 0
  AllOf [] = Unit {0}
  AllOf (x ∷ xs) = P x × AllOf xs

-- the inputs are the pattern at some values of its variables' types
abbrev pub Matches : Theory → List Value → Pattern → Type 0
Matches th inputs p = (vs : List Value) × AreTyped th vs p.variables × (fill vs p.terms ≡ inputs)

-- Inputs of the program's types match exactly one pattern where none is deeper than `k`, and else no pattern.
abbrev pub CoversOnce : Type 0
CoversOnce = (th : Theory) (k : ℕ) (inputs : List Value) → AreTyped th inputs th.program.inputs
    → (IsShallow k inputs → OneOf (Matches th inputs) (patterns th k))
    × ((¬ (IsShallow k inputs)) → NoneOf (Matches th inputs) (patterns th k))

-- one value for each input, of its type
abbrev pub AreInputs : Theory → List Input → List Value → Type 0
AreInputs th [] [] = Unit {0}
AreInputs th (p ∷ ps) (v ∷ vs) = HasType th v p.1 × AreInputs th ps vs
AreInputs th _ _ = ⊥

-- no value is deeper than its input's depth
abbrev pub AreShallow : List Input → List Value → Type 0
AreShallow [] [] = Unit {0}
AreShallow (p ∷ ps) (v ∷ vs) = (depth v ≤ p.0) × AreShallow ps vs
AreShallow _ _ = ⊥

-- the same with a depth for each input
abbrev pub CoversEachOnce : Type 0
CoversEachOnce = (th : Theory) (ps : List Input) (inputs : List Value) → AreInputs th ps inputs
    → (AreShallow ps inputs → OneOf (Matches th inputs) (patterns_at th ps))
    × ((¬ (AreShallow ps inputs)) → NoneOf (Matches th inputs) (patterns_at th ps))

-- Each of a pattern's variables stands in its terms, which are made of variables and constructors, and other values of the
-- variables give other inputs.
pub record IsLinear (p : Pattern) : Type 0 where
  pub have : HaveVariables (length p.variables) p.terms
  pub made : AreMade p.terms
  pub injective : (vs ws : List Value) → length vs ≡ length p.variables → length ws ≡ length p.variables
      → fill vs p.terms ≡ fill ws p.terms → vs ≡ ws

abbrev pub PatternsAreLinear : Type 0
PatternsAreLinear = (th : Theory) (ps : List Input) → AllOf IsLinear (patterns_at th ps)

-- The terms of a pattern have the inputs' types, in order, where its variables have theirs, which are closed. They are made of
-- variables and constructors, and their values on any table are the pattern at the values of its variables.
pub record IsPatternOf (th : Theory) (ts : List Ty) (p : Pattern) : Type 0 where
  pub closed : AreClosed th (tys p.variables)
  pub typed : AllTyped th p.variables [] p.terms ts
  pub value : (tb : Table) (vs : List Value) → values_in (world th tb) vs [] p.terms ≡ fill vs p.terms
  pub made : AreMade p.terms

abbrev pub PatternsAreTyped : Type 0
PatternsAreTyped = (th : Theory) (k : ℕ) → IsAccepted th → AllOf (IsPatternOf th th.program.inputs) (patterns th k)

abbrev pub input_types : List Input → List Ty
input_types ps = map (λ (p : Input). p.1) ps

-- the same with a depth for each input
abbrev pub EachPatternIsTyped : Type 0
EachPatternIsTyped = (th : Theory) (ps : List Input) → IsAccepted th → AreClosed th (tys (input_types ps))
    → AllOf (IsPatternOf th (input_types ps)) (patterns_at th ps)
