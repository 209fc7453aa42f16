-- Tables: what a program answered at finitely many inputs.
use Rattle.std.specs.Prelude.{◌≡◌, ◌⊎◌, List, [], ◌∷◌, Option, Some, None, unwrap_or, if◌then◌else◌}
use Rattle.tg_model.specs.Value.{Value, values, same_values}
use Rattle.tg_model.specs.Theory.{Theory}
use Rattle.tg_model.specs.Typing.{HasType, AreTyped, least}

pub record Entry : Type 0 where
  pub inputs : List Value
  pub answer : Value

abbrev pub Table : Type 0
Table = List Entry

abbrev pub IsListed : Table → List Value → Type 0
IsListed [] vs = ⊥
IsListed (e ∷ tb) vs = (e.inputs ≡ vs) ⊎ IsListed tb vs

-- the table lists these inputs with this answer
abbrev pub Lists : Table → List Value → Value → Type 0
Lists [] vs v = ⊥
Lists (e ∷ tb) vs v = ((e.inputs ≡ vs) × (e.answer ≡ v)) ⊎ Lists tb vs v

abbrev pub recorded : Table → List Value → Option Value
recorded [] vs = None
recorded (e ∷ tb) vs = if same_values (values e.inputs) (values vs) then Some e.answer else recorded tb vs

-- what the program answers: the least value of its type where the inputs aren't listed
abbrev pub answer_of : Theory → Table → List Value → Value
answer_of th tb vs = unwrap_or (recorded tb vs) (least th th.program.answer)

-- each entry is of the declared types, and no two have the same inputs
abbrev pub IsTable : Theory → Table → Type 0
IsTable th [] = Unit {0}
IsTable th (e ∷ tb) =
    AreTyped th e.inputs th.program.inputs × HasType th e.answer th.program.answer × (¬ (IsListed tb e.inputs)) × IsTable th tb
