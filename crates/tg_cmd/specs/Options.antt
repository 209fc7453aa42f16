-- The options of a run, each at most once with its number.
use Rattle.std.specs.Prelude.{ℕ, ◌≡◌, ◌≤◌, ◌^◌, ◌-◌, ◌⊎◌, List, [], ◌∷◌, All, codes, decimal, Option, Some, None, unwrap_or}
use Rattle.tg_types.specs.declared.options.Settings.{Settings}
use Rattle.tg_cmd.specs.declared.options.Setting.{Setting}
use Rattle.tg_cmd.specs.declared.options.Setting.TheVariants.{Depth, Bound, Seed, Tries, Width}
use Rattle.tg_cmd.specs.declared.options.Chosen.{Chosen}

abbrev pub option_word : Setting → List ℕ
option_word Depth = codes "--depth"
option_word Bound = codes "--bound"
option_word Seed = codes "--seed"
option_word Tries = codes "--tries"
option_word Width = codes "--width"

abbrev pub least : Setting → ℕ
least Depth = 1
least Bound = 0
least Seed = 0
least Tries = 0
least Width = 1

abbrev pub greatest : Setting → ℕ
greatest Depth = 8
greatest Bound = 20000
greatest Seed = 2 ^ 64 - 1
greatest Tries = 100000
greatest Width = 32

-- an option and its number
abbrev pub Choice : Type 0
Choice = Setting × ℕ

abbrev pub IsChoice : Choice → Type 0
IsChoice c = (least c.0 ≤ c.1) × (c.1 ≤ greatest c.0)

-- two words a choice; the number has no zero in front
abbrev pub spelled : List Choice → List (List ℕ)
spelled [] = []
spelled (c ∷ cs) = option_word c.0 ∷ decimal c.1 ∷ spelled cs

abbrev pub IsAmong : Setting → List Choice → Type 0
IsAmong s [] = ⊥
IsAmong s (c ∷ cs) = (c.0 ≡ s) ⊎ IsAmong s cs

-- no option stands twice
abbrev pub AreOnce : List Choice → Type 0
AreOnce [] = Unit {0}
AreOnce (c ∷ cs) = (¬ IsAmong c.0 cs) × AreOnce cs

-- ---- the settings

abbrev pub nothing_chosen : Chosen
nothing_chosen = record { depth = None; bound = None; seed = None; tries = None; width = None }

abbrev pub choice_of : Chosen → Setting → Option ℕ
choice_of c Depth = c.depth
choice_of c Bound = c.bound
choice_of c Seed = c.seed
choice_of c Tries = c.tries
choice_of c Width = c.width

abbrev pub chosen : Chosen → Setting → ℕ → Chosen
chosen c Depth n = record c { depth = Some n }
chosen c Bound n = record c { bound = Some n }
chosen c Seed n = record c { seed = Some n }
chosen c Tries n = record c { tries = Some n }
chosen c Width n = record c { width = Some n }

abbrev pub all_chosen : Chosen → List Choice → Chosen
all_chosen c [] = c
all_chosen c (x ∷ xs) = all_chosen (chosen c x.0 x.1) xs

-- what is chosen, else the default
abbrev pub settings_in : Chosen → Settings
settings_in c = record {
  depth = unwrap_or c.depth 3;
  bound = unwrap_or c.bound 8;
  seed = unwrap_or c.seed 1;
  tries = unwrap_or c.tries 1000;
  width = unwrap_or c.width 16;
}

-- The words are choices that make the settings.
abbrev pub ReadsOptions : List (List ℕ) → Settings → Type 0
ReadsOptions words s =
    (choices : List Choice) × All IsChoice choices × AreOnce choices × (words ≡ spelled choices)
    × (s ≡ settings_in (all_chosen nothing_chosen choices))

-- ---- reading them, where some options were given before

abbrev pub IsFree : Chosen → Choice → Type 0
IsFree given c = choice_of given c.0 ≡ None

-- these words are these choices, and none of them was given before
pub record Spell (words : List (List ℕ)) (given : Chosen) (choices : List Choice) : Type 0 where
  pub allowed : All IsChoice choices
  pub once : AreOnce choices
  pub free : All (IsFree given) choices
  pub spelled : words ≡ spelled choices

-- two words are a choice
pub record IsSpelled (option number : List ℕ) (c : Choice) : Type 0 where
  pub allowed : IsChoice c
  pub named : option ≡ option_word c.0
  pub numbered : number ≡ decimal c.1
