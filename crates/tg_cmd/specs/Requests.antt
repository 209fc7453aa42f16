-- What the words of a run ask for: a command, and what stands behind its word.
use Rattle.std.specs.Prelude.{ℕ, ◌≡◌, List, [], ◌∷◌, ◌++◌, codes, IsTrue}
use Rattle.tg_lex.specs.Grammar.{is_word}
use Rattle.tg_types.specs.declared.options.Settings.{Settings}
use Rattle.tg_cmd.specs.Options.{ReadsOptions}
use Rattle.tg_cmd.specs.declared.request.Command.{Command}
use Rattle.tg_cmd.specs.declared.request.Command.TheVariants as commands
use Rattle.tg_cmd.specs.declared.request.Request as code
use Rattle.tg_cmd.specs.declared.request.Request.TheVariants.{Generate, Harness, Judge, Simulate, Check}

pub data Request : Type 0 where
  generate : (s : Settings) → Request
  harness : (s : Settings) → Request
  judge : (s : Settings) → Request
  -- the function of the name stands in as the program
  simulate : (name : List ℕ) (s : Settings) → Request
  -- without options
  check : Request

-- these words, and then options that make the settings
abbrev pub HasOptions : List (List ℕ) → List (List ℕ) → Settings → Type 0
HasOptions front words s = (rest : List (List ℕ)) × (words ≡ front ++ rest) × ReadsOptions rest s

abbrev pub ReadsWords : List (List ℕ) → Request → Type 0
ReadsWords words (generate s) = HasOptions (codes "generate" ∷ []) words s
ReadsWords words (harness s) = HasOptions (codes "harness" ∷ []) words s
ReadsWords words (judge s) = HasOptions (codes "judge" ∷ []) words s
ReadsWords words (simulate name s) = IsTrue (is_word name) × HasOptions (codes "simulate" ∷ name ∷ []) words s
ReadsWords words check = words ≡ codes "check" ∷ []

-- the words are those of some request
abbrev pub IsCommand : List (List ℕ) → Type 0
IsCommand words = (r : Request) × ReadsWords words r

-- The words ask for this, and for nothing else.
pub record AskFor (words : List (List ℕ)) (r : Request) : Type 0 where
  pub reads : ReadsWords words r
  pub only : (q : Request) → ReadsWords words q → r ≡ q

-- ---- as the program has them

abbrev pub asked : code.Request → Request
asked (Generate s) = generate s
asked (Harness s) = harness s
asked (Judge s) = judge s
asked (Simulate name s) = simulate name.now s
asked Check = check

abbrev pub command_word : Command → List ℕ
command_word commands.Generate = codes "generate"
command_word commands.Harness = codes "harness"
command_word commands.Judge = codes "judge"
command_word commands.Simulate = codes "simulate"
command_word commands.Check = codes "check"

-- a name, and then options that make the settings
abbrev pub NamesWith : List (List ℕ) → List ℕ → Settings → Type 0
NamesWith words name s = IsTrue (is_word name) × HasOptions (name ∷ []) words s
