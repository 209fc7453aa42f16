-- The names that are declared.
use Rattle.std.specs.Prelude.{◌≡◌, Bool, true, false, List, [], ◌∷◌, ◌++◌, Option, Some, None, if◌then◌else◌}
use Rattle.std.specs.Option.{option_map_or}
use Rattle.tg_model.specs.Accepted.{constructor_names}
use Rattle.tg_accept.specs.Declared.{Declared}
use Rattle.tg_accept.specs.Faults.{is_taken}
use Rattle.tg_accept.specs.Kept.{names_of_types, name_of_program}
use Rattle.tg_accept.specs.Raw.{Name}
use Rattle.tg_accept.specs.Meaning as meaning
use Rattle.tg_accept.specs.Meaning.{number_of, names_of_functions}
use Rattle.tg_accept.specs.Datatypes.{are_taken}
use Rattle.tg_infer.specs.declared.words.Word.{Word}
use Rattle.tg_infer.specs.declared.words.Word.TheVariants as words
use Rattle.tg_infer.specs.declared.words.Words.{Words}

abbrev pub word : Word → meaning.Word
word (words.Con c) = meaning.constructor c
word (words.Fun f) = meaning.function f
word words.Program = meaning.the_program

abbrev pub program_names : Option Name → List Name
program_names None = []
program_names (Some x) = x ∷ []

-- the names are those of what is declared
pub record AreWordsOf (w : Words) (D : Declared) : Type 0 where
  pub types : w.types ≡ names_of_types D
  pub constructors : w.constructors ≡ constructor_names D.datatypes
  pub functions : w.functions ≡ names_of_functions D
  pub program : program_names w.program ≡ name_of_program D.program

-- what a word is declared as
abbrev pub word_in : Words → Name → Option meaning.Word
word_in w x =
    option_map_or (λ c. Some (meaning.constructor c))
    (number_of x w.constructors)
    (option_map_or (λ f. Some (meaning.function f))
    (number_of x w.functions)
    (if is_taken x (program_names w.program) then Some meaning.the_program else None))

-- the names of constructors, functions and the program are one space
abbrev pub values_in : Words → List Name
values_in w = w.constructors ++ (w.functions ++ program_names w.program)

-- the name of a datatype is added
pub record HaveType (old new : Words) (x : Name) : Type 0 where
  pub types : new.types ≡ old.types ++ x ∷ []
  pub constructors : new.constructors ≡ old.constructors
  pub functions : new.functions ≡ old.functions
  pub program : new.program ≡ old.program

-- the names of constructors are added
pub record HaveConstructors (old new : Words) (xs : List Name) : Type 0 where
  pub types : new.types ≡ old.types
  pub constructors : new.constructors ≡ old.constructors ++ xs
  pub functions : new.functions ≡ old.functions
  pub program : new.program ≡ old.program

-- none of the names was declared, and all are added; or one was, or stands twice
abbrev pub Takes : Words → Words → List Name → Bool → Type 0
Takes old new xs true = (are_taken (values_in old) xs ≡ false) × HaveConstructors old new xs
Takes old new xs false = are_taken (values_in old) xs ≡ true

-- the name of a function is added
pub record HaveFunction (old new : Words) (x : Name) : Type 0 where
  pub types : new.types ≡ old.types
  pub constructors : new.constructors ≡ old.constructors
  pub functions : new.functions ≡ old.functions ++ x ∷ []
  pub program : new.program ≡ old.program

-- the name of the program is set
pub record HaveProgram (old new : Words) (x : Name) : Type 0 where
  pub types : new.types ≡ old.types
  pub constructors : new.constructors ≡ old.constructors
  pub functions : new.functions ≡ old.functions
  pub program : new.program ≡ Some x
