-- Each part of datatypes is read as its rule says.
use Rattle.std.proofs.Common.{◌≡◌, ℕ, refl, true, false, List, [], ◌∷◌, ◌++◌}
use Rattle.tg_rules.specs.Reader.{Read, ok, err, out, mapped, followed, starts, token_at}
use Rattle.tg_rules.specs.Repetition.{with_front}
use Rattle.tg_rules.proofs.Repetition.{without_front, last_one, one_behind, some_fault}
use Rattle.tg_grammar.specs.Seen.{Seen}
use Rattle.tg_grammar.specs.Reading.{kind, reads, step}
use Rattle.tg_grammar.proofs.Readings.{reads_by_rule}
use Rattle.tg_grammar.specs.declared.declarations.RawConDef.{RawConDef}
use Rattle.tg_grammar.specs.Kinds.{open_paren, close_paren, comma, or, type_variable}
use Rattle.tg_grammar.specs.Parts.{Parameters, MoreParameters, Constructor, MoreConstructors}
use Rattle.tg_grammar.specs.Page.{parameters, several_parameters, constructors_of}
use Rattle.tg_reading.specs.Answers.{by_rule, text_at}

pub parameters_is : (ts : List Seen) → reads Parameters ts ≡ step Parameters ts
parameters_is = reads_by_rule Parameters

pub constructor_is : (ts : List Seen) → reads Constructor ts ≡ step Constructor ts
constructor_is = reads_by_rule Constructor

-- the type variables that are read behind the first, with the first in front
module _ (first : List ℕ) where
  at_end : (s t : Seen) (names : List (List ℕ)) (r : Read Seen Seen)
      → mapped {A = List ℕ × List (List ℕ)} (λ x. x.0 ∷ x.1) (mapped {A = Seen × (List ℕ × List (List ℕ))} (λ x. x.1) (mapped {B = Seen × (List ℕ × List (List ℕ))} (λ b. (s, b)) (mapped {B = List ℕ × List (List ℕ)} (λ b. (first, b)) (mapped {A = Seen × List (List ℕ)} (λ x. x.1) (mapped {B = Seen × List (List ℕ)} (λ b. (t, b)) (mapped {A = List (List ℕ) × Seen} (λ x. x.0) (mapped {B = List (List ℕ) × Seen} (λ b. (names, b)) r)))))))
      ≡ mapped {A = List (List ℕ) × Seen} (λ x. x.0) (mapped {B = List (List ℕ) × Seen} (λ b. (first ∷ names, b)) r)
  at_end s t names (ok u left) = refl
  at_end s t names (err left) = refl
  at_end s t names out = refl

  further : (s t : Seen) (end : List Seen → Read Seen Seen) (more : Read Seen (List (List ℕ)))
      → mapped {A = List ℕ × List (List ℕ)} (λ x. x.0 ∷ x.1) (mapped {A = Seen × (List ℕ × List (List ℕ))} (λ x. x.1) (mapped {B = Seen × (List ℕ × List (List ℕ))} (λ b. (s, b)) (mapped {B = List ℕ × List (List ℕ)} (λ b. (first, b)) (mapped {A = Seen × List (List ℕ)} (λ x. x.1) (mapped {B = Seen × List (List ℕ)} (λ b. (t, b)) (mapped {A = List (List ℕ) × Seen} (λ x. x.0) (followed {B = Seen} more end)))))))
      ≡ mapped {A = List (List ℕ) × Seen} (λ x. x.0) (followed {B = Seen} (with_front (first ∷ []) more) end)
  further s t end (ok names rest) = at_end s t names (end rest)
  further s t end (err left) = refl
  further s t end out = refl

pub several_goes_on : (ts rest behind left : List Seen) (first : List ℕ) (s t : Seen) → token_at kind (open_paren ∷ []) ts ≡ ok s rest
    → text_at (type_variable ∷ []) rest ≡ ok first behind → token_at kind (comma ∷ []) behind ≡ ok t left
    → by_rule several_parameters ts ≡ mapped {A = List (List ℕ) × Seen} (λ x. x.0) (followed {B = Seen} (with_front (first ∷ []) (by_rule parameters left)) (token_at kind (close_paren ∷ [])))
several_goes_on ts rest behind left first s t opening read token =
    rw (opening, read, token) (further first s t (token_at kind (close_paren ∷ [])) (by_rule parameters left))

pub ruleset several_by = (several_goes_on)

-- ---- repetitions

pub type_variables_end : (front : List (List ℕ)) (ts rest : List Seen) (x : List ℕ) → text_at (type_variable ∷ []) ts ≡ ok x rest → starts kind (comma ∷ []) rest ≡ false
    → with_front front (by_rule parameters ts) ≡ ok (front ++ x ∷ []) rest
type_variables_end = last_one (starts kind (comma ∷ [])) (text_at (type_variable ∷ [])) (reads MoreParameters) (token_at kind (comma ∷ [])) (reads_by_rule MoreParameters)

pub type_variables_next : (front : List (List ℕ)) (ts rest left : List Seen) (x : List ℕ) (s : Seen) → text_at (type_variable ∷ []) ts ≡ ok x rest → starts kind (comma ∷ []) rest ≡ true
    → token_at kind (comma ∷ []) rest ≡ ok s left → with_front front (by_rule parameters ts) ≡ with_front (front ++ x ∷ []) (by_rule parameters left)
type_variables_next = one_behind (starts kind (comma ∷ [])) (text_at (type_variable ∷ [])) (reads MoreParameters) (token_at kind (comma ∷ [])) (reads_by_rule MoreParameters)

pub type_variables_fault : (front : List (List ℕ)) (ts left : List Seen) → text_at (type_variable ∷ []) ts ≡ err left → with_front front (by_rule parameters ts) ≡ err left
type_variables_fault = some_fault (starts kind (comma ∷ [])) (text_at (type_variable ∷ [])) (reads MoreParameters)

pub ruleset type_variables_by = (type_variables_end, type_variables_next, type_variables_fault)

pub constructors_begin : (ts : List Seen) → with_front [] (by_rule constructors_of ts) ≡ by_rule constructors_of ts
constructors_begin ts = without_front (by_rule constructors_of ts)

pub constructors_end : (front : List RawConDef) (ts rest : List Seen) (x : RawConDef) → reads Constructor ts ≡ ok x rest → starts kind (or ∷ []) rest ≡ false
    → with_front front (by_rule constructors_of ts) ≡ ok (front ++ x ∷ []) rest
constructors_end = last_one (starts kind (or ∷ [])) (reads Constructor) (reads MoreConstructors) (token_at kind (or ∷ [])) (reads_by_rule MoreConstructors)

pub constructors_next : (front : List RawConDef) (ts rest left : List Seen) (x : RawConDef) (s : Seen) → reads Constructor ts ≡ ok x rest → starts kind (or ∷ []) rest ≡ true
    → token_at kind (or ∷ []) rest ≡ ok s left → with_front front (by_rule constructors_of ts) ≡ with_front (front ++ x ∷ []) (by_rule constructors_of left)
constructors_next = one_behind (starts kind (or ∷ [])) (reads Constructor) (reads MoreConstructors) (token_at kind (or ∷ [])) (reads_by_rule MoreConstructors)

pub constructors_fault : (front : List RawConDef) (ts left : List Seen) → reads Constructor ts ≡ err left → with_front front (by_rule constructors_of ts) ≡ err left
constructors_fault = some_fault (starts kind (or ∷ [])) (reads Constructor) (reads MoreConstructors)

pub ruleset constructors_by = (constructors_begin, constructors_end, constructors_next, constructors_fault)
