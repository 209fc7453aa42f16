-- Each part is read as its rule says.
use Rattle.std.proofs.Common.{◌≡◌, ℕ, true, false, List, [], ◌∷◌, Option, Some, None, refl, ap, ◌∙◌}
use Rattle.tg_rules.specs.Reader.{Read, ok, err, out, mapped, followed, starts, token_at}
use Rattle.tg_rules.specs.Repetition.{with_front}
use Rattle.tg_grammar.specs.declared.types.RawTy.{RawTy}
use Rattle.tg_grammar.specs.declared.types.RawTy.TheVariants as types
use Rattle.tg_grammar.specs.First.{words}
use Rattle.tg_grammar.specs.Kinds.{open_paren, close_paren, comma}
use Rattle.tg_grammar.specs.Making.{applied, bracketed}
use Rattle.tg_grammar.specs.Seen.{Seen}
use Rattle.tg_grammar.specs.Parts.{SimpleType, TypeAtom, WholeType, AfterType}
use Rattle.tg_grammar.specs.Reading.{kind, reads, step}
use Rattle.tg_grammar.proofs.Readings.{reads_by_rule}
use Rattle.tg_reading.specs.Answers.{behind, optional_text, text_at}
use Rattle.tg_reading.specs.Pieces.{types_by_commas, named, behind_first}

pub simple_type_is : (ts : List Seen) → reads SimpleType ts ≡ step SimpleType ts
simple_type_is = reads_by_rule SimpleType

pub type_atom_is : (ts : List Seen) → reads TypeAtom ts ≡ step TypeAtom ts
type_atom_is = reads_by_rule TypeAtom

pub whole_type_is : (ts : List Seen) → reads WholeType ts ≡ step WholeType ts
whole_type_is = reads_by_rule WholeType

-- ---- a type in brackets, and what stands behind it

second : {A B : Type 0} (a : A) (r : Read Seen B) → mapped {A = A × B} (λ x. x.1) (mapped {B = A × B} (λ b. (a, b)) r) ≡ r
second a (ok b left) = refl
second a (err left) = refl
second a out = refl

mapped_twice : {A B C : Type 0} (f : B → C) (g : A → B) (r : Read Seen A) → mapped f (mapped g r) ≡ mapped (λ a. f (g a)) r
mapped_twice f g (ok a left) = refl
mapped_twice f g (err left) = refl
mapped_twice f g out = refl

-- behind the first of the types, which is read in front
first_of : (first : RawTy) (r : Read Seen (List RawTy × Option (List ℕ)))
    → mapped (λ x. bracketed x.0 x.1.0 x.1.1) (mapped {B = RawTy × (List RawTy × Option (List ℕ))} (λ b. (first, b)) r) ≡ mapped (λ x. bracketed first x.0 x.1) r
first_of first (ok x left) = refl
first_of first (err left) = refl
first_of first out = refl

alone : (first : RawTy) (r : Read Seen (Option (List ℕ))) → mapped (λ x. bracketed first x.0 x.1) (mapped {B = List RawTy × Option (List ℕ)} (λ w. ([], w)) r) ≡ mapped (applied first) r
alone first (ok None left) = refl
alone first (ok (Some name) left) = refl
alone first (err left) = refl
alone first out = refl

pub closed : (first : RawTy) (ts left : List Seen) (t : Seen) → starts kind (close_paren ∷ []) ts ≡ true → token_at kind (close_paren ∷ []) ts ≡ ok t left
    → behind_first first ts ≡ named first left
closed first ts left t e token =
    ap (mapped (λ x. bracketed first x.0 x.1)) (reads_by_rule AfterType ts ∙ rw (e, token) (ap (mapped (λ w. ([], w))) (second t (optional_text left)))) ∙ alone first (optional_text left)

-- the types that are read behind the first, with the first in front
module _ (first : RawTy) where
  -- behind the comma: the further types, the bracket and the name
  abbrev behind_comma : Seen → Read Seen (List RawTy × List ℕ) → Read Seen RawTy
  behind_comma t r =
      mapped {A = List RawTy × Option (List ℕ)} (λ x. bracketed first x.0 x.1)
      (mapped {A = List RawTy × List ℕ} {B = List RawTy × Option (List ℕ)} (λ x. (x.0, Some x.1))
      (mapped {A = Seen × (List RawTy × List ℕ)} (λ x. x.1) (mapped {B = Seen × (List RawTy × List ℕ)} (λ b. (t, b)) r)))

  abbrev named_by : Read Seen (List RawTy × List ℕ) → Read Seen RawTy
  named_by r = mapped {A = List RawTy × List ℕ} (λ x. types.Word x.1 x.0) r

  abbrev name_behind : Read Seen Seen → (List Seen → Read Seen (List ℕ)) → Read Seen (List ℕ)
  name_behind r name = mapped {A = Seen × List ℕ} (λ x. x.1) (followed {B = List ℕ} r name)

  at_name : (t : Seen) (tys : List RawTy) (r : Read Seen (List ℕ))
      → behind_comma t (mapped {B = List RawTy × List ℕ} (λ b. (tys, b)) r) ≡ named_by (mapped {B = List RawTy × List ℕ} (λ b. (first ∷ tys, b)) r)
  at_name t tys (ok n left) = refl
  at_name t tys (err left) = refl
  at_name t tys out = refl

  further : (t : Seen) (end : List Seen → Read Seen Seen) (name : List Seen → Read Seen (List ℕ)) (more : Read Seen (List RawTy))
      → behind_comma t (followed {B = List ℕ} more (λ ts. name_behind (end ts) name)) ≡ named_by (followed {B = List ℕ} (with_front (first ∷ []) more) (λ ts. name_behind (end ts) name))
  further t end name (ok tys rest) = at_name t tys (name_behind (end rest) name)
  further t end name (err left) = refl
  further t end name out = refl

pub several : (first : RawTy) (ts left : List Seen) (t : Seen) → starts kind (close_paren ∷ []) ts ≡ false → token_at kind (comma ∷ []) ts ≡ ok t left
    → behind_first first ts ≡ mapped {A = List RawTy × List ℕ} (λ x. types.Word x.1 x.0) (followed {B = List ℕ} (with_front (first ∷ []) (types_by_commas left)) (behind close_paren (text_at words)))
several first ts left t e token =
    ap (mapped (λ x. bracketed first x.0 x.1)) (reads_by_rule AfterType ts) ∙ rw (e, token) (further first t (token_at kind (close_paren ∷ [])) (text_at words) (types_by_commas left))

pub several_read : (first : RawTy) (ts again behind rest closed left : List Seen) (s t : Seen) (tys : List RawTy) (name : List ℕ)
    → starts kind (close_paren ∷ []) ts ≡ false → again ≡ ts → token_at kind (comma ∷ []) again ≡ ok s behind
    → with_front (first ∷ []) (types_by_commas behind) ≡ ok tys rest → token_at kind (close_paren ∷ []) rest ≡ ok t closed → text_at words closed ≡ ok name left
    → behind_first first ts ≡ ok (types.Word name tys) left
several_read first ts again behind rest closed left s t tys name e same token read close word =
    several first ts behind s e (rw same at token) ∙ rw (read, close, word) refl

pub no_comma : (first : RawTy) (ts left : List Seen) → starts kind (close_paren ∷ []) ts ≡ false → token_at kind (comma ∷ []) ts ≡ err left → behind_first first ts ≡ err left
no_comma first ts left e token = ap (mapped (λ x. bracketed first x.0 x.1)) (reads_by_rule AfterType ts) ∙ rw (e, token) refl

pub ruleset after_type_by = (closed, several, no_comma)

pub goes_behind : (ts rest left : List Seen) (s : Seen) (first : RawTy) → starts kind (open_paren ∷ []) ts ≡ true → token_at kind (open_paren ∷ []) ts ≡ ok s rest → reads WholeType rest ≡ ok first left
    → reads WholeType ts ≡ behind_first first left
goes_behind ts rest left s first e token read =
    reads_by_rule WholeType ts ∙ rw (e, token, read) (ap (mapped (λ x. bracketed x.0 x.1.0 x.1.1)) (second s (mapped (λ b. (first, b)) (reads AfterType left))) ∙ first_of first (reads AfterType left))

goes_on : (ty : RawTy) (r : Read Seen (Option (List ℕ))) → mapped (λ x. applied x.0 x.1) (mapped {B = RawTy × Option (List ℕ)} (λ b. (ty, b)) r) ≡ mapped (applied ty) r
goes_on ty (ok w left) = refl
goes_on ty (err left) = refl
goes_on ty out = refl

pub is_named : (ts left : List Seen) (ty : RawTy) → starts kind (open_paren ∷ []) ts ≡ false → reads SimpleType ts ≡ ok ty left → reads WholeType ts ≡ named ty left
is_named ts left ty e read = reads_by_rule WholeType ts ∙ rw (e, read) (goes_on ty (optional_text left))

pub ruleset whole_type_by = (goes_behind, is_named, whole_type_is)
