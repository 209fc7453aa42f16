-- The terms of a conditional, a binding and a case distinction are read into a list, one after another.
use Rattle.std.proofs.Common.{◌≡◌, List, [], ◌∷◌, ◌++◌, refl, ◌∙◌}
use Rattle.tg_rules.specs.Rule.{nt, ◌∙∙◌}
use Rattle.tg_rules.specs.Reader.{Read, ok, err, out, mapped, followed, token_at}
use Rattle.tg_grammar.specs.declared.terms.RawTerm.{RawTerm}
use Rattle.tg_grammar.specs.declared.terms.RawTerm.TheVariants as terms
use Rattle.tg_grammar.specs.Kinds.{if_word, then_word, else_word, let_word, equal, in_word, case_word}
use Rattle.tg_grammar.specs.Notation.{◌▸◌, ◌◂◌}
use Rattle.tg_grammar.specs.Page.{conditional, binding, cases, branches}
use Rattle.tg_grammar.specs.Parts.{Mode, Term, Variable}
use Rattle.tg_grammar.specs.Reading.{kind, reads}
use Rattle.tg_grammar.specs.Seen.{Seen}
use Rattle.tg_reading.specs.Answers.{and_then, behind, by_rule}
use Rattle.tg_reading.specs.Pieces.{term_added}

-- ---- a token, a part and what stands behind it

second : {A : Type 0} (s : Seen) (r : Read Seen A) → mapped {A = Seen × A} (λ x. x.1) (mapped {B = Seen × A} (λ b. (s, b)) r) ≡ r
second s (ok b left) = refl
second s (err left) = refl
second s out = refl

module _ {A B C : Type 0} (make : A × B → C) (f : List Seen → Read Seen A) (g : List Seen → Read Seen B) where
  at_end : (s : Seen) (a : A) (r : Read Seen B)
      → mapped make (mapped {A = Seen × (A × B)} (λ x. x.1) (mapped {B = Seen × (A × B)} (λ b. (s, b)) (mapped {B = A × B} (λ b. (a, b)) r))) ≡ mapped (λ b. make (a, b)) r
  at_end s a (ok b left) = refl
  at_end s a (err left) = refl
  at_end s a out = refl

  at_part : (s : Seen) (r : Read Seen A)
      → mapped make (mapped {A = Seen × (A × B)} (λ x. x.1) (mapped {B = Seen × (A × B)} (λ b. (s, b)) (followed r g)))
      ≡ and_then (mapped {A = Seen × A} (λ x. x.1) (mapped {B = Seen × A} (λ b. (s, b)) r)) (λ a rest. mapped (λ b. make (a, b)) (g rest))
  at_part s (ok a rest) = at_end s a (g rest)
  at_part s (err left) = refl
  at_part s out = refl

  at_token : (t : Read Seen Seen)
      → mapped make (mapped {A = Seen × (A × B)} (λ x. x.1) (followed {B = A × B} t (λ ts. followed (f ts) g)))
      ≡ and_then (mapped {A = Seen × A} (λ x. x.1) (followed {B = A} t f)) (λ a rest. mapped (λ b. make (a, b)) (g rest))
  at_token (ok s rest) = at_part s (f rest)
  at_token (err left) = refl
  at_token out = refl

same_then : {A B : Type 0} (r : Read Seen A) (f g : A → List Seen → Read Seen B) → ((a : A) (ts : List Seen) → f a ts ≡ g a ts) → and_then r f ≡ and_then r g
same_then (ok a rest) f g same = same a rest
same_then (err left) f g same = refl
same_then out f g same = refl

-- ---- the list is made as the terms come

-- one term in the list
one_added : {A : Type 0} (r : Read Seen RawTerm) (next : List RawTerm → List Seen → Read Seen A)
    → and_then r (λ t rest. next (t ∷ []) rest) ≡ and_then (mapped (λ t. t ∷ []) r) next
one_added (ok t rest) next = refl
one_added (err left) next = refl
one_added out next = refl

-- and another behind it
two_added : (make : List RawTerm → RawTerm) (last : List Seen → Read Seen RawTerm) (r : Read Seen RawTerm)
    → and_then r (λ a rest. mapped (λ b. make (a ∷ b ∷ [])) (last rest)) ≡ mapped make (and_then (mapped (λ t. t ∷ []) r) (λ p rest. mapped (λ t. p ++ t ∷ []) (last rest)))
two_added make last (ok a rest) = go (last rest)
  where
    go : (r : Read Seen RawTerm) → mapped (λ b. make (a ∷ b ∷ [])) r ≡ mapped make (mapped (λ t. (a ∷ []) ++ t ∷ []) r)
    go (ok b left) = refl
    go (err left) = refl
    go out = refl
two_added make last (err left) = refl
two_added make last out = refl

three_added : (make : List RawTerm → RawTerm) (next last : List Seen → Read Seen RawTerm) (r : Read Seen RawTerm)
    → and_then r (λ c rest. and_then (next rest) (λ a rest. mapped (λ b. make (c ∷ a ∷ b ∷ [])) (last rest)))
    ≡ mapped make (and_then (and_then (mapped (λ t. t ∷ []) r) (λ p rest. mapped (λ t. p ++ t ∷ []) (next rest))) (λ p rest. mapped (λ t. p ++ t ∷ []) (last rest)))
three_added make next last (ok c rest) = go (next rest)
  where
    at_last : (a : RawTerm) (r : Read Seen RawTerm) → mapped (λ b. make (c ∷ a ∷ b ∷ [])) r ≡ mapped make (mapped (λ t. (c ∷ a ∷ []) ++ t ∷ []) r)
    at_last a (ok b left) = refl
    at_last a (err left) = refl
    at_last a out = refl

    go : (r : Read Seen RawTerm)
        → and_then r (λ a rest. mapped (λ b. make (c ∷ a ∷ b ∷ [])) (last rest))
        ≡ mapped make (and_then (mapped (λ t. (c ∷ []) ++ t ∷ []) r) (λ p rest. mapped (λ t. p ++ t ∷ []) (last rest)))
    go (ok a rest) = at_last a (last rest)
    go (err left) = refl
    go out = refl
three_added make next last (err left) = refl
three_added make next last out = refl

-- ---- the three

pub conditional_is : (m : Mode) (ts : List Seen)
    → by_rule (conditional m) ts ≡ mapped terms.If (and_then (and_then (term_added m if_word [] ts) (term_added m then_word)) (term_added m else_word))
unfolding term_added
conditional_is m ts =
    at_token (λ x. terms.If (x.0 ∷ x.1.0 ∷ x.1.1 ∷ [])) (reads (Term m)) (by_rule ("then" ▸ nt (Term m) ∙∙ "else" ▸ nt (Term m))) (token_at kind (if_word ∷ []) ts)
    ∙ same_then (behind if_word (reads (Term m)) ts) _ _
    (λ c rest. at_token (λ x. terms.If (c ∷ x.0 ∷ x.1 ∷ [])) (reads (Term m)) (behind else_word (reads (Term m))) (token_at kind (then_word ∷ []) rest))
    ∙ three_added terms.If (behind then_word (reads (Term m))) (behind else_word (reads (Term m))) (behind if_word (reads (Term m)) ts)

pub binding_is : (m : Mode) (ts : List Seen)
    → by_rule (binding m) ts ≡ and_then (behind let_word (reads (Variable m)) ts) (λ v rest. mapped (terms.Let v) (and_then (term_added m equal [] rest) (term_added m in_word)))
unfolding term_added
binding_is m ts =
    at_token (λ x. terms.Let x.0 (x.1.0 ∷ x.1.1 ∷ [])) (reads (Variable m)) (by_rule ("=" ▸ nt (Term m) ∙∙ "in" ▸ nt (Term m))) (token_at kind (let_word ∷ []) ts)
    ∙ same_then (behind let_word (reads (Variable m)) ts) _ _
    (λ v rest. at_token (λ x. terms.Let v (x.0 ∷ x.1 ∷ [])) (reads (Term m)) (behind in_word (reads (Term m))) (token_at kind (equal ∷ []) rest)
    ∙ two_added (terms.Let v) (behind in_word (reads (Term m))) (behind equal (reads (Term m)) rest))

pub cases_is : (m : Mode) (ts : List Seen)
    → by_rule (cases m) ts ≡ and_then (term_added m case_word [] ts) (λ p rest. mapped (terms.Case p) (by_rule ("of" ▸ "{" ▸ branches m ◂ "}") rest))
unfolding term_added
cases_is m ts =
    at_token (λ x. terms.Case (x.0 ∷ []) x.1) (reads (Term m)) (by_rule ("of" ▸ "{" ▸ branches m ◂ "}")) (token_at kind (case_word ∷ []) ts)
    ∙ one_added (behind case_word (reads (Term m)) ts) (λ p rest. mapped (terms.Case p) (by_rule ("of" ▸ "{" ▸ branches m ◂ "}") rest))

pub ruleset conditional_by = (conditional_is)

pub ruleset binding_by = (binding_is)

pub ruleset cases_by = (cases_is)
