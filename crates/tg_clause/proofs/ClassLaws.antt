-- The constraints and checks of a clause, literal by literal.
use Rattle.std.proofs.Common.{ℕ, ◌≡◌, ◌+◌, Bool, true, false, not, List, [], ◌∷◌, ◌++◌, map, take, Some, ap, sym, ◌∙◌}
use Rattle.std.specs.Prelude.{slice_get, cond}
use Rattle.std.specs.List.{filter}
use Rattle.std.proofs.lemmas.List.{map-append}
use Rattle.tg_model.specs.Tree.{Tree}
use Rattle.tg_model.specs.Calls.{has_call}
use Rattle.tg_clause.specs.declared.literals.Literal.{Literal}
use Rattle.tg_clause.specs.Clauses.{Clause, said, opposite}
use Rattle.tg_clause.specs.Classes.{term_of, constraints_of, checks_of}
use Rattle.tg_clause.proofs.ListLaws.{filter_next, append_none}

abbrev has_none : Literal → Bool
has_none l = not (has_call l.atom)

abbrev has_one : Literal → Bool
has_one l = has_call l.atom

mapped_next : (f : Literal → Tree) (p : Literal → Bool) (c : Clause) (i : ℕ) (l : Literal) → slice_get c i ≡ Some l
    → map f (filter p (take (i + 1) c)) ≡ map f (filter p (take i c)) ++ map f (cond (p l) (l ∷ []) [])
mapped_next f p c i l e = ap (map f) (filter_next p c i l e) ∙ map-append f (filter p (take i c)) (cond (p l) (l ∷ []) [])

pub constraint_next : (c : Clause) (i : ℕ) (l : Literal) (t : Tree) (vs ws : List Tree) → slice_get c i ≡ Some l → vs ≡ constraints_of (take i c)
    → has_call l.atom ≡ false → t ≡ term_of (said (not l.positive) l.atom) → ws ≡ vs ++ t ∷ [] → ws ≡ constraints_of (take (i + 1) c)
constraint_next c i l t vs ws e v h s w =
    w ∙ (λ j. v j ++ s j ∷ [])
    ∙ sym (mapped_next (λ l. term_of (opposite l)) has_none c i l e ∙ ap (λ b. constraints_of (take i c) ++ map (λ l. term_of (opposite l)) (cond (not b) (l ∷ []) [])) h)

pub no_constraint : (c : Clause) (i : ℕ) (l : Literal) (vs : List Tree) → slice_get c i ≡ Some l → vs ≡ constraints_of (take i c) → has_call l.atom ≡ true
    → vs ≡ constraints_of (take (i + 1) c)
no_constraint c i l vs e v h =
    v ∙ append_none (constraints_of (take i c))
    ∙ sym (mapped_next (λ l. term_of (opposite l)) has_none c i l e ∙ ap (λ b. constraints_of (take i c) ++ map (λ l. term_of (opposite l)) (cond (not b) (l ∷ []) [])) h)

pub check_next : (c : Clause) (i : ℕ) (l : Literal) (t : Tree) (vs ws : List Tree) → slice_get c i ≡ Some l → vs ≡ checks_of (take i c)
    → has_call l.atom ≡ true → t ≡ term_of (said l.positive l.atom) → ws ≡ vs ++ t ∷ [] → ws ≡ checks_of (take (i + 1) c)
check_next c i l t vs ws e v h s w =
    w ∙ (λ j. v j ++ s j ∷ [])
    ∙ sym (mapped_next term_of has_one c i l e ∙ ap (λ b. checks_of (take i c) ++ map term_of (cond b (l ∷ []) [])) h)

pub no_check : (c : Clause) (i : ℕ) (l : Literal) (vs : List Tree) → slice_get c i ≡ Some l → vs ≡ checks_of (take i c) → has_call l.atom ≡ false
    → vs ≡ checks_of (take (i + 1) c)
no_check c i l vs e v h =
    v ∙ append_none (checks_of (take i c))
    ∙ sym (mapped_next term_of has_one c i l e ∙ ap (λ b. checks_of (take i c) ++ map term_of (cond b (l ∷ []) [])) h)

pub ruleset classing = (constraint_next, no_constraint, check_next, no_check)
