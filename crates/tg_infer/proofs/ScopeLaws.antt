-- What the names in a scope are.
use Rattle.std.proofs.Common.{ℕ, ◌≡◌, Bool, true, false, ◌||◌, List, [], ◌∷◌, ◌++◌, Option, Some, None, refl, sym, ◌∙◌, ap, if◌then◌else◌}
use Rattle.std.specs.Map.{lookup}
use Rattle.std.specs.Str.{bytes_eq}
use Rattle.tg_accept.specs.Declared.{Declared}
use Rattle.tg_accept.specs.Faults.{is_taken}
use Rattle.tg_accept.specs.Kept.{names_of_values}
use Rattle.tg_accept.specs.Meaning.{variable_named}
use Rattle.std.proofs.lemmas.Slice.Eq.{bytes_eq-Decides}
use Rattle.tg_infer.specs.Scopes.{AreSameVariables}
use Rattle.tg_theory.proofs.Taken.{taken_append}
use Rattle.tg_infer.specs.declared.words.Words.{Words}
use Rattle.tg_infer.specs.Words.{AreWordsOf, values_in}
use Rattle.tg_infer.proofs.BinderLaws.{binders_length, same_flip}
use Rattle.tg_infer.proofs.WordLaws.{same_values, same_constructor, taken_one}

pub named_is : (x : List ℕ) (vs : List (List ℕ × ℕ)) → variable_named x vs ≡ lookup (bytes_eq x) vs
named_is x [] = refl
named_is x (v ∷ vs) = ap (λ o. if bytes_eq x v.0 then Some v.1 else o) (named_is x vs)

pub ruleset variables = (named_is)

pub taken_names : (w : Words) (D : Declared) (x : List ℕ) (own : List (List ℕ)) → AreWordsOf w D
    → is_taken x (names_of_values D ++ own) ≡ (is_taken x (values_in w) || is_taken x own)
taken_names w D x own h = taken_append x (names_of_values D) own ∙ ap (λ l. is_taken x l || is_taken x own) (sym (same_values w D h))

pub ruleset scopes = (taken_names, taken_one, same_constructor, binders_length)

-- ---- a variable more

pub known_front : (x : List ℕ) (n : ℕ) (vs ws : List (List ℕ × ℕ))
    → ((y : List ℕ) → lookup (bytes_eq y) ws ≡ (if bytes_eq x y then Some n else lookup (bytes_eq y) vs)) → AreSameVariables ws ((x, n) ∷ vs)
known_front x n vs ws is = record {
  is = λ y.
      named_is y ws ∙ is y ∙ ap (λ o. if bytes_eq x y then Some n else o) (sym (named_is y vs))
      ∙ ap (λ b. if b then Some n else variable_named y vs) (same_flip x y);
}

pub ruleset adding = (known_front)
