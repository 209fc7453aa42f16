-- What words are.
use Rattle.std.proofs.Common.{ℕ, ◌≡◌, true, false, ◌&&◌, List, [], ◌∷◌, length, Option, Some, None, refl, sym, ◌∙◌, ap, arith, if◌then◌else◌}
use Rattle.std.specs.Prelude.{option_map}
use Rattle.std.specs.Option.{option_map_or}
use Rattle.tg_accept.specs.Faults.{is_taken}
use Rattle.tg_accept.specs.Meaning.{Scope, variable_on, variable_named, word_on, word_named, word_meant, declared_on, place_of}
use Rattle.tg_accept.specs.Raw.{Binder, name}
use Rattle.tg_accept.specs.Resolved as model
use Rattle.tg_accept.specs.Resolved.{Resolveds}
use Rattle.tg_typing.specs.declared.resolved.Resolved.{Resolved}
use Rattle.tg_typing.specs.declared.resolved.Resolved.TheVariants.{Misused}
use Rattle.tg_typing.specs.declared.resolved.Resolved.TheVariants as resolveds
use Rattle.tg_typing.specs.View.{resolved, all_resolved, resolved-Bound, resolved-Free, resolved-Misused}
use Rattle.tg_infer.specs.declared.words.Word.{Word}
use Rattle.tg_infer.specs.declared.words.Words.{Words}
use Rattle.tg_infer.specs.declared.uses.Use.TheVariants.{Bound, Free, Own, Declared}
use Rattle.tg_infer.specs.Words.{AreWordsOf, word, word_in}
use Rattle.tg_infer.specs.Uses.{use_on, IsMeaning}
use Rattle.tg_infer.proofs.WordLaws.{same_word}

pub is_bound : (S : Scope) (locs : List Binder) (x : List ℕ) (k : ℕ) → Some k ≡ place_of (name x) locs → IsMeaning S locs x (Some (Bound k))
is_bound S locs x k e = record {
  is = λ us. ap (λ o. option_map_or (λ k. Some (variable_on (model.bound k) us)) o
      (option_map_or (λ n. Some (variable_on (model.free n) us)) (variable_named x S.variables) (declared_on S x us))) e;
}

-- no variable of a binder
outer : (S : Scope) (locs : List Binder) (x : List ℕ) (us : Resolveds) → None ≡ place_of (name x) locs
    → option_map_or (λ n. Some (variable_on (model.free n) us)) (variable_named x S.variables) (declared_on S x us) ≡ word_meant S locs x us
outer S locs x us e = ap (λ o. option_map_or (λ k. Some (variable_on (model.bound k) us)) o
    (option_map_or (λ n. Some (variable_on (model.free n) us)) (variable_named x S.variables) (declared_on S x us))) e

pub is_free : (S : Scope) (locs : List Binder) (x : List ℕ) (n : ℕ) → None ≡ place_of (name x) locs → Some n ≡ variable_named x S.variables
    → IsMeaning S locs x (Some (Free n))
is_free S locs x n e f = record {
  is = λ us. ap (λ o. option_map_or (λ n. Some (variable_on (model.free n) us)) o (declared_on S x us)) f ∙ outer S locs x us e;
}

-- no variable
declared : (S : Scope) (locs : List Binder) (x : List ℕ) (us : Resolveds) → None ≡ place_of (name x) locs → None ≡ variable_named x S.variables
    → declared_on S x us ≡ word_meant S locs x us
declared S locs x us e f = ap (λ o. option_map_or (λ n. Some (variable_on (model.free n) us)) o (declared_on S x us)) f ∙ outer S locs x us e

pub is_own : (S : Scope) (locs : List Binder) (x : List ℕ) → None ≡ place_of (name x) locs → None ≡ variable_named x S.variables
    → (S.is_recursive && is_taken x S.own) ≡ true → IsMeaning S locs x (Some Own)
is_own S locs x e f own = record {
  is = λ us. ap (λ b. if b then Some (model.own us) else option_map (word_on us) (word_named S.declared x)) (sym own) ∙ declared S locs x us e f;
}

pub is_declared : (S : Scope) (w : Words) (locs : List Binder) (x : List ℕ) (found : Option Word) → AreWordsOf w S.declared
    → None ≡ place_of (name x) locs → None ≡ variable_named x S.variables → (S.is_recursive && is_taken x S.own) ≡ false
    → option_map word found ≡ word_in w x → IsMeaning S locs x (option_map Declared found)
is_declared S w locs x found h e f own is = record {
  is = λ us.
      inside us found ∙ ap (option_map (word_on us)) (is ∙ same_word w S.declared x h)
      ∙ ap (λ b. if b then Some (model.own us) else option_map (word_on us) (word_named S.declared x)) (sym own) ∙ declared S locs x us e f;
}
  where
    inside : (us : Resolveds) (o : Option Word) → option_map (λ u. use_on u us) (option_map Declared o) ≡ option_map (word_on us) (option_map word o)
    inside us None = refl
    inside us (Some w) = refl

pub ruleset meanings = (is_bound, is_free, is_own, is_declared)

alone : (v : model.Resolved) (us : List Resolved) → length us ≡ 0 → v ≡ variable_on v (all_resolved us)
alone v [] e = refl
alone v (u ∷ us) e = absurd (omega (arith, e))

pub bound_alone : (k : ℕ) (us : List Resolved) → length us ≡ 0 → resolved (resolveds.Bound k) ≡ variable_on (model.bound k) (all_resolved us)
bound_alone k us e = resolved-Bound k ∙ alone (model.bound k) us e

pub free_alone : (n : ℕ) (us : List Resolved) → length us ≡ 0 → resolved (resolveds.Free n) ≡ variable_on (model.free n) (all_resolved us)
free_alone n us e = resolved-Free n ∙ alone (model.free n) us e

pub misused : (v : model.Resolved) (us : List Resolved) → ¬ (length us ≡ 0) → resolved (Misused us) ≡ variable_on v (all_resolved us)
misused v [] e = absurd (e refl)
misused v (u ∷ us) e = resolved-Misused (u ∷ us)

pub ruleset variables = (bound_alone, free_alone, misused)
