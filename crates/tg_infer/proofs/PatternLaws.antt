-- What patterns mean.
use Rattle.std.proofs.Common.{ℕ, ◌≡◌, Bool, true, false, List, [], Option, Some, None, refl, sym, ◌∙◌, ap, if◌then◌else◌}
use Rattle.std.specs.Prelude.{option_map}
use Rattle.std.specs.Option.{option_map_or}
use Rattle.std.specs.List.{list_any}
use Rattle.tg_accept.specs.Declared.{Declared}
use Rattle.tg_accept.specs.Equations as model
use Rattle.tg_accept.specs.Equations.{pattern_meant, variable_meant}
use Rattle.tg_accept.specs.Faults.{is_taken}
use Rattle.tg_accept.specs.Meaning.{Scope, constructor_named, taken_names, head_meant}
use Rattle.tg_accept.specs.Raw as raw
use Rattle.tg_accept.specs.Resolved as resolved
use Rattle.tg_infer.specs.declared.words.Words.{Words}
use Rattle.tg_grammar.specs.declared.declarations.RawPat.TheVariants.{Con}
use Rattle.tg_grammar.specs.declared.terms.RawCon.{RawCon}
use Rattle.tg_infer.specs.View.{head, raw_pattern}
use Rattle.tg_infer.specs.Words.{AreWordsOf}
use Rattle.tg_infer.proofs.WordLaws.{same_constructor}

pub taken_bracketed : (S : Scope) (con : RawCon) (xs : List (List ℕ)) → list_any (λ x. is_taken x (taken_names S)) xs ≡ true
    → None ≡ pattern_meant S (raw_pattern (Con con xs))
taken_bracketed S con xs e = sym (ap (λ b. if b then None else option_map (λ h. model.matched h xs) (head_meant S.declared (head con))) e)

pub found_bracketed : (S : Scope) (con : RawCon) (xs names : List (List ℕ)) (h : resolved.Head) → list_any (λ x. is_taken x (taken_names S)) xs ≡ false
    → Some h ≡ head_meant S.declared (head con) → names ≡ xs → Some (model.matched h names) ≡ pattern_meant S (raw_pattern (Con con xs))
found_bracketed S con xs names h e f g =
    ap (λ l. Some (model.matched h l)) g ∙ ap (option_map (λ k. model.matched k xs)) f
    ∙ sym (ap (λ b. if b then None else option_map (λ k. model.matched k xs) (head_meant S.declared (head con))) e)

pub ruleset patterns = (same_constructor, taken_bracketed, found_bracketed)
