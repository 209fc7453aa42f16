-- The choices by data, one class after another.
use Rattle.std.proofs.Common.{ℕ, zero, suc, ◌≡◌, ◌+◌, List, [], ◌∷◌, ◌++◌, length, map, take, Some, refl, sym, ap, ◌∙◌, arith, add-one}
use Rattle.std.specs.Prelude.{slice_get}
use Rattle.tg_model.specs.Theory.{Theory}
use Rattle.tg_types.specs.declared.options.Settings.{Settings}
use Rattle.tg_term.specs.Classes.{variables_of}
use Rattle.tg_term.specs.declared.classes.Class as code_class
use Rattle.tg_hyps.specs.Hypotheses.{seen}
use Rattle.tg_solver.specs.Candidates.{first_candidate}
use Rattle.tg_derive.specs.Answers.{choice_of}
use Rattle.tg_derive.specs.Theorem.{Choice}
use Rattle.tg_derive.specs.declared.theorems.Choice as code_choice
use Rattle.tg_cmd.specs.Data.{found}

module _ (th : Theory) (s : Settings) where
  abbrev first : code_class.Class → ℕ → Choice
  first c n = first_candidate th (variables_of c.pattern) c.constraints s n

  next_from : (n : ℕ) (cs : List code_class.Class) (i : ℕ) (c : code_class.Class) → slice_get cs i ≡ Some c
      → found th s n (map seen (take (suc i) cs)) ≡ found th s n (map seen (take i cs)) ++ first c (n + i) ∷ []
  next_from n [] i c e = absurd cc
  next_from n (d ∷ cs) zero c e =
      let p : d ≡ c = cc e in
      let z : n ≡ n + 0 = omega arith in
      λ k. first (p k) (z k) ∷ []
  next_from n (d ∷ cs) (suc i) c e =
      let z : suc n + i ≡ n + suc i = omega arith in
      ap (λ l. first d n ∷ l)
      (next_from (suc n) cs i c e ∙ ap (λ m. found th s (suc n) (map seen (take i cs)) ++ first c m ∷ []) z)

  pub choice_next : (cs : List code_class.Class) (i number : ℕ) (c : code_class.Class) (x : code_choice.Choice) (vs ws : List code_choice.Choice)
      → slice_get cs i ≡ Some c → number ≡ i + 1 → map choice_of vs ≡ found th s 1 (map seen (take i cs))
      → choice_of x ≡ first c number → ws ≡ vs ++ x ∷ []
      → map choice_of ws ≡ found th s 1 (map seen (take (i + 1) cs))
  choice_next cs i number c x vs ws e m v f w =
      let z : number ≡ 1 + i = omega (arith, m) in
      ap (map choice_of) w ∙ map_last vs x
      ∙ (λ k. v k ++ (f ∙ ap (first c) z) k ∷ [])
      ∙ sym (next_from 1 cs i c e)
      ∙ ap (λ m. found th s 1 (map seen (take m cs))) (sym (add-one i))
    where
      map_last : (vs : List code_choice.Choice) (x : code_choice.Choice) → map choice_of (vs ++ x ∷ []) ≡ map choice_of vs ++ choice_of x ∷ []
      map_last [] x = refl
      map_last (v ∷ vs) x = ap (λ l. choice_of v ∷ l) (map_last vs x)

found_count : (th : Theory) (s : Settings) (n : ℕ) (cs : List code_class.Class) → length (found th s n (map seen cs)) ≡ length cs
found_count th s n [] = refl
found_count th s n (c ∷ cs) = ap suc (found_count th s (suc n) cs)

map_count : (xs : List code_choice.Choice) → length (map choice_of xs) ≡ length xs
map_count [] = refl
map_count (x ∷ xs) = ap suc (map_count xs)

-- a choice for each class
pub as_many : (th : Theory) (s : Settings) (cs : List code_class.Class) (xs : List code_choice.Choice) → map choice_of xs ≡ found th s 1 (map seen cs)
    → length cs ≡ length xs
as_many th s cs xs e = sym (found_count th s 1 cs) ∙ ap length (sym e) ∙ map_count xs

pub ruleset finding = (choice_next)
