-- Stacks of goals, and conditions before a term.
use Rattle.std.proofs.Common.{ℕ, zero, suc, ◌≡◌, ◌+◌, List, [], ◌∷◌, ◌++◌, map, take, reverse, Some, refl, ap, sym, ◌∙◌, add-one}
use Rattle.std.specs.Prelude.{slice_get}
use Rattle.std.proofs.lemmas.List.{map-append, reverse-append}
use Rattle.tg_model.specs.Tree.{Tree, op, two, implication}
use Rattle.tg_derive.specs.declared.goals.Goal as code
use Rattle.tg_derive.specs.Goals.{under}
use Rattle.tg_derive.specs.Answers.{goal_of, goals}

pub pushed : (vs ws : List code.Goal) (g : code.Goal) → ws ≡ vs ++ g ∷ [] → goals ws ≡ goal_of g ∷ goals vs
pushed vs ws g e = ap goals e ∙ ap reverse (map-append goal_of vs (g ∷ [])) ∙ reverse-append (map goal_of vs) (goal_of g ∷ [])

take_suc : {A : Type 0} (ls : List A) (i : ℕ) (x : A) → slice_get ls i ≡ Some x → take (suc i) ls ≡ take i ls ++ x ∷ []
take_suc [] i x e = cc e
take_suc (l ∷ ls) zero x e = let p : l ≡ x = cc e in ap (λ y. y ∷ []) p
take_suc (l ∷ ls) (suc i) x e = ap (λ rest. l ∷ rest) (take_suc ls i x e)

pub take_next : {A : Type 0} (ls : List A) (i : ℕ) (x : A) → slice_get ls i ≡ Some x → take (i + 1) ls ≡ take i ls ++ x ∷ []
take_next ls i x e = ap (λ n. take n ls) (add-one i) ∙ take_suc ls i x e

pub copied_next : (ls : List Tree) (i : ℕ) (x : Tree) (vs ws : List Tree) → slice_get ls i ≡ Some x → vs ≡ take i ls → ws ≡ vs ++ x ∷ []
    → ws ≡ take (i + 1) ls
copied_next ls i x vs ws e v w = w ∙ ap (λ l. l ++ x ∷ []) v ∙ sym (take_next ls i x e)

pub implied_last : (qs : List Tree) (q t : Tree) → under (qs ++ q ∷ []) t ≡ under qs (op implication (two q t))
implied_last [] q t = refl
implied_last (r ∷ qs) q t = ap (λ u. op implication (two r u)) (implied_last qs q t)

pub ruleset stacking = (pushed)

pub ruleset copying = (copied_next)

pub ruleset ends = (implied_last)
