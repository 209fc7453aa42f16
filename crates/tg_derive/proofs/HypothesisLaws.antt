-- The hypotheses of classes, one class after the other.
use Rattle.std.proofs.Common.{ℕ, zero, suc, ◌≡◌, ◌+◌, List, [], ◌∷◌, ◌++◌, map, take, Some, ap, sym, ◌∙◌, append_assoc, add-one, arith}
use Rattle.std.specs.Prelude.{slice_get}
use Rattle.std.proofs.lemmas.List.{append-nil}
use Rattle.tg_term.specs.declared.classes.Class as code_class
use Rattle.tg_hyps.specs.Hypotheses.{seen}
use Rattle.tg_derive.specs.declared.theorems.Choice as code_choice
use Rattle.tg_derive.specs.declared.theorems.Hypothesis as code_hypothesis
use Rattle.tg_derive.specs.Theorem.{Hypothesis, of_class, of_classes, formulas}
use Rattle.tg_derive.specs.Answers.{choice_of, hypothesis}
use Rattle.tg_model.specs.Formula.{Formula}

next_from : (n : ℕ) (cs : List code_class.Class) (xs : List code_choice.Choice) (i : ℕ) (c : code_class.Class) (x : code_choice.Choice)
    → slice_get cs i ≡ Some c → slice_get xs i ≡ Some x
    → of_classes n (map seen (take (suc i) cs)) (map choice_of (take (suc i) xs))
    ≡ of_classes n (map seen (take i cs)) (map choice_of (take i xs)) ++ of_class (n + i) (seen c) (choice_of x)
next_from n [] xs i c x e f = cc e
next_from n (d ∷ cs) [] i c x e f = cc f
next_from n (d ∷ cs) (y ∷ xs) zero c x e f =
    let p : d ≡ c = cc e in
    let q : y ≡ x = cc f in
    let z : n ≡ n + 0 = omega arith in
    append-nil (of_class n (seen d) (choice_of y)) ∙ (λ k. of_class (z k) (seen (p k)) (choice_of (q k)))
next_from n (d ∷ cs) (y ∷ xs) (suc i) c x e f =
    let z : suc n + i ≡ n + suc i = omega arith in
    ap (λ l. of_class n (seen d) (choice_of y) ++ l)
    (next_from (suc n) cs xs i c x e f ∙ ap (λ m. of_classes (suc n) (map seen (take i cs)) (map choice_of (take i xs)) ++ of_class m (seen c) (choice_of x)) z)
    ∙ sym (append_assoc (of_class n (seen d) (choice_of y)) (of_classes (suc n) (map seen (take i cs)) (map choice_of (take i xs))) (of_class (n + suc i) (seen c) (choice_of x)))

pub class_next : (cs : List code_class.Class) (xs : List code_choice.Choice) (i : ℕ) (c : code_class.Class) (x : code_choice.Choice) (vs ws : List Hypothesis)
    → slice_get cs i ≡ Some c → slice_get xs i ≡ Some x → vs ≡ of_classes 1 (map seen (take i cs)) (map choice_of (take i xs))
    → ws ≡ vs ++ of_class (i + 1) (seen c) (choice_of x)
    → ws ≡ of_classes 1 (map seen (take (i + 1) cs)) (map choice_of (take (i + 1) xs))
class_next cs xs i c x vs ws e f v w =
    let z : i + 1 ≡ 1 + i = omega arith in
    w ∙ (λ k. v k ++ of_class (z k) (seen c) (choice_of x)) ∙ sym (next_from 1 cs xs i c x e f)
    ∙ ap (λ m. of_classes 1 (map seen (take m cs)) (map choice_of (take m xs))) (sym (add-one i))

pub ruleset numbering = (class_next)

pub ruleset adding = (append_assoc)

-- a formula more
pub formula_next : (hs : List code_hypothesis.Hypothesis) (i : ℕ) (h : code_hypothesis.Hypothesis) (vs ws : List Formula) → slice_get hs i ≡ Some h
    → vs ≡ formulas (map hypothesis (take i hs)) → ws ≡ vs ++ h.formula ∷ [] → ws ≡ formulas (map hypothesis (take (i + 1) hs))
formula_next hs i h vs ws e v w =
    w ∙ ap (λ l. l ++ h.formula ∷ []) v ∙ sym (next hs i e) ∙ ap (λ m. formulas (map hypothesis (take m hs))) (sym (add-one i))
  where
    next : (hs : List code_hypothesis.Hypothesis) (i : ℕ) → slice_get hs i ≡ Some h
        → formulas (map hypothesis (take (suc i) hs)) ≡ formulas (map hypothesis (take i hs)) ++ h.formula ∷ []
    next [] i e = absurd cc
    next (g ∷ hs) zero e = let p : g ≡ h = cc e in ap (λ x. x.formula ∷ []) p
    next (g ∷ hs) (suc i) e = ap (λ l. g.formula ∷ l) (next hs i e)

pub ruleset sequents = (formula_next)
