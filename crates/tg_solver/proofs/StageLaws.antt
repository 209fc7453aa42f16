-- The last variable that a constraint uses, and the stages one by one.
use Rattle.std.proofs.Common.{ℕ, zero, suc, ◌≡◌, ◌+◌, ◌-◌, ◌<◌, ◌≤◌, Bool, true, false, not, List, [], ◌∷◌, ◌++◌, map, length, take, get_or, refl, ap, sym, ◌∙◌, arith, add-one, if◌then◌else◌}
use Rattle.std.proofs.lemmas.List.{take_more, length-take-le}
use Rattle.tg_model.specs.Tree.{Tree}
use Rattle.tg_model.specs.Uses.{uses}
use Rattle.tg_model.proofs.Booleans.{if_true, if_false}
use Rattle.tg_solver.specs.Walk.{last_used, decided_by, stages_from}
use Rattle.tg_solver.specs.declared.stages.Stage.{Stage}

pub last_unused : (n : ℕ) (t : Tree) → 0 < n → uses n t ≡ false → last_used n t ≡ last_used (n - 1) t
last_unused zero t l e = absurd (omega arith)
last_unused (suc n) t l e = if_false (suc n) (last_used n t) (uses (suc n) t) e ∙ ap (λ k. last_used k t) (let s : n ≡ suc n - 1 = omega arith in s)

pub last_is_used : (n : ℕ) (t : Tree) → 0 < n → uses n t ≡ true → n ≡ last_used n t
last_is_used zero t l e = absurd (omega arith)
last_is_used (suc n) t l e = sym (if_true (suc n) (last_used n t) (uses (suc n) t) e)

pub ruleset last = (last_unused, last_is_used)

pub stages_push : (count number : ℕ) (truths : List Bool) (truth : Bool) (constraints : List Tree)
    → stages_from count number (truths ++ truth ∷ []) constraints
    ≡ stages_from count number truths constraints ++ record { truth = truth; decided = decided_by count (number + length truths) constraints } ∷ []
stages_push count number [] truth constraints =
    ap (λ n. record { truth = truth; decided = decided_by count n constraints } ∷ []) (let s : number ≡ number + 0 = omega arith in s)
stages_push count number (b ∷ truths) truth constraints =
    ap (λ (rest : List Stage). record { truth = b; decided = decided_by count number constraints } ∷ rest)
    (stages_push count (number + 1) truths truth constraints
    ∙ ap (λ n. stages_from count (number + 1) truths constraints ++ record { truth = truth; decided = decided_by count n constraints } ∷ [])
    (let s : number + 1 + length truths ≡ number + suc (length truths) = omega arith in s))

pub stages_more : (count number i : ℕ) (truths : List Bool) (constraints : List Tree) (d : Bool) (out more : List Stage) (decided : List Tree)
    → i < length truths → number ≡ i → out ≡ stages_from count 1 (take i truths) constraints → decided ≡ decided_by count (number + 1) constraints
    → more ≡ out ++ record { truth = get_or truths i d; decided = decided } ∷ [] → more ≡ stages_from count 1 (take (i + 1) truths) constraints
stages_more count number i truths constraints d out more decided l at made by pushed =
    pushed
    ∙ (λ k. made k ++ record { truth = get_or truths i d; decided = (by ∙ ap (λ n. decided_by count n constraints) next) k } ∷ [])
    ∙ sym (stages_push count 1 (take i truths) (get_or truths i d) constraints)
    ∙ ap (λ bs. stages_from count 1 bs constraints) (sym (take_more truths i d l))
  where
    next : number + 1 ≡ 1 + length (take i truths)
    next = let e = length-take-le i truths (omega arith) in omega arith

pub ruleset deciding = (add-one)
