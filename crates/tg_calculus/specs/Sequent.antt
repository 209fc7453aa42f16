-- Sequents as the rules write them: `G │ H ⊢ F` has the context `G`, the hypotheses `H` in the order in which a line keeps them, and
-- the goal `F`.
use Rattle.std.specs.Prelude.{ℕ, suc, Bool, false, ◌||◌, List, [], ◌∷◌, ◌++◌, length, if◌then◌else◌}
use Rattle.tg_model.specs.Tree.{Tree, op, one, two, equality, negation}
use Rattle.tg_model.specs.Types.{Ty}
use Rattle.tg_model.specs.Formula.{Formula, Sequent, atom}
use Rattle.tg_model.specs.Equality.{same_formula}
use Rattle.tg_model.specs.Uses.{uses_in_formula}

-- the types of `?1`, `?2` and so on
abbrev pub Context : Type 0
Context = List Ty

abbrev pub Hypotheses : Type 0
Hypotheses = List Formula

infix 30 ◌│◌⊢◌
abbrev pub ◌│◌⊢◌ : Context → Hypotheses → Formula → Sequent
G │ H ⊢ F = record { vars = G; hypotheses = H; goal = F }

abbrev pub equation : Tree → Tree → Formula
equation s t = atom (op equality (two s t))

abbrev pub denied : Tree → Formula
denied t = atom (op negation (one t))

abbrev pub Each : {A : Type 0} → (A → Type 0) → List A → Type 0
Each P [] = Unit {0}
Each P (x ∷ xs) = P x × Each P xs

-- `F` is among them
abbrev pub has : Hypotheses → Formula → Bool
has [] F = false
has (G ∷ H) F = same_formula G F || has H F

-- with `F` as the last, where it isn't there
abbrev pub added : Hypotheses → Formula → Hypotheses
added H F = if has H F then H else H ++ F ∷ []

-- those of the first, then those of the second that are new, in order
infixl 50 ◌∪◌
abbrev pub ◌∪◌ : Hypotheses → Hypotheses → Hypotheses
H ∪ [] = H
H ∪ (F ∷ K) = added H F ∪ K

-- without `F`
infixl 70 ◌∖◌
abbrev pub ◌∖◌ : Hypotheses → Formula → Hypotheses
[] ∖ F = []
(G ∷ H) ∖ F = if same_formula G F then H ∖ F else G ∷ (H ∖ F)

-- the number of the first variable past a context
abbrev pub next : Context → ℕ
next G = suc (length G)

-- of the variables from `?n` on, as many as there are types, some stands in `F`
abbrev pub uses_from : ℕ → List Ty → Formula → Bool
uses_from n [] F = false
uses_from n (T ∷ Ts) F = uses_in_formula n F || uses_from (suc n) Ts F

-- where the context `G` grows by the types `Ts`: some of the new variables stands in `F`; in some of the hypotheses
abbrev pub uses_new : Context → List Ty → Formula → Bool
uses_new G Ts F = uses_from (next G) Ts F

abbrev pub some_use_new : Context → List Ty → Hypotheses → Bool
some_use_new G Ts [] = false
some_use_new G Ts (F ∷ H) = uses_new G Ts F || some_use_new G Ts H
