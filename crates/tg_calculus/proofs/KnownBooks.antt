-- Books, and lists of lines that are none, known by hand. Lines are numbered from 1, and a line's premises are earlier lines.
use Rattle.std.proofs.Common.{ℕ, ◌≡◌, Bool, true, false, refl, List, [], ◌∷◌, Some, None}
use Rattle.tg_model.specs.Types.{bool}
use Rattle.tg_model.specs.TermTyping.{leaf}
use Rattle.tg_model.specs.Formula.{Sequent, both, implies}
use Rattle.tg_model.proofs.KnownValues.{sorting}
use Rattle.tg_calculus.specs.Sequent.{Context, ◌│◌⊢◌}
use Rattle.tg_calculus.specs.Draft.{Need}
use Rattle.tg_calculus.specs.Rule as rule
use Rattle.tg_calculus.specs.Rule.{Rule}
use Rattle.tg_calculus.specs.Step as step
use Rattle.tg_calculus.specs.Book.{Line, premises_at, Passes, IsRefusedAt, concluded}
use Rattle.tg_calculus.proofs.KnownWords.{a, b}

abbrev G : Context
G = bool ∷ bool ∷ []

abbrev p : Sequent
p = G │ a ∷ [] ⊢ a

abbrev q : Sequent
q = G │ [] ⊢ b

numbers : (premises_at (p ∷ q ∷ []) (1 ∷ 2 ∷ 1 ∷ []) ≡ Some (p ∷ q ∷ p ∷ [])) × (premises_at (p ∷ q ∷ []) [] ≡ Some [])
    × (premises_at (p ∷ q ∷ []) (0 ∷ []) ≡ None) × (premises_at (p ∷ q ∷ []) (3 ∷ []) ≡ None) × (premises_at (p ∷ q ∷ []) (1 ∷ 3 ∷ []) ≡ None)
numbers = (refl, refl, refl, refl, refl)

abbrev line : Rule → List ℕ → Line
line r ns = record { rule = r; premises = ns }

abbrev all_met : Need → Bool
all_met n = true

concluded_lines : (concluded sorting all_met (p ∷ q ∷ []) (line rule.and_i (2 ∷ 1 ∷ [])) ≡ Some (G │ a ∷ [] ⊢ both b a))
    × (concluded sorting all_met (p ∷ q ∷ []) (line rule.and_i (2 ∷ 3 ∷ [])) ≡ None) × (concluded sorting all_met (p ∷ []) (line rule.and_l (1 ∷ [])) ≡ None)
    × (concluded sorting (λ n. false) (p ∷ []) (line (rule.imp_i a) (1 ∷ [])) ≡ None)
concluded_lines = (refl, refl, refl, refl)

-- `a` from `a`, and then `a --> a`
abbrev first : Line
first = line (rule.hyp G a) []

abbrev second : Line
second = line (rule.imp_i a) (1 ∷ [])

passes : Passes sorting (first ∷ second ∷ []) (record { line = first; sequent = p } ∷ record { line = second; sequent = G │ [] ⊢ implies a a } ∷ [])
passes = (
  (
    record { premises = []; at = refl; step = step.hyp (tt, (tt, tt)) (leaf bool, refl, refl) },
    (record { premises = p ∷ []; at = refl; step = step.imp_i (leaf bool, refl, refl) }, tt),
  ),
  refl,
)

-- a line can't have itself as a premise, whatever comes after it
refused : IsRefusedAt sorting (first ∷ line (rule.imp_i a) (2 ∷ []) ∷ second ∷ []) 2
refused = record {
  before = record { line = first; sequent = p } ∷ [];
  line = line (rule.imp_i a) (2 ∷ []);
  after = second ∷ [];
  book = (record { premises = []; at = refl; step = step.hyp (tt, (tt, tt)) (leaf bool, refl, refl) }, tt);
  are = refl;
  place = refl;
  none = λ s i. let e : None ≡ Some i.premises = i.at in cc e;
}
