-- The name of a rule is taken.
use Rattle.std.proofs.Common.{◌≡◌, ℕ, true, List, [], ◌∷◌, drop, Some, sym, ◌∙◌, ap}
use Rattle.tg_rules.specs.Rule.{has}
use Rattle.tg_rules.specs.Reader.{ok}
use Rattle.tg_grammar.specs.First.{rules}
use Rattle.tg_grammar.specs.Seen.{Seen}
use Rattle.tg_reading.specs.Answers.{next_kind, rule_at}

pub rule_taken : (ts left : List Seen) (k : ℕ) → next_kind ts ≡ Some k → has rules k ≡ true → left ≡ drop 1 ts → rule_at ts ≡ ok k left
rule_taken [] left k e h rest = cc
rule_taken (t ∷ ts) left k e h rest =
    let s : t.kind ≡ k = cc e in
    let taken : has rules t.kind ≡ true = ap (has rules) s ∙ h in
    rw taken (λ i. ok (s i) (sym rest i))
