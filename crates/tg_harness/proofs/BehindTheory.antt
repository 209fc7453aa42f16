-- Outcomes behind a theory are a text that is read as both.
use Rattle.std.proofs.Common.{List, ◌++◌, refl}
use Rattle.tg_rules.proofs.Heights.{by_rule}
use Rattle.tg_grammar.specs.Page.{page}
use Rattle.tg_grammar.specs.Parts.{Value, Theory, Outcomes, Judge}
use Rattle.tg_grammar.specs.Reading.{IsText, kind}
use Rattle.tg_grammar.specs.Seen.{Seen}

pub behind_theory : (v : Value Judge) (ts us : List Seen) → IsText Theory v.0 ts → IsText Outcomes v.1 us → IsText Judge v (ts ++ us)
behind_theory v ts us theory outcomes = by_rule kind page Judge v (ts ++ us) (ts, us, theory, outcomes, refl)
