-- Each part of formulas is read as its rule says.
use Rattle.std.proofs.Common.{◌≡◌, List}
use Rattle.tg_grammar.specs.Seen.{Seen}
use Rattle.tg_grammar.specs.Parts.{Formula, MarkedFormula, InnerFormula}
use Rattle.tg_grammar.specs.Reading.{reads, step}
use Rattle.tg_grammar.proofs.Readings.{reads_by_rule}

pub formula_is : (ts : List Seen) → reads Formula ts ≡ step Formula ts
formula_is = reads_by_rule Formula

pub marked_formula_is : (ts : List Seen) → reads MarkedFormula ts ≡ step MarkedFormula ts
marked_formula_is = reads_by_rule MarkedFormula

pub inner_formula_is : (ts : List Seen) → reads InnerFormula ts ≡ step InnerFormula ts
inner_formula_is = reads_by_rule InnerFormula
