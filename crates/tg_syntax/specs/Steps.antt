-- How a step of a certificate is read: the arguments of its rule, one after another, into a line.
use Rattle.std.specs.Prelude.{ℕ, ◌≡◌, List, [], ◌∷◌, Result, Ok, Err, if◌then◌else◌}
use Rattle.tg_rules.specs.Rule.{has, nt, ◌∙∙◌}
use Rattle.tg_rules.specs.Reader.{Read, ok, err, mapped, followed}
use Rattle.tg_grammar.specs.declared.certificates.Argument.{Argument}
use Rattle.tg_grammar.specs.declared.certificates.RawLine.{RawLine}
use Rattle.tg_grammar.specs.declared.types.RawTy.{RawTy}
use Rattle.tg_grammar.specs.Making.{no_arguments, with_arguments}
use Rattle.tg_grammar.specs.Notation.{quoted, some}
use Rattle.tg_grammar.specs.Parts.{TypeAtom, MoreTypeAtoms}
use Rattle.tg_grammar.specs.Seen.{Seen}
use Rattle.tg_grammar.specs.Steps.{RuleRow, argument, first_row, other_rows}
use Rattle.tg_reading.specs.declared.reader.Stop.{Stop}
use Rattle.tg_reading.specs.declared.reader.Stop.TheVariants.{Memory, Wrong}
use Rattle.tg_reading.specs.Answers.{by_rule}

-- these arguments, together
abbrev pub arguments_read : List Argument → List Seen → Read Seen RawLine
arguments_read [] ts = ok no_arguments ts
arguments_read (a ∷ bs) ts = mapped (λ x. with_arguments x.0 x.1) (followed (by_rule (argument a) ts) (arguments_read bs))

-- what is read is added to the line
abbrev pub Adds : {A : Type 0} → Result A Stop → RawLine → RawLine → List Seen → Read Seen RawLine → Type 0
Adds (Ok u) before after left r = mapped (with_arguments before) r ≡ ok after left
Adds (Err Wrong) before after left r = r ≡ err left
Adds (Err Memory) before after left r = Unit {0}

-- the arguments of the rule whose name has this kind
abbrev pub arguments_in : ℕ → RuleRow → List RuleRow → List Argument
arguments_in k r [] = r.first ∷ r.others
arguments_in k r (s ∷ ss) = if has (quoted r.name ∷ []) k then r.first ∷ r.others else arguments_in k s ss

unfoldable pub arguments_of : ℕ → List Argument
arguments_of k = arguments_in k first_row other_rows

-- types in brackets and simple ones, with commas between them
abbrev pub type_atoms_by_commas : List Seen → Read Seen (List RawTy)
type_atoms_by_commas = by_rule (some (nt TypeAtom ∙∙ nt MoreTypeAtoms))
