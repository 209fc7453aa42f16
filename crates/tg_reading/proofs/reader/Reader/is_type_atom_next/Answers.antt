use Rattle.std.proofs.Common.{sym, ◌∙◌}
use Rattle.tg_grammar.specs.First.{type_atoms}
use Rattle.tg_reading.proofs.Left.{next_starts}
use Rattle.tg_reading.proofs.reader.Reader.is_type_atom_next.Goals as goal

pub returns-in-Some : goal.returns-in-Some
returns-in-Some c = c.is_type_atom.ensures ∙ next_starts type_atoms c.args.self.now c.in-Some.kind (sym c.next_kind.ensures ∙ c.in-Some.is)
