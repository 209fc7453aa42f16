-- Where a term stands.
use Rattle.tg_grammar.specs.Parts as parts
use Rattle.tg_reading.specs.declared.modes.Mode.{Mode}
use Rattle.tg_reading.specs.declared.modes.Mode.TheVariants.{Theory, Certificate}

-- as the grammar has it
abbrev pub mode_view : Mode → parts.Mode
mode_view Theory = parts.in_theory
mode_view Certificate = parts.in_certificate
