-- All parts of the example pass.
use Rattle.std.specs.Prelude.{◌≡◌, true, refl}
use Rattle.tg_rules.specs.Reader.{passes}
use Rattle.tg_rules.specs.Differences.{Part, difference, further, atom, kind, rule, foresight, token, sample}

pub all_pass : (n : Part) → passes kind rule foresight token sample n ≡ true
all_pass difference = refl
all_pass further = refl
all_pass atom = refl
