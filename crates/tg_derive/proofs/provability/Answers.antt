use Rattle.tg_derive.proofs.NormalLines.{normal_forms_are_derivable}
use Rattle.tg_derive.proofs.PatternLines.{patterns_are_derivable}
use Rattle.tg_derive.proofs.OpenClasses.{closed_patterns_are_derivable}
use Rattle.tg_derive.proofs.TestedClasses.{classes_are_derivable}
use Rattle.tg_derive.proofs.TheoremLines.{each_pattern_is_derivable}
use Rattle.tg_derive.proofs.CaseLines.{cases_are_enough}
use Rattle.tg_derive.proofs.CoverLines.{cover_is_derivable}
use Rattle.tg_derive.proofs.TheoremEnd.{theorem_is_derivable}
use Rattle.tg_derive.proofs.provability.Goals as goal

pub returns-clause-forms : goal.returns-clause-forms
returns-clause-forms c = normal_forms_are_derivable

pub returns-clause-classes : goal.returns-clause-classes
returns-clause-classes c = classes_are_derivable

pub returns-clause-leaves : goal.returns-clause-leaves
returns-clause-leaves c = patterns_are_derivable

pub returns-clause-patterns : goal.returns-clause-patterns
returns-clause-patterns c = closed_patterns_are_derivable

pub returns-clause-all_patterns : goal.returns-clause-all_patterns
returns-clause-all_patterns c = each_pattern_is_derivable

pub returns-clause-cases : goal.returns-clause-cases
returns-clause-cases c = cases_are_enough

pub returns-clause-cover : goal.returns-clause-cover
returns-clause-cover c = cover_is_derivable

pub returns-clause-theorem : goal.returns-clause-theorem
returns-clause-theorem c = theorem_is_derivable
