use Rattle.tg_report.proofs.TypedTexts.{typed_has_text, well_formed_has_text}
use Rattle.tg_report.proofs.laws.typed_texts.Goals as goal

pub returns-clause-terms : goal.returns-clause-terms
returns-clause-terms c = typed_has_text

pub returns-clause-formulas : goal.returns-clause-formulas
returns-clause-formulas c = well_formed_has_text
