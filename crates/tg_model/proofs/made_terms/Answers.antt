use Rattle.tg_model.proofs.MadeTerms.{made_terms_stay}
use Rattle.tg_model.proofs.made_terms.Goals as goal

pub returns : goal.returns
returns c = made_terms_stay
