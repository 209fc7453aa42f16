use Rattle.tg_norm.proofs.SplitLaws.{one_split, splits_keep}
use Rattle.tg_norm.proofs.splits_keep.Goals as goal

pub returns-clause-one : goal.returns-clause-one
returns-clause-one c = one_split

pub returns-clause-leaves : goal.returns-clause-leaves
returns-clause-leaves c = splits_keep
