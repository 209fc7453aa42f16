use Rattle.tg_split.proofs.ScopeLaws.{levels}
use Rattle.tg_split.proofs.scopes.+root_of.Given as goal

abbrev pub decreases-root_of : goal.decreases-root_of
decreases-root_of l = levels l.scope.now
