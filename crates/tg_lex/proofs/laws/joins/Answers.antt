use Rattle.tg_lex.proofs.Following.{readings_follow}
use Rattle.tg_lex.proofs.Joined.{readings_join}
use Rattle.tg_lex.proofs.laws.joins.Goals as goal

pub returns-clause-between : goal.returns-clause-between
returns-clause-between c = readings_join

pub returns-clause-follow : goal.returns-clause-follow
returns-clause-follow c = readings_follow
