use Rattle.tg_render.proofs.Forward.{tokens_back, lines_back, told}
use Rattle.tg_render.proofs.Joined.{texts_joined, texts_follow}
use Rattle.tg_render.proofs.laws.lexed_back.Goals as goal

pub returns-clause-tokens : goal.returns-clause-tokens
returns-clause-tokens c = tokens_back

pub returns-clause-lines : goal.returns-clause-lines
returns-clause-lines c = lines_back

pub returns-clause-told : goal.returns-clause-told
returns-clause-told c = told

pub returns-clause-joined : goal.returns-clause-joined
returns-clause-joined c = texts_joined

pub returns-clause-follow : goal.returns-clause-follow
returns-clause-follow c = texts_follow
