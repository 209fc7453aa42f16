use Rattle.tg_rules.proofs.Whole.{sound_read, complete_read, read_whole, whole_read, read_is, not_out}
use Rattle.tg_rules.proofs.laws.reading.Goals as goal

pub returns-clause-sound : goal.returns-clause-sound
returns-clause-sound g c = let G = g.G.Grammar in sound_read G.kind G.rule G.foresight G.token G.sample G.pass

pub returns-clause-complete : goal.returns-clause-complete
returns-clause-complete g c = let G = g.G.Grammar in complete_read G.kind G.rule G.foresight G.token G.sample G.pass

pub returns-clause-rules : goal.returns-clause-rules
returns-clause-rules g c = let G = g.G.Grammar in read_is G.kind G.rule G.foresight G.token G.sample G.pass

pub returns-clause-turns : goal.returns-clause-turns
returns-clause-turns g c = let G = g.G.Grammar in not_out G.kind G.rule G.foresight G.token G.sample G.pass

pub returns-clause-whole : goal.returns-clause-whole
returns-clause-whole g c n v ts =
    let G = g.G.Grammar in
    (whole_read G.kind G.rule G.foresight G.token G.sample G.pass n v ts, read_whole G.kind G.rule G.foresight G.token G.sample G.pass n v ts)
