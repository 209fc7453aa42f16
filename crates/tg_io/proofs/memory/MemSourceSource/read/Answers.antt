use Rattle.std.proofs.Common.{ap}
use Rattle.tg_io.specs.Supply.{Supply}
use Rattle.tg_io.proofs.Fronts.{GivesFront-from_copy}
use Rattle.tg_io.proofs.memory.MemSourceSource.read.Goals as goal

pub returns-clause-bytes : goal.returns-clause-bytes
returns-clause-bytes c =
    let rest = ap (λ (s : Supply). s.rest) c.self.view_is in
    let copy = rw c.deref.ensures.value at c.copy_front-count.ensures in
    let gives =
    GivesFront-from_copy c.self.inside.bytes.items c.copy_front-count.new.to c.args.self.now.rest c.self.inside.at c.copy_front-count.result c.self.inside.piece _
    rest c.self.invariant.1 c.copy_front-count.auto.to copy.count copy.copied in
    (gives.front, gives.end)
