use Rattle.std.proofs.Common.{arith}
use Rattle.tg_shared_types.proofs.Sizes.{size_at}
use Rattle.tg_equations.proofs.instances.+instance.Goals as goal

pub instances-instance-requires : goal.instances-instance-requires
instances-instance-requires t c = (omega (arith, c.decreases, size_at c.args.ts.now c.loop-t.t-index c.t-item.result c.loop-t-test.true c.t-item.is), tt)
