use Rattle.std.proofs.Common.{◌≡◌, ◌≤◌, max}
use Rattle.tg_model.specs.Theory.{first_constructor}
use Rattle.tg_kernel.proofs.constructors.counted_first.Given as goal

abbrev pub invariant-loop-number : goal.invariant-loop-number
invariant-loop-number l = record {
  first : l.first ≡ first_constructor l.declared.datatypes l.number;
  begun : 1 ≤ l.number;
  within : l.number ≤ max 1 l.d;
}
