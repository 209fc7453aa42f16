use Rattle.std.proofs.Common.{◌≡◌, ◌<◌, ◌^◌, drop}
use Rattle.tg_lex.specs.Grammar.{value, value_from}
use Rattle.tg_lex.proofs.digits.value_of.Given as goal

abbrev pub invariant-loop-digit : goal.invariant-loop-digit
invariant-loop-digit l = record {
  small : l.value < 2 ^ 64;
  so_far : value_from l.value (drop l.digit-index l.digits) ≡ value l.digits;
}
