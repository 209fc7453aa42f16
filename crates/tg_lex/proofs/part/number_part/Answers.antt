use Rattle.std.proofs.Common.{◌≡◌, sym, subst, take, true}
use Rattle.std.specs.List.{list_all}
use Rattle.tg_lex.specs.Bytes.{is_digit}
use Rattle.tg_lex.proofs.Values.{run_passes}
use Rattle.tg_lex.proofs.part.number_part.Goals as goal

pub value_of-requires : goal.value_of-requires
value_of-requires c = subst (λ n. list_all is_digit (take n c.args.bytes.now) ≡ true) (sym c.digit_len-len.ensures.run) (run_passes is_digit c.args.bytes.now)
