use Rattle.std.proofs.Common.{◌≡◌, sym, subst, Some, None, ◌∙◌, ap}
use Rattle.std.proofs.lemmas.Bool.{cond-true, cond-false}
use Rattle.std.proofs.Math.ListN.{drop_of_length-le}
use Rattle.tg_lex.specs.Grammar.{value, value_from}
use Rattle.tg_lex.proofs.Values.{too_large, is_below}
use Rattle.tg_lex.proofs.digits.value_of.Goals as goal

pub returns-in-None : goal.returns-in-None
returns-in-None c =
    sym (cond-false _ (Some (value c.args.digits.now)) None
    (too_large c.loop-digit.value c.loop-digit.digit-index c.args.digits.now (value c.args.digits.now) c.loop-digit.invariant.so_far c.loop-digit-test.true c.in-None.ensures.none))

pub returns : goal.returns
returns c =
    let all = c.loop-digit-test.false in
    let whole : c.loop-digit.value ≡ value c.args.digits.now = subst (λ ds. value_from c.loop-digit.value ds ≡ value c.args.digits.now) (drop_of_length-le c.args.digits.now all) c.loop-digit.invariant.so_far in
    ap Some whole ∙ sym (cond-true _ (Some (value c.args.digits.now)) None (is_below c.loop-digit.value (value c.args.digits.now) whole c.loop-digit.invariant.small))
