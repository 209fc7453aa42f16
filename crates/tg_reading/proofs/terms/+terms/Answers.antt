use Rattle.std.proofs.Common.{◌≡◌, Err, sym, ap, ◌∙◌, rules, arith}
use Rattle.tg_rules.specs.Reader.{ok}
use Rattle.tg_reading.specs.Modes.{mode_view}
use Rattle.tg_reading.proofs.TermRepetitions.{more_summands_end, more_summands_next, more_summands_stop, more_factors_end, more_factors_next, more_factors_stop}
use Rattle.tg_reading.proofs.terms.+terms.Goals as goal

pub more_summands-returns-in_err-sum-clause-exact : goal.more_summands-returns-in_err-sum-clause-exact
more_summands-returns-in_err-sum-clause-exact t c =
    let same : c.from_residual.result ≡ Err c.in_err-sum.field-0.0 = search (rules, c.from_residual.ensures) in
    rw same (more_summands_stop (mode_view c.args.mode) c.args.first c.loop-operator.sum c.in-Some.operator c.args.reader.now c.loop-operator.reader c.sum_operator.new.reader c.summand.new.reader
    c.in_err-sum.field-0.0 c.in-Some.ensures.0 c.in-Some.ensures.1 c.in_err-sum.ensures.exact c.loop-operator.invariant.so_far)

pub more_summands-loop-operator-preserved : goal.more_summands-loop-operator-preserved
more_summands-loop-operator-preserved t c = record {
  so_far =
      sym (more_summands_next (mode_view c.args.mode) c.loop-operator.sum c.in_ok-sum.sum c.in-Some.operator c.loop-operator.reader c.sum_operator.new.reader c.summand.new.reader
      c.in-Some.ensures.0 c.in-Some.ensures.1 c.in_ok-sum.ensures.exact) ∙ c.loop-operator.invariant.so_far;
  shorter = omega (arith, c.in_ok-sum.ensures.less, c.in-Some.ensures.2, c.loop-operator.invariant.shorter);
}

pub more_summands-returns-clause-exact : goal.more_summands-returns-clause-exact
more_summands-returns-clause-exact t c =
    sym c.loop-operator.invariant.so_far ∙ more_summands_end (mode_view c.args.mode) c.loop-operator.sum c.loop-operator.reader c.in_default.ensures.0
    ∙ ap (ok c.loop-operator.sum) (sym c.in_default.ensures.2)

pub more_factors-returns-in_err-product-clause-exact : goal.more_factors-returns-in_err-product-clause-exact
more_factors-returns-in_err-product-clause-exact t c =
    let same : c.from_residual.result ≡ Err c.in_err-product.field-0.0 = search (rules, c.from_residual.ensures) in
    rw same (more_factors_stop (mode_view c.args.mode) c.args.first c.loop-operator.product c.in-Some.operator c.args.reader.now c.loop-operator.reader c.product_operator.new.reader c.factor.new.reader
    c.in_err-product.field-0.0 c.in-Some.ensures.0 c.in-Some.ensures.1 c.in_err-product.ensures.exact c.loop-operator.invariant.so_far)

pub more_factors-loop-operator-preserved : goal.more_factors-loop-operator-preserved
more_factors-loop-operator-preserved t c = record {
  so_far =
      sym (more_factors_next (mode_view c.args.mode) c.loop-operator.product c.in_ok-product.product c.in-Some.operator c.loop-operator.reader c.product_operator.new.reader c.factor.new.reader
      c.in-Some.ensures.0 c.in-Some.ensures.1 c.in_ok-product.ensures.exact) ∙ c.loop-operator.invariant.so_far;
  shorter = omega (arith, c.in_ok-product.ensures.less, c.in-Some.ensures.2, c.loop-operator.invariant.shorter);
}

pub more_factors-returns-clause-exact : goal.more_factors-returns-clause-exact
more_factors-returns-clause-exact t c =
    sym c.loop-operator.invariant.so_far ∙ more_factors_end (mode_view c.args.mode) c.loop-operator.product c.loop-operator.reader c.in_default.ensures.0
    ∙ ap (ok c.loop-operator.product) (sym c.in_default.ensures.2)
