use Rattle.std.proofs.Common.{◌≡◌, Err, sym, ◌∙◌, rules}
use Rattle.tg_reading.specs.Modes.{mode_view}
use Rattle.tg_reading.proofs.TermRepetitions.{variables_stop}
use Rattle.tg_reading.proofs.binders.variables.Goals as goal

pub returns-in_err-variable-clause-exact : goal.returns-in_err-variable-clause-exact
returns-in_err-variable-clause-exact c =
    let same : c.from_residual.result ≡ Err c.in_err-variable.field-0.0 = search (rules, c.from_residual.ensures) in
    rw same (variables_stop (mode_view c.args.mode) c.loop-alloc.variables c.loop-alloc.reader c.variable.new.reader c.args.reader.now c.in_err-variable.field-0.0
    (sym c.is_variable_next.ensures ∙ c.loop-alloc-test.true) c.in_err-variable.ensures.exact c.loop-alloc.invariant.so_far)
