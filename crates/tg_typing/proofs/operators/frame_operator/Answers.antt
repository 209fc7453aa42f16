use Rattle.std.proofs.Common.{Some, ap, sym, ◌∙◌, subst}
use Rattle.std.specs.Prelude.{IfOk}
use Rattle.tg_term.specs.Operators.{operator}
use Rattle.tg_typing.specs.Uses.{Frames, UsesOperator}
use Rattle.tg_typing.specs.Operators.{FixedUse}
use Rattle.tg_typing.proofs.FrameLaws.{is_equality, fixed_uses, frames_same, if_ok}
use Rattle.tg_typing.proofs.operators.frame_operator.Goals as goal

pub returns-in-Some-Equality : goal.returns-in-Some-Equality
returns-in-Some-Equality c =
    let e = is_equality (operator c.args.o) (sym c.shape_of.ensures ∙ c.in-Some-Equality.is ∙ ap Some c.in-Some-Equality.field-0-is) in
    subst (λ x. IfOk c.frame_equality.result (λ found. Frames c.args.table.now c.frame_equality.new.table (λ ρ. UsesOperator x) c.args.expected found)) (sym e)
    c.frame_equality.ensures

pub returns-in-Some-Fixed : goal.returns-in-Some-Fixed
returns-in-Some-Fixed c =
    let s = fixed_uses (operator c.args.o) c.in-Some-Fixed.types (sym c.shape_of.ensures ∙ c.in-Some-Fixed.is ∙ ap Some c.in-Some-Fixed.field-0-is) in
    if_ok c.frame_fixed.result (λ found frames.
    frames_same c.args.table.now c.frame_fixed.new.table (λ ρ. FixedUse c.in-Some-Fixed.types) (λ ρ. UsesOperator (operator c.args.o)) c.args.expected found
    (λ ρ u. (s u).0) (λ ρ u. (s u).1) frames)
    c.frame_fixed.ensures
