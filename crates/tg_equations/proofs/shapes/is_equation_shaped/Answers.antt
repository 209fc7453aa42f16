use Rattle.std.proofs.Common.{◌∙◌, ap}
use Rattle.std.specs.Str.{bytes_eq}
use Rattle.tg_accept.specs.Equations.{left_names}
use Rattle.tg_declarations.specs.View.{function}
use Rattle.tg_equations.specs.Checked.{are_different}
use Rattle.tg_equations.specs.View.{equation, patterns}
use Rattle.tg_equations.proofs.ShapeLaws.{equation_repeats, equation_told}
use Rattle.tg_equations.proofs.shapes.is_equation_shaped.Goals as goal

pub returns-then-not-branch : goal.returns-then-not-branch
returns-then-not-branch c =
    equation_repeats c.args.declared.now (function c.args.signature.now) (equation c.args.e.now) c.in_ok-are_left_names_different.field-0
    (c.in_ok-are_left_names_different.ensures ∙ ap (λ ps. are_different bytes_eq (left_names (patterns ps))) c.as_slice.ensures) c.if-not-branch.true

pub returns : goal.returns
returns c =
    equation_told c.args.declared.now (function c.args.signature.now) (equation c.args.e.now) c.in_ok-are_left_names_different.field-0
    (c.in_ok-are_left_names_different.ensures ∙ ap (λ ps. are_different bytes_eq (left_names (patterns ps))) c.as_slice.ensures) c.if-ne.ensures c.if-not-branch.false
    c.in_ok-shaped.shaped c.in_ok-shaped.ensures
