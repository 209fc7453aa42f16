use Rattle.std.proofs.Common.{◌≡◌, ◌∙◌, ◌++◌, [], map, length, Some, true, false, sym, ap, subst, arith, rules}
use Rattle.std.proofs.lemmas.List.{length-map}
use Rattle.tg_accept.specs.Declared.{theory}
use Rattle.tg_types.specs.Types.{ty}
use Rattle.tg_equations.specs.LeftSides.{AddsAll, of_constructors, of_variables, together}
use Rattle.tg_equations.specs.View.{pattern, patterns}
use Rattle.tg_equations.proofs.LeftLaws.{left_uneven, none_together, some_together}
use Rattle.tg_equations.proofs.left_sides.left_types.Goals as goal

pub returns-then-ps-args : goal.returns-then-ps-args
returns-then-ps-args c =
    let m = length-map c.args.ps.now pattern in
    let n = length-map c.args.args.now ty in
    let u : ¬ (length c.args.ps.now ≡ length c.args.args.now) = search rules in
    sym (ap together (left_uneven (theory [] c.args.declared.now) (patterns c.args.ps.now) (map ty c.args.args.now) (λ e. u (sym m ∙ e ∙ n))))

pub returns-then-not-branch : goal.returns-then-not-branch
returns-then-not-branch c =
    let th = theory [] c.args.declared.now in
    let m = length-map c.args.ps.now pattern in
    let n = length-map c.args.args.now ty in
    let even : length (patterns c.args.ps.now) ≡ length (map ty c.args.args.now) = omega (arith, m, n, c.if-ps-args.false) in
    let no : c.in_ok-push_constructors.field-0 ≡ false = search rules in
    none_together th (patterns c.args.ps.now) (map ty c.args.args.now) even
    (subst (AddsAll (of_constructors th (patterns c.args.ps.now) (map ty c.args.args.now)) (map ty c.push_variables.new.all) (map ty c.push_constructors.new.all)) no
    c.in_ok-push_constructors.ensures)

pub returns : goal.returns
returns c =
    let th = theory [] c.args.declared.now in
    let m = length-map c.args.ps.now pattern in
    let n = length-map c.args.args.now ty in
    let even : length (patterns c.args.ps.now) ≡ length (map ty c.args.args.now) = omega (arith, m, n, c.if-ps-args.false) in
    let yes : c.in_ok-push_constructors.field-0 ≡ true = search rules in
    let added = subst (AddsAll (of_constructors th (patterns c.args.ps.now) (map ty c.args.args.now)) (map ty c.push_variables.new.all) (map ty c.push_constructors.new.all)) yes
    c.in_ok-push_constructors.ensures in
    let all : map ty c.push_constructors.new.all ≡ of_variables (patterns c.args.ps.now) (map ty c.args.args.now) ++ added.0 =
    added.2 ∙ ap (λ l. l ++ added.0) (c.in_ok-push_variables.ensures ∙ ap (λ l. map ty l ++ of_variables (patterns c.args.ps.now) (map ty c.args.args.now)) c.new-all.ensures) in
    ap Some all ∙ some_together th (patterns c.args.ps.now) (map ty c.args.args.now) added.0 even added.1
