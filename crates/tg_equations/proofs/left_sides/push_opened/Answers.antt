use Rattle.std.proofs.Common.{◌∙◌, ◌∷◌, ◌++◌, [], map, ap}
use Rattle.std.proofs.lemmas.List.{map-append}
use Rattle.tg_model.specs.Types.{nat}
use Rattle.tg_accept.specs.Declared.{theory}
use Rattle.tg_accept.specs.Equations.{opened}
use Rattle.tg_types.specs.declared.types.Ty.TheVariants.{Nat}
use Rattle.tg_types.specs.Types.{ty, ty-Nat}
use Rattle.tg_typing.specs.View.{head}
use Rattle.tg_equations.specs.LeftSides.{as_many}
use Rattle.tg_equations.proofs.LeftLaws.{opened_successor}
use Rattle.tg_equations.proofs.left_sides.push_opened.Goals as goal

pub returns-in_ok-push-in-Successor : goal.returns-in_ok-push-in-Successor
returns-in_ok-push-in-Successor c = (
  nat ∷ [],
  ap (λ h. as_many c.args.count (opened (theory [] c.args.declared.now) (head h) (ty c.args.t.now))) c.in-Successor.is
      ∙ opened_successor (theory [] c.args.declared.now) (ty c.args.t.now) c.in-Some.n c.args.count (map ty c.in-Some.us.now) c.in-Some.ensures c.if-n-ne0.false c.if-count-ne1.false,
  ap (map ty) c.in_ok-push-in-Successor.ensures.ok ∙ map-append ty c.args.all.now (Nat ∷ []) ∙ ap (λ u. map ty c.args.all.now ++ u ∷ []) ty-Nat,
)
