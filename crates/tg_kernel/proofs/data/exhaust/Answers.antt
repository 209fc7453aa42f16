use Rattle.std.proofs.Common.{rules, ◌≡◌, ◌∙◌, Some, ap, map}
use Rattle.std.specs.Prelude.{slice_get}
use Rattle.tg_accept.specs.Declared.{Declared}
use Rattle.tg_rows.specs.Parts.{and_then}
use Rattle.tg_model.specs.Theory.{first_constructor, numbered}
use Rattle.tg_model.specs.TermTyping.{constructor_arguments}
use Rattle.tg_types.specs.Types.{ty, types}
use Rattle.tg_calculus.specs.Draft.{as_data, exhausts, before_first}
use Rattle.tg_kernel.specs.Drafts.{made}
use Rattle.tg_kernel.specs.Sequents.{sequent}
use Rattle.tg_kernel.proofs.DataLaws.{at_data}
use Rattle.tg_kernel.proofs.data.exhaust.Goals as goal

pub returns : goal.returns
returns c =
    let e : slice_get c.args.ps.now 0 ≡ Some c.in-Some.p.now = search rules in
    let is : Some (c.in-Some-datatype_of.d, types c.in-Some-datatype_of.us.now) ≡ and_then (numbered c.in-Some.p.now.vars c.args.n) as_data = search rules in
    let h : made c.in_ok-draft.draft ≡ exhausts c.args.n c.in_ok-first.first (map (map ty) c.in_ok-cases.cases.items)
    (before_first c.in-Some.p.now.vars (map (map ty) c.in_ok-cases.cases.items)) c.in-Some.p.now.goal (map sequent c.args.ps.now) = search rules in
    at_data c.args.th.now c.args.n c.args.ps.now c.in-Some.p.now c.in-Some-datatype_of.d c.in-Some-datatype_of.us.now c.in_ok-first.first _ (made c.in_ok-draft.draft)
    e is (c.in_ok-first.ensures ∙ ap (λ (D : Declared). first_constructor D.datatypes c.in-Some-datatype_of.d) c.declarations.ensures.whole) c.in_ok-cases.ensures h
