use Rattle.std.proofs.Common.{◌≡◌, ◌∙◌, sym, ap, [], false, length, nat_eq, rules}
use Rattle.tg_model.specs.Types.{applied}
use Rattle.tg_accept.specs.Declared.{theory}
use Rattle.tg_types.specs.Types.{ty, types, ty-App}
use Rattle.tg_theory.specs.Typed.{is_closed, are_closed}
use Rattle.tg_theory.proofs.ClosedTypes.{closed_datatype, other_datatype}
use Rattle.tg_theory.proofs.typed.+closed.Goals as goal

pub is_closed-returns-then-len-def : goal.is_closed-returns-then-len-def
is_closed-returns-then-len-def _ c =
    let seen : ty c.args.t.now ≡ applied c.in-App.d (types c.in-App.ts) = ap ty c.in-App.is ∙ ty-App c.in-App.d c.in-App.ts in
    let count : length c.in-App.ts ≡ c.in-Some.def.now.params = search rules in
    c.are_closed.ensures ∙ ap (λ us. are_closed (theory [] c.args.declared.now) (types us)) c.as_slice.ensures
    ∙ closed_datatype c.args.declared.now c.in-App.d c.in-App.ts c.in-Some.def.now c.in-Some.ensures count
    ∙ ap (is_closed (theory [] c.args.declared.now)) (sym seen)

pub is_closed-returns-else-len-def : goal.is_closed-returns-else-len-def
is_closed-returns-else-len-def _ c =
    let seen : ty c.args.t.now ≡ applied c.in-App.d (types c.in-App.ts) = ap ty c.in-App.is ∙ ty-App c.in-App.d c.in-App.ts in
    let count : ¬ (length c.in-App.ts ≡ c.in-Some.def.now.params) = search rules in
    let no : nat_eq c.len.result c.in-Some.def.now.params ≡ false = search rules in
    no ∙ other_datatype c.args.declared.now c.in-App.d c.in-App.ts c.in-Some.def.now c.in-Some.ensures count
    ∙ ap (is_closed (theory [] c.args.declared.now)) (sym seen)
