use Rattle.std.proofs.Common.{◌≡◌, ◌↔◌, ◌∷◌, [], true, false, map, reverse, sym, subst, ap, ◌∙◌, rules}
use Rattle.std.specs.Prelude.{IfOk}
use Rattle.tg_model.specs.Formula.{atom}
use Rattle.tg_model.specs.Types.{bool}
use Rattle.tg_term.specs.Formulas.{formula}
use Rattle.tg_model.specs.TermTyping.{IsTyped, IsWellFormed}
use Rattle.tg_accept.specs.Declared.{theory}
use Rattle.tg_types.specs.Types.{ty}
use Rattle.tg_theory.specs.Typed.{is_closed}
use Rattle.tg_theory.proofs.FormedLaws.{under, not_closed}
use Rattle.tg_theory.proofs.typed.+formed.Goals as goal

pub is_quantified_formed-returns-clause-formed : goal.is_quantified_formed-returns-clause-formed
is_quantified_formed-returns-clause-formed _ c =
    let closed : is_closed (theory [] c.args.declared.now) (ty c.args.t.now) ≡ true = search rules in
    under c.args.declared.now c.args.vars.now c.args.locs.now.items c.args.t.now c.in_ok-copy.field-0 c.args.f.now c.in_ok-formed.formed c.in_ok-copy.ensures closed
    (subst (λ l. (c.in_ok-formed.formed ≡ true) ↔ IsWellFormed (theory [] c.args.declared.now) (map ty c.args.vars.now) (reverse (map ty l)) c.args.f.now)
    c.in_ok-push.ensures.items c.in_ok-formed.ensures.formed)

pub is_formed-returns-in-Atom-clause-formed : goal.is_formed-returns-in-Atom-clause-formed
is_formed-returns-in-Atom-clause-formed _ c =
    let same : atom c.in-Atom.t ≡ c.args.f.now = ap formula (sym c.in-Atom.is) ∙ c.node.ensures in
    let th = theory [] c.args.declared.now in
    subst (λ f. IfOk c.is_true_typed.result (λ b. (b ≡ true) ↔ IsWellFormed th (map ty c.args.vars.now) (reverse (map ty c.args.locs.now.items)) f)) same
    (subst (λ l. IfOk c.is_true_typed.result (λ b. (b ≡ true) ↔ IsTyped th (map ty c.args.vars.now) (reverse (map ty l)) c.in-Atom.t bool)) c.as_slice.ensures.value
    c.is_true_typed.ensures)

pub is_quantified_formed-returns-then-not-is_closed-clause-formed : goal.is_quantified_formed-returns-then-not-is_closed-clause-formed
is_quantified_formed-returns-then-not-is_closed-clause-formed _ c =
    let no : is_closed (theory [] c.args.declared.now) (ty c.args.t.now) ≡ false = search rules in
    not_closed (theory [] c.args.declared.now) (ty c.args.t.now)
    (IsWellFormed (theory [] c.args.declared.now) (map ty c.args.vars.now) (ty c.args.t.now ∷ reverse (map ty c.args.locs.now.items)) c.args.f.now) no
