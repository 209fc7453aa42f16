use Rattle.std.proofs.Common.{Bor, true, [], length, sym, subst, ◌∙◌}
use Rattle.std.specs.Prelude.{option_map}
use Rattle.tg_model.specs.TermTyping.{Typing}
use Rattle.tg_types.specs.Types.{ty}
use Rattle.tg_accept.specs.Declared.{theory}
use Rattle.tg_declarations.specs.View.{function}
use Rattle.tg_declarations.specs.declared.definitions.FunDef.{FunDef}
use Rattle.tg_typing.specs.Growing.{Outcome}
use Rattle.tg_typing.specs.Contexts.{theory_in, self_in}
use Rattle.tg_typing.specs.Scopes.{IsScope, HasTyping}
use Rattle.tg_typing.specs.Walks.{scope_in}
use Rattle.tg_typing.specs.View.{resolved}
use Rattle.tg_typing.specs.Answers.{Counts, IsTypingAt}
use Rattle.tg_typing.proofs.Conclusions.{impossible}
use Rattle.tg_typing.proofs.AnswerLaws.{scope_with, counts_at, counted}
use Rattle.tg_typing.proofs.typings.count_typings_at.Goals as goal

pub type_at-requires-clause-scope : goal.type_at-requires-clause-scope
type_at-requires-clause-scope c =
    subst (λ l. IsScope (length c.state.new.table) (scope_in c.in_ok-context.context l)) (sym (c.in_ok-loose.ensures.items ∙ c.as_slice.ensures))
    (scope_with c.in_ok-context.context c.args.declared.now (option_map (λ (def : Bor FunDef). function def.now) c.args.own) c.args.vars.now (resolved c.args.t.now) c.new-table.result
    c.prepare.new.table true c.in_ok-context.ensures.declared c.in_ok-context.ensures.own
    c.new-table.ensures c.in_ok-context.ensures.nodes c.args.locs.now c.state_all.new.table c.state.new.table c.state.new.table c.in_ok-given.given c.in_ok-expected.expected
    c.in_ok-given.ensures (length c.state.new.table) c.in_ok-expected.ensures.grows.longer)

pub returns-then-not-branch : goal.returns-then-not-branch
returns-then-not-branch c =
    let walked : Outcome c.state.new.table c.type_at.new.table Typing
    (HasTyping (theory_in c.in_ok-context.context) (self_in c.in_ok-context.context) (scope_in c.in_ok-context.context c.in_ok-given.given) (resolved c.args.t.now) c.in_ok-expected.expected)
    c.in_ok-type_at.field-0 =
    subst (λ l. Outcome c.state.new.table c.type_at.new.table Typing
    (HasTyping (theory_in c.in_ok-context.context) (self_in c.in_ok-context.context) (scope_in c.in_ok-context.context l) (resolved c.args.t.now) c.in_ok-expected.expected)
    c.in_ok-type_at.field-0) (c.in_ok-loose.ensures.items ∙ c.as_slice.ensures) c.in_ok-type_at.ensures.0 in
    let all : Outcome [] c.type_at.new.table Typing (λ ρ. (IsTypingAt (theory [] c.args.declared.now) (option_map (λ (def : Bor FunDef). function def.now) c.args.own) c.args.vars.now c.args.locs.now (resolved c.args.t.now) (ty c.args.at.now))) c.in_ok-type_at.field-0 =
    counts_at c.in_ok-context.context c.args.declared.now (option_map (λ (def : Bor FunDef). function def.now) c.args.own) c.args.vars.now (resolved c.args.t.now) c.new-table.result
    c.prepare.new.table c.in_ok-type_at.field-0 c.in_ok-context.ensures.declared c.in_ok-context.ensures.own
    c.new-table.ensures c.in_ok-context.ensures.nodes c.args.locs.now c.state_all.new.table c.state.new.table c.type_at.new.table c.in_ok-given.given c.in_ok-expected.expected
    c.in_ok-given.ensures (ty c.args.at.now) c.in_ok-expected.ensures walked in
    impossible (IsTypingAt (theory [] c.args.declared.now) (option_map (λ (def : Bor FunDef). function def.now) c.args.own) c.args.vars.now c.args.locs.now (resolved c.args.t.now) (ty c.args.at.now)) (subst (Outcome [] c.type_at.new.table Typing (λ ρ. (IsTypingAt (theory [] c.args.declared.now) (option_map (λ (def : Bor FunDef). function def.now) c.args.own) c.args.vars.now c.args.locs.now (resolved c.args.t.now) (ty c.args.at.now)))) c.if-not-branch.true all)

pub returns : goal.returns
returns c =
    let walked : Outcome c.state.new.table c.type_at.new.table Typing
    (HasTyping (theory_in c.in_ok-context.context) (self_in c.in_ok-context.context) (scope_in c.in_ok-context.context c.in_ok-given.given) (resolved c.args.t.now) c.in_ok-expected.expected)
    c.in_ok-type_at.field-0 =
    subst (λ l. Outcome c.state.new.table c.type_at.new.table Typing
    (HasTyping (theory_in c.in_ok-context.context) (self_in c.in_ok-context.context) (scope_in c.in_ok-context.context l) (resolved c.args.t.now) c.in_ok-expected.expected)
    c.in_ok-type_at.field-0) (c.in_ok-loose.ensures.items ∙ c.as_slice.ensures) c.in_ok-type_at.ensures.0 in
    let all : Outcome [] c.type_at.new.table Typing (λ ρ. (IsTypingAt (theory [] c.args.declared.now) (option_map (λ (def : Bor FunDef). function def.now) c.args.own) c.args.vars.now c.args.locs.now (resolved c.args.t.now) (ty c.args.at.now))) c.in_ok-type_at.field-0 =
    counts_at c.in_ok-context.context c.args.declared.now (option_map (λ (def : Bor FunDef). function def.now) c.args.own) c.args.vars.now (resolved c.args.t.now) c.new-table.result
    c.prepare.new.table c.in_ok-type_at.field-0 c.in_ok-context.ensures.declared c.in_ok-context.ensures.own
    c.new-table.ensures c.in_ok-context.ensures.nodes c.args.locs.now c.state_all.new.table c.state.new.table c.type_at.new.table c.in_ok-given.given c.in_ok-expected.expected
    c.in_ok-given.ensures (ty c.args.at.now) c.in_ok-expected.ensures walked in
    subst (Counts (IsTypingAt (theory [] c.args.declared.now) (option_map (λ (def : Bor FunDef). function def.now) c.args.own) c.args.vars.now c.args.locs.now (resolved c.args.t.now) (ty c.args.at.now))) (sym c.answer.ensures)
    (counted (IsTypingAt (theory [] c.args.declared.now) (option_map (λ (def : Bor FunDef). function def.now) c.args.own) c.args.vars.now c.args.locs.now (resolved c.args.t.now) (ty c.args.at.now)) c.type_at.new.table c.in_ok-settle.field-0
    (subst (Outcome [] c.type_at.new.table Typing (λ ρ. (IsTypingAt (theory [] c.args.declared.now) (option_map (λ (def : Bor FunDef). function def.now) c.args.own) c.args.vars.now c.args.locs.now (resolved c.args.t.now) (ty c.args.at.now)))) c.if-not-branch.false all) c.in_ok-settle.ensures)
