use Rattle.std.proofs.Common.{◌≡◌, Bor, true, [], length, suc, sym, ◌∙◌, ap, subst, arith}
use Rattle.std.specs.Prelude.{option_map}
use Rattle.tg_model.specs.TermTyping.{Typing}
use Rattle.tg_shared_types.specs.declared.nodes.Node.TheVariants.{Open}
use Rattle.tg_shared_types.proofs.NodeLaws.{pushed_length}
use Rattle.tg_accept.specs.Declared.{theory}
use Rattle.tg_declarations.specs.View.{function}
use Rattle.tg_declarations.specs.declared.definitions.FunDef.{FunDef}
use Rattle.tg_typing.specs.Growing.{Outcome}
use Rattle.tg_typing.specs.View.{resolved}
use Rattle.tg_typing.specs.Answers.{Counts, IsTypingIn}
use Rattle.tg_typing.proofs.Conclusions.{impossible}
use Rattle.tg_typing.proofs.AnswerLaws.{scope_starts, counts_anyhow, counted}
use Rattle.tg_typing.proofs.typings.count_typings.Goals as goal

pub type_at-requires-clause-scope : goal.type_at-requires-clause-scope
type_at-requires-clause-scope c =
    scope_starts c.in_ok-context.context c.args.declared.now (option_map (λ (def : Bor FunDef). function def.now) c.args.own) c.args.vars.now (resolved c.args.t.now) c.new-table.result
    c.prepare.new.table true c.in_ok-context.ensures.declared c.in_ok-context.ensures.own
    c.new-table.ensures c.in_ok-context.ensures.nodes c.push.new.self c.push.new.self c.new-locs.result.items c.in_ok-expected.expected c.new-locs.ensures.items (length c.push.new.self) (let l : length c.push.new.self ≡ suc (length c.prepare.new.table) = ap length c.in_ok-expected.ensures.ok ∙ pushed_length c.prepare.new.table Open in omega arith)

pub returns-then-not-branch : goal.returns-then-not-branch
returns-then-not-branch c =
    let all : Outcome [] c.type_at.new.table Typing (λ ρ. (IsTypingIn (theory [] c.args.declared.now) (option_map (λ (def : Bor FunDef). function def.now) c.args.own) c.args.vars.now (resolved c.args.t.now))) c.in_ok-type_at.field-0 =
    counts_anyhow c.in_ok-context.context c.args.declared.now (option_map (λ (def : Bor FunDef). function def.now) c.args.own) c.args.vars.now (resolved c.args.t.now) c.new-table.result
    c.prepare.new.table c.in_ok-type_at.field-0 c.in_ok-context.ensures.declared c.in_ok-context.ensures.own
    c.new-table.ensures c.in_ok-context.ensures.nodes c.push.new.self c.type_at.new.table c.new-locs.result.items c.in_ok-expected.expected c.new-locs.ensures.items
    c.in_ok-expected.ensures.table c.in_ok-expected.ensures.ok c.in_ok-expected.ensures.place c.in_ok-type_at.ensures.0 in
    impossible (IsTypingIn (theory [] c.args.declared.now) (option_map (λ (def : Bor FunDef). function def.now) c.args.own) c.args.vars.now (resolved c.args.t.now)) (subst (Outcome [] c.type_at.new.table Typing (λ ρ. (IsTypingIn (theory [] c.args.declared.now) (option_map (λ (def : Bor FunDef). function def.now) c.args.own) c.args.vars.now (resolved c.args.t.now)))) c.if-not-branch.true all)

pub returns : goal.returns
returns c =
    let all : Outcome [] c.type_at.new.table Typing (λ ρ. (IsTypingIn (theory [] c.args.declared.now) (option_map (λ (def : Bor FunDef). function def.now) c.args.own) c.args.vars.now (resolved c.args.t.now))) c.in_ok-type_at.field-0 =
    counts_anyhow c.in_ok-context.context c.args.declared.now (option_map (λ (def : Bor FunDef). function def.now) c.args.own) c.args.vars.now (resolved c.args.t.now) c.new-table.result
    c.prepare.new.table c.in_ok-type_at.field-0 c.in_ok-context.ensures.declared c.in_ok-context.ensures.own
    c.new-table.ensures c.in_ok-context.ensures.nodes c.push.new.self c.type_at.new.table c.new-locs.result.items c.in_ok-expected.expected c.new-locs.ensures.items
    c.in_ok-expected.ensures.table c.in_ok-expected.ensures.ok c.in_ok-expected.ensures.place c.in_ok-type_at.ensures.0 in
    subst (Counts (IsTypingIn (theory [] c.args.declared.now) (option_map (λ (def : Bor FunDef). function def.now) c.args.own) c.args.vars.now (resolved c.args.t.now))) (sym c.answer.ensures)
    (counted (IsTypingIn (theory [] c.args.declared.now) (option_map (λ (def : Bor FunDef). function def.now) c.args.own) c.args.vars.now (resolved c.args.t.now)) c.type_at.new.table c.in_ok-settle.field-0
    (subst (Outcome [] c.type_at.new.table Typing (λ ρ. (IsTypingIn (theory [] c.args.declared.now) (option_map (λ (def : Bor FunDef). function def.now) c.args.own) c.args.vars.now (resolved c.args.t.now)))) c.if-not-branch.false all) c.in_ok-settle.ensures)
