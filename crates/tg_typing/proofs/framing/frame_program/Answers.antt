use Rattle.std.proofs.Common.{ℕ, Bor, Ok, [], sym, ◌∙◌, ap, subst}
use Rattle.std.specs.Prelude.{option_map, map, unwrap_or}
use Rattle.tg_types.specs.Types.{ty, types}
use Rattle.tg_model.specs.Types.{nat}
use Rattle.tg_accept.specs.Declared.{no_program}
use Rattle.tg_declarations.specs.View.{program}
use Rattle.tg_declarations.specs.declared.definitions.ProgDef.{ProgDef}
use Rattle.tg_typing.specs.Contexts.{theory_in}
use Rattle.tg_typing.specs.Nodes.{AllStand}
use Rattle.tg_typing.specs.Frames.{Closes}
use Rattle.tg_typing.proofs.Standing.{if_nat, stand_none}
use Rattle.tg_typing.proofs.FrameLaws.{program_framed, stands_ends, if_ok}
use Rattle.tg_typing.proofs.framing.frame_program.Goals as goal

pub returns-in_ok-top-in-None : goal.returns-in_ok-top-in-None
returns-in_ok-top-in-None c =
    let is = sym (c.program.ensures) ∙ ap (option_map (λ (def : Bor ProgDef). program def.now)) c.in-None.is in
    if_ok c.close.result (λ found closes.
    program_framed (theory_in c.args.context.now) c.args.table.now c.close.new.table c.args.expected no_program found (ap (λ o. unwrap_or o no_program) is)
    c.requires.expected
    (stands_ends c.args.table.now c.args.table.now c.push.new.self c.close.new.table [] c.args.expected c.in_ok-top-in-None.top [] nat found
    (stand_none c.args.table.now)
    (if_nat c.args.table.now {E = ℕ} c.push.new.self (Ok c.in_ok-top-in-None.top) c.in_ok-top-in-None.ensures.table c.in_ok-top-in-None.ensures.ok
    c.in_ok-top-in-None.ensures.place)
    (subst (λ x. Closes c.push.new.self c.close.new.table c.in_ok-top-in-None.top c.args.expected x found) c.new.ensures closes)))
    c.close.ensures

pub returns-in_ok-top-in-Some : goal.returns-in_ok-top-in-Some
returns-in_ok-top-in-Some c =
    let is = sym (c.program.ensures) ∙ ap (option_map (λ (def : Bor ProgDef). program def.now)) c.in-Some.is in
    if_ok c.close-in-Some.result (λ found closes.
    program_framed (theory_in c.args.context.now) c.args.table.now c.close-in-Some.new.table c.args.expected (program c.in-Some.def.now) found
    (ap (λ o. unwrap_or o no_program) is) c.requires.expected
    (stands_ends c.args.table.now c.state_all.new.table c.state.new.table c.close-in-Some.new.table c.in_ok-es-in-Some.es c.args.expected
    c.in_ok-top-in-Some.top (map ty c.in-Some.def.now.inputs) (ty c.in-Some.def.now.answer) found
    (subst (λ x. AllStand c.args.table.now (types x) c.state_all.new.table c.in_ok-es-in-Some.es) c.as_slice.ensures c.in_ok-es-in-Some.ensures)
    c.in_ok-top-in-Some.ensures closes))
    c.close-in-Some.ensures
