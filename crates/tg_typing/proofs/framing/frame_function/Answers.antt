use Rattle.std.proofs.Common.{◌≡◌, Bor, Some, sym, ◌∙◌, ap, subst}
use Rattle.std.specs.Prelude.{option_map, map}
use Rattle.tg_model.specs.Theory.{numbered, instance}
use Rattle.tg_types.specs.Types.{ty}
use Rattle.tg_declarations.specs.View.{function}
use Rattle.tg_declarations.specs.declared.definitions.FunDef.{FunDef}
use Rattle.tg_typing.specs.Contexts.{theory_in}
use Rattle.tg_typing.specs.Frames.{Ends}
use Rattle.tg_typing.proofs.FrameLaws.{function_framed, if_ok}
use Rattle.tg_typing.proofs.framing.frame_function.Goals as goal

pub frame_signature-requires-clause-closed : goal.frame_signature-requires-clause-closed
frame_signature-requires-clause-closed c =
    let is : numbered (theory_in c.args.context.now).functions c.args.f ≡ Some (function c.in-Some.def.now) =
    sym c.fun_def.ensures ∙ ap (option_map (λ (def : Bor FunDef). function def.now)) c.in-Some.is in
    c.requires.closed.functions c.args.f (function c.in-Some.def.now) is

pub returns : goal.returns
returns c =
    let is : numbered (theory_in c.args.context.now).functions c.args.f ≡ Some (function c.in-Some.def.now) =
    sym c.fun_def.ensures ∙ ap (option_map (λ (def : Bor FunDef). function def.now)) c.in-Some.is in
    if_ok c.frame_signature.result (λ found ends.
    function_framed (theory_in c.args.context.now) c.args.table.now c.open_nodes.new.table c.frame_signature.new.table c.in_ok-us.us c.args.f c.args.expected
    (function c.in-Some.def.now) found is c.in_ok-us.ensures c.requires.expected
    (subst (λ x. Ends c.open_nodes.new.table c.frame_signature.new.table x (λ ts. map (instance ts) (map ty c.in-Some.def.now.args))
    (λ ts. instance ts (ty c.in-Some.def.now.result)) c.args.expected found) c.as_slice.ensures ends))
    c.frame_signature.ensures
