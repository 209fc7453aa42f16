use Rattle.std.proofs.Common.{Bor, ap, subst}
use Rattle.std.specs.Prelude.{option_map, map}
use Rattle.tg_model.specs.Theory.{instance}
use Rattle.tg_types.specs.Types.{ty}
use Rattle.tg_declarations.specs.View.{function}
use Rattle.tg_declarations.specs.declared.definitions.FunDef.{FunDef}
use Rattle.tg_typing.specs.Contexts.{self_in}
use Rattle.tg_typing.specs.Frames.{Ends}
use Rattle.tg_typing.proofs.FrameLaws.{own_framed, if_ok}
use Rattle.tg_typing.proofs.framing.frame_own.Goals as goal

pub frame_signature-requires-clause-closed : goal.frame_signature-requires-clause-closed
frame_signature-requires-clause-closed c =
    c.requires.closed.own (function c.in-Some.def.now) (ap (option_map (λ (def : Bor FunDef). function def.now)) c.in-Some.is)

pub returns : goal.returns
returns c =
    if_ok c.frame_signature.result (λ found ends.
    own_framed (self_in c.args.context.now) c.args.table.now c.frame_signature.new.table c.args.context.now.parameters c.args.expected
    (function c.in-Some.def.now) found (ap (option_map (λ (def : Bor FunDef). function def.now)) c.in-Some.is) c.requires.parameters c.requires.expected
    (subst (λ x. Ends c.args.table.now c.frame_signature.new.table x (λ ts. map (instance ts) (map ty c.in-Some.def.now.args))
    (λ ts. instance ts (ty c.in-Some.def.now.result)) c.args.expected found) c.as_slice.ensures ends))
    c.frame_signature.ensures
