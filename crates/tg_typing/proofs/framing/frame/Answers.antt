use Rattle.std.proofs.Common.{sym, subst}
use Rattle.std.specs.Prelude.{IfOk, map}
use Rattle.tg_typing.specs.Contexts.{theory_in, self_in}
use Rattle.tg_typing.specs.Uses.{Frames}
use Rattle.tg_typing.specs.Frames.{IsUseOf}
use Rattle.tg_typing.proofs.framing.frame.Goals as goal

pub returns-in-Con : goal.returns-in-Con
returns-in-Con c =
    subst (λ x. IfOk c.frame_constructor.result (λ found. Frames c.args.table.now c.frame_constructor.new.table
    (λ ρ. IsUseOf (theory_in c.args.context.now) (self_in c.args.context.now) (map ρ c.args.context.now.parameters) x) c.args.expected found)) (sym c.in-Con.is)
    c.frame_constructor.ensures

pub returns-in-Call : goal.returns-in-Call
returns-in-Call c =
    subst (λ x. IfOk c.frame_function.result (λ found. Frames c.args.table.now c.frame_function.new.table
    (λ ρ. IsUseOf (theory_in c.args.context.now) (self_in c.args.context.now) (map ρ c.args.context.now.parameters) x) c.args.expected found)) (sym c.in-Call.is)
    c.frame_function.ensures

pub returns-in-Own : goal.returns-in-Own
returns-in-Own c =
    subst (λ x. IfOk c.frame_own.result (λ found. Frames c.args.table.now c.frame_own.new.table
    (λ ρ. IsUseOf (theory_in c.args.context.now) (self_in c.args.context.now) (map ρ c.args.context.now.parameters) x) c.args.expected found)) (sym c.in-Own.is)
    c.frame_own.ensures

pub returns-in-Put : goal.returns-in-Put
returns-in-Put c =
    subst (λ x. IfOk c.frame_program.result (λ found. Frames c.args.table.now c.frame_program.new.table
    (λ ρ. IsUseOf (theory_in c.args.context.now) (self_in c.args.context.now) (map ρ c.args.context.now.parameters) x) c.args.expected found)) (sym c.in-Put.is)
    c.frame_program.ensures
