use Rattle.std.proofs.Common.{◌≡◌, true, false, sym, ◌∙◌}
use Rattle.tg_cmd.proofs.StandIns.{stands, none_stands}
use Rattle.tg_cmd.proofs.standing.stand_in.Goals as goal

pub returns-then-branch : goal.returns-then-branch
returns-then-branch c =
    stands c.args.theory.now c.accepted.ensures.accepted c.args.name.now c.in-Some.f c.in-Some.ensures (c.in_ok-fits-in-Some.ensures.0 c.if-branch.true)

pub returns-else-branch : goal.returns-else-branch
returns-else-branch c =
    none_stands c.args.theory.now c.accepted.ensures.accepted c.args.name.now c.in-Some.f c.in-Some.ensures
    (λ fits. let bad : true ≡ false = sym (c.in_ok-fits-in-Some.ensures.1 fits) ∙ c.if-branch.false in absurd cc)
