use Rattle.std.proofs.Common.{rules, ◌≡◌, ◌++◌, ◌∷◌, [], map}
use Rattle.tg_types.specs.Types.{ty}
use Rattle.tg_kernel.proofs.ContextLaws.{last_is}
use Rattle.tg_kernel.proofs.contexts.Context.without_last.Goals as goal

pub returns-in_ok-copy-in-Some : goal.returns-in_ok-copy-in-Some
returns-in_ok-copy-in-Some c =
    let e : c.types.result.now ≡ c.in-Some.before.now ++ c.in-Some.last.now ∷ [] = search rules in
    let t : c.in_ok-new-in-Some.field-0 ≡ map ty c.in-Some.before.now = search rules in
    last_is c.types.result.now c.in-Some.before.now c.in-Some.last.now c.in_ok-copy-in-Some.field-0 c.args.self.now c.in_ok-new-in-Some.field-0 e c.in_ok-copy-in-Some.ensures t c.types.ensures
