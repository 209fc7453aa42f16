use Rattle.std.proofs.Common.{ap, ◌∙◌, sym}
use Rattle.tg_model.specs.Theory.{numbered}
use Rattle.tg_declarations.proofs.Finding.{con_found, con_absent}
use Rattle.tg_declarations.proofs.declarations.Declarations.con_def.Goals as goal

pub returns-in-Some : goal.returns-in-Some
returns-in-Some c =
    con_found c.self.inside.datatypes.items c.self.inside.owners.items c.args.c c.in-Some.owner.now c.args.self.now.datatypes _
    (ap (λ D. D.datatypes) (sym c.self.view_is)) c.self.invariant.owners
    (c.in-Some.ensures ∙ ap (λ l. numbered l c.args.c) c.as_slice.ensures.value) c.con_at.ensures

pub returns-in-None : goal.returns-in-None
returns-in-None c =
    con_absent c.self.inside.datatypes.items c.self.inside.owners.items c.args.c c.args.self.now.datatypes
    (ap (λ D. D.datatypes) (sym c.self.view_is)) c.self.invariant.owners
    (c.in-None.ensures ∙ ap (λ l. numbered l c.args.c) c.as_slice.ensures.value)
