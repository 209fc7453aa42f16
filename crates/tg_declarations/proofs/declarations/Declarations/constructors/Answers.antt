use Rattle.std.proofs.Common.{ap, ◌∙◌, sym}
use Rattle.tg_model.specs.Theory.{numbered}
use Rattle.tg_declarations.proofs.Finding.{numbers_there, numbers_absent}
use Rattle.tg_declarations.proofs.declarations.Declarations.constructors.Goals as goal

pub returns-in-Some : goal.returns-in-Some
returns-in-Some c =
    c.as_slice-in-Some.ensures
    ∙ numbers_there c.self.inside.datatypes.items c.args.d c.in-Some.entry.now c.args.self.now.datatypes
    (ap (λ D. D.datatypes) (sym c.self.view_is)) c.self.invariant.numbers
    (c.in-Some.ensures ∙ ap (λ l. numbered l c.args.d) c.as_slice.ensures.value)

pub returns-in-None : goal.returns-in-None
returns-in-None c =
    numbers_absent c.self.inside.datatypes.items c.args.d c.args.self.now.datatypes
    (ap (λ D. D.datatypes) (sym c.self.view_is)) c.self.invariant.numbers
    (c.in-None.ensures ∙ ap (λ l. numbered l c.args.d) c.as_slice.ensures.value)
