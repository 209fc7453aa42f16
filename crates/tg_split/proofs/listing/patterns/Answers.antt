use Rattle.std.proofs.Common.{◌≡◌, List, map, ◌∙◌, ap, ap₂}
use Rattle.tg_model.specs.Types as model
use Rattle.tg_model.specs.Theory.{Theory, Datatype, Program, instance}
use Rattle.tg_types.specs.Types.{ty}
use Rattle.tg_split.specs.declared.scopes.Scope.TheVariants.{Closed}
use Rattle.tg_split.specs.Scopes.{arguments}
use Rattle.tg_split.specs.Shapes.{of_type, products}
use Rattle.tg_split.specs.Patterns.{pattern_of}
use Rattle.tg_split.proofs.ListLaws.{patterns_of_inputs}
use Rattle.tg_split.proofs.listing.patterns.Goals as goal

pub returns : goal.returns
returns c =
    let datatypes = ap (λ (th : Theory). th.datatypes) c.declarations.ensures.named in
    let inputs : map ty c.as_slice-inputs.result.now ≡ c.args.th.now.program.inputs = ap (map ty) c.as_slice-inputs.ensures ∙ ap (λ (p : Program). p.inputs) c.program.ensures in
    c.in_ok-ps.ensures
    ∙ ap₂ (λ (ds : List Datatype) (ts : List model.Ty). map pattern_of (products (of_type ds c.args.depth) (map (instance (arguments Closed)) ts))) datatypes inputs
    ∙ patterns_of_inputs c.args.th.now c.args.depth c.accepted.ensures.accepted
