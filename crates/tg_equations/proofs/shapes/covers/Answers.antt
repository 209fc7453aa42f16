use Rattle.std.proofs.Common.{◌∙◌, [], map, ap}
use Rattle.std.specs.List.{list_all}
use Rattle.tg_accept.specs.Core.{heads_of}
use Rattle.tg_accept.specs.Declared.{theory}
use Rattle.tg_declarations.specs.View.{function}
use Rattle.tg_types.specs.Types.{ty}
use Rattle.tg_equations.specs.Matched.{datatype_in}
use Rattle.tg_equations.specs.Places.{holds_one}
use Rattle.tg_equations.specs.View.{equations}
use Rattle.tg_equations.proofs.MatchedLaws.{covers_told}
use Rattle.tg_equations.proofs.shapes.covers.Goals as goal

pub returns : goal.returns
returns c =
    covers_told c.args.declared.now (function c.args.signature.now) (equations c.args.es.now) c.in_ok-places.places c.in_ok-place.place c.in_ok-covered.covered
    c.in_ok-place.ensures (c.in_ok-are_at.ensures.0 c.if-not-branch.false) c.in_ok-places.ensures
    (c.in_ok-covered.ensures
    ∙ ap (λ n. list_all (holds_one c.in_ok-places.places) (heads_of (theory [] c.args.declared.now) n))
    (c.datatype_at-n.ensures ∙ ap (λ ts. datatype_in (map ty ts) c.in_ok-place.place) c.as_slice.ensures))
