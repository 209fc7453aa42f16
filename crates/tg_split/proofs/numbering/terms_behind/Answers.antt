use Rattle.std.proofs.Common.{map, ◌∙◌, ap}
use Rattle.tg_model.specs.Walk.{substituted}
use Rattle.tg_split.specs.declared.numbering.Part.{Part}
use Rattle.tg_split.proofs.NumberLaws.{behind_some}
use Rattle.tg_split.proofs.numbering.terms_behind.Goals as goal

pub returns : goal.returns
returns c =
    behind_some c.args.vars c.most_variables.result c.args.parts.now c.in_ok-terms.terms.items c.most_variables.ensures
    (c.in_ok-terms.ensures ∙ ap (λ us. map (λ (p : Part). substituted us p.term) c.args.parts.now) (c.as_slice.ensures.value ∙ c.in_ok-variables.ensures))
