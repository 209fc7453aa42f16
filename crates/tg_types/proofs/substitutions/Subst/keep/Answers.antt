use Rattle.std.proofs.Common.{◌∙◌, sym, ap, take, subst}
use Rattle.std.proofs.lemmas.List.{take-map}
use Rattle.tg_types.specs.Substitutions.{IsWhole}
use Rattle.tg_types.specs.View.{agreement, substitution}
use Rattle.tg_types.proofs.substitutions.Subst.keep.Goals as goal

-- the first agreements as the program has them
pub returns : goal.returns
returns c = ap substitution c.truncate.ensures.items ∙ sym (take-map agreement c.args.count c.self.inside.agreements.items) ∙ ap (take c.args.count) c.self.view_is

pub invariant_of-self : goal.invariant_of-self
invariant_of-self c = subst IsWhole (sym (ap substitution c.truncate.ensures.items ∙ sym (take-map agreement c.args.count c.self.inside.agreements.items) ∙ ap (take c.args.count) c.self.view_is)) c.requires
