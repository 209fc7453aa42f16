use Rattle.std.proofs.Common.{◌≡◌, ◌∙◌, [], true, sym, subst, rules}
use Rattle.tg_accept.specs.Kept.{IsKept}
use Rattle.tg_infer.specs.Scopes.{outside}
use Rattle.tg_infer.specs.Words.{AreWordsOf}
use Rattle.tg_standing.proofs.closed_types.type_of.Goals as goal

pub closed_type-requires : goal.closed_type-requires
closed_type-requires c =
    let none : c.new-variables.result ≡ [] = search rules in
    let scope = c.outside-scope.ensures in
    record {
      scope = scope.is ∙ (λ i. outside (c.declarations.ensures.whole i) (none i) true);
      words =
          subst (λ w. AreWordsOf w c.outside-scope.result.declared.now) (sym scope.words)
          (subst (AreWordsOf c.args.words.now) (sym (scope.declared ∙ c.declarations.ensures.whole)) c.requires);
      kept = subst IsKept (sym scope.declared) c.declarations.ensures.kept;
      vars = tt;
    }
