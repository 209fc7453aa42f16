use Rattle.std.proofs.Common.{◌≡◌, ◌∙◌, [], true, false, sym, subst, rules}
use Rattle.tg_accept.specs.Kept.{IsKept}
use Rattle.tg_infer.specs.Scopes.{outside}
use Rattle.tg_infer.specs.View.{raw_term}
use Rattle.tg_infer.specs.Words.{AreWordsOf}
use Rattle.tg_theory.specs.Typed.{are_declared}
use Rattle.tg_theory.proofs.ClosedTypes.{all_declared_if}
use Rattle.tg_types.specs.Types.{types}
use Rattle.tg_standing.proofs.TermLaws.{no_vars}
use Rattle.tg_standing.proofs.terms.term_of.Goals as goal

pub returns-then-not-are_declared : goal.returns-then-not-are_declared
returns-then-not-are_declared c =
    let no_types : are_declared (types c.args.vars.now) ≡ false = search rules in
    no_vars c.args.th.now c.args.vars.now (raw_term c.args.raw.now) no_types

pub term-requires : goal.term-requires
term-requires c =
    let all : are_declared (types c.args.vars.now) ≡ true = search rules in
    let none : c.new-variables.result ≡ [] = search rules in
    let scope = c.outside-scope.ensures in
    record {
      scope = scope.is ∙ (λ i. outside (c.declarations.ensures.whole i) (none i) true);
      words =
          subst (λ w. AreWordsOf w c.outside-scope.result.declared.now) (sym scope.words)
          (subst (AreWordsOf c.args.words.now) (sym (scope.declared ∙ c.declarations.ensures.whole)) c.requires);
      kept = subst IsKept (sym scope.declared) c.declarations.ensures.kept;
      vars = all_declared_if (types c.args.vars.now) all;
    }
