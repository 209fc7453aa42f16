use Rattle.std.proofs.Common.{◌≡◌, ◌∙◌, [], true, sym, subst, rules}
use Rattle.tg_accept.specs.Kept.{IsKept}
use Rattle.tg_infer.specs.Scopes.{outside}
use Rattle.tg_infer.specs.Words.{AreWordsOf}
use Rattle.tg_theory.specs.Typed.{are_declared}
use Rattle.tg_theory.proofs.ClosedTypes.{all_declared_if}
use Rattle.tg_types.specs.Types.{types}
use Rattle.tg_standing.specs.Formulas.{raw_formula}
use Rattle.tg_standing.proofs.FormulaLaws.{answer_in}
use Rattle.tg_standing.proofs.formulas.formula_of.Goals as goal

pub whole-requires-clause-place : goal.whole-requires-clause-place
whole-requires-clause-place c =
    let all : are_declared (types c.args.vars.now) ≡ true = search rules in
    let none : c.new-variables.result ≡ [] = search rules in
    let scope = c.outside-scope.ensures in
    record {
      scope = scope.is ∙ (λ i. outside (c.declarations.ensures.whole i) (none i) true);
      words =
          subst (λ w. AreWordsOf w c.outside-scope.result.declared.now) (sym scope.words)
          (subst (AreWordsOf c.args.words.now) (sym (scope.declared ∙ c.declarations.ensures.whole)) c.requires);
      kept = subst IsKept (sym scope.declared) c.declarations.ensures.kept;
      vars = all_declared_if (types c.args.vars.now) all;
    }

pub returns : goal.returns
returns c =
    let all : are_declared (types c.args.vars.now) ≡ true = search rules in
    answer_in c.args.th.now c.args.vars.now (raw_formula c.args.raw.now) c.new-under.result c.whole.new.under c.in_ok-f.f c.new-under.ensures.none all c.in_ok-f.ensures
