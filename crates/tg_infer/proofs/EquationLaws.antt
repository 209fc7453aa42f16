-- What equations mean.
use Rattle.std.proofs.Common.{ℕ, ◌≡◌, List, [], map, Option, Some, None, refl, sym, ◌∙◌, ap}
use Rattle.std.specs.Prelude.{option_map, option_and_then}
use Rattle.tg_accept.specs.Equations as model
use Rattle.tg_accept.specs.Equations.{pattern_meant, equation_meant, under, left_variables}
use Rattle.tg_accept.specs.Meaning.{Scope, each_meant, resolve}
use Rattle.tg_accept.specs.Resolved as resolveds
use Rattle.tg_grammar.specs.declared.declarations.RawEq.{RawEq}
use Rattle.tg_equations.specs.declared.equations.Pattern.{Pattern}
use Rattle.tg_equations.specs.View.{patterns, equation}
use Rattle.tg_typing.specs.declared.resolved.Resolved.{Resolved}
use Rattle.tg_typing.specs.View.{resolved}
use Rattle.tg_infer.specs.Scopes.{AreSameVariables}
use Rattle.tg_infer.specs.View.{raw_pattern, raw_term, raw_equation}
use Rattle.tg_infer.proofs.SameVariables.{same_resolve}

abbrev pub Variables : Type 0
Variables = List (List ℕ × ℕ)

-- what the right side means by the left side's variables
side : (S : Scope) (vs : Variables) (ps : List model.Pattern) (e : RawEq) → AreSameVariables vs (left_variables ps)
    → resolve (record S { variables = vs }) [] (raw_term e.body) ≡ resolve (under S ps) [] (raw_term e.body)
side S vs ps e h = same_resolve S vs (left_variables ps) h [] (raw_term e.body)

meant : (S : Scope) (ps : List Pattern) (e : RawEq) → Some (patterns ps) ≡ each_meant (pattern_meant S) (map raw_pattern e.pats)
    → equation_meant S (raw_equation e)
    ≡ option_map (λ t. record { head = e.head; patterns = patterns ps; body = t }) (resolve (under S (patterns ps)) [] (raw_term e.body))
meant S ps e h = ap (option_and_then (λ qs. option_map (λ t. record { head = e.head; patterns = qs; body = t }) (resolve (under S qs) [] (raw_term e.body)))) (sym h)

pub equation_found : (S : Scope) (vs : Variables) (ps : List Pattern) (e : RawEq) (t : Resolved) → Some (patterns ps) ≡ each_meant (pattern_meant S) (map raw_pattern e.pats)
    → AreSameVariables vs (left_variables (patterns ps)) → Some (resolved t) ≡ resolve (record S { variables = vs }) [] (raw_term e.body)
    → Some (equation (record { head = e.head; patterns = ps; body = t })) ≡ equation_meant S (raw_equation e)
equation_found S vs ps e t hp hv ht =
    ap (option_map (λ u. record { head = e.head; patterns = patterns ps; body = u })) (ht ∙ side S vs (patterns ps) e hv) ∙ sym (meant S ps e hp)

pub no_side : (S : Scope) (vs : Variables) (ps : List Pattern) (e : RawEq) → Some (patterns ps) ≡ each_meant (pattern_meant S) (map raw_pattern e.pats)
    → AreSameVariables vs (left_variables (patterns ps)) → None ≡ resolve (record S { variables = vs }) [] (raw_term e.body)
    → None ≡ equation_meant S (raw_equation e)
no_side S vs ps e hp hv ht =
    ap (option_map (λ u. record { head = e.head; patterns = patterns ps; body = u })) (ht ∙ side S vs (patterns ps) e hv) ∙ sym (meant S ps e hp)

pub no_patterns : (S : Scope) (e : RawEq) → None ≡ each_meant (pattern_meant S) (map raw_pattern e.pats) → None ≡ equation_meant S (raw_equation e)
no_patterns S e h = ap (option_and_then (λ qs. option_map (λ t. record { head = e.head; patterns = qs; body = t }) (resolve (under S qs) [] (raw_term e.body)))) h

pub ruleset equations = (equation_found, no_side, no_patterns)
