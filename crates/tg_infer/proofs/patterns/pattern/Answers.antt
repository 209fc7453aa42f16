use Rattle.std.proofs.Common.{◌≡◌, ◌∙◌, true, false, Some, None, ap, rules}
use Rattle.std.specs.List.{list_any}
use Rattle.tg_accept.specs.Equations.{pattern_meant}
use Rattle.tg_accept.specs.Faults.{is_taken}
use Rattle.tg_accept.specs.Meaning.{taken_names, head_meant}
use Rattle.tg_typing.specs.View as typing
use Rattle.tg_grammar.specs.declared.declarations.RawPat.TheVariants.{Con}
use Rattle.tg_infer.specs.Scopes.{scope_of}
use Rattle.tg_infer.specs.View.{head, raw_pattern}
use Rattle.tg_infer.proofs.PatternLaws.{taken_bracketed, found_bracketed}
use Rattle.tg_infer.proofs.patterns.pattern.Goals as goal

pub returns-then-some_taken : goal.returns-then-some_taken
returns-then-some_taken c =
    let S = scope_of c.args.scope.now in
    let taken : list_any (λ x. is_taken x (taken_names S)) c.in-Con.xs ≡ true = search rules in
    let whole : Con c.in-Con.con c.in-Con.xs ≡ c.args.p.now = search rules in
    taken_bracketed S c.in-Con.con c.in-Con.xs taken ∙ ap (λ p. pattern_meant S (raw_pattern p)) whole

pub returns-in_ok-names-in-Con : goal.returns-in_ok-names-in-Con
returns-in_ok-names-in-Con c =
    let S = scope_of c.args.scope.now in
    let free : list_any (λ x. is_taken x (taken_names S)) c.in-Con.xs ≡ false = search rules in
    let of : Some (typing.head c.in-Some.head) ≡ head_meant S.declared (head c.in-Con.con) = search rules in
    let names : c.in_ok-names-in-Con.names ≡ c.in-Con.xs = search rules in
    let whole : Con c.in-Con.con c.in-Con.xs ≡ c.args.p.now = search rules in
    found_bracketed S c.in-Con.con c.in-Con.xs c.in_ok-names-in-Con.names (typing.head c.in-Some.head) free of names ∙ ap (λ p. pattern_meant S (raw_pattern p)) whole
