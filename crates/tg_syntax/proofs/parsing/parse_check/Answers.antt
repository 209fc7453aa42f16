use Rattle.std.proofs.Common.{◌≡◌, false, sym, ap, ◌∙◌}
use Rattle.tg_lex.specs.Load.{load_limit, load_passes}
use Rattle.tg_grammar.specs.Seen.{seen_with}
use Rattle.tg_grammar.specs.Parts.{Check}
use Rattle.tg_syntax.specs.Parsing.{Parses}
use Rattle.tg_syntax.proofs.Parsed.{reading, tells_texts}
use Rattle.tg_syntax.proofs.parsing.parse_check.Goals as goal

parses : (c : goal.After-finish) → Parses Check c.args.bytes.now c.args.tokens.now c.finish.result
parses c =
    let low : load_passes load_limit c.args.bytes.now c.args.tokens.now ≡ false = sym c.in_ok-is_nested.ensures ∙ c.if-branch.false in
    reading Check c.args.bytes.now c.args.tokens.now c.new-reader.result c.theory_and_certificate-read.new.reader c.theory_and_certificate-read.result c.len.result
    c.finish.result low (c.new-reader.ensures ∙ ap (λ w. seen_with w c.args.bytes.now c.args.tokens.now) c.version_one.ensures) c.theory_and_certificate-read.ensures.exact c.len.ensures c.finish.ensures

pub returns-clause-reading : goal.returns-clause-reading
returns-clause-reading = parses

pub returns-clause-only : goal.returns-clause-only
returns-clause-only c = λ value low text. tells_texts Check c.args.bytes.now c.args.tokens.now value c.finish.result (parses c) low text
