use Rattle.std.proofs.Common.{◌≡◌, false, sym, ap, ◌∙◌}
use Rattle.tg_lex.specs.Load.{load_limit, load_passes}
use Rattle.tg_grammar.specs.Seen.{seen_with}
use Rattle.tg_grammar.specs.Parts.{Theory}
use Rattle.tg_syntax.specs.Parsing.{Parses}
use Rattle.tg_syntax.proofs.Parsed.{reading, tells_texts}
use Rattle.tg_syntax.proofs.parsing.parse_theory.Goals as goal

parses : (c : goal.After-finish) → Parses Theory c.args.bytes.now c.args.tokens.now c.finish.result
parses c =
    let low : load_passes load_limit c.args.bytes.now c.args.tokens.now ≡ false = sym c.in_ok-is_nested.ensures ∙ c.if-branch.false in
    reading Theory c.args.bytes.now c.args.tokens.now c.new-reader.result c.theory-read.new.reader c.theory-read.result c.len.result
    c.finish.result low (c.new-reader.ensures ∙ ap (λ w. seen_with w c.args.bytes.now c.args.tokens.now) c.version_one.ensures) c.theory-read.ensures.exact c.len.ensures c.finish.ensures

pub returns-clause-reading : goal.returns-clause-reading
returns-clause-reading = parses

pub returns-clause-only : goal.returns-clause-only
returns-clause-only c = λ value low text. tells_texts Theory c.args.bytes.now c.args.tokens.now value c.finish.result (parses c) low text
