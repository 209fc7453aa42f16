-- Formulas within a number of binders: a term in `[` and `]`, and all else in round brackets.
use Rattle.std.specs.Prelude.{ℕ, ◌+◌, List, [], ◌∷◌, ◌++◌, codes}
use Rattle.tg_model.specs.Theory.{Theory}
use Rattle.tg_model.specs.Formula.{Formula, atom, both, implies, all, some, thyp, tested, deep}
use Rattle.tg_grammar.specs.Kinds as kinds
use Rattle.tg_grammar.specs.Seen.{Seen}
use Rattle.tg_render.specs.Tokens.{mark, numeral, enclosed, joined}
use Rattle.tg_report.specs.TypeTexts.{ty_tokens}
use Rattle.tg_report.specs.TermTexts.{term_tokens, terms_tokens}

-- `(ALL T. F)`, with `ALL` or `EX`
abbrev pub quantified : Seen → List Seen → List Seen → List Seen
quantified quantifier ty f = enclosed (quantifier ∷ (ty ++ mark kinds.dot (codes ".") ∷ f))

abbrev pub formula_tokens : Theory → ℕ → Formula → List Seen
formula_tokens th level (atom t) = mark kinds.open_bracket (codes "[") ∷ (term_tokens th level t ++ mark kinds.close_bracket (codes "]") ∷ [])
formula_tokens th level (both f g) = enclosed (formula_tokens th level f ++ mark kinds.and (codes "&") ∷ formula_tokens th level g)
formula_tokens th level (implies f g) = enclosed (formula_tokens th level f ++ mark kinds.arrow (codes "-->") ∷ formula_tokens th level g)
formula_tokens th level (all t f) = quantified (mark kinds.all_word (codes "ALL")) (ty_tokens th t) (formula_tokens th (level + 1) f)
formula_tokens th level (some t f) = quantified (mark kinds.exists_word (codes "EX")) (ty_tokens th t) (formula_tokens th (level + 1) f)
formula_tokens th level (thyp f) = enclosed (mark kinds.thyp_word (codes "THYP") ∷ formula_tokens th level f)
formula_tokens th level (tested ts) = enclosed (mark kinds.tested_word (codes "tested") ∷ joined (terms_tokens th level ts))
formula_tokens th level (deep k ts) = enclosed (mark kinds.deep_rule (codes "deep") ∷ numeral k ∷ joined (terms_tokens th level ts))
