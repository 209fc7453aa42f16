use Rattle.std.proofs.Common.{◌∙◌, subst, inl, inr}
use Rattle.tg_lex.specs.Grammar.{Spells}
use Rattle.tg_lex.specs.Load.{text_of}
use Rattle.tg_lex.proofs.Effects.{at_symbol, at_word, at_number, at_variable}
use Rattle.tg_lex.proofs.load.effect_of.Goals as goal

pub returns-in-Sym : goal.returns-in-Sym
returns-in-Sym c =
    let text = text_of c.args.bytes.now c.args.token.now in
    c.symbol_effect.ensures ∙ at_symbol text c.in-Sym.code (subst (λ k. Spells k text) c.in-Sym.is c.requires.spelled)

pub returns-in-Word : goal.returns-in-Word
returns-in-Word c =
    let text = text_of c.args.bytes.now c.args.token.now in
    c.word_effect.ensures ∙ at_word text (subst (λ k. Spells k text) c.in-Word.is c.requires.spelled)

pub returns-in-TyVar : goal.returns-in-TyVar
returns-in-TyVar c =
    let text = text_of c.args.bytes.now c.args.token.now in
    elim c.in-TyVar.is [
      | inl e ↦ at_variable text (subst (λ k. Spells k text) e c.requires.spelled)
      | inr e ↦ at_number text (subst (λ k. Spells k text) e c.requires.spelled)
    ]
