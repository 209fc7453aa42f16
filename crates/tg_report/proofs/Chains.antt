-- Tokens written one behind another.
use Rattle.std.proofs.Common.{◌≡◌, ℕ, List, [], ◌∷◌, ◌++◌, sym, ap, ◌∙◌}
use Rattle.std.specs.Prelude.{codes}
use Rattle.tg_grammar.specs.Kinds.{close_paren}
use Rattle.tg_grammar.specs.Seen.{Seen}
use Rattle.tg_render.specs.Render.{put, written}
use Rattle.tg_render.specs.Tokens.{mark, enclosed}
use Rattle.tg_render.proofs.Writing.{written-append}

-- a token, and then the others
pub one : (out first next text : List ℕ) (kind : ℕ) (ts : List Seen) → first ≡ put out text → next ≡ written first ts
    → next ≡ written out (mark kind text ∷ ts)
one out first next text kind ts a b = b ∙ ap (λ o. written o ts) a

-- some tokens, and then the others
pub some : (out mid next : List ℕ) (ts us : List Seen) → mid ≡ written out ts → next ≡ written mid us → next ≡ written out (ts ++ us)
some out mid next ts us a b = b ∙ ap (λ o. written o us) a ∙ sym (written-append out ts us)

-- tokens in brackets
pub inside : (out first mid next : List ℕ) (ts : List Seen) → first ≡ put out (codes "(") → mid ≡ written first ts → next ≡ put mid (codes ")")
    → next ≡ written out (enclosed ts)
inside out first mid next ts a b c =
    c ∙ ap (λ o. put o (codes ")")) (b ∙ ap (λ o. written o ts) a) ∙ sym (written-append (put out (codes "(")) ts (mark close_paren (codes ")") ∷ []))

pub ruleset chains = (one, some, inside)
