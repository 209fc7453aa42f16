-- What is written behind what is written.
use Rattle.std.proofs.Common.{◌≡◌, ℕ, List, [], ◌∷◌, ◌++◌, refl}
use Rattle.tg_grammar.specs.Seen.{Seen}
use Rattle.tg_render.specs.Render.{put, written, written_line, written_lines}

-- tokens behind tokens
pub written-append : (out : List ℕ) (ts us : List Seen) → written out (ts ++ us) ≡ written (written out ts) us
written-append out [] us = refl
written-append out (t ∷ ts) us = written-append (put out t.text) ts us

pub lines-append : (out : List ℕ) (tss uss : List (List Seen)) → written_lines out (tss ++ uss) ≡ written_lines (written_lines out tss) uss
lines-append out [] uss = refl
lines-append out (ts ∷ tss) uss = lines-append (written_line out ts) tss uss

pub ruleset writing = (written-append, lines-append)
