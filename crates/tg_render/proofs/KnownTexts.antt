-- Texts that are known by hand.
use Rattle.std.specs.Prelude.{◌≡◌, ℕ, true, false, List, [], ◌∷◌, map, codes}
use Rattle.std.proofs.Common.{refl}
use Rattle.tg_grammar.specs.Seen.{Seen}
use Rattle.tg_render.specs.Render.{is_apart, put, render, lines}
use Rattle.tg_render.specs.Tokens.{mark, enclosed, divided, application}

abbrev token : List ℕ → Seen
token text = mark 0 text

quantified : render (map token (codes "(" ∷ codes "ALL" ∷ codes "nat" ∷ codes "." ∷ codes "[" ∷ codes "a" ∷ codes "]" ∷ codes ")" ∷ []))
    ≡ codes "(ALL nat. [a])"
unfolding put
quantified = refl

branches : render (map token (codes "{" ∷ codes "C" ∷ codes "!" ∷ codes "1" ∷ codes "=>" ∷ codes "?" ∷ codes "2" ∷ codes "," ∷ codes "D" ∷ codes "}" ∷ []))
    ≡ codes "{C !1 => ?2, D}"
unfolding put
branches = refl

no_comment : render (map token (codes "(" ∷ codes "*" ∷ codes ")" ∷ [])) ≡ codes "( *)"
unfolding put
no_comment = refl

no_tokens : render [] ≡ []
no_tokens = refl

two_lines : lines (map token (codes "a" ∷ codes "b" ∷ []) ∷ [] ∷ map token (codes "c" ∷ []) ∷ []) ≡ codes "a b\n\nc\n"
unfolding put
two_lines = refl

brackets_alone : render (enclosed (token (codes "a") ∷ [])) ≡ codes "(a)"
unfolding put
brackets_alone = refl

head_alone : application (token (codes "C")) [] ≡ token (codes "C") ∷ []
head_alone = refl

commas : render (divided (token (codes ",")) ((token (codes "a") ∷ []) ∷ (token (codes "b") ∷ []) ∷ [])) ≡ codes "a, b"
unfolding put
commas = refl

behind_a_word : is_apart 97 (codes "(") ≡ true
behind_a_word = refl

behind_a_bracket : is_apart 40 (codes "a") ≡ false
behind_a_bracket = refl
