-- The lines of a sequent, one behind another.
use Rattle.std.proofs.Common.{◌≡◌, ℕ, ◌+◌, ◌-◌, ◌<◌, ◌≤◌, List, [], ◌∷◌, ◌++◌, length, map, drop, take, get_or, sym, ap, ◌∙◌, arith}
use Rattle.std.specs.Prelude.{codes}
use Rattle.std.proofs.lemmas.List.{map_more, drop_more, take_rest}
use Rattle.tg_model.specs.Formula.{Formula}
use Rattle.tg_model.specs.Theory.{Theory}
use Rattle.tg_types.specs.declared.types.Ty.{Ty}
use Rattle.tg_types.specs.Types.{ty}
use Rattle.tg_grammar.specs.Seen.{Seen}
use Rattle.tg_render.specs.Render.{put, written, written_line, written_lines}
use Rattle.tg_render.specs.Tokens.{continued, divided}
use Rattle.tg_render.proofs.Writing.{written-append, lines-append}
use Rattle.tg_report.specs.TypeTexts.{ty_tokens}
use Rattle.tg_report.specs.Words.{comma}
use Rattle.tg_cmd.specs.CheckedLines.{assumed_lines, formula_line}

-- types with a comma before each
abbrev pub types_behind : Theory → List Ty → List Seen
types_behind th ts = continued comma (map (ty_tokens th) (map ty ts))

pub type_next : (th : Theory) (out mid next whole : List ℕ) (ts : List Ty) (i : ℕ) (t : Ty) → i < length ts → t ≡ get_or ts i t
    → written out (types_behind th (drop i ts)) ≡ whole → mid ≡ put out (codes ",") → next ≡ written mid (ty_tokens th (ty t))
    → written next (types_behind th (drop (i + 1) ts)) ≡ whole
type_next th out mid next whole ts i t less e so_far first second =
    let rest = types_behind th (drop (i + 1) ts) in
    let cut = drop_more ts i t less ∙ ap (λ u. u ∷ drop (i + 1) ts) (sym e) in
    ap (λ o. written o rest) (second ∙ ap (λ o. written o (ty_tokens th (ty t))) first)
    ∙ sym (written-append (put out (codes ",")) (ty_tokens th (ty t)) rest)
    ∙ sym (ap (λ us. written out (types_behind th us)) cut) ∙ so_far

pub first_then : (th : Theory) (out mid next : List ℕ) (ts : List Ty) (t : Ty) → 1 ≤ length ts → t ≡ get_or ts 0 t → mid ≡ written out (ty_tokens th (ty t))
    → next ≡ written mid (types_behind th (take (length ts - 1) (drop 1 ts))) → next ≡ written out (divided comma (map (ty_tokens th) (map ty ts)))
first_then th out mid next [] t some e first rest = absurd (omega (arith, some))
first_then th out mid next (u ∷ us) t some e first rest =
    rest ∙ ap (λ o. written o (types_behind th (take (length (u ∷ us) - 1) us))) (first ∙ ap (λ x. written out (ty_tokens th (ty x))) e)
    ∙ ap (λ l. written (written out (ty_tokens th (ty u))) (types_behind th l)) (take_rest (u ∷ us) 1)
    ∙ sym (written-append out (ty_tokens th (ty u)) (types_behind th us))

pub assumed_next : (th : Theory) (out before after : List ℕ) (fs : List Formula) (i : ℕ) (f : Formula) → i < length fs → f ≡ get_or fs i f
    → before ≡ written_lines out (assumed_lines th (take i fs)) → after ≡ written_line before (formula_line th (codes "hypothesis") f)
    → after ≡ written_lines out (assumed_lines th (take (i + 1) fs))
assumed_next th out before after fs i f less e so_far one =
    let line = formula_line th (codes "hypothesis") in
    one ∙ ap (λ o. written_line o (line f)) so_far ∙ sym (lines-append out (map line (take i fs)) (line f ∷ []))
    ∙ ap (λ g. written_lines out (map line (take i fs) ++ line g ∷ [])) e ∙ ap (written_lines out) (sym (map_more line fs i f less))
