-- Lines of terms, written one behind another.
use Rattle.std.proofs.Common.{◌≡◌, length, ◌<◌, ℕ, ◌+◌, List, [], ◌∷◌, ◌++◌, drop, get_or, sym, ap, ◌∙◌}
use Rattle.tg_model.specs.Theory.{Theory}
use Rattle.tg_model.specs.Tree.{Tree}
use Rattle.tg_render.specs.Render.{put, written, written_lines}
use Rattle.tg_render.proofs.Writing.{lines-append}
use Rattle.tg_report.specs.TermTexts.{term_tokens}
use Rattle.tg_report.specs.ClassTexts.{term_lines}
use Rattle.tg_report.proofs.Lists.{drop_next}

pub line_next : (th : Theory) (word out first second next whole : List ℕ) (ts : List Tree) (i : ℕ) (t : Tree) → i < length ts → t ≡ get_or ts i t
    → written_lines out (term_lines th word (drop i ts)) ≡ whole → first ≡ put out word → second ≡ written first (term_tokens th 0 t)
    → next ≡ second ++ 10 ∷ [] → written_lines next (term_lines th word (drop (i + 1) ts)) ≡ whole
line_next th word out first second next whole ts i t less e so_far a b c =
    let rest = term_lines th word (drop (i + 1) ts) in
    ap (λ o. written_lines o rest) (c ∙ ap (λ o. o ++ 10 ∷ []) (b ∙ ap (λ o. written o (term_tokens th 0 t)) a))
    ∙ sym (ap (λ us. written_lines out (term_lines th word us)) (drop_next ts i t less e)) ∙ so_far

pub ruleset writing = (lines-append, line_next)
