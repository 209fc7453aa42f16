-- Recorded outcomes, written one behind another.
use Rattle.std.proofs.Common.{◌≡◌, ◌<◌, ℕ, ◌+◌, length, List, drop, map, get_or, sym, ap, ◌∙◌}
use Rattle.tg_model.specs.Theory.{Theory}
use Rattle.tg_term.specs.declared.classes.Outcome.{Outcome}
use Rattle.tg_term.specs.Classes.{answer_of}
use Rattle.tg_render.specs.Render.{written_line, written_lines}
use Rattle.tg_render.proofs.Writing.{written-append, lines-append}
use Rattle.tg_harness.proofs.Lists.{drop_next}
use Rattle.tg_harness.specs.OutcomeTexts.{recorded, record_lines}
use Rattle.tg_harness.specs.Tests.{record_of}

pub record_next : (th : Theory) (out next whole : List ℕ) (os : List Outcome) (i : ℕ) (o : Outcome) → i < length os → o ≡ get_or os i o
    → written_lines out (record_lines th (map record_of (drop i os))) ≡ whole → next ≡ written_line out (recorded th o.test (answer_of o))
    → written_lines next (record_lines th (map record_of (drop (i + 1) os))) ≡ whole
record_next th out next whole os i o less e so_far more =
    ap (λ l. written_lines l (record_lines th (map record_of (drop (i + 1) os)))) more
    ∙ sym (ap (λ us. written_lines out (record_lines th (map record_of us))) (drop_next os i o less e)) ∙ so_far

pub ruleset writing = (written-append, lines-append, record_next)
