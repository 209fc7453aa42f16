use Rattle.std.proofs.Common.{◌≡◌, drop, map}
use Rattle.tg_render.specs.Render.{written_lines}
use Rattle.tg_harness.specs.OutcomeTexts.{record_lines}
use Rattle.tg_harness.specs.Tests.{record_of}
use Rattle.tg_harness.proofs.recording.put_records.Given as goal

-- with what is left it is the whole
abbrev pub invariant-loop-outcome : goal.invariant-loop-outcome
invariant-loop-outcome l =
    written_lines l.out.items (record_lines l.th (map record_of (drop l.outcome-index l.list))) ≡ written_lines l.fn.out.items (record_lines l.th (map record_of l.list))
