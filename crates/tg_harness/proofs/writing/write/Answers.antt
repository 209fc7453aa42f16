use Rattle.std.specs.Prelude.{codes}
use Rattle.tg_harness.specs.OutcomeTexts.{head_line}
use Rattle.tg_harness.proofs.HarnessLaws.{script}
use Rattle.tg_harness.proofs.writing.write.Goals as goal

pub returns : goal.returns
returns c = script (codes "#!/bin/sh\nprintf '%s\\n' '") _ _ _ _ (codes "printf '%s\\n' 'end'\n") _ _ _ c.put-2.new.out.items (head_line c.args.s.now)
    c.new-head.ensures.items c.as_slice.ensures.value c.in_ok-put_head.ensures c.new-out.ensures.items c.in_ok-put.ensures.whole c.in_ok-put_tests.ensures
    c.in_ok-put-2.ensures.whole
