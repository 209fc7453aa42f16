use Rattle.std.proofs.Common.{◌++◌, map, ap, ◌∙◌}
use Rattle.tg_term.specs.Values.{value}
use Rattle.tg_harness.specs.HarnessTexts.{words}
use Rattle.tg_harness.proofs.HarnessLaws.{test_written}
use Rattle.tg_harness.proofs.writing.put_test.Goals as goal

pub returns : goal.returns
returns c = test_written c.put-2.result c.args.th.now c.from-number.result c.args.t.now.class (map value c.args.t.now.datum) c.args.out.now.items
    c.put.new.out.items c.put_words.new.out.items c.put-2.new.out.items c.from-number.ensures c.in_ok-put.ensures.whole
    (c.in_ok-put_words.ensures ∙ ap (λ l. c.put.new.out.items ++ words c.args.th.now (map value l)) c.as_slice.ensures) c.put-2.ensures.whole
