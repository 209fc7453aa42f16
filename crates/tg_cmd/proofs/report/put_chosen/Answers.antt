use Rattle.std.proofs.Common.{◌≡◌, List, map, Some, OnOk, ap, ◌∙◌, subst}
use Rattle.tg_model.specs.Filling.{fill}
use Rattle.tg_model.specs.Value as model
use Rattle.tg_term.specs.Classes.{inputs_of}
use Rattle.tg_term.specs.Values.{value}
use Rattle.tg_render.specs.Render.{written_lines}
use Rattle.tg_report.specs.ClassTexts.{class_lines}
use Rattle.tg_cmd.proofs.report.put_chosen.Goals as goal

pub returns-in_ok-datum-in-Tested : goal.returns-in_ok-datum-in-Tested
returns-in_ok-datum-in-Tested c =
    let k = c.args.c.now in
    let datum : map value c.from_vec.result ≡ fill (map value c.in-Tested.values) (inputs_of k.pattern) =
    ap (map value) c.from_vec.ensures ∙ c.in_ok-datum-in-Tested.ensures ∙ ap (λ vs. fill (map value vs) (inputs_of k.pattern)) c.as_slice.ensures in
    rw c.in-Tested.is (subst (λ (vs : List model.Value). OnOk c.put_class.result (c.put_class.new.out.items
    ≡ written_lines c.args.out.now.items (class_lines c.args.th.now c.args.number (inputs_of k.pattern) k.constraints k.checks (Some (model.values vs)) c.args.verdict)))
    datum c.put_class.ensures)
