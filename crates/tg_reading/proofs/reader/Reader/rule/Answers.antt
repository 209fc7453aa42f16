use Rattle.std.proofs.Common.{sym, ◌∙◌}
use Rattle.tg_reading.proofs.RuleNames.{rule_taken}
use Rattle.tg_reading.proofs.reader.Reader.rule.Goals as goal

pub returns-in-Some-clause-exact : goal.returns-in-Some-clause-exact
returns-in-Some-clause-exact c =
    rule_taken c.args.self.now c.advance.new.self c.in-Some.kind (sym c.next_kind.ensures ∙ c.in-Some.is) (sym c.is_rule.ensures ∙ c.if-is_rule.true) c.advance.ensures
