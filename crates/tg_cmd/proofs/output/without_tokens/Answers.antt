use Rattle.std.proofs.Common.{sym, subst, All}
use Rattle.tg_lex.specs.Answers.{IsFirstFault}
use Rattle.tg_lex.specs.Grammar.{IsTokenOf}
use Rattle.tg_lex.proofs.Runs.{texts}
use Rattle.tg_cmd.proofs.output.without_tokens.Goals as goal

pub wrong_token-requires : goal.wrong_token-requires
wrong_token-requires c =
    let fault = subst (IsFirstFault c.args.bytes.now) c.in-Byte.is c.requires in
    subst (All (IsTokenOf c.args.bytes.now)) (sym c.as_slice.ensures) (texts c.args.bytes.now c.in-Byte.before c.in-Byte.at fault.0)

pub wrong_token-requires-in-Comment : goal.wrong_token-requires-in-Comment
wrong_token-requires-in-Comment c =
    let fault = subst (IsFirstFault c.args.bytes.now) c.in-Comment.is c.requires in
    subst (All (IsTokenOf c.args.bytes.now)) (sym c.as_slice-in-Comment.ensures) (texts c.args.bytes.now c.in-Comment.before c.in-Comment.at fault.0)
