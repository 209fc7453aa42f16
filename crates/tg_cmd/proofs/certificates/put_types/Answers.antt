use Rattle.std.proofs.lemmas.Result.{on_ok_weaker}
use Rattle.tg_cmd.proofs.CheckedLaws.{first_then}
use Rattle.tg_cmd.proofs.certificates.put_types.Goals as goal

pub returns-in_ok-put_ty-in-len1-up : goal.returns-in_ok-put_ty-in-len1-up
returns-in_ok-put_ty-in-len1-up c =
    on_ok_weaker _ (first_then _ _ _ _ _ _ c.in-len1-up.len_at_least c.first-item.is c.in_ok-put_ty-in-len1-up.ensures) c.put_more.ensures
