use Rattle.std.proofs.Common.{◌≡◌, drop}
use Rattle.tg_tables.specs.Lists.{schema_list}
use Rattle.tg_cert.specs.CertificateTexts.{name_in, row_name}
use Rattle.tg_cert.proofs.writing.row_name.Given as goal

-- it is among what is left
abbrev pub invariant-loop-i : goal.invariant-loop-i
invariant-loop-i l = name_in (drop l.i schema_list) l.number ≡ row_name l.number
