use Rattle.tg_cert.proofs.CertificateReading.{certificates_are_texts}
use Rattle.tg_cert.proofs.LinesBack.{lines_read_back}
use Rattle.tg_cert.proofs.laws.read_back.Goals as goal

pub returns-clause-texts : goal.returns-clause-texts
returns-clause-texts c = certificates_are_texts

pub returns-clause-lines : goal.returns-clause-lines
returns-clause-lines c = lines_read_back
