use Rattle.tg_cert.proofs.CertificateLaws as laws
use Rattle.tg_cert.proofs.laws.certificates.Goals as goal

pub returns-clause-one : goal.returns-clause-one
returns-clause-one c = laws.one_sequent

pub returns-clause-fault : goal.returns-clause-fault
returns-clause-fault c = laws.one_fault

pub returns-clause-not_both : goal.returns-clause-not_both
returns-clause-not_both c = laws.never_both

pub returns-clause-derivable : goal.returns-clause-derivable
returns-clause-derivable c = laws.proved_is_derivable

pub returns-clause-truth : goal.returns-clause-truth
returns-clause-truth c = laws.proved_is_true
