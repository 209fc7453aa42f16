use Rattle.tg_rules.specs.Texts.{Reads}
use Rattle.tg_rules.proofs.Heights.{reads_also}
use Rattle.tg_rules.proofs.Places.{fault_also}
use Rattle.tg_rules.proofs.laws.pages.Goals as goal

pub returns-clause-to_page : goal.returns-clause-to_page
returns-clause-to_page g c = let G = g.G.Tables in reads_also G.kind G.page G.rule

pub returns-clause-from_page : goal.returns-clause-from_page
returns-clause-from_page g c = let G = g.G.Tables in reads_also G.kind G.rule G.page

pub returns-clause-faults : goal.returns-clause-faults
returns-clause-faults g c same n ts front left =
    let G = g.G.Tables in (
      fault_also (Reads G.kind G.page n) (Reads G.kind G.rule n) (same n) ts front left,
      fault_also (Reads G.kind G.rule n) (Reads G.kind G.page n) (λ v us. ((same n v us).1, (same n v us).0)) ts front left,
    )
