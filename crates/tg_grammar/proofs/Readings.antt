-- The laws of reading, which hold of the table, said of the page.
use Rattle.std.proofs.Common.{List, ◌∷◌, ◌++◌, inl, inr}
use Rattle.tg_rules.specs.Fault.{IsFault}
use Rattle.tg_rules.specs.Laws.{HasOneReading, HasTextOrFault, HasNotBoth, HasOneFault, HasFaultAtLongest, HaveSameReadings}
use Rattle.tg_rules.specs.Texts.{Reads}
use Rattle.tg_rules.proofs.Places as places
use Rattle.tg_rules.proofs.Whole as whole
use Rattle.tg_grammar.specs.Seen.{Seen}
use Rattle.tg_grammar.specs.Parts.{Part}
use Rattle.tg_grammar.specs.Page.{page}
use Rattle.tg_grammar.specs.Table.{table}
use Rattle.tg_grammar.specs.First.{foresight}
use Rattle.tg_grammar.specs.Samples.{token, sample}
use Rattle.tg_grammar.specs.Reading.{kind, IsText}
use Rattle.tg_grammar.specs.Passing.{all_pass}
use Rattle.tg_grammar.specs.Laws.{ReadsByRule, ReadsTexts, StopsAtFault, StopsBeforeFault}
use Rattle.tg_grammar.proofs.FromPage.{from_page}
use Rattle.tg_grammar.proofs.ToPage.{to_page}

pub same_readings : HaveSameReadings kind page table
same_readings n v ts = (from_page n v ts, to_page n v ts)

pub one_value : HasOneReading kind page
one_value n v w ts a b = whole.one_reading kind table foresight token sample all_pass n v w ts (from_page n v ts a) (from_page n w ts b)

-- a fault by the table is one by the page
on_page : (n : Part) (ts front left : List Seen) → IsFault (Reads kind table n) ts front left → IsFault (IsText n) ts front left
on_page n = places.fault_also (Reads kind table n) (IsText n) (λ v ts. (to_page n v ts, from_page n v ts))

pub text_or_fault : HasTextOrFault kind page
text_or_fault n ts = elim (whole.text_or_fault kind table foresight token sample all_pass n ts) [
  | inl h ↦ inl (h.0, to_page n h.0 ts h.1)
  | inr h ↦ inr (h.0, h.1, on_page n ts h.0 h.1 h.2)
]

pub not_both : HasNotBoth kind page
not_both n = places.not_both (IsText n)

pub one_fault : HasOneFault kind page
one_fault n = places.one_fault (IsText n)

pub fault_is_longest : HasFaultAtLongest kind page
fault_is_longest n = places.fault_is_longest (IsText n)

pub reads_by_rule : ReadsByRule
reads_by_rule = whole.read_is kind table foresight token sample all_pass

pub reads_texts : ReadsTexts
reads_texts n v ts = (
  λ e. to_page n v ts (whole.whole_read kind table foresight token sample all_pass n v ts e),
  λ r. whole.read_whole kind table foresight token sample all_pass n v ts (from_page n v ts r),
)

pub stops_at_fault : StopsAtFault
stops_at_fault n front left e = on_page n (front ++ left) front left (whole.fault_at kind table foresight token sample all_pass n front left e)

pub stops_before_fault : StopsBeforeFault
stops_before_fault n front v t left e =
    on_page n (front ++ t ∷ left) front (t ∷ left) (whole.fault_before kind table foresight token sample all_pass n front v t left e)
