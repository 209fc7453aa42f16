-- How records are read one behind another.
use Rattle.std.specs.Prelude.{ℕ, ◌∷◌, List, []}
use Rattle.tg_grammar.specs.declared.outcomes.RawItem.{RawItem}
use Rattle.tg_model.specs.Theory.{Theory}
use Rattle.tg_term.specs.declared.classes.Outcome.{Outcome}
use Rattle.tg_verdict.specs.Places.{HaveSame}
use Rattle.tg_verdict.specs.Records.{AreRecords}

abbrev pub item_number : RawItem → ℕ
item_number i = i.test

-- the numbers of the records, the last one first
abbrev pub numbers_back : List ℕ → List RawItem → List ℕ
numbers_back before [] = before
numbers_back before (i ∷ is) = numbers_back (i.test ∷ before) is

-- these records are those outcomes, and the numbers are theirs
pub record IsReached (th : Theory) (known : List ℕ) (is : List RawItem) (os : List Outcome) (numbers : List ℕ) : Type 0 where
  pub records : AreRecords th known [] is os
  pub numbered : HaveSame numbers (numbers_back [] is)
