-- The repetitions of terms, read one after another: what was read so far stands in front of what is still read, or is folded.
use Rattle.std.proofs.Common.{◌≡◌, ℕ, Bool, true, false, Some, None, Err, List, [], ◌∷◌, ◌++◌, refl, sym, ◌∙◌, if◌then◌else◌}
use Rattle.tg_rules.specs.Reader.{Read, ok, err, out, mapped, followed, starts, token_at}
use Rattle.tg_rules.specs.Repetition.{listed, folded, with_front, fold_from}
use Rattle.tg_rules.proofs.Repetition.{front_end, front_next, front_fault, fold_end, fold_next, fold_fault, without_front, last_one, one_behind, some_fault, some_end, some_next, many_none, many_some}
use Rattle.tg_grammar.specs.declared.terms.RawTerm.{RawTerm}
use Rattle.tg_grammar.specs.declared.terms.Binder.{Binder}
use Rattle.tg_grammar.specs.declared.terms.RawBranch.{RawBranch}
use Rattle.tg_grammar.specs.Making.{chained}
use Rattle.tg_grammar.specs.Page.{branches, arguments, sum_operator, product_operator}
use Rattle.tg_grammar.specs.Seen.{Seen}
use Rattle.tg_grammar.specs.Kinds.{comma, plus, minus, times, div_word, mod_word}
use Rattle.tg_grammar.specs.First.{atoms, variables}
use Rattle.tg_grammar.specs.Parts.{Mode, Variable, Variables, Branch, MoreBranches, Sum, MoreSummands, Product, MoreFactors, Application, Atom, Atoms}
use Rattle.tg_grammar.specs.Reading.{kind, reads}
use Rattle.tg_grammar.proofs.Readings.{reads_by_rule}
use Rattle.tg_reading.specs.declared.reader.Stop.{Stop}
use Rattle.tg_reading.specs.declared.reader.Stop.TheVariants.{Memory, Wrong}
use Rattle.tg_reading.specs.Answers.{Gives, by_rule}

-- ---- lists

pub variables_end : (m : Mode) (front : List Binder) (ts : List Seen) → starts kind (variables m) ts ≡ false → with_front front (reads (Variables m) ts) ≡ ok front ts
variables_end m = front_end (starts kind (variables m)) (reads (Variable m)) (reads (Variables m)) (reads_by_rule (Variables m))

pub variables_next : (m : Mode) (front : List Binder) (ts rest : List Seen) (v : Binder) → starts kind (variables m) ts ≡ true → reads (Variable m) ts ≡ ok v rest
    → with_front front (reads (Variables m) ts) ≡ with_front (front ++ v ∷ []) (reads (Variables m) rest)
variables_next m = front_next (starts kind (variables m)) (reads (Variable m)) (reads (Variables m)) (reads_by_rule (Variables m))

pub variables_fault : (m : Mode) (front : List Binder) (ts left : List Seen) → starts kind (variables m) ts ≡ true → reads (Variable m) ts ≡ err left
    → with_front front (reads (Variables m) ts) ≡ err left
variables_fault m = front_fault (starts kind (variables m)) (reads (Variable m)) (reads (Variables m)) (reads_by_rule (Variables m))

pub variables_stop : (m : Mode) (front : List Binder) (ts left all : List Seen) (s : Stop) → starts kind (variables m) ts ≡ true → Gives {A = Binder} (Err s) left (reads (Variable m) ts)
    → with_front front (reads (Variables m) ts) ≡ reads (Variables m) all → Gives {A = List Binder} (Err s) left (reads (Variables m) all)
variables_stop m front ts left all Memory e stop so_far = tt
variables_stop m front ts left all Wrong e stop so_far = sym so_far ∙ variables_fault m front ts left e stop

pub ruleset variables_by = (variables_end, variables_next, variables_fault)

abbrev branches_read : Mode → List Seen → Read Seen (List RawBranch)
branches_read m ts = by_rule (branches m) ts

pub branches_begin : (m : Mode) (ts : List Seen) → with_front [] (branches_read m ts) ≡ branches_read m ts
branches_begin m ts = without_front (branches_read m ts)

pub branches_end : (m : Mode) (front : List RawBranch) (ts rest : List Seen) (b : RawBranch) → reads (Branch m) ts ≡ ok b rest → starts kind (comma ∷ []) rest ≡ false
    → with_front front (branches_read m ts) ≡ ok (front ++ b ∷ []) rest
branches_end m = last_one (starts kind (comma ∷ [])) (reads (Branch m)) (reads (MoreBranches m)) (token_at kind (comma ∷ [])) (reads_by_rule (MoreBranches m))

pub branches_next : (m : Mode) (front : List RawBranch) (ts rest left : List Seen) (b : RawBranch) (s : Seen) → reads (Branch m) ts ≡ ok b rest → starts kind (comma ∷ []) rest ≡ true
    → token_at kind (comma ∷ []) rest ≡ ok s left → with_front front (branches_read m ts) ≡ with_front (front ++ b ∷ []) (branches_read m left)
branches_next m = one_behind (starts kind (comma ∷ [])) (reads (Branch m)) (reads (MoreBranches m)) (token_at kind (comma ∷ [])) (reads_by_rule (MoreBranches m))

pub branches_fault : (m : Mode) (front : List RawBranch) (ts left : List Seen) → reads (Branch m) ts ≡ err left → with_front front (branches_read m ts) ≡ err left
branches_fault m = some_fault (starts kind (comma ∷ [])) (reads (Branch m)) (reads (MoreBranches m))

pub ruleset branches_by = (branches_begin, branches_end, branches_next, branches_fault)

abbrev arguments_read : Mode → List Seen → Read Seen (List RawTerm)
arguments_read m ts = by_rule (arguments m) ts

pub atoms_none : (m : Mode) (ts : List Seen) → starts kind (atoms m) ts ≡ false → reads (Atoms m) ts ≡ ok [] ts
atoms_none m = many_none (starts kind (atoms m)) (reads (Atom m)) (reads (Atoms m)) (reads_by_rule (Atoms m))

pub atoms_some : (m : Mode) (ts : List Seen) → starts kind (atoms m) ts ≡ true → reads (Atoms m) ts ≡ arguments_read m ts
atoms_some m = many_some (starts kind (atoms m)) (reads (Atom m)) (reads (Atoms m)) (reads_by_rule (Atoms m))

pub ruleset atoms_by = (atoms_none, atoms_some)

pub arguments_begin : (m : Mode) (ts : List Seen) → with_front [] (arguments_read m ts) ≡ arguments_read m ts
arguments_begin m ts = without_front (arguments_read m ts)

pub arguments_end : (m : Mode) (front : List RawTerm) (ts rest : List Seen) (a : RawTerm) → reads (Atom m) ts ≡ ok a rest → starts kind (atoms m) rest ≡ false
    → with_front front (arguments_read m ts) ≡ ok (front ++ a ∷ []) rest
arguments_end m = some_end (starts kind (atoms m)) (reads (Atom m)) (reads (Atoms m)) (reads_by_rule (Atoms m))

pub arguments_next : (m : Mode) (front : List RawTerm) (ts rest : List Seen) (a : RawTerm) → reads (Atom m) ts ≡ ok a rest → starts kind (atoms m) rest ≡ true
    → with_front front (arguments_read m ts) ≡ with_front (front ++ a ∷ []) (arguments_read m rest)
arguments_next m = some_next (starts kind (atoms m)) (reads (Atom m)) (reads (Atoms m)) (reads_by_rule (Atoms m))

pub arguments_fault : (m : Mode) (front : List RawTerm) (ts left : List Seen) → reads (Atom m) ts ≡ err left → with_front front (arguments_read m ts) ≡ err left
arguments_fault m = some_fault (starts kind (atoms m)) (reads (Atom m)) (reads (Atoms m))

pub ruleset arguments_by = (arguments_begin, arguments_end, arguments_next, arguments_fault)

-- ---- chains

-- a first operand and the chain behind it
behind_first : {A B : Type 0} (step : B → A → B) (b : B) (r : Read Seen (List A)) → mapped (λ x. folded step x.0 x.1) (mapped {B = B × List A} (λ rest. (b, rest)) r) ≡ fold_from step b r
behind_first step b (ok rest left) = refl
behind_first step b (err left) = refl
behind_first step b out = refl

-- `operator` reads an operator, `one` an operand behind it, and `many` what is added from here on
module _ (begins : List Seen → Bool) (operator : List Seen → Read Seen ℕ) (one : List Seen → Read Seen RawTerm) (many : List Seen → Read Seen (List (ℕ × RawTerm)))
    (by_rule : (ts : List Seen) → many ts ≡ mapped listed (if begins ts then mapped Some (followed (followed {B = RawTerm} (operator ts) one) many) else ok None ts)) where
  chain_next : (a u : RawTerm) (k : ℕ) (ts left rest : List Seen) → begins ts ≡ true → operator ts ≡ ok k left → mapped (λ b. chained a (k, b)) (one left) ≡ ok u rest
      → fold_from chained a (many ts) ≡ fold_from chained u (many rest)
  chain_next a u k ts left rest e named read = go (one left) refl read
    where
      go : (r : Read Seen RawTerm) → one left ≡ r → mapped (λ b. chained a (k, b)) r ≡ ok u rest → fold_from chained a (many ts) ≡ fold_from chained u (many rest)
      go (ok b end) is made =
          let value : chained a (k, b) ≡ u = cc made in
          let same : end ≡ rest = cc made in
          fold_next begins (λ z. followed {B = RawTerm} (operator z) one) many by_rule chained a ts end (k, b) e (rw (named, is) refl) ∙ rw (value, same) refl
      go (err end) is made = cc made
      go out is made = cc made

  chain_fault : (a : RawTerm) (k : ℕ) (ts left rest : List Seen) → begins ts ≡ true → operator ts ≡ ok k left → mapped (λ b. chained a (k, b)) (one left) ≡ err rest
      → fold_from chained a (many ts) ≡ err rest
  chain_fault a k ts left rest e named read = go (one left) refl read
    where
      go : (r : Read Seen RawTerm) → one left ≡ r → mapped (λ b. chained a (k, b)) r ≡ err rest → fold_from chained a (many ts) ≡ err rest
      go (ok b end) is made = cc made
      go (err end) is made =
          let same : end ≡ rest = cc made in
          fold_fault begins (λ z. followed {B = RawTerm} (operator z) one) many by_rule chained a ts end e (rw (named, is) refl) ∙ rw same refl
      go out is made = cc made

pub more_summands_end : (m : Mode) (t : RawTerm) (ts : List Seen) → starts kind (plus ∷ minus ∷ []) ts ≡ false → fold_from chained t (reads (MoreSummands m) ts) ≡ ok t ts
more_summands_end m =
    fold_end (starts kind (plus ∷ minus ∷ [])) (λ z. followed {B = RawTerm} (by_rule sum_operator z) (reads (Product m))) (reads (MoreSummands m)) (reads_by_rule (MoreSummands m)) chained

pub more_summands_next : (m : Mode) (t u : RawTerm) (k : ℕ) (ts left rest : List Seen) → starts kind (plus ∷ minus ∷ []) ts ≡ true → by_rule sum_operator ts ≡ ok k left
    → mapped (λ b. chained t (k, b)) (reads (Product m) left) ≡ ok u rest → fold_from chained t (reads (MoreSummands m) ts) ≡ fold_from chained u (reads (MoreSummands m) rest)
more_summands_next m = chain_next (starts kind (plus ∷ minus ∷ [])) (by_rule sum_operator) (reads (Product m)) (reads (MoreSummands m)) (reads_by_rule (MoreSummands m))

pub more_summands_fault : (m : Mode) (t : RawTerm) (k : ℕ) (ts left rest : List Seen) → starts kind (plus ∷ minus ∷ []) ts ≡ true → by_rule sum_operator ts ≡ ok k left
    → mapped (λ b. chained t (k, b)) (reads (Product m) left) ≡ err rest → fold_from chained t (reads (MoreSummands m) ts) ≡ err rest
more_summands_fault m = chain_fault (starts kind (plus ∷ minus ∷ [])) (by_rule sum_operator) (reads (Product m)) (reads (MoreSummands m)) (reads_by_rule (MoreSummands m))

pub more_summands_stop : (m : Mode) (first t : RawTerm) (k : ℕ) (all ts left rest : List Seen) (s : Stop) → starts kind (plus ∷ minus ∷ []) ts ≡ true → by_rule sum_operator ts ≡ ok k left
    → Gives {A = RawTerm} (Err s) rest (mapped (λ b. chained t (k, b)) (reads (Product m) left))
    → fold_from chained t (reads (MoreSummands m) ts) ≡ fold_from chained first (reads (MoreSummands m) all) → Gives {A = RawTerm} (Err s) rest (fold_from chained first (reads (MoreSummands m) all))
more_summands_stop m first t k all ts left rest Memory e named stop so_far = tt
more_summands_stop m first t k all ts left rest Wrong e named stop so_far = sym so_far ∙ more_summands_fault m t k ts left rest e named stop

pub ruleset more_summands_by = (more_summands_end, more_summands_next, more_summands_fault)

pub more_factors_end : (m : Mode) (t : RawTerm) (ts : List Seen) → starts kind (times ∷ div_word ∷ mod_word ∷ []) ts ≡ false → fold_from chained t (reads (MoreFactors m) ts) ≡ ok t ts
more_factors_end m =
    fold_end (starts kind (times ∷ div_word ∷ mod_word ∷ [])) (λ z. followed {B = RawTerm} (by_rule product_operator z) (reads (Application m))) (reads (MoreFactors m)) (reads_by_rule (MoreFactors m)) chained

pub more_factors_next : (m : Mode) (t u : RawTerm) (k : ℕ) (ts left rest : List Seen) → starts kind (times ∷ div_word ∷ mod_word ∷ []) ts ≡ true → by_rule product_operator ts ≡ ok k left
    → mapped (λ b. chained t (k, b)) (reads (Application m) left) ≡ ok u rest → fold_from chained t (reads (MoreFactors m) ts) ≡ fold_from chained u (reads (MoreFactors m) rest)
more_factors_next m = chain_next (starts kind (times ∷ div_word ∷ mod_word ∷ [])) (by_rule product_operator) (reads (Application m)) (reads (MoreFactors m)) (reads_by_rule (MoreFactors m))

pub more_factors_fault : (m : Mode) (t : RawTerm) (k : ℕ) (ts left rest : List Seen) → starts kind (times ∷ div_word ∷ mod_word ∷ []) ts ≡ true → by_rule product_operator ts ≡ ok k left
    → mapped (λ b. chained t (k, b)) (reads (Application m) left) ≡ err rest → fold_from chained t (reads (MoreFactors m) ts) ≡ err rest
more_factors_fault m = chain_fault (starts kind (times ∷ div_word ∷ mod_word ∷ [])) (by_rule product_operator) (reads (Application m)) (reads (MoreFactors m)) (reads_by_rule (MoreFactors m))

pub more_factors_stop : (m : Mode) (first t : RawTerm) (k : ℕ) (all ts left rest : List Seen) (s : Stop) → starts kind (times ∷ div_word ∷ mod_word ∷ []) ts ≡ true → by_rule product_operator ts ≡ ok k left
    → Gives {A = RawTerm} (Err s) rest (mapped (λ b. chained t (k, b)) (reads (Application m) left))
    → fold_from chained t (reads (MoreFactors m) ts) ≡ fold_from chained first (reads (MoreFactors m) all) → Gives {A = RawTerm} (Err s) rest (fold_from chained first (reads (MoreFactors m) all))
more_factors_stop m first t k all ts left rest Memory e named stop so_far = tt
more_factors_stop m first t k all ts left rest Wrong e named stop so_far = sym so_far ∙ more_factors_fault m t k ts left rest e named stop

pub ruleset more_factors_by = (more_factors_end, more_factors_next, more_factors_fault)

pub sum_goes_on : (m : Mode) (ts rest : List Seen) (t : RawTerm) → reads (Product m) ts ≡ ok t rest → reads (Sum m) ts ≡ fold_from chained t (reads (MoreSummands m) rest)
sum_goes_on m ts rest t e = reads_by_rule (Sum m) ts ∙ rw e (behind_first chained t (reads (MoreSummands m) rest))

pub sum_fault : (m : Mode) (ts left : List Seen) → reads (Product m) ts ≡ err left → reads (Sum m) ts ≡ err left
sum_fault m ts left e = reads_by_rule (Sum m) ts ∙ rw e refl

pub ruleset sum_by = (sum_goes_on, sum_fault)

pub product_goes_on : (m : Mode) (ts rest : List Seen) (t : RawTerm) → reads (Application m) ts ≡ ok t rest → reads (Product m) ts ≡ fold_from chained t (reads (MoreFactors m) rest)
product_goes_on m ts rest t e = reads_by_rule (Product m) ts ∙ rw e (behind_first chained t (reads (MoreFactors m) rest))

pub product_fault : (m : Mode) (ts left : List Seen) → reads (Application m) ts ≡ err left → reads (Product m) ts ≡ err left
product_fault m ts left e = reads_by_rule (Product m) ts ∙ rw e refl

pub ruleset product_by = (product_goes_on, product_fault)
