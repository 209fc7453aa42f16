-- The normal form of a term. A walk takes it: it normalises a term's arguments from the left, takes the first schema that applies at
-- the root, and goes on with what this makes. The definition is a relation without a budget; the bounds are tests of a walk.
use Rattle.std.specs.Prelude.{ℕ, suc, Bool, true, false, ◌≡◌, ◌<◌, ◌≤◌, ◌+◌, max, List, [], ◌∷◌, ◌++◌, Some, None}
use Rattle.tg_model.specs.Tree as tree
use Rattle.tg_model.specs.Tree.{Tree, bound, free, literal, truth, con, call, put, choice, case, bind, op, trees, elements}
use Rattle.tg_model.specs.Theory.{Theory}
use Rattle.tg_term.specs.Measures.{nodes}
use Rattle.tg_rows.specs.Rows.{first}
use Rattle.tg_norm.specs.declared.forms.Step.{Step}
use Rattle.tg_norm.specs.declared.forms.NormalForm.{NormalForm}

-- a variable or a literal is its own normal form
abbrev pub is_leaf : Tree → Bool
is_leaf (bound k) = true
is_leaf (free n) = true
is_leaf (literal n) = true
is_leaf t = false

-- the arguments, which are normalised first: of an `if` the condition alone, of a `case` the scrutinee alone, of a `let` the bound term
-- alone, of other terms all
abbrev pub arguments : Tree → List Tree
arguments (con c ts) = elements ts
arguments (call f ts) = elements ts
arguments (put ts) = elements ts
arguments (choice (tree.more t ts)) = t ∷ []
arguments (case d t arms) = t ∷ []
arguments (bind t body) = t ∷ []
arguments (op o ts) = elements ts
arguments t = []

-- the term with other arguments in their places
abbrev pub rebuilt : Tree → List Tree → Tree
rebuilt (con c ts) us = con c (trees us)
rebuilt (call f ts) us = call f (trees us)
rebuilt (put ts) us = put (trees us)
rebuilt (choice (tree.more t ts)) (u ∷ us) = choice (tree.more u ts)
rebuilt (case d t arms) (u ∷ us) = case d u arms
rebuilt (bind t body) (u ∷ us) = bind u body
rebuilt (op o ts) us = op o (trees us)
rebuilt t us = t

-- what a walk over a term gives: the normal form, how many calls the walk makes, how many levels it goes above its first call, and
-- the schema steps in their order
pub record Walked : Type 0 where
  pub form : Tree
  pub cost : ℕ
  pub rise : ℕ
  pub steps : List Step

-- the same of the walks over a term's arguments, whose levels are counted above the term's
pub record Parted : Type 0 where
  pub forms : List Tree
  pub cost : ℕ
  pub rise : ℕ
  pub steps : List Step

abbrev pub leaf_walk : Tree → Walked
leaf_walk t = record { form = t; cost = 1; rise = 0; steps = [] }

abbrev pub no_walks : Parted
no_walks = record { forms = []; cost = 0; rise = 0; steps = [] }

-- an argument is one level above the term
abbrev pub joined : Walked → Parted → Parted
joined w p = record { forms = w.form ∷ p.forms; cost = w.cost + p.cost; rise = max (suc w.rise) p.rise; steps = w.steps ++ p.steps }

-- no schema applies to the rebuilt term
abbrev pub ended : Tree → Parted → Walked
ended t p = record { form = rebuilt t p.forms; cost = suc p.cost; rise = p.rise; steps = p.steps }

abbrev pub step_of : ℕ → Tree → Tree → Step
step_of s t u = record { schema = s; before = t; after = u }

-- schema `s` makes `u` of the rebuilt term; the walk over `u` is on the same level
abbrev pub stepped : Tree → Parted → ℕ → Tree → Walked → Walked
stepped t p s u w = record {
  form = w.form;
  cost = suc (p.cost + w.cost);
  rise = max p.rise w.rise;
  steps = p.steps ++ step_of s (rebuilt t p.forms) u ∷ w.steps;
}

-- a schema's result, and a rebuilt term to which no schema applies, have no more nodes
abbrev pub most_nodes : ℕ
most_nodes = 100000

mutual
  -- what the walk over a term gives; where a term is too large, or the walk doesn't end, it gives nothing
  pub data Norm (th : Theory) : Tree → Walked → Type 0 where
    at_leaf : {t : Tree} {w : Walked} → is_leaf t ≡ true → w ≡ leaf_walk t → Norm th t w
    at_end : {t : Tree} {w : Walked} (p : Parted) → is_leaf t ≡ false → AllNorm th (arguments t) p
        → first th (rebuilt t p.forms) ≡ None → nodes (rebuilt t p.forms) ≤ most_nodes → w ≡ ended t p → Norm th t w
    at_step : {t : Tree} {w : Walked} (p : Parted) (s : ℕ) (u : Tree) (rest : Walked) → is_leaf t ≡ false → AllNorm th (arguments t) p
        → first th (rebuilt t p.forms) ≡ Some (s, u) → nodes u ≤ most_nodes → Norm th u rest → w ≡ stepped t p s u rest → Norm th t w

  pub data AllNorm (th : Theory) : List Tree → Parted → Type 0 where
    at_none : {p : Parted} → p ≡ no_walks → AllNorm th [] p
    at_more : {t : Tree} {ts : List Tree} {p : Parted} (w : Walked) (q : Parted) → Norm th t w → AllNorm th ts q → p ≡ joined w q
        → AllNorm th (t ∷ ts) p

-- the first call is on level 1, and no call is on a higher level than this
abbrev pub most_levels : ℕ
most_levels = 1000

-- a walk makes no more than `left` calls, on no more than `levels` levels
pub record IsWithin (left levels : ℕ) (w : Walked) : Type 0 where
  pub calls : w.cost ≤ left
  pub high : w.rise < levels

-- the walk over a term gives nothing, or passes a bound
pub record IsPassed (th : Theory) (left levels : ℕ) (t : Tree) : Type 0 where
  pub none : (w : Walked) → Norm th t w → ¬ (IsWithin left levels w)

-- the normal form of a term within so many calls
pub record IsNormal (th : Theory) (left : ℕ) (t : Tree) (n : NormalForm) : Type 0 where
  pub walk : Walked
  pub is : Norm th t walk
  pub within : IsWithin left most_levels walk
  pub term : n.term ≡ walk.form
  pub cost : n.cost ≡ walk.cost
  pub steps : n.steps.items ≡ walk.steps
