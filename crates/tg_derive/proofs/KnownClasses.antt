-- Work and classes that are known by hand.
use Rattle.std.proofs.Common.{ℕ, ◌≡◌, true, false, [], ◌∷◌, refl, ap, arith}
use Rattle.tg_model.specs.Tree.{Tree, free, truth, choice, op, two, trees, implication}
use Rattle.tg_model.proofs.KnownValues.{sorting}
use Rattle.tg_rows.specs.Rows.{denied}
use Rattle.tg_norm.specs.Normal as norm
use Rattle.tg_norm.specs.Normal.{Walked, Norm, at_step, at_more, at_none, joined, leaf_walk, no_walks, step_of, IsPassed}
use Rattle.tg_norm.proofs.OneWalk.{one_walk}
use Rattle.tg_clause.specs.Clauses.{said}
use Rattle.tg_derive.specs.declared.budgets.Left.{Left}
use Rattle.tg_derive.specs.Goals.{Goal, under, child}
use Rattle.tg_derive.specs.Work as work
use Rattle.tg_derive.specs.Work.{Worked, done, passed, before, Work, at_split, at_leaf, at_end, without_form, without_split, without_clauses}

-- `?1 --> (?2 --> ?3)`
two_conditions : under (free 1 ∷ free 2 ∷ []) (free 3) ≡ op implication (two (free 1) (op implication (two (free 2) (free 3))))
two_conditions = refl

-- `if ?3 then ?1 else ?2`
abbrev asked : Tree
asked = choice (trees (free 3 ∷ free 1 ∷ free 2 ∷ []))

abbrev goal : Goal
goal = record { conditions = free 4 ∷ []; term = asked }

met : child goal asked (free 3) true ≡ record { conditions = free 4 ∷ free 3 ∷ []; term = choice (trees (truth true ∷ free 1 ∷ free 2 ∷ [])) }
met = refl

unmet : child goal asked (free 3) false ≡ record { conditions = free 4 ∷ denied (free 3) ∷ []; term = choice (trees (truth false ∷ free 1 ∷ free 2 ∷ [])) }
unmet = refl

abbrev left : ℕ → ℕ → ℕ → Left
left m n k = record { steps = m; splits = n; clauses = k }

abbrev walk : Walked
walk = record { form = asked; cost = 2; rise = 1; steps = [] }

walked : Norm sorting asked walk
walked = norm.at_end (joined (leaf_walk (free 3)) no_walks) refl (at_more (leaf_walk (free 3)) no_walks (norm.at_leaf refl refl) (at_none refl) refl) refl (omega arith) refl

abbrev first : Walked
first = record { form = free 1; cost = 3; rise = 1; steps = step_of 19 (choice (trees (truth true ∷ free 1 ∷ free 2 ∷ []))) (free 1) ∷ [] }

abbrev true_walk : Walked
true_walk = record { form = truth true; cost = 1; rise = 0; steps = [] }

first_walked : Norm sorting (choice (trees (truth true ∷ free 1 ∷ free 2 ∷ []))) first
first_walked = at_step (joined true_walk no_walks) 19 (free 1) (leaf_walk (free 1)) refl
    (at_more true_walk no_walks (norm.at_end no_walks refl (at_none refl) refl (omega arith) refl) (at_none refl) refl) refl (omega arith) (norm.at_leaf refl refl) refl

abbrev second : Walked
second = record { form = free 2; cost = 3; rise = 1; steps = step_of 20 (choice (trees (truth false ∷ free 1 ∷ free 2 ∷ []))) (free 2) ∷ [] }

abbrev false_walk : Walked
false_walk = record { form = truth false; cost = 1; rise = 0; steps = [] }

second_walked : Norm sorting (choice (trees (truth false ∷ free 1 ∷ free 2 ∷ []))) second
second_walked = at_step (joined false_walk no_walks) 20 (free 2) (leaf_walk (free 2)) refl
    (at_more false_walk no_walks (norm.at_end no_walks refl (at_none refl) refl (omega arith) refl) (at_none refl) refl) refl (omega arith) (norm.at_leaf refl refl) refl

abbrev start : Goal
start = record { conditions = []; term = asked }

-- `~ ?3 | ?1` and `?3 | ?2`, with 8 calls, an inner node and both clauses taken from what was left
both : Work sorting (left 8 1 2) (start ∷ []) (done ((said false (free 3) ∷ said true (free 1) ∷ []) ∷ (said true (free 3) ∷ said true (free 2) ∷ []) ∷ []) (left 0 0 0))
both = at_split walk (free 3) (record { walk = walked; within = record { calls = omega arith; high = omega arith } }) refl (omega arith)
    (at_leaf first (done ((said true (free 3) ∷ said true (free 2) ∷ []) ∷ []) (left 0 0 0))
    (record { walk = first_walked; within = record { calls = omega arith; high = omega arith } }) refl refl
    (at_leaf second (done [] (left 0 0 0)) (record { walk = second_walked; within = record { calls = omega arith; high = omega arith } }) refl refl (at_end refl) refl) refl)

-- one call, one inner node, one clause less
seven_calls : Work sorting (left 7 1 2) (start ∷ []) (passed work.steps)
seven_calls = at_split walk (free 3) (record { walk = walked; within = record { calls = omega arith; high = omega arith } }) refl (omega arith)
    (at_leaf first (passed work.steps) (record { walk = first_walked; within = record { calls = omega arith; high = omega arith } }) refl refl
    (without_form (record {
      none = λ w n h. let e : w.cost ≡ 3 = ap (λ (x : Walked). x.cost) (one_walk sorting _ w second n second_walked) in omega (arith, e, h.calls);
    }) refl) refl)

no_node : Work sorting (left 8 0 2) (start ∷ []) (passed work.splits)
no_node = without_split walk (free 3) (record { walk = walked; within = record { calls = omega arith; high = omega arith } }) refl refl refl

one_clause : Work sorting (left 8 1 1) (start ∷ []) (passed work.clauses)
one_clause = at_split walk (free 3) (record { walk = walked; within = record { calls = omega arith; high = omega arith } }) refl (omega arith)
    (at_leaf first (passed work.clauses) (record { walk = first_walked; within = record { calls = omega arith; high = omega arith } }) refl refl
    (without_clauses second (record { walk = second_walked; within = record { calls = omega arith; high = omega arith } }) refl refl refl) refl)

-- what is found before a limit that is passed is lost
lost : before ((said true (free 1) ∷ []) ∷ []) (passed work.splits) ≡ passed work.splits
lost = refl
