-- Formulas whose truth is known by hand: each connective at all truth values, each quantifier with a true and a false instance
-- over each kind of type, and depths on both sides of their bounds.
use Rattle.std.proofs.Common.{ℕ, zero, suc, ◌≡◌, ◌+◌, Bool, true, false, not, refl, ap, sym, subst, ◌∙◌, List, [], ◌∷◌, inl, inr, nat_lt, arith, lit≤}
use Rattle.std.proofs.Math.Dec.{eqb-suc-zero}
use Rattle.std.proofs.lemmas.Bool.{ltb-true}
use Rattle.tg_model.specs.Tree as tree
use Rattle.tg_model.specs.Tree.{Tree, Trees, bound, free, literal, truth, con, op, one, two, negation, disjunction, equality, less}
use Rattle.tg_model.specs.Types.{nat, bool}
use Rattle.tg_model.specs.Value.{Value, number, boolean, made, values, depth, IsShallow}
use Rattle.tg_model.specs.Formula.{Formula, Sequent, atom, both, implies, all, some, thyp, tested, deep}
use Rattle.tg_model.specs.Typing.{HasType}
use Rattle.tg_model.specs.Table.{Table}
use Rattle.tg_model.specs.Denotation.{den}
use Rattle.tg_model.specs.Truth.{Holds, IsTrueOn, SatisfiesSpecification}
use Rattle.tg_model.proofs.KnownValues.{sorting, answers, numbers, nil, cons, list_of, nil_of}
use Rattle.tg_model.proofs.SameValue.{same_itself}

abbrev True : Formula → Type 0
True f = Holds sorting answers [] [] f

abbrev stated : Bool → Formula
stated b = atom (truth b)

atoms : True (stated true) × (¬ (True (stated false)))
atoms = (refl, λ h. let e : boolean false ≡ boolean true = h in cc)

no : ¬ (boolean false ≡ boolean true)
no e = cc

conjunctions : True (both (stated true) (stated true)) × (¬ (True (both (stated true) (stated false))))
    × (¬ (True (both (stated false) (stated true)))) × (¬ (True (both (stated false) (stated false))))
conjunctions = ((refl, refl), (λ h. no h.1), (λ h. no h.0), λ h. no h.0)

implications : True (implies (stated true) (stated true)) × (¬ (True (implies (stated true) (stated false))))
    × True (implies (stated false) (stated true)) × True (implies (stated false) (stated false))
implications = ((λ h. h), (λ h. no (h refl)), (λ h. refl), λ h. h)

marked : True (thyp (stated true)) × (¬ (True (thyp (stated false))))
marked = (refl, λ h. no h)

-- over naturals: every one is itself and not every one is below 1, some one is below 1 and none below 0
abbrev itself : Formula
itself = atom (op equality (two (bound 0) (bound 0)))

abbrev below : ℕ → Formula
below n = atom (op less (two (bound 0) (literal n)))

none_below_zero : (n : ℕ) → ¬ (boolean (nat_lt n 0) ≡ boolean true)
none_below_zero n h = let e : nat_lt n 0 ≡ true = cc h in let k = ltb-true n 0 e in omega (arith, k)

not_below_zero : (v : Value) → HasType sorting v nat → ¬ (Holds sorting answers [] (v ∷ []) (below 0))
not_below_zero (number n) t h = none_below_zero n h
not_below_zero (boolean b) t h = no h
not_below_zero (made c vs) t h = no h

over_naturals : True (all nat itself) × (¬ (True (all nat (below 1)))) × True (some nat (below 1)) × (¬ (True (some nat (below 0))))
over_naturals = ((λ v t. ap boolean (same_itself v)), (λ h. no (h (number 1) refl)), (number 0, refl, refl), λ h. not_below_zero h.0 h.1 h.2)

-- over truth values: every one is itself or its negation and not every one is True, some one is False and none is not itself
abbrev differs : Formula
differs = atom (op negation (one (op equality (two (bound 0) (bound 0)))))

never_differs : (v : Value) → ¬ (Holds sorting answers [] (v ∷ []) differs)
never_differs v h = let e : boolean false ≡ boolean true = sym (ap (λ b. boolean (not b)) (same_itself v)) ∙ h in no e

excluded : (v : Value) → HasType sorting v bool → Holds sorting answers [] (v ∷ []) (atom (op disjunction (two (bound 0) (op negation (one (bound 0))))))
excluded (number n) t = let e : nat ≡ bool = sym t in cc
excluded (boolean true) t = refl
excluded (boolean false) t = refl
excluded (made c vs) t = let e : bool ≡ _ = t.2.1 in cc

over_truth_values : True (all bool (atom (op disjunction (two (bound 0) (op negation (one (bound 0))))))) × (¬ (True (all bool (atom (bound 0)))))
    × True (some bool (atom (op negation (one (bound 0))))) × (¬ (True (some bool differs)))
over_truth_values = (excluded, (λ h. no (h (boolean false) refl)), (boolean false, refl, refl), λ h. never_differs h.0 h.2)

-- over lists: not every one is Nil, some one is
over_lists : (¬ (True (all (list_of bool) (atom (op equality (two (bound 0) (cons (truth true) nil)))))))
    × True (some (list_of nat) (atom (op equality (two (bound 0) nil)))) × (¬ (True (some (list_of nat) differs)))
over_lists = (
  (λ h. no (h (numbers []) (nil_of, refl, (bool ∷ [], refl, tt)))),
  (numbers [], (nil_of, refl, (nat ∷ [], refl, tt)), refl),
  λ h. never_differs h.0 h.2,
)

-- the inner quantifier is the innermost variable: for every x there is a y that is x + 1, which no one y is for all
nested : True (all nat (some nat (atom (op equality (two (bound 0) (op tree.successor (one (bound 1))))))))
nested (number n) t = (number (n + 1), refl, ap boolean (same_itself (number (n + 1))))
nested (boolean b) t = let e : bool ≡ nat = sym t in cc
nested (made c vs) t = let e : nat ≡ _ = t.2.1 in cc

-- what the table lists: the list `2 1`, with a wrong answer, and not `9`
abbrev two_one : Tree
two_one = cons (literal 2) (cons (literal 1) nil)

tested_inputs : True (tested (one two_one)) × True (tested (one nil)) × (¬ (True (tested (one (cons (literal 9) nil)))))
tested_inputs = (inr (inl refl), inl refl, λ h. elim h [ inl e ↦ cc | inr t ↦ elim t [ inl e ↦ cc | inr n ↦ n ] ])

-- a list of two has the depth 3: it is deep above 2, and neither above 3 nor above 4
deep_inputs : True (deep 2 (one two_one)) × (¬ (True (deep 3 (one two_one)))) × (¬ (True (deep 4 (one two_one))))
    × True (deep 0 (one nil)) × (¬ (True (deep 1 (one nil)))) × (¬ (True (deep 0 (one (literal 7)))))
deep_inputs = ((λ h. omega (arith, h.0)), (λ h. h (lit≤ tt, tt)), (λ h. h (lit≤ tt, tt)), (λ h. omega (arith, h.0)), (λ h. h (lit≤ tt, tt)), λ h. h (lit≤ tt, tt))

-- one deep input of two is enough, whichever it is
one_of_two : True (deep 2 (two two_one nil)) × True (deep 2 (two nil two_one)) × (¬ (True (deep 3 (two nil two_one))))
one_of_two = ((λ h. omega (arith, h.0)), (λ h. omega (arith, h.1.0)), λ h. h (lit≤ tt, (lit≤ tt, tt)))

-- depth: naturals have none, and of several arguments the deepest counts
depths : (depth (number 7) ≡ 0) × (depth (boolean true) ≡ 0) × (depth (numbers []) ≡ 1) × (depth (numbers (4 ∷ [])) ≡ 2)
    × (depth (numbers (4 ∷ 5 ∷ [])) ≡ 3) × (depth (made 5 (values (number 0 ∷ numbers (4 ∷ []) ∷ []))) ≡ 3)
    × (depth (made 5 (values (numbers (4 ∷ 5 ∷ []) ∷ numbers (4 ∷ []) ∷ []))) ≡ 4)
    × (depth (made 5 (values (numbers (4 ∷ []) ∷ numbers (4 ∷ 5 ∷ []) ∷ []))) ≡ 4)
depths = (refl, refl, refl, refl, refl, refl, refl, refl)

shallow : IsShallow 3 (numbers (4 ∷ 5 ∷ []) ∷ number 9 ∷ []) × (¬ (IsShallow 2 (numbers (4 ∷ 5 ∷ []) ∷ [])))
    × (¬ (IsShallow 2 (number 9 ∷ numbers (4 ∷ 5 ∷ []) ∷ [])))
shallow = ((lit≤ tt, (lit≤ tt, tt)), (λ h. omega (arith, h.0)), λ h. omega (arith, h.1.0))

-- the specification is false at `2 1`, so no table that lists this answer satisfies it; the table that lists Nil alone does
refuted : ¬ (SatisfiesSpecification sorting answers)
refuted h = no (h (numbers (2 ∷ 1 ∷ []) ∷ []) (inr (inl refl)))

abbrev at_nil : Table
at_nil = record { inputs = numbers [] ∷ []; answer = numbers [] } ∷ []

satisfied : SatisfiesSpecification sorting at_nil
satisfied vs (inl e) = subst (λ (ws : List Value). den sorting at_nil ws [] sorting.specification ≡ boolean true) e refl
satisfied vs (inr n) = absurd n

-- a sequent with one variable: from `?1 = 0` follows `Suc ?1 < 2`, and without that hypothesis it doesn't
abbrev small : List Formula → Sequent
small hs = record { vars = nat ∷ []; hypotheses = hs; goal = atom (op less (two (op tree.successor (one (free 1))) (literal 2))) }

sequent_of_naturals : IsTrueOn sorting answers (small (atom (op equality (two (free 1) (literal 0))) ∷ []))
sequent_of_naturals [] t h = absurd t
sequent_of_naturals (number zero ∷ vs) t h = refl
sequent_of_naturals (number (suc n) ∷ vs) t h = absurd (no (ap boolean (sym (eqb-suc-zero n)) ∙ h.0))
sequent_of_naturals (boolean b ∷ vs) t h = let e : nat ≡ bool = t.0 in cc
sequent_of_naturals (made c ws ∷ vs) t h = absurd (no h.0)

not_without : ¬ (IsTrueOn sorting answers (small []))
not_without h = no (h (number 1 ∷ []) (refl, tt) tt)

not_a_sequent : ¬ (IsTrueOn sorting answers (record { vars = []; hypotheses = []; goal = atom (truth false) }))
not_a_sequent h = no (h [] tt tt)
