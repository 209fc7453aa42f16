-- Drafts on small premises, known by hand: an instance of each rule, and for each of its conditions a refusal. The order of kept
-- hypotheses is pinned here; truth doesn't depend on it.
use Rattle.std.proofs.Common.{ℕ, ◌≡◌, true, false, refl, sym, ◌∙◌, List, [], ◌∷◌, None, Some}
use Rattle.tg_model.specs.Tree as tree
use Rattle.tg_model.specs.Tree.{Tree, bound, free, literal, truth, con, call, put, op, one, two, trees, plus, less, negation, disjunction, equality}
use Rattle.tg_model.specs.Types.{Ty, nat, bool, parameter, applied, tys}
use Rattle.tg_model.specs.Theory.{numbered}
use Rattle.tg_model.specs.TermTyping.{Typing, leaf, type_of, IsTyping}
use Rattle.tg_model.proofs.Inversions.{literal_type}
use Rattle.tg_model.proofs.Contexts.{used_have_types}
use Rattle.tg_model.specs.Formula as formula
use Rattle.tg_model.specs.Formula.{Formula, Sequent, atom, both, implies, all, some, thyp}
use Rattle.tg_model.proofs.KnownValues.{sorting, nil, cons, list_of}
use Rattle.tg_eval.specs.Limited.{limited}
use Rattle.tg_calculus.specs.Sequent.{Context, ◌│◌⊢◌, equation}
use Rattle.tg_calculus.specs.Draft.{Need, IsMet, closed, formed, typed, draft, always}
use Rattle.tg_calculus.specs.Rule as rule
use Rattle.tg_calculus.specs.Rule.{Rule}
use Rattle.tg_calculus.proofs.KnownWords.{a, b, c}
use Rattle.tg_calculus.proofs.Computed.{no_place}

-- three truth values, and two
abbrev G : Context
G = bool ∷ bool ∷ bool ∷ []

abbrev K : Context
K = bool ∷ bool ∷ []

abbrev Gives : Rule → List Sequent → List Need → Sequent → Type 0
Gives r ps ns s = draft sorting r ps ≡ always ns s

abbrev Refuses : Rule → List Sequent → Type 0
Refuses r ps = draft sorting r ps ≡ None

abbrev d : Formula
d = atom (truth true)

abbrev not_a : Formula
not_a = atom (op negation (one (free 1)))

assumed : Gives (rule.hyp G a) [] (closed G ∷ formed G a ∷ []) (G │ a ∷ [] ⊢ a) × Refuses (rule.hyp G a) ((G │ [] ⊢ a) ∷ [])
assumed = (refl, refl)

weakened : Gives (rule.weak c) ((G │ b ∷ a ∷ [] ⊢ a) ∷ []) (formed G c ∷ []) (G │ b ∷ a ∷ c ∷ [] ⊢ a)
    × Gives (rule.weak b) ((G │ b ∷ a ∷ [] ⊢ a) ∷ []) (formed G b ∷ []) (G │ b ∷ a ∷ [] ⊢ a) × Refuses (rule.weak c) []
weakened = (refl, refl, refl)

-- only from the second premise is its hypothesis taken
cut : Gives rule.cut ((G │ b ∷ [] ⊢ a) ∷ (G │ c ∷ a ∷ b ∷ [] ⊢ d) ∷ []) [] (G │ b ∷ c ∷ [] ⊢ d)
    × Gives rule.cut ((G │ a ∷ [] ⊢ a) ∷ (G │ c ∷ a ∷ [] ⊢ d) ∷ []) [] (G │ a ∷ c ∷ [] ⊢ d)
    × Gives rule.cut ((G │ b ∷ [] ⊢ a) ∷ (G │ c ∷ [] ⊢ d) ∷ []) [] (G │ b ∷ c ∷ [] ⊢ d)
    × Refuses rule.cut ((G │ [] ⊢ a) ∷ (K │ [] ⊢ d) ∷ []) × Refuses rule.cut ((G │ [] ⊢ a) ∷ [])
cut = (refl, refl, refl, refl, refl)

grown : Gives (rule.grow (nat ∷ [])) ((K │ a ∷ [] ⊢ b) ∷ []) (closed (nat ∷ []) ∷ []) (bool ∷ bool ∷ nat ∷ [] │ a ∷ [] ⊢ b)
    × Gives (rule.grow []) ((K │ a ∷ [] ⊢ b) ∷ []) (closed [] ∷ []) (K │ a ∷ [] ⊢ b) × Refuses (rule.grow (nat ∷ [])) []
grown = (refl, refl, refl)

conjunctions : Gives rule.and_i ((G │ b ∷ [] ⊢ a) ∷ (G │ a ∷ b ∷ [] ⊢ c) ∷ []) [] (G │ b ∷ a ∷ [] ⊢ both a c)
    × Refuses rule.and_i ((G │ [] ⊢ a) ∷ (K │ [] ⊢ b) ∷ []) × Refuses rule.and_i ((G │ [] ⊢ a) ∷ [])
    × Gives rule.and_l ((G │ c ∷ [] ⊢ both a b) ∷ []) [] (G │ c ∷ [] ⊢ a) × Refuses rule.and_l ((G │ [] ⊢ implies a b) ∷ [])
    × Gives rule.and_r ((G │ c ∷ [] ⊢ both a b) ∷ []) [] (G │ c ∷ [] ⊢ b) × Refuses rule.and_r ((G │ [] ⊢ implies a b) ∷ [])
conjunctions = (refl, refl, refl, refl, refl, refl, refl)

implications : Gives (rule.imp_i a) ((G │ b ∷ a ∷ [] ⊢ c) ∷ []) (formed G a ∷ []) (G │ b ∷ [] ⊢ implies a c)
    × Gives (rule.imp_i a) ((G │ b ∷ [] ⊢ c) ∷ []) (formed G a ∷ []) (G │ b ∷ [] ⊢ implies a c)
    × Gives rule.mp ((G │ c ∷ [] ⊢ implies a b) ∷ (G │ d ∷ c ∷ [] ⊢ a) ∷ []) [] (G │ c ∷ d ∷ [] ⊢ b)
    × Refuses rule.mp ((G │ [] ⊢ implies a b) ∷ (G │ [] ⊢ c) ∷ []) × Refuses rule.mp ((G │ [] ⊢ implies a b) ∷ (K │ [] ⊢ a) ∷ [])
    × Refuses rule.mp ((G │ [] ⊢ both a b) ∷ (G │ [] ⊢ a) ∷ []) × Refuses rule.mp ((G │ [] ⊢ a) ∷ (G │ [] ⊢ implies a b) ∷ [])
implications = (refl, refl, refl, refl, refl, refl, refl)

-- of the last variable nothing is assumed
generalised : Gives rule.all_i ((K │ a ∷ [] ⊢ both a b) ∷ []) [] (bool ∷ [] │ a ∷ [] ⊢ all bool (both a (atom (bound 0))))
    × Refuses rule.all_i ((K │ a ∷ b ∷ [] ⊢ b) ∷ []) × Refuses rule.all_i (([] │ [] ⊢ d) ∷ []) × Refuses rule.all_i []
    × Gives (rule.all_e (free 1)) ((K │ b ∷ [] ⊢ all bool (both b (atom (bound 0)))) ∷ []) (typed K (free 1) bool ∷ []) (K │ b ∷ [] ⊢ both b a)
    × Refuses (rule.all_e (free 1)) ((K │ [] ⊢ some bool (atom (bound 0))) ∷ [])
generalised = (refl, refl, refl, refl, refl, refl)

abbrev itself : Formula
itself = atom (bound 0)

-- `?2` names what there is: neither the goal nor a further hypothesis has it
found : Gives (rule.ex_i (some bool itself) (free 2)) ((K │ a ∷ [] ⊢ b) ∷ []) (formed K (some bool itself) ∷ typed K (free 2) bool ∷ [])
    (K │ a ∷ [] ⊢ some bool itself)
    × Refuses (rule.ex_i (some bool itself) (free 1)) ((K │ [] ⊢ b) ∷ []) × Refuses (rule.ex_i (all bool itself) (free 2)) ((K │ [] ⊢ b) ∷ [])
    × Gives rule.ex_e ((bool ∷ [] │ d ∷ [] ⊢ some bool itself) ∷ (K │ a ∷ b ∷ d ∷ [] ⊢ a) ∷ []) [] (bool ∷ [] │ d ∷ a ∷ [] ⊢ a)
    × Refuses rule.ex_e ((bool ∷ [] │ [] ⊢ some bool itself) ∷ (K │ b ∷ [] ⊢ b) ∷ [])
    × Refuses rule.ex_e ((bool ∷ [] │ [] ⊢ some bool itself) ∷ (K │ b ∷ thyp b ∷ [] ⊢ a) ∷ [])
    × Refuses rule.ex_e ((bool ∷ [] │ [] ⊢ some nat itself) ∷ (K │ b ∷ [] ⊢ a) ∷ []) × Refuses rule.ex_e ((K │ [] ⊢ some bool itself) ∷ (K │ b ∷ [] ⊢ a) ∷ [])
    × Refuses rule.ex_e ((bool ∷ [] │ [] ⊢ all bool itself) ∷ (K │ b ∷ [] ⊢ a) ∷ [])
found = (refl, refl, refl, refl, refl, refl, refl, refl, refl)

marked : Gives rule.thyp_i ((K │ a ∷ [] ⊢ b) ∷ []) [] (K │ a ∷ [] ⊢ thyp b) × Gives rule.thyp_e ((K │ a ∷ [] ⊢ thyp b) ∷ []) [] (K │ a ∷ [] ⊢ b)
    × Refuses rule.thyp_e ((K │ [] ⊢ b) ∷ []) × Refuses rule.thyp_i []
marked = (refl, refl, refl, refl)

truths : Gives (rule.truth K) [] (closed K ∷ []) (K │ [] ⊢ atom (truth true)) × Refuses (rule.truth K) ((K │ [] ⊢ a) ∷ [])
    × Gives (rule.falsity b) ((K │ a ∷ [] ⊢ atom (truth false)) ∷ []) (formed K b ∷ []) (K │ a ∷ [] ⊢ b)
    × Refuses (rule.falsity b) ((K │ [] ⊢ atom (truth true)) ∷ [])
truths = (refl, refl, refl, refl)

-- each side loses its own formula alone
split : Gives (rule.split (free 1)) ((G │ a ∷ b ∷ [] ⊢ d) ∷ (G │ c ∷ not_a ∷ [] ⊢ d) ∷ []) (typed G (free 1) bool ∷ []) (G │ b ∷ c ∷ [] ⊢ d)
    × Gives (rule.split (free 1)) ((G │ not_a ∷ [] ⊢ d) ∷ (G │ a ∷ [] ⊢ d) ∷ []) (typed G (free 1) bool ∷ []) (G │ not_a ∷ a ∷ [] ⊢ d)
    × Refuses (rule.split (free 1)) ((G │ [] ⊢ d) ∷ (G │ [] ⊢ c) ∷ []) × Refuses (rule.split (free 1)) ((G │ [] ⊢ d) ∷ (K │ [] ⊢ d) ∷ [])
    × Refuses (rule.split (free 1)) ((G │ [] ⊢ d) ∷ [])
split = (refl, refl, refl, refl, refl)

abbrev same : ℕ → ℕ → Formula
same m n = equation (free m) (free n)

equations : Gives (rule.reflexive K (free 1)) [] (closed K ∷ formed K (same 1 1) ∷ []) (K │ [] ⊢ same 1 1)
    × Refuses (rule.reflexive K (free 1)) ((K │ [] ⊢ a) ∷ [])
    × Gives rule.symmetric ((K │ a ∷ [] ⊢ same 1 2) ∷ []) [] (K │ a ∷ [] ⊢ same 2 1) × Refuses rule.symmetric ((K │ [] ⊢ a) ∷ [])
    × Gives rule.transitive ((G │ b ∷ [] ⊢ same 1 2) ∷ (G │ a ∷ b ∷ [] ⊢ same 2 3) ∷ []) (formed G (same 1 3) ∷ []) (G │ b ∷ a ∷ [] ⊢ same 1 3)
    × Refuses rule.transitive ((G │ [] ⊢ same 1 2) ∷ (G │ [] ⊢ same 3 2) ∷ []) × Refuses rule.transitive ((G │ [] ⊢ same 1 2) ∷ (K │ [] ⊢ same 2 1) ∷ [])
    × Refuses rule.transitive ((G │ [] ⊢ a) ∷ (G │ [] ⊢ same 2 3) ∷ []) × Refuses rule.transitive ((G │ [] ⊢ same 1 2) ∷ (G │ [] ⊢ a) ∷ [])
equations = (refl, refl, refl, refl, refl, refl, refl, refl, refl)

replaced : Gives (rule.replace (both b a)) ((K │ c ∷ [] ⊢ same 1 2) ∷ (K │ d ∷ c ∷ [] ⊢ both a a) ∷ []) (formed K (both b a) ∷ []) (K │ c ∷ d ∷ [] ⊢ both b a)
    × Refuses (rule.replace (both a a)) ((K │ [] ⊢ same 1 2) ∷ (K │ [] ⊢ both b a) ∷ []) × Refuses (rule.replace b) ((K │ [] ⊢ same 1 2) ∷ (G │ [] ⊢ a) ∷ [])
    × Refuses (rule.replace b) ((K │ [] ⊢ a) ∷ (K │ [] ⊢ a) ∷ [])
replaced = (refl, refl, refl, refl)

abbrev twice : Tree
twice = op plus (two (literal 1) (literal 2))

rewritten : Gives (rule.schema K 40 twice) [] (closed K ∷ formed K (equation twice (literal 3)) ∷ []) (K │ [] ⊢ equation twice (literal 3))
    × Refuses (rule.schema K 41 twice) [] × Refuses (rule.schema K 0 twice) [] × Refuses (rule.schema K 49 twice) []
    × Refuses (rule.schema K 40 twice) ((K │ [] ⊢ a) ∷ [])
rewritten = (refl, refl, refl, refl, refl)

-- `?1` is a list: it is `Nil`, or `Cons ?3 ?4` where `?2` is a truth value
abbrev L : Context
L = list_of nat ∷ bool ∷ []

abbrev M : Context
M = list_of nat ∷ bool ∷ nat ∷ list_of nat ∷ []

abbrev is_nil : Formula
is_nil = equation (free 1) nil

abbrev is_cons : Formula
is_cons = equation (free 1) (cons (free 3) (free 4))

abbrev exhaust : ℕ → List Sequent → Type 0
exhaust n ps = Refuses (rule.exhaust n) ps

-- hypotheses are kept from the first premise, then the second, and another constructor's equation stays
exhausted : Gives (rule.exhaust 1) ((L │ b ∷ is_nil ∷ d ∷ [] ⊢ b) ∷ (M │ is_cons ∷ thyp b ∷ b ∷ is_nil ∷ [] ⊢ b) ∷ []) [] (L │ b ∷ d ∷ thyp b ∷ is_nil ∷ [] ⊢ b)
    × Gives (rule.exhaust 1) ((L │ [] ⊢ b) ∷ (M │ [] ⊢ b) ∷ []) [] (L │ [] ⊢ b)
exhausted = (refl, refl)

-- the goal or another hypothesis has a new variable, the equation turned round included
new_ones_stay : exhaust 1 ((L │ [] ⊢ c) ∷ (M │ [] ⊢ c) ∷ []) × exhaust 1 ((L │ [] ⊢ b) ∷ (M │ c ∷ [] ⊢ b) ∷ [])
    × exhaust 1 ((L │ [] ⊢ b) ∷ (M │ atom (free 4) ∷ [] ⊢ b) ∷ []) × exhaust 1 ((L │ [] ⊢ b) ∷ (M │ equation (cons (free 3) (free 4)) (free 1) ∷ [] ⊢ b) ∷ [])
    × exhaust 1 ((L │ [] ⊢ b) ∷ (M │ equation (free 1) (cons (free 4) (free 3)) ∷ [] ⊢ b) ∷ [])
new_ones_stay = (refl, refl, refl, refl, refl)

-- a premise for each constructor, in order, each with its arguments' types and one goal
each_constructor : exhaust 1 ((L │ [] ⊢ b) ∷ []) × exhaust 1 [] × exhaust 1 ((L │ [] ⊢ b) ∷ (M │ [] ⊢ b) ∷ (L │ [] ⊢ b) ∷ [])
    × exhaust 1 ((M │ [] ⊢ b) ∷ (L │ [] ⊢ b) ∷ []) × exhaust 1 ((L │ [] ⊢ b) ∷ (L │ [] ⊢ b) ∷ []) × exhaust 1 ((L │ [] ⊢ b) ∷ (M │ [] ⊢ d) ∷ [])
each_constructor = (refl, refl, refl, refl, refl, refl)

-- the first constructor's new variables aren't of the context: `?2` and `?4` are trees
abbrev N : Context
N = applied 2 (tys []) ∷ []

abbrev O : Context
O = applied 2 (tys []) ∷ applied 2 (tys []) ∷ nat ∷ applied 2 (tys []) ∷ []

first_has_arguments : Gives (rule.exhaust 1) ((O │ [] ⊢ d) ∷ (N │ [] ⊢ d) ∷ []) [] (N │ [] ⊢ d)
    × exhaust 2 ((O │ [] ⊢ d) ∷ (N │ [] ⊢ d) ∷ []) × exhaust 4 ((O │ [] ⊢ d) ∷ (N │ [] ⊢ d) ∷ [])
first_has_arguments = (refl, refl, refl)

-- the variable is one of the context, and of a datatype
of_a_datatype : exhaust 2 ((L │ [] ⊢ b) ∷ (M │ [] ⊢ b) ∷ []) × exhaust 3 ((L │ [] ⊢ b) ∷ (M │ [] ⊢ b) ∷ []) × exhaust 0 ((L │ [] ⊢ b) ∷ (M │ [] ⊢ b) ∷ [])
of_a_datatype = (refl, refl, refl)

abbrev long : tree.Trees
long = one (cons (literal 1) (cons (literal 2) nil))

deeper : Gives (rule.deep K 2 long) [] (closed K ∷ formed K (formula.deep 2 long) ∷ []) (K │ [] ⊢ formula.deep 2 long)
    × Gives (rule.deep K 1 long) [] (closed K ∷ formed K (formula.deep 1 long) ∷ []) (K │ [] ⊢ formula.deep 1 long)
    × Refuses (rule.deep K 3 long) [] × Refuses (rule.deep K 0 long) [] × Refuses (rule.deep K 2 long) ((K │ [] ⊢ a) ∷ [])
deeper = (refl, refl, refl, refl, refl)

abbrev less_than : ℕ → ℕ → Tree
less_than m n = op less (two (literal m) (literal n))

-- a program call is refused also where it isn't evaluated, and a variable by what is needed: a formula of no context
computed : Gives (rule.compute K (less_than 1 2)) [] (closed K ∷ formed [] (atom (less_than 1 2)) ∷ []) (K │ [] ⊢ atom (less_than 1 2))
    × Refuses (rule.compute K (less_than 2 2)) [] × Refuses (rule.compute K (op disjunction (two (truth true) (op equality (two (put (one nil)) nil))))) []
    × Refuses (rule.compute K (less_than 1 2)) ((K │ [] ⊢ a) ∷ [])
unfolding limited
computed = (refl, refl, refl, refl)

-- needs that aren't met: a parameter, a number as a formula, a variable outside its context, a term at another type
free_type : (n : ℕ) (T U : Ty) (t : Typing) → numbered K n ≡ Some U → IsTyping sorting K [] (free n) t → type_of t ≡ T → U ≡ T
free_type n T U (leaf V) e h s = let q : Some U ≡ Some V = sym e ∙ h in let v : U ≡ V = cc q in v ∙ s
free_type n T U t e h s = absurd h

unmet : (¬ (IsMet sorting (closed (parameter 1 ∷ [])))) × (¬ (IsMet sorting (formed K (atom (literal 1))))) × (¬ (IsMet sorting (formed [] a)))
    × (¬ (IsMet sorting (typed K (free 1) nat))) × IsMet sorting (typed K (free 1) bool) × IsMet sorting (formed K (both a b))
unmet = (
  λ m. m.0,
  λ m. let q : nat ≡ bool = sym (literal_type sorting K [] 1 m.0 m.1) ∙ m.2 in cc q,
  λ m. let p = used_have_types sorting [] [] (free 1) bool m 1 refl in no_place p.0 1 p.1,
  λ m. let q : bool ≡ nat = free_type 1 nat bool m.0 refl m.1 m.2 in cc q,
  (leaf bool, refl, refl),
  ((leaf bool, refl, refl), (leaf bool, refl, refl)),
)
