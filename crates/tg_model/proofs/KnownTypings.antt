-- Typings that are known by hand, in a theory of lists: of each operator and kind of term, and terms that have none.
use Rattle.std.proofs.Common.{◌≡◌, true, false, refl, sym, ◌∙◌, List, [], ◌∷◌}
use Rattle.tg_model.specs.Tree as tree
use Rattle.tg_model.specs.Tree.{Tree, bound, free, literal, truth, con, call, put, case, bind, op, one, two, trees, choice, Operator, successor, negation, conjunction, disjunction, implication, equality, less, less_equal, plus, minus, times, divide, modulo}
use Rattle.tg_model.specs.Types.{Ty, nat, bool}
use Rattle.tg_model.specs.TermTyping.{Typing, leaf, instanced, compound, branching, binding, none, more, end, arm, IsOperation, IsTyped, type_of}
use Rattle.tg_model.proofs.Inversions.{truth_type, literal_type, unary, binary, conditional}
use Rattle.tg_model.proofs.KnownValues.{list_of, pair_of, nil, cons, sorting, nil_of, cons_of, lists, len, twin}

-- Nil and Cons 1 Nil have the type nat list, and Nil every list type
nil_typed : (u : Ty) → IsTyped sorting [] [] nil (list_of u)
nil_typed u = (instanced (u ∷ []) (list_of u) none, (nil_of, refl, (lists, refl, refl), refl, refl, tt), refl)

abbrev nat_nil : Typing
nat_nil = instanced (nat ∷ []) (list_of nat) none

cons_typed : IsTyped sorting [] [] (cons (literal 1) nil) (list_of nat)
cons_typed = (
  instanced (nat ∷ []) (list_of nat) (more (leaf nat) (more nat_nil none)),
  (cons_of, refl, (lists, refl, refl), refl, refl, (refl, ((nil_of, refl, (lists, refl, refl), refl, refl, tt), tt))),
  refl,
)

-- let z = ?1 in case z of {0 => 7, Suc x => x + z}, where ?1 is a natural
case_typed : IsTyped sorting (nat ∷ []) [] (bind (free 1) (case 0 (bound 0) (tree.arm 0 (literal 7) (tree.arm 1 (op plus (two (bound 0) (bound 1))) tree.end)))) nat
case_typed = (
  binding nat nat (leaf nat)
      (branching [] nat (leaf nat) (arm [] (leaf nat) (arm (nat ∷ []) (compound nat (more (leaf nat) (more (leaf nat) none))) end))),
  (refl, refl, (refl, refl, refl, (refl, refl, refl, refl, (refl, refl, ((refl, refl), (refl, (refl, tt))), refl, tt))), refl),
  refl,
)

-- the program at a list, and a call of a function
program_typed : IsTyped sorting (list_of nat ∷ []) [] (op equality (two (put (one (free 1))) (call 2 (one (free 1))))) bool
program_typed = (
  compound bool (more (compound (list_of nat) (more (leaf (list_of nat)) none)) (more (instanced [] (list_of nat) (more (leaf (list_of nat)) none)) none)),
  (((list_of nat, refl), refl), ((refl, refl, (refl, tt)), ((_, refl, refl, refl, refl, (refl, tt)), tt))),
  refl,
)

-- each operator at its operands' types
numeric : (o : Operator) (t : Ty) → IsOperation o (nat ∷ nat ∷ []) t → IsTyped sorting [] [] (op o (two (literal 3) (literal 2))) t
numeric o t h = (compound t (more (leaf nat) (more (leaf nat) none)), (h, (refl, (refl, tt))), refl)

logical : (o : Operator) → IsOperation o (bool ∷ bool ∷ []) bool → IsTyped sorting [] [] (op o (two (truth true) (truth false))) bool
logical o h = (compound bool (more (leaf bool) (more (leaf bool) none)), (h, (refl, (refl, tt))), refl)

operators : IsTyped sorting [] [] (op successor (one (literal 3))) nat × IsTyped sorting [] [] (op negation (one (truth true))) bool
operators = ((compound nat (more (leaf nat) none), ((refl, refl), (refl, tt)), refl), (compound bool (more (leaf bool) none), ((refl, refl), (refl, tt)), refl))

arithmetic : IsTyped sorting [] [] (op plus (two (literal 3) (literal 2))) nat × IsTyped sorting [] [] (op minus (two (literal 3) (literal 2))) nat
    × IsTyped sorting [] [] (op times (two (literal 3) (literal 2))) nat × IsTyped sorting [] [] (op divide (two (literal 3) (literal 2))) nat
    × IsTyped sorting [] [] (op modulo (two (literal 3) (literal 2))) nat
arithmetic = (numeric plus nat (refl, refl), numeric minus nat (refl, refl), numeric times nat (refl, refl), numeric divide nat (refl, refl), numeric modulo nat (refl, refl))

comparisons : IsTyped sorting [] [] (op less (two (literal 3) (literal 2))) bool × IsTyped sorting [] [] (op less_equal (two (literal 3) (literal 2))) bool
    × IsTyped sorting [] [] (op equality (two (literal 3) (literal 2))) bool × IsTyped sorting [] [] (op equality (two (truth true) (truth false))) bool
comparisons = (numeric less bool (refl, refl), numeric less_equal bool (refl, refl), numeric equality bool ((nat, refl), refl), logical equality ((bool, refl), refl))

connectives : IsTyped sorting [] [] (op conjunction (two (truth true) (truth false))) bool × IsTyped sorting [] [] (op disjunction (two (truth true) (truth false))) bool
    × IsTyped sorting [] [] (op implication (two (truth true) (truth false))) bool
connectives = (logical conjunction (refl, refl), logical disjunction (refl, refl), logical implication (refl, refl))

-- if True then 1 else 2
choice_typed : IsTyped sorting [] [] (choice (trees (truth true ∷ literal 1 ∷ literal 2 ∷ []))) nat
choice_typed = (compound nat (more (leaf bool) (more (leaf nat) (more (leaf nat) none))), (refl, (refl, (refl, (refl, tt)))), refl)

-- a polymorphic function at two instances, and one whose type has its parameter
length_of_naturals : IsTyped sorting (list_of nat ∷ []) [] (call 5 (one (free 1))) nat
length_of_naturals = (instanced (nat ∷ []) nat (more (leaf (list_of nat)) none), (len, refl, refl, refl, refl, (refl, tt)), refl)

length_of_truths : IsTyped sorting (list_of bool ∷ []) [] (call 5 (one (free 1))) nat
length_of_truths = (instanced (bool ∷ []) nat (more (leaf (list_of bool)) none), (len, refl, refl, refl, refl, (refl, tt)), refl)

twin_of_truth : IsTyped sorting [] [] (call 6 (one (truth true))) (pair_of bool bool)
twin_of_truth = (instanced (bool ∷ []) (pair_of bool bool) (more (leaf bool) none), (twin, refl, refl, refl, refl, (refl, tt)), refl)

-- case ?1 of {Nil => 0, Cons x xs => x}: the first variable of the branch is the outer one
abbrev head : Tree
head = case 1 (free 1) (tree.arm 0 (literal 0) (tree.arm 2 (bound 1) tree.end))

head_typed : IsTyped sorting (list_of nat ∷ []) [] head nat
head_typed = (
  branching (nat ∷ []) nat (leaf (list_of nat)) (arm [] (leaf nat) (arm (nat ∷ list_of nat ∷ []) (leaf nat) end)),
  ((lists, refl, refl), refl, refl, (refl, refl, refl, refl, (refl, refl, refl, refl, tt))),
  refl,
)

-- terms that have no typing at all: at no type, whatever tree of types is tried
abbrev Untyped : List Ty → Tree → Type 0
Untyped vars t = (u : Ty) → ¬ (IsTyped sorting vars [] t u)

two_types : (a b c d : Ty) → a ∷ b ∷ [] ≡ c ∷ d ∷ [] → (a ≡ c) × (b ≡ d)
two_types a b c d e = (cc e, cc e)

-- True + 1, 1 < True, 1 & True, 1 = True
truth_added : Untyped [] (op plus (two (truth true) (literal 1)))
truth_added u (d, h, e) = binary sorting [] [] plus (truth true) (literal 1) d h (λ a b p q r.
    let f : bool ≡ nat = sym (truth_type sorting [] [] true a p) ∙ (two_types _ _ _ _ r.0).0 in cc)

truth_compared : Untyped [] (op less (two (literal 1) (truth true)))
truth_compared u (d, h, e) = binary sorting [] [] less (literal 1) (truth true) d h (λ a b p q r.
    let f : bool ≡ nat = sym (truth_type sorting [] [] true b q) ∙ (two_types _ _ _ _ r.0).1 in cc)

number_joined : Untyped [] (op conjunction (two (literal 1) (truth true)))
number_joined u (d, h, e) = binary sorting [] [] conjunction (literal 1) (truth true) d h (λ a b p q r.
    let f : nat ≡ bool = sym (literal_type sorting [] [] 1 a p) ∙ (two_types _ _ _ _ r.0).0 in cc)

unlike_compared : Untyped [] (op equality (two (literal 1) (truth true)))
unlike_compared u (d, h, e) = binary sorting [] [] equality (literal 1) (truth true) d h (λ a b p q r.
    let s = two_types _ _ _ _ r.0.1 in
    let f : nat ≡ bool = sym (literal_type sorting [] [] 1 a p) ∙ (s.0 ∙ (sym s.1 ∙ truth_type sorting [] [] true b q)) in cc)

-- ~ 1, Suc True
number_denied : Untyped [] (op negation (one (literal 1)))
number_denied u (d, h, e) = unary sorting [] [] negation (literal 1) d h (λ a p r.
    let s : type_of a ≡ bool = cc r.0 in let f : nat ≡ bool = sym (literal_type sorting [] [] 1 a p) ∙ s in cc)

truth_succeeded : Untyped [] (op successor (one (truth true)))
truth_succeeded u (d, h, e) = unary sorting [] [] successor (truth true) d h (λ a p r.
    let s : type_of a ≡ nat = cc r.0 in let f : bool ≡ nat = sym (truth_type sorting [] [] true a p) ∙ s in cc)

-- if 1 then 2 else 3, and if True then 1 else False
number_decides : Untyped [] (choice (trees (literal 1 ∷ literal 2 ∷ literal 3 ∷ [])))
number_decides u (d, h, e) = conditional sorting [] [] (literal 1) (literal 2) (literal 3) d h (λ a b c p q r s.
    let f : nat ≡ bool = sym (literal_type sorting [] [] 1 a p) ∙ s.0 in cc)

sides_differ : Untyped [] (choice (trees (truth true ∷ literal 1 ∷ truth false ∷ [])))
sides_differ u (d, h, e) = conditional sorting [] [] (truth true) (literal 1) (truth false) d h (λ a b c p q r s.
    let f : nat ≡ bool = sym (literal_type sorting [] [] 1 b q) ∙ (s.1 ∙ (sym s.2 ∙ truth_type sorting [] [] false c r)) in cc)

-- a variable that the context hasn't, `?0`, a bound variable outside all binders, a function that isn't declared
unknown_variable : Untyped (nat ∷ []) (free 2)
unknown_variable u (leaf t, h, e) = cc h
unknown_variable u (instanced us t ds, h, e) = h
unknown_variable u (compound t ds, h, e) = h
unknown_variable u (branching us t d arms, h, e) = h
unknown_variable u (binding v t d g, h, e) = h

variable_zero : Untyped (nat ∷ []) (free 0)
variable_zero u (leaf t, h, e) = cc h
variable_zero u (instanced us t ds, h, e) = h
variable_zero u (compound t ds, h, e) = h
variable_zero u (branching us t d arms, h, e) = h
variable_zero u (binding v t d g, h, e) = h

loose_variable : Untyped (nat ∷ []) (bound 0)
loose_variable u (leaf t, h, e) = cc h
loose_variable u (instanced us t ds, h, e) = h
loose_variable u (compound t ds, h, e) = h
loose_variable u (branching us t d arms, h, e) = h
loose_variable u (binding v t d g, h, e) = h

unknown_function : Untyped (nat ∷ []) (call 9 (one (free 1)))
unknown_function u (leaf t, h, e) = h
unknown_function u (instanced us t ds, h, e) = cc h.1
unknown_function u (compound t ds, h, e) = h
unknown_function u (branching us t d arms, h, e) = h
unknown_function u (binding v t d g, h, e) = h

-- a `case` that lacks a branch
branch_missing : Untyped (list_of nat ∷ []) (case 1 (free 1) (tree.arm 0 (literal 0) tree.end))
branch_missing u (leaf t, h, e) = h
branch_missing u (instanced us t ds, h, e) = h
branch_missing u (compound t ds, h, e) = h
branch_missing u (branching us t d (arm ts a end), h, e) = h.3.4
branch_missing u (branching us t d (arm ts a (arm ts' b arms)), h, e) = h.3.4
branch_missing u (branching us t d end, h, e) = h.3
branch_missing u (binding v t d g, h, e) = h
