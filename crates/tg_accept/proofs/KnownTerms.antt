-- Resolved terms whose core terms and typings are known by hand, in the theory of lists.
use Rattle.std.proofs.Common.{ℕ, ◌≡◌, true, false, refl, sym, ap, List, [], ◌∷◌, map, length, Some, None, arith}
use Rattle.std.specs.Prelude.{codes}
use Rattle.tg_model.specs.Tree as tree
use Rattle.tg_model.specs.Tree.{Tree}
use Rattle.tg_model.specs.Types.{Ty, nat, bool, parameter, applied, tys}
use Rattle.tg_model.specs.Theory.{instance}
use Rattle.tg_model.specs.TermTyping.{Typing, leaf, instanced, compound, branching, binding, none, more, end, arm}
use Rattle.tg_model.proofs.KnownValues.{sorting, lists, list_of, len}
use Rattle.tg_accept.specs.Resolved as resolved
use Rattle.tg_accept.specs.Resolved.{Head, zero_head, successor_head, of, Resolved, Resolveds, Branches, bound, free, literal, own, misused, put, case, branch, calls_program, bind}
use Rattle.tg_accept.specs.ResolvedTyping.{head_at, IsTypingOf}
use Rattle.tg_accept.specs.Core.{heads_of, core, EachCaseWhole, resolved_again}
use Rattle.tg_accept.proofs.Aligned.{second}

abbrev one : Resolved → Resolveds
one t = resolved.more t resolved.none

-- the heads of nat, of lists and of trees: constructors are numbered through all datatypes
heads : (heads_of sorting 0 ≡ zero_head ∷ successor_head ∷ []) × (heads_of sorting 1 ≡ of 1 ∷ of 2 ∷ [])
    × (heads_of sorting 2 ≡ of 3 ∷ of 4 ∷ []) × (heads_of sorting 9 ≡ [])
heads = (refl, refl, refl, refl)

-- what the variables of a branch are: of `Suc` a natural, of `Cons` at bool a truth value and a list of them
head_types : (head_at sorting [] successor_head ≡ Some (0, nat ∷ [])) × (head_at sorting (bool ∷ []) (of 2) ≡ Some (1, bool ∷ list_of bool ∷ []))
    × (head_at sorting [] (of 9) ≡ None)
head_types = (refl, refl, refl)

abbrev names : List (List ℕ)
names = codes "x" ∷ codes "xs" ∷ []

-- case ?1 of {Cons x xs => x, Nil => 0}: the core term has the branches in the order of the constructors
abbrev turned : Resolved
turned = case 1 (free 1) (branch (of 2) names (bound 1) (branch (of 1) [] (literal 0) resolved.end))

turned_core : core sorting 5 turned ≡ tree.case 1 (tree.free 1) (tree.arm 0 (tree.literal 0) (tree.arm 2 (tree.bound 1) tree.end))
turned_core = refl

turned_whole : EachCaseWhole sorting turned
turned_whole = ((refl, (refl, tt)), tt, (tt, (tt, tt)))

turned_typed : IsTypingOf sorting None [] (list_of nat ∷ []) [] turned
    (branching (nat ∷ []) nat (leaf (list_of nat)) (arm (nat ∷ list_of nat ∷ []) (leaf nat) (arm [] (leaf nat) end)))
turned_typed = ((lists, refl, refl), refl, refl, (refl, refl, refl, refl, (refl, refl, refl, refl, tt)))

-- of two branches for one constructor the first counts, and each is typed; one that is missing makes the term not whole
doubled_core : core sorting 5 (case 0 (free 1) (branch zero_head [] (literal 1) (branch successor_head (codes "n" ∷ []) (bound 0) (branch zero_head [] (literal 2) resolved.end))))
    ≡ tree.case 0 (tree.free 1) (tree.arm 0 (tree.literal 1) (tree.arm 1 (tree.bound 0) tree.end))
doubled_core = refl

not_whole : ¬ (EachCaseWhole sorting (case 1 (free 1) (branch (of 1) [] (literal 0) resolved.end)))
not_whole h = let e : false ≡ true = h.0.1.0 in cc

missing_typed : IsTypingOf sorting None [] (list_of nat ∷ []) [] (case 1 (free 1) (branch (of 1) [] (literal 0) resolved.end))
    (branching (nat ∷ []) nat (leaf (list_of nat)) (arm [] (leaf nat) end))
missing_typed = ((lists, refl, refl), refl, refl, (refl, refl, refl, refl, tt))

first : (p q : ℕ × List Ty) → Some p ≡ Some q → p.0 ≡ q.0
first p q e = let r : p ≡ q = cc e in ap (λ (x : ℕ × List Ty). x.0) r

-- how many variables a branch for `Cons` has
two_variables : (us ts : List Ty) → head_at sorting us (of 2) ≡ Some (1, ts) → length ts ≡ 2
two_variables us ts e = ap (λ (l : List Ty). length l) (sym (second (1, map (instance us) (parameter 1 ∷ list_of (parameter 1) ∷ [])) (1, ts) e))

-- a branch of another datatype, and one with a variable too few, have no typing
other_datatype : (d : Typing) → ¬ (IsTypingOf sorting None [] (list_of nat ∷ []) [] (case 1 (free 1) (branch (of 3) [] (literal 0) resolved.end)) d)
other_datatype (leaf t) h = h
other_datatype (instanced us t ds) h = h
other_datatype (compound t ds) h = h
other_datatype (binding u t d e) h = h
other_datatype (branching us t d end) h = h.3
other_datatype (branching us t d (arm ts e arms)) h =
    let f = first (2, map (instance us) (applied 2 (tys []) ∷ nat ∷ applied 2 (tys []) ∷ [])) (1, ts) h.3.0 in omega (arith, f)

too_few : (d : Typing) → ¬ (IsTypingOf sorting None [] (list_of nat ∷ []) [] (case 1 (free 1) (branch (of 2) (codes "x" ∷ []) (literal 0) resolved.end)) d)
too_few (leaf t) h = h
too_few (instanced us t ds) h = h
too_few (compound t ds) h = h
too_few (binding u t d e) h = h
too_few (branching us t d end) h = h.3
too_few (branching us t d (arm ts e arms)) h = let k = two_variables us ts h.3.0 in let l = h.3.1 in omega (arith, k, l)

-- a variable with arguments has no typing
misuse : (d : Typing) → ¬ (IsTypingOf sorting None [] (nat ∷ []) [] (misused (one (free 1))) d)
misuse d h = h

-- the declared function is used at its own parameters, and not at all where none is declared
own_typed : IsTypingOf sorting (Some len) (parameter 1 ∷ []) (list_of (parameter 1) ∷ []) [] (own (one (free 1)))
    (instanced (parameter 1 ∷ []) nat (more (leaf (list_of (parameter 1))) none))
own_typed = (len, refl, refl, refl, refl, (refl, tt))

own_core : core sorting 5 (own (one (free 1))) ≡ tree.call 5 (tree.one (tree.free 1))
own_core = refl

other_instance : ¬ (IsTypingOf sorting (Some len) (parameter 1 ∷ []) (list_of nat ∷ []) [] (own (one (free 1)))
    (instanced (nat ∷ []) nat (more (leaf (list_of nat)) none)))
other_instance (x, is, same, q, args, each) = cc same

own_of_none : (d : Typing) → ¬ (IsTypingOf sorting None [] (list_of nat ∷ []) [] (own (one (free 1))) d)
own_of_none (leaf t) h = h
own_of_none (instanced us t ds) (x, is, same, q, args, each) = cc is
own_of_none (compound t ds) h = h
own_of_none (branching us t d arms) h = h
own_of_none (binding u t d e) h = h

-- a core term as a resolved one, and its core term again
abbrev tail : Tree
tail = tree.case 1 (tree.free 1) (tree.arm 0 (tree.con 1 tree.none) (tree.arm 2 (tree.bound 0) tree.end))

tail_again : resolved_again sorting tail ≡ case 1 (free 1)
    (branch (of 1) [] (resolved.con 1 resolved.none) (branch (of 2) ([] ∷ [] ∷ []) (bound 0) resolved.end))
tail_again = refl

tail_core : core sorting 0 (resolved_again sorting tail) ≡ tail
tail_core = refl

-- program calls, also within branches
calls : (calls_program (bind (put (one (free 1))) (bound 0)) ≡ true) × (calls_program turned ≡ false)
    × (calls_program (case 0 (free 1) (branch zero_head [] (put (one (free 1))) resolved.end)) ≡ true)
calls = (refl, refl, refl)
