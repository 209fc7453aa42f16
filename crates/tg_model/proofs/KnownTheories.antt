-- A theory that is known to be accepted, and so well typed; and theories that aren't, one for each condition.
use Rattle.std.proofs.Common.{ℕ, zero, suc, ◌≡◌, ◌<◌, true, false, refl, sym, ◌∙◌, ap, Bool, not, ◌&&◌, ◌||◌, nat_eq, List, [], ◌∷◌, Some, None, inl, inr, lit<, lit≤, subst}
use Rattle.std.specs.Prelude.{codes, slice_get}
use Rattle.tg_model.specs.Tree.{Tree, free, call, op, one, two, successor}
use Rattle.tg_model.specs.Types.{Ty, nat, bool, parameter, applied, tys}
use Rattle.tg_model.specs.Theory.{Theory, Datatype, Function, numbered}
use Rattle.tg_model.specs.TermTyping.{Typing, Typings, leaf, instanced, compound, none, more, IsTyping, type_of}
use Rattle.tg_model.specs.WellTyped.{IsWellTyped, IsInhabited, IsBody}
use Rattle.tg_model.specs.Accepted.{IsAccepted, IsAmong, AreDistinct, AreConstructors, IsFunction, type_names, value_names}
use Rattle.std.proofs.lemmas.Bool.{eq-eqb}
use Rattle.tg_model.proofs.Booleans.{or_left, or_right, and_left, and_right, and_both}
use Rattle.tg_model.proofs.OwnCalls.{uses_itself}
use Rattle.tg_model.proofs.KnownValues.{list_of, pair_of, nil, cons, sorting, nil_of, cons_of, lists, trees_of_naturals, pairs, ins, sort, sum, double, len, twin}

-- The theory of insertion sort is well typed: its datatypes are inhabited, its bodies_typed are typed, and each call that a body
-- makes is lower. So type soundness speaks of it.
abbrev pub honest : Theory
honest = record {
  name = sorting.name;
  datatypes = sorting.datatypes;
  functions = ins ∷ sort ∷ sum ∷ double ∷ len ∷ twin ∷ [];
  program = sorting.program;
  specification = sorting.specification;
}

some_one : {A : Type 0} (x y : A) → Some x ≡ Some y → x ≡ y
some_one x y e = cc

inhabited : (d : ℕ) (x : Datatype) → slice_get honest.datatypes d ≡ Some x → IsInhabited honest (suc d) x
inhabited zero x e = subst (λ (y : Datatype). IsInhabited honest 1 y) (some_one lists x e)
    (record { number = 1; constructor = record { name = codes "Nil"; arguments = [] }; base = refl; before = tt })
inhabited (suc zero) x e = subst (λ (y : Datatype). IsInhabited honest 2 y) (some_one trees_of_naturals x e)
    (record { number = 4; constructor = record { name = codes "Leaf"; arguments = [] }; base = refl; before = tt })
inhabited (suc (suc zero)) x e = subst (λ (y : Datatype). IsInhabited honest 3 y) (some_one pairs x e)
    (record {
      number = 5;
      constructor = record { name = codes "Pair"; arguments = parameter 1 ∷ parameter 2 ∷ [] };
      base = refl;
      before = ((lit< tt, lit≤ tt), ((lit< tt, lit≤ tt), tt));
    })
inhabited (suc (suc (suc d))) x e = let f : None ≡ Some x = e in cc

abbrev typed_nil : List Ty → Typing
typed_nil us = instanced us (applied 1 (tys us)) none

is_nil : (vars : List Ty) → IsTyping honest vars [] nil (typed_nil (nat ∷ []))
is_nil vars = (nil_of, refl, (lists, refl, refl), refl, refl, tt)

-- the typing of `cons t u` on lists of naturals
abbrev typed_cons : Typing → Typing → Typing
typed_cons d e = instanced (nat ∷ []) (list_of nat) (more d (more e none))

is_cons : (vars : List Ty) (t u : Tree) (d e : Typing) → type_of d ≡ nat → type_of e ≡ list_of nat → IsTyping honest vars [] t d → IsTyping honest vars [] u e
    → IsTyping honest vars [] (cons t u) (typed_cons d e)
is_cons vars t u d e p q h k = (cons_of, refl, (lists, refl, refl), refl, (λ i. p i ∷ q i ∷ []), (h, (k, tt)))

abbrev call_of : ℕ → Ty → Typings → Typing
call_of f t ds = instanced [] t ds

double_body : IsBody honest 4 double double.body
double_body = ((tt, (tt, tt)), (compound nat (more (leaf nat) (more (leaf nat) none)), ((refl, refl), (refl, (refl, tt))), refl))

sum_body : IsBody honest 3 sum sum.body
sum_body = (
  0,
  [],
  refl,
  refl,
  (
    tt,
    (leaf nat, refl, refl),
    (
      ((tt, tt), ((inr (refl, (0, lit< tt, refl)), (tt, tt)), tt)),
      (
        compound nat (more (compound nat (more (leaf nat) none)) (more (call_of 3 nat (more (leaf nat) none)) none)),
        ((refl, refl), (((refl, refl), (refl, tt)), ((sum, refl, refl, refl, refl, (refl, tt)), tt))),
        refl,
      ),
      tt,
    ),
  ),
)

sort_body : IsBody honest 2 sort sort.body
sort_body = (
  1,
  nat ∷ [],
  refl,
  (lists, refl, refl),
  (
    tt,
    (typed_nil (nat ∷ []), is_nil [], refl),
    (
      (inl (lit< tt), (tt, ((inr (refl, (1, lit< tt, refl)), (tt, tt)), tt))),
      (
        call_of 1 (list_of nat) (more (leaf nat) (more (call_of 2 (list_of nat) (more (leaf (list_of nat)) none)) none)),
        (ins, refl, refl, refl, refl, (refl, ((sort, refl, refl, refl, refl, (refl, tt)), tt))),
        refl,
      ),
      tt,
    ),
  ),
)

abbrev in_cons_of_any : List Ty
in_cons_of_any = parameter 1 ∷ list_of (parameter 1) ∷ []

abbrev typed_length : Typing
typed_length = compound nat (more (instanced (parameter 1 ∷ []) nat (more (leaf (list_of (parameter 1))) none)) none)

is_length : IsTyping honest in_cons_of_any [] (op successor (one (call 5 (one (free 2))))) typed_length
is_length = ((refl, refl), ((len, refl, refl, refl, refl, (refl, tt)), tt))

len_body : IsBody honest 5 len len.body
len_body = (
  1,
  parameter 1 ∷ [],
  refl,
  (lists, refl, refl),
  (tt, (leaf nat, refl, refl), (((inr (refl, (1, lit< tt, refl)), (tt, tt)), tt), (typed_length, is_length, refl), tt)),
)

abbrev typed_pair : Typing
typed_pair = instanced (parameter 1 ∷ parameter 1 ∷ []) (pair_of (parameter 1) (parameter 1)) (more (leaf (parameter 1)) (more (leaf (parameter 1)) none))

twin_body : IsBody honest 6 twin twin.body
twin_body = (
  (tt, (tt, tt)),
  (
    typed_pair,
    (record { datatype = 3; constructor = record { name = codes "Pair"; arguments = parameter 1 ∷ parameter 2 ∷ [] } }, refl, (pairs, refl, refl), refl, refl, (refl, (refl, tt))),
    refl,
  ),
)

abbrev in_cons : List Ty
in_cons = nat ∷ nat ∷ list_of nat ∷ []

ins_body : IsBody honest 1 ins ins.body
ins_body = (
  1,
  nat ∷ [],
  refl,
  (lists, refl, refl),
  (
    (tt, (tt, tt)),
    (typed_cons (leaf nat) (typed_nil (nat ∷ [])), is_cons (nat ∷ []) (free 1) nil (leaf nat) (typed_nil (nat ∷ [])) refl refl refl (is_nil (nat ∷ [])), refl),
    (
      ((tt, (tt, tt)), ((tt, ((tt, (tt, tt)), tt)), ((tt, ((inr (refl, (1, lit< tt, refl)), (tt, (tt, tt))), tt)), tt))),
      (
        compound (list_of nat) (more (compound bool (more (leaf nat) (more (leaf nat) none)))
            (more (typed_cons (leaf nat) (typed_cons (leaf nat) (leaf (list_of nat))))
            (more (typed_cons (leaf nat) (call_of 1 (list_of nat) (more (leaf nat) (more (leaf (list_of nat)) none)))) none))),
        (
          refl,
          (
            ((refl, refl), (refl, (refl, tt))),
            (
              is_cons in_cons (free 1) (cons (free 2) (free 3)) (leaf nat) (typed_cons (leaf nat) (leaf (list_of nat))) refl refl refl
                  (is_cons in_cons (free 2) (free 3) (leaf nat) (leaf (list_of nat)) refl refl refl refl),
              (
                is_cons in_cons (free 2) (call 1 (two (free 1) (free 3))) (leaf nat) (call_of 1 (list_of nat) (more (leaf nat) (more (leaf (list_of nat)) none))) refl refl refl
                    (ins, refl, refl, refl, refl, (refl, (refl, tt))),
                tt,
              ),
            ),
          ),
        ),
        refl,
      ),
      tt,
    ),
  ),
)

bodies_typed : (n : ℕ) (x : Function) → numbered honest.functions n ≡ Some x → IsBody honest n x x.body
bodies_typed zero x e = cc
bodies_typed (suc zero) x e = subst (λ (y : Function). IsBody honest 1 y y.body) (some_one ins x e) ins_body
bodies_typed (suc (suc zero)) x e = subst (λ (y : Function). IsBody honest 2 y y.body) (some_one sort x e) sort_body
bodies_typed (suc (suc (suc zero))) x e = subst (λ (y : Function). IsBody honest 3 y y.body) (some_one sum x e) sum_body
bodies_typed (suc (suc (suc (suc zero)))) x e = subst (λ (y : Function). IsBody honest 4 y y.body) (some_one double x e) double_body
bodies_typed (suc (suc (suc (suc (suc zero))))) x e = subst (λ (y : Function). IsBody honest 5 y y.body) (some_one len x e) len_body
bodies_typed (suc (suc (suc (suc (suc (suc zero)))))) x e = subst (λ (y : Function). IsBody honest 6 y y.body) (some_one twin x e) twin_body
bodies_typed (suc (suc (suc (suc (suc (suc (suc n))))))) x e = let f : None ≡ Some x = e in cc

pub well_typed : IsWellTyped honest
well_typed = record {
  datatypes = inhabited;
  functions = bodies_typed;
  inputs = ((((lists, refl, refl), (tt, tt)), tt));
  answer = ((lists, refl, refl), (tt, tt));
  specification = (
    compound bool (more (compound (list_of nat) (more (leaf (list_of nat)) none)) (more (call_of 2 (list_of nat) (more (leaf (list_of nat)) none)) none)),
    (((list_of nat, refl), refl), ((refl, refl, (refl, tt)), ((sort, refl, refl, refl, refl, (refl, tt)), tt))),
    refl,
  );
}

-- names are compared letter by letter
abbrev same_name : List ℕ → List ℕ → Bool
same_name [] [] = true
same_name (c ∷ cs) (d ∷ ds) = nat_eq c d && same_name cs ds
same_name cs ds = false

abbrev is_among : List ℕ → List (List ℕ) → Bool
is_among x [] = false
is_among x (y ∷ ys) = same_name x y || is_among x ys

abbrev are_distinct : List (List ℕ) → Bool
are_distinct [] = true
are_distinct (x ∷ xs) = not (is_among x xs) && are_distinct xs

same_itself : (cs : List ℕ) → same_name cs cs ≡ true
same_itself [] = refl
same_itself (c ∷ cs) = and_both (nat_eq c c) (same_name cs cs) (eq-eqb c c refl) (same_itself cs)

found : (x : List ℕ) (xs : List (List ℕ)) → IsAmong x xs → is_among x xs ≡ true
found x [] h = absurd h
found x (y ∷ ys) (inl e) = or_left (same_name x y) (is_among x ys) (subst (λ (z : List ℕ). same_name x z ≡ true) e (same_itself x))
found x (y ∷ ys) (inr h) = or_right (same_name x y) (is_among x ys) (found x ys h)

distinct_by : (xs : List (List ℕ)) → are_distinct xs ≡ true → AreDistinct xs
distinct_by [] e = tt
distinct_by (x ∷ xs) e = (
  λ h. let p : not (is_among x xs) ≡ true = and_left (not (is_among x xs)) (are_distinct xs) e in
      let q : not true ≡ true = ap not (sym (found x xs h)) ∙ p in
      let r : false ≡ true = q in cc,
  distinct_by xs (and_right (not (is_among x xs)) (are_distinct xs) e),
)

constructors_formed : (d : ℕ) (x : Datatype) → slice_get honest.datatypes d ≡ Some x → AreConstructors honest (suc d) x.parameters x.constructors
constructors_formed zero x e = subst (λ (y : Datatype). AreConstructors honest 1 y.parameters y.constructors) (some_one lists x e)
    (tt, ((inl (lit< tt, lit≤ tt), (inr refl, tt)), tt))
constructors_formed (suc zero) x e = subst (λ (y : Datatype). AreConstructors honest 2 y.parameters y.constructors) (some_one trees_of_naturals x e)
    ((inr refl, (inl tt, (inr refl, tt))), (tt, tt))
constructors_formed (suc (suc zero)) x e = subst (λ (y : Datatype). AreConstructors honest 3 y.parameters y.constructors) (some_one pairs x e)
    ((inl (lit< tt, lit≤ tt), (inl (lit< tt, lit≤ tt), tt)), tt)
constructors_formed (suc (suc (suc d))) x e = let f : None ≡ Some x = e in cc

-- a type that a list type of naturals is made of
abbrev FormedList : Type 0
FormedList = ((1 < 4) × ((x : Datatype) × (numbered honest.datatypes 1 ≡ Some x) × (1 ≡ x.parameters)))

list_formed : FormedList
list_formed = (lit< tt, (lists, refl, refl))

ins_accepted : IsFunction honest 1 ins
ins_accepted = record {
  types = ((list_formed, (tt, tt)), (tt, ((list_formed, (tt, tt)), tt)));
  no_call = (refl, (refl, tt));
  own_type = uses_itself honest 1 ins refl refl ins.body ins_body;
}

sort_accepted : IsFunction honest 2 sort
sort_accepted = record {
  types = ((list_formed, (tt, tt)), ((list_formed, (tt, tt)), tt));
  no_call = (refl, (refl, tt));
  own_type = uses_itself honest 2 sort refl refl sort.body sort_body;
}

sum_accepted : IsFunction honest 3 sum
sum_accepted = record { types = (tt, (tt, tt)); no_call = (refl, (refl, tt)); own_type = uses_itself honest 3 sum refl refl sum.body sum_body }

double_accepted : IsFunction honest 4 double
double_accepted = record { types = (tt, (tt, tt)); no_call = (refl, tt); own_type = tt }

len_accepted : IsFunction honest 5 len
len_accepted = record {
  types = (tt, ((list_formed, ((lit< tt, lit≤ tt), tt)), tt));
  no_call = (refl, (refl, tt));
  own_type = (
    1,
    parameter 1 ∷ [],
    refl,
    ((leaf nat, refl, refl, tt), ((typed_length, is_length, refl, (((λ e. refl), (tt, tt)), tt)), tt)),
  );
}

twin_accepted : IsFunction honest 6 twin
twin_accepted = record {
  types = (((lit< tt, (pairs, refl, refl)), ((lit< tt, lit≤ tt), ((lit< tt, lit≤ tt), tt))), ((lit< tt, lit≤ tt), tt));
  no_call = (refl, tt);
  own_type = tt;
}

functions_accepted : (n : ℕ) (x : Function) → numbered honest.functions n ≡ Some x → IsFunction honest n x
functions_accepted zero x e = cc
functions_accepted (suc zero) x e = subst (λ (y : Function). IsFunction honest 1 y) (some_one ins x e) ins_accepted
functions_accepted (suc (suc zero)) x e = subst (λ (y : Function). IsFunction honest 2 y) (some_one sort x e) sort_accepted
functions_accepted (suc (suc (suc zero))) x e = subst (λ (y : Function). IsFunction honest 3 y) (some_one sum x e) sum_accepted
functions_accepted (suc (suc (suc (suc zero)))) x e = subst (λ (y : Function). IsFunction honest 4 y) (some_one double x e) double_accepted
functions_accepted (suc (suc (suc (suc (suc zero))))) x e = subst (λ (y : Function). IsFunction honest 5 y) (some_one len x e) len_accepted
functions_accepted (suc (suc (suc (suc (suc (suc zero)))))) x e = subst (λ (y : Function). IsFunction honest 6 y) (some_one twin x e) twin_accepted
functions_accepted (suc (suc (suc (suc (suc (suc (suc n))))))) x e = let f : None ≡ Some x = e in cc

pub accepted : IsAccepted honest
accepted = record {
  well_typed = well_typed;
  types_differ = distinct_by (type_names honest) refl;
  names_differ = distinct_by (value_names honest) refl;
  constructors = constructors_formed;
  functions = functions_accepted;
  some_input = lit< tt;
  few_inputs = lit≤ tt;
  calls = ((refl, (tt, tt)), ((tt, tt), tt));
}
