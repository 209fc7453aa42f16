-- Values that are known from the standard and by hand, said of the definitions, so that a slip in one of them doesn't check.
use Rattle.std.proofs.Common.{ℕ, zero, suc, ◌≡◌, true, false, refl, ap, sym, ◌∙◌, List, [], ◌∷◌, inl, inr}
use Rattle.std.specs.Prelude.{codes}
use Rattle.std.proofs.Math.Dec.{eqb-suc-zero}
use Rattle.tg_model.specs.Tree as tree
use Rattle.tg_model.specs.Tree.{Tree, Trees, Arms, bound, free, literal, truth, con, call, put, choice, case, bind, op, arm, end, one, two, trees, Operator, successor, negation, conjunction, disjunction, implication, equality, less, less_equal, plus, minus, times, divide, modulo, unnamed}
use Rattle.tg_model.specs.Types.{Ty, nat, bool, parameter, applied, tys}
use Rattle.tg_model.specs.Value.{Value, number, boolean, made, values, wrong}
use Rattle.tg_model.specs.Formula.{atom}
use Rattle.tg_model.specs.Theory.{Theory, Datatype, Function, Owned, plain, recursive, first_constructor}
use Rattle.tg_model.specs.Typing.{HasType, least}
use Rattle.tg_model.specs.Table.{Table, IsTable}
use Rattle.tg_model.specs.Denotation.{den}
use Rattle.tg_model.specs.Truth.{IsTrueOn}

-- A theory with a list, a tree of two naturals and a pair; `ins` and `sort` are insertion sort, `double` a definition:
--   datatype 'a list = Nil | Cons 'a ('a list);
--   datatype tree = Node tree nat tree | Leaf;
--   datatype ('a, 'b) pair = Pair 'a 'b;
--   primrec ins :: nat => (nat list) => (nat list) where ins x Nil = Cons x Nil;
--     ins x (Cons y ys) = if x <= y then Cons x (Cons y ys) else Cons y (ins x ys);
--   primrec sort :: nat list => nat list where sort Nil = Nil; sort (Cons x xs) = ins x (sort xs);
--   primrec sum :: nat => nat where sum 0 = 0; sum (Suc n) = Suc n + sum n;
--   definition double :: nat => nat where double x = x + x;
--   primrec len :: 'a list => nat where len Nil = 0; len (Cons x xs) = Suc (len xs);
--   definition twin :: 'a => ('a, 'a) pair where twin x = Pair x x;
--   program put :: nat list => nat list;  spec xs . put xs = sort xs;
abbrev pub list_of : Ty → Ty
list_of t = applied 1 (tys (t ∷ []))

abbrev pub nil : Tree
nil = con 1 tree.none

abbrev pub cons : Tree → Tree → Tree
cons t u = con 2 (two t u)

abbrev pub pair_of : Ty → Ty → Ty
pair_of t u = applied 3 (tys (t ∷ u ∷ []))

abbrev pub lists : Datatype
lists = record {
  name = codes "list";
  parameters = 1;
  constructors =
      record { name = codes "Nil"; arguments = [] } ∷ record { name = codes "Cons"; arguments = parameter 1 ∷ list_of (parameter 1) ∷ [] } ∷ [];
}

abbrev pub trees_of_naturals : Datatype
trees_of_naturals = record {
  name = codes "tree";
  parameters = 0;
  constructors =
      record { name = codes "Node"; arguments = applied 2 (tys []) ∷ nat ∷ applied 2 (tys []) ∷ [] } ∷ record { name = codes "Leaf"; arguments = [] } ∷ [];
}

abbrev pub pairs : Datatype
pairs = record {
  name = codes "pair";
  parameters = 2;
  constructors =
      record { name = codes "Pair"; arguments = parameter 1 ∷ parameter 2 ∷ [] } ∷ [];
}

abbrev pub ins : Function
ins = record {
  name = codes "ins";
  parameters = 0;
  arguments = nat ∷ list_of nat ∷ [];
  answer = list_of nat;
  body = recursive 2 (cons (free 1) nil
      ∷ choice (trees (op less_equal (two (free 1) (free 2)) ∷ cons (free 1) (cons (free 2) (free 3)) ∷ cons (free 2) (call 1 (two (free 1) (free 3))) ∷ []))
      ∷ []);
}

abbrev pub sort : Function
sort = record {
  name = codes "sort";
  parameters = 0;
  arguments = list_of nat ∷ [];
  answer = list_of nat;
  body = recursive 1 (nil ∷ call 1 (two (free 1) (call 2 (one (free 2)))) ∷ []);
}

abbrev pub sum : Function
sum = record {
  name = codes "sum";
  parameters = 0;
  arguments = nat ∷ [];
  answer = nat;
  body = recursive 1 (literal 0 ∷ op plus (two (op successor (one (free 1))) (call 3 (one (free 1)))) ∷ []);
}

abbrev pub double : Function
double = record { name = codes "double"; parameters = 0; arguments = nat ∷ []; answer = nat; body = plain (op plus (two (free 1) (free 1))) }

abbrev pub len : Function
len = record {
  name = codes "len";
  parameters = 1;
  arguments = list_of (parameter 1) ∷ [];
  answer = nat;
  body = recursive 1 (literal 0 ∷ op successor (one (call 5 (one (free 2)))) ∷ []);
}

abbrev pub twin : Function
twin = record {
  name = codes "twin";
  parameters = 1;
  arguments = parameter 1 ∷ [];
  answer = pair_of (parameter 1) (parameter 1);
  body = plain (con 5 (two (free 1) (free 1)));
}

-- no accepted theory has it: it calls itself at its whole argument
abbrev pub endless : Function
endless = record {
  name = codes "endless";
  parameters = 0;
  arguments = nat ∷ [];
  answer = nat;
  body = recursive 1 (literal 0 ∷ call 7 (one (op successor (one (free 1)))) ∷ []);
}

abbrev pub sorting : Theory
sorting = record {
  name = codes "Sorting";
  datatypes = lists ∷ trees_of_naturals ∷ pairs ∷ [];
  functions = ins ∷ sort ∷ sum ∷ double ∷ len ∷ twin ∷ endless ∷ [];
  program = record { name = codes "put"; inputs = list_of nat ∷ []; answer = list_of nat };
  specification = op equality (two (put (one (free 1))) (call 2 (one (free 1))));
}

abbrev pub numbers : List ℕ → Value
numbers [] = made 1 (values [])
numbers (n ∷ ns) = made 2 (values (number n ∷ numbers ns ∷ []))

-- what a program answered: the empty list is sorted, and `2 1` is wrongly left as it is
abbrev pub answers : Table
answers = record { inputs = numbers [] ∷ []; answer = numbers [] }
    ∷ record { inputs = numbers (2 ∷ 1 ∷ []) ∷ []; answer = numbers (2 ∷ 1 ∷ []) } ∷ []

abbrev pub value_of : List Value → Tree → Value
value_of env t = den sorting answers env [] t

-- a use that no typing allows is False
ill_typed : (value_of [] (op plus (two (truth true) (literal 1))) ≡ wrong) × (value_of [] (op (unnamed 14) tree.none) ≡ wrong)
    × (value_of [] (free 0) ≡ wrong) × (value_of [] (bound 0) ≡ wrong)
ill_typed = (refl, refl, refl, refl)

-- variables: `?n` counts from 1, a bound variable from the innermost binder, from 0
free_variables : value_of (number 4 ∷ number 5 ∷ []) (op minus (two (free 2) (free 1))) ≡ number 1
free_variables = refl

-- let z = 4 in let x = z + 3 in x - z
nested_lets : value_of [] (bind (literal 4) (bind (op plus (two (bound 0) (literal 3))) (op minus (two (bound 0) (bound 1))))) ≡ number 3
nested_lets = refl

-- if, and the branches of `case` on nat: case 0 and case 5 of {0 => 9, Suc x => x}
conditional : (value_of [] (choice (trees (truth true ∷ literal 1 ∷ literal 2 ∷ []))) ≡ number 1)
    × (value_of [] (choice (trees (truth false ∷ literal 1 ∷ literal 2 ∷ []))) ≡ number 2)
conditional = (refl, refl)

abbrev before : Tree → Tree
before t = case 0 t (arm 0 (literal 9) (arm 1 (bound 0) end))

case_on_nat : (value_of [] (before (literal 0)) ≡ number 9) × (value_of [] (before (literal 5)) ≡ number 4)
case_on_nat = (refl, refl)

-- case xs of {Nil => 0, Cons x ys => x}, and the tail: the last variable of a branch is the innermost
case_on_list : (value_of [] (case 1 (cons (literal 3) nil) (arm 0 (literal 0) (arm 2 (bound 1) end))) ≡ number 3)
    × (value_of [] (case 1 (cons (literal 3) nil) (arm 0 nil (arm 2 (bound 0) end))) ≡ numbers [])
    × (value_of [] (case 1 nil (arm 0 (literal 0) (arm 2 (bound 1) end))) ≡ number 0)
case_on_list = (refl, refl, refl)

-- a `case` within the `let` of a branch: case 2 of {0 => 0, Suc x => let z = x in case z of {0 => 7, Suc w => w + z + x}}
case_within_let : value_of [] (case 0 (literal 2) (arm 0 (literal 0)
    (arm 1 (bind (bound 0) (case 0 (bound 0) (arm 0 (literal 7) (arm 1 (op plus (two (op plus (two (bound 0) (bound 1))) (bound 2))) end)))) end)))
    ≡ number 2
case_within_let = refl

-- a branch with a wrong number of variables, or a constructor of another datatype, is no typed use
wrong_branch : (value_of [] (case 1 (cons (literal 3) nil) (arm 0 (literal 0) (arm 1 (literal 1) end))) ≡ wrong)
    × (value_of [] (case 2 nil (arm 3 (literal 0) (arm 0 (literal 1) end))) ≡ wrong)
wrong_branch = (refl, refl)

-- functions: a definition, recursion on a natural and on a list, and a function that calls an earlier one
doubled : value_of [] (call 4 (one (literal 21))) ≡ number 42
doubled = refl

sums_to : (value_of [] (call 3 (one (literal 0))) ≡ number 0) × (value_of [] (call 3 (one (literal 4))) ≡ number 10)
sums_to = (refl, refl)

inserted : value_of [] (call 1 (two (literal 2) (cons (literal 1) (cons (literal 3) nil)))) ≡ numbers (1 ∷ 2 ∷ 3 ∷ [])
inserted = refl

sorted : value_of (numbers (3 ∷ 1 ∷ 2 ∷ []) ∷ []) (call 2 (one (free 1))) ≡ numbers (1 ∷ 2 ∷ 3 ∷ [])
sorted = refl

-- polymorphic functions, at two instances each
polymorphic : (value_of [] (call 5 (one (cons (literal 3) (cons (literal 3) nil)))) ≡ number 2)
    × (value_of [] (call 5 (one (cons (truth true) nil))) ≡ number 1)
    × (value_of [] (call 6 (one (literal 3))) ≡ made 5 (values (number 3 ∷ number 3 ∷ [])))
    × (value_of [] (call 6 (one nil)) ≡ made 5 (values (numbers [] ∷ numbers [] ∷ [])))
polymorphic = (refl, refl, refl, refl)

-- a call that isn't lower, a later function and a function that isn't declared give False
not_lower : (value_of [] (call 7 (one (literal 3))) ≡ wrong) × (value_of [] (call 8 (one (literal 3))) ≡ wrong)
not_lower = (refl, refl)

-- the program's answer is the recorded one, and the least value of its type where none is
hit : value_of [] (put (one (cons (literal 2) (cons (literal 1) nil)))) ≡ numbers (2 ∷ 1 ∷ [])
hit = refl

miss : value_of [] (put (one (cons (literal 9) nil))) ≡ numbers []
miss = refl

-- least values: nat, bool, a list, a tree whose first constructor holds a tree, a pair of a natural and a list
least_values : (least sorting nat ≡ number 0) × (least sorting bool ≡ boolean false) × (least sorting (list_of nat) ≡ made 1 (values []))
    × (least sorting (applied 2 (tys [])) ≡ made 4 (values []))
    × (least sorting (pair_of nat (list_of bool)) ≡ made 5 (values (number 0 ∷ made 1 (values []) ∷ [])))
least_values = (refl, refl, refl, refl, refl)

first_constructors : (first_constructor sorting.datatypes 1 ≡ 1) × (first_constructor sorting.datatypes 2 ≡ 3) × (first_constructor sorting.datatypes 3 ≡ 5)
first_constructors = (refl, refl, refl)

-- value typing, also at a polymorphic constructor, and a closed type
abbrev pub nil_of : Owned
nil_of = record { datatype = 1; constructor = record { name = codes "Nil"; arguments = [] } }

abbrev pub cons_of : Owned
cons_of = record { datatype = 1; constructor = record { name = codes "Cons"; arguments = parameter 1 ∷ list_of (parameter 1) ∷ [] } }

a_list : HasType sorting (numbers []) (list_of nat)
a_list = (nil_of, refl, (nat ∷ [], refl, tt))

longer : HasType sorting (numbers (2 ∷ 1 ∷ [])) (list_of nat)
longer = (cons_of, refl, (nat ∷ [], refl, (refl, ((cons_of, refl, (nat ∷ [], refl, (refl, (a_list, tt)))), tt))))

not_of_type : ¬ (HasType sorting (boolean true) nat)
not_of_type h = cc

-- the answers are of the declared types, with inputs that differ
a_table : IsTable sorting answers
a_table = ((a_list, tt), a_list, (λ h. elim h [ inl e ↦ cc | inr n ↦ n ]), ((longer, tt), longer, (λ n. n), tt))

-- a sequent with one variable: from `?1 < 1` follows `?1 + 1 < 2`
sequent_of_naturals : IsTrueOn sorting answers (record {
  vars = nat ∷ [];
  hypotheses = atom (op equality (two (free 1) (literal 0))) ∷ [];
  goal = atom (op less (two (op successor (one (free 1))) (literal 2)));
})
sequent_of_naturals [] t h = absurd t
sequent_of_naturals (number zero ∷ vs) t h = refl
sequent_of_naturals (number (suc n) ∷ vs) t h = let e : boolean false ≡ boolean true = ap boolean (sym (eqb-suc-zero n)) ∙ h.0 in cc
sequent_of_naturals (boolean b ∷ vs) t h = let e : nat ≡ bool = t.0 in cc
sequent_of_naturals (made c ws ∷ vs) t h = let e : boolean false ≡ boolean true = h.0 in cc

not_a_sequent : ¬ (IsTrueOn sorting answers (record { vars = []; hypotheses = []; goal = atom (truth false) }))
not_a_sequent h = let e : boolean false ≡ boolean true = h [] tt tt in cc
