-- Declarations with a known fault, and those beside them that have none.
use Rattle.std.proofs.Common.{ℕ, ◌≡◌, true, refl, List, [], ◌∷◌, Some, None}
use Rattle.std.specs.Prelude.{codes}
use Rattle.tg_model.specs.Tree.{Tree, free, literal, truth, call, put, bind, bound, op, one, two, successor, less}
use Rattle.tg_model.specs.Types.{Ty, nat, bool, parameter, applied, tys}
use Rattle.tg_model.specs.Theory.{Datatype, Constructor, Function, Program, plain, recursive}
use Rattle.tg_accept.specs.Declared.{Declared, nothing, with_datatype, with_program, with_specification}
use Rattle.tg_accept.specs.Faults.{name, shape, program, datatype_fault, function_fault, program_fault, specification_fault}

-- ---- datatypes

abbrev constructor_of : List ℕ → List Ty → Constructor
constructor_of x ts = record { name = x; arguments = ts }

abbrev type_of : List ℕ → ℕ → List Constructor → Datatype
type_of x n cs = record { name = x; parameters = n; constructors = cs }

-- datatype 'a list = Nil | Cons 'a ('a list)
abbrev lists : Datatype
lists =
    type_of (codes "list") 1 (constructor_of (codes "Nil") [] ∷ constructor_of (codes "Cons") (parameter 1 ∷ applied 1 (tys (parameter 1 ∷ [])) ∷ []) ∷ [])

abbrev listed : Declared
listed = with_datatype nothing lists

no_fault : datatype_fault nothing lists ≡ None
no_fault = refl

-- a type's name and a constructor's are two spaces
two_spaces : datatype_fault nothing (type_of (codes "A") 0 (constructor_of (codes "A") [] ∷ [])) ≡ None
two_spaces = refl

type_again : datatype_fault listed (type_of (codes "list") 0 (constructor_of (codes "A") [] ∷ [])) ≡ Some (name (codes "list"))
type_again = refl

constructor_again : datatype_fault listed (type_of (codes "t") 0 (constructor_of (codes "A") [] ∷ constructor_of (codes "Cons") [] ∷ [])) ≡ Some (name (codes "Cons"))
constructor_again = refl

constructor_twice : datatype_fault nothing (type_of (codes "t") 0 (constructor_of (codes "A") [] ∷ constructor_of (codes "A") [] ∷ [])) ≡ Some (name (codes "A"))
constructor_twice = refl

-- a name comes before a shape
name_first : datatype_fault listed (type_of (codes "t") 0 (constructor_of (codes "Nil") (applied 2 (tys []) ∷ []) ∷ [])) ≡ Some (name (codes "Nil"))
name_first = refl

-- datatype t = A t
endless : datatype_fault nothing (type_of (codes "t") 0 (constructor_of (codes "A") (applied 1 (tys []) ∷ []) ∷ [])) ≡ Some shape
endless = refl

-- datatype t = B | A (t list)
nested : datatype_fault listed (type_of (codes "t") 0 (constructor_of (codes "B") [] ∷ constructor_of (codes "A") (applied 1 (tys (applied 2 (tys []) ∷ [])) ∷ []) ∷ []))
    ≡ Some shape
nested = refl

-- datatype ('a, 'b) t = B | A (('b, 'a) t), and with its parameters in order
abbrev pairs : List Ty → Datatype
pairs ts = type_of (codes "t") 2 (constructor_of (codes "B") [] ∷ constructor_of (codes "A") (applied 1 (tys ts) ∷ []) ∷ [])

turned : datatype_fault nothing (pairs (parameter 2 ∷ parameter 1 ∷ [])) ≡ Some shape
turned = refl

in_order : datatype_fault nothing (pairs (parameter 1 ∷ parameter 2 ∷ [])) ≡ None
in_order = refl

-- ---- functions

abbrev function_of : List ℕ → List Ty → List Tree → Function
function_of x ts cases = record { name = x; parameters = 1; arguments = ts; answer = nat; body = recursive 1 cases }

abbrev on_lists : Ty
on_lists = applied 1 (tys (parameter 1 ∷ []))

-- len Nil = 0; len (Cons x xs) = .. len xs, of x, or of the whole list
abbrev len : Tree → Function
len t = function_of (codes "len") (on_lists ∷ []) (literal 0 ∷ op successor (one (call 1 (one t))) ∷ [])

tail : function_fault listed (len (free 2)) ≡ None
tail = refl

head : function_fault listed (len (free 1)) ≡ Some shape
head = refl

not_a_variable : function_fault listed (len (call 1 (one (free 2)))) ≡ Some shape
not_a_variable = refl

-- a bound variable is no argument of the constructor
through_let :
    function_fault listed (function_of (codes "len") (on_lists ∷ []) (literal 0 ∷ bind (free 2) (call 1 (one (bound 0))) ∷ [])) ≡ Some shape
through_let = refl

-- the other arguments stand before those of the constructor
abbrev second : ℕ → Function
second n = record {
  name = codes "f";
  parameters = 1;
  arguments = nat ∷ on_lists ∷ [];
  answer = nat;
  body = recursive 2 (free 1 ∷ call 1 (two (free 1) (free n)) ∷ []);
}

behind_others : function_fault listed (second 3) ≡ None
behind_others = refl

other_argument : function_fault listed (second 1) ≡ Some shape
other_argument = refl

-- on nat the predecessor is smaller
on_nat : function_fault nothing (function_of (codes "f") (nat ∷ []) (literal 0 ∷ call 1 (one (free 1)) ∷ [])) ≡ None
on_nat = refl

one_case : function_fault listed (function_of (codes "f") (on_lists ∷ []) (literal 0 ∷ [])) ≡ Some shape
one_case = refl

no_constructors : function_fault listed (function_of (codes "f") (bool ∷ []) (literal 0 ∷ [])) ≡ Some shape
no_constructors = refl

no_argument : function_fault listed (function_of (codes "f") [] (literal 0 ∷ [])) ≡ Some shape
no_argument = refl

taken_name : function_fault listed (function_of (codes "Nil") [] (literal 0 ∷ [])) ≡ Some (name (codes "Nil"))
taken_name = refl

abbrev asking : Function
asking = record { name = codes "f"; parameters = 0; arguments = nat ∷ []; answer = nat; body = plain (put (one (free 1))) }

asks_the_program : function_fault nothing asking ≡ Some program
asks_the_program = refl

-- ---- the program and the specification

abbrev program_of : List Ty → Ty → Program
program_of ts t = record { name = codes "put"; inputs = ts; answer = t }

abbrev eight : List Ty
eight = nat ∷ nat ∷ nat ∷ nat ∷ nat ∷ nat ∷ nat ∷ nat ∷ []

eight_inputs : program_fault nothing (program_of eight nat) ≡ None
eight_inputs = refl

nine_inputs : program_fault nothing (program_of (nat ∷ eight) nat) ≡ Some program
nine_inputs = refl

no_inputs : program_fault nothing (program_of [] nat) ≡ Some program
no_inputs = refl

open_input : program_fault listed (program_of (on_lists ∷ []) nat) ≡ Some program
open_input = refl

open_answer : program_fault nothing (program_of (nat ∷ []) (parameter 1)) ≡ Some program
open_answer = refl

abbrev programmed : Declared
programmed = with_program listed (program_of (nat ∷ nat ∷ []) nat)

second_program : program_fault programmed (record { name = codes "q"; inputs = nat ∷ []; answer = nat }) ≡ Some program
second_program = refl

program_again : program_fault programmed (program_of (nat ∷ []) nat) ≡ Some (name (codes "put"))
program_again = refl

abbrev asks : Tree → Tree → Tree
asks t u = op less (two (literal 0) (put (two t u)))

on_inputs : specification_fault programmed (asks (free 1) (free 2)) ≡ None
on_inputs = refl

turned_inputs : specification_fault programmed (asks (free 2) (free 1)) ≡ Some program
turned_inputs = refl

other_inputs : specification_fault programmed (asks (free 1) (literal 0)) ≡ Some program
other_inputs = refl

one_input : specification_fault programmed (op less (two (literal 0) (put (one (free 1))))) ≡ Some program
one_input = refl

no_program_call : specification_fault programmed (truth true) ≡ None
no_program_call = refl

before_the_program : specification_fault listed (truth true) ≡ Some program
before_the_program = refl

second_specification : specification_fault (with_specification programmed (truth true)) (truth true) ≡ Some program
second_specification = refl
