-- Theories that aren't well typed, or not accepted: one for each condition, which fails there.
use Rattle.std.proofs.Common.{ℕ, zero, suc, ◌≡◌, true, false, refl, sym, ◌∙◌, ap, subst, List, [], ◌∷◌, map, Some, inl, inr, arith}
use Rattle.std.specs.Prelude.{codes}
use Rattle.tg_model.specs.Tree.{Tree, free, literal, truth, call, put, op, one, two, successor, equality}
use Rattle.tg_model.specs.Types.{Ty, nat, bool, parameter, applied, tys}
use Rattle.tg_model.specs.Theory.{Theory, Datatype, Constructor, Function, Program, plain, recursive, instance, datatype_of}
use Rattle.tg_model.specs.TermTyping.{Typing, leaf, instanced, compound, branching, binding, none, more, type_of, types_of, IsTyping}
use Rattle.tg_model.specs.WellTyped.{AreBefore, IsBody, IsWellTyped}
use Rattle.tg_model.specs.Accepted.{UsesAt, UsesItself, IsAccepted}
use Rattle.tg_model.proofs.Inversions.{truth_type, literal_type}
use Rattle.tg_model.proofs.KnownValues.{list_of, lists}

some_type : {x y : Ty} → Some x ≡ Some y → x ≡ y
some_type e = cc

-- a theory of some datatypes and functions, whose program goes from nat to nat and whose specification is True
abbrev echo : Program
echo = record { name = codes "put"; inputs = nat ∷ []; answer = nat }

abbrev small : List Datatype → List Function → Program → Tree → Theory
small ds fs p t = record { name = codes "Small"; datatypes = ds; functions = fs; program = p; specification = t }

abbrev constructor_of : List Ty → Constructor
constructor_of ts = record { name = codes "C"; arguments = ts }

-- datatype t = C t: no value is made without another
abbrev endless_type : Datatype
endless_type = record { name = codes "t"; parameters = 0; constructors = constructor_of (applied 1 (tys []) ∷ []) ∷ [] }

uninhabited : ¬ (IsWellTyped (small (endless_type ∷ []) [] echo (truth true)))
uninhabited h = let e = (h.datatypes 0 endless_type refl).base in cc e

-- datatype t = C u, where u is declared later
abbrev forward_type : Datatype
forward_type = record { name = codes "t"; parameters = 0; constructors = constructor_of (applied 2 (tys []) ∷ []) ∷ [] }

abbrev later_type : Datatype
later_type = record { name = codes "u"; parameters = 0; constructors = record { name = codes "D"; arguments = [] } ∷ [] }

forward : ¬ (IsWellTyped (small (forward_type ∷ later_type ∷ []) [] echo (truth true)))
forward h =
    let i = h.datatypes 0 forward_type refl in
    let base : (1, constructor_of (applied 2 (tys []) ∷ [])) ≡ (i.number, i.constructor) = cc i.base in
    let same : i.constructor ≡ constructor_of (applied 2 (tys []) ∷ []) = sym (ap (λ (p : ℕ × Constructor). p.1) base) in
    let before = subst (λ (c : Constructor). AreBefore (small (forward_type ∷ later_type ∷ []) [] echo (truth true)) 1 0 (tys c.arguments)) same i.before in
    omega (arith, before.0.0.0)

-- a definition of functions from nat to nat
abbrev defined : Tree → Function
defined t = record { name = codes "f"; parameters = 0; arguments = nat ∷ []; answer = nat; body = plain t }

-- f x = True
ill_typed_body : ¬ (IsWellTyped (small [] (defined (truth true) ∷ []) echo (truth true)))
ill_typed_body h =
    let th = small [] (defined (truth true) ∷ []) echo (truth true) in
    let typed = (h.functions 1 (defined (truth true)) refl).1 in
    let e : bool ≡ nat = sym (truth_type th (nat ∷ []) [] true typed.0 typed.1) ∙ typed.2 in cc

-- f x = f x, and f x = g x where g is declared later
own_call : ¬ (IsWellTyped (small [] (defined (call 1 (one (free 1))) ∷ []) echo (truth true)))
own_call h = let low = (h.functions 1 (defined (call 1 (one (free 1)))) refl).0.0 in omega (arith, low)

later_call : ¬ (IsWellTyped (small [] (defined (call 2 (one (free 1))) ∷ defined (free 1) ∷ []) echo (truth true)))
later_call h = let low = (h.functions 1 (defined (call 2 (one (free 1)))) refl).0.0 in omega (arith, low)

-- f 0 = 0; f (Suc n) = f (Suc n): it calls itself at its whole argument
abbrev whole : Function
whole = record {
  name = codes "f";
  parameters = 0;
  arguments = nat ∷ [];
  answer = nat;
  body = recursive 1 (literal 0 ∷ call 1 (one (op successor (one (free 1)))) ∷ []);
}

whole_argument : ¬ (IsWellTyped (small [] (whole ∷ []) echo (truth true)))
whole_argument h = by (h.functions 1 whole refl)
  where
    by : IsBody (small [] (whole ∷ []) echo (truth true)) 1 whole whole.body → ⊥
    by (zero, us, at, is, cases) = elim cases.2.0.0 [ inl low ↦ omega (arith, low) | inr own ↦ let e = own.1.2 in cc ]
    by (suc d, us, at, is, cases) = let e : nat ≡ applied (suc d) (tys us) = cc at in cc

-- a program from 'a, or to 'a, or from lists of nothing
open_input : ¬ (IsWellTyped (small [] [] (record { name = codes "put"; inputs = parameter 1 ∷ []; answer = nat }) (truth true)))
open_input h = h.inputs.0

open_answer : ¬ (IsWellTyped (small [] [] (record { name = codes "put"; inputs = nat ∷ []; answer = parameter 1 }) (truth true)))
open_answer h = h.answer

bare_list : ¬ (IsWellTyped (small (lists ∷ []) [] (record { name = codes "put"; inputs = applied 1 (tys []) ∷ []; answer = nat }) (truth true)))
bare_list h =
    let x = h.inputs.0.0 in
    let same : lists ≡ x.0 = cc x.1 in
    let count : 0 ≡ lists.parameters = x.2 ∙ ap (λ (d : Datatype). d.parameters) (sym same) in cc

-- spec x . 0;
number_specified : ¬ (IsWellTyped (small [] [] echo (literal 0)))
number_specified h =
    let typed = h.specification in
    let e : nat ≡ bool = sym (literal_type (small [] [] echo (literal 0)) (nat ∷ []) [] 0 typed.0 typed.1) ∙ typed.2 in cc

-- two datatypes of one name, a function with a constructor's name, and one with the program's
two_types : ¬ (IsAccepted (small (lists ∷ lists ∷ []) [] echo (truth true)))
two_types h = h.types_differ.0 (inl refl)

abbrev named : List ℕ → Function
named n = record { name = n; parameters = 0; arguments = nat ∷ []; answer = nat; body = plain (free 1) }

constructor_name : ¬ (IsAccepted (small (lists ∷ []) (named (codes "Nil") ∷ []) echo (truth true)))
constructor_name h = h.names_differ.0 (inr (inl refl))

program_name : ¬ (IsAccepted (small [] (named (codes "put") ∷ []) echo (truth true)))
program_name h = h.names_differ.0 (inl refl)

-- datatype 'a l = N | C (nat l): the argument isn't the datatype at its own parameter
abbrev irregular_type : Datatype
irregular_type = record {
  name = codes "l";
  parameters = 1;
  constructors = record { name = codes "N"; arguments = [] } ∷ constructor_of (list_of nat ∷ []) ∷ [];
}

irregular : ¬ (IsAccepted (small (irregular_type ∷ []) [] echo (truth true)))
irregular h = elim (h.constructors 0 irregular_type refl).1.0.0 [ inl before ↦ omega (arith, before.0.0) | inr e ↦ cc ]

-- a function with a parameter that isn't its own, and one that calls the program
abbrev of_any : Function
of_any = record { name = codes "f"; parameters = 0; arguments = parameter 1 ∷ []; answer = nat; body = plain (literal 0) }

strange_parameter : ¬ (IsAccepted (small [] (of_any ∷ []) echo (truth true)))
strange_parameter h = let within = (h.functions 1 of_any refl).types.1.0.1 in omega (arith, within)

program_in_body : ¬ (IsAccepted (small [] (defined (put (one (free 1))) ∷ []) echo (truth true)))
program_in_body h = let e : true ≡ false = (h.functions 1 (defined (put (one (free 1)))) refl).no_call.0 in cc

-- g :: 'a => 'b list => nat; g y Nil = 0; g y (Cons x xs) = g True xs: it uses itself at another type
abbrev polymorphic : Function
polymorphic = record {
  name = codes "g";
  parameters = 2;
  arguments = parameter 1 ∷ list_of (parameter 2) ∷ [];
  answer = nat;
  body = recursive 2 (literal 0 ∷ call 1 (two (truth true) (free 3)) ∷ []);
}

abbrev with_polymorphic : Theory
with_polymorphic = small (lists ∷ []) (polymorphic ∷ []) echo (truth true)

first_type : (vars : List Ty) (d : Typing) → IsTyping with_polymorphic vars [] (call 1 (two (truth true) (free 3))) d
    → UsesAt 1 (parameter 1 ∷ parameter 2 ∷ []) (call 1 (two (truth true) (free 3))) d → bool ≡ parameter 1
first_type vars (instanced us t (more a ds)) (x, is, n, q, args, each) u =
    let same : polymorphic ≡ x = cc is in
    let own : types_of (more a ds) ≡ map (instance us) (parameter 1 ∷ list_of (parameter 2) ∷ []) =
    args ∙ ap (λ (y : Function). map (instance us) y.arguments) (sym same) in
    let at : types_of (more a ds) ≡ parameter 1 ∷ list_of (parameter 2) ∷ [] =
    own ∙ ap (λ vs. map (instance vs) (parameter 1 ∷ list_of (parameter 2) ∷ [])) (u.0 refl) in
    let head : type_of a ≡ parameter 1 = cc at in
    sym (truth_type with_polymorphic vars [] true a each.0) ∙ head
first_type vars (instanced us t none) (x, is, n, q, args, each) u = absurd each
first_type vars (leaf t) h u = absurd h
first_type vars (compound t ds) h u = absurd h
first_type vars (branching us t d arms) h u = absurd h
first_type vars (binding v t d e) h u = absurd h

other_type : ¬ (IsAccepted with_polymorphic)
other_type h = by ((h.functions 1 polymorphic refl).own_type)
  where
    by : UsesItself with_polymorphic 1 polymorphic polymorphic.body → ⊥
    by (zero, us, at, uses) = let e : list_of (parameter 2) ≡ nat = cc at in cc
    by (suc zero, us, at, uses) =
        let own = uses.1.0 in
        let e : bool ≡ parameter 1 = first_type (parameter 1 ∷ map (instance us) (parameter 1 ∷ list_of (parameter 1) ∷ [])) own.0 own.1 own.3 in cc
    by (suc (suc d), us, at, uses) = let e : 1 ≡ suc (suc d) = ap datatype_of (some_type at) in cc

-- no input, and nine
no_input : ¬ (IsAccepted (small [] [] (record { name = codes "put"; inputs = []; answer = nat }) (truth true)))
no_input h = let low = h.some_input in omega (arith, low)

abbrev nine : List Ty
nine = nat ∷ nat ∷ nat ∷ nat ∷ nat ∷ nat ∷ nat ∷ nat ∷ nat ∷ []

nine_inputs : ¬ (IsAccepted (small [] [] (record { name = codes "put"; inputs = nine; answer = nat }) (truth true)))
nine_inputs h = let high = h.few_inputs in omega (arith, high)

-- the program called on another term, and on the inputs in another order
other_inputs : ¬ (IsAccepted (small [] [] echo (op equality (two (put (one (literal 0))) (literal 1)))))
other_inputs h = let e = h.calls.0.0 in cc

turned_inputs : ¬ (IsAccepted (small [] [] (record { name = codes "put"; inputs = nat ∷ nat ∷ []; answer = nat })
    (op equality (two (put (two (free 2) (free 1))) (literal 1)))))
turned_inputs h = let e = h.calls.0.0 in cc
