-- Texts of certificates and outcomes whose meaning is known by hand, in the theory of lists.
use Rattle.std.proofs.Common.{ℕ, ◌≡◌, true, false, [], ◌∷◌, Option, Some, None, refl, inl, inr}
use Rattle.std.specs.Prelude.{codes}
use Rattle.tg_model.specs.Tree as tree
use Rattle.tg_model.specs.Tree.{Tree}
use Rattle.tg_model.specs.Types.{nat, bool}
use Rattle.tg_model.specs.Formula.{atom, all}
use Rattle.tg_model.specs.Value.{number, made, values}
use Rattle.tg_model.specs.TermTyping.{leaf, instanced, compound}
use Rattle.tg_model.specs.TermTyping as typing
use Rattle.tg_model.proofs.KnownValues.{sorting, lists, list_of}
use Rattle.tg_accept.specs.Resolved as resolved
use Rattle.tg_accept.specs.Resolved.{of, zero_head, successor_head, Resolved}
use Rattle.tg_accept.specs.Core.{EachCaseWhole}
use Rattle.tg_accept.specs.Cases.{EachCaseIn, AreOnce, HaveDistinctVariables}
use Rattle.tg_accept.specs.Raw as raw
use Rattle.tg_accept.specs.Raw.{level, natural_type, type_word, type_variable, RawType, RawTerm, constructor_word, successor_word, zero_word, raw_atom, raw_all, raw_tested}
use Rattle.tg_accept.specs.Meaning.{resolve, type_meant}
use Rattle.tg_accept.specs.Standing.{declared_in, certificate_scope, levels, IsTermOf, IsTypeOf, IsFormulaOf, IsValueOf, value_meant}
use Rattle.tg_accept.proofs.KnownTexts.{one, two, word}

-- what a term stands for under as many binders
abbrev Stands : ℕ → RawTerm → Option Resolved → Type 0
Stands n t o = resolve (certificate_scope sorting) (levels n) t ≡ o

abbrev lets : ℕ → RawTerm → RawTerm → RawTerm
lets n t u = raw.bind (level n) t u

-- ---- numbers of binders

-- let !1 = 0 in !1
own_number : Stands 0 (lets 1 (raw.number 0) (raw.bang 1)) (Some (resolved.bind (resolved.literal 0) (resolved.bound 0)))
own_number = refl

-- under one quantifier, let !2 = !1 in !1
outer_number : Stands 1 (lets 2 (raw.bang 1) (raw.bang 1)) (Some (resolved.bind (resolved.bound 0) (resolved.bound 1)))
outer_number = refl

-- a binder with another number than its own, one that isn't there, and !0
other_number : Stands 0 (lets 2 (raw.number 0) (raw.bang 2)) None
other_number = refl

same_number_again : Stands 1 (lets 1 (raw.number 0) (raw.bang 1)) None
same_number_again = refl

no_binder : Stands 0 (raw.bang 1) None
no_binder = refl

number_zero : Stands 1 (raw.bang 0) None
number_zero = refl

-- the bound term of a let isn't under its binder: let !1 = !1 in 0
bound_term : Stands 0 (lets 1 (raw.bang 1) (raw.number 0)) None
bound_term = refl

-- case ?1 of {Cons !1 !2 => !1, Nil => ?1}: each variable of a branch counts one
branch_variables :
    Stands 0 (raw.case (raw.question 1) (raw.branch (constructor_word (codes "Cons")) (level 1 ∷ level 2 ∷ []) (raw.bang 1) (raw.branch (constructor_word (codes "Nil")) [] (raw.question 1) raw.end)))
    (Some (resolved.case 1 (resolved.free 1) (resolved.branch (of 2) ([] ∷ [] ∷ []) (resolved.bound 1) (resolved.branch (of 1) [] (resolved.free 1) resolved.end))))
branch_variables = refl

-- names bind nothing here, an unknown name stands for nothing, and a function needs no arguments to be looked up
named_binder : Stands 0 (raw.bind (raw.name (codes "x")) (raw.number 0) (raw.number 0)) None
named_binder = refl

unknown_name : Stands 0 (word (codes "x")) None
unknown_name = refl

function_name : Stands 0 (raw.word (codes "sort") (one (word (codes "Nil")))) (Some (resolved.call 2 (resolved.more (resolved.con 1 resolved.none) resolved.none)))
function_name = refl

program_name : Stands 0 (raw.word (codes "put") (one (raw.question 1))) (Some (resolved.put (resolved.more (resolved.free 1) resolved.none)))
program_name = refl

no_text : Stands 0 raw.unread None
no_text = refl

-- ---- terms, types and formulas

-- some typing is enough: Nil
empty : IsTermOf sorting [] (word (codes "Nil")) (tree.con 1 tree.none)
empty = (
  list_of nat,
  record {
    resolved = resolved.con 1 resolved.none;
    is = refl;
    right = record {
      whole = tt;
      once = tt;
      typed = record { typing = instanced (nat ∷ []) (list_of nat) typing.none; is = ((_, refl, (lists, refl, refl), refl, refl, tt), refl) };
    };
    same = refl;
  },
)

-- closed types alone
closed : IsTypeOf sorting (type_word (codes "list") (raw.more_types natural_type raw.no_types)) (list_of nat)
closed = (refl, ((_, refl, refl), (tt, tt)))

open_type : type_meant [] (codes "list" ∷ []) (type_variable (codes "'a")) ≡ None
open_type = refl

-- (ALL nat. [(!1 = ?1)])
compared : IsFormulaOf sorting (nat ∷ []) (raw_all natural_type (raw_atom (raw.op tree.equality (two (raw.bang 1) (raw.question 1)))))
    (all nat (atom (tree.op tree.equality (tree.two (tree.bound 0) (tree.free 1)))))
compared = (
  (refl, tt),
  record {
    resolved = resolved.op tree.equality (resolved.more (resolved.bound 0) (resolved.more (resolved.free 1) resolved.none));
    is = refl;
    right = record {
      whole = (tt, (tt, tt));
      once = (tt, (tt, tt));
      typed = record {
        typing = compound bool (typing.more (leaf nat) (typing.more (leaf nat) typing.none));
        is = ((((nat, refl), refl), (refl, (refl, tt))), refl);
      };
    };
    same = refl;
  },
)

-- ---- the branches of a case

abbrev branches : resolved.Branches → Resolved
branches bs = resolved.case 0 (resolved.free 1) bs

-- case ?1 of {Suc n => 0, 0 => 0} has both; one lacks a constructor, one has 0 twice, and one repeats a variable
abbrev zero_branch : resolved.Branches → resolved.Branches
zero_branch bs = resolved.branch zero_head [] (resolved.literal 0) bs

abbrev successor_branch : resolved.Branches → resolved.Branches
successor_branch bs = resolved.branch successor_head (codes "n" ∷ []) (resolved.literal 0) bs

has_both : EachCaseWhole sorting (branches (successor_branch (zero_branch resolved.end))) × EachCaseIn AreOnce (branches (successor_branch (zero_branch resolved.end)))
has_both = (((refl, (refl, tt)), tt, (tt, (tt, tt))), (((λ h. elim h [ inl e ↦ cc e | inr e ↦ e ]), ((λ h. h), tt)), tt, (tt, (tt, tt))))

lacks_zero : ¬ (EachCaseWhole sorting (branches (successor_branch resolved.end)))
lacks_zero h = let e : false ≡ true = h.0.0 in cc e

zero_twice : ¬ (EachCaseIn AreOnce (branches (zero_branch (successor_branch (zero_branch resolved.end)))))
zero_twice h = h.0.0 (inr (inl refl))

repeated_variable : ¬ (HaveDistinctVariables (resolved.branch (of 2) (codes "y" ∷ codes "y" ∷ []) (resolved.literal 0) resolved.end))
repeated_variable h = h.0.0 (inl refl)

-- ---- values

-- Cons 4 Nil
four : IsValueOf sorting (list_of nat) (raw.word (codes "Cons") (two (raw.number 4) (word (codes "Nil")))) (made 2 (values (number 4 ∷ made 1 (values []) ∷ [])))
four = (refl, (_, refl, (nat ∷ [], refl, (refl, ((_, refl, (nat ∷ [], refl, tt)), tt)))))

-- `Suc 0`, a call and a variable are no values
no_values : (value_meant (declared_in sorting) (raw.op tree.successor (one (raw.number 0))) ≡ None)
    × (value_meant (declared_in sorting) (raw.word (codes "sort") (one (word (codes "Nil")))) ≡ None)
    × (value_meant (declared_in sorting) (raw.question 1) ≡ None)
no_values = (refl, refl, refl)

-- a number is no list
other_type : ¬ (IsValueOf sorting (list_of nat) (raw.number 4) (number 4))
other_type h = let e = h.1 in cc e
