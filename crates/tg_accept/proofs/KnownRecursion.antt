-- A primitive recursive function that is accepted, and one that recurses on the whole argument.
use Rattle.std.proofs.Common.{ℕ, ◌≡◌, List, [], ◌∷◌, ◌++◌, map, Option, Some, None, refl, sym, ◌∙◌, ap, inl, inr, arith}
use Rattle.std.specs.Prelude.{codes}
use Rattle.tg_model.specs.Types as types
use Rattle.tg_model.specs.Types.{Ty, Tys, nat, parameter, applied, tys, elements}
use Rattle.tg_model.specs.Theory.{Theory, Function, Owned, constructor_at, instance}
use Rattle.tg_model.specs.TermTyping.{Typing, Typings, leaf, instanced, compound, branching, binding, type_of, types_of}
use Rattle.tg_model.specs.TermTyping as typing
use Rattle.tg_accept.specs.Declared.{theory}
use Rattle.tg_accept.specs.Resolved as resolved
use Rattle.tg_accept.specs.Resolved.{of, Resolved}
use Rattle.tg_accept.specs.ResolvedTyping.{IsTypingOf}
use Rattle.tg_accept.specs.Raw as raw
use Rattle.tg_accept.specs.Raw.{RawEquation}
use Rattle.tg_accept.specs.Checks.{shape, Pass}
use Rattle.tg_accept.specs.Typings.{HasOneTyping}
use Rattle.tg_accept.specs.Equations.{matched, IsEquationTyping}
use Rattle.tg_accept.specs.Functions.{IsRecursiveUse}
use Rattle.tg_accept.specs.Theories.{checks_of}
use Rattle.tg_accept.proofs.KeptTypes.{elements_tys}
use Rattle.tg_accept.proofs.KnownTexts.{one, two, word, equation, f, x, xs, listed, IsRefusedNext, next, on_lists, filled}
use Rattle.tg_accept.proofs.KnownShapes.{number_typed, one_has, lengths, list_types, empty_zero}

abbrev th : Theory
th = theory [] listed

abbrev lists_of_numbers : Ty
lists_of_numbers = applied 1 (tys (nat ∷ []))

abbrev of_filled : Resolved → Typing → Type 0
of_filled t d = IsEquationTyping th (Some lengths) lengths (record { head = f; patterns = matched (of 2) (x ∷ xs ∷ []) ∷ []; body = t }) d

single : (a b : Ty) → a ∷ [] ≡ b ∷ [] → a ≡ b
single a b e = cc e

-- what a use of the function itself gives
module _ (y : Function) (us : List Ty) (is : Some lengths ≡ Some y) where
  declared_so : lengths ≡ y
  declared_so = cc is

  answer_of : (t : Ty) → t ≡ instance us y.answer → t ≡ nat
  answer_of t e = e ∙ ap (λ (z : Function). instance us z.answer) (sym declared_so)

  argument_of : (a : Ty) → a ∷ [] ≡ map (instance us) y.arguments → a ≡ lists_of_numbers
  argument_of a e = single a lists_of_numbers (e ∙ ap (λ (z : Function). map (instance us) z.arguments) (sym declared_so))

-- ---- f (Cons x xs) = f xs

abbrev on_rest : Resolved
on_rest = resolved.own (resolved.more (resolved.free 2) resolved.none)

abbrev rest_typing : Typing
rest_typing = instanced [] nat (typing.more (leaf lists_of_numbers) typing.none)

rest_typed : HasOneTyping (of_filled on_rest)
rest_typed = record {
  typing = rest_typing;
  is = (([], nat ∷ lists_of_numbers ∷ []), refl, (lengths, refl, refl, refl, refl, (refl, tt)), refl);
  only = alone;
}
  where
    alone : (d : Typing) → of_filled on_rest d → d ≡ rest_typing
    alone (instanced us t (typing.more (leaf a) typing.none)) (l, left, (y, is, own, answer, args, each), q) =
        let b = answer_of y us is t answer in
        let c = argument_of y us is a args in λ i. instanced (own i) (b i) (typing.more (leaf (c i)) typing.none)
    alone (instanced us t (typing.more (leaf a) (typing.more d ds))) (l, left, (y, is, own, answer, args, each), q) = absurd each.1
    alone (instanced us t (typing.more d ds)) (l, left, (y, is, own, answer, args, each), q) = absurd each.0
    alone (instanced us t typing.none) (l, left, (y, is, own, answer, args, each), q) = absurd each
    alone d h = absurd h.2

abbrev filled_rest : RawEquation
filled_rest = equation f (filled x xs ∷ []) (raw.word f (one (word xs)))

differ : x ≡ xs → ⊥
differ e = cc e

-- `xs` is the second argument of `Cons`, which is recursive
rest_lower : IsRecursiveUse listed 1 (record { head = f; patterns = matched (of 2) (x ∷ xs ∷ []) ∷ []; body = on_rest }) (resolved.more (resolved.free 2) resolved.none)
rest_lower = record { head = of 2; is_head = refl; number = 2; argument = refl; recursive = record { index = 1; number = refl; recursive = refl } }

rest_accepted : Pass (checks_of listed (on_lists empty_zero filled_rest))
rest_accepted =
    let none = number_typed (Some lengths) lengths f (matched (of 1) [] ∷ []) 0 ([], []) refl refl in (
      (omega arith, (omega arith, tt)),
      (
        tt,
        (
          record { types = list_types.types; equations = (one_has _ none, (one_has _ rest_typed, tt)) },
          (
            (none, (rest_typed, tt)),
            (
              record {
                written = record {
                  equations = (
                    record { begins = refl; distinct = tt; cases = record { whole = tt; once = tt; distinct = tt } },
                    (
                      record {
                        begins = refl;
                        distinct = ((λ h. elim h [ inl e ↦ differ e | inr e ↦ e ]), ((λ h. h), tt));
                        cases = record { whole = (tt, tt); once = (tt, tt); distinct = (tt, tt) };
                      },
                      tt,
                    ),
                  );
                  one_pattern = (refl, (refl, tt));
                  one_place = (refl, (refl, tt));
                  covered = (refl, (refl, tt));
                };
                lower = (tt, ((rest_lower, (tt, tt)), tt));
              },
              ((refl, (refl, tt)), tt),
            ),
          ),
        ),
      ),
    )

-- ---- f (Cons x xs) = f (Cons x xs)

abbrev on_whole : Resolved
on_whole = resolved.own (resolved.more (resolved.con 2 (resolved.more (resolved.free 1) (resolved.more (resolved.free 2) resolved.none))) resolved.none)

abbrev whole_typing : Typing
whole_typing =
    instanced [] nat
    (typing.more (instanced (nat ∷ []) lists_of_numbers (typing.more (leaf nat) (typing.more (leaf lists_of_numbers) typing.none))) typing.none)

-- what a use of `Cons` at lists of naturals gives
cons_of : (o : Owned) (vs : List Ty) (s : Ty) → constructor_at th 2 ≡ Some o → s ≡ applied o.datatype (tys vs) → s ≡ lists_of_numbers → vs ≡ nat ∷ []
cons_of o vs s at same is =
    let d : o.datatype ≡ 1 = ap (λ (p : Option Owned). number p) (sym at) in
    let all : applied o.datatype (tys vs) ≡ lists_of_numbers = sym same ∙ is in
    let args : tys vs ≡ types.more nat types.none = ap arguments all in
    sym (elements_tys vs) ∙ ap elements args
  where
    number : Option Owned → ℕ
    number None = 1
    number (Some p) = p.datatype

    arguments : Ty → Tys
    arguments (applied e ts) = ts
    arguments t = types.none

cons_arguments : (o : Owned) (vs : List Ty) (a b : Ty) → constructor_at th 2 ≡ Some o → vs ≡ nat ∷ [] → a ∷ b ∷ [] ≡ map (instance vs) o.constructor.arguments
    → a ∷ b ∷ [] ≡ nat ∷ lists_of_numbers ∷ []
cons_arguments o vs a b at same e =
    e ∙ (ap (λ us. map (instance us) o.constructor.arguments) same ∙ ap (λ (p : Option Owned). shown p) (sym at))
  where
    shown : Option Owned → List Ty
    shown None = nat ∷ lists_of_numbers ∷ []
    shown (Some p) = map (instance (nat ∷ [])) p.constructor.arguments

first_of : (a b c d : Ty) → a ∷ b ∷ [] ≡ c ∷ d ∷ [] → a ≡ c
first_of a b c d e = cc e

second_of : (a b c d : Ty) → a ∷ b ∷ [] ≡ c ∷ d ∷ [] → b ≡ d
second_of a b c d e = cc e

whole_typed : HasOneTyping (of_filled on_whole)
whole_typed = record {
  typing = whole_typing;
  is = (
    ([], nat ∷ lists_of_numbers ∷ []),
    refl,
    (lengths, refl, refl, refl, refl, ((_, refl, (_, refl, refl), refl, refl, (refl, (refl, tt))), tt)),
    refl,
  );
  only = alone;
}
  where
    inner : (s : Ty) → s ≡ lists_of_numbers → (e : Typing)
        → (vars : List Ty) → IsTypingOf th (Some lengths) [] vars [] (resolved.con 2 (resolved.more (resolved.free 1) (resolved.more (resolved.free 2) resolved.none))) e
        → type_of e ≡ s → e ≡ instanced (nat ∷ []) lists_of_numbers (typing.more (leaf nat) (typing.more (leaf lists_of_numbers) typing.none))
    inner s is (instanced vs u (typing.more (leaf a) (typing.more (leaf b) typing.none))) vars (o, at, count, same, args, each) q =
        let p : vs ≡ nat ∷ [] = cons_of o vs u at same (q ∙ is) in
        let r = cons_arguments o vs a b at p args in
        let v : a ≡ nat = first_of a b nat lists_of_numbers r in
        let w : b ≡ lists_of_numbers = second_of a b nat lists_of_numbers r in
        let t : u ≡ lists_of_numbers = q ∙ is in
        λ i. instanced (p i) (t i) (typing.more (leaf (v i)) (typing.more (leaf (w i)) typing.none))
    inner s is (instanced vs u (typing.more (leaf a) (typing.more (leaf b) (typing.more d ds)))) vars (o, at, count, same, args, each) q = absurd each.1.1
    inner s is (instanced vs u (typing.more (leaf a) (typing.more d ds))) vars (o, at, count, same, args, each) q = absurd each.1.0
    inner s is (instanced vs u (typing.more (leaf a) typing.none)) vars (o, at, count, same, args, each) q = absurd each.1
    inner s is (instanced vs u (typing.more d ds)) vars (o, at, count, same, args, each) q = absurd each.0
    inner s is (instanced vs u typing.none) vars (o, at, count, same, args, each) q = absurd each
    inner s is e vars h q = absurd h

    alone : (d : Typing) → of_filled on_whole d → d ≡ whole_typing
    alone (instanced us t (typing.more e typing.none)) (l, left, (y, is, own, answer, args, each), q) =
        let b = answer_of y us is t answer in
        let c = argument_of y us is (type_of e) args in
        let r = inner (type_of e) c e (l.0 ++ l.1) each.0 refl in λ i. instanced (own i) (b i) (typing.more (r i) typing.none)
    alone (instanced us t (typing.more e (typing.more d ds))) (l, left, (y, is, own, answer, args, each), q) = absurd each.1
    alone (instanced us t typing.none) (l, left, (y, is, own, answer, args, each), q) = absurd each
    alone d h = absurd h.2

abbrev filled_whole : RawEquation
filled_whole = equation f (filled x xs ∷ []) (raw.word f (one (raw.word (codes "Cons") (two (word x) (word xs)))))

whole_argument : IsRefusedNext (on_lists empty_zero filled_whole) shape
whole_argument =
    let none = number_typed (Some lengths) lengths f (matched (of 1) [] ∷ []) 0 ([], []) refl refl in
    next (on_lists empty_zero filled_whole) shape (
    inr (
      (omega arith, (omega arith, tt)),
      inr (
        tt,
        inr (
          record { types = list_types.types; equations = (one_has _ none, (one_has _ whole_typed, tt)) },
          inr ((none, (whole_typed, tt)), inl ((λ s. let q = s.lower.1.0.0.argument in cc q), refl)),
        ),
      ),
    )
    )
