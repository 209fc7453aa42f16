-- Functions that are refused for their types or their shape, with those beside them that are accepted.
use Rattle.std.proofs.Common.{ℕ, ◌≡◌, Bool, true, false, List, [], ◌∷◌, ◌++◌, Option, Some, None, refl, sym, ◌∙◌, ap, inl, inr, arith}
use Rattle.std.specs.Prelude.{codes, option_map}
use Rattle.std.specs.Str.{bytes_eq}
use Rattle.tg_model.specs.Tree.{equality}
use Rattle.tg_model.specs.Types.{Ty, nat, bool, applied, tys}
use Rattle.tg_model.specs.Theory.{Theory, Function}
use Rattle.tg_model.specs.TermTyping.{Typing, leaf, instanced, compound, branching, binding, type_of}
use Rattle.tg_model.specs.TermTyping as typing
use Rattle.tg_accept.specs.Declared.{theory}
use Rattle.tg_accept.specs.Faults.{is_body_shaped}
use Rattle.tg_accept.specs.Resolved as resolved
use Rattle.tg_accept.specs.Resolved.{of, zero_head}
use Rattle.tg_accept.specs.ResolvedTyping.{IsTypingOf}
use Rattle.tg_accept.specs.Raw as raw
use Rattle.tg_accept.specs.Raw.{nodes, RawType, natural_type, truth_type, RawTerm, RawPattern, bare, zero_pattern, bracketed, successor_word, constructor_word, RawEquation, RawDeclaration}
use Rattle.tg_accept.specs.Checks as checks
use Rattle.tg_accept.specs.Checks.{ambiguous, shape, Pass}
use Rattle.tg_accept.specs.Typings.{HasTyping, HasOneTyping}
use Rattle.tg_accept.specs.Equations.{Pattern, variable, matched, left_types, own_parameters, IsEquationTyping}
use Rattle.tg_accept.specs.Functions.{unsaid, function_meant, whole_function, body_of, IsTypable}
use Rattle.tg_accept.specs.Theories.{checks_of}
use Rattle.tg_accept.proofs.KnownTexts.{one, two, word, equals, lets, equation, f, x, xs, listed, IsRefusedNext, next, numbers_to_numbers, lists_to_numbers, on_numbers, on_lists, empty, filled}

abbrev th : Theory
th = theory [] listed

-- ---- no typing

-- a function of one number with a number, as it is declared
abbrev of_numbers : Ty → Function
of_numbers t = record { name = f; parameters = 0; arguments = nat ∷ []; answer = t; body = unsaid }

-- f x y = x, with a pattern too many
abbrev too_many : RawEquation
too_many = equation f (bare x ∷ bare xs ∷ []) (word x)

pattern_too_many : IsRefusedNext (on_numbers too_many) checks.typing
pattern_too_many = next (on_numbers too_many) checks.typing (inr ((omega arith, tt), inr (tt, inl ((λ t. no_left t.equations.0), refl))))
  where
    no_left : HasTyping (λ d. (l : List Ty × List Ty) × (None ≡ Some l) × IsTypingOf th None [] (l.0 ++ l.1) [] (resolved.free 1) d × (type_of d ≡ nat)) → ⊥
    no_left t = cc t.is.1

-- f x = x x
abbrev on_itself : RawEquation
on_itself = equation f (bare x ∷ []) (raw.word x (one (word x)))

variable_on_arguments : IsRefusedNext (on_numbers on_itself) checks.typing
variable_on_arguments = next (on_numbers on_itself) checks.typing (inr ((omega arith, tt), inr (tt, inl ((λ t. t.equations.0.is.2), refl))))

-- f x = True
abbrev truth_for_number : RawEquation
truth_for_number = equation f (bare x ∷ []) (raw.truth true)

of_truth : (vars : List Ty) (b : Bool) (d : Typing) → IsTypingOf th None [] vars [] (resolved.truth b) d → type_of d ≡ bool
of_truth vars b (leaf t) h = h
of_truth vars b (instanced us t ds) h = absurd h
of_truth vars b (compound t ds) h = absurd h
of_truth vars b (branching us t d arms) h = absurd h
of_truth vars b (binding u t d e) h = absurd h

other_result : IsRefusedNext (on_numbers truth_for_number) checks.typing
other_result = next (on_numbers truth_for_number) checks.typing (inr ((omega arith, tt), inr (tt, inl ((λ t. wrong t.equations.0), refl))))
  where
    wrong : HasTyping (IsEquationTyping th None (of_numbers nat)
        (record { head = f; patterns = variable x ∷ []; body = resolved.truth true })) → ⊥
    wrong t = let q : bool ≡ nat = sym (of_truth (t.is.0.0 ++ t.is.0.1) true t.typing t.is.2) ∙ t.is.3 in cc q

-- ---- more than one

-- definition f :: nat => bool where f x = Nil = Nil;
abbrev of_empties : RawDeclaration
of_empties = raw.definition f (natural_type ∷ truth_type ∷ []) (equation f (bare x ∷ []) (equals (word (codes "Nil")) (word (codes "Nil"))) ∷ [])

abbrev empty_at : Ty → Typing
empty_at t = instanced (t ∷ []) (applied 1 (tys (t ∷ []))) typing.none

abbrev equal_at : Ty → Typing
equal_at t = compound bool (typing.more (empty_at t) (typing.more (empty_at t) typing.none))

abbrev first_types : Typing → List Ty
first_types (compound t ds) = typing.types_of ds
first_types d = []

two_lists : IsRefusedNext of_empties ambiguous
two_lists =
    next of_empties ambiguous (
    inr (
      (omega arith, tt),
      inr (
        tt,
        inr (
          record { types = (tt, (tt, tt)); equations = (record { typing = equal_at nat; is = right nat }, tt) },
          inl (inl (record { typing = equal_at nat; other = equal_at bool; is = right nat; other_is = right bool; differ = λ e. apart (ap first_types e) }), refl),
        ),
      ),
    )
    )
  where
    right : (t : Ty) → IsEquationTyping th None (of_numbers bool)
        (record {
          head = f;
          patterns = variable x ∷ [];
          body = resolved.op equality (resolved.more (resolved.con 1 resolved.none) (resolved.more (resolved.con 1 resolved.none) resolved.none));
        }) (equal_at t)
    right t = (_, refl, (((applied 1 (tys (t ∷ [])), refl), refl), (nil t, (nil t, tt))), refl)
      where
        nil : (t : Ty) → IsTypingOf th None [] (nat ∷ []) [] (resolved.con 1 resolved.none) (empty_at t)
        nil t = (_, refl, (_, refl, refl), refl, refl, tt)

    apart : applied 1 (tys (nat ∷ [])) ∷ applied 1 (tys (nat ∷ [])) ∷ [] ≡ applied 1 (tys (bool ∷ [])) ∷ applied 1 (tys (bool ∷ [])) ∷ [] → ⊥
    apart e = cc e

-- ---- the only typing

-- of a right side that is a number
pub number_typed : (self : Option Function) (g : Function) (h : List ℕ) (ps : List Pattern) (n : ℕ) (l : List Ty × List Ty) → left_types th ps g.arguments ≡ Some l
    → g.answer ≡ nat → HasOneTyping (IsEquationTyping th self g (record { head = h; patterns = ps; body = resolved.literal n }))
number_typed self g h ps n l left answer = record { typing = leaf nat; is = (l, left, refl, sym answer); only = λ d is. alone d is.0 is.2 }
  where
    alone : (d : Typing) (k : List Ty × List Ty) → IsTypingOf th self (own_parameters self) (k.0 ++ k.1) [] (resolved.literal n) d → d ≡ leaf nat
    alone (leaf t) k is = ap leaf is
    alone (instanced us t ds) k is = absurd is
    alone (compound t ds) k is = absurd is
    alone (branching us t d arms) k is = absurd is
    alone (binding u t d e) k is = absurd is

pub one_has : (Is : Typing → Type 0) → HasOneTyping Is → HasTyping Is
one_has Is one = record { typing = one.typing; is = one.is }

-- ---- equations as they are written

-- f x = 0, and g x = 0, which begins with another name; the types come first
abbrev head_written : List ℕ → RawEquation
head_written g = equation g (bare x ∷ []) (raw.number 0)

other_head : IsRefusedNext (on_numbers (head_written (codes "g"))) shape
other_head =
    let one = number_typed None (of_numbers nat) (codes "g") (variable x ∷ []) 0 (nat ∷ [], []) refl refl in
    next (on_numbers (head_written (codes "g"))) shape (
    inr (
      (omega arith, tt),
      inr (tt, inr (record { types = (tt, (tt, tt)); equations = (one_has _ one, tt) }, inr ((one, tt), inl ((λ s. differ s.equations.0.begins), refl)))),
    )
    )
  where
    differ : codes "g" ≡ f → ⊥
    differ e = let q : false ≡ true = ap (λ l. bytes_eq l f) e in cc q

-- f x = 0 passes all its checks
zero_accepted : Pass (checks_of listed (on_numbers (head_written f)))
zero_accepted =
    let one = number_typed None (of_numbers nat) f (variable x ∷ []) 0 (nat ∷ [], []) refl refl in (
      (omega arith, tt),
      (
        tt,
        (
          record { types = (tt, (tt, tt)); equations = (one_has _ one, tt) },
          (
            (one, tt),
            (
              record {
                equations = (record { begins = refl; distinct = ((λ h. h), tt); cases = record { whole = tt; once = tt; distinct = tt } }, tt);
                one_equation = refl;
                no_pattern = (refl, tt);
              },
              ((refl, tt), tt),
            ),
          ),
        ),
      ),
    )

-- definition f :: nat => nat where f 0 = 0;
abbrev on_zero : RawEquation
on_zero = equation f (zero_pattern ∷ []) (raw.number 0)

pattern_of_definition : IsRefusedNext (on_numbers on_zero) shape
pattern_of_definition =
    let one = number_typed None (of_numbers nat) f (matched zero_head [] ∷ []) 0 ([], []) refl refl in
    next (on_numbers on_zero) shape (
    inr (
      (omega arith, tt),
      inr (tt, inr (record { types = (tt, (tt, tt)); equations = (one_has _ one, tt) }, inr ((one, tt), inl ((λ s. some_place 1 s.no_pattern.0), refl)))),
    )
    )
  where
    some_place : (n : ℕ) → n ∷ [] ≡ [] → ⊥
    some_place n e = cc e

-- definition f :: nat => nat => nat where f x x = 0;
abbrev twice : RawDeclaration
twice = raw.definition f (natural_type ∷ natural_type ∷ natural_type ∷ []) (equation f (bare x ∷ bare x ∷ []) (raw.number 0) ∷ [])

variable_twice : IsRefusedNext twice shape
variable_twice =
    let two_numbers : Function = record { name = f; parameters = 0; arguments = nat ∷ nat ∷ []; answer = nat; body = unsaid } in
    let one = number_typed None two_numbers f (variable x ∷ variable x ∷ []) 0 (nat ∷ nat ∷ [], []) refl refl in
    next twice shape (
    inr (
      (omega arith, tt),
      inr (
        tt,
        inr (
          record { types = (tt, (tt, (tt, tt))); equations = (one_has _ one, tt) },
          inr ((one, tt), inl ((λ s. s.equations.0.distinct.0 (inl refl)), refl)),
        ),
      ),
    )
    )

-- ---- primitive recursion

abbrev pub lengths : Function
lengths = record { name = f; parameters = 0; arguments = applied 1 (tys (nat ∷ [])) ∷ []; answer = nat; body = unsaid }

abbrev pub list_types : IsTypable listed true (record { signature = lengths; equations = [] })
list_types = record { types = (tt, (((omega arith, (_, refl, refl)), (tt, tt)), tt)); equations = tt }

-- primrec f :: nat list => nat where f Nil = 0;
abbrev one_case : RawDeclaration
one_case = raw.primrec f lists_to_numbers (equation f (empty ∷ []) (raw.number 0) ∷ [])

case_missing : IsRefusedNext one_case shape
case_missing =
    let one = number_typed (Some lengths) lengths f (matched (of 1) [] ∷ []) 0 ([], []) refl refl in
    next one_case shape (
    inr (
      (omega arith, tt),
      inr (
        tt,
        inr (
          record { types = list_types.types; equations = (one_has _ one, tt) },
          inr ((one, tt), inl ((λ s. none s.written.covered.1.0), refl)),
        ),
      ),
    )
    )
  where
    none : ◌≡◌ {A = ℕ} 0 1 → ⊥
    none e = cc e

-- the two equations pass, and in no other number for one constructor
abbrev filled_zero : RawEquation
filled_zero = equation f (filled x xs ∷ []) (raw.number 0)

abbrev pub empty_zero : RawEquation
empty_zero = equation f (empty ∷ []) (raw.number 0)

cases_accepted : Pass (checks_of listed (on_lists filled_zero empty_zero))
cases_accepted =
    let some = number_typed (Some lengths) lengths f (matched (of 2) (x ∷ xs ∷ []) ∷ []) 0 ([], nat ∷ applied 1 (tys (nat ∷ [])) ∷ []) refl refl in
    let none = number_typed (Some lengths) lengths f (matched (of 1) [] ∷ []) 0 ([], []) refl refl in (
      (omega arith, (omega arith, tt)),
      (
        tt,
        (
          record { types = list_types.types; equations = (one_has _ some, (one_has _ none, tt)) },
          (
            (some, (none, tt)),
            (
              record {
                written = record {
                  equations = (
                    record { begins = refl; distinct = ((λ h. elim h [ inl e ↦ differ e | inr e ↦ e ]), ((λ h. h), tt)); cases = record { whole = tt; once = tt; distinct = tt } },
                    (record { begins = refl; distinct = tt; cases = record { whole = tt; once = tt; distinct = tt } }, tt),
                  );
                  one_pattern = (refl, (refl, tt));
                  one_place = (refl, (refl, tt));
                  covered = (refl, (refl, tt));
                };
                lower = (tt, (tt, tt));
              },
              ((refl, (refl, tt)), tt),
            ),
          ),
        ),
      ),
    )
  where
    differ : x ≡ xs → ⊥
    differ e = cc e

-- whether the calls of itself are lower
abbrev Lowered : RawEquation → Bool → Type 0
Lowered e b =
    option_map (λ m. is_body_shaped listed (whole_function listed true m) (body_of listed true m)) (function_meant listed f true lists_to_numbers (empty_zero ∷ e ∷ []))
    ≡ Some b

-- f (Cons x xs) = f xs
tail : Lowered (equation f (filled x xs ∷ []) (raw.word f (one (word xs)))) true
tail = refl

-- f (Cons x xs) = f (Cons x xs)
whole_argument : Lowered (equation f (filled x xs ∷ []) (raw.word f (one (raw.word (codes "Cons") (two (word x) (word xs)))))) false
whole_argument = refl

-- f (Cons x xs) = let y = xs in f y, and let xs = xs in f xs
through_let : Lowered (equation f (filled x xs ∷ []) (lets (codes "y") (word xs) (raw.word f (one (word (codes "y")))))) false
through_let = refl

hidden_argument : Lowered (equation f (filled x xs ∷ []) (lets xs (word xs) (raw.word f (one (word xs))))) false
hidden_argument = refl

-- primrec f :: nat => nat where f 0 = 0; f (Suc x) = f x;
on_predecessor : option_map (λ m. is_body_shaped listed (whole_function listed true m) (body_of listed true m))
    (function_meant listed f true numbers_to_numbers (on_zero ∷ equation f (bracketed successor_word (x ∷ []) ∷ []) (raw.word f (one (word x))) ∷ [])) ≡ Some true
on_predecessor = refl
