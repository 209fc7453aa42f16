-- The types of a left side, one pattern at a time.
use Rattle.std.proofs.Common.{ℕ, zero, suc, ◌≡◌, ◌+◌, Bool, true, false, nat_eq, List, [], ◌∷◌, ◌++◌, map, length, drop, Option, Some, None, refl, sym, ◌∙◌, ap, inl, inr, if◌then◌else◌, arith}
use Rattle.std.specs.Prelude.{slice_get, option_map, option_and_then}
use Rattle.std.proofs.lemmas.Bool.Decides.{eqb_tells}
use Rattle.std.proofs.lemmas.List.{append-nil, append_assoc}
use Rattle.tg_model.specs.Types as types
use Rattle.tg_model.specs.Types.{Ty, tys, elements}
use Rattle.tg_model.specs.Theory.{Theory}
use Rattle.tg_accept.specs.Equations.{Pattern, variable, matched, left_types, opened, parts}
use Rattle.tg_accept.specs.Resolved.{successor_head}
use Rattle.tg_accept.specs.ResolvedTyping.{head_at}
use Rattle.tg_types.specs.declared.types.Ty as declared
use Rattle.tg_types.specs.declared.types.Ty.TheVariants.{Nat, Bool as Boolean, Param, Meta, App}
use Rattle.tg_types.specs.Types.{ty, ty-Nat, ty-Bool, ty-Param, ty-Meta, ty-App}
use Rattle.tg_typing.specs.View.{head}
use Rattle.tg_equations.specs.View.{pattern, patterns}
use Rattle.tg_equations.specs.declared.equations.Pattern.{Pattern as Written}
use Rattle.tg_equations.specs.declared.equations.Pattern.TheVariants.{Variable, Matched}
use Rattle.tg_term.proofs.PartLaws.{drop_at}
use Rattle.tg_equations.specs.LeftSides.{together, of_variables, as_many, of_constructors, AddsAll, Adds}

abbrev pub pair : {A B : Type 0} → A → B → A × B
pair x y = (x, y)

pub equal_yes : (m n : ℕ) → m ≡ n → nat_eq m n ≡ true
equal_yes m n e = elim (eqb_tells m n) [ inl p ↦ p.0 | inr p ↦ absurd (p.1 e) ]

pub equal_no : (m n : ℕ) → ¬ (m ≡ n) → nat_eq m n ≡ false
equal_no m n e = elim (eqb_tells m n) [ inl p ↦ absurd (e p.1) | inr p ↦ p.0 ]

-- ---- both kinds

module _ (th : Theory) where
  pub left_uneven : (ps : List Pattern) (ts : List Ty) → ¬ (length ps ≡ length ts) → left_types th ps ts ≡ None
  left_uneven [] [] e = absurd (e refl)
  left_uneven [] (t ∷ ts) e = refl
  left_uneven (variable x ∷ ps) [] e = refl
  left_uneven (matched h xs ∷ ps) [] e = refl
  left_uneven (variable x ∷ ps) (t ∷ ts) e = ap (option_map (λ (l : List Ty × List Ty). pair (t ∷ l.0) l.1)) (left_uneven ps ts (λ q. e (ap suc q)))
  left_uneven (matched h xs ∷ ps) (t ∷ ts) e = go (left_uneven ps ts (λ q. e (ap suc q))) (opened th h t)
    where
      go : left_types th ps ts ≡ None → (o : Option (List Ty))
          → option_and_then (λ us. if nat_eq (length xs) (length us) then option_map (λ (l : List Ty × List Ty). pair l.0 (us ++ l.1)) (left_types th ps ts) else None) o ≡ None
      go rest None = refl
      go rest (Some us) = by (nat_eq (length xs) (length us))
        where
          by : (b : Bool) → (if b then option_map (λ (l : List Ty × List Ty). pair l.0 (us ++ l.1)) (left_types th ps ts) else None) ≡ None
          by true = ap (option_map (λ (l : List Ty × List Ty). pair l.0 (us ++ l.1))) rest
          by false = refl

  pub left_is : (ps : List Pattern) (ts : List Ty) → length ps ≡ length ts
      → left_types th ps ts ≡ option_map (λ us. pair (of_variables ps ts) us) (of_constructors th ps ts)
  left_is [] [] e = refl
  left_is [] (t ∷ ts) e = cc e
  left_is (variable x ∷ ps) [] e = cc e
  left_is (matched h xs ∷ ps) [] e = cc e
  left_is (variable x ∷ ps) (t ∷ ts) e =
      ap (option_map (λ (l : List Ty × List Ty). pair (t ∷ l.0) l.1)) (left_is ps ts (let q : length ps ≡ length ts = omega (arith, e) in q)) ∙ go (of_constructors th ps ts)
    where
      go : (o : Option (List Ty))
          → option_map (λ (l : List Ty × List Ty). pair (t ∷ l.0) l.1) (option_map (λ us. pair (of_variables ps ts) us) o) ≡ option_map (λ us. pair (t ∷ of_variables ps ts) us) o
      go None = refl
      go (Some us) = refl
  left_is (matched h xs ∷ ps) (t ∷ ts) e = go (left_is ps ts (let q : length ps ≡ length ts = omega (arith, e) in q)) (opened th h t)
    where
      go : left_types th ps ts ≡ option_map (λ us. pair (of_variables ps ts) us) (of_constructors th ps ts) → (o : Option (List Ty))
          → option_and_then (λ us. if nat_eq (length xs) (length us) then option_map (λ (l : List Ty × List Ty). pair l.0 (us ++ l.1)) (left_types th ps ts) else None) o
          ≡ option_map (λ us. pair (of_variables ps ts) us) (option_and_then (λ us. option_map (λ vs. us ++ vs) (of_constructors th ps ts)) (as_many (length xs) o))
      go rest None = refl
      go rest (Some us) = by (nat_eq (length xs) (length us))
        where
          put : (o : Option (List Ty))
              → option_map (λ (l : List Ty × List Ty). pair l.0 (us ++ l.1)) (option_map (λ vs. pair (of_variables ps ts) vs) o)
              ≡ option_map (λ vs. pair (of_variables ps ts) vs) (option_map (λ vs. us ++ vs) o)
          put None = refl
          put (Some vs) = refl

          by : (b : Bool)
              → (if b then option_map (λ (l : List Ty × List Ty). pair l.0 (us ++ l.1)) (left_types th ps ts) else None)
              ≡ option_map (λ vs. pair (of_variables ps ts) vs) (option_and_then (λ vs. option_map (λ ws. vs ++ ws) (of_constructors th ps ts)) (if b then Some us else None))
          by true = ap (option_map (λ (l : List Ty × List Ty). pair l.0 (us ++ l.1))) rest ∙ put (of_constructors th ps ts)
          by false = refl

  pub none_together : (ps : List Pattern) (ts : List Ty) → length ps ≡ length ts → of_constructors th ps ts ≡ None → None ≡ together (left_types th ps ts)
  none_together ps ts e f = sym (ap together (left_is ps ts e ∙ ap (option_map (λ us. pair (of_variables ps ts) us)) f))

  pub some_together : (ps : List Pattern) (ts us : List Ty) → length ps ≡ length ts → of_constructors th ps ts ≡ Some us
      → Some (of_variables ps ts ++ us) ≡ together (left_types th ps ts)
  some_together ps ts us e f = sym (ap together (left_is ps ts e ∙ ap (option_map (λ vs. pair (of_variables ps ts) vs)) f))

-- ---- a type's parts

pub parts_nat : Some (pair 0 []) ≡ parts (ty Nat)
parts_nat = ap parts (sym ty-Nat)

pub parts_bool : None ≡ parts (ty Boolean)
parts_bool = ap parts (sym ty-Bool)

pub parts_parameter : (n : ℕ) → None ≡ parts (ty (Param n))
parts_parameter n = ap parts (sym (ty-Param n))

pub parts_meta : (n : ℕ) → None ≡ parts (ty (Meta n))
parts_meta n = ap parts (sym (ty-Meta n))

elements_tys : (us : List Ty) → elements (tys us) ≡ us
elements_tys [] = refl
elements_tys (u ∷ us) = ap (λ l. u ∷ l) (elements_tys us)

pub parts_zero : (d : ℕ) (ts : List declared.Ty) → d ≡ 0 → None ≡ parts (ty (App d ts))
parts_zero zero ts e = ap parts (sym (ty-App 0 ts))
parts_zero (suc d) ts e = cc e

pub parts_applied : (d : ℕ) (ts : List declared.Ty) → ¬ (d ≡ 0) → Some (pair d (map ty ts)) ≡ parts (ty (App d ts))
parts_applied zero ts e = absurd (e refl)
parts_applied (suc d) ts e = ap (λ l. Some (pair (suc d) l)) (sym (elements_tys (map ty ts))) ∙ ap parts (sym (ty-App (suc d) ts))

pub ruleset parting = (parts_nat, parts_bool, parts_parameter, parts_meta, parts_zero, parts_applied)

-- ---- what is opened

module _ (th : Theory) where
  pub opened_none : (h : _) (t : Ty) → parts t ≡ None → opened th h t ≡ None
  opened_none h t e = ap (option_and_then (λ (p : ℕ × List Ty). option_and_then (λ (q : ℕ × List Ty). if nat_eq q.0 p.0 then Some q.1 else None) (head_at th p.1 h))) e

  pub opened_at : (h : _) (t : Ty) (n : ℕ) (us : List Ty) → parts t ≡ Some (pair n us)
      → opened th h t ≡ option_and_then (λ (q : ℕ × List Ty). if nat_eq q.0 n then Some q.1 else None) (head_at th us h)
  opened_at h t n us e = ap (option_and_then (λ (p : ℕ × List Ty). option_and_then (λ (q : ℕ × List Ty). if nat_eq q.0 p.0 then Some q.1 else None) (head_at th p.1 h))) e

  pub opened_successor : (t : Ty) (n count : ℕ) (us : List Ty) → Some (pair n us) ≡ parts t → n ≡ 0 → count ≡ 1 → as_many count (opened th successor_head t) ≡ Some (types.nat ∷ [])
  opened_successor t n count us e z o =
      ap (as_many count) (opened_at successor_head t n us (sym e))
      ∙ ap (λ m. as_many count (if nat_eq 0 m then Some (types.nat ∷ []) else None)) z
      ∙ ap (λ m. as_many m (Some (types.nat ∷ []))) o

-- ---- the next pattern

module _ (ps : List Written) (args : List declared.Ty) (i : ℕ) (p : Written) (t : declared.Ty) (at : slice_get ps i ≡ Some p) (of_type : slice_get args i ≡ Some t) where
  left_patterns : patterns (drop i ps) ≡ pattern p ∷ patterns (drop (suc i) ps)
  left_patterns = ap patterns (drop_at ps i p at)

  left_args : map ty (drop i args) ≡ ty t ∷ map ty (drop (suc i) args)
  left_args = ap (map ty) (drop_at args i t of_type)

  next : i + 1 ≡ suc i
  next = omega arith

  abbrev Variables : ℕ → List Ty
  Variables n = of_variables (patterns (drop n ps)) (map ty (drop n args))

  pub next_variable : (start all new : List Ty) (x : List ℕ) (u : Ty) → p ≡ Variable x → new ≡ all ++ u ∷ [] → u ≡ ty t → all ++ Variables i ≡ start → new ++ Variables (i + 1) ≡ start
  next_variable start all new x u is e q h =
      (λ j. e j ++ Variables (next j)) ∙ append_assoc all (u ∷ []) (Variables (suc i)) ∙ (λ j. all ++ q j ∷ Variables (suc i))
      ∙ ap (λ k. all ++ of_variables (pattern k ∷ patterns (drop (suc i) ps)) (ty t ∷ map ty (drop (suc i) args))) (sym is)
      ∙ (λ j. all ++ of_variables (sym left_patterns j) (sym left_args j)) ∙ h

  pub next_matched : (start all new : List Ty) (k : _) (xs : List (List ℕ)) → p ≡ Matched k xs → new ≡ all → all ++ Variables i ≡ start → new ++ Variables (i + 1) ≡ start
  next_matched start all new k xs is e h =
      (λ j. e j ++ Variables (next j))
      ∙ ap (λ z. all ++ of_variables (pattern z ∷ patterns (drop (suc i) ps)) (ty t ∷ map ty (drop (suc i) args))) (sym is)
      ∙ (λ j. all ++ of_variables (sym left_patterns j) (sym left_args j)) ∙ h

  module _ (th : Theory) where
    abbrev Constructors : ℕ → Option (List Ty)
    Constructors n = of_constructors th (patterns (drop n ps)) (map ty (drop n args))

    pub next_plain : (whole : Option (List Ty)) (all new : List Ty) (x : List ℕ) → p ≡ Variable x → new ≡ all
        → option_map (λ us. all ++ us) (Constructors i) ≡ whole → option_map (λ us. new ++ us) (Constructors (i + 1)) ≡ whole
    next_plain whole all new x is e h =
        (λ j. option_map (λ us. e j ++ us) (Constructors (next j)))
        ∙ ap (λ z. option_map (λ us. all ++ us) (of_constructors th (pattern z ∷ patterns (drop (suc i) ps)) (ty t ∷ map ty (drop (suc i) args)))) (sym is)
        ∙ (λ j. option_map (λ us. all ++ us) (of_constructors th (sym left_patterns j) (sym left_args j))) ∙ h

    at_matched : (all : List Ty) (k : _) (xs : List (List ℕ)) → p ≡ Matched k xs
        → option_map (λ us. all ++ us) (option_and_then (λ us. option_map (λ vs. us ++ vs) (Constructors (suc i))) (as_many (length xs) (opened th (head k) (ty t))))
        ≡ option_map (λ us. all ++ us) (Constructors i)
    at_matched all k xs is =
        ap (λ z. option_map (λ us. all ++ us) (of_constructors th (pattern z ∷ patterns (drop (suc i) ps)) (ty t ∷ map ty (drop (suc i) args)))) (sym is)
        ∙ (λ j. option_map (λ us. all ++ us) (of_constructors th (sym left_patterns j) (sym left_args j)))

    pub next_opened : (whole : Option (List Ty)) (all new : List Ty) (k : _) (xs : List (List ℕ)) → p ≡ Matched k xs
        → Adds (opened th (head k) (ty t)) (length xs) all new true
        → option_map (λ us. all ++ us) (Constructors i) ≡ whole → option_map (λ us. new ++ us) (Constructors (i + 1)) ≡ whole
    next_opened whole all new k xs is (vs, opens, e) h =
        (λ j. option_map (λ us. e j ++ us) (Constructors (next j))) ∙ regroup (Constructors (suc i))
        ∙ ap (λ o. option_map (λ us. all ++ us) (option_and_then (λ us. option_map (λ ws. us ++ ws) (Constructors (suc i))) o)) (sym opens)
        ∙ at_matched all k xs is ∙ h
      where
        regroup : (o : Option (List Ty)) → option_map (λ us. (all ++ vs) ++ us) o ≡ option_map (λ us. all ++ us) (option_map (λ ws. vs ++ ws) o)
        regroup None = refl
        regroup (Some us) = ap Some (append_assoc all vs us)

    pub stop_opened : (start all new : List Ty) (whole : Option (List Ty)) (k : _) (xs : List (List ℕ)) → p ≡ Matched k xs
        → Adds (opened th (head k) (ty t)) (length xs) all new false
        → option_map (λ us. all ++ us) (Constructors i) ≡ option_map (λ us. start ++ us) whole → whole ≡ None
    stop_opened start all new whole k xs is none h =
        by whole
        (ap (λ o. option_map (λ us. all ++ us) (option_and_then (λ us. option_map (λ ws. us ++ ws) (Constructors (suc i))) o)) (sym none) ∙ at_matched all k xs is ∙ h)
      where
        by : (o : Option (List Ty)) → None ≡ option_map (λ us. start ++ us) o → o ≡ None
        by None e = refl
        by (Some us) e = cc e

pub all_added : (start all : List Ty) (whole : Option (List Ty)) → Some (all ++ []) ≡ option_map (λ us. start ++ us) whole → AddsAll whole start all true
all_added start all None e = cc e
all_added start all (Some us) e = (us, refl, sym (append-nil all) ∙ (let q : all ++ [] ≡ start ++ us = cc e in q))
