-- The operands by which a term of type bool is taken apart are of type bool.
use Rattle.std.proofs.Common.{◌≡◌, ◌||◌, Bool, true, false, List, [], ◌∷◌, inl, inr, refl, sym, ◌∙◌}
use Rattle.tg_model.specs.Tree.{Tree, bound, free, literal, truth, con, call, put, choice, case, bind, op, one, two, Operator, successor, negation, conjunction, disjunction, implication, equality, less, less_equal, plus, minus, times, divide, modulo, unnamed}
use Rattle.tg_model.specs.Types.{Ty, bool}
use Rattle.tg_model.specs.Theory.{Theory}
use Rattle.tg_model.specs.TermTyping.{Typing, leaf, instanced, compound, branching, binding, type_of, types_of, IsOperation, IsTyping, IsTyped}
use Rattle.tg_model.proofs.Booleans.{or_cases}
use Rattle.tg_model.proofs.Inversions.{unary, binary}
use Rattle.tg_clause.specs.Clauses.{is_connective, is_boolean_shaped, some_boolean_shaped}

module _ (th : Theory) (vars locs : List Ty) where
  abbrev Typed : Tree → Ty → Type 0
  Typed t a = IsTyped th vars locs t a

  -- operands of type bool
  abbrev pub TakesTwo : Operator → Type 0
  TakesTwo o = (s r a : Ty) → IsOperation o (s ∷ r ∷ []) a → (s ≡ bool) × (r ≡ bool)

  two_types : (a b c d : Ty) → a ∷ b ∷ [] ≡ c ∷ d ∷ [] → (a ≡ c) × (b ≡ d)
  two_types a b c d e = (cc e, cc e)

  one_type : (a c : Ty) → a ∷ [] ≡ c ∷ [] → a ≡ c
  one_type a c e = cc e

  pub conjunction_takes : TakesTwo conjunction
  conjunction_takes s r a h = two_types s r bool bool h.0

  pub disjunction_takes : TakesTwo disjunction
  disjunction_takes s r a h = two_types s r bool bool h.0

  pub implication_takes : TakesTwo implication
  implication_takes s r a h = two_types s r bool bool h.0

  pub operand : (a : Tree) → Typed (op negation (one a)) bool → Typed a bool
  operand a (d, h, e) = unary th vars locs negation a d h (λ x p r. (x, p, one_type (type_of x) bool r.0))

  pub operands : (o : Operator) (a b : Tree) → TakesTwo o → Typed (op o (two a b)) bool → Typed a bool × Typed b bool
  operands o a b takes (d, h, e) =
      binary th vars locs o a b d h (λ x y p q r. let k = takes (type_of x) (type_of y) (type_of d) r in ((x, p, k.0), (y, q, k.1)))

  connected : (o : Operator) (ts : List Ty) (a : Ty) → is_connective o ≡ true → IsOperation o ts a → a ≡ bool
  connected negation ts a e h = h.1
  connected conjunction ts a e h = h.1
  connected disjunction ts a e h = h.1
  connected implication ts a e h = h.1
  connected equality ts a e h = h.1
  connected less ts a e h = h.1
  connected less_equal ts a e h = h.1
  connected successor ts a e h = absurd (cc e)
  connected plus ts a e h = absurd (cc e)
  connected minus ts a e h = absurd (cc e)
  connected times ts a e h = absurd (cc e)
  connected divide ts a e h = absurd (cc e)
  connected modulo ts a e h = absurd (cc e)
  connected (unnamed n) ts a e h = absurd (cc e)

  -- a term that is seen to be a truth value is of type bool
  shaped : (t : Tree) (d : Typing) → is_boolean_shaped t ≡ true → IsTyping th vars locs t d → type_of d ≡ bool
  shaped (truth b) (leaf t) e h = h
  shaped (truth b) (instanced us t ds) e h = absurd h
  shaped (truth b) (compound t ds) e h = absurd h
  shaped (truth b) (branching us t d arms) e h = absurd h
  shaped (truth b) (binding u t d k) e h = absurd h
  shaped (op o ts) (compound t ds) e h = connected o (types_of ds) t e h.0
  shaped (op o ts) (leaf t) e h = absurd h
  shaped (op o ts) (instanced us t ds) e h = absurd h
  shaped (op o ts) (branching us t d arms) e h = absurd h
  shaped (op o ts) (binding u t d k) e h = absurd h
  shaped (bound k) d e h = absurd (cc e)
  shaped (free n) d e h = absurd (cc e)
  shaped (literal n) d e h = absurd (cc e)
  shaped (con c ts) d e h = absurd (cc e)
  shaped (call f ts) d e h = absurd (cc e)
  shaped (put ts) d e h = absurd (cc e)
  shaped (choice ts) d e h = absurd (cc e)
  shaped (case n t arms) d e h = absurd (cc e)
  shaped (bind t body) d e h = absurd (cc e)

  second : (b : Bool) → (b || false) ≡ true → b ≡ true
  second true e = refl
  second false e = e

  -- both sides of an equation have one type
  pub sides_of_equation : (a b : Tree) → some_boolean_shaped (two a b) ≡ true → Typed (op equality (two a b)) bool → Typed a bool × Typed b bool
  sides_of_equation a b e (d, h, k) = binary th vars locs equality a b d h (λ x y p q r.
      let u = r.0.0 in
      let same = two_types (type_of x) (type_of y) u u r.0.1 in
      let v : type_of x ≡ bool = elim (or_cases (is_boolean_shaped a) (is_boolean_shaped b || false) e) [
        | inl f ↦ shaped a x f p
        | inr f ↦ same.0 ∙ sym same.1 ∙ shaped b y (second (is_boolean_shaped b) f) q
      ] in
      ((x, p, v), (y, q, same.1 ∙ sym same.0 ∙ v)))
