-- Typed terms and well-formed formulas with small numbers have texts.
use Rattle.std.proofs.Common.{◌≡◌, ℕ, zero, suc, ◌+◌, ◌<◌, List, [], ◌∷◌, ◌++◌, map, length, Option, Some, slice_get, refl, sym, ap, subst, ◌∙◌, arith}
use Rattle.std.specs.Prelude.{IsSome, reverse}
use Rattle.std.specs.Option.{option_map_or}
use Rattle.std.proofs.lemmas.List.{length-map, length-append, length-reverse}
use Rattle.tg_model.specs.Theory.{Theory, Datatype, Constructor, instance, constructor_at, numbered}
use Rattle.tg_model.specs.Tree as tree
use Rattle.tg_model.specs.Tree.{Tree, Trees, Arms, Operator, bound, free, literal, truth, con, call, put, choice, case, bind, op, elements}
use Rattle.tg_model.specs.Tree.{successor, negation, conjunction, disjunction, implication, equality, less, less_equal, plus, minus, times}
use Rattle.tg_model.specs.Tree.{divide, modulo, unnamed}
use Rattle.tg_model.specs.Types.{Ty}
use Rattle.tg_model.specs.Formula.{Formula, atom, both, implies, all, some, thyp, tested, deep}
use Rattle.tg_model.specs.Typing.{base_constructor}
use Rattle.tg_model.specs.WellTyped.{IsWellTyped}
use Rattle.tg_model.specs.Accepted.{IsAccepted}
use Rattle.tg_model.specs.TermTyping.{Typing, Typings, ArmTypings, leaf, instanced, compound, branching, binding, none, more, end, arm, types_of, IsOperation}
use Rattle.tg_model.specs.TermTyping.{IsDatatype, constructor_arguments, IsTyping, AreTypings, AreArmTypings, IsTyped, AllTyped, IsWellFormed}
use Rattle.tg_report.specs.Names.{constructors_of}
use Rattle.tg_report.specs.RawTerms.{HasOperands, IsBranch, HasArm, HasText, HaveText, ArmsHaveText}
use Rattle.tg_report.specs.RawFormulas.{HasTerm, FormulaHasText}
use Rattle.tg_report.specs.SmallNumbers.{HasSmallNumbers, HaveSmallNumbers, ArmsHaveSmallNumbers, FormulaHasSmallNumbers}

is_within : {A : Type 0} (xs : List A) (k : ℕ) (x : A) → slice_get xs k ≡ Some x → k < length xs
is_within [] k x e = absurd cc
is_within (y ∷ xs) zero x e = omega arith
is_within (y ∷ xs) (suc k) x e = let under : k < length xs = is_within xs k x e in omega (arith, under)

some_within : {A : Type 0} (xs : List A) (k : ℕ) → k < length xs → IsSome (slice_get xs k)
some_within [] k under = absurd (omega (arith, under))
some_within (x ∷ xs) zero under = refl
some_within (x ∷ xs) (suc k) under = some_within xs k (omega (arith, under))

is_some : {A : Type 0} (o : Option A) (x : A) → o ≡ Some x → IsSome o
is_some o x e = subst IsSome (sym e) refl

operands : (o : Operator) (ts : List Ty) (t : Ty) → IsOperation o ts t → HasOperands o (length ts)
operands successor ts t h = ap length h.0
operands negation ts t h = ap length h.0
operands conjunction ts t h = ap length h.0
operands disjunction ts t h = ap length h.0
operands implication ts t h = ap length h.0
operands equality ts t ((u, e), h) = ap length e
operands less ts t h = ap length h.0
operands less_equal ts t h = ap length h.0
operands plus ts t h = ap length h.0
operands minus ts t h = ap length h.0
operands times ts t h = ap length h.0
operands divide ts t h = ap length h.0
operands modulo ts t h = ap length h.0
operands (unnamed n) ts t h = absurd h

-- ---- the constructors of a type

abbrev Suit : Theory → ℕ → ℕ → List (List Ty) → Type 0
Suit th d at [] = Unit {0}
Suit th d at (args ∷ rest) = IsBranch th d at (length args) × Suit th d (at + 1) rest

later : (th : Theory) (d at : ℕ) (rest : List (List Ty)) → at + length rest ≡ length (constructors_of th (suc d)) → Suit th (suc d) at rest
later th d at [] e = tt
later th d at (args ∷ rest) e =
    (some_within (constructors_of th (suc d)) at (omega (arith, e)), later th d (at + 1) rest (omega (arith, e)))

abbrev arguments_at : List Ty → List Constructor → List (List Ty)
arguments_at us cs = map (λ (k : Constructor). map (instance us) k.arguments) cs

suits : (th : Theory) (d : ℕ) (us : List Ty) → IsDatatype th d us → Suit th d 0 (constructor_arguments th d us)
suits th zero us h = (refl, (refl, tt))
suits th (suc d) us (x, e, n) =
    let all : length (constructor_arguments th (suc d) us) ≡ length (constructors_of th (suc d)) =
    ap (λ o. length (option_map_or (λ (y : Datatype). arguments_at us y.constructors) o [])) e
    ∙ length-map x.constructors (λ (k : Constructor). map (instance us) k.arguments)
    ∙ sym (ap (λ o. length (option_map_or (λ (y : Datatype). y.constructors) o [])) e) in
    later th d 0 (constructor_arguments th (suc d) us) (omega (arith, all))

no_base : (d c : ℕ) (cs : List Constructor) (p : ℕ × Constructor) → base_constructor d c cs ≡ Some p → 0 < length cs
no_base d c [] p e = absurd cc
no_base d c (k ∷ cs) p e = omega arith

some_constructor : (th : Theory) (d : ℕ) (us : List Ty) → IsWellTyped th → IsDatatype th d us → 0 < length (constructor_arguments th d us)
some_constructor th zero us w h = omega arith
some_constructor th (suc d) us w (x, e, n) =
    let base = w.datatypes d x e in
    let count : length (constructor_arguments th (suc d) us) ≡ length x.constructors =
    ap (λ o. length (option_map_or (λ (y : Datatype). arguments_at us y.constructors) o [])) e
    ∙ length-map x.constructors (λ (k : Constructor). map (instance us) k.arguments) in
    let some : 0 < length x.constructors = no_base (suc d) _ x.constructors (base.number, base.constructor) base.base in
    omega (arith, count, some)

-- ---- terms

module _ (th : Theory) (vars : List Ty) (a : IsWellTyped th) where
  same_count : (locs : List Ty) (ts : Trees) (ds : Typings) → AreTypings th vars locs ts ds → length (elements ts) ≡ length (types_of ds)
  same_count locs tree.none none h = refl
  same_count locs (tree.more t ts) (more d ds) h = ap suc (same_count locs ts ds h.1)
  same_count locs tree.none (more d ds) h = absurd h
  same_count locs (tree.more t ts) none h = absurd h

  some_arm : (locs : List Ty) (u : Ty) (bs : Arms) (rest : List (List Ty)) (ds : ArmTypings) → 0 < length rest
      → AreArmTypings th vars locs u bs rest ds → HasArm bs
  some_arm locs u tree.end [] end s h = absurd (omega (arith, s))
  some_arm locs u (tree.arm n body bs) rest ds s h = tt
  some_arm locs u tree.end (args ∷ rest) ds s h = absurd h
  some_arm locs u tree.end [] (arm ts d ds) s h = absurd h

  mutual
    text : (locs : List Ty) (level : ℕ) (t : Tree) (d : Typing) → length locs ≡ level → IsTyping th vars locs t d → HasSmallNumbers level t
        → HasText th level t
    text locs level (bound k) (leaf t) e h n = (let under : k < length locs = is_within locs k t h in omega (arith, under, e), n)
    text locs level (free m) (leaf t) e h n = n
    text locs level (literal m) (leaf t) e h n = n
    text locs level (truth b) (leaf t) e h n = tt
    text locs level (con c ts) (instanced us t ds) e (o, found, p, q, r, h) n = (is_some (constructor_at th c) o found, texts locs level ts ds e h n)
    text locs level (call f ts) (instanced us t ds) e (x, found, p, q, r, h) n = (is_some (numbered th.functions f) x found, texts locs level ts ds e h n)
    text locs level (put ts) (compound t ds) e (p, q, h) n = texts locs level ts ds e h n
    text locs level (choice ts) (compound t ds) e (p, h) n = (same_count locs ts ds h ∙ ap length p, texts locs level ts ds e h n)
    text locs level (op o ts) (compound t ds) e (p, h) n =
        (subst (HasOperands o) (sym (same_count locs ts ds h)) (operands o (types_of ds) t p), texts locs level ts ds e h n)
    text locs level (case d t bs) (branching us u looked ds) e (p, q, h, k) (n, ns) = (
      text locs level t looked e h n,
      some_arm locs u bs (constructor_arguments th d us) ds (some_constructor th d us a p) k,
      arm_texts locs level d 0 u bs (constructor_arguments th d us) ds e (suits th d us p) k ns,
    )
    text locs level (bind t body) (binding u v given inner) e (h, p, k, q) (m, n, ns) =
        (m, text locs level t given e h n, text (u ∷ locs) (level + 1) body inner (omega (arith, e)) k ns)
    text locs level t d e h n = absurd h

    texts : (locs : List Ty) (level : ℕ) (ts : Trees) (ds : Typings) → length locs ≡ level → AreTypings th vars locs ts ds → HaveSmallNumbers level ts
        → HaveText th level ts
    texts locs level tree.none ds e h n = tt
    texts locs level (tree.more t ts) (more d ds) e (h, hs) (n, ns) = (text locs level t d e h n, texts locs level ts ds e hs ns)
    texts locs level (tree.more t ts) none e h n = absurd h

    arm_texts : (locs : List Ty) (level d at : ℕ) (u : Ty) (bs : Arms) (rest : List (List Ty)) (ds : ArmTypings) → length locs ≡ level
        → Suit th d at rest → AreArmTypings th vars locs u bs rest ds → ArmsHaveSmallNumbers level bs → ArmsHaveText th level d at bs
    arm_texts locs level d at u tree.end rest ds e s h n = tt
    arm_texts locs level d at u (tree.arm count body bs) (args ∷ rest) (arm ts inner ds) e (s, ss) (p, q, h, r, hs) (m, n, ns) =
        let size : length (reverse args ++ locs) ≡ level + count =
        let both = length-append (reverse args) locs in let turned = length-reverse args in omega (arith, both, turned, e, p) in (
          subst (IsBranch th d at) (sym p) s,
          m,
          text (reverse args ++ locs) (level + count) body inner size h n,
          arm_texts locs level d (at + 1) u bs rest ds e ss hs ns,
        )
    arm_texts locs level d at u (tree.arm count body bs) [] ds e s h n = absurd h
    arm_texts locs level d at u (tree.arm count body bs) (args ∷ rest) end e s h n = absurd h

  typed_texts : (locs : List Ty) (level : ℕ) (ts : Trees) (us : List Ty) → length locs ≡ level → AllTyped th vars locs ts us → HaveSmallNumbers level ts
      → HaveText th level ts
  typed_texts locs level tree.none us e h n = tt
  typed_texts locs level (tree.more t ts) (u ∷ us) e ((d, h, q), hs) (n, ns) = (text locs level t d e h n, typed_texts locs level ts us e hs ns)
  typed_texts locs level (tree.more t ts) [] e h n = absurd h

  some_term : (locs : List Ty) (ts : Trees) (us : List Ty) → 0 < length us → AllTyped th vars locs ts us → HasTerm ts
  some_term locs tree.none [] s h = absurd (omega (arith, s))
  some_term locs tree.none (u ∷ us) s h = absurd h
  some_term locs (tree.more t ts) us s h = tt

  formula_text : (locs : List Ty) (level : ℕ) (f : Formula) → 0 < length th.program.inputs → length locs ≡ level → IsWellFormed th vars locs f
      → FormulaHasSmallNumbers level f → FormulaHasText th level f
  formula_text locs level (atom t) i e (d, h, q) n = text locs level t d e h n
  formula_text locs level (both f g) i e (h, k) (n, m) = (formula_text locs level f i e h n, formula_text locs level g i e k m)
  formula_text locs level (implies f g) i e (h, k) (n, m) = (formula_text locs level f i e h n, formula_text locs level g i e k m)
  formula_text locs level (all t f) i e (c, h) n = (c, formula_text (t ∷ locs) (level + 1) f i (omega (arith, e)) h n)
  formula_text locs level (some t f) i e (c, h) n = (c, formula_text (t ∷ locs) (level + 1) f i (omega (arith, e)) h n)
  formula_text locs level (thyp f) i e h n = formula_text locs level f i e h n
  formula_text locs level (tested ts) i e h n = (some_term locs ts th.program.inputs i h, typed_texts locs level ts th.program.inputs e h n)
  formula_text locs level (deep k ts) i e h (m, n) = (m, some_term locs ts th.program.inputs i h, typed_texts locs level ts th.program.inputs e h n)

pub typed_has_text : (th : Theory) (vars locs : List Ty) (t : Tree) (u : Ty) → IsAccepted th → IsTyped th vars locs t u
    → HasSmallNumbers (length locs) t → HasText th (length locs) t
typed_has_text th vars locs t u a (d, h, q) n = text th vars a.well_typed locs (length locs) t d refl h n

pub well_formed_has_text : (th : Theory) (vars locs : List Ty) (f : Formula) → IsAccepted th → IsWellFormed th vars locs f
    → FormulaHasSmallNumbers (length locs) f → FormulaHasText th (length locs) f
well_formed_has_text th vars locs f a h n = formula_text th vars a.well_typed locs (length locs) f a.some_input refl h n
