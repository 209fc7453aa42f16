-- What counts of typings say of terms and formulas.
use Rattle.std.proofs.Common.{ℕ, zero, suc, ◌≡◌, ◌≤◌, ◌+◌, ◌↔◌, Bool, true, false, List, [], ◌∷◌, ◌++◌, map, reverse, length, drop, Some, None, refl, sym, ◌∙◌, ap, subst, arith}
use Rattle.std.proofs.Math.Path.{transport}
use Rattle.std.specs.Prelude.{slice_get, unwrap_or}
use Rattle.std.proofs.lemmas.List.{append-nil, map-append, reverse-append, drop_all}
use Rattle.tg_model.specs.Tree as tree
use Rattle.tg_model.specs.Tree.{Tree, Trees, trees}
use Rattle.tg_model.specs.Formula.{Formula, atom, both, implies, all, some, thyp, tested, deep}
use Rattle.tg_model.specs.Types.{Ty, bool, tys}
use Rattle.tg_model.specs.Theory.{Theory, IsClosed, AreClosed}
use Rattle.tg_model.specs.TermTyping.{Typing, IsTyped, AllTyped, IsWellFormed}
use Rattle.tg_accept.specs.Declared.{Declared, theory, no_program}
use Rattle.tg_declarations.specs.declared.definitions.ProgDef.{ProgDef}
use Rattle.tg_declarations.specs.View.{program}
use Rattle.tg_accept.specs.Kept.{IsKept}
use Rattle.tg_accept.specs.Laws.{Widens}
use Rattle.tg_accept.proofs.CoreWidening.{term_widened}
use Rattle.tg_accept.proofs.KeptTypes.{closed_widened}
use Rattle.tg_types.specs.declared.types.Ty as declared
use Rattle.tg_types.specs.Types.{ty, types}
use Rattle.tg_term.proofs.PartLaws.{drop_at}
use Rattle.tg_shared_types.specs.Growth.{IsDeclared, AreDeclared}
use Rattle.tg_theory.specs.Typed.{has_typing, is_declared, are_declared, is_closed, IsTypedAt, IsFormedIn}
use Rattle.tg_theory.proofs.ClosedTypes.{declared_if, all_declared_if, is_declared_yes, are_declared_yes, closed_if, is_closed_yes, closed_declared, all_closed_declared}
use Rattle.tg_typing.specs.Contexts.{HasClosedTypes}
use Rattle.tg_typing.specs.declared.typings.Typings.{Typings}
use Rattle.tg_typing.specs.declared.typings.Typings.TheVariants as typings
use Rattle.tg_typing.specs.Answers.{Counts, IsTypingAt}
use Rattle.tg_typing.proofs.ClosedTypes.{kept_types_are_closed}
use Rattle.tg_accept.specs.Resolved.{Resolved}
use Rattle.tg_theory.specs.Embedded.{embedded}
use Rattle.tg_theory.proofs.EmbeddingLaws.{embedded_typed, typed_embedded}

pub closed_types : (D : Declared) → IsKept D → HasClosedTypes (theory [] D) None
closed_types D kept = kept_types_are_closed D None kept (λ x e. cc e)

-- ---- terms

module _ (D : Declared) (vars locs : List declared.Ty) (t : Tree) (u : Ty) where
  abbrev pub Has : Type 0
  Has = IsTyped (theory [] D) (map ty vars) (reverse (map ty locs)) t u

  back : (d : Typing) → IsTypingAt (theory [] D) None vars locs (embedded (theory [] D) t) u d → Has
  back d w = (d, typed_embedded (theory [] D) None [] (map ty vars) (reverse (map ty locs)) t d w.0, w.1)

  there : (h : Has) → IsTypingAt (theory [] D) None vars locs (embedded (theory [] D) t) u h.0
  there (d, w, e) = (embedded_typed (theory [] D) None [] (map ty vars) (reverse (map ty locs)) t d w, e)

  module _ (r : Resolved) (same : r ≡ embedded (theory [] D) t) where
    abbrev Told : Typings → Type 0
    Told n = Counts (IsTypingAt (theory [] D) None vars locs r u) n

    pub has_told : (n : Typings) → Told n → (has_typing n ≡ true) ↔ Has
    has_told typings.None h = ((λ e. cc e), (λ w. absurd (h w.0 (subst (λ x. IsTypingAt (theory [] D) None vars locs x u w.0) (sym same) (there w)))))
    has_told typings.One h = ((λ e. back h.typing (subst (λ x. IsTypingAt (theory [] D) None vars locs x u h.typing) same h.is)), (λ w. refl))
    has_told typings.Several h = ((λ e. back h.typing (subst (λ x. IsTypingAt (theory [] D) None vars locs x u h.typing) same h.is)), (λ w. refl))

-- ---- the theory's name doesn't matter

module _ (D : Declared) (x y : List ℕ) where
  same_declared : Widens (theory x D) (theory y D)
  same_declared = record { more_datatypes = []; more_functions = []; datatypes = sym (append-nil D.datatypes); functions = sym (append-nil D.functions) }

  pub typed_named : (vars locs : List Ty) (t : Tree) (u : Ty) → IsTyped (theory x D) vars locs t u → IsTyped (theory y D) vars locs t u
  typed_named vars locs t u (d, w, e) = (d, term_widened (theory x D) (theory y D) same_declared vars t d locs (λ q. refl) w, e)

  pub all_typed_named : (vars locs : List Ty) (ts : Trees) (us : List Ty) → AllTyped (theory x D) vars locs ts us → AllTyped (theory y D) vars locs ts us
  all_typed_named vars locs tree.none [] h = tt
  all_typed_named vars locs tree.none (u ∷ us) h = absurd h
  all_typed_named vars locs (tree.more t ts) [] h = absurd h
  all_typed_named vars locs (tree.more t ts) (u ∷ us) h = (typed_named vars locs t u h.0, all_typed_named vars locs ts us h.1)

  pub formed_named : (vars locs : List Ty) (f : Formula) → IsWellFormed (theory x D) vars locs f → IsWellFormed (theory y D) vars locs f
  formed_named vars locs (atom t) h = typed_named vars locs t bool h
  formed_named vars locs (both f g) h = (formed_named vars locs f h.0, formed_named vars locs g h.1)
  formed_named vars locs (implies f g) h = (formed_named vars locs f h.0, formed_named vars locs g h.1)
  formed_named vars locs (all t f) h = (closed_widened (theory x D) (theory y D) same_declared t h.0, formed_named vars (t ∷ locs) f h.1)
  formed_named vars locs (some t f) h = (closed_widened (theory x D) (theory y D) same_declared t h.0, formed_named vars (t ∷ locs) f h.1)
  formed_named vars locs (thyp f) h = formed_named vars locs f h
  formed_named vars locs (tested ts) h = all_typed_named vars locs ts (theory [] D).program.inputs h
  formed_named vars locs (deep k ts) h = all_typed_named vars locs ts (theory [] D).program.inputs h

-- ---- answers

pub no_vars : (th : Theory) (vars : List declared.Ty) (t : Tree) (u : declared.Ty) → are_declared (types vars) ≡ false → (false ≡ true) ↔ IsTypedAt th vars t u
no_vars th vars t u e = ((λ q. cc q), (λ h. let q : true ≡ false = sym (are_declared_yes (types vars) h.variables) ∙ e in cc q))

pub no_type : (th : Theory) (vars : List declared.Ty) (t : Tree) (u : declared.Ty) → is_declared (ty u) ≡ false → (false ≡ true) ↔ IsTypedAt th vars t u
no_type th vars t u e = ((λ q. cc q), (λ h. let q : true ≡ false = sym (is_declared_yes (ty u) h.type) ∙ e in cc q))

pub typed_as : (th : Theory) (x : List ℕ) (D : Declared) (vars : List declared.Ty) (t : Tree) (u : declared.Ty) (answer : Bool) → theory x D ≡ th
    → are_declared (types vars) ≡ true → is_declared (ty u) ≡ true → (answer ≡ true) ↔ IsTyped (theory [] D) (map ty vars) [] t (ty u) → (answer ≡ true) ↔ IsTypedAt th vars t u
typed_as th x D vars t u answer same e f h =
    subst (λ w. (answer ≡ true) ↔ IsTypedAt w vars t u) same (
      (λ q. record { variables = all_declared_if (types vars) e; type = declared_if (ty u) f; typed = typed_named D [] x (map ty vars) [] t (ty u) (h.0 q) }),
      (λ w. h.1 (typed_named D x [] (map ty vars) [] t (ty u) w.typed)),
    )

pub no_formula_vars : (th : Theory) (vars : List declared.Ty) (f : Formula) → are_declared (types vars) ≡ false → (false ≡ true) ↔ IsFormedIn th vars f
no_formula_vars th vars f e = ((λ q. cc q), (λ h. let q : true ≡ false = sym (are_declared_yes (types vars) h.variables) ∙ e in cc q))

pub formed_as : (th : Theory) (x : List ℕ) (D : Declared) (vars : List declared.Ty) (f : Formula) (answer : Bool) → theory x D ≡ th
    → are_declared (types vars) ≡ true → (answer ≡ true) ↔ IsWellFormed (theory [] D) (map ty vars) [] f → (answer ≡ true) ↔ IsFormedIn th vars f
formed_as th x D vars f answer same e h =
    subst (λ w. (answer ≡ true) ↔ IsFormedIn w vars f) same (
      (λ q. record { variables = all_declared_if (types vars) e; formed = formed_named D [] x (map ty vars) [] f (h.0 q) }),
      (λ w. h.1 (formed_named D x [] (map ty vars) [] f w.formed)),
    )

-- ---- lists of terms

declared_there : (ts : List declared.Ty) (i : ℕ) (t : declared.Ty) → AreDeclared (types ts) → slice_get ts i ≡ Some t → IsDeclared (ty t)
declared_there [] i t h e = cc e
declared_there (u ∷ ts) zero t h e = subst (λ w. IsDeclared (ty w)) (let q : u ≡ t = cc e in q) h.0
declared_there (u ∷ ts) (suc i) t h e = declared_there ts i t h.1 e

pub declared_at : (ts : List declared.Ty) (i : ℕ) (t : declared.Ty) → AreDeclared (types ts) → slice_get ts i ≡ Some t → IsDeclared (ty t)
declared_at ts i t h e = declared_there ts i t h e

pub declared_last : (ts : List declared.Ty) (t : declared.Ty) → AreDeclared (types ts) → IsDeclared (ty t) → AreDeclared (types (ts ++ t ∷ []))
declared_last [] t h p = (p, tt)
declared_last (u ∷ ts) t h p = (h.0, declared_last ts t h.1 p)

module _ (th : Theory) (vars locs : List Ty) where
  abbrev Are : List Tree → List declared.Ty → Type 0
  Are ts us = AllTyped th vars locs (trees ts) (map ty us)

  pub uneven : (ts : List Tree) (us : List declared.Ty) → ¬ (length ts ≡ length us) → (false ≡ true) ↔ Are ts us
  uneven ts us e = ((λ q. cc q), (λ h. absurd (e (even ts us h))))
    where
      even : (ts : List Tree) (us : List declared.Ty) → AllTyped th vars locs (trees ts) (map ty us) → length ts ≡ length us
      even [] [] h = refl
      even [] (u ∷ us) h = absurd h
      even (t ∷ ts) [] h = absurd h
      even (t ∷ ts) (u ∷ us) h = ap suc (even ts us h.1)

  pub typed_next : (ts : List Tree) (us : List declared.Ty) (i : ℕ) (t : Tree) (u : declared.Ty) (Whole : Type 0) → slice_get ts i ≡ Some t → slice_get us i ≡ Some u
      → IsTyped th vars locs t (ty u) → Are (drop i ts) (drop i us) ↔ Whole → Are (drop (i + 1) ts) (drop (i + 1) us) ↔ Whole
  typed_next ts us i t u Whole e f typed h =
      let next : i + 1 ≡ suc i = omega arith in
      let whole : Are (drop i ts) (drop i us) ≡ Are (t ∷ drop (i + 1) ts) (u ∷ drop (i + 1) us) =
      (λ j. Are ((drop_at ts i t e ∙ ap (λ n. t ∷ drop n ts) (sym next)) j) ((drop_at us i u f ∙ ap (λ n. u ∷ drop n us) (sym next)) j)) in
      ((λ rest. h.0 (transport (sym whole) (typed, rest))), (λ w. (transport whole (h.1 w)).1))

  pub not_typed : (ts : List Tree) (us : List declared.Ty) (i : ℕ) (t : Tree) (u : declared.Ty) (Whole : Type 0) → slice_get ts i ≡ Some t → slice_get us i ≡ Some u
      → (IsTyped th vars locs t (ty u) → ⊥) → Are (drop i ts) (drop i us) ↔ Whole → (false ≡ true) ↔ Whole
  not_typed ts us i t u Whole e f typed h =
      let whole : Are (drop i ts) (drop i us) ≡ Are (t ∷ drop (suc i) ts) (u ∷ drop (suc i) us) = (λ j. Are (drop_at ts i t e j) (drop_at us i u f j)) in
      ((λ q. cc q), (λ w. absurd (typed (transport whole (h.1 w)).0)))

  pub all_typed : (ts : List Tree) (us : List declared.Ty) (i : ℕ) (Whole : Type 0) → length ts ≤ i → length ts ≡ length us
      → Are (drop i ts) (drop i us) ↔ Whole → (true ≡ true) ↔ Whole
  all_typed ts us i Whole past even h =
      let none : Are [] [] ≡ Are (drop i ts) (drop i us) = (λ j. Are (sym (drop_all i ts past) j) (sym (drop_all i us (omega (arith, past, even))) j)) in
      ((λ q. h.0 (transport none tt)), (λ w. refl))

-- ---- quantifiers

pub not_closed : (th : Theory) (t : Ty) (P : Type 0) → is_closed th t ≡ false → (false ≡ true) ↔ (IsClosed th t × P)
not_closed th t P e = ((λ q. cc q), (λ h. let q : true ≡ false = sym (is_closed_yes th t h.0) ∙ e in cc q))

pub under : (D : Declared) (vars locs : List declared.Ty) (t u : declared.Ty) (f : Formula) (answer : Bool) → u ≡ t → is_closed (theory [] D) (ty t) ≡ true
    → (answer ≡ true) ↔ IsWellFormed (theory [] D) (map ty vars) (reverse (map ty (locs ++ u ∷ []))) f
    → (answer ≡ true) ↔ (IsClosed (theory [] D) (ty t) × IsWellFormed (theory [] D) (map ty vars) (ty t ∷ reverse (map ty locs)) f)
under D vars locs t u f answer same closed h =
    let order : reverse (map ty (locs ++ u ∷ [])) ≡ ty t ∷ reverse (map ty locs) =
    ap reverse (map-append ty locs (u ∷ [])) ∙ reverse-append (map ty locs) (ty u ∷ []) ∙ ap (λ w. ty w ∷ reverse (map ty locs)) same in (
      (λ q. (closed_if (theory [] D) (ty t) closed, subst (λ l. IsWellFormed (theory [] D) (map ty vars) l f) order (h.0 q))),
      (λ w. h.1 (subst (λ l. IsWellFormed (theory [] D) (map ty vars) l f) (sym order) w.1)),
    )

pub under_declared : (D : Declared) (locs more : List declared.Ty) (t u : declared.Ty) → more ≡ locs ++ u ∷ [] → u ≡ t → AreDeclared (types locs)
    → is_closed (theory [] D) (ty t) ≡ true → AreDeclared (types more)
under_declared D locs more t u e same h closed =
    subst (λ l. AreDeclared (types l)) (sym e)
    (declared_last locs u h (subst (λ w. IsDeclared (ty w)) (sym same) (closed_declared (theory [] D) (ty t) (closed_if (theory [] D) (ty t) closed))))

pub ruleset forming = (under_declared, not_closed)

-- ---- inputs

pub inputs_declared : (D : Declared) (def : ProgDef) (us : List declared.Ty) → IsKept D → Some (program def) ≡ D.program → us ≡ def.inputs → AreDeclared (types us)
inputs_declared D def us kept e same =
    let closed : AreClosed (theory [] D) (tys (program def).inputs) = (kept.program (program def) (sym e)).inputs in
    subst (λ l. AreDeclared (types l)) (sym same) (all_closed_declared (theory [] D) (types def.inputs) closed)

pub program_inputs : (D : Declared) (def : ProgDef) → Some (program def) ≡ D.program → map ty def.inputs ≡ (theory [] D).program.inputs
program_inputs D def e = ap (λ o. (unwrap_or o no_program).inputs) e

pub no_inputs : (D : Declared) → None ≡ D.program → map ty [] ≡ (theory [] D).program.inputs
no_inputs D e = ap (λ o. (unwrap_or o no_program).inputs) e

pub ruleset inputs = (inputs_declared)
