-- A core term has the typings of the resolved term that it is embedded as.
use Rattle.std.proofs.Common.{ℕ, zero, suc, ◌≡◌, Bool, true, false, ◌&&◌, nat_eq, List, [], ◌∷◌, map, length, Option, Some, None, refl, sym, ◌∙◌, ap, subst, inl, inr, arith, if◌then◌else◌}
use Rattle.std.specs.Prelude.{slice_get, option_map}
use Rattle.std.specs.Option.{option_map_or}
use Rattle.std.proofs.lemmas.Bool.Decides.{eqb_tells}
use Rattle.tg_model.specs.Tree as tree
use Rattle.tg_model.specs.Tree.{Tree, Trees, Arms}
use Rattle.tg_model.specs.Types.{Ty}
use Rattle.tg_model.specs.Theory.{Theory, Datatype, Constructor, Function}
use Rattle.tg_model.specs.TermTyping.{Typing, Typings, ArmTypings, instanced, compound, branching, binding, none, more, end, arm, type_of, IsTyping}
use Rattle.tg_model.specs.TypeLaws.{AreBranchSizes, branch_sizes, EachCase, EachCases, EachCaseOf}
use Rattle.tg_model.proofs.Constructors.{cases_are_declared}
use Rattle.tg_model.proofs.Booleans.{and_left, and_right}
use Rattle.tg_accept.specs.Core.{heads_of, unnamed, resolved_again, all_resolved_again, branches_again}
use Rattle.tg_accept.specs.Resolved as resolved
use Rattle.tg_accept.specs.Resolved.{Head, Resolved}
use Rattle.tg_accept.specs.ResolvedTyping.{IsTypingOf, AreTypingsOf, AreBranchTypings}
use Rattle.tg_accept.proofs.Again.{resolved_again_typed, typed_again}
use Rattle.tg_accept.proofs.Aligned.{as_many}
use Rattle.tg_theory.specs.Embedded.{same_sizes, are_sizes, embedded, all_embedded, branches_embedded}

equal : (m n : ℕ) → nat_eq m n ≡ true → m ≡ n
equal m n e = elim (eqb_tells m n) [ inl p ↦ p.1 | inr p ↦ (let q : true ≡ false = sym e ∙ p.0 in cc q) ]

equal_self : (n : ℕ) → nat_eq n n ≡ true
equal_self n = elim (eqb_tells n n) [ inl p ↦ p.0 | inr p ↦ absurd (p.1 refl) ]

same_is : (ms ns : List ℕ) → same_sizes ms ns ≡ true → ns ≡ ms
same_is [] [] e = refl
same_is [] (n ∷ ns) e = cc e
same_is (m ∷ ms) [] e = cc e
same_is (m ∷ ms) (n ∷ ns) e =
    let first : n ≡ m = equal n m (and_left (nat_eq n m) (same_sizes ms ns) e) in
    let rest : ns ≡ ms = same_is ms ns (and_right (nat_eq n m) (same_sizes ms ns) e) in
    λ i. first i ∷ rest i

same_self : (ns : List ℕ) → same_sizes ns ns ≡ true
same_self [] = refl
same_self (n ∷ ns) = ap (λ b. b && same_sizes ns ns) (equal_self n) ∙ same_self ns

module _ (th : Theory) where
  sizes_are : (n : ℕ) (ns : List ℕ) → are_sizes th n ns ≡ true → AreBranchSizes th n ns
  sizes_are zero ns e = same_is (0 ∷ 1 ∷ []) ns e
  sizes_are (suc d) ns e = by (slice_get th.datatypes d) refl e
    where
      by : (o : Option Datatype) → slice_get th.datatypes d ≡ o
          → option_map_or (λ ms. same_sizes ms ns) (option_map (λ (x : Datatype). map (λ (c : Constructor). length c.arguments) x.constructors) o) false ≡ true
          → AreBranchSizes th (suc d) ns
      by None at e = cc e
      by (Some x) at e = (x, at, same_is (map (λ (c : Constructor). length c.arguments) x.constructors) ns e)

  are_size : (n : ℕ) (ns : List ℕ) → AreBranchSizes th n ns → are_sizes th n ns ≡ true
  are_size zero ns e = ap (same_sizes (0 ∷ 1 ∷ [])) e
  are_size (suc d) ns (x, at, e) =
      let ms = map (λ (c : Constructor). length c.arguments) x.constructors in
      ap (λ o. option_map_or (λ ms. same_sizes ms ns) (option_map (λ (x : Datatype). map (λ (c : Constructor). length c.arguments) x.constructors) o) false) at
      ∙ ap (same_sizes ms) e ∙ same_self ms

  mutual
    same : (t : Tree) → EachCase th t → embedded th t ≡ resolved_again th t
    same (tree.bound k) w = refl
    same (tree.free n) w = refl
    same (tree.literal n) w = refl
    same (tree.truth b) w = refl
    same (tree.con c ts) w = ap (resolved.con c) (all_same ts w)
    same (tree.call f ts) w = ap (resolved.call f) (all_same ts w)
    same (tree.put ts) w = ap resolved.put (all_same ts w)
    same (tree.choice ts) w = ap resolved.choice (all_same ts w)
    same (tree.op o ts) w = ap (resolved.op o) (all_same ts w)
    same (tree.bind t body) w = λ i. resolved.bind (same t w.0 i) (same body w.1 i)
    same (tree.case n t arms) w =
        ap (λ b. if b then resolved.case n (embedded th t) (branches_embedded th arms (heads_of th n)) else resolved.misused resolved.none)
        (are_size n (branch_sizes arms) w.0)
        ∙ (λ i. resolved.case n (same t w.1 i) (branches_same arms (heads_of th n) w.2 i))

    all_same : (ts : Trees) → EachCases th ts → all_embedded th ts ≡ all_resolved_again th ts
    all_same tree.none w = refl
    all_same (tree.more t ts) w = λ i. resolved.more (same t w.0 i) (all_same ts w.1 i)

    branches_same : (arms : Arms) (hs : List Head) → EachCaseOf th arms → branches_embedded th arms hs ≡ branches_again th arms hs
    branches_same tree.end hs w = refl
    branches_same (tree.arm n body arms) [] w = refl
    branches_same (tree.arm n body arms) (h ∷ hs) w = λ i. resolved.branch h (unnamed n) (same body w.0 i) (branches_same arms hs w.1 i)

  -- what a typing of an embedded `case` has
  record CaseParts (self : Option Function) (ps vars : List Ty) (n : ℕ) (t : Tree) (arms : Arms) (locs : List Ty) : Type 0 where
    sizes : AreBranchSizes th n (branch_sizes arms)
    typing : Typing
    is : IsTypingOf th self ps vars locs (embedded th t) typing
    instance : List Ty
    answer : Ty
    branches : ArmTypings
    are : AreBranchTypings th self ps vars locs n instance answer (branches_embedded th arms (heads_of th n)) branches

  case_parts : (self : Option Function) (ps vars : List Ty) (n : ℕ) (t : Tree) (arms : Arms) (d : Typing) (locs : List Ty)
      → IsTypingOf th self ps vars locs (embedded th (tree.case n t arms)) d → CaseParts self ps vars n t arms locs
  case_parts self ps vars n t arms d locs h = by (are_sizes th n (branch_sizes arms)) refl d h
    where
      by : (b : Bool) → are_sizes th n (branch_sizes arms) ≡ b → (d : Typing)
          → IsTypingOf th self ps vars locs (if b then resolved.case n (embedded th t) (branches_embedded th arms (heads_of th n)) else resolved.misused resolved.none) d
          → CaseParts self ps vars n t arms locs
      by false e d h = absurd h
      by true e (branching us u d ds) (is, q, p, each) =
          record { sizes = sizes_are n (branch_sizes arms) e; typing = d; is = p; instance = us; answer = u; branches = ds; are = each }
      by true e d h = absurd h

  module _ (self : Option Function) (ps vars : List Ty) where
    mutual
      whole : (t : Tree) (d : Typing) (locs : List Ty) → IsTypingOf th self ps vars locs (embedded th t) d → EachCase th t
      whole (tree.bound k) d locs h = tt
      whole (tree.free n) d locs h = tt
      whole (tree.literal n) d locs h = tt
      whole (tree.truth b) d locs h = tt
      whole (tree.con c ts) (instanced us t ds) locs (o, is, n, q, args, each) = all_whole ts ds locs each
      whole (tree.call f ts) (instanced us t ds) locs (x, is, n, q, args, each) = all_whole ts ds locs each
      whole (tree.put ts) (compound t ds) locs (q, args, each) = all_whole ts ds locs each
      whole (tree.choice ts) (compound t ds) locs (args, each) = all_whole ts ds locs each
      whole (tree.op o ts) (compound t ds) locs (is, each) = all_whole ts ds locs each
      whole (tree.bind t body) (binding u v d e) locs (p, q, b, s) = (whole t d locs p, whole body e (u ∷ locs) b)
      whole (tree.case n t arms) d locs h =
          let p = case_parts self ps vars n t arms d locs h in
          (p.sizes, whole t p.typing locs p.is, arms_whole arms (heads_of th n) p.branches n p.instance p.answer locs (as_many th n (branch_sizes arms) p.sizes) p.are)
      whole t d locs h = absurd h

      all_whole : (ts : Trees) (ds : Typings) (locs : List Ty) → AreTypingsOf th self ps vars locs (all_embedded th ts) ds → EachCases th ts
      all_whole tree.none ds locs h = tt
      all_whole (tree.more t ts) none locs h = absurd h
      all_whole (tree.more t ts) (more d ds) locs h = (whole t d locs h.0, all_whole ts ds locs h.1)

      arms_whole : (arms : Arms) (hs : List Head) (ds : ArmTypings) (n : ℕ) (us : List Ty) (u : Ty) (locs : List Ty) → length (branch_sizes arms) ≡ length hs
          → AreBranchTypings th self ps vars locs n us u (branches_embedded th arms hs) ds → EachCaseOf th arms
      arms_whole tree.end hs ds n us u locs even h = tt
      arms_whole (tree.arm k body arms) [] ds n us u locs even h = cc even
      arms_whole (tree.arm k body arms) (x ∷ hs) end n us u locs even h = absurd h
      arms_whole (tree.arm k body arms) (x ∷ hs) (arm ts d ds) n us u locs even (q, m, p, e, rest) =
          (whole body d _ p, arms_whole arms hs ds n us u locs (let l : length (branch_sizes arms) ≡ length hs = omega (arith, even) in l) rest)

pub embedded_typed : (th : Theory) (self : Option Function) (ps vars locs : List Ty) (t : Tree) (d : Typing)
    → IsTyping th vars locs t d → IsTypingOf th self ps vars locs (embedded th t) d
embedded_typed th self ps vars locs t d h =
    let w = cases_are_declared th vars locs t (type_of d) (d, h, refl) in
    subst (λ r. IsTypingOf th self ps vars locs r d) (sym (same th t w)) (resolved_again_typed th self ps vars locs t d h)

pub typed_embedded : (th : Theory) (self : Option Function) (ps vars locs : List Ty) (t : Tree) (d : Typing)
    → IsTypingOf th self ps vars locs (embedded th t) d → IsTyping th vars locs t d
typed_embedded th self ps vars locs t d h =
    let w = whole th self ps vars t d locs h in
    typed_again th self ps vars locs t d w (subst (λ r. IsTypingOf th self ps vars locs r d) (same th t w) h)
