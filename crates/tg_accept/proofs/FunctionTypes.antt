-- The core term of an equation's right side is typed in the theory that has the function too, and uses it at its own parameters.
use Rattle.std.proofs.Common.{ℕ, zero, suc, ◌≡◌, Bool, true, false, List, [], ◌∷◌, ◌++◌, map, reverse, length, Some, refl, sym, ◌∙◌, ap, subst, if◌then◌else◌, arith}
use Rattle.std.proofs.lemmas.Option.{slice_get_within}
use Rattle.std.specs.Prelude.{slice_get}
use Rattle.tg_model.specs.Tree.{Tree}
use Rattle.tg_model.specs.Types.{Ty}
use Rattle.tg_model.specs.Theory.{Theory, Function, Body, numbered, instance}
use Rattle.tg_model.specs.TermTyping.{Typing, Typings, ArmTypings, leaf, instanced, compound, branching, binding, none, more, end, arm, type_of, types_of, IsOperation, constructor_arguments, IsTyping, AreTypings, AreArmTypings}
use Rattle.tg_model.specs.Accepted.{UsesAt, AllUseAt, ArmsUseAt}
use Rattle.tg_accept.specs.Declared.{Declared, theory, with_function}
use Rattle.tg_accept.specs.Resolved as resolved
use Rattle.tg_accept.specs.Resolved.{Head, zero_head, successor_head, of, Resolved, Resolveds, Branches, bound, free, literal, truth, con, call, own, misused, put, choice, case, bind, op, branch}
use Rattle.tg_accept.specs.ResolvedTyping.{head_at, IsTypingOf, AreTypingsOf, AreBranchTypings}
use Rattle.tg_accept.specs.Core.{same_head, heads_of, Written, branch_of, arranged, core, cores, written, has_branch, HasBranches, EachCaseWhole, EachCasesWhole, EachBranchWhole}
use Rattle.tg_accept.proofs.Aligned.{second, Aligned, aligned}
use Rattle.tg_accept.proofs.Widening.{front_numbered}
use Rattle.tg_accept.proofs.CoreTypes.{heads_same}

abbrev is_found : List Written → Head → Bool
is_found [] h = false
is_found (w ∷ ws) h = if same_head w.head h then true else is_found ws h

-- typed so that the function of number `self` is used at the types `ps`
abbrev pub IsUsed : Theory → ℕ → List Ty → List Ty → List Ty → Tree → Ty → Type 0
IsUsed th self ps vars locs t u = (d : Typing) × IsTyping th vars locs t d × (type_of d ≡ u) × UsesAt self ps t d

module _ (th : Theory) (self : ℕ) (ps vars : List Ty) (n : ℕ) (us : List Ty) (u : Ty) (locs : List Ty) where
  -- a branch that a head of the datatype may stand for
  abbrev Fits : Head → Written → Type 0
  Fits h w = (ts : List Ty) × (head_at th us h ≡ Some (n, ts)) × (w.vars ≡ length ts) × IsUsed th self ps vars (reverse ts ++ locs) w.body u

  abbrev AllFit : List Written → Type 0
  AllFit [] = Unit {0}
  AllFit (w ∷ ws) = Fits w.head w × AllFit ws

  fitting : (ws : List Written) (h : Head) → AllFit ws → is_found ws h ≡ true → Fits h (branch_of ws h)
  fitting [] h fit f = cc f
  fitting (w ∷ ws) h fit f = by (same_head w.head h) refl f (λ g. fitting ws h fit.1 g)
    where
      by : (b : Bool) → same_head w.head h ≡ b → (if b then true else is_found ws h) ≡ true → (is_found ws h ≡ true → Fits h (branch_of ws h))
          → Fits h (if b then w else branch_of ws h)
      by true e g next = subst (λ (k : Head). Fits k w) (heads_same w.head h e) fit.0
      by false e g next = next g

  abbrev AllFound : List Written → List Head → Type 0
  AllFound ws [] = Unit {0}
  AllFound ws (h ∷ hs) = (is_found ws h ≡ true) × AllFound ws hs

  arranged_typed : (ws : List Written) (hs : List Head) (args : List (List Ty)) → AllFit ws → AllFound ws hs → Aligned th us n hs args
      → (arms : ArmTypings) × AreArmTypings th vars locs u (arranged ws hs) args arms × ArmsUseAt self ps (arranged ws hs) arms
  arranged_typed ws [] [] fit found a = (end, tt, tt)
  arranged_typed ws [] (args ∷ rest) fit found a = absurd a
  arranged_typed ws (h ∷ hs) [] fit found a = absurd a
  arranged_typed ws (h ∷ hs) (args ∷ rest) fit found a =
      let f = fitting ws h fit found.0 in
      let same : f.0 ≡ args = second (n, f.0) (n, args) (sym f.1 ∙ a.0) in
      let body = subst (λ (ts : List Ty). IsUsed th self ps vars (reverse ts ++ locs) (branch_of ws h).body u) same f.3 in
      let others = arranged_typed ws hs rest fit found.1 a.1 in
      (arm args body.0 others.0, (f.2 ∙ ap (λ (ts : List Ty). length ts) same, refl, body.1, body.2, others.1), (body.3, others.2))

-- where an item stands that is put behind a list
last : {A : Type 0} (xs : List A) (x : A) → slice_get (xs ++ x ∷ []) (length xs) ≡ Some x
last [] x = refl
last (y ∷ xs) x = last xs x

-- `f` is the function as it is declared, and `b` its body
module _ (D : Declared) (f : Function) (b : Body) (ps vars : List Ty) (count : length ps ≡ f.parameters) where
  abbrev whole : Function
  whole = record f { body = b }

  abbrev th : Theory
  th = theory [] D

  abbrev wide : Theory
  wide = theory [] (with_function D whole)

  abbrev self : ℕ
  self = suc (length D.functions)

  found_written : (h : Head) (bs : Branches) → is_found (written th self bs) h ≡ has_branch h bs
  found_written h resolved.end = refl
  found_written h (branch head xs body bs) = ap (λ b. if same_head head h then true else b) (found_written h bs)

  all_found : (n : ℕ) (us : List Ty) (u : Ty) (locs : List Ty) (hs : List Head) (bs : Branches) → HasBranches hs bs
      → AllFound wide self ps vars n us u locs (written th self bs) hs
  all_found n us u locs [] bs h = tt
  all_found n us u locs (k ∷ hs) bs h = (found_written k bs ∙ h.0, all_found n us u locs hs bs h.1)

  -- an earlier function has another number
  earlier : (g : ℕ) (y : Function) → numbered D.functions g ≡ Some y → g ≡ self → ⊥
  earlier zero y e q = cc q
  earlier (suc g) y e q = let h = slice_get_within D.functions g y e in omega (arith, h, q)

  mutual
    pub used : (t : Resolved) (d : Typing) (locs : List Ty) → IsTypingOf th (Some f) ps vars locs t d → EachCaseWhole th t
        → IsUsed wide self ps vars locs (core th self t) (type_of d)
    used (bound k) (leaf t) locs h w = (leaf t, h, refl, tt)
    used (free n) (leaf t) locs h w = (leaf t, h, refl, tt)
    used (literal n) (leaf t) locs h w = (leaf t, h, refl, tt)
    used (truth b) (leaf t) locs h w = (leaf t, h, refl, tt)
    used (con c ts) (instanced us t ds) locs (o, is, n, q, args, each) w =
        let p = all_used ts ds locs each w in (instanced us t p.0, (o, is, n, q, p.2 ∙ args, p.1), refl, p.3)
    used (call g ts) (instanced us t ds) locs (y, is, n, q, args, each) w =
        let p = all_used ts ds locs each w in
        (instanced us t p.0, (y, front_numbered D.functions (whole ∷ []) g y is, n, q, p.2 ∙ args, p.1), refl, (λ e. absurd (earlier g y is e), p.3))
    used (own ts) (instanced us t ds) locs (y, is, same, q, args, each) w =
        let p = all_used ts ds locs each w in
        let e : f ≡ y = cc is in
        let shown : (length us ≡ f.parameters) = ap (λ (l : List Ty). length l) same ∙ count in (
          instanced us t p.0,
          (whole, last D.functions whole, shown, q ∙ ap (λ (z : Function). instance us z.answer) (sym e), p.2 ∙ (args ∙ ap (λ (z : Function). map (instance us) z.arguments) (sym e)), p.1),
          refl,
          (λ r. same, p.3),
        )
    used (put ts) (compound t ds) locs (q, args, each) w =
        let p = all_used ts ds locs each w in (compound t p.0, (q, p.2 ∙ args, p.1), refl, p.3)
    used (choice ts) (compound t ds) locs (args, each) w = let p = all_used ts ds locs each w in (compound t p.0, (p.2 ∙ args, p.1), refl, p.3)
    used (op o ts) (compound t ds) locs (is, each) w =
        let p = all_used ts ds locs each w in (compound t p.0, (subst (λ (l : List Ty). IsOperation o l t) (sym p.2) is, p.1), refl, p.3)
    used (bind t body) (binding u v d e) locs (p, q, b, s) w =
        let first = used t d locs p w.0 in
        let inner = used body e (u ∷ locs) b w.1 in
        (binding u v first.0 inner.0, (first.1, q ∙ sym first.2, inner.1, s ∙ sym inner.2), refl, (first.3, inner.3))
    used (case n t bs) (branching us u d ds) locs (is, e, p, each) w =
        let scrutinee = used t d locs p w.1 in
        let fit = all_fit bs ds n us u locs each w.2 in
        let arms = arranged_typed wide self ps vars n us u locs (written th self bs) (heads_of th n) (constructor_arguments th n us) fit
        (all_found n us u locs (heads_of th n) bs w.0) (aligned th n us is) in
        (branching us u scrutinee.0 arms.0, (is, scrutinee.2 ∙ e, scrutinee.1, arms.1), refl, (scrutinee.3, arms.2))
    used t d locs h w = absurd h

    all_used : (ts : Resolveds) (ds : Typings) (locs : List Ty) → AreTypingsOf th (Some f) ps vars locs ts ds → EachCasesWhole th ts
        → (es : Typings) × AreTypings wide vars locs (cores th self ts) es × (types_of es ≡ types_of ds) × AllUseAt self ps (cores th self ts) es
    all_used resolved.none none locs h w = (none, tt, refl, tt)
    all_used resolved.none (more d ds) locs h w = absurd h
    all_used (resolved.more t ts) none locs h w = absurd h
    all_used (resolved.more t ts) (more d ds) locs h w =
        let p = used t d locs h.0 w.0 in
        let q = all_used ts ds locs h.1 w.1 in
        (more p.0 q.0, (p.1, q.1), (λ i. p.2 i ∷ q.2 i), (p.3, q.3))

    all_fit : (bs : Branches) (ds : ArmTypings) (n : ℕ) (us : List Ty) (u : Ty) (locs : List Ty) → AreBranchTypings th (Some f) ps vars locs n us u bs ds
        → EachBranchWhole th bs → AllFit wide self ps vars n us u locs (written th self bs)
    all_fit resolved.end ds n us u locs h w = tt
    all_fit (branch head xs body bs) end n us u locs h w = absurd h
    all_fit (branch head xs body bs) (arm ts d ds) n us u locs (at, long, p, q, others) w =
        let b = used body d (reverse ts ++ locs) p w.0 in
        ((ts, at, long, (b.0, b.1, b.2 ∙ q, b.3)), all_fit bs ds n us u locs others w.1)
