-- The core term of a typed resolved term is typed: its branches are put in the order of the constructors.
use Rattle.std.proofs.Common.{ℕ, ◌≡◌, Bool, true, false, List, [], ◌∷◌, ◌++◌, reverse, length, Option, Some, None, refl, sym, ◌∙◌, ap, subst, if◌then◌else◌}
use Rattle.std.proofs.lemmas.Bool.{eqb-true}
use Rattle.tg_model.specs.Types.{Ty}
use Rattle.tg_model.specs.Theory.{Theory, Function, numbered}
use Rattle.tg_model.specs.TermTyping.{Typing, Typings, ArmTypings, leaf, instanced, compound, branching, binding, none, more, end, arm, type_of, types_of, IsOperation, constructor_arguments, AreTypings, AreArmTypings, IsTyped}
use Rattle.tg_accept.specs.Resolved as resolved
use Rattle.tg_accept.specs.Resolved.{Head, zero_head, successor_head, of, Resolved, Resolveds, Branches, bound, free, literal, truth, con, call, own, misused, put, choice, case, bind, op, branch}
use Rattle.tg_accept.specs.ResolvedTyping.{head_at, IsTypingOf, AreTypingsOf, AreBranchTypings}
use Rattle.tg_accept.specs.Core.{same_head, heads_of, Written, branch_of, arranged, core, cores, written, has_branch, HasBranches, EachCaseWhole, EachCasesWhole, EachBranchWhole}
use Rattle.tg_accept.specs.Laws.{CoreIsTyped}
use Rattle.tg_accept.proofs.Aligned.{second, Aligned, aligned}

pub heads_same : (a b : Head) → same_head a b ≡ true → a ≡ b
heads_same zero_head zero_head e = refl
heads_same successor_head successor_head e = refl
heads_same (of c) (of d) e = ap of (eqb-true c d e)
heads_same zero_head successor_head e = cc
heads_same zero_head (of d) e = cc
heads_same successor_head zero_head e = cc
heads_same successor_head (of d) e = cc
heads_same (of c) zero_head e = cc
heads_same (of c) successor_head e = cc

abbrev is_found : List Written → Head → Bool
is_found [] h = false
is_found (w ∷ ws) h = if same_head w.head h then true else is_found ws h

module _ (th : Theory) (vars : List Ty) (n : ℕ) (us : List Ty) (u : Ty) (locs : List Ty) where
  -- a branch that a head of the datatype may stand for
  abbrev Fits : Head → Written → Type 0
  Fits h w = (ts : List Ty) × (head_at th us h ≡ Some (n, ts)) × (w.vars ≡ length ts) × IsTyped th vars (reverse ts ++ locs) w.body u

  abbrev AllFit : List Written → Type 0
  AllFit [] = Unit {0}
  AllFit (w ∷ ws) = Fits w.head w × AllFit ws

  fitting : (ws : List Written) (h : Head) → AllFit ws → is_found ws h ≡ true → Fits h (branch_of ws h)
  fitting [] h fit f = cc f
  fitting (w ∷ ws) h fit f = by (same_head w.head h) refl f (λ g. fitting ws h fit.1 g)
    where
      by : (b : Bool) → same_head w.head h ≡ b → (if b then true else is_found ws h) ≡ true → (is_found ws h ≡ true → Fits h (branch_of ws h))
          → Fits h (if b then w else branch_of ws h)
      by true e g next = subst (λ (k : Head). Fits k w) (heads_same w.head h e) fit.0
      by false e g next = next g

  abbrev AllFound : List Written → List Head → Type 0
  AllFound ws [] = Unit {0}
  AllFound ws (h ∷ hs) = (is_found ws h ≡ true) × AllFound ws hs

  arranged_typed : (ws : List Written) (hs : List Head) (args : List (List Ty)) → AllFit ws → AllFound ws hs → Aligned th us n hs args
      → (arms : ArmTypings) × AreArmTypings th vars locs u (arranged ws hs) args arms
  arranged_typed ws [] [] fit found a = (end, tt)
  arranged_typed ws [] (args ∷ rest) fit found a = absurd a
  arranged_typed ws (h ∷ hs) [] fit found a = absurd a
  arranged_typed ws (h ∷ hs) (args ∷ rest) fit found a =
      let f = fitting ws h fit found.0 in
      let same : f.0 ≡ args = second (n, f.0) (n, args) (sym f.1 ∙ a.0) in
      let body = subst (λ (ts : List Ty). IsTyped th vars (reverse ts ++ locs) (branch_of ws h).body u) same f.3 in
      let others = arranged_typed ws hs rest fit found.1 a.1 in
      (arm args body.0 others.0, (f.2 ∙ ap (λ (ts : List Ty). length ts) same, refl, body.1, body.2, others.1))

-- `by_itself` is the function that is being declared, where the term may call it
module _ (th : Theory) (self : ℕ) (by_itself : Option Function) (ps vars : List Ty)
    (is_self : (x : Function) → by_itself ≡ Some x → (numbered th.functions self ≡ Some x) × (length ps ≡ x.parameters)) where
  found_written : (h : Head) (bs : Branches) → is_found (written th self bs) h ≡ has_branch h bs
  found_written h resolved.end = refl
  found_written h (branch head xs body bs) = ap (λ b. if same_head head h then true else b) (found_written h bs)

  all_found : (n : ℕ) (us : List Ty) (u : Ty) (locs : List Ty) (hs : List Head) (bs : Branches) → HasBranches hs bs
      → AllFound th vars n us u locs (written th self bs) hs
  all_found n us u locs [] bs h = tt
  all_found n us u locs (k ∷ hs) bs h = (found_written k bs ∙ h.0, all_found n us u locs hs bs h.1)

  own_count : (y : Function) (us : List Ty) → by_itself ≡ Some y → us ≡ ps → (numbered th.functions self ≡ Some y) × (length us ≡ y.parameters)
  own_count y us e p = ((is_self y e).0, ap (λ (l : List Ty). length l) p ∙ (is_self y e).1)

  mutual
    pub typed : (t : Resolved) (d : Typing) (locs : List Ty) → IsTypingOf th by_itself ps vars locs t d → EachCaseWhole th t
        → IsTyped th vars locs (core th self t) (type_of d)
    typed (bound k) (leaf t) locs h w = (leaf t, h, refl)
    typed (free n) (leaf t) locs h w = (leaf t, h, refl)
    typed (literal n) (leaf t) locs h w = (leaf t, h, refl)
    typed (truth b) (leaf t) locs h w = (leaf t, h, refl)
    typed (con c ts) (instanced us t ds) locs (o, is, n, q, args, each) w =
        let p = all_typed ts ds locs each w in (instanced us t p.0, (o, is, n, q, p.2 ∙ args, p.1), refl)
    typed (call f ts) (instanced us t ds) locs (y, is, n, q, args, each) w =
        let p = all_typed ts ds locs each w in (instanced us t p.0, (y, is, n, q, p.2 ∙ args, p.1), refl)
    typed (own ts) (instanced us t ds) locs (y, is, same, q, args, each) w =
        let p = all_typed ts ds locs each w in
        let o = own_count y us is same in (instanced us t p.0, (y, o.0, o.1, q, p.2 ∙ args, p.1), refl)
    typed (put ts) (compound t ds) locs (q, args, each) w = let p = all_typed ts ds locs each w in (compound t p.0, (q, p.2 ∙ args, p.1), refl)
    typed (choice ts) (compound t ds) locs (args, each) w = let p = all_typed ts ds locs each w in (compound t p.0, (p.2 ∙ args, p.1), refl)
    typed (op o ts) (compound t ds) locs (is, each) w =
        let p = all_typed ts ds locs each w in (compound t p.0, (subst (λ (l : List Ty). IsOperation o l t) (sym p.2) is, p.1), refl)
    typed (bind t body) (binding u v d e) locs (p, q, b, s) w =
        let first = typed t d locs p w.0 in
        let inner = typed body e (u ∷ locs) b w.1 in
        (binding u v first.0 inner.0, (first.1, q ∙ sym first.2, inner.1, s ∙ sym inner.2), refl)
    typed (case n t bs) (branching us u d ds) locs (is, e, p, each) w =
        let scrutinee = typed t d locs p w.1 in
        let fit = all_fit bs ds n us u locs each w.2 in
        let arms = arranged_typed th vars n us u locs (written th self bs) (heads_of th n) (constructor_arguments th n us) fit
        (all_found n us u locs (heads_of th n) bs w.0) (aligned th n us is) in
        (branching us u scrutinee.0 arms.0, (is, scrutinee.2 ∙ e, scrutinee.1, arms.1), refl)
    typed t d locs h w = absurd h

    all_typed : (ts : Resolveds) (ds : Typings) (locs : List Ty) → AreTypingsOf th by_itself ps vars locs ts ds → EachCasesWhole th ts
        → (es : Typings) × AreTypings th vars locs (cores th self ts) es × (types_of es ≡ types_of ds)
    all_typed resolved.none none locs h w = (none, tt, refl)
    all_typed resolved.none (more d ds) locs h w = absurd h
    all_typed (resolved.more t ts) none locs h w = absurd h
    all_typed (resolved.more t ts) (more d ds) locs h w =
        let p = typed t d locs h.0 w.0 in
        let q = all_typed ts ds locs h.1 w.1 in
        (more p.0 q.0, (p.1, q.1), λ i. p.2 i ∷ q.2 i)

    all_fit : (bs : Branches) (ds : ArmTypings) (n : ℕ) (us : List Ty) (u : Ty) (locs : List Ty) → AreBranchTypings th by_itself ps vars locs n us u bs ds
        → EachBranchWhole th bs → AllFit th vars n us u locs (written th self bs)
    all_fit resolved.end ds n us u locs h w = tt
    all_fit (branch head xs body bs) end n us u locs h w = absurd h
    all_fit (branch head xs body bs) (arm ts d ds) n us u locs (at, long, p, q, others) w =
        let b = typed body d (reverse ts ++ locs) p w.0 in
        ((ts, at, long, (b.0, b.1, b.2 ∙ q)), all_fit bs ds n us u locs others w.1)

pub core_is_typed : CoreIsTyped
core_is_typed th self x ps vars locs t d is count h w =
    typed th self (Some x) ps vars (λ y e. let same : x ≡ y = cc e in (is ∙ e, count ∙ ap (λ (z : Function). z.parameters) same)) t d locs h w

-- the core term of a term in which no function is being declared
pub plain_is_typed : (th : Theory) (self : ℕ) (ps vars : List Ty) (t : Resolved) (d : Typing) → IsTypingOf th None ps vars [] t d → EachCaseWhole th t
    → IsTyped th vars [] (core th self t) (type_of d)
plain_is_typed th self ps vars t d h w = typed th self None ps vars (λ y e. cc e) t d [] h w
