-- What a typing tells of the calls and the branches in a term: functions are declared, and branches are of the datatype.
use Rattle.std.proofs.Common.{ℕ, zero, suc, ◌≡◌, ◌<◌, ◌≤◌, ◌+◌, ◌-◌, List, [], ◌∷◌, ◌++◌, map, reverse, length, Option, Some, None, refl, sym, ap, subst, inl, inr, arith}
use Rattle.std.specs.Prelude.{slice_get, option_map}
use Rattle.std.specs.Option.{option_map_or}
use Rattle.std.proofs.lemmas.Option.{slice_get_within}
use Rattle.tg_model.specs.Types.{Ty, nat}
use Rattle.tg_model.specs.Theory.{Theory, Datatype, Function, Owned, constructor_at, first_constructor, numbered, instance}
use Rattle.tg_model.specs.TermTyping.{Typing, Typings, ArmTypings, instanced, compound, branching, binding, none, more, end, arm}
use Rattle.tg_model.specs.Accepted.{IsAmong, AreDistinct}
use Rattle.tg_model.proofs.Numbering.{numbered_constructor}
use Rattle.tg_accept.specs.Resolved as resolved
use Rattle.tg_accept.specs.Resolved.{Head, zero_head, successor_head, of, Resolved, Resolveds, Branches, bound, free, literal, truth, con, call, own, misused, put, choice, case, bind, op, branch}
use Rattle.tg_accept.specs.ResolvedTyping.{head_at, IsTypingOf, AreTypingsOf, AreBranchTypings}
use Rattle.tg_accept.specs.Core.{heads_from, heads_of}
use Rattle.tg_accept.specs.Cases.{heads_in, EachCaseIn, EachCasesIn, EachBranchIn, AreOnce}

among_from : (a n c : ℕ) → a ≤ c → c < a + n → IsAmong (of c) (heads_from a n)
among_from a zero c low high = absurd (omega (arith, low, high))
among_from a (suc n) c low high = by (c - a) refl (λ after. among_from (suc a) n c after (omega (arith, high)))
  where
    by : (k : ℕ) → c - a ≡ k → (suc a ≤ c → IsAmong (of c) (heads_from (suc a) n)) → IsAmong (of c) (of a ∷ heads_from (suc a) n)
    by zero e rest = let q : c ≡ a = omega (arith, low, e) in inl (ap of q)
    by (suc k) e rest = inr (rest (omega (arith, low, e)))

-- a constructor is among those of its datatype
constructor_among : (th : Theory) (c : ℕ) (o : Owned) → constructor_at th c ≡ Some o → IsAmong (of c) (heads_of th o.datatype)
constructor_among th c o is =
    let n = numbered_constructor th c o is in
    let first = first_constructor th.datatypes (suc n.place) in
    let within = slice_get_within n.datatype.constructors (c - first) o.constructor n.constructor in
    let after = n.after in
    let here : IsAmong (of c) (heads_from first (length n.datatype.constructors)) = among_from first (length n.datatype.constructors) c after (omega (arith, after, within)) in
    let count : option_map_or (λ (x : Datatype). length x.constructors) (slice_get th.datatypes n.place) 0 ≡ length n.datatype.constructors =
    ap (λ d. option_map_or (λ (x : Datatype). length x.constructors) d 0) n.is in
    let all : IsAmong (of c) (heads_of th (suc n.place)) = subst (λ k. IsAmong (of c) (heads_from first k)) (sym count) here in
    subst (λ d. IsAmong (of c) (heads_of th d)) (sym n.number) all

first_same : (p q : ℕ × List Ty) → Some p ≡ Some q → p.0 ≡ q.0
first_same p q h = let r : p ≡ q = cc h in ap (λ (x : ℕ × List Ty). x.0) r

abbrev at_instance : List Ty → Owned → ℕ × List Ty
at_instance us o = (o.datatype, map (instance us) o.constructor.arguments)

owner_of : (th : Theory) (us ts : List Ty) (c n : ℕ) (q : Option Owned) → constructor_at th c ≡ q
    → option_map (at_instance us) q ≡ Some (n, ts) → IsAmong (of c) (heads_of th n)
owner_of th us ts c n None is e = cc e
owner_of th us ts c n (Some o) is e =
    let same : o.datatype ≡ n = first_same (o.datatype, map (instance us) o.constructor.arguments) (n, ts) e in
    subst (λ d. IsAmong (of c) (heads_of th d)) same (constructor_among th c o is)

pub head_among : (th : Theory) (us ts : List Ty) (h : Head) (n : ℕ) → head_at th us h ≡ Some (n, ts) → IsAmong h (heads_of th n)
head_among th us ts zero_head n e = let q : 0 ≡ n = first_same (0, []) (n, ts) e in subst (λ d. IsAmong zero_head (heads_of th d)) q (inl refl)
head_among th us ts successor_head n e = let q : 0 ≡ n = first_same (0, nat ∷ []) (n, ts) e in subst (λ d. IsAmong successor_head (heads_of th d)) q (inr (inl refl))
head_among th us ts (of c) n e = owner_of th us ts c n (constructor_at th c) refl e

abbrev pub AreAmong : List Head → List Head → Type 0
AreAmong [] hs = Unit {0}
AreAmong (k ∷ ks) hs = IsAmong k hs × AreAmong ks hs

-- each function is declared, and the branches of each `case` are different ones of its datatype
module _ (th : Theory) where
  abbrev mutual
    pub IsFit : Resolved → Type 0
    IsFit (call f ts) = (f ≤ length th.functions) × AreFit ts
    IsFit (own ts) = AreFit ts
    IsFit (con c ts) = AreFit ts
    IsFit (misused ts) = ⊥
    IsFit (put ts) = AreFit ts
    IsFit (choice ts) = AreFit ts
    IsFit (op o ts) = AreFit ts
    IsFit (case n t bs) = AreAmong (heads_in bs) (heads_of th n) × AreDistinct (heads_in bs) × IsFit t × BranchesFit bs
    IsFit (bind t body) = IsFit t × IsFit body
    IsFit t = Unit {0}

    pub AreFit : Resolveds → Type 0
    AreFit resolved.none = Unit {0}
    AreFit (resolved.more t ts) = IsFit t × AreFit ts

    pub BranchesFit : Branches → Type 0
    BranchesFit resolved.end = Unit {0}
    BranchesFit (branch head xs body bs) = IsFit body × BranchesFit bs

module _ (th : Theory) (self : Option Function) (ps vars : List Ty) where
  below : (f : ℕ) (x : Function) → numbered th.functions f ≡ Some x → f ≤ length th.functions
  below zero x e = cc e
  below (suc f) x e = let h = slice_get_within th.functions f x e in omega (arith, h)

  heads_among : (bs : Branches) (ds : ArmTypings) (n : ℕ) (us : List Ty) (u : Ty) (locs : List Ty) → AreBranchTypings th self ps vars locs n us u bs ds
      → AreAmong (heads_in bs) (heads_of th n)
  heads_among resolved.end ds n us u locs h = tt
  heads_among (branch head xs body bs) end n us u locs h = absurd h
  heads_among (branch head xs body bs) (arm ts d ds) n us u locs (at, long, p, q, others) =
      (head_among th us ts head n at, heads_among bs ds n us u locs others)

  mutual
    pub fit : (t : Resolved) (d : Typing) (locs : List Ty) → IsTypingOf th self ps vars locs t d → EachCaseIn AreOnce t → IsFit th t
    fit (bound k) d locs h w = tt
    fit (free n) d locs h w = tt
    fit (literal n) d locs h w = tt
    fit (truth b) d locs h w = tt
    fit (con c ts) (instanced us t ds) locs (o, is, n, q, args, each) w = all_fit ts ds locs each w
    fit (call f ts) (instanced us t ds) locs (y, is, n, q, args, each) w = (below f y is, all_fit ts ds locs each w)
    fit (own ts) (instanced us t ds) locs (y, is, same, q, args, each) w = all_fit ts ds locs each w
    fit (put ts) (compound t ds) locs (q, args, each) w = all_fit ts ds locs each w
    fit (choice ts) (compound t ds) locs (args, each) w = all_fit ts ds locs each w
    fit (op o ts) (compound t ds) locs (is, each) w = all_fit ts ds locs each w
    fit (bind t body) (binding u v d e) locs (p, q, b, s) w = (fit t d locs p w.0, fit body e (u ∷ locs) b w.1)
    fit (case n t bs) (branching us u d ds) locs (is, e, p, each) w =
        (heads_among bs ds n us u locs each, w.0, fit t d locs p w.1, branches_fit bs ds n us u locs each w.2)
    fit t d locs h w = absurd h

    all_fit : (ts : Resolveds) (ds : Typings) (locs : List Ty) → AreTypingsOf th self ps vars locs ts ds → EachCasesIn AreOnce ts → AreFit th ts
    all_fit resolved.none ds locs h w = tt
    all_fit (resolved.more t ts) none locs h w = absurd h
    all_fit (resolved.more t ts) (more d ds) locs h w = (fit t d locs h.0 w.0, all_fit ts ds locs h.1 w.1)

    branches_fit : (bs : Branches) (ds : ArmTypings) (n : ℕ) (us : List Ty) (u : Ty) (locs : List Ty) → AreBranchTypings th self ps vars locs n us u bs ds
        → EachBranchIn AreOnce bs → BranchesFit th bs
    branches_fit resolved.end ds n us u locs h w = tt
    branches_fit (branch head xs body bs) end n us u locs h w = absurd h
    branches_fit (branch head xs body bs) (arm ts d ds) n us u locs (at, long, p, q, others) w =
        (fit body d (reverse ts ++ locs) p w.0, branches_fit bs ds n us u locs others w.1)
