-- A core term and the resolved term that it is have the same typings.
use Rattle.std.proofs.Common.{ℕ, zero, suc, ◌≡◌, List, [], ◌∷◌, ◌++◌, reverse, length, Option, Some, refl, sym, ◌∙◌, ap, subst}
use Rattle.tg_model.specs.Tree as tree
use Rattle.tg_model.specs.Tree.{Tree, Trees, Arms}
use Rattle.tg_model.specs.Types.{Ty}
use Rattle.tg_model.specs.Theory.{Theory, Function}
use Rattle.tg_model.specs.TermTyping.{Typing, Typings, ArmTypings, leaf, instanced, compound, branching, binding, none, more, end, arm, constructor_arguments, IsTyping, AreTypings, AreArmTypings}
use Rattle.tg_model.specs.TypeLaws.{branch_sizes, EachCase, EachCases, EachCaseOf}
use Rattle.tg_accept.specs.Resolved.{Head}
use Rattle.tg_accept.specs.ResolvedTyping.{IsTypingOf, AreTypingsOf, AreBranchTypings}
use Rattle.tg_accept.specs.Core.{heads_of, unnamed, resolved_again, all_resolved_again, branches_again}
use Rattle.tg_accept.specs.Laws.{ResolvedAgain, TypedAgain}
use Rattle.tg_accept.proofs.Aligned.{second, Aligned, aligned, as_many}

unnamed_length : (n : ℕ) → length (unnamed n) ≡ n
unnamed_length zero = refl
unnamed_length (suc n) = ap suc (unnamed_length n)

module _ (th : Theory) (self : Option Function) (ps vars : List Ty) where
  mutual
    again : (t : Tree) (d : Typing) (locs : List Ty) → IsTyping th vars locs t d → IsTypingOf th self ps vars locs (resolved_again th t) d
    again (tree.bound k) (leaf t) locs h = h
    again (tree.free n) (leaf t) locs h = h
    again (tree.literal n) (leaf t) locs h = h
    again (tree.truth b) (leaf t) locs h = h
    again (tree.con c ts) (instanced us t ds) locs (o, is, n, q, args, each) = (o, is, n, q, args, all_again ts ds locs each)
    again (tree.call f ts) (instanced us t ds) locs (x, is, n, q, args, each) = (x, is, n, q, args, all_again ts ds locs each)
    again (tree.put ts) (compound t ds) locs (q, args, each) = (q, args, all_again ts ds locs each)
    again (tree.choice ts) (compound t ds) locs (args, each) = (args, all_again ts ds locs each)
    again (tree.op o ts) (compound t ds) locs (is, each) = (is, all_again ts ds locs each)
    again (tree.bind t body) (binding u v d e) locs (p, q, b, s) = (again t d locs p, q, again body e (u ∷ locs) b, s)
    again (tree.case n t arms) (branching us u d ds) locs (is, e, p, each) =
        (is, e, again t d locs p, arms_again arms (heads_of th n) (constructor_arguments th n us) ds n us u locs (aligned th n us is) each)
    again t d locs h = absurd h

    all_again : (ts : Trees) (ds : Typings) (locs : List Ty) → AreTypings th vars locs ts ds → AreTypingsOf th self ps vars locs (all_resolved_again th ts) ds
    all_again tree.none none locs h = tt
    all_again tree.none (more d ds) locs h = absurd h
    all_again (tree.more t ts) none locs h = absurd h
    all_again (tree.more t ts) (more d ds) locs h = (again t d locs h.0, all_again ts ds locs h.1)

    arms_again : (arms : Arms) (hs : List Head) (args : List (List Ty)) (ds : ArmTypings) (n : ℕ) (us : List Ty) (u : Ty) (locs : List Ty)
        → Aligned th us n hs args → AreArmTypings th vars locs u arms args ds
        → AreBranchTypings th self ps vars locs n us u (branches_again th arms hs) ds
    arms_again tree.end hs [] end n us u locs a h = tt
    arms_again (tree.arm m body arms) (x ∷ hs) (ts ∷ rest) (arm ts' d ds) n us u locs a (count, e, p, q, others) = (
      a.0 ∙ ap (λ (l : List Ty). Some (n, l)) (sym e),
      unnamed_length m ∙ (count ∙ ap (λ (l : List Ty). length l) (sym e)),
      subst (λ (l : List Ty). IsTypingOf th self ps vars (reverse l ++ locs) (resolved_again th body) d) (sym e) (again body d (reverse ts ++ locs) p),
      q,
      arms_again arms hs rest ds n us u locs a.1 others,
    )
    arms_again (tree.arm m body arms) [] (ts ∷ rest) ds n us u locs a h = absurd a
    arms_again arms hs args ds n us u locs a h = absurd h

  mutual
    back : (t : Tree) (d : Typing) (locs : List Ty) → EachCase th t → IsTypingOf th self ps vars locs (resolved_again th t) d → IsTyping th vars locs t d
    back (tree.bound k) (leaf t) locs c h = h
    back (tree.free n) (leaf t) locs c h = h
    back (tree.literal n) (leaf t) locs c h = h
    back (tree.truth b) (leaf t) locs c h = h
    back (tree.con k ts) (instanced us t ds) locs c (o, is, n, q, args, each) = (o, is, n, q, args, all_back ts ds locs c each)
    back (tree.call f ts) (instanced us t ds) locs c (x, is, n, q, args, each) = (x, is, n, q, args, all_back ts ds locs c each)
    back (tree.put ts) (compound t ds) locs c (q, args, each) = (q, args, all_back ts ds locs c each)
    back (tree.choice ts) (compound t ds) locs c (args, each) = (args, all_back ts ds locs c each)
    back (tree.op o ts) (compound t ds) locs c (is, each) = (is, all_back ts ds locs c each)
    back (tree.bind t body) (binding u v d e) locs c (p, q, b, s) = (back t d locs c.0 p, q, back body e (u ∷ locs) c.1 b, s)
    back (tree.case n t arms) (branching us u d ds) locs c (is, e, p, each) = (
      is,
      e,
      back t d locs c.1 p,
      arms_back arms (heads_of th n) (constructor_arguments th n us) ds n us u locs c.2 (as_many th n (branch_sizes arms) c.0) (aligned th n us is) each,
    )
    back (tree.bound k) d locs c h = absurd h
    back (tree.free n) d locs c h = absurd h
    back (tree.literal n) d locs c h = absurd h
    back (tree.truth b) d locs c h = absurd h
    back (tree.con k ts) d locs c h = absurd h
    back (tree.call f ts) d locs c h = absurd h
    back (tree.put ts) d locs c h = absurd h
    back (tree.choice ts) d locs c h = absurd h
    back (tree.op o ts) d locs c h = absurd h
    back (tree.bind t body) d locs c h = absurd h
    back (tree.case n t arms) d locs c h = absurd h

    all_back : (ts : Trees) (ds : Typings) (locs : List Ty) → EachCases th ts → AreTypingsOf th self ps vars locs (all_resolved_again th ts) ds
        → AreTypings th vars locs ts ds
    all_back tree.none none locs c h = tt
    all_back tree.none (more d ds) locs c h = absurd h
    all_back (tree.more t ts) none locs c h = absurd h
    all_back (tree.more t ts) (more d ds) locs c h = (back t d locs c.0 h.0, all_back ts ds locs c.1 h.1)

    arms_back : (arms : Arms) (hs : List Head) (args : List (List Ty)) (ds : ArmTypings) (n : ℕ) (us : List Ty) (u : Ty) (locs : List Ty)
        → EachCaseOf th arms → length (branch_sizes arms) ≡ length hs → Aligned th us n hs args
        → AreBranchTypings th self ps vars locs n us u (branches_again th arms hs) ds → AreArmTypings th vars locs u arms args ds
    arms_back tree.end [] [] end n us u locs c l a h = tt
    arms_back tree.end [] [] (arm ts d ds) n us u locs c l a h = absurd h
    arms_back tree.end [] (ts ∷ rest) ds n us u locs c l a h = absurd a
    arms_back tree.end (x ∷ hs) args ds n us u locs c l a h = cc l
    arms_back (tree.arm m body arms) [] args ds n us u locs c l a h = cc l
    arms_back (tree.arm m body arms) (x ∷ hs) [] ds n us u locs c l a h = absurd a
    arms_back (tree.arm m body arms) (x ∷ hs) (ts ∷ rest) end n us u locs c l a h = absurd h
    arms_back (tree.arm m body arms) (x ∷ hs) (ts ∷ rest) (arm ts' d ds) n us u locs c l a (at, count, p, q, others) =
        let same : ts' ≡ ts = second (n, ts') (n, ts) (sym at ∙ a.0) in (
          sym (unnamed_length m) ∙ (count ∙ ap (λ (k : List Ty). length k) same),
          same,
          subst (λ (k : List Ty). IsTyping th vars (reverse k ++ locs) body d) same (back body d (reverse ts' ++ locs) c.0 p),
          q,
          arms_back arms hs rest ds n us u locs c.1 (let e : length (branch_sizes arms) ≡ length hs = cc l in e) a.1 others,
        )

pub resolved_again_typed : ResolvedAgain
resolved_again_typed th self ps vars locs t d h = again th self ps vars t d locs h

pub typed_again : TypedAgain
typed_again th self ps vars locs t d c h = back th self ps vars t d locs c h
