-- The calls in a core term are those in the resolved term.
use Rattle.std.proofs.Common.{ℕ, ◌≡◌, ◌≤◌, Bool, true, false, List, [], ◌∷◌, refl, length}
use Rattle.std.specs.Prelude.{◌&&◌, ◌||◌, ◌↔◌}
use Rattle.tg_model.specs.Tree.{Tree, Trees}
use Rattle.tg_model.specs.Theory.{Theory}
use Rattle.tg_model.specs.Calls.{has_call, have_call, branches_have_call}
use Rattle.tg_model.proofs.Booleans.{and_left, and_right, or_left_false, or_right_false}
use Rattle.tg_accept.specs.Faults.{each_call, each_calls, each_call_of, each_put, each_puts, each_put_of, are_inputs}
use Rattle.tg_accept.specs.Resolved as resolved
use Rattle.tg_accept.specs.Resolved.{Head, Resolved, Resolveds, Branches, bound, free, literal, truth, con, call, own, misused, put, choice, case, bind, op, branch, calls_program, call_program, branches_call_program}
use Rattle.tg_accept.specs.Core.{Written, arranged, core, cores, written, heads_of}
use Rattle.tg_accept.specs.Uses.{EachOwnUse, EachOwnUses, EachOwnUseIn, EachProgramCall, EachProgramCalls, EachProgramCallIn}
use Rattle.tg_accept.proofs.FitTerms.{IsFit, AreFit, BranchesFit}
use Rattle.tg_accept.proofs.SameBranches.{AllWritten, EachHead, all_chosen, branches_back}

pub both_false : (a b : Bool) → a ≡ false → b ≡ false → (a || b) ≡ false
both_false true b e f = cc e
both_false false b e f = f

pub both_true : (a b : Bool) → a ≡ true → b ≡ true → (a && b) ≡ true
both_true true b e f = f
both_true false b e f = cc e

-- ---- whether the program is called

abbrev Free : Tree → Type 0
Free t = has_call t ≡ false

arms_free : (ws : List Written) (hs : List Head) → EachHead Free ws hs → branches_have_call (arranged ws hs) ≡ false
arms_free ws [] each = refl
arms_free ws (h ∷ hs) each = both_false _ _ each.0 (arms_free ws hs each.1)

free_arms : (ws : List Written) (hs : List Head) → branches_have_call (arranged ws hs) ≡ false → EachHead Free ws hs
free_arms ws [] e = tt
free_arms ws (h ∷ hs) e = (or_left_false _ _ e, free_arms ws hs (or_right_false _ _ e))

module _ (th : Theory) (self : ℕ) where
  mutual
    pub call_free : (t : Resolved) → calls_program t ≡ false → has_call (core th self t) ≡ false
    call_free (bound k) e = refl
    call_free (free n) e = refl
    call_free (literal n) e = refl
    call_free (truth b) e = refl
    call_free (con c ts) e = calls_free ts e
    call_free (call f ts) e = calls_free ts e
    call_free (own ts) e = calls_free ts e
    call_free (misused ts) e = refl
    call_free (put ts) e = cc e
    call_free (choice ts) e = calls_free ts e
    call_free (op o ts) e = calls_free ts e
    call_free (bind t body) e = both_false _ _ (call_free t (or_left_false _ _ e)) (call_free body (or_right_false _ _ e))
    call_free (case n t bs) e =
        both_false _ _ (call_free t (or_left_false _ _ e))
        (arms_free (written th self bs) (heads_of th n) (all_chosen Free refl (written th self bs) (heads_of th n) (branches_free bs (or_right_false _ _ e))))

    calls_free : (ts : Resolveds) → call_program ts ≡ false → have_call (cores th self ts) ≡ false
    calls_free resolved.none e = refl
    calls_free (resolved.more t ts) e = both_false _ _ (call_free t (or_left_false _ _ e)) (calls_free ts (or_right_false _ _ e))

    branches_free : (bs : Branches) → branches_call_program bs ≡ false → AllWritten Free (written th self bs)
    branches_free resolved.end e = tt
    branches_free (branch head xs body bs) e = (call_free body (or_left_false _ _ e), branches_free bs (or_right_false _ _ e))

  mutual
    pub free_call : (t : Resolved) → IsFit th t → has_call (core th self t) ≡ false → calls_program t ≡ false
    free_call (bound k) h e = refl
    free_call (free n) h e = refl
    free_call (literal n) h e = refl
    free_call (truth b) h e = refl
    free_call (con c ts) h e = free_calls ts h e
    free_call (call f ts) h e = free_calls ts h.1 e
    free_call (own ts) h e = free_calls ts h e
    free_call (misused ts) h e = absurd h
    free_call (put ts) h e = cc e
    free_call (choice ts) h e = free_calls ts h e
    free_call (op o ts) h e = free_calls ts h e
    free_call (bind t body) h e = both_false _ _ (free_call t h.0 (or_left_false _ _ e)) (free_call body h.1 (or_right_false _ _ e))
    free_call (case n t bs) h e =
        both_false _ _ (free_call t h.2 (or_left_false _ _ e))
        (free_branches bs h.3 (branches_back Free th self bs (heads_of th n) (free_arms (written th self bs) (heads_of th n) (or_right_false _ _ e)) h.0 h.1))

    free_calls : (ts : Resolveds) → AreFit th ts → have_call (cores th self ts) ≡ false → call_program ts ≡ false
    free_calls resolved.none h e = refl
    free_calls (resolved.more t ts) h e = both_false _ _ (free_call t h.0 (or_left_false _ _ e)) (free_calls ts h.1 (or_right_false _ _ e))

    free_branches : (bs : Branches) → BranchesFit th bs → AllWritten Free (written th self bs) → branches_call_program bs ≡ false
    free_branches resolved.end h all = refl
    free_branches (branch head xs body bs) h all = both_false _ _ (free_call body h.0 all.0) (free_branches bs h.1 all.1)

-- ---- the function's uses of itself

module _ (th : Theory) (self : ℕ) (test : ℕ → Trees → Bool) (P : Resolveds → Type 0)
    (other : (f : ℕ) (us : Trees) → f ≤ length th.functions → test f us ≡ true)
    (itself : (ts : Resolveds) → (test self (cores th self ts) ≡ true) ↔ P ts) where
  abbrev Good : Tree → Type 0
  Good t = each_call test t ≡ true

  arms_good : (ws : List Written) (hs : List Head) → EachHead Good ws hs → each_call_of test (arranged ws hs) ≡ true
  arms_good ws [] each = refl
  arms_good ws (h ∷ hs) each = both_true _ _ each.0 (arms_good ws hs each.1)

  good_arms : (ws : List Written) (hs : List Head) → each_call_of test (arranged ws hs) ≡ true → EachHead Good ws hs
  good_arms ws [] e = tt
  good_arms ws (h ∷ hs) e = (and_left _ _ e, good_arms ws hs (and_right _ _ e))

  mutual
    pub use_good : (t : Resolved) → IsFit th t → EachOwnUse P t → each_call test (core th self t) ≡ true
    use_good (bound k) h e = refl
    use_good (free n) h e = refl
    use_good (literal n) h e = refl
    use_good (truth b) h e = refl
    use_good (con c ts) h e = uses_good ts h e
    use_good (call f ts) h e = both_true _ _ (other f (cores th self ts) h.0) (uses_good ts h.1 e)
    use_good (own ts) h e = both_true _ _ ((itself ts).1 e.0) (uses_good ts h e.1)
    use_good (misused ts) h e = absurd h
    use_good (put ts) h e = uses_good ts h e
    use_good (choice ts) h e = uses_good ts h e
    use_good (op o ts) h e = uses_good ts h e
    use_good (bind t body) h e = both_true _ _ (use_good t h.0 e.0) (use_good body h.1 e.1)
    use_good (case n t bs) h e =
        both_true _ _ (use_good t h.2 e.0)
        (arms_good (written th self bs) (heads_of th n) (all_chosen Good refl (written th self bs) (heads_of th n) (branches_good bs h.3 e.1)))

    uses_good : (ts : Resolveds) → AreFit th ts → EachOwnUses P ts → each_calls test (cores th self ts) ≡ true
    uses_good resolved.none h e = refl
    uses_good (resolved.more t ts) h e = both_true _ _ (use_good t h.0 e.0) (uses_good ts h.1 e.1)

    branches_good : (bs : Branches) → BranchesFit th bs → EachOwnUseIn P bs → AllWritten Good (written th self bs)
    branches_good resolved.end h e = tt
    branches_good (branch head xs body bs) h e = (use_good body h.0 e.0, branches_good bs h.1 e.1)

  mutual
    pub good_use : (t : Resolved) → IsFit th t → each_call test (core th self t) ≡ true → EachOwnUse P t
    good_use (bound k) h e = tt
    good_use (free n) h e = tt
    good_use (literal n) h e = tt
    good_use (truth b) h e = tt
    good_use (con c ts) h e = good_uses ts h e
    good_use (call f ts) h e = good_uses ts h.1 (and_right _ _ e)
    good_use (own ts) h e = ((itself ts).0 (and_left _ _ e), good_uses ts h (and_right _ _ e))
    good_use (misused ts) h e = absurd h
    good_use (put ts) h e = good_uses ts h e
    good_use (choice ts) h e = good_uses ts h e
    good_use (op o ts) h e = good_uses ts h e
    good_use (bind t body) h e = (good_use t h.0 (and_left _ _ e), good_use body h.1 (and_right _ _ e))
    good_use (case n t bs) h e = (
      good_use t h.2 (and_left _ _ e),
      good_branches bs h.3 (branches_back Good th self bs (heads_of th n) (good_arms (written th self bs) (heads_of th n) (and_right _ _ e)) h.0 h.1),
    )

    good_uses : (ts : Resolveds) → AreFit th ts → each_calls test (cores th self ts) ≡ true → EachOwnUses P ts
    good_uses resolved.none h e = tt
    good_uses (resolved.more t ts) h e = (good_use t h.0 (and_left _ _ e), good_uses ts h.1 (and_right _ _ e))

    good_branches : (bs : Branches) → BranchesFit th bs → AllWritten Good (written th self bs) → EachOwnUseIn P bs
    good_branches resolved.end h all = tt
    good_branches (branch head xs body bs) h all = (good_use body h.0 all.0, good_branches bs h.1 all.1)

-- ---- the arguments of program calls

module _ (th : Theory) (self count : ℕ) (Q : Resolveds → Type 0) (inputs : (ts : Resolveds) → (are_inputs count (cores th self ts) ≡ true) ↔ Q ts) where
  abbrev Right : Tree → Type 0
  Right t = each_put count t ≡ true

  arms_right : (ws : List Written) (hs : List Head) → EachHead Right ws hs → each_put_of count (arranged ws hs) ≡ true
  arms_right ws [] each = refl
  arms_right ws (h ∷ hs) each = both_true _ _ each.0 (arms_right ws hs each.1)

  right_arms : (ws : List Written) (hs : List Head) → each_put_of count (arranged ws hs) ≡ true → EachHead Right ws hs
  right_arms ws [] e = tt
  right_arms ws (h ∷ hs) e = (and_left _ _ e, right_arms ws hs (and_right _ _ e))

  mutual
    pub put_right : (t : Resolved) → IsFit th t → EachProgramCall Q t → each_put count (core th self t) ≡ true
    put_right (bound k) h e = refl
    put_right (free n) h e = refl
    put_right (literal n) h e = refl
    put_right (truth b) h e = refl
    put_right (con c ts) h e = puts_right ts h e
    put_right (call f ts) h e = puts_right ts h.1 e
    put_right (own ts) h e = puts_right ts h e
    put_right (misused ts) h e = absurd h
    put_right (put ts) h e = (inputs ts).1 e
    put_right (choice ts) h e = puts_right ts h e
    put_right (op o ts) h e = puts_right ts h e
    put_right (bind t body) h e = both_true _ _ (put_right t h.0 e.0) (put_right body h.1 e.1)
    put_right (case n t bs) h e =
        both_true _ _ (put_right t h.2 e.0)
        (arms_right (written th self bs) (heads_of th n) (all_chosen Right refl (written th self bs) (heads_of th n) (branches_right bs h.3 e.1)))

    puts_right : (ts : Resolveds) → AreFit th ts → EachProgramCalls Q ts → each_puts count (cores th self ts) ≡ true
    puts_right resolved.none h e = refl
    puts_right (resolved.more t ts) h e = both_true _ _ (put_right t h.0 e.0) (puts_right ts h.1 e.1)

    branches_right : (bs : Branches) → BranchesFit th bs → EachProgramCallIn Q bs → AllWritten Right (written th self bs)
    branches_right resolved.end h e = tt
    branches_right (branch head xs body bs) h e = (put_right body h.0 e.0, branches_right bs h.1 e.1)

  mutual
    pub right_put : (t : Resolved) → IsFit th t → each_put count (core th self t) ≡ true → EachProgramCall Q t
    right_put (bound k) h e = tt
    right_put (free n) h e = tt
    right_put (literal n) h e = tt
    right_put (truth b) h e = tt
    right_put (con c ts) h e = right_puts ts h e
    right_put (call f ts) h e = right_puts ts h.1 e
    right_put (own ts) h e = right_puts ts h e
    right_put (misused ts) h e = absurd h
    right_put (put ts) h e = (inputs ts).0 e
    right_put (choice ts) h e = right_puts ts h e
    right_put (op o ts) h e = right_puts ts h e
    right_put (bind t body) h e = (right_put t h.0 (and_left _ _ e), right_put body h.1 (and_right _ _ e))
    right_put (case n t bs) h e = (
      right_put t h.2 (and_left _ _ e),
      right_branches bs h.3 (branches_back Right th self bs (heads_of th n) (right_arms (written th self bs) (heads_of th n) (and_right _ _ e)) h.0 h.1),
    )

    right_puts : (ts : Resolveds) → AreFit th ts → each_puts count (cores th self ts) ≡ true → EachProgramCalls Q ts
    right_puts resolved.none h e = tt
    right_puts (resolved.more t ts) h e = (right_put t h.0 (and_left _ _ e), right_puts ts h.1 (and_right _ _ e))

    right_branches : (bs : Branches) → BranchesFit th bs → AllWritten Right (written th self bs) → EachProgramCallIn Q bs
    right_branches resolved.end h all = tt
    right_branches (branch head xs body bs) h all = (right_put body h.0 all.0, right_branches bs h.1 all.1)
