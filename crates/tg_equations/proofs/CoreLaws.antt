-- What a core term is made of.
use Rattle.std.proofs.Common.{ℕ, suc, ◌≡◌, ◌+◌, Bool, true, false, List, [], ◌∷◌, ◌++◌, map, take, length, Option, Some, refl, sym, ◌∙◌, ap, if◌then◌else◌, arith}
use Rattle.std.specs.Prelude.{slice_get, option_map, unwrap_or}
use Rattle.std.specs.List.{list_any}
use Rattle.std.specs.Prelude.{not}
use Rattle.std.proofs.lemmas.List.{map-append}
use Rattle.tg_term.proofs.PartLaws.{take_at}
use Rattle.tg_model.specs.Tree as tree
use Rattle.tg_model.specs.Tree.{Tree, trees}
use Rattle.tg_model.specs.Theory.{Theory}
use Rattle.tg_accept.specs.Core as model
use Rattle.tg_accept.specs.Core.{core, cores, written, arranged, branch_of, same_head, heads_of}
use Rattle.tg_accept.specs.Resolved.{Head}
use Rattle.tg_term.specs.declared.terms.Branch.{Branch}
use Rattle.tg_term.specs.View.{arms}
use Rattle.tg_term.specs.Operators.{operator}
use Rattle.tg_typing.specs.declared.resolved.Resolved.{Resolved}
use Rattle.tg_typing.specs.declared.resolved.Resolved.TheVariants as made
use Rattle.tg_typing.specs.declared.resolved.Branch as resolved_branch
use Rattle.tg_typing.specs.View.{Seen, head, seen, branched, resolved, all_resolved, branches, seen-Branch}
use Rattle.tg_typing.specs.View.{resolved-Bound, resolved-Free, resolved-Lit, resolved-Truth, resolved-Con, resolved-Call, resolved-Own, resolved-Misused, resolved-Put, resolved-If, resolved-Case, resolved-Let, resolved-Op}
use Rattle.tg_equations.specs.declared.core_terms.Written.{Written}
use Rattle.tg_equations.specs.declared.places.Place.{Place}
use Rattle.tg_equations.specs.Places.{placed_from}
use Rattle.tg_equations.specs.Written.{written_branch, bare, no_branch, branch_at}

-- ---- the terms of a list, and branches as they are written

listed_all : (th : Theory) (own : ℕ) (ts : List Resolved) → trees (map (λ t. core th own (resolved t)) ts) ≡ cores th own (all_resolved ts)
listed_all th own [] = refl
listed_all th own (t ∷ ts) = ap (tree.more (core th own (resolved t))) (listed_all th own ts)

pub core_list : (th : Theory) (own : ℕ) (ts : List Resolved) (us : List Tree) → us ≡ map (λ t. core th own (resolved t)) ts → trees us ≡ cores th own (all_resolved ts)
core_list th own ts us e = ap trees e ∙ listed_all th own ts

abbrev pub core_seen : Theory → ℕ → Seen → model.Written
core_seen th own s = record { head = s.head; vars = length s.names; body = core th own s.body }

written_all : (th : Theory) (own : ℕ) (ss : List Seen) → map (core_seen th own) ss ≡ written th own (branched ss)
written_all th own [] = refl
written_all th own (s ∷ ss) = ap (λ l. core_seen th own s ∷ l) (written_all th own ss)

all_seen : (th : Theory) (own : ℕ) (bs : List resolved_branch.Branch) → map (λ b. core_seen th own (seen b)) bs ≡ map (core_seen th own) (map seen bs)
all_seen th own [] = refl
all_seen th own (b ∷ bs) = ap (λ l. core_seen th own (seen b) ∷ l) (all_seen th own bs)

pub written_list : (th : Theory) (own : ℕ) (bs : List resolved_branch.Branch) (ws : List Written)
    → map written_branch ws ≡ map (λ b. core_seen th own (seen b)) bs → map written_branch ws ≡ written th own (branches bs)
written_list th own bs ws e = e ∙ all_seen th own bs ∙ written_all th own (map seen bs)

pub written_one : (th : Theory) (own : ℕ) (b : resolved_branch.Branch) (w : Written) → w.head ≡ b.head → w.branch.vars ≡ length b.names
    → w.branch.body ≡ core th own (resolved b.body) → written_branch w ≡ core_seen th own (seen b)
written_one th own b w e f g =
    (λ i. let x : model.Written = record { head = head (e i); vars = f i; body = g i } in x)
    ∙ ap (core_seen th own) (sym (seen-Branch b))

-- ---- one level

pub core_con : (th : Theory) (own c : ℕ) (ts : List Resolved) (us : List Tree) → trees us ≡ cores th own (all_resolved ts)
    → tree.con c (trees us) ≡ core th own (resolved (made.Con c ts))
core_con th own c ts us e = ap (tree.con c) e ∙ ap (core th own) (sym (resolved-Con c ts))

pub core_call : (th : Theory) (own f : ℕ) (ts : List Resolved) (us : List Tree) → trees us ≡ cores th own (all_resolved ts)
    → tree.call f (trees us) ≡ core th own (resolved (made.Call f ts))
core_call th own f ts us e = ap (tree.call f) e ∙ ap (core th own) (sym (resolved-Call f ts))

pub core_own : (th : Theory) (own : ℕ) (ts : List Resolved) (us : List Tree) → trees us ≡ cores th own (all_resolved ts)
    → tree.call own (trees us) ≡ core th own (resolved (made.Own ts))
core_own th own ts us e = ap (tree.call own) e ∙ ap (core th own) (sym (resolved-Own ts))

pub core_misused : (th : Theory) (own : ℕ) (ts : List Resolved) → tree.truth false ≡ core th own (resolved (made.Misused ts))
core_misused th own ts = ap (core th own) (sym (resolved-Misused ts))

pub core_put : (th : Theory) (own : ℕ) (ts : List Resolved) (us : List Tree) → trees us ≡ cores th own (all_resolved ts)
    → tree.put (trees us) ≡ core th own (resolved (made.Put ts))
core_put th own ts us e = ap tree.put e ∙ ap (core th own) (sym (resolved-Put ts))

pub core_if : (th : Theory) (own : ℕ) (ts : List Resolved) (us : List Tree) → trees us ≡ cores th own (all_resolved ts)
    → tree.choice (trees us) ≡ core th own (resolved (made.If ts))
core_if th own ts us e = ap tree.choice e ∙ ap (core th own) (sym (resolved-If ts))

pub core_op : (th : Theory) (own o : ℕ) (ts : List Resolved) (us : List Tree) → trees us ≡ cores th own (all_resolved ts)
    → tree.op (operator o) (trees us) ≡ core th own (resolved (made.Op o ts))
core_op th own o ts us e = ap (tree.op (operator o)) e ∙ ap (core th own) (sym (resolved-Op o ts))

pub core_let : (th : Theory) (own : ℕ) (t body : Resolved) (u v : Tree) → u ≡ core th own (resolved t) → v ≡ core th own (resolved body)
    → tree.bind u v ≡ core th own (resolved (made.Let t body))
core_let th own t body u v e f = (λ i. tree.bind (e i) (f i)) ∙ ap (core th own) (sym (resolved-Let t body))

pub core_case : (th : Theory) (own n : ℕ) (t : Resolved) (bs : List resolved_branch.Branch) (u : Tree) (ws : List model.Written) (all : tree.Arms)
    → u ≡ core th own (resolved t) → ws ≡ written th own (branches bs) → all ≡ arranged ws (heads_of th n)
    → tree.case n u all ≡ core th own (resolved (made.Case n t bs))
core_case th own n t bs u ws all e f g =
    (λ i. tree.case n (e i) (g i)) ∙ ap (λ l. tree.case n (core th own (resolved t)) (arranged l (heads_of th n))) f
    ∙ ap (core th own) (sym (resolved-Case n t bs))

pub core_bound : (th : Theory) (own k : ℕ) → tree.bound k ≡ core th own (resolved (made.Bound k))
core_bound th own k = ap (core th own) (sym (resolved-Bound k))

pub core_free : (th : Theory) (own n : ℕ) → tree.free n ≡ core th own (resolved (made.Free n))
core_free th own n = ap (core th own) (sym (resolved-Free n))

pub core_literal : (th : Theory) (own n : ℕ) → tree.literal n ≡ core th own (resolved (made.Lit n))
core_literal th own n = ap (core th own) (sym (resolved-Lit n))

pub core_truth : (th : Theory) (own : ℕ) (b : Bool) → tree.truth b ≡ core th own (resolved (made.Truth b))
core_truth th own b = ap (core th own) (sym (resolved-Truth b))

pub ruleset cores_of = (core_bound, core_free, core_literal, core_truth, core_con, core_call, core_own, core_misused, core_put, core_if, core_op, core_let, core_case, core_list, written_list)

-- ---- branches for each constructor

pub branch_found : (h : Head) (n : ℕ) (ws ys : List model.Written) → ((i : ℕ) → slice_get ys (n + i) ≡ slice_get ws i)
    → branch_at ys (placed_from (λ (w : model.Written). same_head w.head h) n ws) ≡ bare (branch_of ws h)
branch_found h n [] ys e = refl
branch_found h n (w ∷ ws) ys e = go (same_head w.head h) (branch_found h (suc n) ws ys (λ i. moved i ∙ e (suc i)))
  where
    moved : (i : ℕ) → slice_get ys (suc n + i) ≡ slice_get ys (n + suc i)
    moved i = let k : suc n + i ≡ n + suc i = omega arith in ap (slice_get ys) k

    here : slice_get ys n ≡ Some w
    here = let k : n ≡ n + 0 = omega arith in ap (slice_get ys) k ∙ e 0

    go : (b : Bool) → branch_at ys (placed_from (λ (x : model.Written). same_head x.head h) (suc n) ws) ≡ bare (branch_of ws h)
        → branch_at ys (if b then Some (record { first = n; only = not (list_any (λ (x : model.Written). same_head x.head h) ws) }) else placed_from (λ (x : model.Written). same_head x.head h) (suc n) ws)
        ≡ bare (if b then w else branch_of ws h)
    go true q = ap (λ o. unwrap_or (option_map bare o) no_branch) here
    go false q = q

pub branch_first : (h : Head) (ws : List model.Written) → branch_at ws (placed_from (λ (w : model.Written). same_head w.head h) 0 ws) ≡ bare (branch_of ws h)
branch_first h ws = branch_found h 0 ws ws (λ i. let k : 0 + i ≡ i = omega arith in ap (slice_get ws) k)

pub arms_of : (ws : List model.Written) (hs : List Head) → arms (map (λ h. bare (branch_of ws h)) hs) ≡ arranged ws hs
arms_of ws [] = refl
arms_of ws (h ∷ hs) = ap (tree.arm (branch_of ws h).vars (branch_of ws h).body) (arms_of ws hs)

pub next_branch : (ws : List model.Written) (h : Head) (o : Option Place) (b : Branch) → o ≡ placed_from (λ (w : model.Written). same_head w.head h) 0 ws
    → b ≡ branch_at ws o → b ≡ bare (branch_of ws h)
next_branch ws h o b e f = f ∙ ap (branch_at ws) e ∙ branch_first h ws

-- ---- lists, one item after another

pub list_next : {A B : Type 0} (f : A → B) (xs : List A) (i : ℕ) (x : A) (ys new : List B) (y : B) → slice_get xs i ≡ Some x → ys ≡ map f (take i xs)
    → new ≡ ys ++ y ∷ [] → y ≡ f x → new ≡ map f (take (i + 1) xs)
list_next f xs i x ys new y at h e q =
    let n : i + 1 ≡ suc i = omega arith in
    e ∙ (λ j. h j ++ q j ∷ []) ∙ sym (map-append f (take i xs) (x ∷ [])) ∙ ap (map f) (sym (take_at xs i x at)) ∙ ap (λ m. map f (take m xs)) (sym n)

pub mapped_next : {A B C : Type 0} (f : A → B) (g : C → B) (xs : List A) (i : ℕ) (x : A) (ys new : List C) (y : C) → slice_get xs i ≡ Some x
    → map g ys ≡ map f (take i xs) → new ≡ ys ++ y ∷ [] → g y ≡ f x → map g new ≡ map f (take (i + 1) xs)
mapped_next f g xs i x ys new y at h e q = list_next f xs i x (map g ys) (map g new) (g y) at h (ap (map g) e ∙ map-append g ys (y ∷ [])) q

pub map_both : {A B C : Type 0} (f : B → C) (g : A → B) (xs : List A) → map (λ x. f (g x)) xs ≡ map f (map g xs)
map_both f g [] = refl
map_both f g (x ∷ xs) = ap (λ l. f (g x) ∷ l) (map_both f g xs)
