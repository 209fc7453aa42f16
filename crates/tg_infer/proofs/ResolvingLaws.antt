-- What looking up the words of a term leans on.
use Rattle.std.proofs.Common.{ℕ, zero, suc, ◌≡◌, ◌+◌, ◌-◌, ◌*◌, ◌<◌, ◌≤◌, Bool, true, false, List, [], ◌∷◌, ◌++◌, length, drop, map, reverse, get_or, Option, Some, None, refl, sym, ◌∙◌, ap, subst, arith, if◌then◌else◌}
use Rattle.std.specs.Prelude.{option_map, option_and_then, slice_get}
use Rattle.std.proofs.lemmas.List.{map-append}
use Rattle.tg_accept.specs.Raw as raw
use Rattle.tg_accept.specs.Raw.{Binder}
use Rattle.tg_accept.specs.Resolved as model
use Rattle.tg_accept.specs.Resolved.{Resolveds}
use Rattle.tg_accept.specs.Meaning.{Scope, may_bind, may_bind_all, place_of, name_of, word_meant, head_meant, datatype_of_first, resolve, resolve_all, resolve_branches}
use Rattle.tg_grammar.specs.declared.terms.RawTerm.{RawTerm}
use Rattle.tg_grammar.specs.declared.terms.RawTerm.TheVariants as terms
use Rattle.tg_grammar.specs.declared.terms.RawBranch.{RawBranch}
use Rattle.tg_grammar.specs.declared.terms.Binder as grammar
use Rattle.tg_term.specs.Operators.{operator}
use Rattle.tg_term.proofs.PartLaws.{drop_at}
use Rattle.tg_typing.specs.declared.resolved.Resolved.{Resolved}
use Rattle.tg_typing.specs.declared.resolved.Branch.{Branch}
use Rattle.tg_typing.specs.declared.resolved.Head.{Head}
use Rattle.tg_typing.specs.declared.resolved.Resolved.TheVariants as resolveds
use Rattle.tg_typing.specs.View as typing
use Rattle.tg_typing.specs.View.{resolved, all_resolved, branches, seen-Branch, resolved-Bound, resolved-Free, resolved-Lit, resolved-Truth, resolved-If, resolved-Case, resolved-Let, resolved-Op}
use Rattle.tg_infer.specs.declared.uses.Use.{Use}
use Rattle.tg_infer.specs.declared.binders.Binders.{Binders}
use Rattle.tg_infer.proofs.SizeLaws.{nodes_at, branch_nodes_at}
use Rattle.tg_infer.specs.Binders.{binders, AreRight}
use Rattle.tg_infer.specs.Entering.{Enters, EntersAll, AreLeft}
use Rattle.tg_infer.specs.Finding.{AreKept, Finds, branch_meant}
use Rattle.tg_infer.specs.Uses.{use_on, IsMeaning}
use Rattle.tg_infer.specs.View as view
use Rattle.tg_infer.specs.View.{binder, head, raw_term, raw_terms, raw_branches, seen, seen-RawBranch, bound_in, case_of, raw_term-Num, raw_term-Truth, raw_term-Use, raw_term-Free, raw_term-Bound, raw_term-Op, raw_term-If, raw_term-Let, raw_term-Case}

abbrev pub Locs : Type 0
Locs = List Binder

pub kept_same : (b : Binders) → AreRight b → AreKept b b
kept_same b h = record { is = refl; right = h }

pub kept_on : (a b c : Binders) → AreKept a b → AreKept b c → AreKept a c
kept_on a b c h k = record { is = k.is ∙ h.is; right = k.right }

-- what is found is what is meant
pub found_is : {A : Type 0} (a b : Binders) (o meant : Option A) → Finds a b o meant → o ≡ meant
found_is a b None meant h = h
found_is a b (Some r) meant h = h.0

-- ---- leaves

pub num_found : (S : Scope) (b : Binders) (n : ℕ) → AreRight b
    → Finds b b (Some (resolved (resolveds.Lit n))) (resolve S (binders b) (raw_term (terms.Num n)))
num_found S b n h = (ap Some (resolved-Lit n) ∙ sym (ap (resolve S (binders b)) (raw_term-Num n)), kept_same b h)

pub truth_found : (S : Scope) (b : Binders) (t : Bool) → AreRight b
    → Finds b b (Some (resolved (resolveds.Truth t))) (resolve S (binders b) (raw_term (terms.Truth t)))
truth_found S b t h = (ap Some (resolved-Truth t) ∙ sym (ap (resolve S (binders b)) (raw_term-Truth t)), kept_same b h)

pub free_found : (S : Scope) (b : Binders) (n : ℕ) → AreRight b → S.in_certificate ≡ true
    → Finds b b (Some (resolved (resolveds.Free n))) (resolve S (binders b) (raw_term (terms.Free n)))
free_found S b n h e = (ap Some (resolved-Free n) ∙ sym (ap (resolve S (binders b)) (raw_term-Free n) ∙ ap (λ c. if c then Some (model.free n) else None) e), kept_same b h)

pub free_none : (S : Scope) (b : Binders) (n : ℕ) → S.in_certificate ≡ false → None ≡ resolve S (binders b) (raw_term (terms.Free n))
free_none S b n e = sym (ap (resolve S (binders b)) (raw_term-Free n) ∙ ap (λ c. if c then Some (model.free n) else None) e)

pub bound_found : (S : Scope) (b : Binders) (n k : ℕ) → AreRight b → Some k ≡ place_of (raw.level n) (binders b)
    → Finds b b (Some (resolved (resolveds.Bound k))) (resolve S (binders b) (raw_term (terms.Bound n)))
bound_found S b n k h e = (ap Some (resolved-Bound k) ∙ ap (option_map model.bound) e ∙ sym (ap (resolve S (binders b)) (raw_term-Bound n)), kept_same b h)

pub bound_none : (S : Scope) (b : Binders) (n : ℕ) → None ≡ place_of (raw.level n) (binders b) → None ≡ resolve S (binders b) (raw_term (terms.Bound n))
bound_none S b n e = ap (option_map model.bound) e ∙ sym (ap (resolve S (binders b)) (raw_term-Bound n))

-- ---- lists of operands

pub op_found : (S : Scope) (a b : Binders) (o : ℕ) (ts : List RawTerm) (us : List Resolved) → Finds a b (Some (all_resolved us)) (resolve_all S (binders a) (raw_terms ts))
    → Finds a b (Some (resolved (resolveds.Op o us))) (resolve S (binders a) (raw_term (terms.Op o ts)))
op_found S a b o ts us h =
    (ap Some (resolved-Op o us) ∙ ap (option_map (model.op (operator o))) h.0 ∙ sym (ap (resolve S (binders a)) (raw_term-Op o ts)), h.1)

pub op_none : (S : Scope) (a : Binders) (o : ℕ) (ts : List RawTerm) → None ≡ resolve_all S (binders a) (raw_terms ts) → None ≡ resolve S (binders a) (raw_term (terms.Op o ts))
op_none S a o ts h = ap (option_map (model.op (operator o))) h ∙ sym (ap (resolve S (binders a)) (raw_term-Op o ts))

pub if_found : (S : Scope) (a b : Binders) (ts : List RawTerm) (us : List Resolved) → Finds a b (Some (all_resolved us)) (resolve_all S (binders a) (raw_terms ts))
    → Finds a b (Some (resolved (resolveds.If us))) (resolve S (binders a) (raw_term (terms.If ts)))
if_found S a b ts us h = (ap Some (resolved-If us) ∙ ap (option_map model.choice) h.0 ∙ sym (ap (resolve S (binders a)) (raw_term-If ts)), h.1)

pub if_none : (S : Scope) (a : Binders) (ts : List RawTerm) → None ≡ resolve_all S (binders a) (raw_terms ts) → None ≡ resolve S (binders a) (raw_term (terms.If ts))
if_none S a ts h = ap (option_map model.choice) h ∙ sym (ap (resolve S (binders a)) (raw_term-If ts))

-- ---- words

-- the parts stand for the whole
pub same_use : (S : Scope) (a b : Binders) (x : List ℕ) (ts : List RawTerm) (o : Option Resolved)
    → Finds a b (option_map resolved o) (resolve S (binders a) (raw.word x (raw_terms ts)))
    → Finds a b (option_map resolved o) (resolve S (binders a) (raw_term (terms.Use x ts)))
same_use S a b x ts o h = subst (λ t. Finds a b (option_map resolved o) (resolve S (binders a) t)) (sym (raw_term-Use x ts)) h

pub use_found : (S : Scope) (a b : Binders) (x : List ℕ) (ts : List RawTerm) (w : Use) (us : List Resolved) (r : Resolved) → IsMeaning S (binders a) x (Some w)
    → Finds a b (Some (all_resolved us)) (resolve_all S (binders a) (raw_terms ts)) → resolved r ≡ use_on w (all_resolved us)
    → Finds a b (Some (resolved r)) (resolve S (binders a) (raw.word x (raw_terms ts)))
use_found S a b x ts w us r m h e = (ap Some e ∙ m.is (all_resolved us) ∙ ap (option_and_then (word_meant S (binders a) x)) h.0, h.1)

pub use_none : (S : Scope) (a : Binders) (x : List ℕ) (ts : List RawTerm) → None ≡ resolve_all S (binders a) (raw_terms ts)
    → None ≡ resolve S (binders a) (raw.word x (raw_terms ts))
use_none S a x ts h = ap (option_and_then (word_meant S (binders a) x)) h

pub use_unknown : (S : Scope) (a : Binders) (x : List ℕ) (ts : List RawTerm) → IsMeaning S (binders a) x None
    → None ≡ resolve S (binders a) (raw.word x (raw_terms ts))
use_unknown S a x ts m = go (resolve_all S (binders a) (raw_terms ts))
  where
    go : (o : Option Resolveds) → None ≡ option_and_then (word_meant S (binders a) x) o
    go None = refl
    go (Some us) = m.is us

-- ---- lists

-- terms in front of others
abbrev pub before : List model.Resolved → Resolveds → Resolveds
before [] us = us
before (t ∷ ts) us = model.more t (before ts us)

before_none : (ts : List model.Resolved) → before ts model.none ≡ typing.listed ts
before_none [] = refl
before_none (t ∷ ts) = ap (model.more t) (before_none ts)

before_more : (ts : List model.Resolved) (u : model.Resolved) (us : Resolveds) → before ts (model.more u us) ≡ before (ts ++ u ∷ []) us
before_more [] u us = refl
before_more (t ∷ ts) u us = ap (model.more t) (before_more ts u us)

-- `all` are the meanings of the terms before the rest
pub record StandsAll (S : Scope) (old now : Binders) (ts : List RawTerm) (all : List Resolved) (rest : List RawTerm) : Type 0 where
  pub is : resolve_all S (binders old) (raw_terms ts) ≡ option_map (before (map resolved all)) (resolve_all S (binders old) (raw_terms rest))
  pub kept : AreKept old now

pub all_first : (S : Scope) (b : Binders) (ts : List RawTerm) → AreRight b → StandsAll S b b ts [] ts
all_first S b ts h = record { is = same (resolve_all S (binders b) (raw_terms ts)); kept = kept_same b h }
  where
    same : (o : Option Resolveds) → o ≡ option_map (before []) o
    same None = refl
    same (Some us) = refl

after_more : (all : List model.Resolved) (u : model.Resolved) (o : Option Resolveds) → option_map (before all) (option_map (model.more u) o) ≡ option_map (before (all ++ u ∷ [])) o
after_more all u None = refl
after_more all u (Some us) = ap Some (before_more all u us)

next_all : (S : Scope) (old : Binders) (ts : List RawTerm) (i : ℕ) (t : RawTerm) → slice_get ts i ≡ Some t
    → resolve_all S (binders old) (raw_terms (drop i ts))
    ≡ option_and_then (λ u. option_map (model.more u) (resolve_all S (binders old) (raw_terms (drop (i + 1) ts)))) (resolve S (binders old) (raw_term t))
next_all S old ts i t e = ap (λ l. resolve_all S (binders old) (raw_terms l)) (drop_at ts i t e ∙ ap (λ n. t ∷ drop n ts) (let s : suc i ≡ i + 1 = omega arith in s))

-- what is found where the same variables are bound
same_meant : (S : Scope) (old now : Binders) (t : RawTerm) (o : Option model.Resolved) → AreKept old now → o ≡ resolve S (binders now) (raw_term t)
    → o ≡ resolve S (binders old) (raw_term t)
same_meant S old now t o k e = e ∙ ap (λ l. resolve S l (raw_term t)) k.is

pub all_next : (S : Scope) (old now new : Binders) (ts : List RawTerm) (all all' : List Resolved) (i : ℕ) (t : RawTerm) (u : Resolved) → slice_get ts i ≡ Some t
    → StandsAll S old now ts all (drop i ts) → Finds now new (Some (resolved u)) (resolve S (binders now) (raw_term t)) → all' ≡ all ++ u ∷ []
    → StandsAll S old new ts all' (drop (i + 1) ts)
all_next S old now new ts all all' i t u at h e more = record {
  is =
      h.is ∙ ap (option_map (before (map resolved all))) (next_all S old ts i t at)
      ∙ ap (λ o. option_map (before (map resolved all)) (option_and_then (λ w. option_map (model.more w) (resolve_all S (binders old) (raw_terms (drop (i + 1) ts)))) o))
      (sym (same_meant S old now t (Some (resolved u)) h.kept e.0))
      ∙ after_more (map resolved all) (resolved u) (resolve_all S (binders old) (raw_terms (drop (i + 1) ts)))
      ∙ ap (λ l. option_map (before l) (resolve_all S (binders old) (raw_terms (drop (i + 1) ts)))) (sym (ap (map resolved) more ∙ map-append resolved all (u ∷ [])));
  kept = kept_on old now new h.kept e.1;
}

pub all_none : (S : Scope) (old now : Binders) (ts : List RawTerm) (all : List Resolved) (i : ℕ) (t : RawTerm) → slice_get ts i ≡ Some t
    → StandsAll S old now ts all (drop i ts) → None ≡ resolve S (binders now) (raw_term t) → None ≡ resolve_all S (binders old) (raw_terms ts)
all_none S old now ts all i t at h e =
    sym (h.is ∙ ap (option_map (before (map resolved all))) (next_all S old ts i t at)
    ∙ ap (λ o. option_map (before (map resolved all)) (option_and_then (λ w. option_map (model.more w) (resolve_all S (binders old) (raw_terms (drop (i + 1) ts)))) o))
    (sym (same_meant S old now t None h.kept e)))

pub all_last : (S : Scope) (old now : Binders) (ts : List RawTerm) (all : List Resolved) → StandsAll S old now ts all []
    → Finds old now (Some (all_resolved all)) (resolve_all S (binders old) (raw_terms ts))
all_last S old now ts all h = (sym (h.is ∙ ap Some (before_none (map resolved all))), h.kept)

-- ---- branches

-- branches in front of others
abbrev pub ahead : List typing.Seen → model.Branches → model.Branches
ahead [] us = us
ahead (b ∷ bs) us = model.branch b.head b.names b.body (ahead bs us)

ahead_none : (bs : List typing.Seen) → ahead bs model.end ≡ typing.branched bs
ahead_none [] = refl
ahead_none (b ∷ bs) = ap (model.branch b.head b.names b.body) (ahead_none bs)

ahead_more : (bs : List typing.Seen) (b : typing.Seen) (us : model.Branches) → ahead bs (model.branch b.head b.names b.body us) ≡ ahead (bs ++ b ∷ []) us
ahead_more [] b us = refl
ahead_more (c ∷ bs) b us = ap (model.branch c.head c.names c.body) (ahead_more bs b us)

after_ahead : (all : List typing.Seen) (b : typing.Seen) (o : Option model.Branches)
    → option_map (ahead all) (option_map (model.branch b.head b.names b.body) o) ≡ option_map (ahead (all ++ b ∷ [])) o
after_ahead all b None = refl
after_ahead all b (Some us) = ap Some (ahead_more all b us)

branch_first : (S : Scope) (locs : Locs) (b : view.Seen) (rest : raw.RawBranches)
    → resolve_branches S locs (raw.branch b.head b.variables b.body rest)
    ≡ option_and_then (λ (u : typing.Seen). option_map (model.branch u.head u.names u.body) (resolve_branches S locs rest)) (branch_meant S locs b)
branch_first S locs b rest = go (may_bind_all S locs b.variables) (head_meant S.declared b.head) (resolve S (reverse b.variables ++ locs) b.body) (resolve_branches S locs rest)
  where
    go : (c : Bool) (h : Option model.Head) (o : Option model.Resolved) (r : Option model.Branches)
        → (if c then option_and_then (λ h. option_and_then (λ u. option_map (model.branch h (map name_of b.variables) u) r) o) h else None)
        ≡ option_and_then (λ (u : typing.Seen). option_map (model.branch u.head u.names u.body) r)
        (if c then option_and_then (λ h. option_map (λ u. (let s : typing.Seen = record { head = h; names = map name_of b.variables; body = u } in s)) o) h else None)
    go false h o r = refl
    go true None o r = refl
    go true (Some h) None r = refl
    go true (Some h) (Some u) r = refl

pub record StandsBranches (S : Scope) (old now : Binders) (bs : List RawBranch) (all : List Branch) (rest : List RawBranch) : Type 0 where
  pub is : resolve_branches S (binders old) (raw_branches bs) ≡ option_map (ahead (map typing.seen all)) (resolve_branches S (binders old) (raw_branches rest))
  pub kept : AreKept old now

pub branches_first : (S : Scope) (b : Binders) (bs : List RawBranch) → AreRight b → StandsBranches S b b bs [] bs
branches_first S b bs h = record { is = same (resolve_branches S (binders b) (raw_branches bs)); kept = kept_same b h }
  where
    same : (o : Option model.Branches) → o ≡ option_map (ahead []) o
    same None = refl
    same (Some us) = refl

next_branches : (S : Scope) (old : Binders) (bs : List RawBranch) (i : ℕ) (b : RawBranch) → slice_get bs i ≡ Some b
    → resolve_branches S (binders old) (raw_branches (drop i bs))
    ≡ option_and_then (λ (u : typing.Seen). option_map (model.branch u.head u.names u.body) (resolve_branches S (binders old) (raw_branches (drop (i + 1) bs)))) (branch_meant S (binders old) (seen b))
next_branches S old bs i b e =
    ap (λ l. resolve_branches S (binders old) (raw_branches l)) (drop_at bs i b e ∙ ap (λ n. b ∷ drop n bs) (let s : suc i ≡ i + 1 = omega arith in s))
    ∙ branch_first S (binders old) (seen b) (raw_branches (drop (i + 1) bs))

pub branches_next : (S : Scope) (old now new : Binders) (bs : List RawBranch) (all all' : List Branch) (i : ℕ) (b : RawBranch) (u : Branch) → slice_get bs i ≡ Some b
    → StandsBranches S old now bs all (drop i bs) → Finds now new (Some (typing.seen u)) (branch_meant S (binders now) (seen b)) → all' ≡ all ++ u ∷ []
    → StandsBranches S old new bs all' (drop (i + 1) bs)
branches_next S old now new bs all all' i b u at h e more = record {
  is =
      h.is ∙ ap (option_map (ahead (map typing.seen all))) (next_branches S old bs i b at)
      ∙ ap (λ o. option_map (ahead (map typing.seen all)) (option_and_then (λ (w : typing.Seen). option_map (model.branch w.head w.names w.body) (resolve_branches S (binders old) (raw_branches (drop (i + 1) bs)))) o))
      (sym (e.0 ∙ ap (λ l. branch_meant S l (seen b)) h.kept.is))
      ∙ after_ahead (map typing.seen all) (typing.seen u) (resolve_branches S (binders old) (raw_branches (drop (i + 1) bs)))
      ∙ ap (λ l. option_map (ahead l) (resolve_branches S (binders old) (raw_branches (drop (i + 1) bs)))) (sym (ap (map typing.seen) more ∙ map-append typing.seen all (u ∷ [])));
  kept = kept_on old now new h.kept e.1;
}

pub branches_none : (S : Scope) (old now : Binders) (bs : List RawBranch) (all : List Branch) (i : ℕ) (b : RawBranch) → slice_get bs i ≡ Some b
    → StandsBranches S old now bs all (drop i bs) → None ≡ branch_meant S (binders now) (seen b) → None ≡ resolve_branches S (binders old) (raw_branches bs)
branches_none S old now bs all i b at h e =
    sym (h.is ∙ ap (option_map (ahead (map typing.seen all))) (next_branches S old bs i b at)
    ∙ ap (λ o. option_map (ahead (map typing.seen all)) (option_and_then (λ (w : typing.Seen). option_map (model.branch w.head w.names w.body) (resolve_branches S (binders old) (raw_branches (drop (i + 1) bs)))) o))
    (sym (e ∙ ap (λ l. branch_meant S l (seen b)) h.kept.is)))

pub branches_last : (S : Scope) (old now : Binders) (bs : List RawBranch) (all : List Branch) → StandsBranches S old now bs all []
    → Finds old now (Some (branches all)) (resolve_branches S (binders old) (raw_branches bs))
branches_last S old now bs all h = (sym (h.is ∙ ap Some (ahead_none (map typing.seen all))), h.kept)

pub all_right : (S : Scope) (old now : Binders) (ts : List RawTerm) (all : List Resolved) (rest : List RawTerm) → StandsAll S old now ts all rest → AreRight now
all_right S old now ts all rest h = h.kept.right

pub branches_right : (S : Scope) (old now : Binders) (bs : List RawBranch) (all : List Branch) (rest : List RawBranch) → StandsBranches S old now bs all rest
    → AreRight now
branches_right S old now bs all rest h = h.kept.right

pub ruleset listing = (all_first, all_none, all_right, branches_first, branches_none, branches_right, nodes_at, branch_nodes_at)

-- ---- under binders

drop_front : {A : Type 0} (xs ys : List A) → drop (length xs) (xs ++ ys) ≡ ys
drop_front [] ys = refl
drop_front (x ∷ xs) ys = drop_front xs ys

front_length : {A : Type 0} (xs ys : List A) → length (xs ++ ys) ≡ length xs + length ys
front_length [] ys = omega arith
front_length (x ∷ xs) ys = let k = front_length xs ys in omega (arith, k)

back : {A : Type 0} (xs ys zs : List A) (n : ℕ) → zs ≡ xs ++ ys → n ≡ length ys → drop (length zs - n) zs ≡ ys
back xs ys zs n e f =
    let l : length zs - n ≡ length xs = (let a = ap length e ∙ front_length xs ys in omega (arith, a, f)) in
    ap (λ m. drop m zs) l ∙ ap (drop (length xs)) e ∙ drop_front xs ys

-- the variables that are bound inside are gone again
gone : (a b c d : Binders) (xs : Locs) (n : ℕ) → binders b ≡ xs ++ binders a → AreKept b c → AreLeft c d n → n ≡ length (binders a) → AreKept a d
gone a b c d xs n e k l f = record { is = l.is ∙ back xs (binders a) (binders c) n (k.is ∙ e) f; right = l.right }

two_items : {A : Type 0} (ts : List A) (p q : A) → length ts ≡ 2 → p ≡ get_or ts 0 p → q ≡ get_or ts 1 q → ts ≡ p ∷ q ∷ []
two_items [] p q e f g = cc e
two_items (t ∷ []) p q e f g = absurd (omega (arith, e))
two_items (t ∷ u ∷ []) p q e f g = λ i. sym f i ∷ sym g i ∷ []
two_items (t ∷ u ∷ v ∷ ts) p q e f g = absurd (omega (arith, e))

one_item : {A : Type 0} (ts : List A) (p : A) → length ts ≡ 1 → p ≡ get_or ts 0 p → ts ≡ p ∷ []
one_item [] p e f = cc e
one_item (t ∷ []) p e f = λ i. sym f i ∷ []
one_item (t ∷ u ∷ ts) p e f = absurd (omega (arith, e))

let_meant : (S : Scope) (locs : Locs) (x : Binder) (ts : List RawTerm) (p q : RawTerm) → ts ≡ p ∷ q ∷ []
    → resolve S locs (bound_in x (map raw_term ts))
    ≡ (if may_bind S locs x then option_and_then (λ u. option_map (model.bind u) (resolve S (x ∷ locs) (raw_term q))) (resolve S locs (raw_term p)) else None)
let_meant S locs x ts p q e = ap (λ l. resolve S locs (bound_in x (map raw_term l))) e

pub let_found : (S : Scope) (a b c d f : Binders) (x : Binder) (ts : List RawTerm) (p q : RawTerm) (t body : Resolved) (n : ℕ) → length ts ≡ 2
    → p ≡ get_or ts 0 p → q ≡ get_or ts 1 q → Finds a b (Some (resolved t)) (resolve S (binders a) (raw_term p)) → n ≡ length (binders b) → Enters S b c x true
    → Finds c d (Some (resolved body)) (resolve S (binders c) (raw_term q)) → AreLeft d f n
    → Finds a f (Some (resolved (resolveds.Let t body))) (resolve S (binders a) (bound_in x (map raw_term ts)))
let_found S a b c d f x ts p q t body n two at_p at_q ht before hx hb hl = (
  ap Some (resolved-Let t body)
      ∙ ap (λ o. option_map (model.bind (resolved t)) o) (hb.0 ∙ ap (λ l. resolve S l (raw_term q)) (hx.1.is ∙ ap (λ l. x ∷ l) ht.1.is))
      ∙ ap (option_and_then (λ u. option_map (model.bind u) (resolve S (x ∷ binders a) (raw_term q)))) ht.0
      ∙ ap (λ m. if m then option_and_then (λ u. option_map (model.bind u) (resolve S (x ∷ binders a) (raw_term q))) (resolve S (binders a) (raw_term p)) else None)
      (sym (ap (λ l. may_bind S l x) (sym ht.1.is) ∙ hx.0))
      ∙ sym (let_meant S (binders a) x ts p q (two_items ts p q two at_p at_q)),
  kept_on a b f ht.1 (gone b c d f (x ∷ []) n hx.1.is hb.1 hl before),
)

pub let_no_term : (S : Scope) (a : Binders) (x : Binder) (ts : List RawTerm) (p : RawTerm) → length ts ≡ 2 → p ≡ get_or ts 0 p
    → None ≡ resolve S (binders a) (raw_term p) → None ≡ resolve S (binders a) (bound_in x (map raw_term ts))
let_no_term S a x ts p two at_p h =
    go (may_bind S (binders a) x) ∙ ap (λ o. if may_bind S (binders a) x then option_and_then (λ u. option_map (model.bind u) (resolve S (x ∷ binders a) (raw_term (get_or ts 1 p)))) o else None) h
    ∙ sym (let_meant S (binders a) x ts p (get_or ts 1 p) (two_items ts p (get_or ts 1 p) two at_p (second ts two)))
  where
    go : (m : Bool) → (let n : Option model.Resolved = None in n) ≡ (if m then None else None)
    go true = refl
    go false = refl

    second : (ts : List RawTerm) → length ts ≡ 2 → get_or ts 1 p ≡ get_or ts 1 (get_or ts 1 p)
    second [] e = cc e
    second (t ∷ []) e = absurd (omega (arith, e))
    second (t ∷ u ∷ ts) e = refl

pub let_bad : (S : Scope) (a b c : Binders) (x : Binder) (ts : List RawTerm) (p : RawTerm) (t : Resolved) → length ts ≡ 2 → p ≡ get_or ts 0 p
    → Finds a b (Some (resolved t)) (resolve S (binders a) (raw_term p)) → Enters S b c x false
    → None ≡ resolve S (binders a) (bound_in x (map raw_term ts))
let_bad S a b c x ts p t two at_p ht hx =
    ap (λ m. if m then option_and_then (λ u. option_map (model.bind u) (resolve S (x ∷ binders a) (raw_term (get_or ts 1 p)))) (resolve S (binders a) (raw_term p)) else None)
    (sym (ap (λ l. may_bind S l x) (sym ht.1.is) ∙ hx))
    ∙ sym (let_meant S (binders a) x ts p (get_or ts 1 p) (two_items ts p (get_or ts 1 p) two at_p (second ts two)))
  where
    second : (ts : List RawTerm) → length ts ≡ 2 → get_or ts 1 p ≡ get_or ts 1 (get_or ts 1 p)
    second [] e = cc e
    second (t ∷ []) e = absurd (omega (arith, e))
    second (t ∷ u ∷ ts) e = refl

pub let_no_body : (S : Scope) (a b c : Binders) (x : Binder) (ts : List RawTerm) (p q : RawTerm) (t : Resolved) → length ts ≡ 2
    → p ≡ get_or ts 0 p → q ≡ get_or ts 1 q → Finds a b (Some (resolved t)) (resolve S (binders a) (raw_term p)) → Enters S b c x true
    → None ≡ resolve S (binders c) (raw_term q) → None ≡ resolve S (binders a) (bound_in x (map raw_term ts))
let_no_body S a b c x ts p q t two at_p at_q ht hx hb =
    ap (λ o. option_map (model.bind (resolved t)) o) (hb ∙ ap (λ l. resolve S l (raw_term q)) (hx.1.is ∙ ap (λ l. x ∷ l) ht.1.is))
    ∙ ap (option_and_then (λ u. option_map (model.bind u) (resolve S (x ∷ binders a) (raw_term q)))) ht.0
    ∙ ap (λ m. if m then option_and_then (λ u. option_map (model.bind u) (resolve S (x ∷ binders a) (raw_term q))) (resolve S (binders a) (raw_term p)) else None)
    (sym (ap (λ l. may_bind S l x) (sym ht.1.is) ∙ hx.0))
    ∙ sym (let_meant S (binders a) x ts p q (two_items ts p q two at_p at_q))

pub same_let : (S : Scope) (a b : Binders) (x : grammar.Binder) (ts : List RawTerm) (o : Option Resolved)
    → Finds a b (option_map resolved o) (resolve S (binders a) (bound_in (binder x) (map raw_term ts)))
    → Finds a b (option_map resolved o) (resolve S (binders a) (raw_term (terms.Let x ts)))
same_let S a b x ts o h = subst (λ t. Finds a b (option_map resolved o) (resolve S (binders a) t)) (sym (raw_term-Let x ts)) h

pub let_unread : (S : Scope) (a : Binders) (x : grammar.Binder) (ts : List RawTerm) → ¬ (length ts ≡ 2) → None ≡ resolve S (binders a) (raw_term (terms.Let x ts))
let_unread S a x ts h = go ts h ∙ sym (ap (resolve S (binders a)) (raw_term-Let x ts))
  where
    go : (ts : List RawTerm) → ¬ (length ts ≡ 2) → None ≡ resolve S (binders a) (bound_in (binder x) (map raw_term ts))
    go [] h = refl
    go (t ∷ []) h = refl
    go (t ∷ u ∷ []) h = absurd (h refl)
    go (t ∷ u ∷ v ∷ ts) h = refl

-- ---- `case`

case_meant : (S : Scope) (locs : Locs) (ts : List RawTerm) (bs : List RawBranch) (p : RawTerm) → ts ≡ p ∷ []
    → resolve S locs (case_of (raw_branches bs) (map raw_term ts))
    ≡ option_and_then (λ u. option_map (λ vs. model.case (datatype_of_first S.declared vs) u vs) (resolve_branches S locs (raw_branches bs))) (resolve S locs (raw_term p))
case_meant S locs ts bs p e = ap (λ l. resolve S locs (case_of (raw_branches bs) (map raw_term l))) e

pub case_found : (S : Scope) (a b c : Binders) (ts : List RawTerm) (bs : List RawBranch) (p : RawTerm) (t : Resolved) (us : List Branch) (d : ℕ) → length ts ≡ 1
    → p ≡ get_or ts 0 p → Finds a b (Some (resolved t)) (resolve S (binders a) (raw_term p))
    → Finds b c (Some (branches us)) (resolve_branches S (binders b) (raw_branches bs)) → d ≡ datatype_of_first S.declared (branches us)
    → Finds a c (Some (resolved (resolveds.Case d t us))) (resolve S (binders a) (case_of (raw_branches bs) (map raw_term ts)))
case_found S a b c ts bs p t us d one at_p ht hb hd = (
  ap Some (resolved-Case d t us ∙ ap (λ n. model.case n (resolved t) (branches us)) hd)
      ∙ ap (option_map (λ vs. model.case (datatype_of_first S.declared vs) (resolved t) vs)) (hb.0 ∙ ap (λ l. resolve_branches S l (raw_branches bs)) ht.1.is)
      ∙ ap (option_and_then (λ u. option_map (λ vs. model.case (datatype_of_first S.declared vs) u vs) (resolve_branches S (binders a) (raw_branches bs)))) ht.0
      ∙ sym (case_meant S (binders a) ts bs p (one_item ts p one at_p)),
  kept_on a b c ht.1 hb.1,
)

pub case_no_term : (S : Scope) (a : Binders) (ts : List RawTerm) (bs : List RawBranch) (p : RawTerm) → length ts ≡ 1 → p ≡ get_or ts 0 p
    → None ≡ resolve S (binders a) (raw_term p) → None ≡ resolve S (binders a) (case_of (raw_branches bs) (map raw_term ts))
case_no_term S a ts bs p one at_p h =
    ap (option_and_then (λ u. option_map (λ vs. model.case (datatype_of_first S.declared vs) u vs) (resolve_branches S (binders a) (raw_branches bs)))) h
    ∙ sym (case_meant S (binders a) ts bs p (one_item ts p one at_p))

pub case_no_branches : (S : Scope) (a b : Binders) (ts : List RawTerm) (bs : List RawBranch) (p : RawTerm) (t : Resolved) → length ts ≡ 1
    → p ≡ get_or ts 0 p → Finds a b (Some (resolved t)) (resolve S (binders a) (raw_term p))
    → None ≡ resolve_branches S (binders b) (raw_branches bs) → None ≡ resolve S (binders a) (case_of (raw_branches bs) (map raw_term ts))
case_no_branches S a b ts bs p t one at_p ht hb =
    ap (option_map (λ vs. model.case (datatype_of_first S.declared vs) (resolved t) vs)) (hb ∙ ap (λ l. resolve_branches S l (raw_branches bs)) ht.1.is)
    ∙ ap (option_and_then (λ u. option_map (λ vs. model.case (datatype_of_first S.declared vs) u vs) (resolve_branches S (binders a) (raw_branches bs)))) ht.0
    ∙ sym (case_meant S (binders a) ts bs p (one_item ts p one at_p))

pub same_case : (S : Scope) (a b : Binders) (ts : List RawTerm) (bs : List RawBranch) (o : Option Resolved)
    → Finds a b (option_map resolved o) (resolve S (binders a) (case_of (raw_branches bs) (map raw_term ts)))
    → Finds a b (option_map resolved o) (resolve S (binders a) (raw_term (terms.Case ts bs)))
same_case S a b ts bs o h = subst (λ t. Finds a b (option_map resolved o) (resolve S (binders a) t)) (sym (raw_term-Case ts bs)) h

pub case_unread : (S : Scope) (a : Binders) (ts : List RawTerm) (bs : List RawBranch) → ¬ (length ts ≡ 1) → None ≡ resolve S (binders a) (raw_term (terms.Case ts bs))
case_unread S a ts bs h = go ts h ∙ sym (ap (resolve S (binders a)) (raw_term-Case ts bs))
  where
    go : (ts : List RawTerm) → ¬ (length ts ≡ 1) → None ≡ resolve S (binders a) (case_of (raw_branches bs) (map raw_term ts))
    go [] h = refl
    go (t ∷ []) h = absurd (h refl)
    go (t ∷ u ∷ ts) h = refl

-- ---- a branch

branch_parts : (S : Scope) (locs : Locs) (b : RawBranch)
    → branch_meant S locs (seen b)
    ≡ (if may_bind_all S locs (map binder b.vars)
    then option_and_then
    (λ h. option_map (λ u. (let s : typing.Seen = record { head = h; names = map name_of (map binder b.vars); body = u } in s)) (resolve S (reverse (map binder b.vars) ++ locs) (raw_term b.body)))
    (head_meant S.declared (head b.con))
    else None)
branch_parts S locs b = ap (branch_meant S locs) (seen-RawBranch b)

pub branch_found : (S : Scope) (a b c d : Binders) (r : RawBranch) (h : Head) (names : List (List ℕ)) (body : Resolved) (n : ℕ) → Some (typing.head h) ≡ head_meant S.declared (head r.con)
    → n ≡ length (binders a) → EntersAll S a b (map binder r.vars) true → Finds b c (Some (resolved body)) (resolve S (binders b) (raw_term r.body)) → AreLeft c d n
    → names ≡ map name_of (map binder r.vars)
    → Finds a d (Some (typing.seen (record { head = h; names = names; body = body }))) (branch_meant S (binders a) (seen r))
branch_found S a b c d r h names body n hh before hx hb hl hn = (
  ap Some (seen-Branch (record { head = h; names = names; body = body })
      ∙ ap (λ l. (let s : typing.Seen = record { head = typing.head h; names = l; body = resolved body } in s)) hn)
      ∙ ap (option_map (λ u. (let s : typing.Seen = record { head = typing.head h; names = map name_of (map binder r.vars); body = u } in s))) (hb.0 ∙ ap (λ l. resolve S l (raw_term r.body)) hx.1.is)
      ∙ ap (option_and_then (λ h. option_map (λ u. (let s : typing.Seen = record { head = h; names = map name_of (map binder r.vars); body = u } in s)) (resolve S (reverse (map binder r.vars) ++ binders a) (raw_term r.body)))) hh
      ∙ ap (λ m. if m then option_and_then (λ h. option_map (λ u. (let s : typing.Seen = record { head = h; names = map name_of (map binder r.vars); body = u } in s)) (resolve S (reverse (map binder r.vars) ++ binders a) (raw_term r.body))) (head_meant S.declared (head r.con)) else None)
      (sym hx.0)
      ∙ sym (branch_parts S (binders a) r),
  gone a b c d (reverse (map binder r.vars)) n hx.1.is hb.1 hl before,
)

pub branch_no_head : (S : Scope) (a : Binders) (r : RawBranch) → None ≡ head_meant S.declared (head r.con) → None ≡ branch_meant S (binders a) (seen r)
branch_no_head S a r e =
    go (may_bind_all S (binders a) (map binder r.vars))
    ∙ ap (λ o. if may_bind_all S (binders a) (map binder r.vars) then option_and_then (λ h. option_map (λ u. (let s : typing.Seen = record { head = h; names = map name_of (map binder r.vars); body = u } in s)) (resolve S (reverse (map binder r.vars) ++ binders a) (raw_term r.body))) o else None) e
    ∙ sym (branch_parts S (binders a) r)
  where
    go : (m : Bool) → (let n : Option typing.Seen = None in n) ≡ (if m then None else None)
    go true = refl
    go false = refl

pub branch_bad : (S : Scope) (a b : Binders) (r : RawBranch) → EntersAll S a b (map binder r.vars) false → None ≡ branch_meant S (binders a) (seen r)
branch_bad S a b r e =
    ap (λ m. if m then option_and_then (λ h. option_map (λ u. (let s : typing.Seen = record { head = h; names = map name_of (map binder r.vars); body = u } in s)) (resolve S (reverse (map binder r.vars) ++ binders a) (raw_term r.body))) (head_meant S.declared (head r.con)) else None)
    (sym e)
    ∙ sym (branch_parts S (binders a) r)

pub branch_no_body : (S : Scope) (a b : Binders) (r : RawBranch) (h : Head) → Some (typing.head h) ≡ head_meant S.declared (head r.con)
    → EntersAll S a b (map binder r.vars) true → None ≡ resolve S (binders b) (raw_term r.body) → None ≡ branch_meant S (binders a) (seen r)
branch_no_body S a b r h hh hx hb =
    ap (option_map (λ u. (let s : typing.Seen = record { head = typing.head h; names = map name_of (map binder r.vars); body = u } in s))) (hb ∙ ap (λ l. resolve S l (raw_term r.body)) hx.1.is)
    ∙ ap (option_and_then (λ h. option_map (λ u. (let s : typing.Seen = record { head = h; names = map name_of (map binder r.vars); body = u } in s)) (resolve S (reverse (map binder r.vars) ++ binders a) (raw_term r.body)))) hh
    ∙ ap (λ m. if m then option_and_then (λ h. option_map (λ u. (let s : typing.Seen = record { head = h; names = map name_of (map binder r.vars); body = u } in s)) (resolve S (reverse (map binder r.vars) ++ binders a) (raw_term r.body))) (head_meant S.declared (head r.con)) else None)
    (sym hx.0)
    ∙ sym (branch_parts S (binders a) r)

-- room is left where the variables of a branch are gone
pub room : (S : Scope) (a b c : Binders) (xs : Locs) (n : ℕ) → n ≡ length (binders a) → EntersAll S a b xs true → AreKept b c → n ≤ length (binders c)
room S a b c xs n e hx k =
    let l : length (binders c) ≡ length (reverse xs) + length (binders a) = ap length k.is ∙ ap length hx.1.is ∙ front_length (reverse xs) (binders a) in
    omega (arith, e, l)

pub let_room : (S : Scope) (a b c : Binders) (x : Binder) (n : ℕ) → n ≡ length (binders a) → Enters S a b x true → AreKept b c → n ≤ length (binders c)
let_room S a b c x n e hx k =
    let l : length (binders c) ≡ suc (length (binders a)) = ap length k.is ∙ ap length hx.1.is in
    omega (arith, e, l)

pub ruleset resolving = (num_found, truth_found, free_found, free_none, bound_found, bound_none, op_found, op_none, if_found, if_none, same_use, use_found, use_none, use_unknown, let_found, let_no_term, let_bad, let_no_body, same_let, let_unread, case_found, case_no_term, case_no_branches, same_case, case_unread, branch_found, branch_no_head, branch_bad, branch_no_body, room, let_room)
