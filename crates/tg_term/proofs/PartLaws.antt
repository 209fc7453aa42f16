-- The terms below a root, at their places, and other terms put in their places.
use Rattle.std.proofs.Common.{ℕ, zero, suc, ◌≡◌, ◌≢◌, ◌<◌, ◌≤◌, ◌+◌, ◌-◌, List, [], ◌∷◌, ◌++◌, map, length, take, drop, get_or, Some, None, refl, ap, subst, sym, ◌∙◌, arith, add-one, append_assoc}
use Rattle.std.proofs.lemmas.List.{map-append}
use Rattle.std.specs.Prelude.{slice_get, option_map}
use Rattle.std.proofs.lemmas.Option.{same_Some, none-some}
use Rattle.tg_model.specs.Tree as model
use Rattle.tg_model.specs.Tree.{Tree, Trees, Arms, bound, free, literal, truth, con, call, put, choice, case, bind, op, trees}
use Rattle.tg_term.specs.Measures.{height, heights, heights_within}
use Rattle.tg_term.specs.Parts.{Part, outside, body_part, term_of, plain, bodies, parts, with_bodies, with_parts, IsWalked}
use Rattle.tg_term.specs.View.{arms}
use Rattle.tg_term.specs.declared.terms.Branch.{Branch}

pub plain_count : (ts : List Tree) → length (plain (trees ts)) ≡ length ts
plain_count [] = refl
plain_count (t ∷ ts) = ap suc (plain_count ts)

pub bodies_count : (bs : List Branch) → length (bodies (arms bs)) ≡ length bs
bodies_count [] = refl
bodies_count (b ∷ bs) = ap suc (bodies_count bs)

pub case_count : (t : Tree) (bs : List Branch) → 1 + length bs ≡ length (outside t ∷ bodies (arms bs))
case_count t bs = let k = bodies_count bs in omega arith

pub ruleset counts = (plain_count, bodies_count, case_count)

pub plain_at : (ts : List Tree) (i : ℕ) → slice_get (plain (trees ts)) i ≡ option_map outside (slice_get ts i)
plain_at [] i = refl
plain_at (t ∷ ts) zero = refl
plain_at (t ∷ ts) (suc i) = plain_at ts i

pub bodies_at : (bs : List Branch) (i : ℕ) → slice_get (bodies (arms bs)) i ≡ option_map body_part (slice_get bs i)
bodies_at [] i = refl
bodies_at (b ∷ bs) zero = refl
bodies_at (b ∷ bs) (suc i) = bodies_at bs i

pub first_at : {A : Type 0} (x : A) (xs : List A) (i : ℕ) → i < 1 → slice_get (x ∷ xs) i ≡ Some x
first_at x xs zero h = refl
first_at x xs (suc i) h = absurd (omega arith)

pub later_at : {A : Type 0} (x : A) (xs : List A) (i : ℕ) → 1 ≤ i → slice_get (x ∷ xs) i ≡ slice_get xs (i - 1)
later_at x xs zero h = absurd (omega arith)
later_at x xs (suc i) h = let e : suc i - 1 ≡ i = omega arith in rw e refl

pub ruleset places = (plain_at, bodies_at, first_at, later_at)

-- what stands from a place on
pub drop_at : {A : Type 0} (xs : List A) (i : ℕ) (x : A) → slice_get xs i ≡ Some x → drop i xs ≡ x ∷ drop (suc i) xs
drop_at [] i x e = absurd (none-some x e)
drop_at (y ∷ ys) zero x e = ap (λ z. z ∷ ys) (same_Some y x e)
drop_at (y ∷ ys) (suc i) x e = drop_at ys i x e

pub take_at : {A : Type 0} (xs : List A) (i : ℕ) (x : A) → slice_get xs i ≡ Some x → take (suc i) xs ≡ take i xs ++ x ∷ []
take_at [] i x e = absurd (none-some x e)
take_at (y ∷ ys) zero x e = ap (λ z. z ∷ []) (same_Some y x e)
take_at (y ∷ ys) (suc i) x e = ap (λ zs. y ∷ zs) (take_at ys i x e)

-- a part is less high
plain_lower : (ts : Trees) (i : ℕ) (p : Part) → slice_get (plain ts) i ≡ Some p → height p.term < heights ts
plain_lower model.none i p e = absurd (none-some p e)
plain_lower (model.more t ts) zero p e = let s : height t ≡ height p.term = ap (λ (q : Part). height q.term) (same_Some _ p e) in omega arith
plain_lower (model.more t ts) (suc i) p e = let k = plain_lower ts i p e in omega arith

bodies_lower : (bs : Arms) (i : ℕ) (p : Part) → slice_get (bodies bs) i ≡ Some p → height p.term < heights_within bs
bodies_lower model.end i p e = absurd (none-some p e)
bodies_lower (model.arm n t bs) zero p e = let s : height t ≡ height p.term = ap (λ (q : Part). height q.term) (same_Some _ p e) in omega arith
bodies_lower (model.arm n t bs) (suc i) p e = let k = bodies_lower bs i p e in omega arith

pub part_lower : (t : Tree) (i : ℕ) (p : Part) → slice_get (parts t) i ≡ Some p → height p.term < height t
part_lower (bound k) i p e = absurd (none-some p e)
part_lower (free n) i p e = absurd (none-some p e)
part_lower (literal n) i p e = absurd (none-some p e)
part_lower (truth b) i p e = absurd (none-some p e)
part_lower (con c ts) i p e = plain_lower ts i p e
part_lower (call f ts) i p e = plain_lower ts i p e
part_lower (put ts) i p e = plain_lower ts i p e
part_lower (choice ts) i p e = plain_lower ts i p e
part_lower (case d t bs) zero p e = let s : height t ≡ height p.term = ap (λ (q : Part). height q.term) (same_Some _ p e) in omega arith
part_lower (case d t bs) (suc i) p e = let k = bodies_lower bs i p e in omega arith
part_lower (bind t body) zero p e = let s : height t ≡ height p.term = ap (λ (q : Part). height q.term) (same_Some _ p e) in omega arith
part_lower (bind t body) (suc zero) p e = let s : height body ≡ height p.term = ap (λ (q : Part). height q.term) (same_Some _ p e) in omega arith
part_lower (bind t body) (suc (suc i)) p e = absurd (none-some p e)
part_lower (op o ts) i p e = plain_lower ts i p e

-- the branches with other bodies, as the program makes them
abbrev pub rebodied : List Branch → List Tree → List Branch
rebodied (b ∷ bs) (u ∷ us) = record { vars = b.vars; body = u } ∷ rebodied bs us
rebodied _ _ = []

pub rebodied_arms : (bs : List Branch) (us : List Tree) → with_bodies (arms bs) us ≡ arms (rebodied bs us)
rebodied_arms [] us = refl
rebodied_arms (b ∷ bs) [] = refl
rebodied_arms (b ∷ bs) (u ∷ us) = ap (model.arm b.vars u) (rebodied_arms bs us)

rebodied_next : (bs : List Branch) (us : List Tree) (i : ℕ) (b : Branch) (u : Tree) → slice_get bs i ≡ Some b → slice_get us i ≡ Some u
    → rebodied (take (suc i) bs) us ≡ rebodied (take i bs) us ++ record { vars = b.vars; body = u } ∷ []
rebodied_next [] us i b u e f = absurd (none-some b e)
rebodied_next (c ∷ bs) [] i b u e f = absurd (none-some u f)
rebodied_next (c ∷ bs) (v ∷ us) zero b u e f =
    let s : c ≡ b = same_Some c b e in let r : v ≡ u = same_Some v u f in λ j. record { vars = (s j).vars; body = r j } ∷ []
rebodied_next (c ∷ bs) (v ∷ us) (suc i) b u e f = ap (λ rest. record { vars = c.vars; body = v } ∷ rest) (rebodied_next bs us i b u e f)

pub rebodied_more : (bs : List Branch) (us : List Tree) (i : ℕ) (b : Branch) (u : Tree) → slice_get bs i ≡ Some b → slice_get us i ≡ Some u
    → rebodied (take (i + 1) bs) us ≡ rebodied (take i bs) us ++ record { vars = b.vars; body = u } ∷ []
rebodied_more bs us i b u e f = rw (add-one i) (rebodied_next bs us i b u e f)

pub none_within : {A : Type 0} (xs : List A) (i : ℕ) → i < length xs → ¬ (slice_get xs i ≡ None)
none_within [] i h e = omega arith
none_within (x ∷ xs) zero h e = none-some x (sym e)
none_within (x ∷ xs) (suc i) h e = none_within xs i (omega arith) e

pub case_with : (d : ℕ) (t : Tree) (bs : Arms) (us : List Tree) (x : Tree) → 1 ≤ length us
    → with_parts (case d t bs) us ≡ case d (get_or us 0 x) (with_bodies bs (drop 1 us))
case_with d t bs [] x h = absurd (omega arith)
case_with d t bs (u ∷ us) x h = refl

pub bind_with : (t body : Tree) (us : List Tree) (x y : Tree) → length us ≡ 2 → with_parts (bind t body) us ≡ bind (get_or us 0 x) (get_or us 1 y)
bind_with t body [] x y h = absurd (omega arith)
bind_with t body (u ∷ []) x y h = absurd (omega arith)
bind_with t body (u ∷ v ∷ []) x y h = refl
bind_with t body (u ∷ v ∷ w ∷ us) x y h = absurd (omega arith)

pub ruleset replacing = (plain_count, bodies_count, case_count, rebodied_arms, case_with, bind_with)

-- the terms of the first parts, one after the other
pub taken_next : (ps : List Part) (i : ℕ) (p : Part) (us vs ws : List Tree) → slice_get ps i ≡ Some p → vs ≡ us ++ map term_of (take i ps)
    → ws ≡ vs ++ p.term ∷ [] → ws ≡ us ++ map term_of (take (i + 1) ps)
taken_next ps i p us vs ws e a b =
    b ∙ ap (λ (l : List Tree). l ++ p.term ∷ []) a ∙ append_assoc us (map term_of (take i ps)) (p.term ∷ [])
    ∙ ap (λ (l : List Tree). us ++ l) (sym (map-append term_of (take i ps) (p ∷ [])))
    ∙ ap (λ (l : List Part). us ++ map term_of l) (sym (take_at ps i p e) ∙ ap (λ n. take n ps) (sym (add-one i)))

not_ended : (xs : List Tree) (x : Tree) → ¬ (xs ++ x ∷ [] ≡ [])
not_ended [] x h = absurd cc
not_ended (y ∷ ys) x h = absurd cc

module _ (f : Part → Tree) (ps : List Part) (p : Part) where
  -- nothing is replaced yet
  pub kept_with : (us : List Tree) → us ≡ [] → f p ≡ p.term → IsWalked f ps us → IsWalked f (ps ++ p ∷ []) us
  kept_with us none same k =
      record {
        kept = λ _. map-append f ps (p ∷ []) ∙ (λ j. k.kept none j ++ same j ∷ []) ∙ sym (map-append term_of ps (p ∷ []));
        made = λ some. absurd (some none);
      }

  pub added_with : (us vs : List Tree) (u : Tree) → us ≢ [] → f p ≡ u → vs ≡ us ++ u ∷ [] → IsWalked f ps us → IsWalked f (ps ++ p ∷ []) vs
  added_with us vs u some same here k =
      record {
        kept = λ none. absurd (not_ended us u (sym here ∙ none));
        made = λ _. here ∙ (λ j. k.made some j ++ sym same j ∷ []) ∙ sym (map-append f ps (p ∷ []));
      }

  pub begun_with : (us ws vs : List Tree) (u : Tree) → us ≡ [] → f p ≡ u → ws ≡ us ++ map term_of ps → vs ≡ ws ++ u ∷ []
      → IsWalked f ps us → IsWalked f (ps ++ p ∷ []) vs
  begun_with us ws vs u none same shared here k =
      record {
        kept = λ empty. absurd (not_ended ws u (sym here ∙ empty));
        made = λ _. here ∙ (λ j. (shared ∙ ap (λ (l : List Tree). l ++ map term_of ps) none ∙ sym (k.kept none)) j ++ sym same j ∷ []) ∙ sym (map-append f ps (p ∷ []));
      }

module _ (f : Part → Tree) (ps : List Part) (i : ℕ) (p : Part) (e : slice_get ps i ≡ Some p) where
  next : take i ps ++ p ∷ [] ≡ take (i + 1) ps
  next = sym (ap (λ n. take n ps) (add-one i) ∙ take_at ps i p e)

  pub still_kept : (us : List Tree) → us ≡ [] → f p ≡ p.term → IsWalked f (take i ps) us → IsWalked f (take (i + 1) ps) us
  still_kept us none same k = subst (λ (l : List Part). IsWalked f l us) next (kept_with f (take i ps) p us none same k)

  pub added : (us vs : List Tree) (u : Tree) → us ≢ [] → f p ≡ u → vs ≡ us ++ u ∷ [] → IsWalked f (take i ps) us → IsWalked f (take (i + 1) ps) vs
  added us vs u some same here k = subst (λ (l : List Part). IsWalked f l vs) next (added_with f (take i ps) p us vs u some same here k)

  pub begun : (us ws vs : List Tree) (u : Tree) → us ≡ [] → f p ≡ u → ws ≡ us ++ map term_of (take i ps) → vs ≡ ws ++ u ∷ []
      → IsWalked f (take i ps) us → IsWalked f (take (i + 1) ps) vs
  begun us ws vs u none same shared here k =
      subst (λ (l : List Part). IsWalked f l vs) next (begun_with f (take i ps) p us ws vs u none same shared here k)

-- the terms of a list as parts
pub plain_terms : (ts : List Tree) → map term_of (plain (trees ts)) ≡ ts
plain_terms [] = refl
plain_terms (t ∷ ts) = ap (λ (l : List Tree). t ∷ l) (plain_terms ts)

plain_after : (ts : List Tree) (i : ℕ) (t : Tree) → slice_get ts i ≡ Some t → plain (trees (take i ts)) ++ outside t ∷ [] ≡ plain (trees (take (suc i) ts))
plain_after [] i t e = absurd cc
plain_after (x ∷ ts) zero t e = ap (λ (y : Tree). outside y ∷ []) (sym (same_Some x t e))
plain_after (x ∷ ts) (suc i) t e = ap (λ (l : List Part). outside x ∷ l) (plain_after ts i t e)

pub plain_next : (ts : List Tree) (i : ℕ) (t : Tree) → slice_get ts i ≡ Some t → plain (trees (take i ts)) ++ outside t ∷ [] ≡ plain (trees (take (i + 1) ts))
plain_next ts i t e = plain_after ts i t e ∙ ap (λ n. plain (trees (take n ts))) (sym (add-one i))

pub ruleset sharing = (taken_next, none_within)

pub ruleset adding = (still_kept, added, begun)

pub ruleset adding_plain = (kept_with, added_with, begun_with, plain_terms)
