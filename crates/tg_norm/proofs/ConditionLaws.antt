-- The condition that is taken, as the code looks for it.
use Rattle.std.proofs.Common.{ℕ, suc, ◌≡◌, ◌+◌, List, [], ◌∷◌, ◌++◌, drop, Option, Some, None, refl, ap, sym, ◌∙◌, inl, inr, add-one, subst, true, false, ◌<◌, length, get_or, arith}
use Rattle.std.proofs.lemmas.Option.{same_Some, slice_get-get_or}
use Rattle.std.specs.Prelude.{◌⊎◌, slice_get, unwrap_or}
use Rattle.tg_model.specs.Tree as tree
use Rattle.tg_model.specs.Tree.{Tree, Trees, bound, free, literal, truth, con, call, put, choice, case, bind, op, trees}
use Rattle.tg_term.proofs.PartLaws.{drop_at}
use Rattle.tg_norm.specs.Halves.{conditions, all_conditions, or_first, first_plain, condition_of, replaced, IsSplit}
use Rattle.tg_norm.specs.declared.splitting.Branches.{Branches}
use Rattle.tg_term.specs.Measures.{height, heights}
use Rattle.tg_term.proofs.ListHeights.{height_at}

-- what is found first, or else what is found next
abbrev pub or_next : Option Tree → Option Tree → Option Tree
or_next (Some q) o = Some q
or_next None o = o

or_first_next : (l : List Tree) (c : Tree) (o p : Option Tree) → or_first l c (or_next o p) ≡ or_next (or_first l c o) p
or_first_next [] c o p = refl
or_first_next (d ∷ ds) c o p = refl

pub first_append : (cs ds : List Tree) → first_plain (cs ++ ds) ≡ or_next (first_plain cs) (first_plain ds)
first_append [] ds = refl
first_append (c ∷ cs) ds = ap (or_first (conditions c) c) (first_append cs ds) ∙ or_first_next (conditions c) c (first_plain cs) (first_plain ds)

-- there is no outside `if`, or one whose condition has none
abbrev pub Either : List Tree → Type 0
Either cs = (cs ≡ []) ⊎ ((q : Tree) × (first_plain cs ≡ Some q))

either_append : (cs ds : List Tree) → Either cs → Either ds → Either (cs ++ ds)
either_append cs ds (inl e) (inl f) = inl (ap (λ l. l ++ ds) e ∙ f)
either_append cs ds (inl e) (inr (q, f)) = inr (q, ap (λ l. first_plain (l ++ ds)) e ∙ f)
either_append cs ds (inr (q, f)) h = inr (q, first_append cs ds ∙ ap (λ o. or_next o (first_plain ds)) f)

some_left : (l : List Tree) (c q : Tree) (o : Option Tree) → first_plain l ≡ Some q → or_first l c o ≡ o
some_left [] c q o e = absurd (cc e)
some_left (d ∷ ds) c q o e = refl

-- of an `if`: the condition found in its condition, or else its condition
abbrev pub of_choice : Tree → Option Tree
of_choice c = Some (unwrap_or (condition_of c) c)

pub first_of_choice : (c : Tree) (rest : List Tree) → Either (conditions c) → first_plain (c ∷ (conditions c ++ rest)) ≡ of_choice c
first_of_choice c rest (inl e) =
    ap (λ l. or_first l c (first_plain (l ++ rest))) e ∙ ap (λ l. Some (unwrap_or (first_plain l) c)) (sym e)
first_of_choice c rest (inr (q, f)) =
    some_left (conditions c) c q (first_plain (conditions c ++ rest)) f
    ∙ first_append (conditions c) rest ∙ ap (λ o. or_next o (first_plain rest)) f ∙ ap (λ o. Some (unwrap_or o c)) (sym f)

mutual
  pub either : (t : Tree) → Either (conditions t)
  either (bound k) = inl refl
  either (free n) = inl refl
  either (literal n) = inl refl
  either (truth b) = inl refl
  either (con c ts) = all_either ts
  either (call f ts) = all_either ts
  either (put ts) = all_either ts
  either (choice tree.none) = inl refl
  either (choice (tree.more t ts)) = inr (unwrap_or (condition_of t) t, first_of_choice t (all_conditions ts) (either t))
  either (case d t arms) = either t
  either (bind t body) = either_append (conditions t) (conditions body) (either t) (either body)
  either (op o ts) = all_either ts

  all_either : (ts : Trees) → Either (all_conditions ts)
  all_either tree.none = inl refl
  all_either (tree.more t ts) = either_append (conditions t) (all_conditions ts) (either t) (all_either ts)

-- of the terms of an `if`, whose first is its condition
of_terms : (ts : List Tree) (c : Tree) → Some c ≡ slice_get ts 0 → of_choice c ≡ condition_of (choice (trees ts))
of_terms [] c e = absurd (cc e)
of_terms (t ∷ ts) c e = ap of_choice (same_Some c t e) ∙ sym (first_of_choice t (all_conditions (trees ts)) (either t))

pub choice_found : (ts : List Tree) (c q : Tree) → Some c ≡ slice_get ts 0 → Some q ≡ condition_of c → Some q ≡ condition_of (choice (trees ts))
choice_found ts c q e f = ap (λ o. Some (unwrap_or o c)) f ∙ of_terms ts c e

pub choice_own : (ts : List Tree) (c : Tree) → Some c ≡ slice_get ts 0 → None ≡ condition_of c → Some c ≡ condition_of (choice (trees ts))
choice_own ts c e f = ap (λ o. Some (unwrap_or o c)) f ∙ of_terms ts c e

pub choice_none : (ts : List Tree) → None ≡ slice_get ts 0 → None ≡ condition_of (choice (trees ts))
choice_none [] e = refl
choice_none (t ∷ ts) e = absurd (cc e)

pub bind_found : (t body q : Tree) → Some q ≡ condition_of t → Some q ≡ condition_of (bind t body)
bind_found t body q e = ap (λ o. or_next o (condition_of body)) e ∙ sym (first_append (conditions t) (conditions body))

pub bind_other : (t body : Tree) (o : Option Tree) → None ≡ condition_of t → o ≡ condition_of body → o ≡ condition_of (bind t body)
bind_other t body o e f = f ∙ ap (λ p. or_next p (condition_of body)) e ∙ sym (first_append (conditions t) (conditions body))

-- the first of the terms from a place on
abbrev pub first_among : List Tree → Option Tree
first_among ts = first_plain (all_conditions (trees ts))

pub among_next : (ts : List Tree) (k : ℕ) (t : Tree) → slice_get ts k ≡ Some t → first_among (drop k ts) ≡ or_next (condition_of t) (first_among (drop (k + 1) ts))
among_next ts k t e =
    ap first_among (drop_at ts k t e) ∙ first_append (conditions t) (all_conditions (trees (drop (suc k) ts)))
    ∙ ap (λ n. or_next (condition_of t) (first_among (drop n ts))) (sym (add-one k))

read_at : (ts : List Tree) (k : ℕ) (t : Tree) (o : Option Tree) → k < length ts → t ≡ get_or ts k t → o ≡ condition_of t
    → first_among (drop k ts) ≡ or_next o (first_among (drop (k + 1) ts))
read_at ts k t o h e f =
    among_next ts k t (slice_get-get_or ts k t h ∙ ap Some (sym e)) ∙ ap (λ p. or_next p (first_among (drop (k + 1) ts))) (sym f)

pub among_found : (ts : List Tree) (k : ℕ) (t q : Tree) → k < length ts → t ≡ get_or ts k t → Some q ≡ condition_of t
    → first_among (drop k ts) ≡ first_among ts → Some q ≡ first_among ts
among_found ts k t q h e f g = sym (read_at ts k t (Some q) h e f) ∙ g

pub among_missed : (ts : List Tree) (k : ℕ) (t : Tree) → k < length ts → t ≡ get_or ts k t → None ≡ condition_of t
    → first_among (drop k ts) ≡ first_among ts → first_among (drop (k + 1) ts) ≡ first_among ts
among_missed ts k t h e f g = sym (read_at ts k t None h e f) ∙ g

pub first_lower : (ts : List Tree) (c : Tree) → Some c ≡ slice_get ts 0 → height c < heights (trees ts)
first_lower [] c e = absurd (cc e)
first_lower (t ∷ ts) c e = let k : height c ≡ height t = ap height (same_Some c t e) in omega (arith, k)

pub ruleset finding = (height_at, first_lower, choice_found, choice_own, choice_none, bind_found, bind_other, among_found, among_missed)

-- both halves
pub split_at : (t q : Tree) (o : Option Tree) (bs : Branches) → Some q ≡ o → bs.condition ≡ q → bs.yes ≡ replaced q true t → bs.no ≡ replaced q false t → IsSplit t o (Some bs)
split_at t q o bs e c y n = subst (λ p. IsSplit t p (Some bs)) e (record { condition = c; met = y; unmet = n })

pub no_split : (t : Tree) (o : Option Tree) → None ≡ o → IsSplit t o None
no_split t o e = subst (λ p. IsSplit t p None) e refl

pub ruleset splits = (split_at, no_split)
