-- Closing a formula quantifier by quantifier, and putting terms for the variables of a closed formula one by one.
use Rattle.std.proofs.Common.{ℕ, suc, ◌≡◌, ◌+◌, ◌-◌, ◌<◌, ◌≤◌, ◌⊎◌, inl, inr, Bool, true, false, ◌&&◌, List, [], ◌∷◌, ◌++◌, length, refl, sym, ◌∙◌, ap, subst, nat_eq, nat_lt, nat_le, if◌then◌else◌, arith, append_assoc, lt-ltb}
use Rattle.std.proofs.lemmas.Bool.{ltb-true, ltb-false, leb-true, leb-false, le-leb, eqb-true}
use Rattle.tg_model.specs.Tree.{Tree, bound, free}
use Rattle.tg_model.specs.Types.{Ty}
use Rattle.tg_model.specs.Formula.{Formula, all, some}
use Rattle.tg_model.specs.Theory.{Theory}
use Rattle.tg_model.specs.Walk.{walk, walk_formula, raised, bound_for}
use Rattle.tg_model.specs.Closing.{for_all, for_some, universal_closure}
use Rattle.tg_model.specs.Equality.{unequal}
use Rattle.tg_model.proofs.Booleans.{if_true, if_false}
use Rattle.tg_model.proofs.Unmoved.{formula_unmoved}
use Rattle.tg_calculus.specs.Sequent.{Hypotheses, some_use_new}
use Rattle.tg_calculus.specs.Theorem.{Follows}
use Rattle.tg_calculus.proofs.DerivedRules.{generalised}
use Rattle.tg_derive.proofs.WalkLaws.{formula_composed}

-- a number is between two others, as tests say it
within_test : (a b : Bool) → (a && b) ≡ true → (a ≡ true) × (b ≡ true)
within_test true b e = (refl, e)
within_test false b e = absurd (cc e)

outside_test : (a b : Bool) → (a && b) ≡ false → (a ≡ false) ⊎ (b ≡ false)
outside_test true b e = inr e
outside_test false b e = inl refl

abbrev pub among : ℕ → ℕ → ℕ → Bool
among j n k = nat_lt j k && nat_le k n

pub is_among : (j n k : ℕ) → j < k → k ≤ n → among j n k ≡ true
is_among j n k p q = (λ i. lt-ltb j k p i && nat_le k n) ∙ le-leb k n q

pub from_among : (j n k : ℕ) → among j n k ≡ true → (j < k) × (k ≤ n)
from_among j n k e = let p = within_test (nat_lt j k) (nat_le k n) e in (ltb-true j k p.0, leb-true k n p.1)

pub not_among : (j n k : ℕ) → (j < k → k ≤ n → ⊥) → among j n k ≡ false
not_among j n k h = by (among j n k) refl
  where
    by : (b : Bool) → among j n k ≡ b → among j n k ≡ false
    by true e = let p = from_among j n k e in absurd (h p.0 p.1)
    by false e = e

pub from_not_among : (j n k : ℕ) → among j n k ≡ false → (k ≤ j) ⊎ (n < k)
from_not_among j n k e =
    elim (outside_test (nat_lt j k) (nat_le k n) e) [ inl p ↦ inl (ltb-false j k p) | inr p ↦ inr (leb-false k n p) ]

pub is_low : (t u : Tree) (k d : ℕ) → k < d → (if nat_lt k d then t else u) ≡ t
is_low t u k d h = if_true t u (nat_lt k d) (lt-ltb k d h)

pub is_high : (t u : Tree) (k d : ℕ) → d ≤ k → (if nat_lt k d then t else u) ≡ u
is_high t u k d h = by (nat_lt k d) refl
  where
    by : (b : Bool) → nat_lt k d ≡ b → (if b then t else u) ≡ u
    by true e = absurd (let z = ltb-true k d e in omega (arith, z, h))
    by false e = refl

-- a walk goes through quantifiers
pub through_all : (b f : ℕ → ℕ → Tree) (Ts : List Ty) (F : Formula) (d : ℕ)
    → walk_formula b f d (for_all Ts F) ≡ for_all Ts (walk_formula b f (d + length Ts) F)
through_all b f [] F d = ap (λ e. walk_formula b f e F) (let q : d ≡ d + 0 = omega arith in q)
through_all b f (T ∷ Ts) F d =
    ap (all T) (through_all b f Ts F (d + 1) ∙ ap (λ e. for_all Ts (walk_formula b f e F)) (let q : d + 1 + length Ts ≡ d + suc (length Ts) = omega arith in q))

pub through_some : (b f : ℕ → ℕ → Tree) (Ts : List Ty) (F : Formula) (d : ℕ)
    → walk_formula b f d (for_some Ts F) ≡ for_some Ts (walk_formula b f (d + length Ts) F)
through_some b f [] F d = ap (λ e. walk_formula b f e F) (let q : d ≡ d + 0 = omega arith in q)
through_some b f (T ∷ Ts) F d =
    ap (some T) (through_some b f Ts F (d + 1) ∙ ap (λ e. for_some Ts (walk_formula b f e F)) (let q : d + 1 + length Ts ≡ d + suc (length Ts) = omega arith in q))

-- the variables past `?j` become bound, up to `?n`
abbrev past : ℕ → ℕ → ℕ → ℕ → Tree
past j n d k = if among j n k then bound (d + (n - k)) else free k

module _ (j m n : ℕ) (count : n ≡ suc j + m) where
  abbrev second : ℕ → Tree → Tree
  second e t = walk (raised 1) (bound_for (suc j)) e t

  raised_again : (d e k : ℕ) → e ≡ d + m → second e (raised m d k) ≡ raised (suc m) d k
  raised_again d e k q = by (nat_lt k d) refl
    where
      by : (b : Bool) → nat_lt k d ≡ b → second e (if b then bound k else bound (k + m)) ≡ (if b then bound k else bound (k + suc m))
      by true z = is_low (bound k) (bound (k + 1)) k e (let y = ltb-true k d z in omega (arith, y, q))
      by false z = is_high (bound (k + m)) (bound (k + m + 1)) (k + m) e (let y = ltb-false k d z in omega (arith, y, q)) ∙ ap bound (omega arith)

  bound_again : (d e k : ℕ) → e ≡ d + m → second e (past (suc j) n d k) ≡ past j n d k
  bound_again d e k q = by (among (suc j) n k) refl
    where
      at : (c : Bool) → nat_eq k (suc j) ≡ c → (k ≤ suc j) ⊎ (n < k) → (if c then bound e else free k) ≡ past j n d k
      at true z y =
          let s = eqb-true k (suc j) z in
          ap bound (let r : e ≡ d + (n - k) = omega (arith, q, s, count) in r)
          ∙ sym (if_true (bound (d + (n - k))) (free k) (among j n k) (is_among j n k (omega (arith, s)) (omega (arith, s, count))))
      at false z y =
          let s = unequal k (suc j) z in
          sym (if_false (bound (d + (n - k))) (free k) (among j n k) (not_among j n k (λ l h.
          elim y [ inl x ↦ s (omega (arith, x, l)) | inr x ↦ omega (arith, x, h) ])))

      by : (b : Bool) → among (suc j) n k ≡ b → second e (if b then bound (d + (n - k)) else free k) ≡ past j n d k
      by true z =
          let r = from_among (suc j) n k z in
          is_low (bound (d + (n - k))) (bound (d + (n - k) + 1)) (d + (n - k)) e (let l = r.0 in let h = r.1 in omega (arith, l, h, q, count))
          ∙ sym (if_true (bound (d + (n - k))) (free k) (among j n k) (is_among j n k (let l = r.0 in omega (arith, l)) r.1))
      by false z = at (nat_eq k (suc j)) refl (from_not_among (suc j) n k z)

  pub one_more : (F : Formula) → walk_formula (raised 1) (bound_for (suc j)) (0 + m) (walk_formula (raised m) (past (suc j) n) 0 F)
      ≡ walk_formula (raised (suc m)) (past j n) 0 F
  one_more F =
      formula_composed (raised m) (past (suc j) n) (raised 1) (bound_for (suc j)) (raised (suc m)) (past j n) m
      raised_again bound_again F 0 (0 + m) refl

count_more : (pre : List Ty) (T : Ty) → length (pre ++ T ∷ []) ≡ suc (length pre)
count_more [] T = refl
count_more (U ∷ pre) T = ap suc (count_more pre T)

-- none is bound
none_past : (n : ℕ) (F : Formula) → walk_formula (raised 0) (past n n) 0 F ≡ F
none_past n F =
    formula_unmoved (raised 0) (past n n)
    (λ d k. by d k (nat_lt k d)) (λ d k. if_false (bound (d + (n - k))) (free k) (among n n k) (not_among n n k (λ l h. omega (arith, l, h)))) F 0
  where
    by : (d k : ℕ) (b : Bool) → (if b then bound k else bound (k + 0)) ≡ bound k
    by d k true = refl
    by d k false = ap bound (omega arith)

module _ (th : Theory) (H : Hypotheses) (F : Formula) where
  -- no hypothesis has a variable
  pub closing : (pre post : List Ty) (n : ℕ) → n ≡ length pre + length post → ((K Ts : List Ty) → some_use_new K Ts H ≡ false)
      → Follows th (pre ++ post) H F → Follows th pre H (for_all post (walk_formula (raised (length post)) (past (length pre) n) 0 F))
  closing pre [] n count unused p =
      let q : n ≡ length pre = omega (arith, count) in
      subst (λ (K : List Ty). Follows th K H (walk_formula (raised 0) (past (length pre) n) 0 F)) (append_none pre)
      (subst (λ (Q : Formula). Follows th (pre ++ []) H Q)
      (sym (ap (λ j. walk_formula (raised 0) (past j n) 0 F) (sym q) ∙ none_past n F)) p)
    where
      append_none : (xs : List Ty) → xs ++ [] ≡ xs
      append_none [] = refl
      append_none (x ∷ xs) = ap (λ l. x ∷ l) (append_none xs)
  closing pre (T ∷ post) n count unused p =
      let m = length post in
      let j = length pre in
      let c : n ≡ suc j + m = omega (arith, count) in
      let rest = closing (pre ++ T ∷ []) post n (c ∙ ap (λ x. x + m) (sym (count_more pre T))) unused
      (subst (λ (K : List Ty). Follows th K H F) (sym (append_assoc pre (T ∷ []) post)) p) in
      let moved = subst (λ x. Follows th (pre ++ T ∷ []) H (for_all post (walk_formula (raised m) (past x n) 0 F))) (count_more pre T) rest in
      subst (λ (Q : Formula). Follows th pre H (all T Q))
      (through_all (raised 1) (bound_for (suc j)) post (walk_formula (raised m) (past (suc j) n) 0 F) 0 ∙ ap (for_all post) (one_more j m n c F))
      (generalised th pre (unused pre (T ∷ [])) moved)

-- what follows at variables, of which no hypothesis has one, follows closed
pub closed_line : (th : Theory) (H : Hypotheses) (F : Formula) (Ts : List Ty) → ((K Us : List Ty) → some_use_new K Us H ≡ false) → Follows th Ts H F
    → Follows th [] H (universal_closure Ts F)
closed_line th H F Ts unused p = closing th H F [] Ts (length Ts) (omega arith) unused p
