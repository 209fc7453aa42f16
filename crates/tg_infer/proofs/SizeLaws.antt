-- What a count of nodes leans on.
use Rattle.std.proofs.Common.{ℕ, zero, suc, ◌≡◌, ◌+◌, ◌<◌, ◌≤◌, List, [], ◌∷◌, length, get_or, map, refl, sym, ◌∙◌, ap, arith}
use Rattle.tg_accept.specs.Raw as raw
use Rattle.tg_accept.specs.Raw.{nodes, all_nodes, branch_nodes}
use Rattle.std.proofs.lemmas.List.{length-map}
use Rattle.tg_grammar.specs.declared.terms.Binder.{Binder}
use Rattle.tg_grammar.specs.declared.terms.RawTerm.{RawTerm}
use Rattle.tg_grammar.specs.declared.terms.RawTerm.TheVariants as terms
use Rattle.tg_grammar.specs.declared.terms.RawBranch.{RawBranch}
use Rattle.tg_infer.specs.View.{raw_term, raw_terms, raw_branches, binder, listed, bound_in, case_of, seen, Seen, seen-RawBranch, raw_term-Num, raw_term-Truth, raw_term-Use, raw_term-Free, raw_term-Bound, raw_term-Op, raw_term-If, raw_term-Let, raw_term-Case}

-- ---- at one level

let_nodes : (x : raw.Binder) (ts : List raw.RawTerm) → length ts ≡ 2 → nodes (bound_in x ts) ≡ suc (all_nodes (listed ts))
let_nodes x [] e = cc e
let_nodes x (t ∷ []) e = absurd (omega (arith, e))
let_nodes x (t ∷ body ∷ []) e = ap (λ n. suc (nodes t + n)) (zero_behind (nodes body))
  where
    zero_behind : (n : ℕ) → n ≡ n + 0
    zero_behind n = omega arith
let_nodes x (t ∷ u ∷ v ∷ ts) e = absurd (omega (arith, e))

other_let_nodes : (x : raw.Binder) (ts : List raw.RawTerm) → ¬ (length ts ≡ 2) → nodes (bound_in x ts) ≡ 1
other_let_nodes x [] e = refl
other_let_nodes x (t ∷ []) e = refl
other_let_nodes x (t ∷ body ∷ []) e = absurd (e refl)
other_let_nodes x (t ∷ u ∷ v ∷ ts) e = refl

case_nodes : (bs : raw.RawBranches) (ts : List raw.RawTerm) → length ts ≡ 1 → nodes (case_of bs ts) ≡ suc (all_nodes (listed ts) + branch_nodes bs)
case_nodes bs [] e = cc e
case_nodes bs (t ∷ []) e = ap (λ n. suc (n + branch_nodes bs)) (zero_behind (nodes t))
  where
    zero_behind : (n : ℕ) → n ≡ n + 0
    zero_behind n = omega arith
case_nodes bs (t ∷ u ∷ ts) e = absurd (omega (arith, e))

other_case_nodes : (bs : raw.RawBranches) (ts : List raw.RawTerm) → ¬ (length ts ≡ 1) → nodes (case_of bs ts) ≡ 1
other_case_nodes bs [] e = refl
other_case_nodes bs (t ∷ []) e = absurd (e refl)
other_case_nodes bs (t ∷ u ∷ ts) e = refl

pub nodes-Let : (x : Binder) (ts : List RawTerm) → length ts ≡ 2 → nodes (raw_term (terms.Let x ts)) ≡ suc (all_nodes (raw_terms ts))
nodes-Let x ts e = ap nodes (raw_term-Let x ts) ∙ let_nodes (binder x) (map raw_term ts) (length-map ts raw_term ∙ e)

pub nodes-other_Let : (x : Binder) (ts : List RawTerm) → ¬ (length ts ≡ 2) → nodes (raw_term (terms.Let x ts)) ≡ 1
nodes-other_Let x ts e = ap nodes (raw_term-Let x ts) ∙ other_let_nodes (binder x) (map raw_term ts) (λ p. e (sym (length-map ts raw_term) ∙ p))

pub nodes-Case : (ts : List RawTerm) (bs : List RawBranch) → length ts ≡ 1
    → nodes (raw_term (terms.Case ts bs)) ≡ suc (all_nodes (raw_terms ts) + branch_nodes (raw_branches bs))
nodes-Case ts bs e = ap nodes (raw_term-Case ts bs) ∙ case_nodes (raw_branches bs) (map raw_term ts) (length-map ts raw_term ∙ e)

pub nodes-other_Case : (ts : List RawTerm) (bs : List RawBranch) → ¬ (length ts ≡ 1) → nodes (raw_term (terms.Case ts bs)) ≡ 1
nodes-other_Case ts bs e = ap nodes (raw_term-Case ts bs) ∙ other_case_nodes (raw_branches bs) (map raw_term ts) (λ p. e (sym (length-map ts raw_term) ∙ p))

-- ---- in a list

pub nodes_at : (ts : List RawTerm) (i : ℕ) (d : RawTerm) → i < length ts → nodes (raw_term (get_or ts i d)) ≤ all_nodes (raw_terms ts)
nodes_at [] i d h = absurd (omega (arith, h))
nodes_at (t ∷ ts) zero d h = omega arith
nodes_at (t ∷ ts) (suc i) d h = let k = nodes_at ts i d (omega (arith, h)) in omega (arith, k)

seen_body : (b : RawBranch) → nodes (seen b).body ≡ nodes (raw_term b.body)
seen_body b = ap (λ (x : Seen). nodes x.body) (seen-RawBranch b)

pub branch_nodes_at : (bs : List RawBranch) (i : ℕ) (d : RawBranch) → i < length bs → nodes (raw_term (get_or bs i d).body) ≤ branch_nodes (raw_branches bs)
branch_nodes_at [] i d h = absurd (omega (arith, h))
branch_nodes_at (b ∷ bs) zero d h = let s = seen_body b in omega (arith, s)
branch_nodes_at (b ∷ bs) (suc i) d h = let k = branch_nodes_at bs i d (omega (arith, h)) in omega (arith, k)

pub ruleset counting = (nodes_at, branch_nodes_at, nodes-Let, nodes-other_Let, nodes-Case, nodes-other_Case, raw_term-Num, raw_term-Truth, raw_term-Use, raw_term-Free, raw_term-Bound, raw_term-Op, raw_term-If)
