-- Terms and branches of a list, written one behind another.
use Rattle.std.proofs.Common.{◌≡◌, ◌≢◌, ℕ, suc, ◌+◌, ◌-◌, ◌<◌, List, [], ◌∷◌, ◌++◌, length, drop, get_or, true, false, refl, sym, ap, ◌∙◌, arith, decimal}
use Rattle.std.specs.Prelude.{codes, ◌==◌}
use Rattle.std.proofs.lemmas.Bool.{eqb-true}
use Rattle.tg_model.specs.Theory.{Theory}
use Rattle.tg_model.specs.Tree.{Tree, Operator, trees, more, none, choice, case, bind, op}
use Rattle.tg_term.specs.View.{arms}
use Rattle.tg_term.specs.declared.terms.Branch.{Branch}
use Rattle.tg_term.proofs.ListHeights.{height_at, branch_height_at}
use Rattle.tg_render.specs.Render.{put, written}
use Rattle.tg_grammar.specs.Kinds.{if_word, then_word, else_word, let_word, in_word, case_word, of_word, equal, open_brace, close_brace, double_arrow}
use Rattle.tg_grammar.specs.Seen.{Seen}
use Rattle.tg_render.specs.Tokens.{mark, joined, continued, divided, enclosed, application}
use Rattle.tg_render.proofs.Writing.{written-append}
use Rattle.tg_report.specs.Names.{branch_head}
use Rattle.tg_report.specs.Words.{comma, sign, bound_variable}
use Rattle.tg_report.specs.TermTexts.{term_tokens, terms_tokens, branches_tokens, binders, branch, is_infix, infixed, operation}
use Rattle.tg_report.proofs.Chains.{one, some, inside}
use Rattle.tg_report.proofs.Lists.{drop_next}

pub term_next : (th : Theory) (level : ℕ) (out next whole : List ℕ) (ts : List Tree) (i : ℕ) (t : Tree) → i < length ts → t ≡ get_or ts i t
    → written out (joined (terms_tokens th level (trees (drop i ts)))) ≡ whole → next ≡ written out (term_tokens th level t)
    → written next (joined (terms_tokens th level (trees (drop (i + 1) ts)))) ≡ whole
term_next th level out next whole ts i t less e so_far second =
    let rest = joined (terms_tokens th level (trees (drop (i + 1) ts))) in
    ap (λ o. written o rest) second
    ∙ sym (written-append out (term_tokens th level t) rest)
    ∙ sym (ap (λ us. written out (joined (terms_tokens th level (trees us)))) (drop_next ts i t less e)) ∙ so_far

abbrev branch_tokens : Theory → ℕ → ℕ → ℕ → Branch → List Seen
branch_tokens th level d at b = branch (branch_head th d at) (binders level b.vars) (term_tokens th (level + b.vars) b.body)

pub branch_next : (th : Theory) (level d : ℕ) (out mid next whole : List ℕ) (bs : List Branch) (i : ℕ) (b : Branch) → i < length bs → b ≡ get_or bs i b
    → written out (continued comma (branches_tokens th level d i (arms (drop i bs)))) ≡ whole → mid ≡ put out (codes ",")
    → next ≡ written mid (branch_tokens th level d i b)
    → written next (continued comma (branches_tokens th level d (i + 1) (arms (drop (i + 1) bs)))) ≡ whole
branch_next th level d out mid next whole bs i b less e so_far first second =
    let rest = continued comma (branches_tokens th level d (i + 1) (arms (drop (i + 1) bs))) in
    ap (λ o. written o rest) (second ∙ ap (λ o. written o (branch_tokens th level d i b)) first)
    ∙ sym (written-append (put out (codes ",")) (branch_tokens th level d i b) rest)
    ∙ sym (ap (λ cs. written out (continued comma (branches_tokens th level d i (arms cs)))) (drop_next bs i b less e)) ∙ so_far

-- ---- lists of a known length

pub three : (ts : List Tree) (c a b : Tree) → length ts ≡ 3 → c ≡ get_or ts 0 c → a ≡ get_or ts 1 a → b ≡ get_or ts 2 b
    → trees ts ≡ more c (more a (more b none))
three [] c a b n e f g = absurd (omega (arith, n))
three (t ∷ []) c a b n e f g = absurd (omega (arith, n))
three (t ∷ u ∷ []) c a b n e f g = absurd (omega (arith, n))
three (t ∷ u ∷ v ∷ []) c a b n e f g = cc
three (t ∷ u ∷ v ∷ w ∷ ts) c a b n e f g = absurd (omega (arith, n))

pub two : (ts : List Tree) (a b : Tree) → length ts ≡ 2 → a ≡ get_or ts 0 a → b ≡ get_or ts 1 b → trees ts ≡ more a (more b none)
two [] a b n e f = absurd (omega (arith, n))
two (t ∷ []) a b n e f = absurd (omega (arith, n))
two (t ∷ u ∷ []) a b n e f = cc
two (t ∷ u ∷ v ∷ ts) a b n e f = absurd (omega (arith, n))

pub use_some : (th : Theory) (level : ℕ) (head : Seen) (ts : List Tree) → (length ts == 0) ≡ false
    → enclosed (head ∷ joined (terms_tokens th level (trees ts))) ≡ application head (terms_tokens th level (trees ts))
use_some th level head [] n = absurd cc
use_some th level head (t ∷ ts) n = refl

pub use_none : (th : Theory) (level : ℕ) (head : Seen) (ts : List Tree) → (length ts == 0) ≡ true
    → head ∷ [] ≡ application head (terms_tokens th level (trees ts))
use_none th level head [] n = refl
use_none th level head (t ∷ ts) n = absurd (omega (arith, eqb-true (length (t ∷ ts)) 0 n))

pub not_three : (th : Theory) (level : ℕ) (ts : List Tree) → length ts ≢ 3
    → application (mark if_word (codes "if")) (terms_tokens th level (trees ts)) ≡ term_tokens th level (choice (trees ts))
not_three th level [] n = refl
not_three th level (t ∷ []) n = refl
not_three th level (t ∷ u ∷ []) n = refl
not_three th level (t ∷ u ∷ v ∷ []) n = absurd (n refl)
not_three th level (t ∷ u ∷ v ∷ w ∷ ts) n = refl

infix_other : (th : Theory) (level : ℕ) (s : Seen) (ts : List Tree) → length ts ≢ 2
    → application s (terms_tokens th level (trees ts)) ≡ infixed s (terms_tokens th level (trees ts))
infix_other th level s [] n = refl
infix_other th level s (t ∷ []) n = refl
infix_other th level s (t ∷ u ∷ []) n = absurd (n refl)
infix_other th level s (t ∷ u ∷ v ∷ ts) n = refl

pub not_two : (th : Theory) (level : ℕ) (o : Operator) (ts : List Tree) → true ≡ is_infix o → length ts ≢ 2
    → application (sign o) (terms_tokens th level (trees ts)) ≡ term_tokens th level (op o (trees ts))
not_two th level o ts e n = rw (sym e) (infix_other th level (sign o) ts n)

pub not_infix : (th : Theory) (level : ℕ) (o : Operator) (ts : List Tree) → false ≡ is_infix o
    → application (sign o) (terms_tokens th level (trees ts)) ≡ term_tokens th level (op o (trees ts))
not_infix th level o ts e = rw (sym e) refl

-- ---- each form, step by step

pub use_written : (th : Theory) (level kind : ℕ) (head : List ℕ) (ts : List Tree) (old first second third next : List ℕ) → (length ts == 0) ≡ false
    → first ≡ put old (codes "(") → second ≡ put first head → third ≡ written second (joined (terms_tokens th level (trees ts)))
    → next ≡ put third (codes ")")
    → next ≡ written old (application (mark kind head) (terms_tokens th level (trees ts)))
use_written th level kind head ts old first second third next n a b c d =
    let args = joined (terms_tokens th level (trees ts)) in
    inside old first third next (mark kind head ∷ args) a (one first second third head kind args b c) d ∙ ap (written old) (use_some th level
    (mark kind head) ts n)

pub choice_written : (th : Theory) (level : ℕ) (ts : List Tree) (c a b : Tree) (old x1 x2 x3 x4 x5 x6 x7 next : List ℕ) → length ts ≡ 3
    → c ≡ get_or ts 0 c → a ≡ get_or ts 1 a → b ≡ get_or ts 2 b
    → x1 ≡ put old (codes "(") → x2 ≡ put x1 (codes "if") → x3 ≡ written x2 (term_tokens th level c) → x4 ≡ put x3 (codes "then")
    → x5 ≡ written x4 (term_tokens th level a) → x6 ≡ put x5 (codes "else") → x7 ≡ written x6 (term_tokens th level b) → next ≡ put x7 (codes ")")
    → next ≡ written old (term_tokens th level (choice (trees ts)))
choice_written th level ts c a b old x1 x2 x3 x4 x5 x6 x7 next n e f g h1 h2 h3 h4 h5 h6 h7 h8 =
    let last = mark else_word (codes "else") ∷ term_tokens th level b in
    let sides = term_tokens th level a ++ last in
    let after = mark then_word (codes "then") ∷ sides in
    let all = term_tokens th level c ++ after in
    inside old x1 x7 next (mark if_word (codes "if") ∷ all) h1
    (one x1 x2 x7 (codes "if") if_word all h2
    (some x2 x3 x7 (term_tokens th level c) after h3
    (one x3 x4 x7 (codes "then") then_word sides h4
    (some x4 x5 x7 (term_tokens th level a) last h5 (one x5 x6 x7 (codes "else") else_word (term_tokens th level b) h6 h7))))) h8
    ∙ ap (λ us. written old (term_tokens th level (choice us))) (sym (three ts c a b n e f g))

infix_is : (o : Operator) (xs : List (List Seen)) → true ≡ is_infix o → infixed (sign o) xs ≡ operation o xs
infix_is o xs e = rw (sym e) refl

pub operation_written : (th : Theory) (level : ℕ) (o : Operator) (text : List ℕ) (ts : List Tree) (a b : Tree) (old x1 x2 x3 x4 next : List ℕ) → length ts ≡ 2
    → a ≡ get_or ts 0 a → b ≡ get_or ts 1 b → true ≡ is_infix o → text ≡ (sign o).text
    → x1 ≡ put old (codes "(") → x2 ≡ written x1 (term_tokens th level a) → x3 ≡ put x2 text → x4 ≡ written x3 (term_tokens th level b)
    → next ≡ put x4 (codes ")")
    → next ≡ written old (term_tokens th level (op o (trees ts)))
operation_written th level o text ts a b old x1 x2 x3 x4 next n e f i s h1 h2 h3 h4 h5 =
    let right : x4 ≡ written x2 (sign o ∷ term_tokens th level b) = h4 ∙ ap (λ z. written z (term_tokens th level b)) (h3 ∙ ap (put x2) s) in
    inside old x1 x4 next (term_tokens th level a ++ sign o ∷ term_tokens th level b) h1
    (some x1 x2 x4 (term_tokens th level a) (sign o ∷ term_tokens th level b) h2 right) h5
    ∙ ap (λ us. written old (infixed (sign o) (terms_tokens th level us))) (sym (two ts a b n e f))
    ∙ ap (written old) (infix_is o (terms_tokens th level (trees ts)) i)

pub let_written : (th : Theory) (level inner : ℕ) (t body : Tree) (old x1 x2 x3 x4 x5 x6 x7 next : List ℕ) → inner ≡ level + 1
    → x1 ≡ put old (codes "(") → x2 ≡ put x1 (codes "let") → x3 ≡ put (put x2 (codes "!")) (decimal inner) → x4 ≡ put x3 (codes "=")
    → x5 ≡ written x4 (term_tokens th level t) → x6 ≡ put x5 (codes "in") → x7 ≡ written x6 (term_tokens th inner body) → next ≡ put x7 (codes ")")
    → next ≡ written old (term_tokens th level (bind t body))
let_written th level inner t body old x1 x2 x3 x4 x5 x6 x7 next e h1 h2 h3 h4 h5 h6 h7 h8 =
    let variable : x3 ≡ written x2 (bound_variable (level + 1)) = h3 ∙ ap (λ n. put (put x2 (codes "!")) (decimal n)) e in
    let last : x7 ≡ written x6 (term_tokens th (level + 1) body) = h7 ∙ ap (λ n. written x6 (term_tokens th n body)) e in
    let within = mark in_word (codes "in") ∷ term_tokens th (level + 1) body in
    let given = term_tokens th level t ++ within in
    let equals = mark equal (codes "=") ∷ given in
    let all = bound_variable (level + 1) ++ equals in
    inside old x1 x7 next (mark let_word (codes "let") ∷ all) h1
    (one x1 x2 x7 (codes "let") let_word all h2
    (some x2 x3 x7 (bound_variable (level + 1)) equals variable
    (one x3 x4 x7 (codes "=") equal given h4
    (some x4 x5 x7 (term_tokens th level t) within h5 (one x5 x6 x7 (codes "in") in_word (term_tokens th (level + 1) body) h6 last))))) h8

pub case_written : (th : Theory) (level d : ℕ) (t : Tree) (bs : List Branch) (old x1 x2 x3 x4 x5 x6 x7 next : List ℕ)
    → x1 ≡ put old (codes "(") → x2 ≡ put x1 (codes "case") → x3 ≡ written x2 (term_tokens th level t) → x4 ≡ put x3 (codes "of") → x5 ≡ put x4 (codes "{")
    → x6 ≡ written x5 (divided comma (branches_tokens th level d 0 (arms bs))) → x7 ≡ put x6 (codes "}") → next ≡ put x7 (codes ")")
    → next ≡ written old (term_tokens th level (case d t (arms bs)))
case_written th level d t bs old x1 x2 x3 x4 x5 x6 x7 next h1 h2 h3 h4 h5 h6 h7 h8 =
    let all = divided comma (branches_tokens th level d 0 (arms bs)) in
    let end = mark close_brace (codes "}") ∷ [] in
    let inner = all ++ end in
    let branches = mark of_word (codes "of") ∷ mark open_brace (codes "{") ∷ inner in
    let whole = term_tokens th level t ++ branches in
    inside old x1 x7 next (mark case_word (codes "case") ∷ whole) h1
    (one x1 x2 x7 (codes "case") case_word whole h2
    (some x2 x3 x7 (term_tokens th level t) branches h3
    (one x3 x4 x7 (codes "of") of_word (mark open_brace (codes "{") ∷ inner) h4
    (one x4 x5 x7 (codes "{") open_brace inner h5 (some x5 x6 x7 all end h6 h7))))) h8

pub branches_written : (th : Theory) (level d : ℕ) (bs : List Branch) (b : Branch) (old mid next : List ℕ) → (length bs == 0) ≡ false → b ≡ get_or bs 0 b
    → mid ≡ written old (branch_tokens th level d 0 b) → next ≡ written mid (continued comma (branches_tokens th level d 1 (arms (drop 1 bs))))
    → next ≡ written old (divided comma (branches_tokens th level d 0 (arms bs)))
branches_written th level d [] b old mid next n e h1 h2 = absurd cc
branches_written th level d (c ∷ bs) b old mid next n e h1 h2 =
    some old mid next (branch_tokens th level d 0 c) (continued comma (branches_tokens th level d 1 (arms bs)))
    (h1 ∙ ap (λ x. written old (branch_tokens th level d 0 x)) e) h2

pub branch_written : (th : Theory) (level inner d at count : ℕ) (body : Tree) (old x1 x2 x3 next : List ℕ) → inner ≡ level + count
    → x1 ≡ written old (branch_head th d at ∷ []) → x2 ≡ written x1 (binders level count) → x3 ≡ put x2 (codes "=>")
    → next ≡ written x3 (term_tokens th inner body)
    → next ≡ written old (branch (branch_head th d at) (binders level count) (term_tokens th (level + count) body))
branch_written th level inner d at count body old x1 x2 x3 next e h1 h2 h3 h4 =
    let last : next ≡ written x3 (term_tokens th (level + count) body) = h4 ∙ ap (λ n. written x3 (term_tokens th n body)) e in
    let arrow = mark double_arrow (codes "=>") ∷ term_tokens th (level + count) body in
    let rest = binders level count ++ arrow in
    some x1 x2 next (binders level count) arrow h2 (one x2 x3 next (codes "=>") double_arrow (term_tokens th (level + count) body) h3 last)
    ∙ ap (λ o. written o rest) h1

-- ---- the variables of a branch

abbrev pub left_binders : ℕ → ℕ → ℕ → List Seen
left_binders level count at = binders (level + at) (count - at)

pub binder_next : (level count at variable inner : ℕ) (out next whole : List ℕ) → at < count → written out (left_binders level count at) ≡ whole
    → variable ≡ level + at → inner ≡ variable + 1 → next ≡ put (put out (codes "!")) (decimal inner)
    → written next (left_binders level count (at + 1)) ≡ whole
binder_next level count at variable inner out next whole less so_far first second third =
    let more : count - at ≡ suc (count - (at + 1)) = omega (arith, less) in
    let number : inner ≡ (level + at) + 1 = omega (arith, first, second) in
    let place : level + (at + 1) ≡ (level + at) + 1 = omega arith in
    ap (λ n. written next (binders n (count - (at + 1)))) place
    ∙ ap (λ o. written o (binders ((level + at) + 1) (count - (at + 1)))) (third ∙ ap (λ n. put (put out (codes "!")) (decimal n)) number)
    ∙ sym (ap (λ n. written out (binders (level + at) n)) more) ∙ so_far

pub binder_end : (level count at : ℕ) (out whole : List ℕ) → ¬ (at < count) → written out (left_binders level count at) ≡ whole → out ≡ whole
binder_end level count at out whole over so_far =
    let none_left : count - at ≡ 0 = omega (arith, over) in
    sym (ap (λ n. written out (binders (level + at) n)) none_left) ∙ so_far

pub ruleset counting = (binder_next, binder_end)

pub ruleset writing = (
  use_none,
  not_three,
  not_two,
  not_infix,
  use_written,
  choice_written,
  operation_written,
  let_written,
  case_written,
  branches_written,
  branch_written,
  height_at,
  branch_height_at,
)
