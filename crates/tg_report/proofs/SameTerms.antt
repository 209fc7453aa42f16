-- Terms within the same number of binders that read as one term are equal.
use Rattle.std.proofs.Common.{◌≡◌, ℕ, zero, suc, ◌+◌, ◌-◌, List, [], ◌∷◌, length, refl, sym, ap, subst, ◌∙◌, arith}
use Rattle.tg_model.specs.Theory.{Theory}
use Rattle.tg_model.specs.Accepted.{IsAccepted}
use Rattle.tg_model.specs.Tree.{Tree, Trees, Arms, Operator, bound, free, literal, truth, con, call, put, choice, case, bind, op, none, more, end, arm}
use Rattle.tg_model.specs.Tree.{elements, successor, negation, conjunction, disjunction, implication, equality, less, less_equal, plus, minus, times, divide}
use Rattle.tg_model.specs.Tree.{modulo, unnamed}
use Rattle.tg_term.specs.Operators.{operator, operator_number}
use Rattle.tg_grammar.specs.declared.terms.RawTerm.{RawTerm}
use Rattle.tg_grammar.specs.declared.terms.RawTerm.TheVariants as raw
use Rattle.tg_grammar.specs.declared.terms.RawBranch.{RawBranch}
use Rattle.tg_grammar.specs.declared.terms.RawCon.{RawCon}
use Rattle.tg_grammar.specs.declared.terms.RawCon.TheVariants as constructors
use Rattle.tg_grammar.specs.declared.terms.Binder.{Binder}
use Rattle.tg_grammar.specs.declared.terms.Binder.TheVariants as binders
use Rattle.tg_report.specs.Names.{constructor_name, function_name}
use Rattle.tg_report.specs.RawTerms.{raw_head, raw_binders, raw_branch, raw_term, raw_terms, raw_branches}
use Rattle.tg_report.specs.RawTerms.{HasText, HaveText, ArmsHaveText, HasOperands, IsBranch, HasArm}
use Rattle.tg_report.proofs.NamePlaces.{one_constructor, one_function, one_datatype, constructor_or_function, constructor_or_program, function_or_program}
use Rattle.tg_report.proofs.RawParts.{use_terms, use_name, op_terms, op_number, if_terms, let_terms, case_terms, case_branches}

-- ---- parts

first : (a b : RawTerm) (xs ys : List RawTerm) → a ∷ xs ≡ b ∷ ys → a ≡ b
first a b xs ys e = cc

others : (a b : RawTerm) (xs ys : List RawTerm) → a ∷ xs ≡ b ∷ ys → xs ≡ ys
others a b xs ys e = cc

first_branch : (a b : RawBranch) (xs ys : List RawBranch) → a ∷ xs ≡ b ∷ ys → a ≡ b
first_branch a b xs ys e = cc

other_branches : (a b : RawBranch) (xs ys : List RawBranch) → a ∷ xs ≡ b ∷ ys → xs ≡ ys
other_branches a b xs ys e = cc

bound_number : (m n : ℕ) → raw.Bound m ≡ raw.Bound n → m ≡ n
bound_number m n e = cc

same_head : (g h : RawCon) (vs ws : List Binder) (b c : RawTerm) → raw_branch g vs b ≡ raw_branch h ws c → g ≡ h
same_head g h vs ws b c e = ap (λ (x : RawBranch). x.con) e

same_variables : (g h : RawCon) (vs ws : List Binder) (b c : RawTerm) → raw_branch g vs b ≡ raw_branch h ws c → vs ≡ ws
same_variables g h vs ws b c e = ap (λ (x : RawBranch). x.vars) e

same_body : (g h : RawCon) (vs ws : List Binder) (b c : RawTerm) → raw_branch g vs b ≡ raw_branch h ws c → b ≡ c
same_body g h vs ws b c e = ap (λ (x : RawBranch). x.body) e

named : (x y : List ℕ) → constructors.Named x ≡ constructors.Named y → x ≡ y
named x y e = cc

count_of : (level count : ℕ) → length (raw_binders level count) ≡ count
count_of level zero = refl
count_of level (suc count) = ap suc (count_of (level + 1) count)

same_count : (level m n : ℕ) → raw_binders level m ≡ raw_binders level n → m ≡ n
same_count level m n e = sym (count_of level m) ∙ ap length e ∙ count_of level n

known : (o : Operator) (n : ℕ) → HasOperands o n → operator (operator_number o) ≡ o
known successor n h = refl
known negation n h = refl
known conjunction n h = refl
known disjunction n h = refl
known implication n h = refl
known equality n h = refl
known less n h = refl
known less_equal n h = refl
known plus n h = refl
known minus n h = refl
known times n h = refl
known divide n h = refl
known modulo n h = refl
known (unnamed k) n h = absurd h

one_operator : (o p : Operator) (m n : ℕ) → HasOperands o m → HasOperands p n → operator_number o ≡ operator_number p → o ≡ p
one_operator o p m n h k e = sym (known o m h) ∙ ap operator e ∙ known p n k

-- the datatypes of branches whose first constructors are one
one_case : (th : Theory) (d e m n : ℕ) → IsAccepted th → IsBranch th d 0 m → IsBranch th e 0 n → raw_head th d 0 ≡ raw_head th e 0 → d ≡ e
one_case th zero zero m n a h k same = refl
one_case th zero (suc e) m n a h k same = absurd cc
one_case th (suc d) zero m n a h k same = absurd cc
one_case th (suc d) (suc e) m n a h k same = ap suc (one_datatype th d e a h k (named _ _ same))

first_case : (th : Theory) (level d e : ℕ) (xs ys : Arms) → IsAccepted th → HasArm xs → HasArm ys → ArmsHaveText th level d 0 xs
    → ArmsHaveText th level e 0 ys
    → raw_branches th level d 0 xs ≡ raw_branches th level e 0 ys → d ≡ e
first_case th level d e end ys a h k hs ks same = absurd h
first_case th level d e (arm m t xs) end a h k hs ks same = absurd k
first_case th level d e (arm m t xs) (arm n u ys) a h k hs ks same =
    one_case th d e m n a hs.0 ks.0
    (same_head _ _ _ _ _ _
    (first_branch (raw_branch (raw_head th d 0) (raw_binders level m) (raw_term th (level + m) t))
    (raw_branch (raw_head th e 0) (raw_binders level n) (raw_term th (level + n) u)) (raw_branches th level d 1 xs) (raw_branches th level e 1 ys) same))

-- ---- all terms

mutual
  pub one_term : (th : Theory) (level : ℕ) (t u : Tree) → IsAccepted th → HasText th level t → HasText th level u
      → raw_term th level t ≡ raw_term th level u → t ≡ u
  one_term th level (bound k) (bound j) a h i e = ap bound (let left : level - k ≡ level - j = bound_number (level - k) (level - j) e in omega
      (arith, left, h.0, i.0))
  one_term th level (free m) (free n) a h i e = ap free cc
  one_term th level (literal m) (literal n) a h i e = ap literal cc
  one_term th level (truth b) (truth c) a h i e = ap truth cc
  one_term th level (con c ts) (con d us) a (s, h) (t, i) e =
      let head = one_constructor th c d a s t (use_name (constructor_name th c) (constructor_name th d) (raw_terms th level ts) (raw_terms th level us) e) in
      let rest = all_terms th level ts us a h i (use_terms (constructor_name th c) (constructor_name th d) (raw_terms th level ts)
      (raw_terms th level us) e) in
      ap (λ z. con z ts) head ∙ ap (con d) rest
  one_term th level (call f ts) (call g us) a (s, h) (t, i) e =
      let head = one_function th f g a s t (use_name (function_name th f) (function_name th g) (raw_terms th level ts) (raw_terms th level us) e) in
      let rest = all_terms th level ts us a h i (use_terms (function_name th f) (function_name th g) (raw_terms th level ts) (raw_terms th level us) e) in
      ap (λ z. call z ts) head ∙ ap (call g) rest
  one_term th level (put ts) (put us) a h i e = ap put (all_terms th level ts us a h i (use_terms th.program.name th.program.name
      (raw_terms th level ts) (raw_terms th level us) e))
  one_term th level (con c ts) (call f us) a (s, h) (t, i) e =
      absurd (constructor_or_function th c f a s t (use_name (constructor_name th c) (function_name th f) (raw_terms th level ts) (raw_terms th level us) e))
  one_term th level (call f ts) (con c us) a (s, h) (t, i) e =
      absurd (constructor_or_function th c f a t s (sym (use_name (function_name th f) (constructor_name th c) (raw_terms th level ts)
      (raw_terms th level us) e)))
  one_term th level (con c ts) (put us) a (s, h) i e =
      absurd (constructor_or_program th c a s (use_name (constructor_name th c) th.program.name (raw_terms th level ts) (raw_terms th level us) e))
  one_term th level (put ts) (con c us) a h (t, i) e =
      absurd (constructor_or_program th c a t (sym (use_name th.program.name (constructor_name th c) (raw_terms th level ts) (raw_terms th level us) e)))
  one_term th level (call f ts) (put us) a (s, h) i e =
      absurd (function_or_program th f a s (use_name (function_name th f) th.program.name (raw_terms th level ts) (raw_terms th level us) e))
  one_term th level (put ts) (call f us) a h (t, i) e =
      absurd (function_or_program th f a t (sym (use_name th.program.name (function_name th f) (raw_terms th level ts) (raw_terms th level us) e)))
  one_term th level (choice ts) (choice us) a (n, h) (m, i) e = ap choice (all_terms th level ts us a h i (if_terms (raw_terms th level ts)
      (raw_terms th level us) e))
  one_term th level (case d t xs) (case c u ys) a (h, p, hs) (i, q, is) e =
      let bs = raw_branches th level d 0 xs in
      let cs = raw_branches th level c 0 ys in
      let same = case_branches (raw_term th level t ∷ []) (raw_term th level u ∷ []) bs cs e in
      let owner : d ≡ c = first_case th level d c xs ys a p q hs is same in
      let looked = one_term th level t u a h i
      (first (raw_term th level t) (raw_term th level u) [] [] (case_terms (raw_term th level t ∷ []) (raw_term th level u ∷ []) bs cs e)) in
      let arms = all_arms th level d 0 xs ys a hs (subst (λ z. ArmsHaveText th level z 0 ys) (sym owner) is)
      (same ∙ ap (λ z. raw_branches th level z 0 ys) (sym owner)) in
      ap (λ z. case z t xs) owner ∙ ap (λ z. case c z xs) looked ∙ ap (case c u) arms
  one_term th level (bind t x) (bind u y) a (n, h, hs) (m, i, is) e =
      let v = binders.Level (level + 1) in
      let inner = level + 1 in
      let both = let_terms v v (raw_term th level t ∷ raw_term th inner x ∷ []) (raw_term th level u ∷ raw_term th inner y ∷ []) e in
      let given = one_term th level t u a h i (first (raw_term th level t) (raw_term th level u) (raw_term th inner x ∷ [])
      (raw_term th inner y ∷ []) both) in
      let body = one_term th inner x y a hs is (first (raw_term th inner x) (raw_term th inner y) [] []
      (others (raw_term th level t) (raw_term th level u) (raw_term th inner x ∷ []) (raw_term th inner y ∷ []) both)) in
      ap (λ z. bind z x) given ∙ ap (bind u) body
  one_term th level (op o ts) (op p us) a (n, h) (m, i) e =
      let head = one_operator o p (length (elements ts)) (length (elements us)) n m
      (op_number (operator_number o) (operator_number p) (raw_terms th level ts) (raw_terms th level us) e) in
      let rest = all_terms th level ts us a h i (op_terms (operator_number o) (operator_number p) (raw_terms th level ts) (raw_terms th level us) e) in
      ap (λ z. op z ts) head ∙ ap (op p) rest
  one_term th level t u a h i e = absurd cc

  pub all_terms : (th : Theory) (level : ℕ) (ts us : Trees) → IsAccepted th → HaveText th level ts → HaveText th level us
      → raw_terms th level ts ≡ raw_terms th level us → ts ≡ us
  all_terms th level none none a h i e = refl
  all_terms th level none (more u us) a h i e = absurd cc
  all_terms th level (more t ts) none a h i e = absurd cc
  all_terms th level (more t ts) (more u us) a (h, hs) (i, is) e =
      let head = one_term th level t u a h i (first (raw_term th level t) (raw_term th level u) (raw_terms th level ts) (raw_terms th level us) e) in
      let rest = all_terms th level ts us a hs is (others (raw_term th level t) (raw_term th level u) (raw_terms th level ts) (raw_terms th level us) e) in
      ap (λ z. more z ts) head ∙ ap (more u) rest

  all_arms : (th : Theory) (level d at : ℕ) (xs ys : Arms) → IsAccepted th → ArmsHaveText th level d at xs → ArmsHaveText th level d at ys
      → raw_branches th level d at xs ≡ raw_branches th level d at ys → xs ≡ ys
  all_arms th level d at end end a h i e = refl
  all_arms th level d at end (arm n u ys) a h i e = absurd cc
  all_arms th level d at (arm m t xs) end a h i e = absurd cc
  all_arms th level d at (arm m t xs) (arm n u ys) a (b, p, h, hs) (c, q, i, is) e =
      let left = raw_branch (raw_head th d at) (raw_binders level m) (raw_term th (level + m) t) in
      let right = raw_branch (raw_head th d at) (raw_binders level n) (raw_term th (level + n) u) in
      let one = first_branch left right (raw_branches th level d (at + 1) xs) (raw_branches th level d (at + 1) ys) e in
      let count : m ≡ n = same_count level m n (same_variables _ _ _ _ _ _ one) in
      let body = one_term th (level + m) t u a h (subst (λ z. HasText th (level + z) u) (sym count) i)
      (same_body _ _ _ _ _ _ one ∙ ap (λ z. raw_term th (level + z) u) (sym count)) in
      let rest = all_arms th level d (at + 1) xs ys a hs is
      (other_branches left right (raw_branches th level d (at + 1) xs) (raw_branches th level d (at + 1) ys) e) in
      ap (λ z. arm z t xs) count ∙ ap (λ z. arm n z xs) body ∙ ap (arm n u) rest
