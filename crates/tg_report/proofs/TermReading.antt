-- Terms are read back.
use Rattle.std.proofs.Common.{◌≡◌, ◌≢◌, ℕ, zero, suc, ◌+◌, ◌-◌, ◌<◌, ◌^◌, true, List, [], ◌∷◌, ◌++◌, length, inl, inr, refl, sym, ap}
use Rattle.std.proofs.Common.{subst, ◌∙◌, append-nil, arith}
use Rattle.std.specs.Prelude.{codes}
use Rattle.tg_model.specs.Theory.{Theory}
use Rattle.tg_model.specs.Tree.{Tree, Trees, Arms, Operator, bound, free, literal, truth, con, call, put, choice, case, bind, op, none}
use Rattle.tg_model.specs.Tree.{more, end, arm, elements}
use Rattle.tg_model.specs.Tree.{successor, negation, conjunction, disjunction, implication, equality, less, less_equal, plus, minus, times}
use Rattle.tg_model.specs.Tree.{divide, modulo, unnamed}
use Rattle.tg_term.specs.Operators.{operator_number}
use Rattle.tg_grammar.specs.declared.terms.RawTerm.{RawTerm}
use Rattle.tg_grammar.specs.declared.terms.RawTerm.TheVariants as raw
use Rattle.tg_grammar.specs.declared.terms.RawBranch.{RawBranch}
use Rattle.tg_grammar.specs.Kinds as kinds
use Rattle.tg_grammar.specs.Operators as operators
use Rattle.tg_grammar.specs.Seen.{Seen, word_kind}
use Rattle.tg_grammar.specs.Parts.{in_certificate, Term, Branch, BranchHead, MoreBranches, Atom, Atoms}
use Rattle.tg_theory.specs.Wholes.{IsWritten}
use Rattle.tg_render.specs.Tokens.{mark, name, joined, continued, application, IsNameWord}
use Rattle.tg_render.proofs.Forward.{tokens_back}
use Rattle.tg_report.specs.Words.{comma, sign, bound_variable}
use Rattle.tg_report.specs.Names.{branch_head}
use Rattle.tg_report.specs.TermTexts as texts
use Rattle.tg_report.specs.TermTexts.{term_tokens, terms_tokens, branches_tokens, is_infix, infixed, operation, conditional, cases}
use Rattle.tg_report.specs.RawTerms.{raw_term, raw_terms, raw_branches, raw_head, raw_binders, HasText, HaveText, ArmsHaveText, HasOperands, HasArm, IsBranch}
use Rattle.tg_report.specs.ReadBack.{IsReadBack}
use Rattle.tg_report.proofs.NameWords.{name_word, constructor_named, function_named, program_named, place_named}
use Rattle.tg_report.proofs.ProperTokens.{IsPart, symbol, keyword}
use Rattle.tg_report.proofs.TermShapes.{atom_term, application_term, in_brackets, a_number, a_truth, a_free, a_bound, a_name, no_atoms, one_atom, a_use}
use Rattle.tg_report.proofs.TermShapes.{a_successor, a_negation, a_product, a_sum, a_comparison, a_conjunction, a_disjunction, an_implication}
use Rattle.tg_report.proofs.BinderShapes.{a_conditional, a_binding, variables, zero_head, successor_head, named_head, a_branch}
use Rattle.tg_report.proofs.BinderShapes.{no_branches, one_branch, a_case}

abbrev pub AreAtoms : List RawTerm → List (List Seen) → Type 0
AreAtoms [] [] = Unit {0}
AreAtoms [] (x ∷ xs) = ⊥
AreAtoms (v ∷ vs) [] = ⊥
AreAtoms (v ∷ vs) (x ∷ xs) = IsPart (Atom in_certificate) v x × AreAtoms vs xs

pub all_of : (vs : List RawTerm) (xs : List (List Seen)) → AreAtoms vs xs → IsPart (Atoms in_certificate) vs (joined xs)
all_of [] [] a = no_atoms
all_of [] (x ∷ xs) a = absurd a
all_of (v ∷ vs) [] a = absurd a
all_of (v ∷ vs) (x ∷ xs) (a, others) = one_atom v vs x (joined xs) a (all_of vs xs others)

-- ---- uses, conditionals and operators at their arguments

a_use_of : (x : List ℕ) (vs : List RawTerm) (xs : List (List Seen)) → IsNameWord x → AreAtoms vs xs
    → IsPart (Atom in_certificate) (raw.Use x vs) (application (name x) xs)
a_use_of x [] [] w a = a_name x w
a_use_of x [] (t ∷ ts) w a = absurd a
a_use_of x (v ∷ vs) [] w a = absurd a
a_use_of x (v ∷ vs) (t ∷ ts) w (a, others) =
    in_brackets (raw.Use x (v ∷ vs)) (name x ∷ (t ++ joined ts))
    (application_term (raw.Use x (v ∷ vs)) (name x ∷ (t ++ joined ts)) (a_use x v vs t (joined ts) w a (all_of vs ts others)))

a_choice_of : (vs : List RawTerm) (xs : List (List Seen)) → length xs ≡ 3 → AreAtoms vs xs → IsPart (Atom in_certificate) (raw.If vs) (conditional xs)
a_choice_of (a ∷ b ∷ c ∷ []) (x ∷ y ∷ z ∷ []) n (p, (q, (r, others))) =
    in_brackets (raw.If (a ∷ b ∷ c ∷ []))
    (mark kinds.if_word (codes "if") ∷ (x ++ mark kinds.then_word (codes "then") ∷ (y ++ mark kinds.else_word (codes "else") ∷ z)))
    (a_conditional a b c x y z (atom_term a x p) (atom_term b y q) (atom_term c z r))
a_choice_of vs [] n a = absurd (omega (arith, n))
a_choice_of vs (x ∷ []) n a = absurd (omega (arith, n))
a_choice_of vs (x ∷ y ∷ []) n a = absurd (omega (arith, n))
a_choice_of vs (x ∷ y ∷ z ∷ u ∷ xs) n a = absurd (omega (arith, n))
a_choice_of [] (x ∷ y ∷ z ∷ []) n a = absurd a
a_choice_of (u ∷ []) (x ∷ y ∷ z ∷ []) n a = absurd a.1
a_choice_of (u ∷ v ∷ []) (x ∷ y ∷ z ∷ []) n a = absurd a.1.1
a_choice_of (u ∷ v ∷ w ∷ t ∷ vs) (x ∷ y ∷ z ∷ []) n a = absurd a.1.1.1

-- between two operands
between : (o : Operator) (v w : RawTerm) (x y : List Seen) → is_infix o ≡ true → IsPart (Atom in_certificate) v x → IsPart (Atom in_certificate) w y
    → IsPart (Term in_certificate) (raw.Op (operator_number o) (v ∷ w ∷ [])) (x ++ sign o ∷ y)
unfolding word_kind
between successor v w x y i a b = absurd cc
between negation v w x y i a b = absurd cc
between (unnamed n) v w x y i a b = absurd cc
between conjunction v w x y i a b = a_conjunction v w x y a b
between disjunction v w x y i a b = a_disjunction v w x y a b
between implication v w x y i a b = an_implication v w x y a b
between equality v w x y i a b = a_comparison operators.equal_operator (sign equality) v w x y (symbol kinds.equal (codes "=") refl) (inl
    (sign equality, refl, (refl, refl))) a b
between less v w x y i a b = a_comparison operators.less_operator (sign less) v w x y (symbol kinds.less (codes "<") refl) (inr (inl
    (sign less, refl, (refl, refl)))) a b
between less_equal v w x y i a b =
    a_comparison operators.less_equal_operator (sign less_equal) v w x y (symbol kinds.less_equal (codes "<=") refl) (inr (inr
    (sign less_equal, refl, (refl, refl)))) a b
between plus v w x y i a b = a_sum operators.plus_operator (sign plus) v w x y (symbol kinds.plus (codes "+") refl) (inl (sign plus, refl, (refl, refl))) a b
between minus v w x y i a b = a_sum operators.minus_operator (sign minus) v w x y (symbol kinds.minus (codes "-") refl) (inr (
  sign minus,
  refl,
  (refl, refl),
)) a b
between times v w x y i a b = a_product operators.times_operator (sign times) v w x y (symbol kinds.times (codes "*") refl) (inl (
  sign times,
  refl,
  (refl, refl),
)) a b
between divide v w x y i a b =
    a_product operators.div_operator (sign divide) v w x y (keyword kinds.div_word (codes "div") refl refl) (inr (inl (sign divide, refl, (refl, refl)))) a b
between modulo v w x y i a b =
    a_product operators.mod_operator (sign modulo) v w x y (keyword kinds.mod_word (codes "mod") refl refl) (inr (inr (sign modulo, refl, (refl, refl)))) a b

an_infix_of : (o : Operator) (vs : List RawTerm) (xs : List (List Seen)) → is_infix o ≡ true → length xs ≡ 2 → AreAtoms vs xs
    → IsPart (Atom in_certificate) (raw.Op (operator_number o) vs) (infixed (sign o) xs)
an_infix_of o (v ∷ w ∷ []) (x ∷ y ∷ []) i n (a, (b, others)) =
    in_brackets (raw.Op (operator_number o) (v ∷ w ∷ [])) (x ++ sign o ∷ y) (between o v w x y i a b)
an_infix_of o vs [] i n a = absurd (omega (arith, n))
an_infix_of o vs (x ∷ []) i n a = absurd (omega (arith, n))
an_infix_of o vs (x ∷ y ∷ z ∷ xs) i n a = absurd (omega (arith, n))
an_infix_of o [] (x ∷ y ∷ []) i n a = absurd a
an_infix_of o (u ∷ []) (x ∷ y ∷ []) i n a = absurd a.1
an_infix_of o (u ∷ v ∷ w ∷ vs) (x ∷ y ∷ []) i n a = absurd a.1.1

-- before its one operand
before_one : (o : Operator) (v : RawTerm) (x : List Seen) → HasOperands o 1 → IsPart (Atom in_certificate) v x
    → IsPart (Term in_certificate) (raw.Op (operator_number o) (v ∷ [])) (sign o ∷ (x ++ []))
before_one successor v x n a = application_term (raw.Op operators.suc_operator (v ∷ [])) (mark kinds.suc_word (codes "Suc") ∷ (x ++ [])) (a_successor v x a)
before_one negation v x n a =
    subst (λ ts. IsPart (Term in_certificate) (raw.Op operators.not_operator (v ∷ [])) (mark kinds.not (codes "~") ∷ ts)) (sym (append-nil x))
    (a_negation v x a)
before_one (unnamed k) v x n a = absurd n
before_one _ v x n a = absurd (omega (arith, n))

a_prefix_of : (o : Operator) (vs : List RawTerm) (xs : List (List Seen)) → HasOperands o 1 → length xs ≡ 1 → AreAtoms vs xs
    → IsPart (Atom in_certificate) (raw.Op (operator_number o) vs) (application (sign o) xs)
a_prefix_of o (v ∷ []) (x ∷ []) i n (a, others) = in_brackets (raw.Op (operator_number o) (v ∷ [])) (sign o ∷ (x ++ [])) (before_one o v x i a)
a_prefix_of o vs [] i n a = absurd (omega (arith, n))
a_prefix_of o vs (x ∷ y ∷ xs) i n a = absurd (omega (arith, n))
a_prefix_of o [] (x ∷ []) i n a = absurd a
a_prefix_of o (u ∷ v ∷ vs) (x ∷ []) i n a = absurd a.1

an_operation : (o : Operator) (vs : List RawTerm) (xs : List (List Seen)) → HasOperands o (length xs) → AreAtoms vs xs
    → IsPart (Atom in_certificate) (raw.Op (operator_number o) vs) (operation o xs)
an_operation successor vs xs n a = a_prefix_of successor vs xs refl n a
an_operation negation vs xs n a = a_prefix_of negation vs xs refl n a
an_operation (unnamed k) vs xs n a = absurd n
an_operation conjunction vs xs n a = an_infix_of conjunction vs xs refl n a
an_operation disjunction vs xs n a = an_infix_of disjunction vs xs refl n a
an_operation implication vs xs n a = an_infix_of implication vs xs refl n a
an_operation equality vs xs n a = an_infix_of equality vs xs refl n a
an_operation less vs xs n a = an_infix_of less vs xs refl n a
an_operation less_equal vs xs n a = an_infix_of less_equal vs xs refl n a
an_operation plus vs xs n a = an_infix_of plus vs xs refl n a
an_operation minus vs xs n a = an_infix_of minus vs xs refl n a
an_operation times vs xs n a = an_infix_of times vs xs refl n a
an_operation divide vs xs n a = an_infix_of divide vs xs refl n a
an_operation modulo vs xs n a = an_infix_of modulo vs xs refl n a

-- ---- branches

abbrev AreBranches : List RawBranch → List (List Seen) → Type 0
AreBranches [] [] = Unit {0}
AreBranches [] (x ∷ xs) = ⊥
AreBranches (b ∷ bs) [] = ⊥
AreBranches (b ∷ bs) (x ∷ xs) = IsPart (Branch in_certificate) b x × AreBranches bs xs

further : (bs : List RawBranch) (xs : List (List Seen)) → AreBranches bs xs → IsPart (MoreBranches in_certificate) bs (continued comma xs)
further [] [] a = no_branches
further [] (x ∷ xs) a = absurd a
further (b ∷ bs) [] a = absurd a
further (b ∷ bs) (x ∷ xs) (a, others) = one_branch b bs x (continued comma xs) a (further bs xs others)

a_case_of : (v : RawTerm) (t : List Seen) (bs : List RawBranch) (xs : List (List Seen)) → IsPart (Atom in_certificate) v t → length xs ≢ 0 → AreBranches bs xs
    → IsPart (Atom in_certificate) (raw.Case (v ∷ []) bs) (cases t xs)
a_case_of v t bs [] p n a = absurd (n refl)
a_case_of v t [] (x ∷ xs) p n a = absurd a
a_case_of v t (b ∷ bs) (x ∷ xs) p n (a, others) =
    in_brackets (raw.Case (v ∷ []) (b ∷ bs))
    (mark kinds.case_word (codes "case") ∷ (t ++ mark kinds.of_word (codes "of") ∷ mark kinds.open_brace (codes "{")
    ∷ ((x ++ continued comma xs) ++ mark kinds.close_brace (codes "}") ∷ [])))
    (a_case v b bs t x (continued comma xs) (atom_term v t p) a (further bs xs others))

a_head : (th : Theory) (level d at count : ℕ) → IsWritten th → IsBranch th d at count → level + count < 2 ^ 64
    → IsPart (BranchHead in_certificate) (raw_head th d at, raw_binders level count) (branch_head th d at ∷ texts.binders level count)
a_head th level zero zero zero w i h = zero_head
a_head th level zero zero (suc count) w i h = absurd cc
a_head th level zero (suc j) (suc zero) w i h = successor_head (level + 1) h
a_head th level zero (suc j) zero w i h = absurd cc
a_head th level zero (suc j) (suc (suc count)) w i h = absurd cc
a_head th level (suc d) at count w i h = named_head _ (raw_binders level count) (texts.binders level count) (name_word _ (place_named th d at w i))
    (variables level count h)

-- ---- all terms

same_length : (th : Theory) (level : ℕ) (ts : Trees) → length (terms_tokens th level ts) ≡ length (elements ts)
same_length th level none = refl
same_length th level (more t ts) = ap suc (same_length th level ts)

some_branch : (th : Theory) (level d : ℕ) (arms : Arms) → HasArm arms → length (branches_tokens th level d 0 arms) ≢ 0
some_branch th level d end h = absurd h
some_branch th level d (arm count body arms) h = λ e. absurd cc

mutual
  pub atom : (th : Theory) (level : ℕ) (t : Tree) → IsWritten th → HasText th level t
      → IsPart (Atom in_certificate) (raw_term th level t) (term_tokens th level t)
  atom th level (bound k) w h = a_bound (level - k) h.1
  atom th level (free n) w h = a_free n h
  atom th level (literal n) w h = a_number n h
  atom th level (truth b) w h = a_truth b
  atom th level (con c ts) w (h, hs) = a_use_of _ (raw_terms th level ts) (terms_tokens th level ts) (name_word _ (constructor_named th c w h))
      (atoms th level ts w hs)
  atom th level (call f ts) w (h, hs) = a_use_of _ (raw_terms th level ts) (terms_tokens th level ts) (name_word _ (function_named th f w h))
      (atoms th level ts w hs)
  atom th level (put ts) w hs = a_use_of _ (raw_terms th level ts) (terms_tokens th level ts) (name_word _ (program_named th w)) (atoms th level ts w hs)
  atom th level (choice ts) w (h, hs) = a_choice_of (raw_terms th level ts) (terms_tokens th level ts) (same_length th level ts ∙ h) (atoms th level ts w hs)
  atom th level (case d t arms) w (h, some, hs) =
      a_case_of (raw_term th level t) (term_tokens th level t) (raw_branches th level d 0 arms) (branches_tokens th level d 0 arms) (atom th level t w h)
      (some_branch th level d arms some) (branches th level d 0 arms w hs)
  atom th level (bind t body) w (n, h, hs) =
      let inner = level + 1 in
      in_brackets (raw_term th level (bind t body)) (mark kinds.let_word (codes "let") ∷ (bound_variable inner ++ mark kinds.equal (codes "=")
      ∷ (term_tokens th level t ++ mark kinds.in_word (codes "in") ∷ term_tokens th inner body)))
      (a_binding inner (raw_term th level t) (raw_term th inner body) (term_tokens th level t) (term_tokens th inner body) n
      (atom_term _ _ (atom th level t w h)) (atom_term _ _ (atom th inner body w hs)))
  atom th level (op o ts) w (h, hs) =
      an_operation o (raw_terms th level ts) (terms_tokens th level ts) (subst (HasOperands o) (sym (same_length th level ts)) h) (atoms th level ts w hs)

  pub atoms : (th : Theory) (level : ℕ) (ts : Trees) → IsWritten th → HaveText th level ts → AreAtoms (raw_terms th level ts) (terms_tokens th level ts)
  atoms th level none w h = tt
  atoms th level (more t ts) w (h, hs) = (atom th level t w h, atoms th level ts w hs)

  branches : (th : Theory) (level d at : ℕ) (arms : Arms) → IsWritten th → ArmsHaveText th level d at arms
      → AreBranches (raw_branches th level d at arms) (branches_tokens th level d at arms)
  branches th level d at end w h = tt
  branches th level d at (arm count body arms) w (i, n, h, hs) = (
    a_branch (raw_head th d at) (raw_binders level count) (raw_term th (level + count) body) (branch_head th d at ∷ texts.binders level count)
        (term_tokens th (level + count) body) (a_head th level d at count w i n) (atom_term _ _ (atom th (level + count) body w h)),
    branches th level d (at + 1) arms w hs,
  )

pub terms_back : (th : Theory) (level : ℕ) (t : Tree) → IsWritten th → HasText th level t
    → IsReadBack (Atom in_certificate) (raw_term th level t) (term_tokens th level t)
terms_back th level t w h = let a = atom th level t w h in (tokens_back (term_tokens th level t) a.proper, a.read)
