-- The text of a typed term stands for the term.
use Rattle.std.proofs.Common.{ℕ, zero, suc, ◌≡◌, ◌+◌, ◌-◌, ◌<◌, true, false, nat_eq, List, [], ◌∷◌, ◌++◌, map, reverse, length, Option, Some, None, refl, sym, ap, ◌∙◌, add-one, arith, append_assoc}
use Rattle.std.specs.Prelude.{slice_get, option_map, option_and_then, if◌then◌else◌}
use Rattle.std.specs.Option.{option_map_or}
use Rattle.std.proofs.lemmas.Bool.Decides.{Decides-eqb}
use Rattle.std.proofs.lemmas.List.{reverse-append}
use Rattle.tg_model.specs.Accepted.{IsAccepted}
use Rattle.tg_model.specs.Theory.{Theory, Datatype, Constructor, Owned, constructor_at, first_constructor, instance}
use Rattle.tg_model.specs.Tree as tree
use Rattle.tg_model.specs.Tree.{Tree, Trees, Arms, Operator}
use Rattle.tg_model.specs.Types.{Ty}
use Rattle.tg_model.specs.Tree.{elements}
use Rattle.tg_model.specs.TypeLaws.{AreBranchSizes, branch_sizes, EachCase, EachCases, EachCaseOf}
use Rattle.tg_model.proofs.Inhabited.{constructor_number}
use Rattle.tg_term.specs.Operators.{operator, operator_number}
use Rattle.tg_accept.specs.Core.{heads_from, heads_of, unnamed, resolved_again, all_resolved_again, branches_again}
use Rattle.tg_accept.specs.Meaning.{Word, constructor, function, the_program, constructor_named, word_named, variable_on, word_on, word_meant, head_meant, place_of, may_bind, may_bind_all, name_of, datatype_of_first, datatype_of_head, resolve, resolve_all, resolve_branches}
use Rattle.tg_accept.specs.Raw as raw
use Rattle.tg_accept.specs.Raw.{Binder, level}
use Rattle.tg_accept.specs.Resolved as resolved
use Rattle.tg_accept.specs.Resolved.{Head, zero_head, successor_head, of, Resolved, Resolveds}
use Rattle.tg_accept.specs.Standing.{declared_in, certificate_scope, levels}
use Rattle.tg_accept.proofs.Aligned.{as_many}
use Rattle.tg_accept.proofs.Misnamed.{is_false}
use Rattle.tg_infer.specs.View.{Seen, binder, head, branched, seen, raw_term, raw_terms, raw_branches, raw_term-Num, raw_term-Truth, raw_term-Use, raw_term-Free, raw_term-Bound, raw_term-Op, raw_term-If, raw_term-Let, raw_term-Case, seen-RawBranch}
use Rattle.tg_grammar.specs.declared.terms.Binder.TheVariants.{Level}
use Rattle.tg_report.specs.Names.{constructor_name, function_name, constructors_of, name_at}
use Rattle.tg_report.specs.RawTerms as text
use Rattle.tg_report.specs.RawTerms.{raw_head, raw_binders, raw_branch, HasText, HaveText, ArmsHaveText, HasOperands, HasArm, IsBranch}
use Rattle.tg_cert.proofs.NamesBack.{constructor_found, constructor_word, function_word, program_word}

-- ---- binders

length_levels : (n : ℕ) → length (levels n) ≡ n
length_levels zero = refl
length_levels (suc n) = ap suc (length_levels n)

one_more : (n : ℕ) → level (n + 1) ∷ levels n ≡ levels (n + 1)
one_more n = (λ i. level (add-one n i) ∷ levels n) ∙ ap levels (sym (add-one n))

place_in : (n k : ℕ) → k < n → place_of (level (n - k)) (levels n) ≡ Some k
place_in zero k h = absurd (omega (arith, h))
place_in (suc n) zero h =
    let e : suc n - 0 ≡ suc n = omega arith in
    ap (λ b. if b then Some 0 else option_map suc (place_of (level (suc n - 0)) (levels n))) ((Decides-eqb (suc n - 0) (suc n)).1 e)
place_in (suc n) (suc k) h =
    let e : suc n - suc k ≡ n - k = omega arith in
    let other : nat_eq (n - k) (suc n) ≡ false =
    (is_false (n - k ≡ suc n) (nat_eq (n - k) (suc n)) (Decides-eqb (n - k) (suc n))).1 (λ e. absurd (omega (arith, e))) in
    ap (λ m. place_of (level m) (levels (suc n))) e
    ∙ ap (λ b. if b then Some 0 else option_map suc (place_of (level (n - k)) (levels n))) other ∙ ap (option_map suc) (place_in n k (omega (arith, h)))

no_place : (x : List ℕ) (n : ℕ) → place_of (raw.name x) (levels n) ≡ None
no_place x zero = refl
no_place x (suc n) = ap (option_map suc) (no_place x n)

abbrev bound_by : ℕ → ℕ → List Binder
bound_by n count = map binder (raw_binders n count)

names_bound : (n count : ℕ) → map name_of (bound_by n count) ≡ unnamed count
names_bound n zero = refl
names_bound n (suc count) = ap (λ l. [] ∷ l) (names_bound (n + 1) count)

around : (n count : ℕ) → reverse (bound_by n count) ++ levels n ≡ levels (n + count)
around n zero = ap levels (let e : n ≡ n + 0 = omega arith in e)
around n (suc count) =
    ap (λ l. l ++ levels n) (reverse-append (level (n + 1) ∷ []) (bound_by (n + 1) count))
    ∙ append_assoc (reverse (bound_by (n + 1) count)) (level (n + 1) ∷ []) (levels n)
    ∙ ap (λ l. reverse (bound_by (n + 1) count) ++ l) (one_more n) ∙ around (n + 1) count
    ∙ ap levels (let e : n + 1 + count ≡ n + suc count = omega arith in e)

known : (o : Operator) (n : ℕ) → HasOperands o n → operator (operator_number o) ≡ o
known tree.successor n h = refl
known tree.negation n h = refl
known tree.conjunction n h = refl
known tree.disjunction n h = refl
known tree.implication n h = refl
known tree.equality n h = refl
known tree.less n h = refl
known tree.less_equal n h = refl
known tree.plus n h = refl
known tree.minus n h = refl
known tree.times n h = refl
known tree.divide n h = refl
known tree.modulo n h = refl
known (tree.unnamed k) n h = absurd h

module _ (th : Theory) where
  abbrev Resolves : ℕ → raw.RawTerm → Resolved → Type 0
  Resolves n t r = resolve (certificate_scope th) (levels n) t ≡ Some r

  may_one : (n : ℕ) → may_bind (certificate_scope th) (levels n) (level (n + 1)) ≡ true
  may_one n = (Decides-eqb (n + 1) (suc (length (levels n)))).1 (add-one n ∙ ap suc (sym (length_levels n)))

  may_all : (n count : ℕ) → may_bind_all (certificate_scope th) (levels n) (bound_by n count) ≡ true
  may_all n zero = refl
  may_all n (suc count) = rw (may_one n) (ap (λ l. may_bind_all (certificate_scope th) l (bound_by (n + 1) count)) (one_more n) ∙ may_all (n + 1) count)

  word_is : (n : ℕ) (x : List ℕ) (us : Resolveds) (w : Word) → word_named (declared_in th) x ≡ Some w
      → word_meant (certificate_scope th) (levels n) x us ≡ Some (word_on us w)
  word_is n x us w e =
      ap (λ o. option_map_or (λ k. Some (variable_on (resolved.bound k) us)) o (option_map (word_on us) (word_named (declared_in th) x))) (no_place x n)
      ∙ ap (option_map (word_on us)) e

  by_word : (n : ℕ) (x : List ℕ) (rs : raw.RawTerms) (us : Resolveds) (w : Word) → resolve_all (certificate_scope th) (levels n) rs ≡ Some us
      → word_named (declared_in th) x ≡ Some w → Resolves n (raw.word x rs) (word_on us w)
  by_word n x rs us w e f = ap (option_and_then (word_meant (certificate_scope th) (levels n) x)) e ∙ word_is n x us w f

  -- ---- the heads of branches

  abbrev AreMeant : ℕ → ℕ → List Head → Type 0
  AreMeant d at [] = Unit {0}
  AreMeant d at (h ∷ hs) = (head_meant (declared_in th) (head (raw_head th d at)) ≡ Some h) × AreMeant d (at + 1) hs

  abbrev IsFirst : ℕ → List Head → Type 0
  IsFirst d [] = Unit {0}
  IsFirst d (h ∷ hs) = datatype_of_head (declared_in th) h ≡ d

  module _ (ok : IsAccepted th) where
    abbrev owned : ℕ → Constructor → Owned
    owned d k = record { datatype = d; constructor = k }

    meant_from : (d at c : ℕ) (cs : List Constructor)
        → ((i : ℕ) (k : Constructor) → slice_get cs i ≡ Some k → constructor_at th (c + i) ≡ Some (owned (suc d) k))
        → ((i : ℕ) → slice_get (constructors_of th (suc d)) (at + i) ≡ slice_get cs i) → AreMeant (suc d) at (heads_from c (length cs))
    meant_from d at c [] own all = tt
    meant_from d at c (k ∷ cs) own all =
        let here : c + 0 ≡ c = omega arith in
        let there : at + 0 ≡ at = omega arith in
        let name : name_at (constructors_of th (suc d)) at ≡ k.name =
        ap (λ o. option_map_or (λ (x : Constructor). x.name) o []) (ap (slice_get (constructors_of th (suc d))) (sym there) ∙ all 0) in (
          ap (λ x. option_map of (constructor_named (declared_in th) x)) name
              ∙ ap (option_map of) (constructor_found th ok c (owned (suc d) k) (ap (constructor_at th) (sym here) ∙ own 0 k refl)),
          meant_from d (at + 1) (suc c) cs
              (λ i l e. let next : suc c + i ≡ c + suc i = omega arith in ap (constructor_at th) next ∙ own (suc i) l e)
              (λ i. let next : at + 1 + i ≡ at + suc i = omega arith in ap (slice_get (constructors_of th (suc d))) next ∙ all (suc i)),
        )

    are_meant : (d : ℕ) (sizes : List ℕ) → AreBranchSizes th d sizes → AreMeant d 0 (heads_of th d)
    are_meant zero sizes h = (refl, (refl, tt))
    are_meant (suc d) sizes (x, is, count) =
        let cs = ap (λ o. option_map_or (λ (y : Datatype). y.constructors) o []) is in
        let all =
        meant_from d 0 (first_constructor th.datatypes (suc d)) x.constructors (λ i k e. constructor_number th d x i k is e)
        (λ i. let e : 0 + i ≡ i = omega arith in ap (slice_get (constructors_of th (suc d))) e ∙ ap (λ l. slice_get l i) cs)
        in
        rw (is) all

    is_first : (d : ℕ) (sizes : List ℕ) → AreBranchSizes th d sizes → IsFirst d (heads_of th d)
    is_first zero sizes h = refl
    is_first (suc d) sizes (x, is, count) = rw (is) (by x.constructors (λ i k e. constructor_number th d x i k is e))
      where
        by : (cs : List Constructor)
            → ((i : ℕ) (k : Constructor) → slice_get cs i ≡ Some k → constructor_at th (first_constructor th.datatypes (suc d) + i) ≡ Some (owned (suc d) k))
            → IsFirst (suc d) (heads_from (first_constructor th.datatypes (suc d)) (length cs))
        by [] own = tt
        by (k ∷ cs) own =
            let here : first_constructor th.datatypes (suc d) + 0 ≡ first_constructor th.datatypes (suc d) = omega arith in
            ap (λ (o : Option Owned). option_map_or (λ (p : ℕ × List Ty). p.0)
            (option_map (λ (o : Owned). (o.datatype, map (instance []) o.constructor.arguments)) o) 0) (ap (constructor_at th) (sym here) ∙ own 0 k refl)

    -- ---- terms

    mutual
      pub term_back : (n : ℕ) (t : Tree) → HasText th n t → EachCase th t → Resolves n (raw_term (text.raw_term th n t)) (resolved_again th t)
      term_back n (tree.bound k) h c = ap (resolve (certificate_scope th) (levels n)) (raw_term-Bound (n - k)) ∙ ap (option_map resolved.bound) (place_in n k h.0)
      term_back n (tree.free m) h c = ap (resolve (certificate_scope th) (levels n)) (raw_term-Free m)
      term_back n (tree.literal m) h c = ap (resolve (certificate_scope th) (levels n)) (raw_term-Num m)
      term_back n (tree.truth b) h c = ap (resolve (certificate_scope th) (levels n)) (raw_term-Truth b)
      term_back n (tree.con k ts) h c =
          ap (resolve (certificate_scope th) (levels n)) (raw_term-Use (constructor_name th k) (text.raw_terms th n ts))
          ∙ by_word n (constructor_name th k) (raw_terms (text.raw_terms th n ts)) (all_resolved_again th ts) (constructor k) (terms_back n ts h.1 c)
          (constructor_word th ok k h.0)
      term_back n (tree.call f ts) h c =
          ap (resolve (certificate_scope th) (levels n)) (raw_term-Use (function_name th f) (text.raw_terms th n ts))
          ∙ by_word n (function_name th f) (raw_terms (text.raw_terms th n ts)) (all_resolved_again th ts) (function f) (terms_back n ts h.1 c)
          (function_word th ok f h.0)
      term_back n (tree.put ts) h c =
          ap (resolve (certificate_scope th) (levels n)) (raw_term-Use th.program.name (text.raw_terms th n ts))
          ∙ by_word n th.program.name (raw_terms (text.raw_terms th n ts)) (all_resolved_again th ts) the_program (terms_back n ts h c) (program_word th ok)
      term_back n (tree.choice ts) h c =
          ap (resolve (certificate_scope th) (levels n)) (raw_term-If (text.raw_terms th n ts)) ∙ ap (option_map resolved.choice) (terms_back n ts h.1 c)
      term_back n (tree.op o ts) h c =
          ap (resolve (certificate_scope th) (levels n)) (raw_term-Op (operator_number o) (text.raw_terms th n ts))
          ∙ ap (option_map (resolved.op (operator (operator_number o)))) (terms_back n ts h.1 c)
          ∙ ap (λ p. Some (resolved.op p (all_resolved_again th ts))) (known o (length (elements ts)) h.0)
      term_back n (tree.bind t body) h c =
          let first = term_back n t h.1 c.0 in
          let second = ap (λ l. resolve (certificate_scope th) l (raw_term (text.raw_term th (n + 1) body))) (one_more n) ∙ term_back (n + 1) body h.2 c.1 in
          ap (resolve (certificate_scope th) (levels n)) (raw_term-Let (Level (n + 1)) (text.raw_term th n t ∷ text.raw_term th (n + 1) body ∷ []))
          ∙ rw (may_one n) (λ i. option_and_then (λ u. option_map (resolved.bind u) (second i)) (first i))
      term_back n (tree.case d t arms) h c =
          let first = term_back n t h.0 c.1 in
          let rest =
          arms_back n d 0 arms (heads_of th d) h.2 c.2 (as_many th d (branch_sizes arms) c.0) (are_meant d (branch_sizes arms) c.0)
          in
          ap (resolve (certificate_scope th) (levels n)) (raw_term-Case (text.raw_term th n t ∷ []) (text.raw_branches th n d 0 arms))
          ∙ (λ i. option_and_then (λ u. option_map (λ vs. resolved.case (datatype_of_first (declared_in th) vs) u vs) (rest i)) (first i))
          ∙ ap (λ m. Some (resolved.case m (resolved_again th t) (branches_again th arms (heads_of th d))))
          (of_first d arms (heads_of th d) h.1 (as_many th d (branch_sizes arms) c.0) (is_first d (branch_sizes arms) c.0))

      of_first : (d : ℕ) (arms : Arms) (hs : List Head) → HasArm arms → length (branch_sizes arms) ≡ length hs → IsFirst d hs
          → datatype_of_first (declared_in th) (branches_again th arms hs) ≡ d
      of_first d tree.end hs some even h = absurd some
      of_first d (tree.arm count body arms) [] some even h = cc even
      of_first d (tree.arm count body arms) (x ∷ hs) some even h = h

      terms_back : (n : ℕ) (ts : Trees) → HaveText th n ts → EachCases th ts
          → resolve_all (certificate_scope th) (levels n) (raw_terms (text.raw_terms th n ts)) ≡ Some (all_resolved_again th ts)
      terms_back n tree.none h c = refl
      terms_back n (tree.more t ts) h c =
          let first = term_back n t h.0 c.0 in
          let rest = terms_back n ts h.1 c.1 in λ i. option_and_then (λ u. option_map (resolved.more u) (rest i)) (first i)

      arms_back : (n d at : ℕ) (arms : Arms) (hs : List Head) → ArmsHaveText th n d at arms → EachCaseOf th arms → length (branch_sizes arms) ≡ length hs
          → AreMeant d at hs
          → resolve_branches (certificate_scope th) (levels n) (raw_branches (text.raw_branches th n d at arms)) ≡ Some (branches_again th arms hs)
      arms_back n d at tree.end [] h c even m = refl
      arms_back n d at tree.end (x ∷ hs) h c even m = cc even
      arms_back n d at (tree.arm count body arms) [] h c even m = cc even
      arms_back n d at (tree.arm count body arms) (x ∷ hs) h c even m =
          let less : length (branch_sizes arms) ≡ length hs = omega (arith, even) in
          let inner = ap (λ l. resolve (certificate_scope th) l (raw_term (text.raw_term th (n + count) body))) (around n count) ∙ term_back (n + count) body h.2 c.0 in
          let rest = arms_back n d (at + 1) arms hs h.3 c.1 less m.1 in
          let b = raw_branch (raw_head th d at) (raw_binders n count) (text.raw_term th (n + count) body) in
          ap (λ (s : Seen). resolve_branches (certificate_scope th) (levels n) (branched (s ∷ map seen (text.raw_branches th n d (at + 1) arms)))) (seen-RawBranch b)
          ∙ rw (may_all n count)
          (λ i. option_and_then (λ k. option_and_then (λ u. option_map (resolved.branch k (names_bound n count i) u) (rest i)) (inner i)) (m.0 i))
