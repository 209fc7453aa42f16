-- Terms for the variables of a closed formula, quantifier by quantifier: of all, and to some.
use Rattle.std.proofs.Common.{ℕ, zero, suc, ◌≡◌, ◌≢◌, ◌+◌, ◌-◌, ◌<◌, ◌≤◌, ◌⊎◌, inl, inr, Bool, true, false, List, [], ◌∷◌, ◌++◌, length, Some, refl, sym, ◌∙◌, ap, subst, nat_eq, nat_lt, if◌then◌else◌, arith, append_assoc}
use Rattle.std.specs.Prelude.{slice_get}
use Rattle.std.specs.Option.{option_map_or}
use Rattle.std.proofs.lemmas.Bool.{ltb-true, ltb-false, eqb-true}
use Rattle.std.proofs.lemmas.Option.{slice_get_within}
use Rattle.tg_model.specs.Tree.{Tree, bound, free, truth}
use Rattle.tg_model.specs.Types.{Ty}
use Rattle.tg_model.specs.Formula.{Formula}
use Rattle.tg_model.specs.Theory.{Theory}
use Rattle.tg_model.specs.TermTyping.{AreListTyped, IsWellFormed}
use Rattle.tg_model.specs.Walk.{walk, walk_formula, raised, as_free, filled, given, lifted, substituted_formula}
use Rattle.tg_model.specs.Closing.{bound_among, for_all, for_some, universal_closure, existential_closure}
use Rattle.tg_model.specs.Equality.{unequal}
use Rattle.tg_model.specs.Uses.{uses_in_formula}
use Rattle.tg_model.proofs.Booleans.{if_true, if_false}
use Rattle.tg_model.proofs.Keeping.{instantiation_keeps_form}
use Rattle.tg_model.proofs.Contexts.{used_in_formulas_have_types}
use Rattle.tg_accept.specs.Checks.{Each}
use Rattle.tg_calculus.specs.Sequent.{Context, Hypotheses}
use Rattle.tg_calculus.specs.Step.{IsFormula}
use Rattle.tg_calculus.specs.Theorem.{Follows}
use Rattle.tg_calculus.proofs.DerivedRules.{instanced, witnessed}
use Rattle.tg_derive.proofs.WalkLaws.{formula_composed, formula_agreeing}
use Rattle.tg_derive.proofs.Quantifiers.{among, is_among, not_among, from_among, from_not_among, is_low, is_high, through_all, through_some}

-- a walk that keeps free variables gives the term back
abbrev pub IsStill : Tree → Type 0
IsStill u = (b : ℕ → ℕ → Tree) (d : ℕ) → walk b as_free d u ≡ u

pub item_there : {A : Type 0} (pre : List A) (t : A) (post : List A) → slice_get (pre ++ (t ∷ post)) (length pre) ≡ Some t
item_there [] t post = refl
item_there (u ∷ pre) t post = item_there pre t post

pub count_more : {A : Type 0} (pre : List A) (t : A) → length (pre ++ t ∷ []) ≡ suc (length pre)
count_more [] t = refl
count_more (u ∷ pre) t = ap suc (count_more pre t)

greater : (k j : ℕ) → j < k → k ≢ suc j → suc j < k
greater k j h n = by (nat_lt (suc j) k) refl
  where
    by : (b : Bool) → nat_lt (suc j) k ≡ b → suc j < k
    by true e = ltb-true (suc j) k e
    by false e = let x = ltb-false (suc j) k e in absurd (n (omega (arith, x, h)))

module _ (us : List Tree) (still : Each IsStill us) where
  given_at : (ts : List Tree) (k d e : ℕ) (b : ℕ → ℕ → Tree) → Each IsStill ts
      → walk b as_free e (option_map_or (lifted d) (slice_get ts k) (truth false)) ≡ option_map_or (lifted d) (slice_get ts k) (truth false)
  given_at [] k d e b h = refl
  given_at (t ∷ ts) zero d e b h = ap (walk b as_free e) (h.0 (raised d) 0) ∙ h.0 b e ∙ sym (h.0 (raised d) 0)
  given_at (t ∷ ts) (suc k) d e b h = given_at ts k d e b h.1

  given_still : (k d e : ℕ) (b : ℕ → ℕ → Tree) → walk b as_free e (given us d k) ≡ given us d k
  given_still zero d e b = refl
  given_still (suc k) d e b = given_at us k d e b still

  -- the first `j` variables have their terms
  abbrev stage : ℕ → ℕ → ℕ → ℕ → Tree
  stage j n d k = if among 0 j k then given us d k else bound_among n d k

  module _ (j m n : ℕ) (count : n ≡ suc j + m) (u : Tree) (here : slice_get us j ≡ Some u) (rests : (b : ℕ → ℕ → Tree) (d : ℕ) → walk b as_free d u ≡ u) where
    abbrev third : ℕ → Tree → Tree
    third e t = walk (filled (u ∷ [])) as_free e t

    abbrev filler : ℕ → ℕ → ℕ → Tree
    filler e k x = option_map_or (lifted e) (slice_get (u ∷ []) x) (bound (k - 1))

    raised_down : (d e k : ℕ) → e ≡ d + m → third e (raised (suc m) d k) ≡ raised m d k
    raised_down d e k q = by (nat_lt k d) refl
      where
        by : (b : Bool) → nat_lt k d ≡ b → third e (if b then bound k else bound (k + suc m)) ≡ (if b then bound k else bound (k + m))
        by true z = is_low (bound k) (filler e k (k - e)) k e (let y = ltb-true k d z in omega (arith, y, q))
        by false z =
            let y = ltb-false k d z in
            is_high (bound (k + suc m)) (filler e (k + suc m) (k + suc m - e)) (k + suc m) e (omega (arith, y, q))
            ∙ ap (filler e (k + suc m)) (let r : k + suc m - e ≡ suc (k - d) = omega (arith, y, q) in r)
            ∙ ap bound (let r : k + suc m - 1 ≡ k + m = omega arith in r)

    own_term : (d k : ℕ) → k ≡ suc j → given us d k ≡ u
    own_term d k e = ap (given us d) e ∙ ap (λ o. option_map_or (lifted d) o (truth false)) here ∙ rests (raised d) 0

    stage_more : (d e k : ℕ) → e ≡ d + m → third e (stage j n d k) ≡ stage (suc j) n d k
    stage_more d e k q = by (among 0 j k) refl
      where
        at : (b : Bool) → nat_eq k (suc j) ≡ b → 0 < k → k ≤ n → j < k → third e (bound (d + (n - k))) ≡ stage (suc j) n d k
        at true z l h i =
            let s = eqb-true k (suc j) z in
            is_high (bound (d + (n - k))) (filler e (d + (n - k)) (d + (n - k) - e)) (d + (n - k)) e (omega (arith, q, s, count))
            ∙ ap (filler e (d + (n - k))) (let r : d + (n - k) - e ≡ 0 = omega (arith, q, s, count) in r)
            ∙ rests (raised e) 0 ∙ sym (own_term d k s)
            ∙ sym (if_true (given us d k) (bound_among n d k) (among 0 (suc j) k) (is_among 0 (suc j) k l (omega (arith, s))))
        at false z l h i =
            let s = unequal k (suc j) z in
            is_low (bound (d + (n - k))) (filler e (d + (n - k)) (d + (n - k) - e)) (d + (n - k)) e
            (let r : suc j < k = greater k j i s in omega (arith, q, r, h, count))
            ∙ sym (if_true (bound (d + (n - k))) (free k) (among 0 n k) (is_among 0 n k l h))
            ∙ sym (if_false (given us d k) (bound_among n d k) (among 0 (suc j) k) (not_among 0 (suc j) k (λ x y. s (omega (arith, y, i)))))

        rest : (b : Bool) → among 0 n k ≡ b → (k ≤ 0) ⊎ (j < k) → third e (if b then bound (d + (n - k)) else free k) ≡ stage (suc j) n d k
        rest true z y =
            let r = from_among 0 n k z in
            elim y [ inl x ↦ absurd (let l = r.0 in omega (arith, l, x)) | inr i ↦ at (nat_eq k (suc j)) refl r.0 r.1 i ]
        rest false z y =
            sym (if_false (given us d k) (bound_among n d k) (among 0 (suc j) k) (not_among 0 (suc j) k (λ l h.
            elim (from_not_among 0 n k z) [ inl x ↦ omega (arith, x, l) | inr x ↦ omega (arith, x, h, count) ]))
            ∙ if_false (bound (d + (n - k))) (free k) (among 0 n k) z)

        by : (b : Bool) → among 0 j k ≡ b → third e (if b then given us d k else bound_among n d k) ≡ stage (suc j) n d k
        by true z =
            let r = from_among 0 j k z in
            given_still k d e (filled (u ∷ []))
            ∙ sym (if_true (given us d k) (bound_among n d k) (among 0 (suc j) k) (is_among 0 (suc j) k r.0 (let h = r.1 in omega (arith, h))))
        by false z = rest (among 0 n k) refl (from_not_among 0 j k z)

    next_stage : (F : Formula) → walk_formula (filled (u ∷ [])) as_free (0 + m) (walk_formula (raised (suc m)) (stage j n) 0 F)
        ≡ walk_formula (raised m) (stage (suc j) n) 0 F
    next_stage F =
        formula_composed (raised (suc m)) (stage j n) (filled (u ∷ [])) as_free (raised m) (stage (suc j) n) m raised_down stage_more F 0 (0 + m) refl

  first_stage : (n m : ℕ) (F : Formula) → walk_formula (raised m) (stage 0 n) 0 F ≡ walk_formula (raised m) (bound_among n) 0 F
  first_stage n m F =
      ap (λ (f : ℕ → ℕ → Tree). walk_formula (raised m) f 0 F)
      (λ i d k. if_false (given us d k) (bound_among n d k) (among 0 0 k) (not_among 0 0 k (λ l h. omega (arith, l, h))) i)

  module _ (th : Theory) (Ts : List Ty) (F : Formula) (form : IsWellFormed th Ts [] F) where
    used_place : (k : ℕ) → uses_in_formula k F ≡ true → (0 < k) × (k ≤ length Ts)
    used_place zero u = let p = used_in_formulas_have_types th Ts [] F form 0 u in absurd (cc p.1)
    used_place (suc k) u =
        let p = used_in_formulas_have_types th Ts [] F form (suc k) u in
        (omega arith, let l = slice_get_within Ts k p.0 p.1 in omega (arith, l))

    last_stage : walk_formula (raised 0) (stage (length Ts) (length Ts)) 0 F ≡ substituted_formula us F
    last_stage =
        formula_agreeing (raised 0) (stage (length Ts) (length Ts)) (given us) F 0
        (λ d k u. let p = used_place k u in
        if_true (given us d k) (bound_among (length Ts) d k) (among 0 (length Ts) k) (is_among 0 (length Ts) k p.0 p.1))
        ∙ ap (λ (b : ℕ → ℕ → Tree). walk_formula b (given us) 0 F) (λ i d k. by d k (nat_lt k d) i)
      where
        by : (d k : ℕ) (b : Bool) → (if b then bound k else bound (k + 0)) ≡ bound k
        by d k true = refl
        by d k false = ap bound (omega arith)

    module _ (G : Context) (H : Hypotheses) where
      opening : (pre vs : List Tree) (post : List Ty) → us ≡ pre ++ vs → Each IsStill vs → AreListTyped th G [] vs post
          → length Ts ≡ length pre + length post
          → Follows th G H (for_all post (walk_formula (raised (length post)) (stage (length pre) (length Ts)) 0 F))
          → Follows th G H (substituted_formula us F)
      opening pre [] [] are rest typed count p =
          subst (λ (Q : Formula). Follows th G H Q)
          (ap (λ j. walk_formula (raised 0) (stage j (length Ts)) 0 F) (let q : length pre ≡ length Ts = omega (arith, count) in q) ∙ last_stage) p
      opening pre [] (T ∷ post) are rest typed count p = absurd typed
      opening pre (u ∷ vs) [] are rest typed count p = absurd typed
      opening pre (u ∷ vs) (T ∷ post) are rest typed count p =
          let m = length post in
          let j = length pre in
          let c : length Ts ≡ suc j + m = omega (arith, count) in
          let here : slice_get us j ≡ Some u = ap (λ l. slice_get l j) are ∙ item_there pre u vs in
          let next = subst (λ (Q : Formula). Follows th G H Q)
          (through_all (filled (u ∷ [])) as_free post (walk_formula (raised (suc m)) (stage j (length Ts)) 0 F) 0
          ∙ ap (for_all post) (next_stage j m (length Ts) c u here rest.0 F)) (instanced th G u typed.0 p) in
          opening (pre ++ u ∷ []) vs post (are ∙ sym (append_assoc pre (u ∷ []) vs)) rest.1 typed.1 (c ∙ ap (λ x. x + m) (sym (count_more pre u)))
          (subst (λ x. Follows th G H (for_all post (walk_formula (raised m) (stage x (length Ts)) 0 F))) (sym (count_more pre u)) next)

      witnessing : (pre vs : List Tree) (post : List Ty) → us ≡ pre ++ vs → Each IsStill vs → AreListTyped th G [] vs post
          → length Ts ≡ length pre + length post
          → IsFormula th G (for_some post (walk_formula (raised (length post)) (stage (length pre) (length Ts)) 0 F))
          → Follows th G H (substituted_formula us F)
          → Follows th G H (for_some post (walk_formula (raised (length post)) (stage (length pre) (length Ts)) 0 F))
      witnessing pre [] [] are rest typed count wf p =
          subst (λ (Q : Formula). Follows th G H Q)
          (sym (ap (λ j. walk_formula (raised 0) (stage j (length Ts)) 0 F) (let q : length pre ≡ length Ts = omega (arith, count) in q) ∙ last_stage)) p
      witnessing pre [] (T ∷ post) are rest typed count wf p = absurd typed
      witnessing pre (u ∷ vs) [] are rest typed count wf p = absurd typed
      witnessing pre (u ∷ vs) (T ∷ post) are rest typed count wf p =
          let m = length post in
          let j = length pre in
          let c : length Ts ≡ suc j + m = omega (arith, count) in
          let here : slice_get us j ≡ Some u = ap (λ l. slice_get l j) are ∙ item_there pre u vs in
          let same = through_some (filled (u ∷ [])) as_free post (walk_formula (raised (suc m)) (stage j (length Ts)) 0 F) 0
          ∙ ap (for_some post) (next_stage j m (length Ts) c u here rest.0 F) in
          let at = λ (x : ℕ). for_some post (walk_formula (raised m) (stage x (length Ts)) 0 F) in
          let inner = subst (λ (Q : Formula). IsFormula th G Q) same
          (instantiation_keeps_form th G [] (T ∷ []) (u ∷ []) (for_some post (walk_formula (raised (suc m)) (stage j (length Ts)) 0 F)) (typed.0, tt) wf.1) in
          let below = witnessing (pre ++ u ∷ []) vs post (are ∙ sym (append_assoc pre (u ∷ []) vs)) rest.1 typed.1 (c ∙ ap (λ x. x + m) (sym (count_more pre u)))
          (subst (λ x. IsFormula th G (at x)) (sym (count_more pre u)) inner) p in
          let moved = subst (λ x. Follows th G H (at x)) (count_more pre u) below in
          witnessed th G u wf typed.0 (subst (λ (Q : Formula). Follows th G H Q) (sym same) moved)

      -- what holds of all holds at the terms
      pub at_terms : AreListTyped th G [] us Ts → Follows th G H (universal_closure Ts F) → Follows th G H (substituted_formula us F)
      at_terms typed p =
          opening [] us Ts refl still typed (omega arith)
          (subst (λ (Q : Formula). Follows th G H (for_all Ts Q)) (sym (first_stage (length Ts) (length Ts) F)) p)

      -- what holds at the terms holds of some
      pub of_some : AreListTyped th G [] us Ts → IsFormula th G (existential_closure Ts F) → Follows th G H (substituted_formula us F)
          → Follows th G H (existential_closure Ts F)
      of_some typed wf p =
          let same = first_stage (length Ts) (length Ts) F in
          subst (λ (Q : Formula). Follows th G H (for_some Ts Q)) same
          (witnessing [] us Ts refl still typed (omega arith) (subst (λ (Q : Formula). IsFormula th G (for_some Ts Q)) (sym same) wf) p)
