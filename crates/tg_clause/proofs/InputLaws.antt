-- Where the literals of a clause without a program call are false, its program calls have the inputs that they have in the term.
use Rattle.std.proofs.Common.{◌≡◌, Bool, true, false, not, ◌&&◌, ◌||◌, List, [], ◌∷◌, map, refl, ap, sym, ◌∙◌, inl, inr, subst}
use Rattle.std.specs.Prelude.{◌⊎◌, cond}
use Rattle.std.specs.List.{list_any, filter}
use Rattle.std.proofs.lemmas.List.Folds.{list_any-append}
use Rattle.tg_model.specs.Tree.{Tree, op, two, implication}
use Rattle.tg_model.specs.Types.{bool}
use Rattle.tg_model.specs.Value.{Value, boolean}
use Rattle.tg_model.specs.Theory.{Theory}
use Rattle.tg_model.specs.Denotation.{World, world, den}
use Rattle.tg_model.specs.TermTyping.{IsTyped}
use Rattle.tg_model.specs.WellTyped.{IsWellTyped}
use Rattle.tg_model.specs.Calls.{has_call, EachPut}
use Rattle.tg_model.proofs.Booleans.{or_left, or_right, or_cases, and_left, and_right}
use Rattle.tg_accept.specs.Checks.{Each}
use Rattle.tg_rows.specs.Laws.{Setting, HaveValues}
use Rattle.tg_clause.specs.declared.literals.Literal.{Literal}
use Rattle.tg_clause.specs.Clauses.{Clause, sides, clauses_of, has, opposite, same_literal, joined, product, is_tautology}
use Rattle.tg_clause.specs.Classes.{term_of}
use Rattle.tg_clause.specs.Minimal.{is_part}
use Rattle.tg_clause.specs.Truth.{truth_at, holds, clause_holds, all_hold}
use Rattle.tg_clause.specs.Laws.{AtomsOf, HasInputs, ClausesHaveInputs, ImplicationsHaveInputs, ChecksHaveInputs}
use Rattle.tg_clause.proofs.LiteralLaws.{same_is}
use Rattle.tg_clause.proofs.EachLaws.{each_on, each_both, each_under, each_first, each_rest, each_map, each_flat_map, each_filter, each_kept}
use Rattle.tg_clause.proofs.AtomLaws.{sides_atoms, clauses_atoms, joined_atoms, callless_parts, put_parts}
use Rattle.tg_clause.proofs.TermTruth.{term_means}
use Rattle.tg_clause.proofs.MinimalTruth.{part_of_itself}
use Rattle.tg_clause.proofs.ClassTruth.{value_true, signed_puts, free_false}

-- what holds of each literal of a clause holds of a literal that stands there
each_has : (P : Literal → Type 0) (c : Clause) (l : Literal) → Each P c → has c l ≡ true → P l
each_has P [] l h e = absurd (cc e)
each_has P (m ∷ c) l h e = elim (or_cases (same_literal l m) (has c l) e) [
  | inl f ↦ subst P (sym (same_is l m f)) h.0
  | inr f ↦ each_has P c l h.1 f
]

-- of both clauses, where it holds of them as one
of_first : (P : Literal → Type 0) (c d : Clause) → Each P (joined c d) → Each P c
of_first P c d h = each_first P c (filter (λ l. not (has c l)) d) h

of_second : (P : Literal → Type 0) (c d : Clause) → Each P (joined c d) → Each P d
of_second P c d h =
    each_on (λ l. not (has c l) ≡ true → P l) P (λ l k. by l k (has c l) refl) d
    (each_kept P (λ l. not (has c l)) d (each_rest P c (filter (λ l. not (has c l)) d) h))
  where
    by : (l : Literal) → (not (has c l) ≡ true → P l) → (b : Bool) → has c l ≡ b → P l
    by l k true e = each_has P c l (of_first P c d h) e
    by l k false e = k (ap not e)

-- a clause with a tautology is one
new_has : (c d : Clause) (l : Literal) → has c l ≡ false → has d l ≡ true → list_any (same_literal l) (filter (λ m. not (has c m)) d) ≡ true
new_has c [] l f e = absurd (cc e)
new_has c (m ∷ d) l f e = by (λ k. new_has c d l f k) (has c m) refl (or_cases (same_literal l m) (has d l) e)
  where
    by : (has d l ≡ true → list_any (same_literal l) (filter (λ x. not (has c x)) d) ≡ true) → (b : Bool) → has c m ≡ b
        → (same_literal l m ≡ true) ⊎ (has d l ≡ true)
        → list_any (same_literal l) (cond (not b) (m ∷ filter (λ x. not (has c x)) d) (filter (λ x. not (has c x)) d)) ≡ true
    by rest true g (inl k) = let z : false ≡ true = sym f ∙ ap (has c) (same_is l m k) ∙ g in absurd (cc z)
    by rest true g (inr k) = rest k
    by rest false g (inl k) = or_left (same_literal l m) (list_any (same_literal l) (filter (λ x. not (has c x)) d)) k
    by rest false g (inr k) = or_right (same_literal l m) (list_any (same_literal l) (filter (λ x. not (has c x)) d)) (rest k)

joined_has : (c d : Clause) (l : Literal) → has d l ≡ true → has (joined c d) l ≡ true
joined_has c d l e = list_any-append (same_literal l) c (filter (λ m. not (has c m)) d) ∙ by (has c l) refl
  where
    by : (b : Bool) → has c l ≡ b → (has c l || list_any (same_literal l) (filter (λ m. not (has c m)) d)) ≡ true
    by true f = or_left (has c l) (list_any (same_literal l) (filter (λ m. not (has c m)) d)) f
    by false f = or_right (has c l) (list_any (same_literal l) (filter (λ m. not (has c m)) d)) (new_has c d l f e)

opposites : (c d : Clause) (l : Literal) → has d l ≡ true → has c (opposite l) ≡ true → list_any (λ m. has c (opposite m)) d ≡ true
opposites c [] l e f = absurd (cc e)
opposites c (m ∷ d) l e f = elim (or_cases (same_literal l m) (has d l) e) [
  | inl k ↦ or_left (has c (opposite m)) (list_any (λ m. has c (opposite m)) d) (ap (λ (x : Literal). has c (opposite x)) (sym (same_is l m k)) ∙ f)
  | inr k ↦ or_right (has c (opposite m)) (list_any (λ m. has c (opposite m)) d) (opposites c d l k f)
]

tautology_in : (c d e : Clause) → is_part e d ≡ true → list_any (λ l. has d (opposite l)) e ≡ true → is_tautology (joined c d) ≡ true
tautology_in c d [] p h = absurd (cc h)
tautology_in c d (l ∷ e) p h = elim (or_cases (has d (opposite l)) (list_any (λ l. has d (opposite l)) e) h) [
  | inl k ↦ opposites (joined c d) (joined c d) l (joined_has c d l (and_left (has d l) (is_part e d) p)) (joined_has c d (opposite l) k)
  | inr k ↦ tautology_in c d e (and_right (has d l) (is_part e d) p) k
]

second_informs : (c d : Clause) → not (is_tautology (joined c d)) ≡ true → not (is_tautology d) ≡ true
second_informs c d h = by (is_tautology d) refl
  where
    by : (b : Bool) → is_tautology d ≡ b → not b ≡ true
    by true e = let z : not true ≡ true = ap not (sym (tautology_in c d d (part_of_itself d) e)) ∙ h in absurd (cc z)
    by false e = refl

module _ (w : World) (env loc : List Value) where
  none_holds : (c : Clause) → Each (λ (l : Literal). holds w env loc l ≡ false) c → clause_holds w env loc c ≡ false
  none_holds [] h = refl
  none_holds (l ∷ c) h = λ i. h.0 i || none_holds c h.1 i

  and_false : (a b : Bool) → b ≡ false → (a && b) ≡ false
  and_false true b e = e
  and_false false b e = refl

  -- not all clauses hold where one of them doesn't
  one_false : (cs : List Clause) → Each (λ c. clause_holds w env loc c ≡ false → all_hold w env loc cs ≡ false) cs
  one_false [] = tt
  one_false (c ∷ cs) = (
    λ e. ap (λ b. b && all_hold w env loc cs) e,
    each_on (λ d. clause_holds w env loc d ≡ false → all_hold w env loc cs ≡ false)
        (λ d. clause_holds w env loc d ≡ false → all_hold w env loc (c ∷ cs) ≡ false)
        (λ d k e. and_false (clause_holds w env loc c) (all_hold w env loc cs) (k e)) cs (one_false cs),
  )

pub clauses_have_inputs : ClausesHaveInputs
clauses_have_inputs th tb env d t h =
    each_on (AtomsOf (EachPut (HaveValues th tb env d))) (HasInputs th tb env d) (λ c k free. k) (clauses_of t)
    (clauses_atoms (EachPut (HaveValues th tb env d)) (put_parts (HaveValues th tb env d)) t h)

pub checks_have_inputs : ChecksHaveInputs
checks_have_inputs th tb env d c h k =
    let P = HaveValues th tb env d in
    each_map (EachPut P) term_of (filter (λ (l : Literal). has_call l.atom) c)
    (each_filter (λ (l : Literal). EachPut P (term_of l)) (λ (l : Literal). has_call l.atom) c
    (each_on (λ (l : Literal). EachPut P l.atom) (λ (l : Literal). has_call l.atom ≡ true → EachPut P (term_of l))
    (λ l g e. signed_puts P l.positive l.atom g) c (h (free_false (world th tb) env [] c k))))

module _ (th : Theory) (wt : IsWellTyped th) (n : Setting th) (d : List Value) (q t : Tree) (typed : IsTyped th n.vars [] q bool) where
  abbrev w : World
  w = world th n.table

  abbrev outside : Setting th
  outside = record {
    table = n.table;
    is_table = n.is_table;
    vars = n.vars;
    locs = [];
    env = n.env;
    loc = [];
    closed_vars = n.closed_vars;
    closed_locs = tt;
    typed_env = n.typed_env;
    typed_loc = tt;
  }

  abbrev Good : Tree → Type 0
  Good = EachPut (HaveValues th n.table n.env d)

  abbrev Free : Literal → Type 0
  Free l = has_call l.atom ≡ false → holds w n.env [] l ≡ false

  abbrev Has : Clause → Type 0
  Has = HasInputs th n.table n.env d

  abbrev Known : Type 0
  Known = has_call q ≡ false → den th n.table n.env [] q ≡ boolean true

  not_true : (b : Bool) → not b ≡ false → b ≡ true
  not_true true e = refl
  not_true false e = cc e

  -- a condition without a program call is True where a clause of its negation is false
  each_knows : Each (λ c. Each Free c → Known) (sides q).negative.list
  each_knows =
      each_both (λ c. has_call q ≡ false → AtomsOf (λ a. has_call a ≡ false) c)
      (λ c. clause_holds w n.env [] c ≡ false → all_hold w n.env [] (sides q).negative.list ≡ false)
      (λ c. Each Free c → Known)
      (λ c f g free e. value_true (den th n.table n.env [] q) (not_true (truth_at w n.env [] q)
      (sym (term_means th wt outside q typed).unmet
      ∙ g (none_holds w n.env [] c (each_both (λ (l : Literal). has_call l.atom ≡ false) Free (λ (l : Literal). holds w n.env [] l ≡ false)
      (λ l a b. b a) c (f e) free)))))
      (sides q).negative.list
      (each_under (has_call q ≡ false) (AtomsOf (λ a. has_call a ≡ false)) (sides q).negative.list
      (λ e. (sides_atoms (λ a. has_call a ≡ false) callless_parts q e).negative))
      (one_false w n.env [] (sides q).negative.list)

  both_have : (c e : Clause) → AtomsOf Good c → (Each Free c → Known) → (Known → not (is_tautology e) ≡ true → Has e)
      → not (is_tautology (joined c e)) ≡ true → Has (joined c e)
  both_have c e good known has informs free =
      let here : Each Free c = of_first Free c e free in
      joined_atoms Good c e good (has (known here) (second_informs c e informs) (of_second Free c e free))

  pub implication_has : Good q → (Known → Each Has (clauses_of t)) → Each Has (clauses_of (op implication (two q t)))
  implication_has good rest =
      let ns = (sides q).negative.list in
      let ps = (sides t).positive.list in
      each_filter Has (λ c. not (is_tautology c)) (product ns ps)
      (each_flat_map (λ c. not (is_tautology c) ≡ true → Has c) (λ c. map (joined c) ps) ns
      (each_both (AtomsOf Good) (λ c. Each Free c → Known) (λ c. Each (λ x. not (is_tautology x) ≡ true → Has x) (map (joined c) ps))
      (λ c a k. each_map (λ x. not (is_tautology x) ≡ true → Has x) (joined c) ps
      (each_on (λ e. Known → not (is_tautology e) ≡ true → Has e) (λ e. not (is_tautology (joined c e)) ≡ true → Has (joined c e))
      (λ e h. both_have c e a k h) ps
      (each_under Known (λ e. not (is_tautology e) ≡ true → Has e) ps (λ x. each_kept Has (λ e. not (is_tautology e)) ps (rest x)))))
      ns (sides_atoms Good (put_parts (HaveValues th n.table n.env d)) q good).negative each_knows))

pub implications_have_inputs : ImplicationsHaveInputs
implications_have_inputs th wt n d q t typed good rest = implication_has th wt n d q t typed good rest
