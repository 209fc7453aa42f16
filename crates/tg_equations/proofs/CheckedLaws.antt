-- Walks over the `case`s of a term.
use Rattle.std.proofs.Common.{ℕ, suc, ◌≡◌, ◌+◌, ◌↔◌, Bool, true, false, not, ◌&&◌, ◌||◌, List, [], ◌∷◌, map, take, drop, Option, Some, refl, sym, ◌∙◌, ap, subst, if◌then◌else◌, arith}
use Rattle.std.specs.Prelude.{slice_get, is_some}
use Rattle.std.specs.List.{list_all, list_any}
use Rattle.std.specs.Str.{bytes_eq}
use Rattle.tg_model.specs.Theory.{Theory}
use Rattle.tg_model.proofs.Booleans.{and_left, and_right}
use Rattle.tg_accept.specs.Cases.{heads_in, EachCaseIn, EachCasesIn, EachBranchIn, AreOnce, HaveDistinctVariables, AreCasesShaped}
use Rattle.tg_accept.specs.Core.{same_head, heads_of, has_branch, HasBranches, EachCaseWhole, EachCasesWhole, EachBranchWhole}
use Rattle.tg_accept.specs.Resolved as resolveds
use Rattle.tg_accept.specs.Resolved.{Head, Branches, Resolveds}
use Rattle.tg_accept.proofs.CoreTypes.{heads_same}
use Rattle.tg_accept.proofs.KeepDatatypes.{number_itself}
use Rattle.tg_typing.specs.declared.resolved.Resolved.{Resolved}
use Rattle.tg_typing.specs.declared.resolved.Resolved.TheVariants as made
use Rattle.tg_typing.specs.declared.resolved.Branch.{Branch}
use Rattle.tg_typing.specs.View.{head, resolved, all_resolved, branches, seen-Branch, Seen}
use Rattle.tg_typing.specs.View.{resolved-Bound, resolved-Free, resolved-Lit, resolved-Truth, resolved-Con, resolved-Call, resolved-Own, resolved-Misused, resolved-Put, resolved-If, resolved-Case, resolved-Let, resolved-Op}
use Rattle.tg_equations.specs.Checked.{are_different, are_once, have_different_variables, are_branches, each_case, each_cases, each_branch}
use Rattle.tg_equations.proofs.DifferentLaws.{Decides, distinct_from, different_from, names_decided, different_next, different_not}
use Rattle.tg_equations.specs.declared.places.Places.{Places}
use Rattle.tg_equations.specs.Places.{placed_from, held, holds}
use Rattle.tg_equations.specs.Placed.{ArePlaces, IsPlaced}
use Rattle.tg_term.proofs.PartLaws.{drop_at}

module _ (passes : ℕ → Branches → Bool) where
  pub each_bound : (k : ℕ) → true ≡ each_case passes (resolved (made.Bound k))
  each_bound k = ap (each_case passes) (sym (resolved-Bound k))

  pub each_free : (n : ℕ) → true ≡ each_case passes (resolved (made.Free n))
  each_free n = ap (each_case passes) (sym (resolved-Free n))

  pub each_literal : (n : ℕ) → true ≡ each_case passes (resolved (made.Lit n))
  each_literal n = ap (each_case passes) (sym (resolved-Lit n))

  pub each_truth : (b : Bool) → true ≡ each_case passes (resolved (made.Truth b))
  each_truth b = ap (each_case passes) (sym (resolved-Truth b))

  pub each_con : (c : ℕ) (ts : List Resolved) → each_cases passes (all_resolved ts) ≡ each_case passes (resolved (made.Con c ts))
  each_con c ts = ap (each_case passes) (sym (resolved-Con c ts))

  pub each_call : (f : ℕ) (ts : List Resolved) → each_cases passes (all_resolved ts) ≡ each_case passes (resolved (made.Call f ts))
  each_call f ts = ap (each_case passes) (sym (resolved-Call f ts))

  pub each_own : (ts : List Resolved) → each_cases passes (all_resolved ts) ≡ each_case passes (resolved (made.Own ts))
  each_own ts = ap (each_case passes) (sym (resolved-Own ts))

  pub each_misused : (ts : List Resolved) → each_cases passes (all_resolved ts) ≡ each_case passes (resolved (made.Misused ts))
  each_misused ts = ap (each_case passes) (sym (resolved-Misused ts))

  pub each_put : (ts : List Resolved) → each_cases passes (all_resolved ts) ≡ each_case passes (resolved (made.Put ts))
  each_put ts = ap (each_case passes) (sym (resolved-Put ts))

  pub each_if : (ts : List Resolved) → each_cases passes (all_resolved ts) ≡ each_case passes (resolved (made.If ts))
  each_if ts = ap (each_case passes) (sym (resolved-If ts))

  pub each_op : (o : ℕ) (ts : List Resolved) → each_cases passes (all_resolved ts) ≡ each_case passes (resolved (made.Op o ts))
  each_op o ts = ap (each_case passes) (sym (resolved-Op o ts))

  pub each_let : (t body : Resolved) → (each_case passes (resolved t) && each_case passes (resolved body)) ≡ each_case passes (resolved (made.Let t body))
  each_let t body = ap (each_case passes) (sym (resolved-Let t body))

  pub each_of : (n : ℕ) (t : Resolved) (bs : List Branch)
      → (passes n (branches bs) && (each_case passes (resolved t) && each_branch passes (branches bs))) ≡ each_case passes (resolved (made.Case n t bs))
  each_of n t bs = ap (each_case passes) (sym (resolved-Case n t bs))

  -- the first item decides where it fails, and else the rest
  pub each_head : (ts : List Resolved) (i : ℕ) (t : Resolved) → drop i ts ≡ t ∷ drop (suc i) ts
      → (each_case passes (resolved t) && each_cases passes (all_resolved (drop (suc i) ts))) ≡ each_cases passes (all_resolved (drop i ts))
  each_head ts i t e = ap (λ l. each_cases passes (all_resolved l)) (sym e)

  pub branch_head : (bs : List Branch) (i : ℕ) (b : Branch) → drop i bs ≡ b ∷ drop (suc i) bs
      → (each_case passes (resolved b.body) && each_branch passes (branches (drop (suc i) bs))) ≡ each_branch passes (branches (drop i bs))
  branch_head bs i b e =
      ap (λ (s : Seen). each_case passes s.body && each_branch passes (branches (drop (suc i) bs))) (sym (seen-Branch b))
      ∙ ap (λ l. each_branch passes (branches l)) (sym e)

-- ---- what the walk decides

not_same : {A : Type 0} → true ≡ false → A
not_same e = cc e

flip_refl : (h : Head) → same_head h h ≡ true
flip_refl resolveds.zero_head = refl
flip_refl resolveds.successor_head = refl
flip_refl (resolveds.of c) = number_itself c

heads_decided : Decides same_head
heads_decided = (heads_same, (λ x y e. subst (λ z. same_head x z ≡ true) e (flip_refl x)))

-- where it is asked for, the variables of each branch differ
abbrev Named : Bool → Branches → Type 0
Named true bs = HaveDistinctVariables bs
Named false bs = Unit {0}

have_all : (hs : List Head) (bs : Branches) → HasBranches hs bs → list_all (λ h. has_branch h bs) hs ≡ true
have_all [] bs h = refl
have_all (x ∷ hs) bs h = λ i. h.0 i && have_all hs bs h.1 i

all_have : (hs : List Head) (bs : Branches) → list_all (λ h. has_branch h bs) hs ≡ true → HasBranches hs bs
all_have [] bs e = tt
all_have (x ∷ hs) bs e = (and_left (has_branch x bs) (list_all (λ h. has_branch h bs) hs) e, all_have hs bs (and_right (has_branch x bs) (list_all (λ h. has_branch h bs) hs) e))

variables_differ : (bs : Branches) → have_different_variables bs ≡ true → HaveDistinctVariables bs
variables_differ resolveds.end e = tt
variables_differ (resolveds.branch h xs body bs) e =
    (distinct_from bytes_eq names_decided xs (and_left (are_different bytes_eq xs) (have_different_variables bs) e), variables_differ bs (and_right (are_different bytes_eq xs) (have_different_variables bs) e))

differ_variables : (bs : Branches) → HaveDistinctVariables bs → have_different_variables bs ≡ true
differ_variables resolveds.end h = refl
differ_variables (resolveds.branch x xs body bs) h = λ i. different_from bytes_eq names_decided xs h.0 i && differ_variables bs h.1 i

module _ (th : Theory) (named : Bool) where
  abbrev Tests : Bool → Branches → Bool
  Tests b bs = if b then have_different_variables bs else true

  tested : (b : Bool) (bs : Branches) → Tests b bs ≡ true → Named b bs
  tested true bs e = variables_differ bs e
  tested false bs e = tt

  testing : (b : Bool) (bs : Branches) → Named b bs → Tests b bs ≡ true
  testing true bs h = differ_variables bs h
  testing false bs h = refl

  pub are_right : (n : ℕ) (bs : Branches) → are_branches th named n bs ≡ true → HasBranches (heads_of th n) bs × AreOnce bs × Named named bs
  are_right n bs e =
      let once = and_left (are_once bs) (list_all (λ h. has_branch h bs) (heads_of th n) && Tests named bs) e in
      let rest = and_right (are_once bs) (list_all (λ h. has_branch h bs) (heads_of th n) && Tests named bs) e in (
        all_have (heads_of th n) bs (and_left (list_all (λ h. has_branch h bs) (heads_of th n)) (Tests named bs) rest),
        distinct_from same_head heads_decided (heads_in bs) once,
        tested named bs (and_right (list_all (λ h. has_branch h bs) (heads_of th n)) (Tests named bs) rest),
      )

  pub right_are : (n : ℕ) (bs : Branches) → HasBranches (heads_of th n) bs → AreOnce bs → Named named bs → are_branches th named n bs ≡ true
  right_are n bs h o d =
      λ i. different_from same_head heads_decided (heads_in bs) o i && (have_all (heads_of th n) bs h i && testing named bs d i)

  abbrev Is : ℕ → Branches → Bool
  Is n bs = are_branches th named n bs

  mutual
    pub cases_are : (t : resolveds.Resolved) → each_case Is t ≡ true → EachCaseWhole th t × EachCaseIn AreOnce t × EachCaseIn (Named named) t
    cases_are (resolveds.con c ts) e = all_are ts e
    cases_are (resolveds.call f ts) e = all_are ts e
    cases_are (resolveds.own ts) e = all_are ts e
    cases_are (resolveds.misused ts) e = all_are ts e
    cases_are (resolveds.put ts) e = all_are ts e
    cases_are (resolveds.choice ts) e = all_are ts e
    cases_are (resolveds.op o ts) e = all_are ts e
    cases_are (resolveds.case n t bs) e =
        let here = are_right n bs (and_left (Is n bs) (each_case Is t && each_branch Is bs) e) in
        let rest = and_right (Is n bs) (each_case Is t && each_branch Is bs) e in
        let first = cases_are t (and_left (each_case Is t) (each_branch Is bs) rest) in
        let last = branches_are bs (and_right (each_case Is t) (each_branch Is bs) rest) in
        ((here.0, first.0, last.0), (here.1, first.1, last.1), (here.2, first.2, last.2))
    cases_are (resolveds.bind t body) e =
        let first = cases_are t (and_left (each_case Is t) (each_case Is body) e) in
        let last = cases_are body (and_right (each_case Is t) (each_case Is body) e) in
        ((first.0, last.0), (first.1, last.1), (first.2, last.2))
    cases_are t e = (tt, tt, tt)

    all_are : (ts : Resolveds) → each_cases Is ts ≡ true → EachCasesWhole th ts × EachCasesIn AreOnce ts × EachCasesIn (Named named) ts
    all_are resolveds.none e = (tt, tt, tt)
    all_are (resolveds.more t ts) e =
        let first = cases_are t (and_left (each_case Is t) (each_cases Is ts) e) in
        let last = all_are ts (and_right (each_case Is t) (each_cases Is ts) e) in
        ((first.0, last.0), (first.1, last.1), (first.2, last.2))

    branches_are : (bs : Branches) → each_branch Is bs ≡ true → EachBranchWhole th bs × EachBranchIn AreOnce bs × EachBranchIn (Named named) bs
    branches_are resolveds.end e = (tt, tt, tt)
    branches_are (resolveds.branch h xs t bs) e =
        let first = cases_are t (and_left (each_case Is t) (each_branch Is bs) e) in
        let last = branches_are bs (and_right (each_case Is t) (each_branch Is bs) e) in
        ((first.0, last.0), (first.1, last.1), (first.2, last.2))

  mutual
    pub are_cases : (t : resolveds.Resolved) → EachCaseWhole th t → EachCaseIn AreOnce t → EachCaseIn (Named named) t → each_case Is t ≡ true
    are_cases (resolveds.con c ts) w o d = are_all ts w o d
    are_cases (resolveds.call f ts) w o d = are_all ts w o d
    are_cases (resolveds.own ts) w o d = are_all ts w o d
    are_cases (resolveds.misused ts) w o d = are_all ts w o d
    are_cases (resolveds.put ts) w o d = are_all ts w o d
    are_cases (resolveds.choice ts) w o d = are_all ts w o d
    are_cases (resolveds.op p ts) w o d = are_all ts w o d
    are_cases (resolveds.case n t bs) w o d = λ i. right_are n bs w.0 o.0 d.0 i && (are_cases t w.1 o.1 d.1 i && are_all_branches bs w.2 o.2 d.2 i)
    are_cases (resolveds.bind t body) w o d = λ i. are_cases t w.0 o.0 d.0 i && are_cases body w.1 o.1 d.1 i
    are_cases t w o d = refl

    are_all : (ts : Resolveds) → EachCasesWhole th ts → EachCasesIn AreOnce ts → EachCasesIn (Named named) ts → each_cases Is ts ≡ true
    are_all resolveds.none w o d = refl
    are_all (resolveds.more t ts) w o d = λ i. are_cases t w.0 o.0 d.0 i && are_all ts w.1 o.1 d.1 i

    are_all_branches : (bs : Branches) → EachBranchWhole th bs → EachBranchIn AreOnce bs → EachBranchIn (Named named) bs → each_branch Is bs ≡ true
    are_all_branches resolveds.end w o d = refl
    are_all_branches (resolveds.branch h xs t bs) w o d = λ i. are_cases t w.0 o.0 d.0 i && are_all_branches bs w.1 o.1 d.1 i

-- nothing is asked of the variables
mutual
  nothing : (t : resolveds.Resolved) → EachCaseIn (Named false) t
  nothing (resolveds.con c ts) = nothings ts
  nothing (resolveds.call f ts) = nothings ts
  nothing (resolveds.own ts) = nothings ts
  nothing (resolveds.misused ts) = nothings ts
  nothing (resolveds.put ts) = nothings ts
  nothing (resolveds.choice ts) = nothings ts
  nothing (resolveds.op o ts) = nothings ts
  nothing (resolveds.case n t bs) = (tt, nothing t, nothing_in bs)
  nothing (resolveds.bind t body) = (nothing t, nothing body)
  nothing t = tt

  nothings : (ts : Resolveds) → EachCasesIn (Named false) ts
  nothings resolveds.none = tt
  nothings (resolveds.more t ts) = (nothing t, nothings ts)

  nothing_in : (bs : Branches) → EachBranchIn (Named false) bs
  nothing_in resolveds.end = tt
  nothing_in (resolveds.branch h xs t bs) = (nothing t, nothing_in bs)

pub cases_right : (th : Theory) (t : resolveds.Resolved) (b : Bool) → b ≡ each_case (are_branches th false) t
    → (b ≡ true) ↔ (EachCaseWhole th t × EachCaseIn AreOnce t)
cases_right th t b e = ((λ p. let h = cases_are th false t (sym e ∙ p) in (h.0, h.1)), (λ h. e ∙ are_cases th false t h.0 h.1 (nothing t)))

pub cases_shaped : (th : Theory) (t : resolveds.Resolved) (b : Bool) → b ≡ each_case (are_branches th true) t
    → (b ≡ true) ↔ AreCasesShaped th t
cases_shaped th t b e = (
  (λ p. let h = cases_are th true t (sym e ∙ p) in record { whole = h.0; once = h.1; distinct = h.2 }),
  (λ h. e ∙ are_cases th true t h.whole h.once h.distinct),
)

-- ---- the branches' heads

abbrev pub branch_heads : List Branch → List Head
branch_heads bs = map (λ (b : Branch). head b.head) bs

pub heads_seen : (bs : List Branch) → branch_heads bs ≡ heads_in (branches bs)
heads_seen [] = refl
heads_seen (b ∷ bs) = (λ i. (ap (λ (s : Seen). s.head) (sym (seen-Branch b))) i ∷ heads_seen bs i)

-- ---- branches, one after another

flip_same : (h k : Head) → same_head h k ≡ same_head k h
flip_same h k = go (same_head h k) (same_head k h) (λ e. subst (λ z. same_head k z ≡ true) (sym (heads_same h k e)) (flip_refl k)) (λ e. subst (λ z. same_head h z ≡ true) (sym (heads_same k h e)) (flip_refl h))
  where
    go : (a b : Bool) → (a ≡ true → b ≡ true) → (b ≡ true → a ≡ true) → a ≡ b
    go true b p q = sym (p refl)
    go false true p q = q refl
    go false false p q = refl

flip_any : (k : Head) (hs : List Head) → list_any (λ x. same_head x k) hs ≡ list_any (λ x. same_head k x) hs
flip_any k [] = refl
flip_any k (h ∷ hs) = λ i. flip_same h k i || flip_any k hs i

some_any : {A : Type 0} (is : A → Bool) (n : ℕ) (xs : List A) → is_some (placed_from is n xs) ≡ list_any is xs
some_any is n [] = refl
some_any is n (x ∷ xs) = go (is x) (some_any is (suc n) xs)
  where
    go : (b : Bool) → is_some (placed_from is (suc n) xs) ≡ list_any is xs
        → is_some (if b then Some (record { first = n; only = not (list_any is xs) }) else placed_from is (suc n) xs) ≡ (b || list_any is xs)
    go true e = refl
    go false e = e

module _ (hs : List Head) (i : ℕ) (k : Head) (old : Places) (free : Bool) (at : slice_get hs i ≡ Some k) (is : free ≡ not (is_some (held old k))) (before : ArePlaces old (take i hs)) where
  found : not free ≡ list_any (λ x. same_head k x) (take i hs)
  found =
      ap not is ∙ twice (is_some (held old k)) ∙ ap is_some (before k) ∙ some_any (λ x. same_head x k) 0 (take i hs) ∙ flip_any k (take i hs)
    where
      twice : (b : Bool) → not (not b) ≡ b
      twice true = refl
      twice false = refl

  pub once_next : free ≡ true → are_different same_head (take i hs) ≡ true → are_different same_head (take (i + 1) hs) ≡ true
  once_next e d = different_next same_head hs i k at d (sym found ∙ ap not e)

  pub once_stop : free ≡ false → are_different same_head hs ≡ false
  once_stop e = different_not same_head hs i k at (sym found ∙ ap not e)

-- ---- the constructors that there is a branch for

has_any : (h : Head) (bs : Branches) → has_branch h bs ≡ list_any (λ x. same_head x h) (heads_in bs)
has_any h resolveds.end = refl
has_any h (resolveds.branch x xs body bs) = go (same_head x h) (has_any h bs)
  where
    go : (b : Bool) → has_branch h bs ≡ list_any (λ y. same_head y h) (heads_in bs) → (if b then true else has_branch h bs) ≡ (b || list_any (λ y. same_head y h) (heads_in bs))
    go true e = refl
    go false e = e

pub all_held : (p : Places) (bs : Branches) (hs : List Head) → ArePlaces p (heads_in bs) → list_all (holds p) hs ≡ list_all (λ h. has_branch h bs) hs
all_held p bs [] are = refl
all_held p bs (h ∷ hs) are = λ i. (ap is_some (are h) ∙ some_any (λ x. same_head x h) 0 (heads_in bs) ∙ sym (has_any h bs)) i && all_held p bs hs are i

-- ---- the branches of one `case`

module _ (th : Theory) (n : ℕ) (bs : Branches) (found : Option Places) (p : Places) (placed : IsPlaced bs found) (is : found ≡ Some p) (named yes : Bool)
    (all : yes ≡ list_all (holds p) (heads_of th n)) where
  here : IsPlaced bs (Some p)
  here = subst (IsPlaced bs) is placed

  abbrev Test : Bool
  Test = if named then have_different_variables bs else true

  branches_are_so : are_branches th named n bs ≡ (yes && Test)
  branches_are_so =
      ap (λ b. b && (list_all (λ h. has_branch h bs) (heads_of th n) && Test)) here.0
      ∙ ap (λ b. b && Test) (sym (all ∙ all_held p bs (heads_of th n) here.1))

  pub branches_missing : yes ≡ false → false ≡ are_branches th named n bs
  branches_missing e = ap (λ b. b && Test) (sym e) ∙ sym branches_are_so

  pub branches_unnamed : yes ≡ true → named ≡ false → true ≡ are_branches th named n bs
  branches_unnamed e f = ap (λ b. if b then have_different_variables bs else true) (sym f) ∙ ap (λ b. b && Test) (sym e) ∙ sym branches_are_so

  pub branches_named : (b : Bool) → yes ≡ true → named ≡ true → b ≡ have_different_variables bs → b ≡ are_branches th named n bs
  branches_named b e f g = g ∙ ap (λ c. if c then have_different_variables bs else true) (sym f) ∙ ap (λ c. c && Test) (sym e) ∙ sym branches_are_so

-- ---- branches of which the first decides

pub branch_fails : (passes : ℕ → Branches → Bool) (bs : List Branch) (i : ℕ) (b : Branch) (holds_here whole : Bool) → slice_get bs i ≡ Some b
    → holds_here ≡ each_case passes (resolved b.body) → holds_here ≡ false → each_branch passes (branches (drop i bs)) ≡ whole → false ≡ whole
branch_fails passes bs i b holds_here whole at e f h =
    ap (λ z. z && each_branch passes (branches (drop (suc i) bs))) (sym f ∙ e) ∙ branch_head passes bs i b (drop_at bs i b at) ∙ h

pub branch_passes : (passes : ℕ → Branches → Bool) (bs : List Branch) (i : ℕ) (b : Branch) (holds_here whole : Bool) → slice_get bs i ≡ Some b
    → holds_here ≡ each_case passes (resolved b.body) → holds_here ≡ true → each_branch passes (branches (drop i bs)) ≡ whole → each_branch passes (branches (drop (i + 1) bs)) ≡ whole
branch_passes passes bs i b holds_here whole at e f h =
    let n : i + 1 ≡ suc i = omega arith in
    ap (λ m. each_branch passes (branches (drop m bs))) n
    ∙ ap (λ z. z && each_branch passes (branches (drop (suc i) bs))) (sym f ∙ e) ∙ branch_head passes bs i b (drop_at bs i b at) ∙ h

pub ruleset walking = (each_bound, each_free, each_literal, each_truth, each_con, each_call, each_own, each_misused, each_put, each_if, each_op, each_let, each_of)
