-- Evaluation reads the variables that a term uses: the two laws, as one induction on levels over a walk that puts terms for variables.
use Rattle.std.proofs.Common.{ℕ, zero, suc, ◌≡◌, ◌+◌, Bool, true, false, List, [], ◌∷◌, ◌++◌, reverse, length, map, Option, Some, None, refl, ap, sym, ◌∙◌}
use Rattle.std.specs.Prelude.{nat_eq, unwrap_or, option_map, if◌then◌else◌}
use Rattle.std.specs.Option.{option_map_or}
use Rattle.std.proofs.lemmas.Bool.{eq-eqb}
use Rattle.std.proofs.lemmas.Option.{slice_get-map}
use Rattle.tg_model.specs.Tree as tree
use Rattle.tg_model.specs.Tree.{Tree, Trees, Arms, bound, free, literal, truth, con, call, put, choice, case, bind, op, Operator, successor, negation, conjunction, disjunction, implication, equality, less, less_equal, plus, minus, times, divide, modulo, unnamed}
use Rattle.tg_model.specs.Value.{Value, number, boolean, made, values, wrong}
use Rattle.tg_model.specs.Theory.{Theory, numbered, first_constructor}
use Rattle.tg_model.specs.Denotation.{operated, opened, place_of}
use Rattle.tg_model.specs.Uses.{uses, use_any, use_branch}
use Rattle.tg_model.specs.Walk.{walk, walk_all, walk_arms, as_bound, as_free, given, lifted}
use Rattle.tg_model.proofs.Booleans.{or_left, or_right}
use Rattle.tg_eval.specs.Limited.{Outcome, Evaluator, limited, level_by, all_by, called_by, then_value, then_values, then_more, small_enough, below_bound, decided, chosen_by, branch_by, opened_by, connected_by, operated_by}
use Rattle.tg_eval.specs.Reading.{LimitedReadsUsed, LimitedOfSubstituted, IsSimple, leaf_of}
use Rattle.tg_eval.proofs.StepLaws.{literal_fits}

module _ (th : Theory) (answer : Value) (on_free : ℕ → ℕ → Tree) (env env' : List Value) where
  -- what is put for a variable has its value, at one level
  abbrev Stands : ℕ → Type 0
  Stands m = (ev : Evaluator) (left d : ℕ) (loc : List Value)
      → ◌≡◌ {A = Outcome} (Some (unwrap_or (numbered env m) wrong, left)) (level_by th answer ev left env' loc (on_free d m))

  abbrev AllStand : (ℕ → Bool) → Type 0
  AllStand test = (m : ℕ) → test m ≡ true → Stands m

  abbrev Same : Evaluator → Type 0
  Same ev = (t : Tree) (left d : ℕ) (loc : List Value) → AllStand (λ m. uses m t) → ev left env loc t ≡ ev left env' loc (walk as_bound on_free d t)

  module _ (ev : Evaluator) (same : Same ev) where
    all_same : (ts : Trees) (left d : ℕ) (loc : List Value) → AllStand (λ m. use_any m ts)
        → all_by th answer ev left env loc ts ≡ all_by th answer ev left env' loc (walk_all as_bound on_free d ts)
    all_same tree.none left d loc h = refl
    all_same (tree.more t ts) left d loc h =
        λ i. then_more (same t left d loc (λ m e. h m (or_left (uses m t) (use_any m ts) e)) i)
        (λ rest. all_same ts rest d loc (λ m e. h m (or_right (uses m t) (use_any m ts) e)) i)

    branch_same : (arms : Arms) (left d : ℕ) (loc : List Value) (k : ℕ) (vs : List Value) → AllStand (λ m. use_branch m arms)
        → branch_by th answer ev left env loc k vs arms ≡ branch_by th answer ev left env' loc k vs (walk_arms as_bound on_free d arms)
    branch_same tree.end left d loc k vs h = refl
    branch_same (tree.arm n body arms) left d loc zero vs h =
        λ i. if nat_eq n (length vs) then same body left (d + n) (reverse vs ++ loc) (λ m e. h m (or_left (uses m body) (use_branch m arms) e)) i else Some (wrong, left)
    branch_same (tree.arm n body arms) left d loc (suc k) vs h = branch_same arms left d loc k vs (λ m e. h m (or_right (uses m body) (use_branch m arms) e))

    opened_same : (o : Option (ℕ × List Value)) (arms : Arms) (left d : ℕ) (loc : List Value) → AllStand (λ m. use_branch m arms)
        → opened_by th answer ev left env loc o arms ≡ opened_by th answer ev left env' loc o (walk_arms as_bound on_free d arms)
    opened_same None arms left d loc h = refl
    opened_same (Some p) arms left d loc h = branch_same arms left d loc p.0 p.1 h

    chosen_same : (v : Value) (t u : Tree) (left d : ℕ) (loc : List Value) → AllStand (λ m. uses m t) → AllStand (λ m. uses m u)
        → chosen_by th answer ev left env loc v t u ≡ chosen_by th answer ev left env' loc v (walk as_bound on_free d t) (walk as_bound on_free d u)
    chosen_same (boolean true) t u left d loc h k = same t left d loc h
    chosen_same (boolean false) t u left d loc h k = same u left d loc k
    chosen_same (number n) t u left d loc h k = refl
    chosen_same (made c vs) t u left d loc h k = refl

    operated_same : (o : Operator) (ts : Trees) (left d : ℕ) (loc : List Value) → AllStand (λ m. use_any m ts)
        → operated_by th answer ev left env loc o ts ≡ operated_by th answer ev left env' loc o (walk_all as_bound on_free d ts)
    operated_same o ts left d loc h = λ i. then_values (all_same ts left d loc h i) (λ vs rest. below_bound (operated o vs) rest)

    connected_same : (o : Operator) (t u : Tree) (left d : ℕ) (loc : List Value) → AllStand (λ m. use_any m (tree.two t u))
        → connected_by th answer ev left env loc o t u ≡ connected_by th answer ev left env' loc o (walk as_bound on_free d t) (walk as_bound on_free d u)
    connected_same o t u left d loc h =
        λ i. then_value (same t left d loc (λ m e. h m (or_left (uses m t) (use_any m (tree.one u)) e)) i) (λ x rest.
        option_map_or (λ b. Some (boolean b, rest)) (decided o x)
        (then_value (same u rest d loc (λ m e. h m (or_right (uses m t) (use_any m (tree.one u)) (or_left (uses m u) false e))) i)
        (λ y last. Some (operated o (x ∷ y ∷ []), last))))

    level_same : Same (level_by th answer ev)
    level_same (bound k) left d loc h = refl
    level_same (free n) left d loc h = h n (eq-eqb n n refl) ev left d loc
    level_same (literal n) left d loc h = refl
    level_same (truth b) left d loc h = refl
    level_same (con c ts) left d loc h = λ i. then_values (all_same ts left d loc h i) (λ vs rest. small_enough (made c (values vs)) rest)
    level_same (call f ts) left d loc h = λ i. then_values (all_same ts left d loc h i) (λ vs rest. called_by th answer ev rest f vs)
    level_same (put ts) left d loc h = λ i. then_values (all_same ts left d loc h i) (λ vs rest. Some (answer, rest))
    level_same (choice tree.none) left d loc h = refl
    level_same (choice (tree.more c tree.none)) left d loc h = refl
    level_same (choice (tree.more c (tree.more t tree.none))) left d loc h = refl
    level_same (choice (tree.more c (tree.more t (tree.more u tree.none)))) left d loc h =
        λ i. then_value (same c left d loc (λ m e. h m (or_left (uses m c) (use_any m (tree.two t u)) e)) i) (λ v rest.
        chosen_same v t u rest d loc
        (λ m e. h m (or_right (uses m c) (use_any m (tree.two t u)) (or_left (uses m t) (use_any m (tree.one u)) e)))
        (λ m e. h m (or_right (uses m c) (use_any m (tree.two t u)) (or_right (uses m t) (use_any m (tree.one u)) (or_left (uses m u) false e)))) i)
    level_same (choice (tree.more c (tree.more t (tree.more u (tree.more w ts))))) left d loc h = refl
    level_same (case n t arms) left d loc h =
        λ i. then_value (same t left d loc (λ m e. h m (or_left (uses m t) (use_branch m arms) e)) i) (λ v rest.
        opened_same (opened n (first_constructor th.datatypes n) v) arms rest d loc (λ m e. h m (or_right (uses m t) (use_branch m arms) e)) i)
    level_same (bind t body) left d loc h =
        λ i. then_value (same t left d loc (λ m e. h m (or_left (uses m t) (uses m body) e)) i) (λ v rest.
        same body rest (d + 1) (v ∷ loc) (λ m e. h m (or_right (uses m t) (uses m body) e)) i)
    level_same (op conjunction tree.none) left d loc h = refl
    level_same (op conjunction (tree.more t tree.none)) left d loc h = operated_same conjunction (tree.one t) left d loc h
    level_same (op conjunction (tree.more t (tree.more u tree.none))) left d loc h = connected_same conjunction t u left d loc h
    level_same (op conjunction (tree.more t (tree.more u (tree.more w ts)))) left d loc h = operated_same conjunction (tree.more t (tree.more u (tree.more w ts))) left d loc h
    level_same (op disjunction tree.none) left d loc h = refl
    level_same (op disjunction (tree.more t tree.none)) left d loc h = operated_same disjunction (tree.one t) left d loc h
    level_same (op disjunction (tree.more t (tree.more u tree.none))) left d loc h = connected_same disjunction t u left d loc h
    level_same (op disjunction (tree.more t (tree.more u (tree.more w ts)))) left d loc h = operated_same disjunction (tree.more t (tree.more u (tree.more w ts))) left d loc h
    level_same (op implication tree.none) left d loc h = refl
    level_same (op implication (tree.more t tree.none)) left d loc h = operated_same implication (tree.one t) left d loc h
    level_same (op implication (tree.more t (tree.more u tree.none))) left d loc h = connected_same implication t u left d loc h
    level_same (op implication (tree.more t (tree.more u (tree.more w ts)))) left d loc h = operated_same implication (tree.more t (tree.more u (tree.more w ts))) left d loc h
    level_same (op successor ts) left d loc h = operated_same successor ts left d loc h
    level_same (op negation ts) left d loc h = operated_same negation ts left d loc h
    level_same (op equality ts) left d loc h = operated_same equality ts left d loc h
    level_same (op less ts) left d loc h = operated_same less ts left d loc h
    level_same (op less_equal ts) left d loc h = operated_same less_equal ts left d loc h
    level_same (op plus ts) left d loc h = operated_same plus ts left d loc h
    level_same (op minus ts) left d loc h = operated_same minus ts left d loc h
    level_same (op times ts) left d loc h = operated_same times ts left d loc h
    level_same (op divide ts) left d loc h = operated_same divide ts left d loc h
    level_same (op modulo ts) left d loc h = operated_same modulo ts left d loc h
    level_same (op (unnamed n) ts) left d loc h = operated_same (unnamed n) ts left d loc h

  pub limited_same : (levels : ℕ) → Same (limited th answer levels)
  unfolding limited
  limited_same zero t left d loc h = refl
  limited_same (suc levels) t left d loc h = level_same (limited th answer levels) (limited_same levels) t left d loc h

-- a walk that puts each variable for itself
mutual
  unmoved : (t : Tree) (d : ℕ) → walk as_bound as_free d t ≡ t
  unmoved (bound k) d = refl
  unmoved (free n) d = refl
  unmoved (literal n) d = refl
  unmoved (truth b) d = refl
  unmoved (con c ts) d = ap (con c) (all_unmoved ts d)
  unmoved (call f ts) d = ap (call f) (all_unmoved ts d)
  unmoved (put ts) d = ap put (all_unmoved ts d)
  unmoved (choice ts) d = ap choice (all_unmoved ts d)
  unmoved (case n t arms) d = λ i. case n (unmoved t d i) (arms_unmoved arms d i)
  unmoved (bind t body) d = λ i. bind (unmoved t d i) (unmoved body (d + 1) i)
  unmoved (op o ts) d = ap (op o) (all_unmoved ts d)

  all_unmoved : (ts : Trees) (d : ℕ) → walk_all as_bound as_free d ts ≡ ts
  all_unmoved tree.none d = refl
  all_unmoved (tree.more t ts) d = λ i. tree.more (unmoved t d i) (all_unmoved ts d i)

  arms_unmoved : (arms : Arms) (d : ℕ) → walk_arms as_bound as_free d arms ≡ arms
  arms_unmoved tree.end d = refl
  arms_unmoved (tree.arm n body arms) d = λ i. tree.arm n (unmoved body (d + n) i) (arms_unmoved arms d i)

pub limited_reads_used : LimitedReadsUsed
limited_reads_used th answer levels left env env' loc t agree =
    limited_same th answer as_free env env' levels t left 0 loc (λ m e ev n d l. ap (λ o. Some (unwrap_or o wrong, n)) (agree m e))
    ∙ ap (limited th answer levels left env' loc) (unmoved t 0)

leaf_stands : (th : Theory) (answer : Value) (env env' : List Value) (m : ℕ) → IsSimple (place_of env m) → Stands th answer (given (map leaf_of env)) env env' m
leaf_stands th answer env env' zero s ev left d loc = refl
leaf_stands th answer env env' (suc k) s ev left d loc =
    by (numbered env (suc k)) s
    ∙ ap (λ o. level_by th answer ev left env' loc (option_map_or (lifted d) o (truth false))) (sym (slice_get-map leaf_of env k))
  where
    by : (o : Option Value) → IsSimple (unwrap_or o wrong)
        → ◌≡◌ {A = Outcome} (Some (unwrap_or o wrong, left)) (level_by th answer ev left env' loc (option_map_or (lifted d) (option_map leaf_of o) (truth false)))
    by None q = refl
    by (Some (number n)) q = literal_fits n left q
    by (Some (boolean b)) q = refl
    by (Some (made c vs)) q = absurd q

pub limited_of_substituted : LimitedOfSubstituted
limited_of_substituted th answer levels left env env' loc t simple =
    limited_same th answer (given (map leaf_of env)) env env' levels t left 0 loc (λ m e. leaf_stands th answer env env' m (simple m e))
