-- A walk keeps values: where what stands for each variable has the variable's value, the term that was walked over has the
-- term's value.
use Rattle.std.proofs.Common.{ℕ, zero, suc, ◌≡◌, ◌+◌, Bool, true, false, List, [], ◌∷◌, ◌++◌, reverse, length, Option, Some, None, refl, sym, ◌∙◌, ap, subst, nat_eq, if◌then◌else◌}
use Rattle.std.specs.Option.{option_map_or}
use Rattle.std.proofs.lemmas.Bool.{eqb-true}
use Rattle.tg_model.specs.Tree as tree
use Rattle.tg_model.specs.Tree.{Tree, Trees, Arms, bound, free, literal, truth, con, call, put, choice, case, bind, op, arm, end}
use Rattle.tg_model.specs.Value.{Value, made, values, boolean, wrong}
use Rattle.tg_model.specs.Formula.{Formula, atom, both, implies, all, some, thyp, tested, deep}
use Rattle.tg_model.specs.Theory.{Theory}
use Rattle.tg_model.specs.Typing.{HasType}
use Rattle.tg_model.specs.Table.{Table, IsListed}
use Rattle.tg_model.specs.Value.{IsShallow}
use Rattle.tg_model.specs.Denotation.{World, value_in, values_in, branch_in, opened, operated, chosen, world}
use Rattle.tg_model.specs.Truth.{Holds}
use Rattle.tg_model.specs.Walk.{walk, walk_all, walk_arms, walk_formula}

pub if_same : (x y z : Value) (b : Bool) → (b ≡ true → x ≡ y) → (if b then x else z) ≡ (if b then y else z)
if_same x y z true h = h refl
if_same x y z false h = refl

pub by_branch : (f g : ℕ → List Value → Value) → ((k : ℕ) (vs : List Value) → f k vs ≡ g k vs) → (o : Option (ℕ × List Value))
    → option_map_or (λ (p : ℕ × List Value). f p.0 p.1) o wrong ≡ option_map_or (λ (p : ℕ × List Value). g p.0 p.1) o wrong
by_branch f g h None = refl
by_branch f g h (Some p) = h p.0 p.1

-- `Reads d loc loc'`: at `d` binders, `loc` has the values of the loose bound variables of the term, and `loc'` those of
-- the term that is walked to
module _ (w : World) (env env' : List Value) (on_bound on_free : ℕ → ℕ → Tree) (Reads : ℕ → List Value → List Value → Type 0)
    (under : (d : ℕ) (loc loc' vs : List Value) → Reads d loc loc' → Reads (d + length vs) (reverse vs ++ loc) (reverse vs ++ loc'))
    (bounds : (d : ℕ) (loc loc' : List Value) (k : ℕ) → Reads d loc loc' → value_in w env' loc' (on_bound d k) ≡ value_in w env loc (bound k))
    (frees : (d : ℕ) (loc loc' : List Value) (n : ℕ) → Reads d loc loc' → value_in w env' loc' (on_free d n) ≡ value_in w env loc (free n)) where
  abbrev after_case : Arms → List Value → List Value → Option (ℕ × List Value) → Value
  after_case arms en loc o = option_map_or (λ (p : ℕ × List Value). branch_in w en loc p.0 p.1 arms) o wrong

  mutual
    pub keeps : (t : Tree) (d : ℕ) (loc loc' : List Value) → Reads d loc loc' → value_in w env' loc' (walk on_bound on_free d t) ≡ value_in w env loc t
    keeps (bound k) d loc loc' r = bounds d loc loc' k r
    keeps (free n) d loc loc' r = frees d loc loc' n r
    keeps (literal n) d loc loc' r = refl
    keeps (truth b) d loc loc' r = refl
    keeps (con c ts) d loc loc' r = ap (λ vs. made c (values vs)) (keeps_all ts d loc loc' r)
    keeps (call f ts) d loc loc' r = ap (w.calls f) (keeps_all ts d loc loc' r)
    keeps (put ts) d loc loc' r = ap w.answers (keeps_all ts d loc loc' r)
    keeps (choice ts) d loc loc' r = ap chosen (keeps_all ts d loc loc' r)
    keeps (case e t arms) d loc loc' r =
        ap (λ v. after_case (walk_arms on_bound on_free d arms) env' loc' (opened e (w.first e) v)) (keeps t d loc loc' r)
        ∙ by_branch _ _ (λ k vs. keeps_arms arms d loc loc' r k vs) (opened e (w.first e) (value_in w env loc t))
    keeps (bind t body) d loc loc' r =
        ap (λ v. value_in w env' (v ∷ loc') (walk on_bound on_free (d + 1) body)) (keeps t d loc loc' r)
        ∙ keeps body (d + 1) (value_in w env loc t ∷ loc) (value_in w env loc t ∷ loc') (under d loc loc' (value_in w env loc t ∷ []) r)
    keeps (op o ts) d loc loc' r = ap (operated o) (keeps_all ts d loc loc' r)

    pub keeps_all : (ts : Trees) (d : ℕ) (loc loc' : List Value) → Reads d loc loc' → values_in w env' loc' (walk_all on_bound on_free d ts) ≡ values_in w env loc ts
    keeps_all tree.none d loc loc' r = refl
    keeps_all (tree.more t ts) d loc loc' r = λ i. keeps t d loc loc' r i ∷ keeps_all ts d loc loc' r i

    keeps_arms : (arms : Arms) (d : ℕ) (loc loc' : List Value) → Reads d loc loc' → (k : ℕ) (vs : List Value)
        → branch_in w env' loc' k vs (walk_arms on_bound on_free d arms) ≡ branch_in w env loc k vs arms
    keeps_arms end d loc loc' r k vs = refl
    keeps_arms (arm n body arms) d loc loc' r zero vs =
        if_same _ _ wrong (nat_eq n (length vs)) (λ e.
        keeps body (d + n) (reverse vs ++ loc) (reverse vs ++ loc')
        (subst (λ (m : ℕ). Reads (d + m) (reverse vs ++ loc) (reverse vs ++ loc')) (sym (eqb-true n (length vs) e)) (under d loc loc' vs r)))
    keeps_arms (arm n body arms) d loc loc' r (suc k) vs = keeps_arms arms d loc loc' r k vs

-- The same of formulas: truth before and after is one fact. Here both are read in the world of a theory and a table.
module _ (th : Theory) (tb : Table) (env env' : List Value) (on_bound on_free : ℕ → ℕ → Tree) (Reads : ℕ → List Value → List Value → Type 0)
    (under : (d : ℕ) (loc loc' vs : List Value) → Reads d loc loc' → Reads (d + length vs) (reverse vs ++ loc) (reverse vs ++ loc'))
    (bounds : (d : ℕ) (loc loc' : List Value) (k : ℕ) → Reads d loc loc' → value_in (world th tb) env' loc' (on_bound d k) ≡ value_in (world th tb) env loc (bound k))
    (frees : (d : ℕ) (loc loc' : List Value) (n : ℕ) → Reads d loc loc' → value_in (world th tb) env' loc' (on_free d n) ≡ value_in (world th tb) env loc (free n)) where
  one : (t : Tree) (d : ℕ) (loc loc' : List Value) → Reads d loc loc' → value_in (world th tb) env' loc' (walk on_bound on_free d t) ≡ value_in (world th tb) env loc t
  one = keeps (world th tb) env env' on_bound on_free Reads under bounds frees

  every : (ts : Trees) (d : ℕ) (loc loc' : List Value) → Reads d loc loc' → values_in (world th tb) env' loc' (walk_all on_bound on_free d ts) ≡ values_in (world th tb) env loc ts
  every = keeps_all (world th tb) env env' on_bound on_free Reads under bounds frees

  pub keeps_truth : (f : Formula) (d : ℕ) (loc loc' : List Value) → Reads d loc loc'
      → Holds th tb env' loc' (walk_formula on_bound on_free d f) ≡ Holds th tb env loc f
  keeps_truth (atom t) d loc loc' r = ap (λ v. v ≡ boolean true) (one t d loc loc' r)
  keeps_truth (both f g) d loc loc' r = λ i. keeps_truth f d loc loc' r i × keeps_truth g d loc loc' r i
  keeps_truth (implies f g) d loc loc' r = λ i. keeps_truth f d loc loc' r i → keeps_truth g d loc loc' r i
  keeps_truth (all t f) d loc loc' r = λ i. (v : Value) → HasType th v t → keeps_truth f (d + 1) (v ∷ loc) (v ∷ loc') (under d loc loc' (v ∷ []) r) i
  keeps_truth (some t f) d loc loc' r = λ i. (v : Value) × HasType th v t × keeps_truth f (d + 1) (v ∷ loc) (v ∷ loc') (under d loc loc' (v ∷ []) r) i
  keeps_truth (thyp f) d loc loc' r = keeps_truth f d loc loc' r
  keeps_truth (tested ts) d loc loc' r = ap (IsListed tb) (every ts d loc loc' r)
  keeps_truth (deep k ts) d loc loc' r = ap (λ vs. ¬ (IsShallow k vs)) (every ts d loc loc' r)
