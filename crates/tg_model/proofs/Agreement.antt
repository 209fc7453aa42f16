-- Two worlds that agree on the calls that a term makes give the term one value.
use Rattle.std.proofs.Common.{ℕ, zero, suc, ◌≡◌, true, false, List, ◌∷◌, ◌++◌, reverse, length, Option, refl, ◌∙◌, ap, nat_eq}
use Rattle.std.specs.Option.{option_map_or}
use Rattle.tg_model.specs.Tree as tree
use Rattle.tg_model.specs.Tree.{Tree, Trees, Arms, bound, free, literal, truth, con, call, put, choice, case, bind, op}
use Rattle.tg_model.specs.Value.{Value, made, values, wrong}
use Rattle.tg_model.specs.Denotation.{World, value_in, values_in, branch_in, opened, operated, chosen}
use Rattle.tg_model.specs.TermTyping.{EachCall, EachCalls, EachCallOf}
use Rattle.tg_model.specs.Calls.{has_call, have_call, branches_have_call, EachPut, EachPuts, EachPutOf}
use Rattle.tg_model.proofs.Booleans.{or_left_false, or_right_false}
use Rattle.tg_model.proofs.Walks.{if_same, by_branch}

-- a test that all calls pass
module _ (P : ℕ → Trees → Type 0) (all : (f : ℕ) (ts : Trees) → P f ts) where
  mutual
    pub each_call : (t : Tree) → EachCall P t
    each_call (bound k) = tt
    each_call (free n) = tt
    each_call (literal n) = tt
    each_call (truth b) = tt
    each_call (con c ts) = each_calls ts
    each_call (call f ts) = (all f ts, each_calls ts)
    each_call (put ts) = each_calls ts
    each_call (choice ts) = each_calls ts
    each_call (case d t arms) = (each_call t, each_call_of arms)
    each_call (bind t body) = (each_call t, each_call body)
    each_call (op o ts) = each_calls ts

    each_calls : (ts : Trees) → EachCalls P ts
    each_calls tree.none = tt
    each_calls (tree.more t ts) = (each_call t, each_calls ts)

    each_call_of : (arms : Arms) → EachCallOf P arms
    each_call_of tree.end = tt
    each_call_of (tree.arm n body arms) = (each_call body, each_call_of arms)

module _ (P : Trees → Type 0) (all : (ts : Trees) → P ts) where
  mutual
    pub each_put : (t : Tree) → EachPut P t
    each_put (bound k) = tt
    each_put (free n) = tt
    each_put (literal n) = tt
    each_put (truth b) = tt
    each_put (con c ts) = each_puts ts
    each_put (call f ts) = each_puts ts
    each_put (put ts) = (all ts, each_puts ts)
    each_put (choice ts) = each_puts ts
    each_put (case d t arms) = (each_put t, each_put_of arms)
    each_put (bind t body) = (each_put t, each_put body)
    each_put (op o ts) = each_puts ts

    each_puts : (ts : Trees) → EachPuts P ts
    each_puts tree.none = tt
    each_puts (tree.more t ts) = (each_put t, each_puts ts)

    each_put_of : (arms : Arms) → EachPutOf P arms
    each_put_of tree.end = tt
    each_put_of (tree.arm n body arms) = (each_put body, each_put_of arms)

-- a term without a program call: whatever is asked of each is so
module _ (P : Trees → Type 0) where
  mutual
    pub no_put : (t : Tree) → has_call t ≡ false → EachPut P t
    no_put (bound k) h = tt
    no_put (free n) h = tt
    no_put (literal n) h = tt
    no_put (truth b) h = tt
    no_put (con c ts) h = no_puts ts h
    no_put (call f ts) h = no_puts ts h
    no_put (put ts) h = let e : true ≡ false = h in cc
    no_put (choice ts) h = no_puts ts h
    no_put (case d t arms) h =
        (no_put t (or_left_false (has_call t) (branches_have_call arms) h), no_put_of arms (or_right_false (has_call t) (branches_have_call arms) h))
    no_put (bind t body) h = (no_put t (or_left_false (has_call t) (has_call body) h), no_put body (or_right_false (has_call t) (has_call body) h))
    no_put (op o ts) h = no_puts ts h

    no_puts : (ts : Trees) → have_call ts ≡ false → EachPuts P ts
    no_puts tree.none h = tt
    no_puts (tree.more t ts) h = (no_put t (or_left_false (has_call t) (have_call ts) h), no_puts ts (or_right_false (has_call t) (have_call ts) h))

    no_put_of : (arms : Arms) → branches_have_call arms ≡ false → EachPutOf P arms
    no_put_of tree.end h = tt
    no_put_of (tree.arm n body arms) h =
        (no_put body (or_left_false (has_call body) (branches_have_call arms) h), no_put_of arms (or_right_false (has_call body) (branches_have_call arms) h))

module _ (w w' : World) (env : List Value) (first : (d : ℕ) → w.first d ≡ w'.first d)
    (Allowed : ℕ → Trees → Type 0)
    (calls : (loc : List Value) (f : ℕ) (ts : Trees) → Allowed f ts → w.calls f (values_in w env loc ts) ≡ w'.calls f (values_in w env loc ts))
    (Answered : Trees → Type 0)
    (answers : (loc : List Value) (ts : Trees) → Answered ts → w.answers (values_in w env loc ts) ≡ w'.answers (values_in w env loc ts)) where
  abbrev after_case : World → Arms → List Value → Option (ℕ × List Value) → Value
  after_case x arms loc o = option_map_or (λ (p : ℕ × List Value). branch_in x env loc p.0 p.1 arms) o wrong

  mutual
    pub agree : (t : Tree) (loc : List Value) → EachCall Allowed t → EachPut Answered t → value_in w env loc t ≡ value_in w' env loc t
    agree (bound k) loc c p = refl
    agree (free n) loc c p = refl
    agree (literal n) loc c p = refl
    agree (truth b) loc c p = refl
    agree (con k ts) loc c p = ap (λ vs. made k (values vs)) (all_agree ts loc c p)
    agree (call f ts) loc c p = calls loc f ts c.0 ∙ ap (w'.calls f) (all_agree ts loc c.1 p)
    agree (put ts) loc c p = answers loc ts p.0 ∙ ap w'.answers (all_agree ts loc c p.1)
    agree (choice ts) loc c p = ap chosen (all_agree ts loc c p)
    agree (case d t arms) loc c p =
        ap (λ v. after_case w arms loc (opened d (w.first d) v)) (agree t loc c.0 p.0)
        ∙ (ap (λ k. after_case w arms loc (opened d k (value_in w' env loc t))) (first d)
        ∙ by_branch _ _ (λ k vs. arms_agree arms loc k vs c.1 p.1) (opened d (w'.first d) (value_in w' env loc t)))
    agree (bind t body) loc c p =
        ap (λ v. value_in w env (v ∷ loc) body) (agree t loc c.0 p.0) ∙ agree body (value_in w' env loc t ∷ loc) c.1 p.1
    agree (op o ts) loc c p = ap (operated o) (all_agree ts loc c p)

    all_agree : (ts : Trees) (loc : List Value) → EachCalls Allowed ts → EachPuts Answered ts → values_in w env loc ts ≡ values_in w' env loc ts
    all_agree tree.none loc c p = refl
    all_agree (tree.more t ts) loc c p = λ i. agree t loc c.0 p.0 i ∷ all_agree ts loc c.1 p.1 i

    arms_agree : (arms : Arms) (loc : List Value) (k : ℕ) (vs : List Value) → EachCallOf Allowed arms → EachPutOf Answered arms
        → branch_in w env loc k vs arms ≡ branch_in w' env loc k vs arms
    arms_agree tree.end loc k vs c p = refl
    arms_agree (tree.arm n body arms) loc zero vs c p = if_same _ _ wrong (nat_eq n (length vs)) (λ e. agree body (reverse vs ++ loc) c.0 p.0)
    arms_agree (tree.arm n body arms) loc (suc k) vs c p = arms_agree arms loc k vs c.1 p.1
