-- What is asked of each program call is kept where terms are put in for variables, if a call's arguments stay as they are.
use Rattle.std.proofs.Common.{ℕ, zero, suc, ◌≡◌, ◌+◌, ◌-◌, Bool, true, false, List, [], ◌∷◌, reverse, length, sym, subst, nat_lt, if◌then◌else◌}
use Rattle.std.specs.Prelude.{slice_get}
use Rattle.std.specs.Option.{option_map_or}
use mathlib.Core.List.{reverse_aux}
use Rattle.tg_model.specs.Tree as tree
use Rattle.tg_model.specs.Tree.{Tree, Trees, Arms, bound, free, literal, truth, con, call, put, choice, case, bind, op, elements}
use Rattle.tg_model.specs.Walk.{walk, walk_all, walk_arms, raised, as_free, as_bound, lifted, given, substituted, filled, instantiated}
use Rattle.tg_model.specs.Calls.{has_call, have_call, branches_have_call, EachPut, EachPuts, EachPutOf}
use Rattle.tg_model.specs.Made.{AreMade}
use Rattle.tg_model.proofs.Booleans.{or_left_false, or_right_false}
use Rattle.tg_model.proofs.MadeTerms.{all_walked_back}

module _ (P : Trees → Type 0) (made : (ts : Trees) → P ts → AreMade ts) where
  -- free variables stay, and what stands for bound ones has good calls
  module _ (on_bound : ℕ → ℕ → Tree) (bounds : (d k : ℕ) → EachPut P (on_bound d k)) where
    mutual
      walked : (t : Tree) (d : ℕ) → EachPut P t → EachPut P (walk on_bound as_free d t)
      walked (bound k) d h = bounds d k
      walked (free n) d h = tt
      walked (literal n) d h = tt
      walked (truth b) d h = tt
      walked (con c ts) d h = all_walked ts d h
      walked (call f ts) d h = all_walked ts d h
      walked (put ts) d h =
          let same : walk_all on_bound as_free d ts ≡ ts = all_walked_back on_bound d ts (made ts h.0) in
          (subst P (sym same) h.0, all_walked ts d h.1)
      walked (choice ts) d h = all_walked ts d h
      walked (case e t arms) d h = (walked t d h.0, arms_walked arms d h.1)
      walked (bind t body) d h = (walked t d h.0, walked body (d + 1) h.1)
      walked (op o ts) d h = all_walked ts d h

      all_walked : (ts : Trees) (d : ℕ) → EachPuts P ts → EachPuts P (walk_all on_bound as_free d ts)
      all_walked tree.none d h = tt
      all_walked (tree.more t ts) d h = (walked t d h.0, all_walked ts d h.1)

      arms_walked : (arms : Arms) (d : ℕ) → EachPutOf P arms → EachPutOf P (walk_arms on_bound as_free d arms)
      arms_walked tree.end d h = tt
      arms_walked (tree.arm n body arms) d h = (walked body (d + n) h.0, arms_walked arms d h.1)

  -- a term without a program call: only what is put in has some
  module _ (on_bound on_free : ℕ → ℕ → Tree) (bounds : (d k : ℕ) → EachPut P (on_bound d k)) (frees : (d n : ℕ) → EachPut P (on_free d n)) where
    mutual
      put_in : (t : Tree) (d : ℕ) → has_call t ≡ false → EachPut P (walk on_bound on_free d t)
      put_in (bound k) d h = bounds d k
      put_in (free n) d h = frees d n
      put_in (literal n) d h = tt
      put_in (truth b) d h = tt
      put_in (con c ts) d h = all_put_in ts d h
      put_in (call f ts) d h = all_put_in ts d h
      put_in (put ts) d h = let e : true ≡ false = h in cc
      put_in (choice ts) d h = all_put_in ts d h
      put_in (case e t arms) d h =
          (put_in t d (or_left_false (has_call t) (branches_have_call arms) h), arms_put_in arms d (or_right_false (has_call t) (branches_have_call arms) h))
      put_in (bind t body) d h =
          (put_in t d (or_left_false (has_call t) (has_call body) h), put_in body (d + 1) (or_right_false (has_call t) (has_call body) h))
      put_in (op o ts) d h = all_put_in ts d h

      all_put_in : (ts : Trees) (d : ℕ) → have_call ts ≡ false → EachPuts P (walk_all on_bound on_free d ts)
      all_put_in tree.none d h = tt
      all_put_in (tree.more t ts) d h =
          (put_in t d (or_left_false (has_call t) (have_call ts) h), all_put_in ts d (or_right_false (has_call t) (have_call ts) h))

      arms_put_in : (arms : Arms) (d : ℕ) → branches_have_call arms ≡ false → EachPutOf P (walk_arms on_bound on_free d arms)
      arms_put_in tree.end d h = tt
      arms_put_in (tree.arm n body arms) d h =
          (put_in body (d + n) (or_left_false (has_call body) (branches_have_call arms) h), arms_put_in arms d (or_right_false (has_call body) (branches_have_call arms) h))

  either_bound : (b : Bool) (j k : ℕ) → EachPut P (if b then bound j else bound k)
  either_bound true j k = tt
  either_bound false j k = tt

  pub lifted_puts : (by : ℕ) (t : Tree) → EachPut P t → EachPut P (lifted by t)
  lifted_puts by t h = walked (raised by) (λ d k. either_bound (nat_lt k d) k (k + by)) t 0 h

  abbrev pub All : List Tree → Type 0
  All [] = Unit {0}
  All (t ∷ ts) = EachPut P t × All ts

  at_place : (ts : List Tree) (k : ℕ) (d : ℕ) (u : Tree) → All ts → EachPut P u → EachPut P (option_map_or (lifted d) (slice_get ts k) u)
  at_place [] k d u h g = g
  at_place (t ∷ ts) zero d u h g = lifted_puts d t h.0
  at_place (t ∷ ts) (suc k) d u h g = at_place ts k d u h.1 g

  onto : (ts us : List Tree) → All ts → All us → All (reverse_aux ts us)
  onto [] us h k = k
  onto (t ∷ ts) us h k = onto ts (t ∷ us) h.1 (h.0, k)

  reversed : (ts : List Tree) → All ts → All (reverse ts)
  reversed ts h = onto ts [] h tt

  fills : (us : List Tree) → All us → (d k : ℕ) → EachPut P (filled us d k)
  fills us h d k = by (nat_lt k d)
    where
      by : (b : Bool) → EachPut P (if b then bound k else option_map_or (lifted d) (slice_get (reverse us) (k - d)) (bound (k - length us)))
      by true = tt
      by false = at_place (reverse us) (k - d) d (bound (k - length us)) (reversed us h) tt

  pub instantiated_puts : (us : List Tree) (t : Tree) → All us → EachPut P t → EachPut P (instantiated us t)
  instantiated_puts us t h g = walked (filled us) (fills us h) t 0 g

  gives : (us : List Tree) → All us → (d n : ℕ) → EachPut P (given us d n)
  gives us h d zero = tt
  gives us h d (suc n) = at_place us n d (truth false) h tt

  pub substituted_puts : (us : List Tree) (t : Tree) → All us → has_call t ≡ false → EachPut P (substituted us t)
  substituted_puts us t h g = put_in as_bound (given us) (λ d k. tt) (gives us h) t 0 g

  pub all_elements : (ts : Trees) → EachPuts P ts → All (elements ts)
  all_elements tree.none h = tt
  all_elements (tree.more t ts) h = (h.0, all_elements ts h.1)
