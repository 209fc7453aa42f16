-- A truth value for each outside occurrence of a condition, as the code puts it in.
use Rattle.std.proofs.Common.{ℕ, ◌≡◌, ◌<◌, ◌≤◌, ◌+◌, Bool, true, false, List, [], ◌∷◌, ◌++◌, length, get_or, take, Some, refl, ap, sym, ◌∙◌, ◌↔◌, add-one}
use Rattle.std.proofs.lemmas.List.{take_all}
use Rattle.std.proofs.lemmas.Option.{slice_get-get_or}
use Rattle.std.specs.Prelude.{IsTrue}
use Rattle.tg_model.specs.Tree as tree
use Rattle.tg_model.specs.Tree.{Tree, Trees, Arms, bound, free, literal, truth, con, call, put, choice, case, bind, op, trees}
use Rattle.tg_model.specs.Equality.{same_tree}
use Rattle.tg_model.proofs.Booleans.{if_true, if_false}
use Rattle.tg_model.proofs.Equalities.{decides_trees}
use Rattle.tg_term.proofs.ListHeights.{height_at}
use Rattle.tg_term.proofs.PartLaws.{take_at}
use Rattle.tg_norm.specs.Halves.{replaced, all_replaced, unless_same}
use Rattle.tg_norm.specs.Items.{items, with_items}
use Rattle.tg_norm.specs.Walking.{or_else}
use Rattle.tg_norm.proofs.ArgumentLaws.{or_none, or_some}

not_true : (b : Bool) → (b ≡ true → ⊥) → b ≡ false
not_true true h = absurd (h refl)
not_true false h = refl

pub equal_is : (b : Bool) (t u : Tree) → (IsTrue b ↔ (t ≡ u)) → b ≡ same_tree t u
equal_is true t u h = sym ((decides_trees t u).1 (h.0 refl))
equal_is false t u h = sym (not_true _ (λ e. let k : false ≡ true = h.1 ((decides_trees t u).0 e) in cc k))

module _ (q : Tree) (v : Bool) where
  -- what becomes of a term that isn't replaced itself
  abbrev pub inside : Tree → Tree
  inside (case d t arms) = case d (replaced q v t) arms
  inside (bind t body) = bind (replaced q v t) (replaced q v body)
  inside t = with_items t (all_replaced q v (items t))

  replaced_is : (t : Tree) → replaced q v t ≡ unless_same q v t (inside t)
  replaced_is (bound k) = refl
  replaced_is (free n) = refl
  replaced_is (literal n) = refl
  replaced_is (truth b) = refl
  replaced_is (con c ts) = refl
  replaced_is (call f ts) = refl
  replaced_is (put ts) = refl
  replaced_is (choice ts) = refl
  replaced_is (case d t arms) = refl
  replaced_is (bind t body) = refl
  replaced_is (op o ts) = refl

  pub hit : (t : Tree) → true ≡ same_tree t q → truth v ≡ replaced q v t
  hit t e = sym (replaced_is t ∙ if_true (truth v) (inside t) (same_tree t q) (sym e))

  pub missed : (t : Tree) → false ≡ same_tree t q → replaced q v t ≡ inside t
  missed t e = replaced_is t ∙ if_false (truth v) (inside t) (same_tree t q) (sym e)

  -- the first terms, as far as they are done
  abbrev pub done : List Tree → List Tree
  done [] = []
  done (t ∷ ts) = replaced q v t ∷ done ts

  done_more : (ts : List Tree) (t : Tree) → done (ts ++ t ∷ []) ≡ done ts ++ replaced q v t ∷ []
  done_more [] t = refl
  done_more (u ∷ ts) t = ap (λ l. replaced q v u ∷ l) (done_more ts t)

  pub done_all : (ts : List Tree) → trees (done ts) ≡ all_replaced q v (trees ts)
  done_all [] = refl
  done_all (t ∷ ts) = ap (tree.more (replaced q v t)) (done_all ts)

  -- one term more, as the loop adds it
  pub done_next : (ts : List Tree) (k : ℕ) (us vs : List Tree) (t u : Tree) → k < length ts → t ≡ get_or ts k t → u ≡ replaced q v t
      → or_else us (take k ts) ≡ done (take k ts) → or_else vs (take k ts ++ t ∷ []) ≡ or_else us (take k ts) ++ u ∷ []
      → or_else vs (take (k + 1) ts) ≡ done (take (k + 1) ts)
  done_next ts k us vs t u h e f g i =
      let here : take (k + 1) ts ≡ take k ts ++ t ∷ [] = ap (λ n. take n ts) (add-one k) ∙ take_at ts k t (slice_get-get_or ts k t h ∙ ap Some (sym e)) in
      ap (or_else vs) here ∙ i ∙ (λ j. g j ++ f j ∷ []) ∙ sym (done_more (take k ts) t) ∙ ap done (sym here)

  pub done_ends : (ts : List Tree) (k : ℕ) (us : List Tree) → length ts ≤ k → or_else us (take k ts) ≡ done (take k ts) → trees (or_else us ts) ≡ all_replaced q v (trees ts)
  done_ends ts k us h e =
      let all : take k ts ≡ ts = take_all k ts h in
      ap trees (ap (or_else us) (sym all) ∙ e ∙ ap done all) ∙ done_all ts

  -- another list of terms, or none
  pub items_kept : (t : Tree) (ts us : List Tree) → trees ts ≡ items t → us ≡ [] → trees (or_else us ts) ≡ all_replaced q v (trees ts)
      → t ≡ with_items t (all_replaced q v (trees ts))
  items_kept t ts us e n f = sym (with_own t) ∙ ap (with_items t) (sym e ∙ ap trees (sym (or_none us ts n)) ∙ f)
    where
      with_own : (t : Tree) → with_items t (items t) ≡ t
      with_own (bound k) = refl
      with_own (free n) = refl
      with_own (literal n) = refl
      with_own (truth b) = refl
      with_own (con c ts) = refl
      with_own (call f ts) = refl
      with_own (put ts) = refl
      with_own (choice ts) = refl
      with_own (case d t arms) = refl
      with_own (bind t body) = refl
      with_own (op o ts) = refl

pub ruleset replacing = (height_at, hit, missed, done_next, done_ends, items_kept, or_some)
