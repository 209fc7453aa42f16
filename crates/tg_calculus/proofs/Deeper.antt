-- A term with a chain of constructors has a value that is deeper than the chain is long.
use Rattle.std.proofs.Common.{ℕ, zero, suc, ◌≡◌, ◌<◌, ◌≤◌, true, false, List, [], ◌∷◌, map, sym, ◌∙◌, ap, subst, inl, inr, arith}
use Rattle.std.specs.Option.{option_map_or}
use Rattle.tg_model.specs.Tree as tree
use Rattle.tg_model.specs.Tree.{Tree, Trees, bound, free, literal, truth, con, call, put, choice, case, bind, op}
use Rattle.tg_model.specs.Types.{Ty, applied, tys, elements}
use Rattle.tg_model.specs.Value.{Value, Values, number, boolean, made, values, depth, deepest, IsShallow}
use Rattle.tg_model.specs.Theory.{Theory, Owned, instance}
use Rattle.tg_model.specs.Typing.{HasType, HaveTypes}
use Rattle.tg_model.specs.Denotation.{World, value_in, values_in}
use Rattle.tg_model.proofs.Booleans.{or_cases}
use Rattle.tg_model.proofs.ValueTyping.{elements-tys}
use Rattle.tg_calculus.specs.Chains.{is_data, arguments_at, has_chain, some_has_chain}

module _ (th : Theory) (w : World) (env loc : List Value) where
  data_deep : (v : Value) (T : Ty) → is_data T ≡ true → HasType th v T → 0 < depth v
  data_deep (number n) T e h = let q : false ≡ true = sym (ap is_data h) ∙ e in cc
  data_deep (boolean b) T e h = let q : false ≡ true = sym (ap is_data h) ∙ e in cc
  data_deep (made c vs) T e h = omega arith

  -- the arguments of a value of the type have the types of the constructor's arguments there
  parts_typed : (c : ℕ) (vs : Values) (T : Ty) → HasType th (made c vs) T → HaveTypes th vs (arguments_at th c T)
  parts_typed c vs T (o, is, (ws, e, typed)) =
      subst (λ (Ts : List Ty). HaveTypes th vs Ts) (sym (ap (arguments_at th c) e ∙ (found ∙ at_instance))) typed
    where
      found : arguments_at th c (applied o.datatype (tys ws)) ≡ map (instance (elements (tys ws))) o.constructor.arguments
      found = ap (λ p. option_map_or (λ (x : Owned). map (instance (elements (tys ws))) x.constructor.arguments) p []) is

      at_instance : map (instance (elements (tys ws))) o.constructor.arguments ≡ map (instance ws) o.constructor.arguments
      at_instance = ap (λ us. map (instance us) o.constructor.arguments) (elements-tys ws)

  mutual
    pub chain_deep : (t : Tree) (k : ℕ) (T : Ty) → has_chain th t k T ≡ true → HasType th (value_in w env loc t) T → k < depth (value_in w env loc t)
    chain_deep t zero T e h = data_deep (value_in w env loc t) T e h
    chain_deep (con c ts) (suc k) T e h =
        let p = some_chain_deep ts k (arguments_at th c T) e (parts_typed c (values (values_in w env loc ts)) T h) in omega (arith, p)
    chain_deep t (suc k) T e h = cc e

    pub some_chain_deep : (ts : Trees) (k : ℕ) (Ts : List Ty) → some_has_chain th ts k Ts ≡ true → HaveTypes th (values (values_in w env loc ts)) Ts
        → k < deepest (values (values_in w env loc ts))
    some_chain_deep (tree.more t ts) k (T ∷ Ts) e h =
        elim (or_cases (has_chain th t k T) (some_has_chain th ts k Ts) e) [
          | inl p ↦ let q = chain_deep t k T p h.0 in omega (arith, q)
          | inr p ↦ let q = some_chain_deep ts k Ts p h.1 in omega (arith, q)
        ]
    some_chain_deep (tree.more t ts) k [] e h = cc e
    some_chain_deep tree.none k Ts e h = cc e

pub deep_not_shallow : (k : ℕ) (vs : List Value) → k < deepest (values vs) → ¬ (IsShallow k vs)
deep_not_shallow k vs d h = omega (arith, d, shallow_deepest k vs h)
  where
    shallow_deepest : (k : ℕ) (vs : List Value) → IsShallow k vs → deepest (values vs) ≤ k
    shallow_deepest k [] h = omega arith
    shallow_deepest k (v ∷ vs) h = let q = shallow_deepest k vs h.1 in omega (arith, h.0, q)
