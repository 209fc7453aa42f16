-- A term with a typing has, where its variables' values have their types, a value of its type.
use Rattle.std.proofs.Common.{ℕ, zero, suc, ◌≡◌, List, [], ◌∷◌, ◌++◌, map, reverse, length, Option, Some, None, refl, sym, ◌∙◌, ap, subst, nat_eq}
use Rattle.std.specs.Prelude.{slice_get, unwrap_or, option_map}
use Rattle.std.specs.Option.{option_map_or}
use Rattle.std.proofs.lemmas.Bool.{eq-eqb}
use Rattle.std.proofs.lemmas.List.{map-append, length-map}
use Rattle.std.proofs.lemmas.Option.{slice_get-map}
use Rattle.tg_model.specs.Types.{Ty, applied}
use Rattle.tg_model.specs.Tree as tree
use Rattle.tg_model.specs.Tree.{Tree, Trees, Arms, bound, free, literal, truth, con, call, put, choice, case, bind, op}
use Rattle.tg_model.specs.Value.{Value, wrong}
use Rattle.tg_model.specs.Theory.{Theory, Datatype, Constructor, Function, numbered, first_constructor, instance}
use Rattle.tg_model.specs.Typing.{HasType, AreTyped}
use Rattle.tg_model.specs.Denotation.{World, value_in, values_in, branch_in, opened}
use Rattle.tg_model.specs.TermTyping.{Typing, Typings, ArmTypings, leaf, instanced, compound, branching, binding, none, more, end, arm, type_of, types_of, IsTyping, AreTypings, AreArmTypings, IsDatatype, datatype_at, constructor_arguments, EachCall, EachCalls, EachCallOf}
use Rattle.tg_model.proofs.Booleans.{if_true}
use Rattle.tg_model.proofs.Places.{map-reverse}
use Rattle.tg_model.proofs.Instances.{instances_tys, composed, list_composed}
use Rattle.tg_model.proofs.ValueTyping.{typed_at, typed_append, typed_reverse, typed_length, chosen_typed, operated_typed, opens}

pub datatype_instance : (us : List Ty) (n : ℕ) (ts : List Ty) → instance us (datatype_at n ts) ≡ datatype_at n (map (instance us) ts)
datatype_instance us zero ts = refl
datatype_instance us (suc n) ts = ap (applied (suc n)) (instances_tys us ts)

pub is_datatype_instance : (th : Theory) (us : List Ty) (n : ℕ) (ts : List Ty) → IsDatatype th n ts → IsDatatype th n (map (instance us) ts)
is_datatype_instance th us zero ts h = ap (map (instance us)) h
is_datatype_instance th us (suc n) ts h = (h.0, h.1, length-map ts (instance us) ∙ h.2)

each_composed : (us ts : List Ty) (cs : List Constructor)
    → map (λ (k : Constructor). map (instance (map (instance us) ts)) k.arguments) cs ≡ map (map (instance us)) (map (λ (k : Constructor). map (instance ts) k.arguments) cs)
each_composed us ts [] = refl
each_composed us ts (k ∷ cs) = λ i. sym (list_composed us ts k.arguments) i ∷ each_composed us ts cs i

arguments_of_option : (us ts : List Ty) (o : Option Datatype)
    → option_map_or (λ (x : Datatype). map (λ (k : Constructor). map (instance (map (instance us) ts)) k.arguments) x.constructors) o []
    ≡ map (map (instance us)) (option_map_or (λ (x : Datatype). map (λ (k : Constructor). map (instance ts) k.arguments) x.constructors) o [])
arguments_of_option us ts None = refl
arguments_of_option us ts (Some x) = each_composed us ts x.constructors

pub arguments_composed : (th : Theory) (us : List Ty) (n : ℕ) (ts : List Ty)
    → constructor_arguments th n (map (instance us) ts) ≡ map (map (instance us)) (constructor_arguments th n ts)
arguments_composed th us zero ts = refl
arguments_composed th us (suc n) ts = arguments_of_option us ts (slice_get th.datatypes n)

pub mapped_back : (f : List Ty → List Ty) (o : Option (List Ty)) (args : List Ty) → option_map f o ≡ Some args → (ts : List Ty) × (o ≡ Some ts) × (f ts ≡ args)
mapped_back f None args e = cc
mapped_back f (Some ts) args e = (ts, refl, cc)

-- `us` are the closed types that stand for type parameters, `vars` the types of the free variables, `env` their values.
-- `Allowed` says which calls the term makes, and `calls` that these give values of the functions' types.
module _ (th : Theory) (w : World) (us vars : List Ty) (env : List Value)
    (first : (d : ℕ) → w.first d ≡ first_constructor th.datatypes d)
    (typed_env : AreTyped th env (map (instance us) vars))
    (answers : (vs : List Value) → AreTyped th vs (map (instance us) th.program.inputs) → HasType th (w.answers vs) (instance us th.program.answer))
    (Allowed : ℕ → Trees → Type 0)
    (calls : (loc : List Value) (f : ℕ) (ts : Trees) (x : Function) (vs : List Ty) → Allowed f ts → numbered th.functions f ≡ Some x
    → AreTyped th (values_in w env loc ts) (map (instance vs) x.arguments) → HasType th (w.calls f (values_in w env loc ts)) (instance vs x.answer)) where
  abbrev at_us : Ty → Ty
  at_us = instance us

  free_typed : (n : ℕ) (t : Ty) → numbered vars n ≡ Some t → HasType th (unwrap_or (numbered env n) wrong) (at_us t)
  free_typed zero t e = cc
  free_typed (suc n) t e = typed_at th at_us vars env n t typed_env e

  -- arguments typed at an instance of declared types, as the tree of the typing has it
  at_declared : (vs : List Value) (ts declared args : List Ty) → ts ≡ map (instance args) declared → AreTyped th vs (map at_us ts)
      → AreTyped th vs (map (instance (map at_us args)) declared)
  at_declared vs ts declared args e h =
      subst (λ (x : List Ty). AreTyped th vs x) (list_composed us args declared) (subst (λ (x : List Ty). AreTyped th vs (map at_us x)) e h)

  mutual
    pub sound : (t : Tree) (d : Typing) (locs : List Ty) (loc : List Value) → AreTyped th loc (map at_us locs) → EachCall Allowed t
        → IsTyping th vars locs t d → HasType th (value_in w env loc t) (at_us (type_of d))
    sound (bound k) (leaf t) locs loc typed each h = typed_at th at_us locs loc k t typed h
    sound (free n) (leaf t) locs loc typed each h = free_typed n t h
    sound (literal n) (leaf t) locs loc typed each h = ap at_us h
    sound (truth b) (leaf t) locs loc typed each h = ap at_us h
    sound (con c ts) (instanced args t ds) locs loc typed each (o, is, n, r, e, all) = (
      o,
      is,
      (
        map at_us args,
        ap at_us r ∙ ap (applied o.datatype) (instances_tys us args),
        at_declared (values_in w env loc ts) (types_of ds) o.constructor.arguments args e (sound_all ts ds locs loc typed each all),
      ),
    )
    sound (call f ts) (instanced args t ds) locs loc typed each (x, is, n, r, e, all) =
        subst (λ (u : Ty). HasType th (w.calls f (values_in w env loc ts)) u) (sym (ap at_us r ∙ composed us args x.answer))
        (calls loc f ts x (map at_us args) each.0 is
        (at_declared (values_in w env loc ts) (types_of ds) x.arguments args e (sound_all ts ds locs loc typed each.1 all)))
    sound (put ts) (compound t ds) locs loc typed each (r, e, all) =
        subst (λ (u : Ty). HasType th (w.answers (values_in w env loc ts)) (at_us u)) (sym r)
        (answers (values_in w env loc ts) (subst (λ (x : List Ty). AreTyped th (values_in w env loc ts) (map at_us x)) e (sound_all ts ds locs loc typed each all)))
    sound (choice ts) (compound t ds) locs loc typed each (e, all) =
        chosen_typed th (at_us t) (values_in w env loc ts)
        (subst (λ (x : List Ty). AreTyped th (values_in w env loc ts) (map at_us x)) e (sound_all ts ds locs loc typed each all))
    sound (op o ts) (compound t ds) locs loc typed each (e, all) =
        operated_typed th us o (types_of ds) t (values_in w env loc ts) e (sound_all ts ds locs loc typed each all)
    sound (bind t body) (binding u v d e) locs loc typed each (p, q, r, s) =
        subst (λ (x : Ty). HasType th (value_in w env (value_in w env loc t ∷ loc) body) (at_us x)) (sym s)
        (sound body e (u ∷ locs) (value_in w env loc t ∷ loc)
        (subst (λ (x : Ty). HasType th (value_in w env loc t) (at_us x)) (sym q) (sound t d locs loc typed each.0 p), typed) each.1 r)
    sound (case n t bs) (branching args u d arms) locs loc typed each (is, e, p, all) =
        let v = value_in w env loc t in
        let scrutinee : HasType th v (datatype_at n (map at_us args)) =
        subst (λ (x : Ty). HasType th v x) (ap at_us e ∙ datatype_instance us n args) (sound t d locs loc typed each.0 p) in
        let o = opens th n (map at_us args) v (is_datatype_instance th us n args is) scrutinee in
        let taken : opened n (w.first n) v ≡ Some (o.place, o.parts) = ap (λ k. opened n k v) (first n) ∙ o.is in
        let declared = mapped_back (map at_us) (slice_get (constructor_arguments th n args) o.place) o.arguments
        (sym (slice_get-map (map at_us) (constructor_arguments th n args) o.place) ∙ (ap (λ l. slice_get l o.place) (sym (arguments_composed th us n args)) ∙ o.found)) in
        subst (λ (p : Option (ℕ × List Value)). HasType th (option_map_or (λ (q : ℕ × List Value). branch_in w env loc q.0 q.1 bs) p wrong) (at_us u)) (sym taken)
        (sound_arms bs (constructor_arguments th n args) arms o.place declared.0 o.parts locs loc u typed each.1 declared.1
        (subst (λ (x : List Ty). AreTyped th o.parts x) (sym declared.2) o.typed) all)
    sound t d locs loc typed each h = absurd h

    pub sound_all : (ts : Trees) (ds : Typings) (locs : List Ty) (loc : List Value) → AreTyped th loc (map at_us locs) → EachCalls Allowed ts
        → AreTypings th vars locs ts ds → AreTyped th (values_in w env loc ts) (map at_us (types_of ds))
    sound_all tree.none none locs loc typed each h = tt
    sound_all tree.none (more d ds) locs loc typed each h = absurd h
    sound_all (tree.more t ts) none locs loc typed each h = absurd h
    sound_all (tree.more t ts) (more d ds) locs loc typed each h = (sound t d locs loc typed each.0 h.0, sound_all ts ds locs loc typed each.1 h.1)

    sound_arms : (bs : Arms) (all : List (List Ty)) (arms : ArmTypings) (k : ℕ) (args : List Ty) (vs : List Value) (locs : List Ty) (loc : List Value) (u : Ty)
        → AreTyped th loc (map at_us locs) → EachCallOf Allowed bs → slice_get all k ≡ Some args → AreTyped th vs (map at_us args)
        → AreArmTypings th vars locs u bs all arms → HasType th (branch_in w env loc k vs bs) (at_us u)
    sound_arms tree.end [] end k args vs locs loc u typed each found parts h = cc found
    sound_arms (tree.arm n body bs) (ts ∷ rest) (arm ts' d arms) zero args vs locs loc u typed each found parts (n_is, e, p, r, more_arms) =
        let same : ts ≡ args = cc found in
        let count : n ≡ length vs = n_is ∙ (ap length same ∙ (sym (length-map args at_us) ∙ sym (typed_length th vs (map at_us args) parts))) in
        let here : AreTyped th (reverse vs ++ loc) (map at_us (reverse ts ++ locs)) =
        subst (λ (x : List Ty). AreTyped th (reverse vs ++ loc) x)
        (sym (map-append at_us (reverse ts) locs ∙ ap (λ x. x ++ map at_us locs) (map-reverse at_us ts ∙ ap (λ x. reverse (map at_us x)) same)))
        (typed_append th (reverse vs) loc (reverse (map at_us args)) (map at_us locs) (typed_reverse th vs (map at_us args) parts) typed) in
        subst (λ (x : Value). HasType th x (at_us u)) (sym (if_true (value_in w env (reverse vs ++ loc) body) wrong (nat_eq n (length vs)) (eq-eqb n (length vs) count)))
        (subst (λ (x : Ty). HasType th (value_in w env (reverse vs ++ loc) body) (at_us x)) r
        (sound body d (reverse ts ++ locs) (reverse vs ++ loc) here each.0 p))
    sound_arms (tree.arm n body bs) (ts ∷ rest) (arm ts' d arms) (suc k) args vs locs loc u typed each found parts h =
        sound_arms bs rest arms k args vs locs loc u typed each.1 found parts h.4
    sound_arms bs all arms k args vs locs loc u typed each found parts h = absurd h
