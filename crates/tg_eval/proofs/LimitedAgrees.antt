-- Where there is a limited value, it is the value: level by level.
use Rattle.std.proofs.Common.{ℕ, zero, suc, ◌≡◌, Bool, true, false, List, [], ◌∷◌, ◌++◌, map, reverse, length, Option, Some, None, refl, sym, ◌∙◌, ap, subst, nat_eq, nat_lt, nat_le, if◌then◌else◌}
use Rattle.std.specs.Prelude.{slice_get, unwrap_or}
use Rattle.std.specs.Option.{option_map_or}
use Rattle.std.proofs.lemmas.Bool.{eq-eqb}
use Rattle.std.proofs.lemmas.List.{map-append, length-map}
use Rattle.std.proofs.lemmas.Option.{slice_get-map}
use Rattle.tg_model.specs.Tree as tree
use Rattle.tg_model.specs.Tree.{Tree, Trees, Arms, bound, free, literal, truth, con, call, put, choice, case, bind, op, Operator, negation, conjunction, disjunction, implication, successor, equality, less, less_equal, plus, minus, times, divide, modulo, unnamed}
use Rattle.tg_model.specs.Types.{Ty, bool}
use Rattle.tg_model.specs.Value.{Value, number, boolean, made, values, wrong}
use Rattle.tg_model.specs.Theory.{Theory, Function, Body, plain, recursive, numbered, first_constructor, instance, datatype_of}
use Rattle.tg_model.specs.Typing.{HasType, AreTyped}
use Rattle.tg_model.specs.Table.{Table, IsTable}
use Rattle.tg_model.specs.Denotation.{World, value_in, values_in, branch_in, opened, operated, chosen, others, place_of, datatype_of_place, world}
use Rattle.tg_model.specs.TermTyping.{Typing, Typings, ArmTypings, instanced, compound, branching, binding, none, more, end, arm, type_of, types_of, IsTyping, AreTypings, AreArmTypings, IsTyped, EachCall, datatype_at, constructor_arguments}
use Rattle.tg_model.specs.WellTyped.{IsLower, IsBody}
use Rattle.tg_model.specs.Calls.{has_call, EachPut, EachPuts, EachPutOf}
use Rattle.tg_model.specs.Accepted.{IsAccepted, HaveNoCall, bodies}
use Rattle.tg_model.proofs.Agreement.{no_put}
use Rattle.tg_model.proofs.CallBodies.{definitions_are_bodies, recursions_are_bodies}
use Rattle.tg_model.proofs.CallSoundness.{datatype_of_at, soundness_at_instances}
use Rattle.tg_model.proofs.Instances.{list_composed}
use Rattle.tg_model.proofs.Places.{map-reverse}
use Rattle.tg_model.proofs.TermSoundness.{datatype_instance, is_datatype_instance, arguments_composed, mapped_back}
use Rattle.tg_model.proofs.TheorySoundness.{world_first, case_at, typed_others, typed_place}
use Rattle.tg_model.proofs.ValueTyping.{typed_append, typed_reverse, typed_length, is_boolean, opens}
use Rattle.tg_eval.specs.Limited.{Outcome, Evaluator, then_value, then_values, then_more, with_first, below_bound, small_enough, decided, all_by, case_by, body_by, called_by, chosen_by, branch_by, opened_by, connected_by, operated_by, level_by, limited}

-- what is found where a step finds something
value_then : (o : Outcome) (f : Value → ℕ → Outcome) (q : Value × ℕ) → then_value o f ≡ Some q → (r : Value × ℕ) × (o ≡ Some r) × (f r.0 r.1 ≡ Some q)
value_then None f q e = cc e
value_then (Some r) f q e = (r, refl, e)

values_then : (o : Option (List Value × ℕ)) (f : List Value → ℕ → Outcome) (q : Value × ℕ) → then_values o f ≡ Some q
    → (r : List Value × ℕ) × (o ≡ Some r) × (f r.0 r.1 ≡ Some q)
values_then None f q e = cc e
values_then (Some r) f q e = (r, refl, e)

with_first_is : (v : Value) (o : Option (List Value × ℕ)) (q : List Value × ℕ) → with_first v o ≡ Some q → (r : List Value × ℕ) × (o ≡ Some r) × (v ∷ r.0 ≡ q.0)
with_first_is v None q e = cc e
with_first_is v (Some r) q e = let p : (v ∷ r.0, r.1) ≡ q = cc e in (r, refl, ap (λ (x : List Value × ℕ). x.0) p)

more_then : (o : Outcome) (f : ℕ → Option (List Value × ℕ)) (q : List Value × ℕ) → then_more o f ≡ Some q
    → (r : Value × ℕ) × (o ≡ Some r) × (with_first r.0 (f r.1) ≡ Some q)
more_then None f q e = cc e
more_then (Some r) f q e = (r, refl, e)

nothing_is_some : {A : Type 0} {x : A} → None ≡ Some x → ⊥
nothing_is_some e = cc e

some_same : {A : Type 0} {x y : A} → Some x ≡ Some y → x ≡ y
some_same e = cc

value_same : (v : Value) (left : ℕ) (q : Value × ℕ) → Some (v, left) ≡ Some q → v ≡ q.0
value_same v left q e = let p : (v, left) ≡ q = some_same e in ap (λ (x : Value × ℕ). x.0) p

if_some : (b : Bool) (v : Value) (left : ℕ) (q : Value × ℕ) → (if b then Some (v, left) else None) ≡ Some q → v ≡ q.0
if_some true v left q e = value_same v left q e
if_some false v left q e = cc e

bounded : (v : Value) (left : ℕ) (q : Value × ℕ) → below_bound v left ≡ Some q → v ≡ q.0
bounded (number n) left q e = if_some (nat_lt n 18446744073709551616) (number n) left q e
bounded (boolean b) left q e = value_same (boolean b) left q e
bounded (made c vs) left q e = value_same (made c vs) left q e

if_true : {A : Type 0} (x y : A) (b : Bool) → b ≡ true → (if b then x else y) ≡ x
if_true x y true e = refl
if_true x y false e = cc

module _ (th : Theory) (tb : Table) (accepted : IsAccepted th) (table : IsTable th tb) (answer : Value) (Allowed : List Value → Trees → Type 0)
    (gives : (env loc : List Value) (ts : Trees) → Allowed env ts → (world th tb).answers (values_in (world th tb) env loc ts) ≡ answer) where
  abbrev w : World
  w = world th tb

  -- each program call of a term is allowed
  abbrev Good : List Value → Tree → Type 0
  Good env t = EachPut (Allowed env) t

  abbrev AllGood : List Value → Trees → Type 0
  AllGood env ts = EachPuts (Allowed env) ts

  abbrev Agrees : Evaluator → Type 0
  Agrees ev = (us vars locs : List Ty) (env loc : List Value) (t : Tree) (u : Ty) → AreTyped th env (map (instance us) vars)
      → AreTyped th loc (map (instance us) locs) → IsTyped th vars locs t u → Good env t → (left : ℕ) (q : Value × ℕ)
      → ev left env loc t ≡ Some q → q.0 ≡ value_in w env loc t

  typed_value : (us vars locs : List Ty) (env loc : List Value) (t : Tree) (u : Ty) → AreTyped th env (map (instance us) vars)
      → AreTyped th loc (map (instance us) locs) → IsTyped th vars locs t u → HasType th (value_in w env loc t) (instance us u)
  typed_value us vars locs env loc t u e l h = soundness_at_instances th tb accepted.well_typed table us vars locs env loc t u e l h

  module _ (ev : Evaluator) (agrees : Agrees ev) where
    -- a body without program calls, at typed values of its variables
    body_agrees : (us vars : List Ty) (vs : List Value) (t : Tree) (u : Ty) → AreTyped th vs (map (instance us) vars) → IsTyped th vars [] t u
        → has_call t ≡ false → (left : ℕ) (q : Value × ℕ) → ev left vs [] t ≡ Some q → q.0 ≡ value_in w vs [] t
    body_agrees us vars vs t u typed h none_there left q e =
        agrees us vars [] vs [] t u typed tt h (no_put (Allowed vs) t none_there) left q e

    no_call_at : (ts : List Tree) (k : ℕ) (t : Tree) → slice_get ts k ≡ Some t → HaveNoCall ts → has_call t ≡ false
    no_call_at [] k t e h = cc e
    no_call_at (u ∷ ts) zero t e h = let r : u ≡ t = some_same e in ap has_call (sym r) ∙ h.0
    no_call_at (u ∷ ts) (suc k) t e h = no_call_at ts k t e h.1

    called_agrees : (n : ℕ) (x : Function) (us : List Ty) (vs : List Value) (left : ℕ) (q : Value × ℕ) → numbered th.functions (suc n) ≡ Some x
        → AreTyped th vs (map (instance us) x.arguments) → (b : Body) → x.body ≡ b → body_by th answer ev left vs x b ≡ Some q
        → q.0 ≡ w.calls (suc n) vs
    called_agrees n x us vs left q is typed (plain t) same e =
        let declared : IsBody th (suc n) x (plain t) = subst (λ (b : Body). IsBody th (suc n) x b) same (accepted.well_typed.functions (suc n) x is) in
        let none_there : HaveNoCall (bodies (plain t)) = subst (λ (b : Body). HaveNoCall (bodies b)) same ((accepted.functions (suc n) x is).no_call) in
        body_agrees us x.arguments vs t x.answer typed declared.1 none_there.0 left q e ∙ sym (definitions_are_bodies th tb n x t vs is same declared.0)
    called_agrees n x us vs left q is typed (recursive place cases) same e =
        let declared : IsBody th (suc n) x (recursive place cases) = subst (λ (b : Body). IsBody th (suc n) x b) same (accepted.well_typed.functions (suc n) x is) in
        let none_there : HaveNoCall (bodies (recursive place cases)) = subst (λ (b : Body). HaveNoCall (bodies b)) same ((accepted.functions (suc n) x is).no_call) in
        let k = declared.0 in
        let args = declared.1 in
        let number_is : datatype_of_place x place ≡ k = ap (λ (o : Option Ty). option_map_or datatype_of o 0) declared.2 ∙ datatype_of_at k args in
        let v = place_of vs place in
        let scrutinee : HasType th v (datatype_at k (map (instance us) args)) =
        subst (λ (t : Ty). HasType th v t) (datatype_instance us k args) (typed_place th (instance us) place vs x.arguments (datatype_at k args) typed declared.2) in
        let o = opens th k (map (instance us) args) v (is_datatype_instance th us k args declared.3) scrutinee in
        let back = mapped_back (map (instance us)) (slice_get (constructor_arguments th k args) o.place) o.arguments
        (sym (slice_get-map (map (instance us)) (constructor_arguments th k args) o.place)
        ∙ (ap (λ l. slice_get l o.place) (sym (arguments_composed th us k args)) ∙ o.found)) in
        let c = case_at th (suc n) x place cases (constructor_arguments th k args) o.place back.0 declared.4 back.1 in
        let parts : AreTyped th o.parts (map (instance us) back.0) = subst (λ (ts : List Ty). AreTyped th o.parts ts) (sym back.2) o.typed in
        let rest : AreTyped th (others vs place) (map (instance us) (others x.arguments place)) = typed_others th (instance us) place vs x.arguments typed in
        let env : AreTyped th (others vs place ++ o.parts) (map (instance us) (others x.arguments place ++ back.0)) =
        subst (λ (ts : List Ty). AreTyped th (others vs place ++ o.parts) ts) (sym (map-append (instance us) (others x.arguments place) back.0))
        (typed_append th (others vs place) o.parts (map (instance us) (others x.arguments place)) (map (instance us) back.0) rest parts) in
        let start = typed_length th (others vs place) (map (instance us) (others x.arguments place)) rest ∙ length-map (others x.arguments place) (instance us) in
        let count = typed_length th o.parts (map (instance us) back.0) parts ∙ length-map back.0 (instance us) in
        let opened_as : opened (datatype_of_place x place) (first_constructor th.datatypes (datatype_of_place x place)) v ≡ Some (o.place, o.parts) =
        ap (λ z. opened z (first_constructor th.datatypes z) v) number_is ∙ o.is in
        let taken : ev left (others vs place ++ o.parts) [] c.0 ≡ Some q =
        sym (ap (case_by th answer ev left (others vs place) cases) opened_as ∙ ap (λ (z : Option Tree). option_map_or (λ t. ev left (others vs place ++ o.parts) [] t) z (Some (wrong, left))) c.1) ∙ e in
        let each : EachCall (IsLower (suc n) place (length (others vs place)) (length o.parts)) c.0 =
        subst (λ z. EachCall (IsLower (suc n) place z (length o.parts)) c.0) (sym start)
        (subst (λ z. EachCall (IsLower (suc n) place (length (others x.arguments place)) z) c.0) (sym count) c.2) in
        body_agrees us (others x.arguments place ++ back.0) (others vs place ++ o.parts) c.0 x.answer env c.3 (no_call_at cases o.place c.0 c.1 none_there) left q taken
        ∙ sym (recursions_are_bodies th tb n x place cases vs is same o.place o.parts c.0 opened_as c.1 each)

    module _ (us vars : List Ty) (env : List Value) (typed_env : AreTyped th env (map (instance us) vars)) where
      abbrev I : Ty → Ty
      I = instance us

      one_agrees : (t : Tree) (g : Typing) (locs : List Ty) (loc : List Value) → AreTyped th loc (map I locs) → IsTyping th vars locs t g → Good env t
          → (left : ℕ) (q : Value × ℕ) → ev left env loc t ≡ Some q → q.0 ≡ value_in w env loc t
      one_agrees t g locs loc l h good left q e = agrees us vars locs env loc t (type_of g) typed_env l (g, h, refl) good left q e

      all_agree : (ts : Trees) (ds : Typings) (locs : List Ty) (loc : List Value) → AreTyped th loc (map I locs) → AreTypings th vars locs ts ds → AllGood env ts
          → (left : ℕ) (q : List Value × ℕ) → all_by th answer ev left env loc ts ≡ Some q → q.0 ≡ values_in w env loc ts
      all_agree tree.none ds locs loc l h good left q e = let p : ([], left) ≡ q = some_same e in sym (ap (λ (x : List Value × ℕ). x.0) p)
      all_agree (tree.more t ts) none locs loc l h good left q e = absurd h
      all_agree (tree.more t ts) (more g ds) locs loc l h good left q e =
          let r = more_then (ev left env loc t) (λ rest. all_by th answer ev rest env loc ts) q e in
          let s = with_first_is r.0.0 (all_by th answer ev r.0.1 env loc ts) q r.2 in
          sym s.2 ∙ (λ i. one_agrees t g locs loc l h.0 good.0 left r.0 r.1 i ∷ all_agree ts ds locs loc l h.1 good.1 r.0.1 s.0 s.1 i)

      values_typed : (ts : Trees) (ds : Typings) (locs : List Ty) (loc : List Value) → AreTyped th loc (map I locs) → AreTypings th vars locs ts ds
          → AreTyped th (values_in w env loc ts) (map I (types_of ds))
      values_typed tree.none none locs loc l h = tt
      values_typed tree.none (more g ds) locs loc l h = absurd h
      values_typed (tree.more t ts) none locs loc l h = absurd h
      values_typed (tree.more t ts) (more g ds) locs loc l h =
          (typed_value us vars locs env loc t (type_of g) typed_env l (g, h.0, refl), values_typed ts ds locs loc l h.1)

      branches_agree : (bs : Arms) (all : List (List Ty)) (arms : ArmTypings) (k : ℕ) (args : List Ty) (vs : List Value) (locs : List Ty) (loc : List Value) (u : Ty)
          → AreTyped th loc (map I locs) → EachPutOf (Allowed env) bs → slice_get all k ≡ Some args
          → AreTyped th vs (map I args) → AreArmTypings th vars locs u bs all arms → (left : ℕ) (q : Value × ℕ)
          → branch_by th answer ev left env loc k vs bs ≡ Some q → q.0 ≡ branch_in w env loc k vs bs
      branches_agree tree.end [] end k args vs locs loc u l good found parts h left q e = cc found
      branches_agree (tree.arm n body bs) (ts ∷ rest) (arm ts' g arms) zero args vs locs loc u l good found parts (n_is, e', p, r, others') left q e =
          let same : ts ≡ args = some_same found in
          let count : n ≡ length vs = n_is ∙ (ap (λ (z : List Ty). length z) same ∙ (sym (length-map args I) ∙ sym (typed_length th vs (map I args) parts))) in
          let tested = eq-eqb n (length vs) count in
          let here : AreTyped th (reverse vs ++ loc) (map I (reverse ts ++ locs)) =
          subst (λ (x : List Ty). AreTyped th (reverse vs ++ loc) x)
          (sym (map-append I (reverse ts) locs ∙ ap (λ x. x ++ map I locs) (map-reverse I ts ∙ ap (λ x. reverse (map I x)) same)))
          (typed_append th (reverse vs) loc (reverse (map I args)) (map I locs) (typed_reverse th vs (map I args) parts) l) in
          let taken : ev left env (reverse vs ++ loc) body ≡ Some q =
          sym (if_true (ev left env (reverse vs ++ loc) body) (Some (wrong, left)) (nat_eq n (length vs)) tested) ∙ e in
          one_agrees body g (reverse ts ++ locs) (reverse vs ++ loc) here p good.0 left q taken
          ∙ sym (if_true (value_in w env (reverse vs ++ loc) body) wrong (nat_eq n (length vs)) tested)
      branches_agree (tree.arm n body bs) (ts ∷ rest) (arm ts' g arms) (suc k) args vs locs loc u l good found parts h left q e =
          branches_agree bs rest arms k args vs locs loc u l good.1 found parts h.4 left q e
      branches_agree bs all arms k args vs locs loc u l good found parts h left q e = absurd h

      operation_agrees : (o : Operator) (ts : Trees) (ds : Typings) (locs : List Ty) (loc : List Value) → AreTyped th loc (map I locs)
          → AreTypings th vars locs ts ds → AllGood env ts → (left : ℕ) (q : Value × ℕ) → operated_by th answer ev left env loc o ts ≡ Some q
          → q.0 ≡ operated o (values_in w env loc ts)
      operation_agrees o ts ds locs loc l h good left q e =
          let r = values_then (all_by th answer ev left env loc ts) (λ vs rest. below_bound (operated o vs) rest) q e in
          sym (bounded (operated o r.0.0) r.0.1 q r.2) ∙ ap (operated o) (all_agree ts ds locs loc l h good left r.0 r.1)

      -- a connective of two truth values, of which the left one may decide
      connection_agrees : (o : Operator) → ((a b y : Bool) → decided o (boolean a) ≡ Some b → boolean b ≡ operated o (boolean a ∷ boolean y ∷ []))
          → (t u : Tree) (g g' : Typing) (locs : List Ty) (loc : List Value) → AreTyped th loc (map I locs) → IsTyping th vars locs t g → IsTyping th vars locs u g'
          → type_of g ≡ bool → type_of g' ≡ bool → Good env t → Good env u → (left : ℕ) (q : Value × ℕ) → connected_by th answer ev left env loc o t u ≡ Some q
          → q.0 ≡ operated o (value_in w env loc t ∷ value_in w env loc u ∷ [])
      connection_agrees o decides t u g g' locs loc l h h' is is' good good' left q e =
          let x = truth_of t g h is in
          let y = truth_of u g' h' is' in
          let r = value_then (ev left env loc t) (λ x rest. option_map_or (λ b. Some (boolean b, rest)) (decided o x)
          (then_value (ev rest env loc u) (λ y last. Some (operated o (x ∷ y ∷ []), last)))) q e in
          let first : r.0.0 ≡ value_in w env loc t = one_agrees t g locs loc l h good left r.0 r.1 in
          by r.0.0 r.0.1 first x y (decided o r.0.0) refl r.2
        where
          truth_of : (s : Tree) (k : Typing) → IsTyping th vars locs s k → type_of k ≡ bool → (b : Bool) × (value_in w env loc s ≡ boolean b)
          truth_of s k typing kind =
              is_boolean th (value_in w env loc s) (subst (λ (z : Ty). HasType th (value_in w env loc s) (I z)) kind (typed_value us vars locs env loc s (type_of k) typed_env l (k, typing, refl)))

          by : (v : Value) (rest : ℕ) → v ≡ value_in w env loc t → (a : Bool) × (value_in w env loc t ≡ boolean a) → (b : Bool) × (value_in w env loc u ≡ boolean b)
              → (o' : Option Bool) → decided o v ≡ o'
              → option_map_or (λ b. Some (boolean b, rest)) o' (then_value (ev rest env loc u) (λ y last. Some (operated o (v ∷ y ∷ []), last))) ≡ Some q
              → q.0 ≡ operated o (value_in w env loc t ∷ value_in w env loc u ∷ [])
          by v rest same a b (Some c) f k =
              let told : decided o (boolean a.0) ≡ Some c = ap (decided o) (sym (same ∙ a.1)) ∙ f in
              sym (value_same (boolean c) rest q k) ∙ (decides a.0 c b.0 told
              ∙ (ap (λ z. operated o (z ∷ boolean b.0 ∷ [])) (sym a.1) ∙ ap (λ z. operated o (value_in w env loc t ∷ z ∷ [])) (sym b.1)))
          by v rest same a b None f k =
              let p = value_then (ev rest env loc u) (λ y last. Some (operated o (v ∷ y ∷ []), last)) q k in
              sym (value_same (operated o (v ∷ p.0.0 ∷ [])) p.0.1 q p.2)
              ∙ (ap (λ z. operated o (z ∷ p.0.0 ∷ [])) same ∙ ap (λ z. operated o (value_in w env loc t ∷ z ∷ [])) (one_agrees u g' locs loc l h' good' rest p.0 p.1))

      two_types : (a b c e : Ty) → a ∷ b ∷ [] ≡ c ∷ e ∷ [] → (a ≡ c) × (b ≡ e)
      two_types a b c e k = (cc k, cc k)

      -- of two operands in a connective
      connective_agrees : (o : Operator) → ((a b y : Bool) → decided o (boolean a) ≡ Some b → boolean b ≡ operated o (boolean a ∷ boolean y ∷ []))
          → (t u : Tree) (ds : Typings) (locs : List Ty) (loc : List Value) → AreTyped th loc (map I locs) → types_of ds ≡ bool ∷ bool ∷ []
          → AreTypings th vars locs (tree.more t (tree.more u tree.none)) ds → AllGood env (tree.more t (tree.more u tree.none)) → (left : ℕ) (q : Value × ℕ)
          → connected_by th answer ev left env loc o t u ≡ Some q → q.0 ≡ operated o (value_in w env loc t ∷ value_in w env loc u ∷ [])
      connective_agrees o decides t u (more g (more g' none)) locs loc l is h good left q e =
          let p = two_types (type_of g) (type_of g') bool bool is in
          connection_agrees o decides t u g g' locs loc l h.0 h.1.0 p.0 p.1 good.0 good.1.0 left q e
      connective_agrees o decides t u none locs loc l is h good left q e = absurd h
      connective_agrees o decides t u (more g none) locs loc l is h good left q e = absurd h.1
      connective_agrees o decides t u (more g (more g' (more g'' ds))) locs loc l is h good left q e = absurd h.1.1

      and_decides : (a b y : Bool) → decided conjunction (boolean a) ≡ Some b → boolean b ≡ operated conjunction (boolean a ∷ boolean y ∷ [])
      and_decides true b y e = cc e
      and_decides false b y e = let r : false ≡ b = some_same e in ap boolean (sym r)

      or_decides : (a b y : Bool) → decided disjunction (boolean a) ≡ Some b → boolean b ≡ operated disjunction (boolean a ∷ boolean y ∷ [])
      or_decides false b y e = cc e
      or_decides true b y e = let r : true ≡ b = some_same e in ap boolean (sym r)

      imp_decides : (a b y : Bool) → decided implication (boolean a) ≡ Some b → boolean b ≡ operated implication (boolean a ∷ boolean y ∷ [])
      imp_decides true b y e = cc e
      imp_decides false b y e = let r : true ≡ b = some_same e in ap boolean (sym r)

      chosen_agrees : (c t u : Tree) (ds : Typings) (a : Ty) (locs : List Ty) (loc : List Value) → AreTyped th loc (map I locs) → types_of ds ≡ bool ∷ a ∷ a ∷ []
          → AreTypings th vars locs (tree.more c (tree.more t (tree.more u tree.none))) ds → AllGood env (tree.more c (tree.more t (tree.more u tree.none)))
          → (left : ℕ) (q : Value × ℕ) → then_value (ev left env loc c) (λ v rest. chosen_by th answer ev rest env loc v t u) ≡ Some q
          → q.0 ≡ chosen (value_in w env loc c ∷ value_in w env loc t ∷ value_in w env loc u ∷ [])
      chosen_agrees c t u (more g (more g' (more g'' none))) a locs loc l is h good left q e =
          let kind : type_of g ≡ bool = cc is in
          let b = is_boolean th (value_in w env loc c)
          (subst (λ (z : Ty). HasType th (value_in w env loc c) (I z)) kind (typed_value us vars locs env loc c (type_of g) typed_env l (g, h.0, refl))) in
          let r = value_then (ev left env loc c) (λ v rest. chosen_by th answer ev rest env loc v t u) q e in
          let first : r.0.0 ≡ boolean b.0 = one_agrees c g locs loc l h.0 good.0 left r.0 r.1 ∙ b.1 in
          by b.0 r.0.1 (sym (ap (λ z. chosen_by th answer ev r.0.1 env loc z t u) first) ∙ r.2)
          ∙ ap (λ z. chosen (z ∷ value_in w env loc t ∷ value_in w env loc u ∷ [])) (sym b.1)
        where
          by : (b : Bool) (rest : ℕ) → chosen_by th answer ev rest env loc (boolean b) t u ≡ Some q → q.0 ≡ (if b then value_in w env loc t else value_in w env loc u)
          by true rest k = one_agrees t g' locs loc l h.1.0 good.1.0 rest q k
          by false rest k = one_agrees u g'' locs loc l h.1.1.0 good.1.1.0 rest q k
      chosen_agrees c t u none a locs loc l is h good left q e = absurd h
      chosen_agrees c t u (more g none) a locs loc l is h good left q e = absurd h.1
      chosen_agrees c t u (more g (more g' none)) a locs loc l is h good left q e = absurd h.1.1
      chosen_agrees c t u (more g (more g' (more g'' (more g3 ds)))) a locs loc l is h good left q e = absurd h.1.1.1

      -- an `if` has three parts
      not_three : (ts : Trees) (ds : Typings) (locs : List Ty) (a : Ty) → AreTypings th vars locs ts ds → types_of ds ≡ bool ∷ a ∷ a ∷ []
          → (c : Tree) × (t : Tree) × (u : Tree) × (ts ≡ tree.more c (tree.more t (tree.more u tree.none)))
      not_three tree.none none locs a h is = cc is
      not_three tree.none (more g ds) locs a h is = absurd h
      not_three (tree.more c ts) none locs a h is = absurd h
      not_three (tree.more c tree.none) (more g none) locs a h is = cc is
      not_three (tree.more c tree.none) (more g (more g' ds)) locs a h is = absurd h.1
      not_three (tree.more c (tree.more t ts)) (more g none) locs a h is = absurd h.1
      not_three (tree.more c (tree.more t tree.none)) (more g (more g' none)) locs a h is = cc is
      not_three (tree.more c (tree.more t tree.none)) (more g (more g' (more g'' ds))) locs a h is = absurd h.1.1
      not_three (tree.more c (tree.more t (tree.more u ts))) (more g (more g' none)) locs a h is = absurd h.1.1
      not_three (tree.more c (tree.more t (tree.more u tree.none))) (more g (more g' (more g'' none))) locs a h is = (c, t, u, refl)
      not_three (tree.more c (tree.more t (tree.more u tree.none))) (more g (more g' (more g'' (more g3 ds)))) locs a h is = absurd h.1.1.1
      not_three (tree.more c (tree.more t (tree.more u (tree.more v ts)))) (more g (more g' (more g'' none))) locs a h is = absurd h.1.1.1
      not_three (tree.more c (tree.more t (tree.more u (tree.more v ts)))) (more g (more g' (more g'' (more g3 ds)))) locs a h is = cc is

      level_agrees_at : (t : Tree) (g : Typing) (locs : List Ty) (loc : List Value) → AreTyped th loc (map I locs) → IsTyping th vars locs t g → Good env t
          → (left : ℕ) (q : Value × ℕ) → level_by th answer ev left env loc t ≡ Some q → q.0 ≡ value_in w env loc t
      level_agrees_at (bound k) g locs loc l h good left q e = sym (value_same (unwrap_or (slice_get loc k) wrong) left q e)
      level_agrees_at (free n) g locs loc l h good left q e = sym (value_same (unwrap_or (numbered env n) wrong) left q e)
      level_agrees_at (literal n) g locs loc l h good left q e = sym (bounded (number n) left q e)
      level_agrees_at (truth b) g locs loc l h good left q e = sym (value_same (boolean b) left q e)
      level_agrees_at (con c ts) (instanced vs a ds) locs loc l (o, is, k, r, args, each) good left q e =
          let p = values_then (all_by th answer ev left env loc ts) (λ vs rest. small_enough (made c (values vs)) rest) q e in
          sym (if_some (nat_le _ 100000) (made c (values p.0.0)) p.0.1 q p.2) ∙ ap (λ z. made c (values z)) (all_agree ts ds locs loc l each good left p.0 p.1)
      level_agrees_at (call zero ts) (instanced vs a ds) locs loc l (x, is, k, r, args, each) good left q e = cc is
      level_agrees_at (call (suc n) ts) (instanced vs a ds) locs loc l (x, is, k, r, args, each) good left q e =
          let p = values_then (all_by th answer ev left env loc ts) (λ vs rest. called_by th answer ev rest (suc n) vs) q e in
          let same = all_agree ts ds locs loc l each good left p.0 p.1 in
          let typed : AreTyped th (values_in w env loc ts) (map (instance (map I vs)) x.arguments) =
          subst (λ (z : List Ty). AreTyped th (values_in w env loc ts) z) (ap (map I) args ∙ list_composed us vs x.arguments) (values_typed ts ds locs loc l each) in
          by p.0.1 (sym (ap (called_by th answer ev p.0.1 (suc n)) same) ∙ p.2) typed
        where
          by : (rest : ℕ) → called_by th answer ev rest (suc n) (values_in w env loc ts) ≡ Some q
              → AreTyped th (values_in w env loc ts) (map (instance (map I vs)) x.arguments) → q.0 ≡ w.calls (suc n) (values_in w env loc ts)
          by zero f typed = cc f
          by (suc rest) f typed =
              called_agrees n x (map I vs) (values_in w env loc ts) rest q is typed x.body refl
              (sym (ap (λ (z : Option Function). option_map_or (λ (y : Function). body_by th answer ev rest (values_in w env loc ts) y y.body) z (Some (wrong, rest))) is) ∙ f)
      level_agrees_at (put ts) (compound a ds) locs loc l (r, args, each) good left q e =
          let p = values_then (all_by th answer ev left env loc ts) (λ vs rest. Some (answer, rest)) q e in
          sym (value_same answer p.0.1 q p.2) ∙ sym (gives env loc ts good.0)
      level_agrees_at (choice ts) (compound a ds) locs loc l (args, each) good left q e =
          let three = not_three ts ds locs a each args in
          by ts three.0 three.1 three.2 three.3 each good e
        where
          by : (ts : Trees) (c t u : Tree) → ts ≡ tree.more c (tree.more t (tree.more u tree.none)) → AreTypings th vars locs ts ds → AllGood env ts
              → level_by th answer ev left env loc (choice ts) ≡ Some q → q.0 ≡ chosen (values_in w env loc ts)
          by ts c t u same each good e =
              subst (λ z. q.0 ≡ chosen (values_in w env loc z)) (sym same)
              (chosen_agrees c t u ds a locs loc l args (subst (λ z. AreTypings th vars locs z ds) same each) (subst (λ z. AllGood env z) same good) left q
              (sym (ap (λ z. level_by th answer ev left env loc (choice z)) same) ∙ e))
      level_agrees_at (case n t bs) (branching args u g arms) locs loc l (is, kind, p, each) good left q e =
          let v = value_in w env loc t in
          let scrutinee : HasType th v (datatype_at n (map I args)) =
          subst (λ (x : Ty). HasType th v x) (ap I kind ∙ datatype_instance us n args) (typed_value us vars locs env loc t (type_of g) typed_env l (g, p, refl)) in
          let o = opens th n (map I args) v (is_datatype_instance th us n args is) scrutinee in
          let back = mapped_back (map I) (slice_get (constructor_arguments th n args) o.place) o.arguments
          (sym (slice_get-map (map I) (constructor_arguments th n args) o.place) ∙ (ap (λ k. slice_get k o.place) (sym (arguments_composed th us n args)) ∙ o.found)) in
          let r = value_then (ev left env loc t) (λ x rest. opened_by th answer ev rest env loc (opened n (first_constructor th.datatypes n) x) bs) q e in
          let first : r.0.0 ≡ v = one_agrees t g locs loc l p good.0 left r.0 r.1 in
          let taken : branch_by th answer ev r.0.1 env loc o.place o.parts bs ≡ Some q =
          sym (ap (λ z. opened_by th answer ev r.0.1 env loc z bs) (ap (opened n (first_constructor th.datatypes n)) first ∙ o.is)) ∙ r.2 in
          branches_agree bs (constructor_arguments th n args) arms o.place back.0 o.parts locs loc u l good.1 back.1
          (subst (λ (x : List Ty). AreTyped th o.parts x) (sym back.2) o.typed) each r.0.1 q taken
          ∙ sym (ap (λ k. option_map_or (λ (y : ℕ × List Value). branch_in w env loc y.0 y.1 bs) (opened n k v) wrong) (world_first th tb (length th.functions) n)
          ∙ ap (λ (z : Option (ℕ × List Value)). option_map_or (λ (y : ℕ × List Value). branch_in w env loc y.0 y.1 bs) z wrong) o.is)
      level_agrees_at (bind t body) (binding a b g g') locs loc l (p, kind, k, r) good left q e =
          let s = value_then (ev left env loc t) (λ v rest. ev rest env (v ∷ loc) body) q e in
          let first : s.0.0 ≡ value_in w env loc t = one_agrees t g locs loc l p good.0 left s.0 s.1 in
          let typed : AreTyped th (value_in w env loc t ∷ loc) (map I (a ∷ locs)) =
          (subst (λ (x : Ty). HasType th (value_in w env loc t) (I x)) (sym kind) (typed_value us vars locs env loc t (type_of g) typed_env l (g, p, refl)), l) in
          one_agrees body g' (a ∷ locs) (value_in w env loc t ∷ loc) typed k good.1 s.0.1 q (sym (ap (λ z. ev s.0.1 env (z ∷ loc) body) first) ∙ s.2)
      level_agrees_at (op conjunction (tree.more t (tree.more u tree.none))) (compound a ds) locs loc l (is, each) good left q e =
          connective_agrees conjunction and_decides t u ds locs loc l is.0 each good left q e
      level_agrees_at (op disjunction (tree.more t (tree.more u tree.none))) (compound a ds) locs loc l (is, each) good left q e =
          connective_agrees disjunction or_decides t u ds locs loc l is.0 each good left q e
      level_agrees_at (op implication (tree.more t (tree.more u tree.none))) (compound a ds) locs loc l (is, each) good left q e =
          connective_agrees implication imp_decides t u ds locs loc l is.0 each good left q e
      level_agrees_at (op conjunction tree.none) (compound a ds) locs loc l (is, each) good left q e = operation_agrees conjunction tree.none ds locs loc l each good left q e
      level_agrees_at (op conjunction (tree.more t tree.none)) (compound a ds) locs loc l (is, each) good left q e = operation_agrees conjunction (tree.more t tree.none) ds locs loc l each good left q e
      level_agrees_at (op conjunction (tree.more t (tree.more u (tree.more v ts)))) (compound a ds) locs loc l (is, each) good left q e = operation_agrees conjunction (tree.more t (tree.more u (tree.more v ts))) ds locs loc l each good left q e
      level_agrees_at (op disjunction tree.none) (compound a ds) locs loc l (is, each) good left q e = operation_agrees disjunction tree.none ds locs loc l each good left q e
      level_agrees_at (op disjunction (tree.more t tree.none)) (compound a ds) locs loc l (is, each) good left q e = operation_agrees disjunction (tree.more t tree.none) ds locs loc l each good left q e
      level_agrees_at (op disjunction (tree.more t (tree.more u (tree.more v ts)))) (compound a ds) locs loc l (is, each) good left q e = operation_agrees disjunction (tree.more t (tree.more u (tree.more v ts))) ds locs loc l each good left q e
      level_agrees_at (op implication tree.none) (compound a ds) locs loc l (is, each) good left q e = operation_agrees implication tree.none ds locs loc l each good left q e
      level_agrees_at (op implication (tree.more t tree.none)) (compound a ds) locs loc l (is, each) good left q e = operation_agrees implication (tree.more t tree.none) ds locs loc l each good left q e
      level_agrees_at (op implication (tree.more t (tree.more u (tree.more v ts)))) (compound a ds) locs loc l (is, each) good left q e = operation_agrees implication (tree.more t (tree.more u (tree.more v ts))) ds locs loc l each good left q e
      level_agrees_at (op negation ts) (compound a ds) locs loc l (is, each) good left q e = operation_agrees negation ts ds locs loc l each good left q e
      level_agrees_at (op successor ts) (compound a ds) locs loc l (is, each) good left q e = operation_agrees successor ts ds locs loc l each good left q e
      level_agrees_at (op equality ts) (compound a ds) locs loc l (is, each) good left q e = operation_agrees equality ts ds locs loc l each good left q e
      level_agrees_at (op less ts) (compound a ds) locs loc l (is, each) good left q e = operation_agrees less ts ds locs loc l each good left q e
      level_agrees_at (op less_equal ts) (compound a ds) locs loc l (is, each) good left q e = operation_agrees less_equal ts ds locs loc l each good left q e
      level_agrees_at (op plus ts) (compound a ds) locs loc l (is, each) good left q e = operation_agrees plus ts ds locs loc l each good left q e
      level_agrees_at (op minus ts) (compound a ds) locs loc l (is, each) good left q e = operation_agrees minus ts ds locs loc l each good left q e
      level_agrees_at (op times ts) (compound a ds) locs loc l (is, each) good left q e = operation_agrees times ts ds locs loc l each good left q e
      level_agrees_at (op divide ts) (compound a ds) locs loc l (is, each) good left q e = operation_agrees divide ts ds locs loc l each good left q e
      level_agrees_at (op modulo ts) (compound a ds) locs loc l (is, each) good left q e = operation_agrees modulo ts ds locs loc l each good left q e
      level_agrees_at (op (unnamed n) ts) (compound a ds) locs loc l h good left q e = absurd h.0
      level_agrees_at (con c ts) g locs loc l h good left q e = absurd h
      level_agrees_at (call f ts) g locs loc l h good left q e = absurd h
      level_agrees_at (put ts) g locs loc l h good left q e = absurd h
      level_agrees_at (choice ts) g locs loc l h good left q e = absurd h
      level_agrees_at (case n t bs) g locs loc l h good left q e = absurd h
      level_agrees_at (bind t body) g locs loc l h good left q e = absurd h
      level_agrees_at (op o ts) g locs loc l h good left q e = absurd h

    level_agrees : Agrees (level_by th answer ev)
    level_agrees us vars locs env loc t u typed_env l (g, h, e') good left q e = level_agrees_at us vars env typed_env t g locs loc l h good left q e

  pub limited_agrees : (levels : ℕ) → Agrees (limited th answer levels)
  unfolding limited
  limited_agrees zero us vars locs env loc t u typed_env l h good left q e = absurd (nothing_is_some e)
  limited_agrees (suc levels) us vars locs env loc t u typed_env l h good left q e =
      level_agrees (limited th answer levels) (limited_agrees levels) us vars locs env loc t u typed_env l h good left q e
