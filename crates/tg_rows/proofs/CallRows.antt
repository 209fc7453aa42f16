-- The rows of calls: a call becomes its body at the arguments.
use Rattle.std.proofs.Common.{ℕ, zero, suc, ◌≡◌, List, [], ◌∷◌, ◌++◌, map, length, Option, Some, refl, sym, ◌∙◌, ap, subst}
use Rattle.std.specs.Prelude.{slice_get, option_map}
use Rattle.std.specs.Option.{option_map_or}
use Rattle.std.proofs.lemmas.List.{length-map}
use Rattle.std.proofs.lemmas.Option.{slice_get-map}
use Rattle.tg_model.specs.Tree as tree
use Rattle.tg_model.specs.Tree.{Tree, Trees, call, elements}
use Rattle.tg_model.specs.Types.{Ty}
use Rattle.tg_model.specs.Value.{Value}
use Rattle.tg_model.specs.Theory.{Theory, Function, Body, plain, recursive, numbered, first_constructor, instance, datatype_of}
use Rattle.tg_model.specs.Denotation.{values_in, opened, others, place_of, datatype_of_place, world, den}
use Rattle.tg_model.specs.TermTyping.{leaf, instanced, compound, branching, binding, IsTyped, AllTyped, AreListTyped, EachCall, datatype_at, constructor_arguments}
use Rattle.tg_model.specs.WellTyped.{IsWellTyped, IsBody, IsLower}
use Rattle.tg_model.specs.Walk.{substituted}
use Rattle.tg_model.proofs.Keeping.{substitution_keeps, substitution_keeps_types}
use Rattle.tg_model.proofs.Contexts.{contexts_grow}
use Rattle.tg_model.proofs.ClosedValues.{is_closed_value}
use Rattle.tg_model.proofs.InstanceTypings.{instance_keeps_types}
use Rattle.tg_model.proofs.Instances.{numbered_map}
use Rattle.tg_model.proofs.CallBodies.{definitions_are_bodies, recursions_are_bodies}
use Rattle.tg_model.proofs.CallSoundness.{datatype_of_at}
use Rattle.tg_model.proofs.TermSoundness.{datatype_instance, is_datatype_instance, arguments_composed, mapped_back}
use Rattle.tg_model.proofs.TheorySoundness.{case_at}
use Rattle.tg_rows.specs.Laws.{Setting}
use Rattle.tg_rows.specs.Parts.{and_then, called}
use Rattle.tg_rows.specs.Rows.{Opener, from_constructor, from_successor, from_literal, plain_body, recursive_body, unfold_def, unfold_by}
use Rattle.tg_rows.proofs.PartForms.{some_same, then_some, called_is}
use Rattle.tg_rows.proofs.Settings.{value, Typed, Kept, Keeps, through}
use Rattle.tg_rows.proofs.EqualityRows.{all_typed}
use Rattle.tg_rows.proofs.TypedLists.{values_map, map_append, map_others, listed_typed, append_typed, others_typed, typed_at_place, as_long}
use Rattle.tg_rows.proofs.BinderRows.{Opens, constructor_opens, successor_opens, literal_opens}

pub plain_is : (b : Body) (t : Tree) → plain_body b ≡ Some t → b ≡ plain t
plain_is (plain u) t e = ap plain (some_same e)
plain_is (recursive place cases) t e = cc e

pub recursive_is : (b : Body) (r : ℕ × List Tree) → recursive_body b ≡ Some r → b ≡ recursive r.0 r.1
recursive_is (plain u) r e = cc e
recursive_is (recursive place cases) r e =
    let p : (place, cases) ≡ r = some_same e in λ i. recursive (ap (λ (x : ℕ × List Tree). x.0) p i) (ap (λ (x : ℕ × List Tree). x.1) p i)

module _ (th : Theory) (wt : IsWellTyped th) (n : Setting th) where
  abbrev v : Tree → Value
  v = value th wt n

  abbrev At : Tree → Ty → Type 0
  At = Typed th wt n

  abbrev AreAt : List Tree → List Ty → Type 0
  AreAt = AreListTyped th n.vars n.locs

  abbrev vs : Trees → List Value
  vs ts = values_in (world th n.table) n.env n.loc ts

  -- a call that is typed: its function's instance, and its arguments
  record Called (ts : Trees) (a : Ty) (x : Function) : Type 0 where
    instanced_at : List Ty
    type : a ≡ instance instanced_at x.answer
    arguments : AreAt (elements ts) (map (instance instanced_at) x.arguments)

  call_typed : (f : ℕ) (ts : Trees) (a : Ty) (x : Function) → numbered th.functions f ≡ Some x → At (call f ts) a → Called ts a x
  call_typed f ts a x is (instanced us t ds, (y, found, count, q, args, each), e) =
      let same : y ≡ x = some_same (sym found ∙ is) in record {
        instanced_at = us;
        type = sym e ∙ (q ∙ ap (λ (z : Function). instance us z.answer) same);
        arguments = subst (λ (z : Function). AreAt (elements ts) (map (instance us) z.arguments)) same
            (listed_typed th n.vars n.locs ts (map (instance us) y.arguments) (subst (λ (l : List Ty). AllTyped th n.vars n.locs ts l) args (all_typed th wt n ts ds each)));
      }
  call_typed f ts a x is (leaf t, h, e) = absurd h
  call_typed f ts a x is (compound t ds, h, e) = absurd h
  call_typed f ts a x is (branching us t d arms, h, e) = absurd h
  call_typed f ts a x is (binding s t d g, h, e) = absurd h

  -- a body that is typed in its own context, at terms for its variables: its value and its type
  body_kept : (us vars : List Ty) (ps : List Tree) (body : Tree) (a : Ty) → AreAt ps (map (instance us) vars) → IsTyped th vars [] body a
      → (v (substituted ps body) ≡ den th n.table (map v ps) [] body) × At (substituted ps body) (instance us a)
  body_kept us vars ps body a typed h =
      let inst : IsTyped th (map (instance us) vars) [] body (instance us a) = instance_keeps_types th wt us vars [] body a h in (
        substitution_keeps th n.table n.env n.loc ps body ∙ is_closed_value th n.table vars (map v ps) n.loc body a h,
        substitution_keeps_types th n.vars n.locs (map (instance us) vars) ps body (instance us a) typed
            (subst (λ (l : List Ty). IsTyped th l n.locs body (instance us a)) (append_none (map (instance us) vars))
            (contexts_grow th (map (instance us) vars) [] [] n.locs body (instance us a) inst)),
      )
    where
      append_none : (l : List Ty) → l ++ [] ≡ l
      append_none [] = refl
      append_none (t ∷ l) = ap (λ m. t ∷ m) (append_none l)

  pub unfold_def_keeps : Keeps th wt n (unfold_def th)
  unfold_def_keeps t u a e h =
      let q = then_some (called t) (λ q. and_then (numbered th.functions q.0) (λ x. and_then (plain_body x.body) (λ u. Some (substituted (elements q.1) u)))) u e in
      let x = then_some (numbered th.functions q.0.0) (λ x. and_then (plain_body x.body) (λ u. Some (substituted (elements q.0.1) u))) u q.2 in
      let b = then_some (plain_body x.0.body) (λ u. Some (substituted (elements q.0.1) u)) u x.2 in
      through th wt n t (call q.0.0 q.0.1) u (substituted (elements q.0.1) b.0) a (called_is t q.0 q.1) (some_same b.2)
      (by q.0.0 q.0.1 x.0 b.0 x.1 (plain_is x.0.body b.0 b.1)) h
    where
      by : (f : ℕ) (ts : Trees) (x : Function) (body : Tree) → numbered th.functions f ≡ Some x → x.body ≡ plain body → At (call f ts) a
          → Kept th wt n (call f ts) (substituted (elements ts) body) a
      by zero ts x body is plainly k = cc is
      by (suc f) ts x body is plainly k =
          let c = call_typed (suc f) ts a x is k in
          let declared : IsBody th (suc f) x (plain body) = subst (λ (b : Body). IsBody th (suc f) x b) plainly (wt.functions (suc f) x is) in
          let kept = body_kept c.instanced_at x.arguments (elements ts) body x.answer c.arguments declared.1 in (
            definitions_are_bodies th n.table f x body (vs ts) is plainly declared.0
                ∙ (ap (λ l. den th n.table l [] body) (values_map (world th n.table) n.env n.loc ts) ∙ sym kept.0),
            subst (λ (y : Ty). At (substituted (elements ts) body) y) (sym c.type) kept.1,
          )

  pub unfold_keeps : (opener : Opener) → Opens th wt n opener → Keeps th wt n (unfold_by opener th)
  unfold_keeps opener opens t u a e h =
      let q = then_some (called t) (λ q. and_then (numbered th.functions q.0) (λ x. and_then (recursive_body x.body) (λ r.
      and_then (numbered (elements q.1) r.0) (λ a. and_then (opener (datatype_of_place x r.0) a) (λ p.
      and_then (slice_get r.1 p.0) (λ u. Some (substituted (others (elements q.1) r.0 ++ p.1) u))))))) u e in
      let x = then_some (numbered th.functions q.0.0) (λ x. and_then (recursive_body x.body) (λ r.
      and_then (numbered (elements q.0.1) r.0) (λ a. and_then (opener (datatype_of_place x r.0) a) (λ p.
      and_then (slice_get r.1 p.0) (λ u. Some (substituted (others (elements q.0.1) r.0 ++ p.1) u)))))) u q.2 in
      let r = then_some (recursive_body x.0.body) (λ r. and_then (numbered (elements q.0.1) r.0) (λ a. and_then (opener (datatype_of_place x.0 r.0) a) (λ p.
      and_then (slice_get r.1 p.0) (λ u. Some (substituted (others (elements q.0.1) r.0 ++ p.1) u))))) u x.2 in
      let y = then_some (numbered (elements q.0.1) r.0.0) (λ a. and_then (opener (datatype_of_place x.0 r.0.0) a) (λ p.
      and_then (slice_get r.0.1 p.0) (λ u. Some (substituted (others (elements q.0.1) r.0.0 ++ p.1) u)))) u r.2 in
      let p = then_some (opener (datatype_of_place x.0 r.0.0) y.0) (λ p. and_then (slice_get r.0.1 p.0) (λ u. Some (substituted (others (elements q.0.1) r.0.0 ++ p.1) u))) u y.2 in
      let b = then_some (slice_get r.0.1 p.0.0) (λ u. Some (substituted (others (elements q.0.1) r.0.0 ++ p.0.1) u)) u p.2 in
      through th wt n t (call q.0.0 q.0.1) u (substituted (others (elements q.0.1) r.0.0 ++ p.0.1) b.0) a (called_is t q.0 q.1) (some_same b.2)
      (by q.0.0 q.0.1 x.0 r.0.0 r.0.1 y.0 p.0 b.0 x.1 (recursive_is x.0.body r.0 r.1) y.1 p.1 b.1) h
    where
      by : (f : ℕ) (ts : Trees) (x : Function) (place : ℕ) (cases : List Tree) (y : Tree) (p : ℕ × List Tree) (body : Tree) → numbered th.functions f ≡ Some x
          → x.body ≡ recursive place cases → numbered (elements ts) place ≡ Some y → opener (datatype_of_place x place) y ≡ Some p → slice_get cases p.0 ≡ Some body
          → At (call f ts) a → Kept th wt n (call f ts) (substituted (others (elements ts) place ++ p.1) body) a
      by zero ts x place cases y p body is recursively at_place opened_as found k = cc is
      by (suc f) ts x place cases y p body is recursively at_place opened_as found k =
          let c = call_typed (suc f) ts a x is k in
          let us = c.instanced_at in
          let declared : IsBody th (suc f) x (recursive place cases) = subst (λ (b : Body). IsBody th (suc f) x b) recursively (wt.functions (suc f) x is) in
          let d = declared.0 in
          let number : datatype_of_place x place ≡ d = ap (λ (o : Option Ty). option_map_or datatype_of o 0) declared.2 ∙ datatype_of_at d declared.1 in
          let place_type : numbered (map (instance us) x.arguments) place ≡ Some (datatype_at d (map (instance us) declared.1)) =
          sym (numbered_map (instance us) x.arguments place) ∙ (ap (option_map (instance us)) declared.2 ∙ ap (λ (z : Ty). Some z) (datatype_instance us d declared.1)) in
          let y_typed : At y (datatype_at d (map (instance us) declared.1)) =
          typed_at_place th n.vars n.locs place (elements ts) (map (instance us) x.arguments) y (datatype_at d (map (instance us) declared.1)) c.arguments at_place place_type in
          let o = opens d (map (instance us) declared.1) y p (is_datatype_instance th us d declared.1 declared.3) y_typed (ap (λ z. opener z y) (sym number) ∙ opened_as) in
          let back = mapped_back (map (instance us)) (slice_get (constructor_arguments th d declared.1) p.0) o.arguments
          (sym (slice_get-map (map (instance us)) (constructor_arguments th d declared.1) p.0)
          ∙ (ap (λ l. slice_get l p.0) (sym (arguments_composed th us d declared.1)) ∙ o.found)) in
          let args = back.0 in
          let case_typed = case_at th (suc f) x place cases (constructor_arguments th d declared.1) p.0 args declared.4 back.1 in
          let same_body : case_typed.0 ≡ body = some_same (sym case_typed.1 ∙ found) in
          let each : EachCall (IsLower (suc f) place (length (others x.arguments place)) (length args)) body =
          subst (λ (z : Tree). EachCall (IsLower (suc f) place (length (others x.arguments place)) (length args)) z) same_body case_typed.2 in
          let typed_body : IsTyped th (others x.arguments place ++ args) [] body x.answer =
          subst (λ (z : Tree). IsTyped th (others x.arguments place ++ args) [] z x.answer) same_body case_typed.3 in
          let parts_typed : AreAt p.1 (map (instance us) args) = subst (λ (l : List Ty). AreAt p.1 l) (sym back.2) o.typed in
          let rest_typed : AreAt (others (elements ts) place) (map (instance us) (others x.arguments place)) =
          subst (λ (l : List Ty). AreAt (others (elements ts) place) l) (sym (map_others (instance us) x.arguments place))
          (others_typed th n.vars n.locs place (elements ts) (map (instance us) x.arguments) c.arguments) in
          let all_at : AreAt (others (elements ts) place ++ p.1) (map (instance us) (others x.arguments place ++ args)) =
          subst (λ (l : List Ty). AreAt (others (elements ts) place ++ p.1) l) (sym (map_append (instance us) (others x.arguments place) args))
          (append_typed th n.vars n.locs (others (elements ts) place) p.1 (map (instance us) (others x.arguments place)) (map (instance us) args) rest_typed parts_typed) in
          let kept = body_kept us (others x.arguments place ++ args) (others (elements ts) place ++ p.1) body x.answer all_at typed_body in
          let values : vs ts ≡ map v (elements ts) = values_map (world th n.table) n.env n.loc ts in
          let start : length (others (vs ts) place) ≡ length (others x.arguments place) =
          ap (λ l. length (others l place)) values ∙ (ap (λ (l : List Value). length l) (sym (map_others v (elements ts) place))
          ∙ (length-map (others (elements ts) place) v ∙ (as_long th n.vars n.locs (others (elements ts) place) (map (instance us) (others x.arguments place)) rest_typed
          ∙ length-map (others x.arguments place) (instance us)))) in
          let count : length (map v p.1) ≡ length args =
          length-map p.1 v ∙ (as_long th n.vars n.locs p.1 (map (instance us) args) parts_typed ∙ length-map args (instance us)) in
          let opened_value : opened (datatype_of_place x place) (first_constructor th.datatypes (datatype_of_place x place)) (place_of (vs ts) place) ≡ Some (p.0, map v p.1) =
          ap (λ z. opened z (first_constructor th.datatypes z) (place_of (vs ts) place)) number
          ∙ (ap (opened d (first_constructor th.datatypes d)) (argument ts place y at_place) ∙ o.opens) in (
            recursions_are_bodies th n.table f x place cases (vs ts) is recursively p.0 (map v p.1) body opened_value found
                (subst (λ z. EachCall (IsLower (suc f) place z (length (map v p.1))) body) (sym start)
                (subst (λ z. EachCall (IsLower (suc f) place (length (others x.arguments place)) z) body) (sym count) each))
                ∙ (ap (λ l. den th n.table l [] body) (ap (λ l. others l place ++ map v p.1) values
                ∙ (ap (λ l. l ++ map v p.1) (sym (map_others v (elements ts) place)) ∙ sym (map_append v (others (elements ts) place) p.1))) ∙ sym kept.0),
            subst (λ (z : Ty). At (substituted (others (elements ts) place ++ p.1) body) z) (sym c.type) kept.1,
          )
        where
          argument : (ts : Trees) (place : ℕ) (y : Tree) → numbered (elements ts) place ≡ Some y → place_of (vs ts) place ≡ v y
          argument ts zero y e = cc e
          argument tree.none (suc k) y e = cc e
          argument (tree.more t ts) (suc zero) y e = ap v (some_same e)
          argument (tree.more t ts) (suc (suc k)) y e = argument ts (suc k) y e

  pub unfold_con_keeps : Keeps th wt n (unfold_by (from_constructor th) th)
  unfold_con_keeps = unfold_keeps (from_constructor th) (constructor_opens th wt n)

  pub unfold_suc_keeps : Keeps th wt n (unfold_by from_successor th)
  unfold_suc_keeps = unfold_keeps from_successor (successor_opens th wt n)

  pub unfold_lit_keeps : Keeps th wt n (unfold_by from_literal th)
  unfold_lit_keeps = unfold_keeps from_literal (literal_opens th wt n)
