-- The rows that put terms in for variables: `let`, `case`, and calls of functions.
use Rattle.std.proofs.Common.{ℕ, zero, suc, ◌≡◌, ◌+◌, ◌-◌, Bool, true, false, List, [], ◌∷◌, ◌++◌, map, reverse, length, Option, Some, None, refl, sym, ◌∙◌, ap, subst, nat_eq, nat_le, if◌then◌else◌, arith}
use Rattle.std.specs.Prelude.{slice_get, option_map}
use Rattle.std.specs.Option.{option_map_or}
use Rattle.std.proofs.lemmas.List.{length-map}
use Rattle.std.proofs.lemmas.Option.{slice_get-map}
use Rattle.tg_model.specs.Tree as tree
use Rattle.tg_model.specs.Tree.{Tree, Trees, Arms, literal, con, call, case, bind, op, one, elements, successor}
use Rattle.tg_model.specs.Types.{Ty, nat, applied, tys}
use Rattle.tg_model.specs.Value as value
use Rattle.tg_model.specs.Value.{Value, Values, number, made, values, wrong}
use Rattle.tg_model.specs.Theory.{Theory, Datatype, Constructor, first_constructor, instance}
use Rattle.tg_model.specs.Denotation.{World, value_in, values_in, branch_in, opened, operated, world}
use Rattle.tg_model.specs.TermTyping.{ArmTypings, leaf, instanced, compound, branching, binding, arm, AreArmTypings, IsTyped, AreListTyped, IsDatatype, datatype_at, constructor_arguments}
use Rattle.tg_model.specs.WellTyped.{IsWellTyped}
use Rattle.tg_model.specs.Walk.{instantiated}
use Rattle.tg_model.proofs.Numbering.{numbered_constructor}
use Rattle.tg_model.proofs.ValueTyping.{number_of as datatype_number, same_arguments}
use Rattle.tg_model.proofs.Keeping.{instantiation_keeps, instantiation_keeps_types}
use Rattle.tg_model.proofs.TheorySoundness.{world_first}
use Rattle.tg_rows.specs.Laws.{Setting}
use Rattle.tg_rows.specs.Parts.{only_if, and_then, unary, number_of, bind_of, case_of, made_of, branch_at}
use Rattle.tg_rows.specs.Rows.{let_sub, Opener, from_constructor, from_successor, place_of_literal, from_literal, entered, case_by}
use Rattle.tg_rows.proofs.PartForms.{some_same, some_if, then_some, unary_is, number_is, bind_is, case_is, made_is}
use Rattle.tg_rows.proofs.Settings.{value as value_of, Typed, literal_typed, Kept, Keeps, through}
use Rattle.tg_rows.proofs.NumberRows.{successor_value}
use Rattle.tg_rows.proofs.EqualityRows.{made_typed}
use Rattle.tg_rows.proofs.TypedLists.{values_map, listed_typed}

elements-values : (vs : List Value) → value.elements (values vs) ≡ vs
elements-values [] = refl
elements-values (v ∷ vs) = ap (λ l. v ∷ l) (elements-values vs)

branch_value : (w : World) (env loc : List Value) (arms : Arms) (k : ℕ) (p : ℕ × Tree) (vs : List Value) → branch_at arms k ≡ Some p
    → branch_in w env loc k vs arms ≡ (if nat_eq p.0 (length vs) then value_in w env (reverse vs ++ loc) p.1 else wrong)
branch_value w env loc tree.end k p vs e = cc e
branch_value w env loc (tree.arm m body arms) zero p vs e =
    let r : (m, body) ≡ p = some_same e in ap (λ (q : ℕ × Tree). if nat_eq q.0 (length vs) then value_in w env (reverse vs ++ loc) q.1 else wrong) r
branch_value w env loc (tree.arm m body arms) (suc k) p vs e = branch_value w env loc arms k p vs e

branch_typed : (th : Theory) (vars locs : List Ty) (u : Ty) (arms : Arms) (all : List (List Ty)) (ds : ArmTypings) (k : ℕ) (p : ℕ × Tree) (args : List Ty)
    → AreArmTypings th vars locs u arms all ds → branch_at arms k ≡ Some p → slice_get all k ≡ Some args → IsTyped th vars (reverse args ++ locs) p.1 u
branch_typed th vars locs u tree.end all ds k p args h e f = cc e
branch_typed th vars locs u (tree.arm m body arms) (ts ∷ rest) (arm ts' d ds) zero p args (count, q, r, s, others') e f =
    let body_is : (m, body) ≡ p = some_same e in
    let args_are : ts ≡ args = some_same f in
    subst (λ (x : Tree). IsTyped th vars (reverse args ++ locs) x u) (ap (λ (x : ℕ × Tree). x.1) body_is)
    (subst (λ (l : List Ty). IsTyped th vars (reverse l ++ locs) body u) args_are (d, r, s))
branch_typed th vars locs u (tree.arm m body arms) (ts ∷ rest) (arm ts' d ds) (suc k) p args (count, q, r, s, others') e f =
    branch_typed th vars locs u arms rest ds k p args others' e f
branch_typed th vars locs u (tree.arm m body arms) all ds k p args h e f = absurd h

module _ (th : Theory) (wt : IsWellTyped th) (n : Setting th) where
  abbrev v : Tree → Value
  v = value_of th wt n

  abbrev At : Tree → Ty → Type 0
  At = Typed th wt n

  abbrev w : World
  w = world th n.table

  abbrev vs : Trees → List Value
  vs ts = values_in w n.env n.loc ts

  abbrev AreAt : List Tree → List Ty → Type 0
  AreAt = AreListTyped th n.vars n.locs

  -- what an opener found is what the value opens to, at terms of the arguments' types
  pub record IsOpened (d : ℕ) (us : List Ty) (x : Tree) (k : ℕ) (ps : List Tree) : Type 0 where
    pub opens : opened d (first_constructor th.datatypes d) (v x) ≡ Some (k, map v ps)
    pub arguments : List Ty
    pub found : slice_get (constructor_arguments th d us) k ≡ Some arguments
    pub typed : AreAt ps arguments

  abbrev pub Opens : Opener → Type 0
  Opens opener = (d : ℕ) (us : List Ty) (x : Tree) (p : ℕ × List Tree) → IsDatatype th d us → At x (datatype_at d us) → opener d x ≡ Some p
      → IsOpened d us x p.0 p.1

  if_some : (b : Bool) (p : ℕ × List Value) → b ≡ true → (if b then Some p else None) ≡ Some p
  if_some true p e = refl
  if_some false p e = cc e

  pub constructor_opens : Opens (from_constructor th)
  constructor_opens d us x p is h e =
      let q = then_some (made_of x) (λ q. only_if (nat_le (first_constructor th.datatypes d) q.0) (q.0 - first_constructor th.datatypes d, elements q.1)) p e in
      let r = some_if (nat_le (first_constructor th.datatypes d) q.0.0) (q.0.0 - first_constructor th.datatypes d, elements q.0.1) p q.2 in
      subst (λ (y : Tree). IsOpened d us y p.0 p.1) (sym (made_is x q.0 q.1))
      (subst (λ (y : ℕ × List Tree). IsOpened d us (con q.0.0 q.0.1) y.0 y.1) r.1
      (by d us q.0.0 q.0.1 is (subst (λ y. At y (datatype_at d us)) (made_is x q.0 q.1) h) r.0))
    where
      by : (d : ℕ) (us : List Ty) (c : ℕ) (ts : Trees) → IsDatatype th d us → At (con c ts) (datatype_at d us) → nat_le (first_constructor th.datatypes d) c ≡ true
          → IsOpened d us (con c ts) (c - first_constructor th.datatypes d) (elements ts)
      by zero us c ts is h low = let m = made_typed th wt n c ts nat h in let e : nat ≡ applied m.owned.datatype (tys m.instanced_at) = m.type in absurd (no_data m.owned.datatype (tys m.instanced_at) e)
        where
          no_data : (k : ℕ) (l : _) → nat ≡ applied k l → ⊥
          no_data k l e = cc
      by (suc d) us c ts (x, is, count) h low =
          let m = made_typed th wt n c ts (applied (suc d) (tys us)) h in
          let place = numbered_constructor th c m.owned m.is in
          let same : suc d ≡ m.owned.datatype = ap datatype_number m.type in
          let at : place.place ≡ d = omega (arith, place.number, same) in
          let args : us ≡ m.instanced_at = same_arguments (suc d) m.owned.datatype us m.instanced_at m.type in
          let datatype : x ≡ place.datatype = some_same (sym is ∙ (ap (slice_get th.datatypes) (sym at) ∙ place.is)) in
          let first = first_constructor th.datatypes (suc d) in
          let constructor : slice_get x.constructors (c - first) ≡ Some m.owned.constructor =
          ap (λ (y : Datatype). slice_get y.constructors (c - first)) datatype
          ∙ (ap (λ k. slice_get place.datatype.constructors (c - first_constructor th.datatypes (suc k))) (sym at) ∙ place.constructor) in
          record {
            opens = if_some (nat_le first c) (c - first, value.elements (values (vs ts))) low
                ∙ ap (λ l. Some (c - first, l)) (elements-values (vs ts) ∙ values_map w n.env n.loc ts);
            arguments = map (instance us) m.owned.constructor.arguments;
            found = ap (λ (o : Option Datatype). slice_get (option_map_or (λ (y : Datatype). map (λ (k : Constructor). map (instance us) k.arguments) y.constructors) o []) (c - first)) is
                ∙ (slice_get-map (λ (k : Constructor). map (instance us) k.arguments) x.constructors (c - first)
                ∙ ap (option_map (λ (k : Constructor). map (instance us) k.arguments)) constructor);
            typed = subst (λ l. AreAt (elements ts) (map (instance l) m.owned.constructor.arguments)) (sym args)
                (listed_typed th n.vars n.locs ts (map (instance m.instanced_at) m.owned.constructor.arguments) m.arguments);
          }

  opened_successor : (f i : ℕ) → opened 0 f (number (i + 1)) ≡ Some (1, number i ∷ [])
  opened_successor f i = let e : i + 1 ≡ suc i = omega arith in ap (λ k. opened 0 f (number k)) e

  pub successor_opens : Opens from_successor
  successor_opens d us x p is h e =
      let q = then_some (unary successor x) (λ a. Some (1, a ∷ [])) p e in
      let r : (1, q.0 ∷ []) ≡ p = some_same q.2 in
      subst (λ (y : Tree). IsOpened d us y p.0 p.1) (sym (unary_is successor x q.0 q.1))
      (subst (λ (y : ℕ × List Tree). IsOpened d us (op successor (one q.0)) y.0 y.1) r
      (by d us q.0 (subst (λ y. At y (datatype_at d us)) (unary_is successor x q.0 q.1) h)))
    where
      by : (d : ℕ) (us : List Ty) (a : Tree) → At (op successor (one a)) (datatype_at d us) → IsOpened d us (op successor (one a)) 1 (a ∷ [])
      by zero us a h =
          let s = successor_value th wt n a nat h in record {
            opens = ap (λ y. opened 0 (first_constructor th.datatypes 0) (operated successor (y ∷ []))) s.2.1
                ∙ (opened_successor (first_constructor th.datatypes 0) s.2.0 ∙ ap (λ y. Some (1, y ∷ [])) (sym s.2.1));
            arguments = nat ∷ [];
            found = refl;
            typed = (s.1, tt);
          }
      by (suc d) us a h = let s = successor_value th wt n a (applied (suc d) (tys us)) h in let e : applied (suc d) (tys us) ≡ nat = s.0 in absurd (no_data (suc d) (tys us) e)
        where
          no_data : (k : ℕ) (l : _) → applied k l ≡ nat → ⊥
          no_data k l e = cc

  pub literal_opens : Opens from_literal
  literal_opens d us x p is h e =
      let q = then_some (number_of x) (λ i. Some (place_of_literal i)) p e in
      let r : place_of_literal q.0 ≡ p = some_same q.2 in
      subst (λ (y : Tree). IsOpened d us y p.0 p.1) (sym (number_is x q.0 q.1))
      (subst (λ (y : ℕ × List Tree). IsOpened d us (literal q.0) y.0 y.1) r
      (by d us q.0 (subst (λ y. At y (datatype_at d us)) (number_is x q.0 q.1) h)))
    where
      by : (d : ℕ) (us : List Ty) (i : ℕ) → At (literal i) (datatype_at d us) → IsOpened d us (literal i) (place_of_literal i).0 (place_of_literal i).1
      by zero us zero h = record { opens = refl; arguments = []; found = refl; typed = tt }
      by zero us (suc i) h = record { opens = refl; arguments = nat ∷ []; found = refl; typed = (literal_typed th wt n i, tt) }
      by (suc d) us i (leaf t, h, e) = let f : nat ≡ applied (suc d) (tys us) = sym h ∙ e in absurd (no_data (suc d) (tys us) f)
        where
          no_data : (k : ℕ) (l : _) → nat ≡ applied k l → ⊥
          no_data k l e = cc
      by (suc d) us i (instanced vs t ds, h, e) = absurd h
      by (suc d) us i (compound t ds, h, e) = absurd h
      by (suc d) us i (branching vs t g arms, h, e) = absurd h
      by (suc d) us i (binding x t g g', h, e) = absurd h

  pub let_sub_keeps : Keeps th wt n let_sub
  let_sub_keeps t u a e h =
      let p = then_some (bind_of t) (λ p. Some (instantiated (p.0 ∷ []) p.1)) u e in
      through th wt n t (bind p.0.0 p.0.1) u (instantiated (p.0.0 ∷ []) p.0.1) a (bind_is t p.0 p.1) (some_same p.2) (by p.0.0 p.0.1 a) h
    where
      by : (x body : Tree) (a : Ty) → At (bind x body) a → Kept th wt n (bind x body) (instantiated (x ∷ []) body) a
      by x body a (binding s r d g, (p, q, b, k), e) = (
        sym (instantiation_keeps th n.table n.env n.loc (x ∷ []) body),
        instantiation_keeps_types th n.vars n.locs (s ∷ []) (x ∷ []) body a ((d, p, sym q), tt) (g, b, sym k ∙ e),
      )
      by x body a (leaf t, h, e) = absurd h
      by x body a (instanced us t ds, h, e) = absurd h
      by x body a (compound t ds, h, e) = absurd h
      by x body a (branching us t d arms, h, e) = absurd h

  pub case_keeps : (opener : Opener) → Opens opener → Keeps th wt n (case_by opener)
  case_keeps opener opens t u a e h =
      let p = then_some (case_of t) (λ p. and_then (opener p.0 p.1) (λ q. and_then (branch_at p.2 q.0) (entered q.1))) u e in
      let q = then_some (opener p.0.0 p.0.1) (λ q. and_then (branch_at p.0.2 q.0) (entered q.1)) u p.2 in
      let r = then_some (branch_at p.0.2 q.0.0) (entered q.0.1) u q.2 in
      let s = some_if (nat_eq r.0.0 (length q.0.1)) (instantiated q.0.1 r.0.1) u r.2 in
      through th wt n t (case p.0.0 p.0.1 p.0.2) u (instantiated q.0.1 r.0.1) a (case_is t p.0 p.1) s.1
      (by p.0.0 p.0.1 p.0.2 q.0 r.0 q.1 r.1 s.0) h
    where
      by : (d : ℕ) (x : Tree) (arms : Arms) (q : ℕ × List Tree) (r : ℕ × Tree) → opener d x ≡ Some q → branch_at arms q.0 ≡ Some r → nat_eq r.0 (length q.1) ≡ true
          → At (case d x arms) a → Kept th wt n (case d x arms) (instantiated q.1 r.1) a
      by d x arms q r opened_as found long (branching us b g ds, (is, type, p, each), e) =
          let o = opens d us x q is (g, p, type) opened_as in
          let vs = map v q.1 in
          let longer : nat_eq r.0 (length vs) ≡ true = ap (λ k. nat_eq r.0 k) (length-map q.1 v) ∙ long in (
            ap (λ c. option_map_or (λ (y : ℕ × List Value). branch_in w n.env n.loc y.0 y.1 arms) (opened d c (v x)) wrong) (world_first th n.table (length th.functions) d)
                ∙ (ap (λ (k : Option (ℕ × List Value)). option_map_or (λ (y : ℕ × List Value). branch_in w n.env n.loc y.0 y.1 arms) k wrong) o.opens
                ∙ (branch_value w n.env n.loc arms q.0 r vs found
                ∙ (ap (λ c. if c then value_in w n.env (reverse vs ++ n.loc) r.1 else wrong) longer
                ∙ sym (instantiation_keeps th n.table n.env n.loc q.1 r.1)))),
            instantiation_keeps_types th n.vars n.locs o.arguments q.1 r.1 a o.typed
                (subst (λ (y : Ty). IsTyped th n.vars (reverse o.arguments ++ n.locs) r.1 y) e
                (branch_typed th n.vars n.locs b arms (constructor_arguments th d us) ds q.0 r o.arguments each found o.found)),
          )
      by d x arms q r opened_as found long (leaf t, h, e) = absurd h
      by d x arms q r opened_as found long (instanced us t ds, h, e) = absurd h
      by d x arms q r opened_as found long (compound t ds, h, e) = absurd h
      by d x arms q r opened_as found long (binding s t g g', h, e) = absurd h

  pub case_con_keeps : Keeps th wt n (case_by (from_constructor th))
  case_con_keeps = case_keeps (from_constructor th) constructor_opens

  pub case_suc_keeps : Keeps th wt n (case_by from_successor)
  case_suc_keeps = case_keeps from_successor successor_opens

  pub case_lit_keeps : Keeps th wt n (case_by from_literal)
  case_lit_keeps = case_keeps from_literal literal_opens
