-- The leaves of a normal form, by induction on its splits.
use Rattle.std.proofs.Common.{◌≡◌, Bool, true, false, not, ◌&&◌, ◌||◌, List, [], ◌∷◌, ◌++◌, map, Option, Some, None, refl, ap, sym, ◌∙◌, subst}
use Rattle.std.specs.List.{list_all}
use Rattle.std.proofs.lemmas.List.Folds.{list_all-append}
use Rattle.std.proofs.lemmas.Option.{same_Some}
use Rattle.tg_model.specs.Tree.{Tree, one, negation, implication}
use Rattle.tg_model.specs.Types.{bool}
use Rattle.tg_model.specs.Value.{Value, boolean, same_value}
use Rattle.tg_model.specs.Theory.{Theory}
use Rattle.tg_model.specs.Denotation.{operated, den}
use Rattle.tg_model.specs.TermTyping.{IsTyped}
use Rattle.tg_model.specs.WellTyped.{IsWellTyped}
use Rattle.tg_model.specs.Accepted.{IsAccepted}
use Rattle.tg_model.specs.Calls.{has_call, EachPut}
use Rattle.tg_model.proofs.ClosedValues.{is_closed_value}
use Rattle.tg_model.proofs.Narrowing.{truth_has_one_type}
use Rattle.tg_accept.specs.Checks.{Each}
use Rattle.tg_rows.specs.Laws.{Setting, HaveValues}
use Rattle.tg_rows.specs.Rows.{denied}
use Rattle.tg_rows.proofs.Settings.{boolean_value, op_one, op_two}
use Rattle.tg_norm.specs.Normal.{Walked}
use Rattle.tg_norm.specs.Halves.{condition_of, replaced}
use Rattle.tg_norm.specs.Splits.{Splits, leaf, inner, implied, IsForm}
use Rattle.tg_norm.specs.Laws.{has_let, truth_at, SplitsKeep, IsOneSplit}
use Rattle.tg_norm.proofs.OneWalk.{one_walk}
use Rattle.tg_norm.proofs.Keeping.{form_kept}
use Rattle.tg_norm.proofs.KeepingInputs.{form_good}
use Rattle.tg_norm.proofs.MadeForms.{form_has_none}
use Rattle.tg_norm.proofs.ConditionTypes.{condition_typed}
use Rattle.tg_norm.proofs.ReplacedTerms.{replaced_typed, replaced_value}
use Rattle.tg_norm.proofs.InputHalves.{half_good, condition_good}

-- lists, item by item
each_append : {A : Type 0} (P : A → Type 0) (xs ys : List A) → Each P xs → Each P ys → Each P (xs ++ ys)
each_append P [] ys h k = k
each_append P (x ∷ xs) ys h k = (h.0, each_append P xs ys h.1 k)

each_map : {A B : Type 0} (P : A → Type 0) (Q : B → Type 0) (f : A → B) → ((x : A) → P x → Q (f x)) → (xs : List A) → Each P xs → Each Q (map f xs)
each_map P Q f g [] h = tt
each_map P Q f g (x ∷ xs) h = (g x h.0, each_map P Q f g xs h.1)

each_under : {A : Type 0} (K : Type 0) (P : A → Type 0) (xs : List A) → (K → Each P xs) → Each (λ x. K → P x) xs
each_under K P [] h = tt
each_under K P (x ∷ xs) h = (λ k. (h k).0, each_under K P xs (λ k. (h k).1))

-- a term has one normal form, and one list of leaves
one_form : (th : Theory) (t u v : Tree) → IsForm th t u → IsForm th t v → u ≡ v
one_form th t u v (w, is, e) (x, its, f) = sym e ∙ ap (λ (y : Walked). y.form) (one_walk th t w x is its) ∙ f

some_or_none : {A : Type 0} (o : Option Tree) (q : Tree) → o ≡ None → o ≡ Some q → A
some_or_none None q e f = absurd (cc f)
some_or_none (Some p) q e f = absurd (cc e)

pub one_split : IsOneSplit
one_split th t ls ms' (leaf c e) (leaf c' e') = e ∙ sym e'
one_split th t ls ms' (leaf c e) (inner q' u' v' ms'' ns' c' f' g' x' y' e') = some_or_none (condition_of t) q' c c'
one_split th t ls ms' (inner q u v ms ns c f g x y e) (leaf c' e') = some_or_none (condition_of t) q c' c
one_split th t ls ms' (inner q u v ms ns c f g x y e) (inner q' u' v' ms'' ns' c' f' g' x' y' e') =
    let same : q ≡ q' = same_Some q q' (sym c ∙ c') in
    let met : u' ≡ u = one_form th (replaced q true t) u' u (subst (λ r. IsForm th (replaced r true t) u') (sym same) f') f in
    let unmet : v' ≡ v = one_form th (replaced q false t) v' v (subst (λ r. IsForm th (replaced r false t) v') (sym same) g') g in
    let left : ms ≡ ms'' = one_split th u ms ms'' x (subst (λ r. Splits (IsForm th) r ms'') met x') in
    let right : ns ≡ ns' = one_split th v ns ns' y (subst (λ r. Splits (IsForm th) r ns') unmet y') in
    e ∙ (λ i. map (implied (same i)) (left i) ++ map (implied (denied (same i))) (right i)) ∙ sym e'

-- a value that is True
abbrev is_true : Value → Bool
is_true v = same_value (boolean true) v

denied_value : (v : Value) (a : Bool) → v ≡ boolean a → is_true (operated negation (v ∷ [])) ≡ not a
denied_value v a e = ap (λ x. is_true (operated negation (x ∷ []))) e

implied_value : (v w : Value) (a b : Bool) → v ≡ boolean a → w ≡ boolean b → is_true (operated implication (v ∷ w ∷ [])) ≡ (not (is_true v) || is_true w)
implied_value v w a b e f = (λ i. is_true (operated implication (e i ∷ f i ∷ []))) ∙ sym (λ i. not (is_true (e i)) || is_true (f i))

shared : (a x y : Bool) → ((a || x) && (a || y)) ≡ (a || (x && y))
shared true x y = refl
shared false x y = refl

or_true : (a : Bool) → true ≡ (a || true)
or_true true = refl
or_true false = refl

and_true : (a : Bool) → (a && true) ≡ a
and_true true = refl
and_true false = refl

module _ (th : Theory) (wt : IsWellTyped th) (n : Setting th) where
  -- without binders
  abbrev outside : Setting th
  outside = record {
    table = n.table;
    is_table = n.is_table;
    vars = n.vars;
    locs = [];
    env = n.env;
    loc = [];
    closed_vars = n.closed_vars;
    closed_locs = tt;
    typed_env = n.typed_env;
    typed_loc = tt;
  }

  abbrev Typed : Tree → Type 0
  Typed t = IsTyped th n.vars [] t bool

  abbrev value : Tree → Value
  value t = den th n.table n.env [] t

  abbrev true_ : Tree → Bool
  true_ t = truth_at th n.table n.env t

  condition_is : (s t q : Tree) → IsForm th s t → condition_of t ≡ Some q → Typed t → Typed q
  condition_is s t q (w, is, e) c h = condition_typed th n.vars [] t bool q (ap has_let (sym e) ∙ form_has_none th s w is) c h

  half_typed : (t q : Tree) (b : Bool) → Typed q → Typed t → Typed (replaced q b t)
  half_typed t q b k h = replaced_typed th n.vars q b (λ l s j. truth_has_one_type th wt n.vars l q s n.closed_vars k j) t [] bool h

  form_typed : (t u : Tree) → IsForm th t u → Typed t → Typed u
  form_typed t u (w, is, e) h = subst Typed e (form_kept th wt outside t w is bool h).1

  form_value : (t u : Tree) → IsForm th t u → Typed t → value t ≡ value u
  form_value t u (w, is, e) h = (form_kept th wt outside t w is bool h).0 ∙ ap value e

  implied_typed : (q t : Tree) → Typed q → Typed t → Typed (implied q t)
  implied_typed q t k h = op_two th wt outside implication q t bool bool bool k h (refl, refl)

  pub denied_typed : (q : Tree) → IsTyped th n.vars [] q bool → IsTyped th n.vars [] (denied q) bool
  denied_typed q k = op_one th wt outside negation q bool bool k (refl, refl)

  all_implied : (q : Tree) (ms : List Tree) → Typed q → Each Typed ms → list_all true_ (map (implied q) ms) ≡ (not (true_ q) || list_all true_ ms)
  all_implied q [] k h = or_true (not (true_ q))
  all_implied q (m ∷ ms) k h =
      let a = boolean_value th wt outside q k in
      let b = boolean_value th wt outside m h.0 in
      (λ i. implied_value (value q) (value m) a.0 b.0 a.1 b.1 i && all_implied q ms k h.1 i) ∙ shared (not (true_ q)) (true_ m) (list_all true_ ms)

  -- a half has the term's value where the condition has its truth value
  half_true : (t q u : Tree) (b : Bool) → IsForm th (replaced q b t) u → Typed q → Typed t → value q ≡ boolean b → true_ u ≡ true_ t
  half_true t q u b f k h e =
      ap is_true (sym (form_value (replaced q b t) u f (half_typed t q b k h))
      ∙ replaced_value th n.table n.env q b (λ l. is_closed_value th n.table n.vars n.env l q bool k ∙ e) t [])

  abbrev Kept : Tree → List Tree → Type 0
  Kept t ls = Each (λ l. IsTyped th n.vars [] l bool) ls × (list_all (truth_at th n.table n.env) ls ≡ truth_at th n.table n.env t)

  pub leaves_kept : (s t : Tree) (ls : List Tree) → IsForm th s t → Splits (IsForm th) t ls → IsTyped th n.vars [] t bool
      → Each (λ l. IsTyped th n.vars [] l bool) ls × (list_all (truth_at th n.table n.env) ls ≡ truth_at th n.table n.env t)
  leaves_kept s t ls is (leaf c e) h = subst (Kept t) (sym e) ((h, tt), and_true (true_ t))
  leaves_kept s t ls is (inner q u v ms ns c f g x y e) h =
      let k = condition_is s t q is c h in
      let j = denied_typed q k in
      let a = leaves_kept (replaced q true t) u ms f x (form_typed (replaced q true t) u f (half_typed t q true k h)) in
      let b = leaves_kept (replaced q false t) v ns g y (form_typed (replaced q false t) v g (half_typed t q false k h)) in
      let p = boolean_value th wt outside q k in
      let all : list_all true_ (map (implied q) ms ++ map (implied (denied q)) ns) ≡ ((not p.0 || true_ u) && (not (not p.0) || true_ v)) =
      list_all-append true_ (map (implied q) ms) (map (implied (denied q)) ns)
      ∙ (λ i. all_implied q ms k a.0 i && all_implied (denied q) ns j b.0 i)
      ∙ (λ i. (not (is_true (p.1 i)) || a.1 i) && (not (denied_value (value q) p.0 p.1 i) || b.1 i)) in
      subst (Kept t) (sym e) (
        each_append Typed (map (implied q) ms) (map (implied (denied q)) ns)
            (each_map Typed Typed (implied q) (λ m r. implied_typed q m k r) ms a.0)
            (each_map Typed Typed (implied (denied q)) (λ m r. implied_typed (denied q) m j r) ns b.0),
        all ∙ by p.0 p.1 (λ r. half_true t q u true f k h r) (λ r. half_true t q v false g k h r),
      )
    where
      by : (z : Bool) → value q ≡ boolean z → (value q ≡ boolean true → true_ u ≡ true_ t) → (value q ≡ boolean false → true_ v ≡ true_ t)
          → ((not z || true_ u) && (not (not z) || true_ v)) ≡ true_ t
      by true r k l = and_true (true_ u) ∙ k r
      by false r k l = l r

pub splits_keep : SplitsKeep
splits_keep th wt n s t ls is splits h = leaves_kept th wt n s t ls is splits h

-- Where the program calls of a normal form have the inputs `d`, `X` holds of each leaf: if it holds of a term whose program calls
-- have them, and of `q --> t` if it holds of `t` where `q` is True or has a program call.
module _ (th : Theory) (accepted : IsAccepted th) (n : Setting th) (d : List Value) (X : Tree → Type 0) where
  abbrev wt : IsWellTyped th
  wt = accepted.well_typed

  abbrev Good : Tree → Type 0
  Good = EachPut (HaveValues th n.table n.env d)

  abbrev Known : Tree → Type 0
  Known q = has_call q ≡ false → den th n.table n.env [] q ≡ boolean true

  form_inputs : (t u : Tree) → IsForm th t u → Good t → Good u
  form_inputs t u (w, is, e) g = subst Good e (form_good th accepted n.table n.env d t w is g)

  not_known : (q : Tree) → Typed th wt n q → Known (denied q) → has_call q ≡ false → den th n.table n.env [] q ≡ boolean false
  not_known q k h e =
      let p = boolean_value th wt (outside th wt n) q k in
      by p.0 p.1 (sym (ap (λ (v : Value). operated negation (v ∷ [])) p.1) ∙ h (ap (λ c. c || false) e))
    where
      by : (z : Bool) → den th n.table n.env [] q ≡ boolean z → boolean (not z) ≡ boolean true → den th n.table n.env [] q ≡ boolean false
      by true r f = absurd (cc f)
      by false r f = r

  pub splits_carry : ((t : Tree) → IsTyped th n.vars [] t bool → EachPut (HaveValues th n.table n.env d) t → X t)
      → ((q t : Tree) → IsTyped th n.vars [] q bool → EachPut (HaveValues th n.table n.env d) q
      → ((has_call q ≡ false → den th n.table n.env [] q ≡ boolean true) → X t) → X (implied q t))
      → (s t : Tree) (ls : List Tree) → IsForm th s t → Splits (IsForm th) t ls → IsTyped th n.vars [] t bool
      → EachPut (HaveValues th n.table n.env d) t → Each X ls
  splits_carry term under s t ls is (leaf c e) h g = subst (Each X) (sym e) (term t h g, tt)
  splits_carry term under s t ls is (inner q u v ms ns c f f' x y e) h g =
      let k = condition_is th wt n s t q is c h in
      let j = denied_typed th wt n q k in
      let own : Good q = condition_good (HaveValues th n.table n.env d) t q c g in
      let left : Each (λ m. Known q → X m) ms = each_under (Known q) X ms (λ r.
      splits_carry term under (replaced q true t) u ms f x (form_typed th wt n (replaced q true t) u f (half_typed th wt n t q true k h))
      (form_inputs (replaced q true t) u f (half_good th n.table n.env d q true r t g))) in
      let right : Each (λ m. Known (denied q) → X m) ns = each_under (Known (denied q)) X ns (λ r.
      splits_carry term under (replaced q false t) v ns f' y (form_typed th wt n (replaced q false t) v f' (half_typed th wt n t q false k h))
      (form_inputs (replaced q false t) v f' (half_good th n.table n.env d q false (not_known q k r) t g))) in
      subst (Each X) (sym e)
      (each_append X (map (implied q) ms) (map (implied (denied q)) ns)
      (each_map (λ m. Known q → X m) X (implied q) (λ m r. under q m k own r) ms left)
      (each_map (λ m. Known (denied q) → X m) X (implied (denied q)) (λ m r. under (denied q) m j (own, tt) r) ns right))
