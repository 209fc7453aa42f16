-- The least value of a type, as the code finds it.
use Rattle.std.proofs.Common.{ℕ, zero, suc, ◌≡◌, ◌<◌, ◌≤◌, ◌+◌, ◌⊎◌, Bool, true, false, not, nat_eq, List, [], ◌∷◌, map, length, Option, Some, None, refl, sym, ◌∙◌, ap, inl, inr, arith, if◌then◌else◌}
use Rattle.std.specs.Prelude.{slice_get, option_map}
use Rattle.std.specs.List.{list_any}
use Rattle.std.specs.Option.{option_map_or}
use Rattle.std.proofs.lemmas.Bool.Decides.{eqb_tells, leb_tells}
use Rattle.std.proofs.lemmas.List.{length-map}
use Rattle.std.proofs.lemmas.Option.{slice_get-map}
use Rattle.tg_model.specs.Types.{Ty, parameter, applied, tys}
use Rattle.tg_model.specs.Value as model
use Rattle.tg_model.specs.Value.{wrong, made, values, boolean}
use Rattle.tg_model.specs.Theory.{Datatype, Constructor, numbered, first_constructor, datatype_of}
use Rattle.tg_model.specs.Typing.{least_at, all_least, least_below, base_constructor}
use Rattle.tg_accept.specs.Faults.{is_base}
use Rattle.tg_types.specs.declared.types.Ty as declared
use Rattle.tg_types.specs.Types.{ty}
use Rattle.tg_term.specs.declared.values.Value.{Value}
use Rattle.tg_term.specs.declared.values.Value.TheVariants.{Bool as BoolValue, Con}
use Rattle.tg_term.specs.Values.{value, value-Bool, value-Con}
use Rattle.tg_declarations.specs.declared.definitions.ConDef.{ConDef}
use Rattle.tg_declarations.specs.declared.definitions.DataDef.{DataDef}
use Rattle.tg_declarations.specs.Owners.{numbers_from}
use Rattle.tg_declarations.specs.View.{constructor, datatype, constructor_numbers}
use Rattle.tg_theory.specs.Bases.{first_base}

equal_yes : (m n : ℕ) → m ≡ n → nat_eq m n ≡ true
equal_yes m n e = elim (eqb_tells m n) [ inl p ↦ p.0 | inr p ↦ absurd (p.1 e) ]

equal_no : (m n : ℕ) → ¬ (m ≡ n) → nat_eq m n ≡ false
equal_no m n e = elim (eqb_tells m n) [ inl p ↦ absurd (e p.1) | inr p ↦ p.0 ]

-- ---- parameters

module _ (L : ℕ → List model.Value → model.Value) (params : List Value) (n : ℕ) where
  at_parameter : (m : ℕ) → numbered (map value params) m ≡ option_map value (numbered params m)
  at_parameter zero = refl
  at_parameter (suc k) = slice_get-map value params k

  pub parameter_there : (v w : Value) → Some v ≡ numbered params n → w ≡ v → value w ≡ least_at L (map value params) (parameter n)
  parameter_there v w e same =
      ap value same ∙ ap (λ o. option_map_or (λ x. x) o wrong) (ap (option_map value) e ∙ sym (at_parameter n))

  pub parameter_missing : None ≡ numbered params n → value (BoolValue false) ≡ least_at L (map value params) (parameter n)
  parameter_missing e = value-Bool false ∙ ap (λ o. option_map_or (λ x. x) o wrong) (ap (option_map value) e ∙ sym (at_parameter n))

-- ---- lists

all_of : (L : ℕ → List model.Value → model.Value) (vs : List model.Value) (us : List Ty) → all_least L vs (tys us) ≡ map (least_at L vs) us
all_of L vs [] = refl
all_of L vs (u ∷ us) = ap (λ l. least_at L vs u ∷ l) (all_of L vs us)

pub least_of_data : (ds : List Datatype) (n d : ℕ) (vs : List model.Value) (ts : List declared.Ty) (args : List Value) (v : Value)
    → map value args ≡ map (least_at (least_below ds n) vs) (map ty ts) → value v ≡ least_below ds n d (map value args)
    → value v ≡ least_at (least_below ds n) vs (applied d (tys (map ty ts)))
least_of_data ds n d vs ts args v e f = f ∙ ap (least_below ds n d) (e ∙ sym (all_of (least_below ds n) vs (map ty ts)))

-- ---- datatypes

none_at_zero : (ds : List Datatype) (n : ℕ) (vs : List model.Value) → least_below ds n 0 vs ≡ wrong
none_at_zero ds zero vs = refl
none_at_zero ds (suc n) vs =
    ap (λ b. if b then option_map_or (λ (x : Datatype). option_map_or (λ (p : ℕ × Constructor). made p.0 (values (map (least_at (least_below ds n) vs) p.1.arguments)))
    (base_constructor 0 (first_constructor ds 0) x.constructors) wrong) (numbered ds 0) wrong else least_below ds n 0 vs) (equal_no 0 (suc n) (λ e. omega (arith, e)))
    ∙ none_at_zero ds n vs

none_above : (ds : List Datatype) (n d : ℕ) (vs : List model.Value) → n < d → least_below ds n d vs ≡ wrong
none_above ds zero d vs h = refl
none_above ds (suc n) d vs h =
    ap (λ b. if b then option_map_or (λ (x : Datatype). option_map_or (λ (p : ℕ × Constructor). made p.0 (values (map (least_at (least_below ds n) vs) p.1.arguments)))
    (base_constructor d (first_constructor ds d) x.constructors) wrong) (numbered ds d) wrong else least_below ds n d vs) (equal_no d (suc n) (λ e. omega (arith, h, e)))
    ∙ none_above ds n d vs (omega (arith, h))

pub least_none : (ds : List Datatype) (n d : ℕ) (vs : List model.Value) → d ≡ 0 → value (BoolValue false) ≡ least_below ds n d vs
least_none ds n d vs e = value-Bool false ∙ sym (none_at_zero ds n vs) ∙ ap (λ k. least_below ds n k vs) (sym e)

pub least_above : (ds : List Datatype) (n d : ℕ) (vs : List model.Value) → n < d → value (BoolValue false) ≡ least_below ds n d vs
least_above ds n d vs h = value-Bool false ∙ sym (none_above ds n d vs h)

abbrev step : (d c : ℕ) (x : Constructor) (cs : List Constructor) (b : Bool) → Option (ℕ × Constructor)
step d c x cs b = if b then base_constructor d (suc c) cs else Some (c, x)

no_base_step : (d c : ℕ) (x : Constructor) (cs : List Constructor) (b : Bool) → (first_base d cs ≡ None → base_constructor d (suc c) cs ≡ None)
    → (if not b then Some 0 else option_map suc (first_base d cs)) ≡ None → step d c x cs b ≡ None
no_base_step d c x cs false rest p = cc p
no_base_step d c x cs true rest p = rest (none (first_base d cs) p)
  where
    none : (o : Option ℕ) → option_map suc o ≡ None → o ≡ None
    none None e = refl
    none (Some i) e = cc e

no_base : (d c : ℕ) (cs : List Constructor) → first_base d cs ≡ None → base_constructor d c cs ≡ None
no_base d c [] p = refl
no_base d c (x ∷ cs) p = no_base_step d c x cs (list_any (λ t. nat_eq (datatype_of t) d) x.arguments) (no_base d (suc c) cs) p

base_found_step : (d c : ℕ) (x : Constructor) (cs : List Constructor) (b : Bool) (i : ℕ) (k : Constructor)
    → ((j : ℕ) → first_base d cs ≡ Some j → slice_get cs j ≡ Some k → base_constructor d (suc c) cs ≡ Some (suc c + j, k))
    → (if not b then Some 0 else option_map suc (first_base d cs)) ≡ Some i → slice_get (x ∷ cs) i ≡ Some k → step d c x cs b ≡ Some (c + i, k)
base_found_step d c x cs false zero k rest p at = let e : x ≡ k = cc at in let z : c ≡ c + 0 = omega arith in λ j. Some (z j, e j)
base_found_step d c x cs false (suc i) k rest p at = cc p
base_found_step d c x cs true zero k rest p at = absurd (never (first_base d cs) p)
  where
    never : (o : Option ℕ) → option_map suc o ≡ Some 0 → ⊥
    never None e = cc e
    never (Some i) e = let q : suc i ≡ 0 = cc e in omega (arith, q)
base_found_step d c x cs true (suc i) k rest p at =
    let n : suc c + i ≡ c + suc i = omega arith in rest i (less (first_base d cs) p) at ∙ ap (λ m. Some (m, k)) n
  where
    less : (o : Option ℕ) → option_map suc o ≡ Some (suc i) → o ≡ Some i
    less None e = cc e
    less (Some j) e = let q : suc j ≡ suc i = cc e in let r : j ≡ i = omega (arith, q) in ap Some r

base_found : (d c : ℕ) (cs : List Constructor) (i : ℕ) (k : Constructor) → first_base d cs ≡ Some i → slice_get cs i ≡ Some k → base_constructor d c cs ≡ Some (c + i, k)
base_found d c [] i k p at = cc p
base_found d c (x ∷ cs) i k p at =
    base_found_step d c x cs (list_any (λ t. nat_eq (datatype_of t) d) x.arguments) i k (λ j e f. base_found d (suc c) cs j k e f) p at

number_at : (c count i number : ℕ) → slice_get (numbers_from c count) i ≡ Some number → number ≡ c + i
number_at c zero i number e = cc e
number_at c (suc count) zero number e = let q : c ≡ number = cc e in omega (arith, q)
number_at c (suc count) (suc i) number e = let q = number_at (suc c) count i number e in omega (arith, q)

-- a place that is found is one
pub place_of_base : (d : ℕ) (cs : List ConDef) (i : ℕ) → Some i ≡ first_base d (map constructor cs) → i < length cs
place_of_base d cs i e = by cs i (sym e)
  where
    by : (cs : List ConDef) (i : ℕ) → first_base d (map constructor cs) ≡ Some i → i < length cs
    by [] i p = cc p
    by (c ∷ cs) i p = at (is_base d (map ty c.args)) i p (by cs)
      where
        at : (b : Bool) (i : ℕ) → (if b then Some 0 else option_map suc (first_base d (map constructor cs))) ≡ Some i
            → ((j : ℕ) → first_base d (map constructor cs) ≡ Some j → j < length cs) → i < suc (length cs)
        at true i p rest = let q : 0 ≡ i = cc p in omega (arith, q)
        at false i p rest = under (first_base d (map constructor cs)) i p rest
          where
            under : (o : Option ℕ) (i : ℕ) → option_map suc o ≡ Some i → ((j : ℕ) → o ≡ Some j → j < length cs) → i < suc (length cs)
            under None i p rest = cc p
            under (Some j) i p rest = let q : suc j ≡ i = cc p in let l = rest j refl in omega (arith, q, l)

module _ (ds : List Datatype) (d : ℕ) (vs : List model.Value) where
  abbrev Of : ℕ → Option (ℕ × Constructor) → model.Value
  Of k o = option_map_or (λ (p : ℕ × Constructor). made p.0 (values (map (least_at (least_below ds k) vs) p.1.arguments))) o wrong

  abbrev Base : ℕ → Option Datatype → model.Value
  Base k o = option_map_or (λ (x : Datatype). Of k (base_constructor d (first_constructor ds d) x.constructors)) o wrong

  reached : (n k : ℕ) → d ≡ suc k → d ≤ n → least_below ds n d vs ≡ Base k (numbered ds d)
  reached zero k e h = absurd (omega (arith, e, h))
  reached (suc n) k e h = elim (eqb_tells d (suc n)) [
    | inl p ↦ ap (λ b. if b then Base n (numbered ds d) else least_below ds n d vs) p.0
        ∙ ap (λ j. Base j (numbered ds d)) (let q : n ≡ k = omega (arith, p.1, e) in q)
    | inr p ↦ ap (λ b. if b then Base n (numbered ds d) else least_below ds n d vs) p.0 ∙ reached n k e (below (p.1))
  ]
    where
      below : ¬ (d ≡ suc n) → d ≤ n
      below q = elim (le_or d n) [ inl a ↦ a | inr b ↦ absurd (q (omega (arith, h, b))) ]
        where
          le_or : (a b : ℕ) → (a ≤ b) ⊎ (b < a)
          le_or a b = elim (leb_tells a b) [ inl x ↦ inl x.1 | inr x ↦ inr x.1 ]

  module _ (n k : ℕ) (e : d ≡ suc k) (h : d ≤ n) where
    pub undeclared : None ≡ numbered ds d → value (BoolValue false) ≡ least_below ds n d vs
    undeclared f = value-Bool false ∙ ap (Base k) f ∙ sym (reached n k e h)

    pub without_base : (def : DataDef) → Some (datatype def) ≡ numbered ds d → None ≡ first_base d (map constructor def.cons) → value (BoolValue false) ≡ least_below ds n d vs
    without_base def f g =
        value-Bool false ∙ ap (Of k) (sym (no_base d (first_constructor ds d) (map constructor def.cons) (sym g))) ∙ ap (Base k) f ∙ sym (reached n k e h)

    pub with_base : (def : DataDef) (i number : ℕ) (con : ConDef) (ws : List Value) → Some (datatype def) ≡ numbered ds d
        → Some i ≡ first_base d (map constructor def.cons) → slice_get def.cons i ≡ Some con → slice_get (constructor_numbers ds d) i ≡ Some number
        → map value ws ≡ map (least_at (least_below ds k) vs) (map ty con.args) → value (Con number ws) ≡ least_below ds n d vs
    with_base def i number con ws f g at numbers all =
        let found : slice_get (map constructor def.cons) i ≡ Some (constructor con) = slice_get-map constructor def.cons i ∙ ap (option_map constructor) at in
        let base = base_found d (first_constructor ds d) (map constructor def.cons) i (constructor con) (sym g) found in
        let own : slice_get (numbers_from (first_constructor ds d) (length (map constructor def.cons))) i ≡ Some number =
        ap (λ o. slice_get (option_map_or (λ (x : Datatype). numbers_from (first_constructor ds d) (length x.constructors)) o []) i) f ∙ numbers in
        let counted : number ≡ first_constructor ds d + i = number_at (first_constructor ds d) (length (map constructor def.cons)) i number own in
        value-Con number ws ∙ (λ j. made (counted j) (values (all j)))
        ∙ ap (Of k) (sym base) ∙ ap (Base k) f ∙ sym (reached n k e h)

numbers_there : (c count i : ℕ) → slice_get (numbers_from c count) i ≡ None → count ≤ i
numbers_there c zero i e = omega arith
numbers_there c (suc count) zero e = cc e
numbers_there c (suc count) (suc i) e = let q = numbers_there (suc c) count i e in omega (arith, q)

pub numbers_reach : (ds : List Datatype) (d i : ℕ) (def : DataDef) → Some (datatype def) ≡ numbered ds d → None ≡ slice_get (constructor_numbers ds d) i → length def.cons ≤ i
numbers_reach ds d i def f e =
    let own : slice_get (numbers_from (first_constructor ds d) (length (map constructor def.cons))) i ≡ None =
    ap (λ o. slice_get (option_map_or (λ (x : Datatype). numbers_from (first_constructor ds d) (length x.constructors)) o []) i) f ∙ sym e in
    let many = length-map def.cons constructor in
    let q = numbers_there (first_constructor ds d) (length (map constructor def.cons)) i own in
    omega (arith, q, many)

pub ruleset leasts = (parameter_there, parameter_missing, least_of_data, least_none, least_above)
