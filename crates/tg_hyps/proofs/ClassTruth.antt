-- What the formulas of classes and of a theory say on a table.
use Rattle.std.proofs.Common.{ℕ, zero, suc, ◌≡◌, ◌≤◌, ◌⊎◌, inl, inr, Bool, true, false, ◌||◌, List, [], ◌∷◌, ◌++◌, map, length, drop, Some, None, if◌then◌else◌, refl, sym, ◌∙◌, ap, ap₂, subst, arith, append-nil}
use Rattle.std.specs.Prelude.{slice_get, unwrap_or}
use Rattle.tg_model.specs.Tree.{Tree, Trees, disjunction, free}
use Rattle.tg_model.specs.Types.{Ty, bool, tys}
use Rattle.tg_model.specs.Value as value
use Rattle.tg_model.specs.Value.{Value, Values, number, boolean, made, values, elements, wrong, depth, IsShallow}
use Rattle.tg_model.specs.Theory.{Theory, AreClosed}
use Rattle.tg_model.specs.Typing.{HasType, AreTyped}
use Rattle.tg_model.specs.Table.{Table, IsTable, IsListed}
use Rattle.tg_model.specs.Denotation.{World, den, world, value_in, values_in, operated}
use Rattle.tg_model.specs.Formula.{Formula, atom, both, implies, thyp, tested, deep}
use Rattle.tg_model.specs.Truth.{Holds}
use Rattle.tg_model.specs.Closing.{universal_closure, existential_closure}
use Rattle.tg_model.specs.TermTyping.{IsTyped}
use Rattle.tg_model.specs.WellTyped.{IsWellTyped}
use Rattle.tg_model.proofs.CallSoundness.{soundness}
use Rattle.tg_model.proofs.ClosedTruth.{closure_is_universal, closure_is_existential}
use Rattle.tg_model.proofs.Keeping.{substitution_keeps_truth}
use Rattle.tg_model.proofs.Recorded.{inputs_are_typed}
use Rattle.tg_hyps.specs.Written.{term_of, terms_of, variables_from}
use Rattle.tg_hyps.specs.Hypotheses.{Class, some_of, both_all, if_all, checked, open_class_of, is_data, some_data, inputs_as_variables}
use Rattle.tg_hyps.specs.Meaning.{AllTrue, SomeTrue, inputs_at, IsTrueWhereTested, HasTrueMember, AreTruths, IsClassOf, OpenClassIsOfMembers, UniformityIsOfMembers, TestIsOfValues, RegularityIsOfDeep, NoneIsDeep, ConclusionIsSpecification}

-- ---- no variable but the values

nothing_dropped : (n : ℕ) → drop n (let xs : List Value = [] in xs) ≡ []
nothing_dropped zero = refl
nothing_dropped (suc n) = refl

these_alone : (vs : List Value) → vs ++ drop (length vs) [] ≡ vs
these_alone vs = ap (λ l. vs ++ l) (nothing_dropped (length vs)) ∙ append-nil vs

module _ (th : Theory) (tb : Table) (ts : List Ty) (f : Formula) where
  from_universal : Holds th tb [] [] (universal_closure ts f) → (vs : List Value) → AreTyped th vs ts → Holds th tb vs [] f
  from_universal h vs typed = subst (λ env. Holds th tb env [] f) (these_alone vs) ((closure_is_universal th tb [] [] ts f).0 h vs typed)

  to_universal : ((vs : List Value) → AreTyped th vs ts → Holds th tb vs [] f) → Holds th tb [] [] (universal_closure ts f)
  to_universal h =
      (closure_is_universal th tb [] [] ts f).1 (λ vs typed. subst (λ env. Holds th tb env [] f) (sym (these_alone vs)) (h vs typed))

  from_existential : Holds th tb [] [] (existential_closure ts f) → (vs : List Value) × AreTyped th vs ts × Holds th tb vs [] f
  from_existential h =
      let r = (closure_is_existential th tb [] [] ts f).0 h in
      (r.0, r.1, subst (λ env. Holds th tb env [] f) (these_alone r.0) r.2)

  to_existential : (vs : List Value) → AreTyped th vs ts → Holds th tb vs [] f → Holds th tb [] [] (existential_closure ts f)
  to_existential vs typed h =
      (closure_is_existential th tb [] [] ts f).1 (vs, typed, subst (λ env. Holds th tb env [] f) (sym (these_alone vs)) h)

-- ---- conditions

module _ (th : Theory) (tb : Table) (vs : List Value) where
  from_if : (cs : List Tree) (f : Formula) → Holds th tb vs [] (if_all cs f) → AllTrue th tb vs cs → Holds th tb vs [] f
  from_if [] f h all = h
  from_if (c ∷ cs) f h all = from_if cs f (h all.0) all.1

  to_if : (cs : List Tree) (f : Formula) → (AllTrue th tb vs cs → Holds th tb vs [] f) → Holds th tb vs [] (if_all cs f)
  to_if [] f h = h tt
  to_if (c ∷ cs) f h = λ first. to_if cs f (λ rest. h (first, rest))

  from_both : (cs : List Tree) (f : Formula) → Holds th tb vs [] (both_all cs f) → AllTrue th tb vs cs × Holds th tb vs [] f
  from_both [] f h = (tt, h)
  from_both (c ∷ cs) f h = let r = from_both cs f h.1 in ((h.0, r.0), r.1)

  to_both : (cs : List Tree) (f : Formula) → AllTrue th tb vs cs → Holds th tb vs [] f → Holds th tb vs [] (both_all cs f)
  to_both [] f all h = h
  to_both (c ∷ cs) f all h = (all.0, to_both cs f all.1 h)

-- ---- one of the checks

truth_value : (th : Theory) (v : Value) → HasType th v bool → (b : Bool) × (v ≡ boolean b)
truth_value th (number n) h = cc h
truth_value th (boolean b) h = (b, refl)
truth_value th (made c vs) (o, is, (us, e, typed)) = cc e

-- whether one of the terms is true, as their disjunction has it
abbrev Decides : Theory → Table → List Value → List Tree → Type 0
Decides th tb vs ts =
    (b : Bool) × (den th tb vs [] (some_of ts) ≡ boolean b) × (b ≡ true → SomeTrue th tb vs ts) × (SomeTrue th tb vs ts → b ≡ true)

same_boolean : (a b : Bool) → boolean a ≡ boolean b → a ≡ b
same_boolean a b e = cc e

or_cases : (a b : Bool) → (a || b) ≡ true → (a ≡ true) ⊎ (b ≡ true)
or_cases true b e = inl refl
or_cases false b e = inr e

or_right : (a b : Bool) → b ≡ true → (a || b) ≡ true
or_right true b e = refl
or_right false b e = e

module _ (th : Theory) (tb : Table) (well : IsWellTyped th) (table : IsTable th tb) (vars : List Ty) (closed : AreClosed th (tys vars)) (vs : List Value) (typed : AreTyped th vs vars) where
  pub value_of_truth : (t : Tree) → IsTyped th vars [] t bool → (b : Bool) × (den th tb vs [] t ≡ boolean b)
  value_of_truth t h = truth_value th (den th tb vs [] t) (soundness th tb well table vars [] vs [] t bool closed tt tt typed tt h)

  decide_some : (ts : List Tree) → AreTruths th vars ts → Decides th tb vs ts
  decide_some [] h = (false, refl, (λ e. cc e), (λ k. absurd k))
  decide_some (t ∷ []) h =
      let first = value_of_truth t h.0 in (
        first.0,
        first.1,
        (λ e. inl (first.1 ∙ ap boolean e)),
        (λ k. elim k [
          | inl is ↦ same_boolean first.0 true (sym first.1 ∙ is)
          | inr none ↦ absurd none
        ]),
      )
  decide_some (t ∷ (u ∷ us)) h =
      let first = value_of_truth t h.0 in
      let rest = decide_some (u ∷ us) h.1 in (
        first.0 || rest.0,
        ap₂ (λ (v w : Value). operated disjunction (v ∷ w ∷ [])) first.1 rest.1,
        (λ e. elim (or_cases first.0 rest.0 e) [
          | inl is ↦ inl (first.1 ∙ ap boolean is)
          | inr is ↦ inr (rest.2 is)
        ]),
        (λ k. elim k [
          | inl is ↦ ap (λ a. a || rest.0) (same_boolean first.0 true (sym first.1 ∙ is))
          | inr some ↦ or_right first.0 rest.0 (rest.3 some)
        ]),
      )

  pub from_checked : (ts : List Tree) → AreTruths th vars ts → den th tb vs [] (some_of ts) ≡ boolean true → SomeTrue th tb vs ts
  from_checked ts h e = let d = decide_some ts h in d.2 (same_boolean d.0 true (sym d.1 ∙ e))

  pub to_checked : (ts : List Tree) → AreTruths th vars ts → SomeTrue th tb vs ts → den th tb vs [] (some_of ts) ≡ boolean true
  to_checked ts h some = let d = decide_some ts h in d.1 ∙ ap boolean (d.3 some)

-- ---- classes

module _ (th : Theory) (tb : Table) (c : Class) (well : IsWellTyped th) (table : IsTable th tb) (of : IsClassOf th c) where
  from_open : Holds th tb [] [] (open_class_of c) → IsTrueWhereTested th tb c
  from_open h inputs listed vs member =
      let here = from_universal th tb c.variables (implies (tested c.inputs) (if_all c.constraints (checked c))) h vs member.typed (subst (IsListed tb) (sym member.is) listed) in
      from_checked th tb well table c.variables of.closed vs member.typed c.checks of.checks (from_if th tb vs c.constraints (checked c) here member.constraints)

  to_open : IsTrueWhereTested th tb c → Holds th tb [] [] (open_class_of c)
  to_open h =
      to_universal th tb c.variables (implies (tested c.inputs) (if_all c.constraints (checked c))) (λ vs typed listed.
      to_if th tb vs c.constraints (checked c) (λ all.
      to_checked th tb well table c.variables of.closed vs typed c.checks of.checks
      (h (inputs_at th tb vs c) listed vs (record { typed = typed; is = refl; constraints = all }))))

  from_some : Holds th tb [] [] (existential_closure c.variables (both (tested c.inputs) (both_all c.constraints (checked c)))) → HasTrueMember th tb c
  from_some h =
      let r = from_existential th tb c.variables (both (tested c.inputs) (both_all c.constraints (checked c))) h in
      let vs : List Value = r.0 in
      let all = from_both th tb vs c.constraints (checked c) r.2.1 in (
        inputs_at th tb vs c,
        r.2.0,
        (
          vs,
          record { typed = r.1; is = refl; constraints = all.0 },
          from_checked th tb well table c.variables of.closed vs r.1 c.checks of.checks all.1,
        ),
      )

  to_some : HasTrueMember th tb c → Holds th tb [] [] (existential_closure c.variables (both (tested c.inputs) (both_all c.constraints (checked c))))
  to_some (inputs, listed, (vs, member, some)) =
      to_existential th tb c.variables (both (tested c.inputs) (both_all c.constraints (checked c))) vs member.typed (
        subst (IsListed tb) (sym member.is) listed,
        to_both th tb vs c.constraints (checked c) member.constraints (to_checked th tb well table c.variables of.closed vs member.typed c.checks of.checks some),
      )

pub open_class_is_of_members : OpenClassIsOfMembers
open_class_is_of_members th tb c well table of = (from_open th tb c well table of, to_open th tb c well table of)

pub uniformity_is_of_members : UniformityIsOfMembers
uniformity_is_of_members th tb c well table of = (
  (λ h some. from_open th tb c well table of (h (to_some th tb c well table of some))),
  (λ h some. to_open th tb c well table of (h (from_some th tb c well table of some))),
)

-- ---- tests

module _ (w : World) (env : List Value) where
  mutual
    value_of_term : (v : Value) → value_in w env [] (term_of v) ≡ v
    value_of_term (number n) = refl
    value_of_term (boolean b) = refl
    value_of_term (made c vs) = ap (made c) (values_of_terms vs)

    values_of_terms : (vs : Values) → values (values_in w env [] (terms_of vs)) ≡ vs
    values_of_terms value.none = refl
    values_of_terms (value.more v vs) = ap₂ value.more (value_of_term v) (values_of_terms vs)

  values_put_in : (vs : List Value) → map (value_in w env []) (map term_of vs) ≡ vs
  values_put_in [] = refl
  values_put_in (v ∷ vs) = ap₂ (λ (x : Value) l. x ∷ l) (value_of_term v) (values_put_in vs)

pub test_is_of_values : TestIsOfValues
test_is_of_values th tb c well table of vs env typed =
    let f : Formula = both (tested c.inputs) (checked c) in
    let keeps = substitution_keeps_truth th tb env [] (map term_of vs) f in
    let same = values_put_in (world th tb) env vs in (
      (λ h. let here = subst (λ l. Holds th tb l [] f) same (keeps.0 h) in
          (here.0, from_checked th tb well table c.variables of.closed vs typed c.checks of.checks here.1)),
      (λ h. keeps.1 (subst (λ l. Holds th tb l [] f) (sym same) (h.0, to_checked th tb well table c.variables of.closed vs typed c.checks of.checks h.1))),
    )

-- ---- the theory's inputs

item_there : (pre : List Value) (v : Value) (post : List Value) → slice_get (pre ++ (v ∷ post)) (length pre) ≡ Some v
item_there [] v post = refl
item_there (u ∷ pre) v post = item_there pre v post

moved : (pre : List Value) (v : Value) (vs : List Value) → (pre ++ v ∷ []) ++ vs ≡ pre ++ (v ∷ vs)
moved [] v vs = refl
moved (u ∷ pre) v vs = ap (λ l. u ∷ l) (moved pre v vs)

count_moved : (pre : List Value) (v : Value) → length (pre ++ v ∷ []) ≡ suc (length pre)
count_moved [] v = refl
count_moved (u ∷ pre) v = ap suc (count_moved pre v)

variables_have : (th : Theory) (w : World) (env pre vs : List Value) (ts : List Ty) (n : ℕ) → AreTyped th vs ts → env ≡ pre ++ vs → n ≡ suc (length pre)
    → values_in w env [] (variables_from n ts) ≡ vs
variables_have th w env pre [] [] n typed is place = refl
variables_have th w env pre [] (t ∷ ts) n typed is place = absurd typed
variables_have th w env pre (v ∷ vs) [] n typed is place = absurd typed
variables_have th w env pre (v ∷ vs) (t ∷ ts) n typed is place =
    ap₂ (λ (x : Value) l. x ∷ l)
    (ap (λ m. value_in w env [] (free m)) place ∙ ap (λ o. unwrap_or o wrong) (ap (λ l. slice_get l (length pre)) is ∙ item_there pre v vs))
    (variables_have th w env (pre ++ v ∷ []) vs ts (suc n) typed.1 (is ∙ sym (moved pre v vs)) (ap suc (place ∙ sym (count_moved pre v))))

own_values : (th : Theory) (tb : Table) (vs : List Value) → AreTyped th vs th.program.inputs → values_in (world th tb) vs [] (inputs_as_variables th) ≡ vs
own_values th tb vs typed = variables_have th (world th tb) vs [] vs th.program.inputs 1 typed refl refl

pub conclusion_is_specification : ConclusionIsSpecification
conclusion_is_specification th tb table =
    let xs : Trees = inputs_as_variables th in
    let f : Formula = implies (tested xs) (atom th.specification) in (
      (λ h vs listed.
          let typed = inputs_are_typed th tb vs table listed in
          from_universal th tb th.program.inputs f h vs typed (subst (IsListed tb) (sym (own_values th tb vs typed)) listed)),
      (λ h. to_universal th tb th.program.inputs f (λ vs typed listed. h vs (subst (IsListed tb) (own_values th tb vs typed) listed))),
    )

pub this_one : (b : Bool) (f g : Formula) → (if b then Some f else None) ≡ Some g → f ≡ g
this_one true f g e = cc e
this_one false f g e = cc e

no_other : (b : Bool) (f : Formula) → (if b then Some f else None) ≡ None → b ≡ false
no_other true f e = cc e
no_other false f e = refl

pub regularity_is_of_deep : RegularityIsOfDeep
regularity_is_of_deep th tb k g table e =
    let xs : Trees = inputs_as_variables th in
    let f : Formula = implies (tested xs) (implies (deep k xs) (atom th.specification)) in
    let marked : Formula = thyp (universal_closure th.program.inputs f) in
    let same : marked ≡ g = this_one (some_data th.program.inputs) marked g e in (
      (λ h inputs listed is_deep.
          let typed = inputs_are_typed th tb inputs table listed in
          let is = own_values th tb inputs typed in
          from_universal th tb th.program.inputs f (subst (Holds th tb [] []) (sym same) h) inputs typed (subst (IsListed tb) (sym is) listed)
          (subst (λ l. ¬ (IsShallow k l)) (sym is) is_deep)),
      (λ h. subst (Holds th tb [] []) same (to_universal th tb th.program.inputs f (λ vs typed listed is_deep.
          h vs (subst (IsListed tb) (own_values th tb vs typed) listed) (subst (λ l. ¬ (IsShallow k l)) (own_values th tb vs typed) is_deep)))),
    )

left_false : (a b : Bool) → (a || b) ≡ false → (a ≡ false) × (b ≡ false)
left_false true b e = cc e
left_false false b e = (refl, e)

no_depth : (th : Theory) (v : Value) (t : Ty) (j : ℕ) → is_data t ≡ false → HasType th v t → depth v ≤ j
no_depth th (number n) t j e h = omega arith
no_depth th (boolean b) t j e h = omega arith
no_depth th (made c vs) t j e (o, is, (us, of, typed)) = cc (sym (ap is_data of) ∙ e)

none_deep : (th : Theory) (j : ℕ) (vs : List Value) (ts : List Ty) → some_data ts ≡ false → AreTyped th vs ts → IsShallow j vs
none_deep th j [] ts e typed = tt
none_deep th j (v ∷ vs) [] e typed = absurd typed
none_deep th j (v ∷ vs) (t ∷ ts) e typed =
    let parts = left_false (is_data t) (some_data ts) e in (no_depth th v t j parts.0 typed.0, none_deep th j vs ts parts.1 typed.1)

pub none_is_deep : NoneIsDeep
none_is_deep th k j e inputs typed =
    none_deep th j inputs th.program.inputs
    (no_other (some_data th.program.inputs) (thyp (universal_closure th.program.inputs
    (implies (tested (inputs_as_variables th)) (implies (deep k (inputs_as_variables th)) (atom th.specification))))) e) typed
