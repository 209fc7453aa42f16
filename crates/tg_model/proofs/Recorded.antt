-- A table answers what it lists.
use Rattle.std.proofs.Common.{◌≡◌, inl, inr, Bool, true, false, List, [], ◌∷◌, Some, refl, sym, ◌∙◌, ap, subst, if◌then◌else◌}
use Rattle.std.specs.Prelude.{unwrap_or}
use Rattle.tg_model.specs.Value.{Value, Values, more, values, same_values}
use Rattle.tg_model.specs.Theory.{Theory}
use Rattle.tg_model.specs.Table.{Table, IsListed, Lists, IsTable, recorded}
use Rattle.tg_model.specs.Typing.{AreTyped, least}
use Rattle.tg_model.specs.Laws.{AnswersAreRecorded, IsListedWithAnswer, InputsAreTyped}
use Rattle.tg_model.proofs.SameValue.{all_sound, all_themselves}

listed_with : (tb : Table) (vs : List Value) (v : Value) → Lists tb vs v → IsListed tb vs
listed_with [] vs v h = absurd h
listed_with (e ∷ tb) vs v (inl h) = inl h.0
listed_with (e ∷ tb) vs v (inr h) = inr (listed_with tb vs v h)

pub is_listed_with_answer : IsListedWithAnswer
is_listed_with_answer = listed_with

heads : (v w : Value) (vs ws : Values) → more v vs ≡ more w ws → v ≡ w
heads v w vs ws e = cc

tails : (v w : Value) (vs ws : Values) → more v vs ≡ more w ws → vs ≡ ws
tails v w vs ws e = cc

one_list : (vs ws : List Value) → values vs ≡ values ws → vs ≡ ws
one_list [] [] e = refl
one_list [] (w ∷ ws) e = cc
one_list (v ∷ vs) [] e = cc
one_list (v ∷ vs) (w ∷ ws) e =
    let p = heads v w (values vs) (values ws) e in
    let q = one_list vs ws (tails v w (values vs) (values ws) e) in
    λ i. p i ∷ q i

chosen : {A : Type 0} (b : Bool) (x y : A) → b ≡ true → (if b then x else y) ≡ x
chosen true x y e = refl
chosen false x y e = cc

passed_over : {A : Type 0} (b : Bool) (x y : A) → (b ≡ true → ⊥) → (if b then x else y) ≡ y
passed_over true x y h = absurd (h refl)
passed_over false x y h = refl

found : (th : Theory) (tb : Table) (vs : List Value) (v : Value) → IsTable th tb → Lists tb vs v → recorded tb vs ≡ Some v
found th [] vs v t h = absurd h
found th (e ∷ tb) vs v t (inl h) =
    chosen (same_values (values e.inputs) (values vs)) (Some e.answer) (recorded tb vs)
    (ap (λ ws. same_values (values ws) (values vs)) h.0 ∙ all_themselves (values vs))
    ∙ ap Some h.1
found th (e ∷ tb) vs v t (inr h) =
    let distinct : same_values (values e.inputs) (values vs) ≡ true → ⊥ =
    λ s. t.2 (subst (IsListed tb) (sym (one_list e.inputs vs (all_sound (values e.inputs) (values vs) s))) (listed_with tb vs v h)) in
    passed_over (same_values (values e.inputs) (values vs)) (Some e.answer) (recorded tb vs) distinct ∙ found th tb vs v t.3 h

pub answers_are_recorded : AnswersAreRecorded
answers_are_recorded th tb vs v t h = ap (λ o. unwrap_or o (least th th.program.answer)) (found th tb vs v t h)

pub inputs_are_typed : InputsAreTyped
inputs_are_typed th [] vs t h = absurd h
inputs_are_typed th (e ∷ tb) vs t (inl h) = subst (λ ws. AreTyped th ws th.program.inputs) h t.0
inputs_are_typed th (e ∷ tb) vs t (inr h) = inputs_are_typed th tb vs t.3 h
