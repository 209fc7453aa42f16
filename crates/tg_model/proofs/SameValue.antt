-- `same_value` decides equality of values.
use Rattle.std.proofs.Common.{◌≡◌, Bool, true, false, refl, ap, subst, nat_eq}
use Rattle.std.proofs.lemmas.Bool.{eqb-true, eq-eqb}
use Rattle.tg_model.specs.Value.{Value, Values, number, boolean, made, same_value, same_values, same_truth}
use Rattle.tg_model.specs.Value as value
use Rattle.tg_model.specs.Laws.{DecidesEquality}
use Rattle.tg_model.proofs.Booleans.{and_left, and_right, and_both}

pub truths : (a b : Bool) → same_truth a b ≡ true → a ≡ b
truths true true e = refl
truths true false e = cc
truths false true e = cc
truths false false e = refl

truth_itself : (a : Bool) → same_truth a a ≡ true
truth_itself true = refl
truth_itself false = refl

mutual
  pub same_sound : (v w : Value) → same_value v w ≡ true → v ≡ w
  same_sound (number m) (number n) e = ap number (eqb-true m n e)
  same_sound (number m) (boolean b) e = cc
  same_sound (number m) (made c vs) e = cc
  same_sound (boolean a) (number n) e = cc
  same_sound (boolean a) (boolean b) e = ap boolean (truths a b e)
  same_sound (boolean a) (made c vs) e = cc
  same_sound (made c vs) (number n) e = cc
  same_sound (made c vs) (boolean b) e = cc
  same_sound (made c vs) (made d ws) e =
      let p : c ≡ d = eqb-true c d (and_left (nat_eq c d) (same_values vs ws) e) in
      let q : vs ≡ ws = all_sound vs ws (and_right (nat_eq c d) (same_values vs ws) e) in cc

  pub all_sound : (vs ws : Values) → same_values vs ws ≡ true → vs ≡ ws
  all_sound value.none value.none e = refl
  all_sound value.none (value.more w ws) e = cc
  all_sound (value.more v vs) value.none e = cc
  all_sound (value.more v vs) (value.more w ws) e =
      let p : v ≡ w = same_sound v w (and_left (same_value v w) (same_values vs ws) e) in
      let q : vs ≡ ws = all_sound vs ws (and_right (same_value v w) (same_values vs ws) e) in cc

mutual
  pub same_itself : (v : Value) → same_value v v ≡ true
  same_itself (number n) = eq-eqb n n refl
  same_itself (boolean b) = truth_itself b
  same_itself (made c vs) = and_both (nat_eq c c) (same_values vs vs) (eq-eqb c c refl) (all_themselves vs)

  pub all_themselves : (vs : Values) → same_values vs vs ≡ true
  all_themselves value.none = refl
  all_themselves (value.more v vs) = and_both (same_value v v) (same_values vs vs) (same_itself v) (all_themselves vs)

pub decides_equality : DecidesEquality
decides_equality v w = (same_sound v w, λ e. subst (λ (u : Value). same_value v u ≡ true) e (same_itself v))
