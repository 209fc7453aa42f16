-- Arguments of a program call are the variables in order exactly where their core terms are.
use Rattle.std.proofs.Common.{ℕ, zero, suc, ◌≡◌, ◌+◌, true, nat_eq, length, refl, sym, ap, subst, arith}
use Rattle.std.specs.Prelude.{◌↔◌}
use Rattle.std.proofs.lemmas.Bool.Decides.{Decides-eqb}
use Rattle.tg_model.specs.Tree.{elements}
use Rattle.tg_model.specs.Theory.{Theory}
use Rattle.tg_model.proofs.Booleans.{and_left, and_right}
use Rattle.tg_accept.specs.Faults.{is_variable, are_variables, are_inputs}
use Rattle.tg_accept.specs.Resolved as resolved
use Rattle.tg_accept.specs.Resolved.{Resolved, Resolveds}
use Rattle.tg_accept.specs.Core.{core, cores}
use Rattle.tg_accept.specs.Uses.{variables_on}
use Rattle.tg_accept.proofs.SameCalls.{both_true}

module _ (th : Theory) (self : ℕ) where
  variable_core : (n : ℕ) (t : Resolved) → is_variable n (core th self t) ≡ true → t ≡ resolved.free n
  variable_core n (resolved.free m) e = ap resolved.free ((Decides-eqb m n).0 e)
  variable_core n (resolved.bound k) e = cc e
  variable_core n (resolved.literal k) e = cc e
  variable_core n (resolved.truth b) e = cc e
  variable_core n (resolved.con c ts) e = cc e
  variable_core n (resolved.call f ts) e = cc e
  variable_core n (resolved.own ts) e = cc e
  variable_core n (resolved.misused ts) e = cc e
  variable_core n (resolved.put ts) e = cc e
  variable_core n (resolved.choice ts) e = cc e
  variable_core n (resolved.case k t bs) e = cc e
  variable_core n (resolved.bind t body) e = cc e
  variable_core n (resolved.op o ts) e = cc e

  in_order : (n count : ℕ) (ts : Resolveds) → length (elements (cores th self ts)) ≡ count → are_variables n (cores th self ts) ≡ true → ts ≡ variables_on n count
  in_order n zero resolved.none e v = refl
  in_order n (suc count) resolved.none e v = cc e
  in_order n zero (resolved.more t ts) e v = cc e
  in_order n (suc count) (resolved.more t ts) e v =
      let here = variable_core n t (and_left _ _ v) in
      let next : n + 1 ≡ suc n = omega arith in
      let many : length (elements (cores th self ts)) ≡ count = omega (arith, e) in
      let rest = in_order (suc n) count ts many (subst (λ k. are_variables k (cores th self ts) ≡ true) next (and_right (is_variable n (core th self t)) (are_variables (n + 1) (cores th self ts)) v)) in
      λ i. resolved.more (here i) (rest i)

  long : (n count : ℕ) → length (elements (cores th self (variables_on n count))) ≡ count
  long n zero = refl
  long n (suc count) = ap suc (long (suc n) count)

  ordered : (n count : ℕ) → are_variables n (cores th self (variables_on n count)) ≡ true
  ordered n zero = refl
  ordered n (suc count) =
      let next : suc n ≡ n + 1 = omega arith in
      both_true _ _ ((Decides-eqb n n).1 refl) (subst (λ k. are_variables k (cores th self (variables_on (suc n) count)) ≡ true) next (ordered (suc n) count))

  pub inputs_in_order : (count : ℕ) (ts : Resolveds) → (are_inputs count (cores th self ts) ≡ true) ↔ (ts ≡ variables_on 1 count)
  inputs_in_order count ts = (
    λ e. in_order 1 count ts ((Decides-eqb (length (elements (cores th self ts))) count).0 (and_left _ _ e)) (and_right (nat_eq (length (elements (cores th self ts))) count) _ e),
    λ e. subst (λ us. are_inputs count (cores th self us) ≡ true) (sym e)
        (both_true _ _ ((Decides-eqb (length (elements (cores th self (variables_on 1 count)))) count).1 (long 1 count)) (ordered 1 count)),
  )
