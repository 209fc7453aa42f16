-- The root of a type in a scope.
use Rattle.std.proofs.Common.{ℕ, zero, suc, ◌≡◌, true, ◌&&◌, nat_eq, List, map, length, ap₂, Option, Some, None, refl, sym, ◌∙◌, ap}
use Rattle.std.specs.Prelude.{option_map, unwrap_or}
use Rattle.std.specs.Borrow.{Bor}
use Rattle.std.proofs.lemmas.Bool.{eq-eqb}
use Rattle.std.proofs.lemmas.List.{length-map}
use Rattle.std.proofs.lemmas.Option.{slice_get-map}
use Rattle.tg_accept.specs.Faults.{are_parameters}
use Rattle.tg_model.specs.Types as model
use Rattle.tg_model.specs.Theory.{instance, numbered}
use Rattle.tg_types.specs.declared.types.Ty.{Ty}
use Rattle.tg_types.specs.declared.types.Ty.TheVariants.{Nat, Bool, Param, Meta, App}
use Rattle.tg_types.specs.Types.{ty, types, ty-Nat, ty-Bool, ty-Param, ty-Meta, ty-App}
use Rattle.tg_theory.proofs.Terms.{parameters_yes, parameters_no}
use Rattle.tg_split.specs.declared.scopes.Scope.{Scope, fold-Scope}
use Rattle.tg_split.specs.declared.scopes.Scope.TheFolds.{fold-roll-Scope}
use Rattle.tg_split.specs.declared.scopes.Scope.TheOpen.{Scope-F}
use Rattle.tg_split.specs.declared.scopes.Scope.TheVariants.{Closed, Within, rolls-Within}
use Rattle.tg_split.proofs.CountLaws.{at_itself, instances_of}
use Rattle.tg_split.specs.Scopes.{arguments, arguments-Closed, arguments-Within}

-- how many scopes are round a type
abbrev levels_step : Scope-F ℕ → ℕ
levels_step Scope-F.Closed = 0
levels_step (Scope-F.Within ts outer) = suc outer.now

abbrev pub levels : Scope → ℕ
levels = fold-Scope ℕ levels_step

pub levels-Within : (ts : Bor (List Ty)) (outer : Bor Scope) → levels (Within ts outer) ≡ suc (levels outer.now)
levels-Within ts outer = ap levels (sym (rolls-Within ts outer)) ∙ fold-roll-Scope ℕ levels_step _

pub at_nat : (us : List model.Ty) → model.nat ≡ instance us (ty Nat)
at_nat us = ap (instance us) (sym ty-Nat)

pub at_bool : (us : List model.Ty) → model.bool ≡ instance us (ty Bool)
at_bool us = ap (instance us) (sym ty-Bool)

pub at_meta : (us : List model.Ty) (n : ℕ) → model.meta n ≡ instance us (ty (Meta n))
at_meta us n = ap (instance us) (sym (ty-Meta n))

pub at_data : (us : List model.Ty) (d : ℕ) (ts : List Ty) → model.applied d (model.tys (map (λ t. instance us (ty t)) ts)) ≡ instance us (ty (App d ts))
at_data us d ts = ap (model.applied d) (sym (instances_of us ts)) ∙ ap (instance us) (sym (ty-App d ts))

pub at_closed : (n : ℕ) → model.nat ≡ instance (arguments Closed) (ty (Param n))
at_closed zero = ap (λ t. instance (arguments Closed) t) (sym (ty-Param 0))
at_closed (suc n) = ap (λ us. instance us (model.parameter (suc n))) (sym arguments-Closed) ∙ ap (λ t. instance (arguments Closed) t) (sym (ty-Param (suc n)))

module _ (ts : Bor (List Ty)) (outer : Bor Scope) where
  abbrev meaning : Ty → model.Ty
  meaning t = instance (arguments outer.now) (ty t)

  got : (n : ℕ) → numbered (map meaning ts.now) n ≡ option_map meaning (numbered ts.now n)
  got zero = refl
  got (suc n) = slice_get-map meaning ts.now n

  inside : (n : ℕ) (o : Option Ty) → o ≡ numbered ts.now n → unwrap_or (option_map meaning o) model.nat ≡ instance (arguments (Within ts outer)) (ty (Param n))
  inside n o e =
      ap (λ p. unwrap_or (option_map meaning p) model.nat) e
      ∙ (ap (λ p. unwrap_or p model.nat) (sym (got n))
      ∙ (ap (λ us. instance us (model.parameter n)) (sym (arguments-Within ts outer)) ∙ ap (instance (arguments (Within ts outer))) (sym (ty-Param n))))

  pub at_found : (n : ℕ) (u : Ty) → Some u ≡ numbered ts.now n → meaning u ≡ instance (arguments (Within ts outer)) (ty (Param n))
  at_found n u e = inside n (Some u) e

  pub at_missing : (n : ℕ) → None ≡ numbered ts.now n → model.nat ≡ instance (arguments (Within ts outer)) (ty (Param n))
  at_missing n e = inside n None e

-- the datatype at the parameters in order is the datatype at what they stand for
pub at_parameters : (d : ℕ) (ts : List Ty) (us : Bor (List Ty)) (outer : Bor Scope)
    → (nat_eq (length (model.elements (types ts))) (length us.now) && are_parameters 1 (types ts)) ≡ true
    → model.applied d (model.tys (map (λ t. instance (arguments outer.now) (ty t)) us.now))
    ≡ model.applied d (model.tys (map (λ t. instance (arguments (Within us outer)) (ty t)) ts))
at_parameters d ts us outer e =
    let vs : List model.Ty = map (λ t. instance (arguments outer.now) (ty t)) us.now in
    let count : length us.now ≡ length vs = sym (length-map us.now (λ t. instance (arguments outer.now) (ty t))) in
    let test : (nat_eq (length (model.elements (types ts))) (length vs) && are_parameters 1 (types ts)) ≡ true =
    ap (λ n. nat_eq (length (model.elements (types ts))) n && are_parameters 1 (types ts)) (sym count) ∙ e in
    let itself = ap₂ (λ a b. a && b) (eq-eqb d d refl) test in
    sym (at_itself vs d (model.applied d (types ts)) itself) ∙ ap (model.applied d) (instances_of vs ts)
    ∙ ap (λ l. model.applied d (model.tys (map (λ t. instance l (ty t)) ts))) (sym (arguments-Within us outer))

pub ruleset scoped = (at_nat, at_bool, at_meta, at_data, at_closed, at_found, at_missing, at_parameters)

pub ruleset counted_types = (parameters_yes, parameters_no)
