-- What follows however a variable of a datatype is made follows: the rule of case distinction over a bound on the hypotheses.
use Rattle.std.proofs.Common.{ℕ, zero, suc, ◌≡◌, ◌≢◌, ◌<◌, ◌||◌, Bool, true, false, List, [], ◌∷◌, ◌++◌, map, length, Option, Some, None, refl, sym, ◌∙◌, ap, inl, inr, arith}
use Rattle.std.specs.Option.{option_map_or}
use Rattle.std.proofs.lemmas.Option.{slice_get_within, none-some}
use Rattle.tg_model.specs.Types.{Ty, Tys, applied, elements}
use Rattle.tg_model.specs.Formula.{Formula, Sequent}
use Rattle.tg_model.specs.Theory.{Theory, Datatype, Constructor, numbered, instance, first_constructor, IsClosed}
use Rattle.tg_model.specs.TermTyping.{constructor_arguments}
use Rattle.tg_model.specs.Typing.{base_constructor}
use Rattle.tg_model.specs.WellTyped.{IsWellTyped}
use Rattle.tg_model.specs.Uses.{uses_in_formula}
use Rattle.tg_model.specs.Accepted.{IsAmong}
use Rattle.tg_model.proofs.Contexts.{used_in_formulas_have_types}
use Rattle.tg_calculus.specs.Sequent.{Context, Hypotheses, ◌│◌⊢◌, Each, ◌∪◌, ◌∖◌, next, uses_from}
use Rattle.tg_calculus.specs.Cases.{own_equation, AreCases, collected}
use Rattle.tg_calculus.specs.Rule as rule
use Rattle.tg_calculus.specs.Step as step
use Rattle.tg_calculus.specs.Step.{IsFormula}
use Rattle.tg_calculus.specs.Derivation as derivation
use Rattle.tg_calculus.specs.Derivation.{Derives, AllDerived, by_rule}
use Rattle.tg_calculus.specs.Theorem.{AreWithin, Follows}
use Rattle.tg_calculus.proofs.Hypotheses.{each_joined}
use Rattle.tg_calculus.proofs.SetLaws.{among_each, each_among, each_other}
use Rattle.tg_derive.specs.Derivability.{FollowInCases, CasesAreEnough}
use Rattle.tg_derive.proofs.OpenClasses.{none_used}

-- a formula of a context has no new variable
old_only : (th : Theory) (G : Context) (Q : Formula) → IsFormula th G Q → (Us : List Ty) (m : ℕ) → length G < m → uses_from m Us Q ≡ false
old_only th G Q wf [] m h = refl
old_only th G Q wf (U ∷ Us) m h = λ i. one m h (uses_in_formula m Q) refl i || old_only th G Q wf Us (suc m) (omega (arith, h)) i
  where
    one : (m : ℕ) → length G < m → (b : Bool) → uses_in_formula m Q ≡ b → uses_in_formula m Q ≡ false
    one zero h b e = absurd (omega (arith, h))
    one (suc k) h true e =
        let p = used_in_formulas_have_types th G [] Q wf (suc k) e in
        absurd (let l = slice_get_within G k p.0 p.1 in omega (arith, l, h))
    one (suc k) h false e = e

left_within : (K H : Hypotheses) (F : Formula) → AreWithin K (F ∷ H) → AreWithin (K ∖ F) H
left_within K H F w =
    let o = each_other (λ Q. IsAmong Q (F ∷ H)) K F w in
    each_among (λ Q. IsAmong Q H) (K ∖ F)
    (λ Q i. let p = among_each (λ R. IsAmong R (F ∷ H) × (R ≢ F)) (K ∖ F) Q o i in elim p.0 [ inl e ↦ absurd (p.1 e) | inr j ↦ j ])

-- a datatype has a constructor
some_constructor : (th : Theory) → IsWellTyped th → (d : ℕ) (Ts : Tys) → IsClosed th (applied d Ts) → constructor_arguments th d (elements Ts) ≢ []
some_constructor th wt zero Ts ((x, is, count), closed) e = none-some x is
some_constructor th wt (suc d) Ts ((x, is, count), closed) e =
    at x.constructors refl
  where
    at : (ks : List Constructor) → x.constructors ≡ ks → ⊥
    at [] q =
        let base = (wt.datatypes d x is).base in
        let none : base_constructor (suc d) (first_constructor th.datatypes (suc d)) x.constructors ≡ None =
        ap (base_constructor (suc d) (first_constructor th.datatypes (suc d))) q in
        none-some ((wt.datatypes d x is).number, (wt.datatypes d x is).constructor) (sym none ∙ base)
    at (c ∷ ks) q =
        let f = λ (ks : List Constructor). map (λ (k : Constructor). map (instance (elements Ts)) k.arguments) ks in
        let found : constructor_arguments th (suc d) (elements Ts) ≡ f x.constructors =
        ap (λ (o : Option Datatype). option_map_or (λ (y : Datatype). f y.constructors) o []) is in
        let z : f (c ∷ ks) ≡ [] = sym (ap f q) ∙ sym found ∙ e in cc z

module _ (th : Theory) (G : Context) (n : ℕ) (H : Hypotheses) (wf : Each (IsFormula th []) H) (Q : Formula) (form : IsFormula th G Q) where
  -- a premise for each constructor, whose other hypotheses are within the bound
  record Built (c : ℕ) (args : List (List Ty)) : Type 0 where
    premises : List Sequent
    are : AreCases G n Q c args premises
    derived : AllDerived th premises
    within : (K : Hypotheses) → AreWithin K H → AreWithin (collected K G n c args premises) H

  built : (c : ℕ) (args : List (List Ty)) → FollowInCases th G n H Q c args → Built c args
  built c [] h = record { premises = []; are = tt; derived = derivation.none; within = λ K w. w }
  built c (Us ∷ rest) h =
      let p = h.0 in
      let own = own_equation G n c Us in
      let left = left_within p.used H own p.within in
      let formed = each_among (IsFormula th []) (p.used ∖ own) (λ F i. among_each (IsFormula th []) H F wf (among_each (λ R. IsAmong R H) (p.used ∖ own) F left i)) in
      let more = built (suc c) rest h.1 in
      record {
        premises = (G ++ Us │ p.used ⊢ Q) ∷ more.premises;
        are = (
          record {
            context = refl;
            goal = refl;
            goal_without = old_only th G Q form Us (next G) (omega arith);
            others_without = none_used th (p.used ∖ own) formed G Us;
          },
          more.are,
        );
        derived = derivation.more p.derived more.derived;
        within = λ K w. more.within (K ∪ p.used ∖ own) (each_joined (λ R. IsAmong R H) K (p.used ∖ own) w left);
      }

  pub in_cases : (d : ℕ) (Ts : Tys) → IsWellTyped th → IsClosed th (applied d Ts) → numbered G n ≡ Some (applied d Ts)
      → FollowInCases th G n H Q (first_constructor th.datatypes d) (constructor_arguments th d (elements Ts)) → Follows th G H Q
  in_cases d Ts wt closed e h =
      let b = built (first_constructor th.datatypes d) (constructor_arguments th d (elements Ts)) h in
      by b.premises b.are b.derived (b.within [] tt)
    where
      none : (c : ℕ) (args : List (List Ty)) → args ≢ [] → AreCases G n Q c args [] → ⊥
      none c [] f a = f refl
      none c (Us ∷ rest) f a = a

      by : (ps : List Sequent) → AreCases G n Q (first_constructor th.datatypes d) (constructor_arguments th d (elements Ts)) ps → AllDerived th ps
          → AreWithin (collected [] G n (first_constructor th.datatypes d) (constructor_arguments th d (elements Ts)) ps) H → Follows th G H Q
      by [] are derived within =
          absurd (none (first_constructor th.datatypes d) (constructor_arguments th d (elements Ts)) (some_constructor th wt d Ts closed) are)
      by (p ∷ ps) are derived within = record {
        used = collected [] G n (first_constructor th.datatypes d) (constructor_arguments th d (elements Ts)) (p ∷ ps);
        within = within;
        derived = by_rule (rule.exhaust n) derived (step.exhaust G d Ts e are);
      }

pub cases_are_enough : CasesAreEnough
cases_are_enough th G n d Ts H Q accepted closed e wf form h = in_cases th G n H wf Q form d Ts accepted.well_typed closed e h
