-- Types made of what is declared have no open type in them.
use Rattle.std.proofs.Common.{ℕ, zero, suc, ◌≡◌, List, [], ◌∷◌, Option, Some, None, inl, inr, refl, sym, subst}
use Rattle.std.specs.Prelude.{slice_get, unwrap_or}
use Rattle.tg_model.specs.Types as types
use Rattle.tg_model.specs.Types.{Ty, Tys, nat, bool, parameter, meta, applied, tys}
use Rattle.tg_model.specs.Theory.{Theory, Constructor, Function, Owned, Program, constructor_at, numbered, IsClosed, AreClosed}
use Rattle.tg_model.specs.WellTyped.{IsBefore, AreBefore}
use Rattle.tg_model.specs.Accepted.{IsArgument, AreArguments, AreConstructors, parameters_from}
use Rattle.tg_model.proofs.Numbering.{numbered_constructor}
use Rattle.tg_shared_types.specs.Growth.{IsDeclared, AreDeclared}
use Rattle.tg_accept.specs.Declared.{Declared, theory, no_program}
use Rattle.tg_accept.specs.Kept.{IsKept}
use Rattle.tg_typing.specs.Contexts.{IsClosedFunction}
use Rattle.tg_typing.specs.KeptTypes.{KeptTypesAreClosed}

module _ (th : Theory) (d params : ℕ) where
  mutual
    before_declared : (t : Ty) → IsBefore th d params t → IsDeclared t
    before_declared nat h = tt
    before_declared bool h = tt
    before_declared (parameter n) h = tt
    before_declared (meta n) h = absurd h
    before_declared (applied e ts) h = all_before_declared ts h.1

    all_before_declared : (ts : Tys) → AreBefore th d params ts → AreDeclared ts
    all_before_declared types.none h = tt
    all_before_declared (types.more t ts) h = (before_declared t h.0, all_before_declared ts h.1)

  parameters_declared : (n count : ℕ) → AreDeclared (tys (parameters_from n count))
  parameters_declared n zero = tt
  parameters_declared n (suc count) = (tt, parameters_declared (suc n) count)

  argument_declared : (t : Ty) → IsArgument th d params t → IsDeclared t
  argument_declared t (inl h) = before_declared t h
  argument_declared t (inr e) = subst IsDeclared (sym e) (parameters_declared 1 params)

  arguments_declared : (ts : List Ty) → AreArguments th d params ts → AreDeclared (tys ts)
  arguments_declared [] h = tt
  arguments_declared (t ∷ ts) h = (argument_declared t h.0, arguments_declared ts h.1)

  constructor_declared : (cs : List Constructor) (k : ℕ) (c : Constructor) → AreConstructors th d params cs → slice_get cs k ≡ Some c
      → AreDeclared (tys c.arguments)
  constructor_declared [] k c h e = cc e
  constructor_declared (x ∷ cs) zero c h e = subst (λ (y : Constructor). AreDeclared (tys y.arguments)) (let q : x ≡ c = cc e in q) (arguments_declared x.arguments h.0)
  constructor_declared (x ∷ cs) (suc k) c h e = constructor_declared cs k c h.1 e

module _ (th : Theory) where
  mutual
    closed_declared : (t : Ty) → IsClosed th t → IsDeclared t
    closed_declared nat h = tt
    closed_declared bool h = tt
    closed_declared (parameter n) h = absurd h
    closed_declared (meta n) h = absurd h
    closed_declared (applied e ts) h = all_closed_declared ts h.1

    all_closed_declared : (ts : Tys) → AreClosed th ts → AreDeclared ts
    all_closed_declared types.none h = tt
    all_closed_declared (types.more t ts) h = (closed_declared t h.0, all_closed_declared ts h.1)

module _ (D : Declared) (kept : IsKept D) where
  constructors : (c : ℕ) (o : Owned) → constructor_at (theory [] D) c ≡ Some o → AreDeclared (tys o.constructor.arguments)
  constructors c o e =
      let n = numbered_constructor (theory [] D) c o e in
      constructor_declared (theory [] D) (suc n.place) n.datatype.parameters n.datatype.constructors _ o.constructor
      (kept.datatypes n.place n.datatype n.is).1 n.constructor

  functions : (f : ℕ) (x : Function) → numbered D.functions f ≡ Some x → IsClosedFunction x
  functions f x e =
      let made = all_before_declared (theory [] D) _ x.parameters (tys (x.answer ∷ x.arguments)) (kept.functions f x e).1.types in
      (made.1, made.0)

  inputs : AreDeclared (tys (theory [] D).program.inputs) × IsDeclared (theory [] D).program.answer
  inputs = by D.program refl
    where
      by : (o : Option Program) → D.program ≡ o
          → AreDeclared (tys (unwrap_or D.program no_program).inputs) × IsDeclared (unwrap_or D.program no_program).answer
      by None e =
          subst (λ o. AreDeclared (tys (unwrap_or o no_program).inputs) × IsDeclared (unwrap_or o no_program).answer) (sym e) (tt, tt)
      by (Some p) e =
          let h = kept.program p e in
          subst (λ o. AreDeclared (tys (unwrap_or o no_program).inputs) × IsDeclared (unwrap_or o no_program).answer) (sym e)
          (all_closed_declared (theory [] D) (tys p.inputs) h.inputs, closed_declared (theory [] D) p.answer h.answer)

pub kept_types_are_closed : KeptTypesAreClosed
kept_types_are_closed D self kept own = record {
  constructors = constructors D kept;
  functions = functions D kept;
  own = λ x e. (
    (all_before_declared (theory [] D) _ x.parameters (tys (x.answer ∷ x.arguments)) (own x e)).1,
    (all_before_declared (theory [] D) _ x.parameters (tys (x.answer ∷ x.arguments)) (own x e)).0,
  );
  inputs = (inputs D kept).0;
  answer = (inputs D kept).1;
}
