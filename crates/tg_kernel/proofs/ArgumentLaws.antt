-- Constructors and their arguments' types, as they are looked up.
use Rattle.std.proofs.Common.{ℕ, zero, suc, ◌≡◌, ◌≢◌, List, [], ◌∷◌, map, Option, Some, None, refl, sym, ◌∙◌, ap}
use Rattle.std.specs.Prelude.{slice_get}
use Rattle.std.specs.Option.{option_map_or}
use Rattle.tg_model.specs.Types.{Ty, nat, applied, tys, elements}
use Rattle.tg_model.specs.Theory.{Theory, Datatype, Owned, Constructor, numbered, instance, constructor_at}
use Rattle.tg_model.specs.TermTyping.{constructor_arguments}
use Rattle.tg_accept.proofs.KeptTypes.{elements_tys}
use Rattle.tg_declarations.specs.View.{datatype, constructor, owned}
use Rattle.tg_declarations.specs.declared.definitions.ConDef.{ConDef}
use Rattle.tg_declarations.specs.declared.definitions.DataDef.{DataDef}
use Rattle.tg_types.specs.declared.types.Ty as declared
use Rattle.tg_types.specs.Types.{ty, types}
use Rattle.tg_calculus.specs.Chains.{arguments_at}
use Rattle.tg_kernel.specs.Arguments.{at_instance}
use Rattle.tg_eval.proofs.OpeningLaws.{first_there, first_more, first_past, first_end}

module _ (th : Theory) (c d : ℕ) (us : List declared.Ty) where
  abbrev At : Option Owned → List Ty
  At o = option_map_or (λ (x : Owned). map (instance (map ty us)) x.constructor.arguments) o []

  listed : At (constructor_at th c) ≡ arguments_at th c (applied d (types us))
  listed = ap (λ vs. option_map_or (λ (x : Owned). map (instance vs) x.constructor.arguments) (constructor_at th c) []) (sym (elements_tys (map ty us)))

  pub arguments_there : (e : ℕ) (def : ConDef) (ts : List Ty) → Some (owned e def) ≡ constructor_at th c → ts ≡ map (instance (map ty us)) (map ty def.args)
      → ts ≡ arguments_at th c (applied d (types us))
  arguments_there e def ts f is = is ∙ ap At f ∙ listed

  pub arguments_absent : None ≡ constructor_at th c → [] ≡ arguments_at th c (applied d (types us))
  arguments_absent f = ap At f ∙ listed

pub ruleset arguments = (arguments_there, arguments_absent)

module _ (th : Theory) (us : List Ty) where
  abbrev Of : Option Datatype → List (List Ty)
  Of o = option_map_or (λ (x : Datatype). map (at_instance us) x.constructors) o []

  found : (d : ℕ) → d ≢ 0 → Of (numbered th.datatypes d) ≡ constructor_arguments th d us
  found zero h = absurd (h refl)
  found (suc d) h = refl

  pub cases_there : (d : ℕ) (def : DataDef) (cs : List (List Ty)) → d ≢ 0 → Some (datatype def) ≡ numbered th.datatypes d
      → cs ≡ map (at_instance us) (map constructor def.cons) → cs ≡ constructor_arguments th d us
  cases_there d def cs n e is = is ∙ ap Of e ∙ found d n

  pub cases_absent : (d : ℕ) → d ≢ 0 → None ≡ numbered th.datatypes d → [] ≡ constructor_arguments th d us
  cases_absent d n e = ap Of e ∙ found d n

  pub cases_zero : (d : ℕ) → d ≡ 0 → ([] ∷ (nat ∷ []) ∷ []) ≡ constructor_arguments th d us
  cases_zero d e = ap (λ n. constructor_arguments th n us) (sym e)

pub ruleset cases = (cases_there, cases_absent, cases_zero)

pub ruleset firsts = (first_there, first_more, first_past, first_end)
