-- What a rule needs is asked exactly: in well-formed premises no type is open.
use Rattle.std.proofs.Common.{ℕ, ◌≡◌, ◌↔◌, Bool, true, false, ◌&&◌, nat_eq, length, List, [], ◌∷◌, ◌++◌, map, Option, Some, None, refl, sym, ◌∙◌, ap, subst}
use Rattle.tg_model.specs.Types.{Ty, Tys, applied, bool, tys}
use Rattle.tg_model.specs.Types as types
use Rattle.tg_model.specs.Formula as formula
use Rattle.tg_model.specs.Formula.{Sequent}
use Rattle.tg_model.specs.Tree.{Tree}
use Rattle.tg_model.specs.Theory.{Theory, IsClosed, AreClosed, numbered}
use Rattle.tg_model.specs.Theory.{Datatype}
use Rattle.std.specs.Option.{option_map_or}
use Rattle.tg_accept.specs.Declared.{Declared, theory}
use Rattle.tg_accept.specs.Standing.{declared_in}
use Rattle.tg_rows.specs.Parts.{only_if, and_then}
use Rattle.tg_rows.specs.Rows.{row}
use Rattle.tg_shared_types.specs.Growth.{IsDeclared, AreDeclared}
use Rattle.tg_theory.specs.Typed.{is_closed, are_closed, IsTypedAt}
use Rattle.tg_theory.proofs.ClosedTypes.{all_closed_if, are_closed_yes, closed_declared, all_closed_declared}
use Rattle.tg_types.specs.declared.types.Ty as declared
use Rattle.tg_types.specs.Types.{ty, types as types_of}
use Rattle.tg_calculus.specs.Sequent.{Context, Each, equation}
use Rattle.tg_calculus.specs.Step as step
use Rattle.tg_calculus.specs.Step.{Step, IsContext, IsTerm}
use Rattle.tg_calculus.specs.Rule.{Rule}
use Rattle.tg_calculus.specs.Draft.{Need, Draft, IsMet, AreMet, draft, always, given, closed, formed, typed, without_last, as_data}
use Rattle.tg_calculus.specs.Laws.{IsFormed}
use Rattle.tg_calculus.proofs.FromDraft.{draft_step, then_found, only_some}
use Rattle.tg_kernel.specs.Asked.{IsAsked}

pub closed_told : (th : Theory) (b : Bool) (ts : List declared.Ty) (G : Context) → b ≡ are_closed th (types_of ts) → map ty ts ≡ G
    → (b ≡ true) ↔ IsContext th G
closed_told th b ts G e v =
    subst (λ (K : Context). (b ≡ true) ↔ IsContext th K) v
    ((λ h. all_closed_if th (types_of ts) (sym e ∙ h)), (λ h. e ∙ are_closed_yes th (types_of ts) h))

-- a theory's name doesn't matter
module _ (th : Theory) where
  abbrev Other : Theory
  Other = theory [] (declared_in th)

  mutual
    same_closed : (T : Ty) → is_closed Other T ≡ is_closed th T
    same_closed types.nat = refl
    same_closed bool = refl
    same_closed (types.parameter n) = refl
    same_closed (types.meta n) = refl
    same_closed (applied d ts) =
        ap (λ b. option_map_or (λ (x : Datatype). nat_eq (length (types.elements ts)) x.parameters) (numbered th.datatypes d) false && b) (all_same_closed ts)

    all_same_closed : (Ts : Tys) → are_closed Other Ts ≡ are_closed th Ts
    all_same_closed types.none = refl
    all_same_closed (types.more T Ts) = λ i. same_closed T i && all_same_closed Ts i

  pub closed_in : (b : Bool) (D : Declared) (T : Ty) → b ≡ is_closed (theory [] D) T → D ≡ declared_in th → b ≡ is_closed th T
  closed_in b D T e w = e ∙ ap (λ x. is_closed (theory [] x) T) w ∙ same_closed T

pub typed_told : (th : Theory) (b : Bool) (vars : List declared.Ty) (G : Context) (t : Tree) (u : declared.Ty) → map ty vars ≡ G
    → ((b ≡ true) ↔ IsTypedAt th vars t u) → (b ≡ true) ↔ (AreDeclared (tys G) × IsDeclared (ty u) × IsTerm th G t (ty u))
typed_told th b vars G t u v h =
    subst (λ (K : Context). (b ≡ true) ↔ (AreDeclared (tys K) × IsDeclared (ty u) × IsTerm th K t (ty u))) v
    ((λ e. let k = h.0 e in (k.variables, k.type, k.typed)), (λ k. h.1 (record { variables = k.0; type = k.1; typed = k.2 })))

pub ruleset closing = (closed_told, closed_in, typed_told)

module _ (th : Theory) where
  abbrev Asked : List Need → Type 0
  Asked ns = Each (IsAsked th) ns

  moved : (ns : List Need) (s : Sequent) (d : Draft) → always ns s ≡ Some d → Asked ns → Asked d.needs
  moved ns s d e h =
      let x : Draft = record { needs = ns; conclusion = s } in
      let same : x ≡ d = cc e in subst (λ (y : Draft). Asked y.needs) same h

  moved_if : (b : Bool) (ns : List Need) (s : Sequent) (d : Draft) → given b ns s ≡ Some d → Asked ns → Asked d.needs
  moved_if b ns s d e h = moved ns s d (ap Some (only_some b _ d e).1) h

  plain : (G : Context) → IsContext th G → AreDeclared (tys G)
  plain G c = all_closed_declared th (tys G) c

  asked : {r : Rule} {ps : List Sequent} {s : Sequent} → Step th r ps s → Each (IsFormed th) ps → (d : Draft) → draft th r ps ≡ Some d → Asked d.needs
  asked (step.hyp {G} {F} c w) h d e = moved (closed G ∷ formed G F ∷ []) _ d e (c, ((plain G c, w), tt))
  asked (step.weak {G} {H} {F} w) h d e = moved (formed G F ∷ []) _ d e ((plain G h.0.context, w), tt)
  asked (step.cut) h d e = moved_if _ [] _ d e tt
  asked (step.grow {G} {H} {Q} {Ts} c) h d e = moved (closed Ts ∷ []) _ d e (c, tt)
  asked (step.and_i) h d e = moved_if _ [] _ d e tt
  asked (step.and_l) h d e = moved [] _ d e tt
  asked (step.and_r) h d e = moved [] _ d e tt
  asked (step.imp_i {G} {H} {F} w) h d e = moved (formed G F ∷ []) _ d e ((plain G h.0.context, w), tt)
  asked (step.mp) h d e = moved_if _ [] _ d e tt
  asked (step.all_i {G} {H} {T} {F} u) h d e = then_found (without_last (G ++ T ∷ [])) _ d e (λ k a q. moved_if _ [] _ d q tt)
  asked (step.all_e {G} {H} {T} {F} {t} k) h d e =
      moved (typed G t T ∷ []) _ d e ((plain G h.0.context, closed_declared th T h.0.goal.0, k), tt)
  asked (step.ex_i {G} {H} {T} {F} {F'} {t} w k q) h d e =
      moved_if _ (formed G (formula.some T F) ∷ typed G t T ∷ []) _ d e
      ((plain G h.0.context, w), ((plain G h.0.context, closed_declared th T w.0, k), tt))
  asked (step.ex_e q a b) h d e = moved_if _ [] _ d e tt
  asked (step.thyp_i) h d e = moved [] _ d e tt
  asked (step.thyp_e) h d e = moved [] _ d e tt
  asked (step.truth {G} c) h d e = moved (closed G ∷ []) _ d e (c, tt)
  asked (step.falsity {G} {H} {F} w) h d e = moved (formed G F ∷ []) _ d e ((plain G h.0.context, w), tt)
  asked (step.split {G} {H} {K} {Q} {t} k) h d e = moved_if _ (typed G t bool ∷ []) _ d e ((plain G h.0.context, tt, k), tt)
  asked (step.reflexive {G} {t} c w) h d e = moved _ _ d e (c, ((plain G c, w), tt))
  asked (step.symmetric) h d e = moved [] _ d e tt
  asked (step.transitive {G} w) h d e = moved_if _ _ _ d e ((plain G h.0.context, w), tt)
  asked (step.replace {G} r w) h d e = moved_if _ _ _ d e ((plain G h.0.context, w), tt)
  asked (step.schema {G} {k} {t} {u} c q w) h d e =
      then_found (row th k t) _ d e (λ v a b. let same : u ≡ v = cc (sym q ∙ a) in
      moved _ _ d b (c, ((plain G c, subst (λ (x : Tree). step.IsFormula th G (equation t x)) same w), tt)))
  asked (step.exhaust G {Q} {n} D Ts {p} {ps} q is) h d e =
      then_found (numbered p.vars n) _ d e (λ T a b. then_found (as_data T) _ d b (λ x f g. moved_if _ [] _ d g tt))
  asked (step.deep {G} {k} {ts} c w chain) h d e = moved_if _ _ _ d e (c, ((plain G c, w), tt))
  asked (step.compute {G} {t} c w n v) h d e = moved_if _ _ _ d e (c, ((tt, w), tt))

  met_of : (n : Need) → IsAsked th n → IsMet th n
  met_of (closed G) a = a
  met_of (formed G F) a = a.1
  met_of (typed G t T) a = a.2

  all_met : (ns : List Need) → Asked ns → AreMet th ns
  all_met [] a = tt
  all_met (n ∷ ns) a = (met_of n a.0, all_met ns a.1)

  -- an instance is exactly a draft for which the answer is yes
  pub asked_step : (r : Rule) (ps : List Sequent) (d : Draft) → draft th r ps ≡ Some d → Asked d.needs → Step th r ps d.conclusion
  asked_step r ps d e a = draft_step th r ps d e (all_met d.needs a)

  pub step_asked : (r : Rule) (ps : List Sequent) (d : Draft) (s : Sequent) → draft th r ps ≡ Some d → Each (IsFormed th) ps → Step th r ps s → Asked d.needs
  step_asked r ps d s e h x = asked x h d e
