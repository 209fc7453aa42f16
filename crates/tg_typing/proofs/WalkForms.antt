-- The laws of the walk in the forms that its code asks for.
use Rattle.std.proofs.Common.{ℕ, zero, suc, ◌≡◌, ◌<◌, ◌≤◌, Bool as Truth, true, false, List, [], ◌∷◌, ◌++◌, length, reverse, take, get_or, refl, sym, ◌∙◌, ap, subst, arith}
use Rattle.std.specs.Prelude.{Some}
use Rattle.std.specs.Bool.{OnTrue}
use Rattle.tg_model.specs.Theory.{numbered}
use Rattle.tg_model.specs.TermTyping.{Typing, ArmTypings, IsDatatype}
use Rattle.tg_shared_types.specs.declared.nodes.Node.{Node}
use Rattle.tg_shared_types.specs.declared.nodes.Node.TheVariants.{Open}
use Rattle.tg_shared_types.specs.Nodes.{AreBelow, IsNodeTable}
use Rattle.tg_accept.specs.Resolved as model
use Rattle.tg_typing.specs.declared.resolved.Resolved.{Resolved}
use Rattle.tg_typing.specs.declared.resolved.Resolved.TheVariants.{Case, Let}
use Rattle.tg_typing.specs.declared.resolved.Branch.{Branch}
use Rattle.tg_typing.specs.View.{resolved, branches, resolved-Case, resolved-Let}
use Rattle.tg_typing.specs.declared.contexts.Context.{Context}
use Rattle.tg_typing.specs.Contexts.{theory_in, self_in}
use Rattle.tg_typing.specs.Growing.{IsImpossible, Outcome}
use Rattle.tg_typing.specs.Scopes.{IsScope, with_locs, HasTyping, HaveBranchTypings}
use Rattle.tg_typing.specs.Cases.{CaseNodes}
use Rattle.tg_typing.specs.Walks.{scope_in}
use Rattle.tg_typing.proofs.Scoped.{scope_more}
use Rattle.tg_typing.proofs.Leaves.{get_below}
use Rattle.tg_typing.proofs.LetArm.{bind_typed, bind_untyped}
use Rattle.tg_typing.proofs.CaseArm.{case_typed, case_untyped}
use Rattle.tg_typing.proofs.WalkLaws.{inner_scope}

pub on_true : {P : Type 0} (b : Truth) → b ≡ true → OnTrue b P → P
on_true true e p = p
on_true false e p = cc e

pub always : {P : Type 0} (b : Truth) → P → OnTrue b P
always true p = p
always false p = tt

pub then_true : {P Q : Type 0} (b : Truth) → (P → Q) → OnTrue b P → OnTrue b Q
then_true true f p = f p
then_true false f p = tt

pub scope_on : (x : Context) (locs locs' : List ℕ) (m n : ℕ) → m ≤ n → locs' ≡ locs → IsScope m (scope_in x locs) → IsScope n (scope_in x locs')
scope_on x locs locs' m n h e s = subst (λ l. IsScope n (scope_in x l)) (sym e) (scope_more m n (scope_in x locs) h s)

pub numbered_below : (n : ℕ) (ks : List ℕ) (i k : ℕ) → AreBelow n ks → numbered ks i ≡ Some k → k < n
numbered_below n ks zero k b e = cc e
numbered_below n ks (suc i) k b e = get_below n ks i k b e

pub read_at : (ks : List ℕ) (i : ℕ) → i < length ks → get_or ks i 0 ≡ get_or ks i (get_or ks i 0)
read_at [] i h = absurd (omega (arith, h))
read_at (k ∷ ks) zero h = refl
read_at (k ∷ ks) (suc i) h = read_at ks i (omega (arith, h))

pub take_back : (xs ys : List ℕ) → take (length xs) (xs ++ ys) ≡ xs
take_back [] ys = refl
take_back (x ∷ xs) ys = ap (λ zs. x ∷ zs) (take_back xs ys)

module _ (x : Context) (locs : List ℕ) (old mid : List Node) (n : ℕ) (us : List ℕ) (whole e : ℕ) (t t1 : model.Resolved) (bs : model.Branches)
    (is : t ≡ model.case n t1 bs) (nodes : CaseNodes (theory_in x) n old mid us whole) (scope : IsScope (length old) (scope_in x locs)) (he : e < length old) where
  pub case_fails : IsImpossible mid Typing (HasTyping (theory_in x) (self_in x) (scope_in x locs) t1 whole) →
      IsImpossible old Typing (HasTyping (theory_in x) (self_in x) (scope_in x locs) t e)
  case_fails fails =
      subst (λ y. IsImpossible old Typing (HasTyping (theory_in x) (self_in x) (scope_in x locs) y e)) (sym is)
      (case_untyped (theory_in x) (self_in x) (scope_in x locs) n us e t1 bs old mid (λ ρ ts. IsDatatype (theory_in x) n ts) (λ ρ ts p. p) (λ ρ ts p. p)
      nodes.grown nodes.below whole nodes.reads scope he fails)

  pub case_done : (late new : List Node) (ok : Truth) → Outcome mid late Typing (HasTyping (theory_in x) (self_in x) (scope_in x locs) t1 whole) true →
      Outcome late new ArmTypings (HaveBranchTypings (theory_in x) (self_in x) (scope_in x locs) n us bs e) ok →
      Outcome old new Typing (HasTyping (theory_in x) (self_in x) (scope_in x locs) t e) ok
  case_done late new ok first second =
      subst (λ y. Outcome old new Typing (HasTyping (theory_in x) (self_in x) (scope_in x locs) y e) ok) (sym is)
      (case_typed (theory_in x) (self_in x) (scope_in x locs) n us e t1 bs old mid (λ ρ ts. IsDatatype (theory_in x) n ts) (λ ρ ts p. p) (λ ρ ts p. p)
      nodes.grown nodes.below whole nodes.reads scope he late new ok first second)

module _ (x : Context) (locs : List ℕ) (old mid : List Node) (node e : ℕ) (t t1 body : model.Resolved) (is : t ≡ model.bind t1 body) (table : IsNodeTable old)
    (opened : mid ≡ old ++ Open ∷ []) (place : node ≡ length old) (scope : IsScope (length old) (scope_in x locs)) (he : e < length old) where
  pub let_fails : IsImpossible mid Typing (HasTyping (theory_in x) (self_in x) (scope_in x locs) t1 node) →
      IsImpossible old Typing (HasTyping (theory_in x) (self_in x) (scope_in x locs) t e)
  let_fails fails =
      subst (λ y. IsImpossible old Typing (HasTyping (theory_in x) (self_in x) (scope_in x locs) y e)) (sym is)
      (bind_untyped (theory_in x) (self_in x) (scope_in x locs) t1 body e old table scope he
      (subst (λ k. IsImpossible (old ++ Open ∷ []) Typing (HasTyping (theory_in x) (self_in x) (scope_in x locs) t1 k)) place
      (subst (λ ns. IsImpossible ns Typing (HasTyping (theory_in x) (self_in x) (scope_in x locs) t1 node)) opened fails)))

  pub let_done : (late new : List Node) (ok : Truth) (locs' : List ℕ) → locs' ≡ locs ++ node ∷ [] →
      Outcome mid late Typing (HasTyping (theory_in x) (self_in x) (scope_in x locs) t1 node) true →
      Outcome late new Typing (HasTyping (theory_in x) (self_in x) (scope_in x locs') body e) ok →
      Outcome old new Typing (HasTyping (theory_in x) (self_in x) (scope_in x locs) t e) ok
  let_done late new ok locs' longer first second =
      subst (λ y. Outcome old new Typing (HasTyping (theory_in x) (self_in x) (scope_in x locs) y e) ok) (sym is)
      (bind_typed (theory_in x) (self_in x) (scope_in x locs) t1 body e old table scope he late new ok
      (subst (λ k. Outcome (old ++ Open ∷ []) late Typing (HasTyping (theory_in x) (self_in x) (scope_in x locs) t1 k) true) place
      (subst (λ ns. Outcome ns late Typing (HasTyping (theory_in x) (self_in x) (scope_in x locs) t1 node) true) opened first))
      (subst (λ s. Outcome late new Typing (HasTyping (theory_in x) (self_in x) s body e) ok)
      (inner_scope x locs locs' (node ∷ []) longer ∙ ap (λ k. with_locs (scope_in x locs) (k ∷ reverse locs)) place) second))

pub case_is : (t : Resolved) (n : ℕ) (u : Resolved) (bs : List Branch) (v : Resolved) → t ≡ Case n u bs → v ≡ u →
    resolved t ≡ model.case n (resolved v) (branches bs)
case_is t n u bs v e f = ap resolved e ∙ resolved-Case n u bs ∙ ap (λ y. model.case n (resolved y) (branches bs)) (sym f)

pub let_is : (t u body v : Resolved) → t ≡ Let u body → v ≡ u → resolved t ≡ model.bind (resolved v) (resolved body)
let_is t u body v e f = ap resolved e ∙ resolved-Let u body ∙ ap (λ y. model.bind (resolved y) (resolved body)) (sym f)
