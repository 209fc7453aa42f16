-- What the walk from the table of the given types, and what settles it, say of typings.
use Rattle.std.proofs.Common.{ℕ, ◌≡◌, ◌≤◌, Bool as Truth, true, List, [], ◌∷◌, ◌++◌, length, refl, sym, ◌∙◌, ap, subst, arith}
use Rattle.std.specs.Prelude.{map, reverse, Option}
use Rattle.tg_model.specs.Types.{Ty, elements, tys}
use Rattle.tg_model.specs.Theory.{Theory, Function}
use Rattle.tg_model.specs.TermTyping.{Typing}
use Rattle.tg_types.specs.declared.types.Ty as declared
use Rattle.tg_types.specs.Types.{ty, types}
use Rattle.tg_types.specs.Substitutions.{Assignment}
use Rattle.tg_shared_types.specs.declared.nodes.Node.{Node}
use Rattle.tg_shared_types.specs.declared.nodes.Node.TheVariants.{Open}
use Rattle.tg_shared_types.specs.declared.settling.Solutions.{Solutions}
use Rattle.tg_shared_types.specs.declared.settling.Solutions.TheVariants.{Zero, One, Several}
use Rattle.tg_shared_types.specs.Nodes.{Fits, IsNodeTable}
use Rattle.tg_shared_types.specs.Growth.{Grows}
use Rattle.tg_shared_types.specs.Settled.{Settles}
use Rattle.tg_shared_types.proofs.GrowthLaws.{grows_then}
use Rattle.tg_accept.specs.Resolved.{Resolved}
use Rattle.tg_accept.specs.Declared.{Declared, theory}
use Rattle.tg_typing.specs.declared.contexts.Context.{Context}
use Rattle.tg_typing.specs.Contexts.{theory_in, self_in}
use Rattle.tg_typing.specs.Walks.{scope_in}
use Rattle.tg_typing.specs.Growing.{Outcome}
use Rattle.tg_typing.specs.Scopes.{Scope, IsScope, HasTyping}
use Rattle.tg_typing.specs.Nodes.{AllStand, Stands}
use Rattle.tg_typing.specs.Answers.{Counts, IsTypingIn, IsTypingAt, own_parameters, Prepares, answer_of}
use Rattle.tg_model.proofs.Places.{map-reverse}
use Rattle.tg_typing.proofs.CaseArm.{below_reverse}
use Rattle.tg_typing.proofs.Scoped.{below_more}
use Rattle.tg_typing.proofs.FrameLaws.{elements_of, elements_tys}
use Rattle.tg_typing.proofs.Conclusions.{none_typed, one_typed, several_typed, typed_at, typed_anyhow}

pub counted : (Is : Typing → Type 0) (new : List Node) (s : Solutions) → Outcome [] new Typing (λ ρ. Is) true → Settles new s → Counts Is (answer_of s)
counted Is new Zero done settles = none_typed Is done settles
counted Is new One done settles = one_typed Is done settles
counted Is new Several done settles = several_typed Is done settles

types_of_stand : (ρ : Assignment) (old new : List Node) (ks : List ℕ) (ts : List Ty) → AllStand old (tys ts) new ks → Fits ρ new → map ρ ks ≡ ts
types_of_stand ρ old new ks ts p f = sym (elements_of ρ ks) ∙ ap elements (p.reads ρ f) ∙ elements_tys ts

-- a scope where the loose bound variables have these nodes, the outermost first
abbrev pub Given : List ℕ → List ℕ → List ℕ → Scope
Given parameters free loose = record { parameters = parameters; vars = free; locs = reverse loose }

module _ (th : Theory) (self : Option Function) (vars : List declared.Ty) (t : Resolved) (base : List Node) (parameters free : List ℕ)
    (p : Prepares [] base self vars parameters free) where
  grows : Grows [] base
  grows = grows_then p.first.grows p.then_vars.grows

  given : (ρ : Assignment) → Fits ρ base → (map ρ parameters ≡ own_parameters self) × (map ρ free ≡ map ty vars)
  given ρ f = (
    types_of_stand ρ [] p.mid parameters (own_parameters self) p.first (p.then_vars.grows.older ρ f),
    types_of_stand ρ p.mid base free (map ty vars) p.then_vars f,
  )

  pub scope_outside : (n : ℕ) → length base ≤ n → IsScope n (Given parameters free [])
  scope_outside n h = (
    below_more (length p.mid) n parameters (let l = p.then_vars.grows.longer in omega arith) p.first.inside,
    below_more (length base) n free h p.then_vars.inside,
    tt,
  )

  -- at any type, outside all binders
  pub anyhow : (start new : List Node) (e : ℕ) (ok : Truth) → IsNodeTable base → start ≡ base ++ Open ∷ [] → e ≡ length base →
      Outcome start new Typing (HasTyping th self (Given parameters free []) t e) ok → Outcome [] new Typing (λ ρ. IsTypingIn th self vars t) ok
  anyhow start new e ok table opened place o =
      typed_anyhow th self (own_parameters self) (map ty vars) [] t base parameters free [] grows (λ ρ f. ((given ρ f).0, (given ρ f).1, refl)) new ok table
      (subst (λ k. Outcome (base ++ Open ∷ []) new Typing (HasTyping th self (Given parameters free []) t k) ok) place
      (subst (λ ns. Outcome ns new Typing (HasTyping th self (Given parameters free []) t e) ok) opened o))

  module _ (locs : List declared.Ty) (within : List Node) (loose : List ℕ) (q : AllStand base (types locs) within loose) where
    pub scope_within : (n : ℕ) → length within ≤ n → IsScope n (Given parameters free loose)
    scope_within n h =
        let l = q.grows.longer in
        let s = scope_outside n (omega arith) in
        (s.0, s.1, below_reverse n loose (below_more (length within) n loose h q.inside))

    -- at the type of a node
    pub at_type : (start new : List Node) (u : Ty) (e : ℕ) (ok : Truth) → Stands within u start e →
        Outcome start new Typing (HasTyping th self (Given parameters free loose) t e) ok → Outcome [] new Typing (λ ρ. IsTypingAt th self vars locs t u) ok
    at_type start new u e ok stands o =
        typed_at th self (own_parameters self) (map ty vars) (reverse (map ty locs)) t start parameters free (reverse loose)
        (grows_then (grows_then grows q.grows) stands.grows)
        (λ ρ f.
        let fits : Fits ρ within = stands.grows.older ρ f in
        let before = given ρ (q.grows.older ρ fits) in
        (before.0, before.1, map-reverse ρ loose ∙ ap reverse (types_of_stand ρ base within loose (map ty locs) q fits)))
        new u e ok stands.reads o

-- the same in the forms that the code asks for
module _ (x : Context) (D : Declared) (self : Option Function) (vars : List declared.Ty) (t : Resolved) (first base : List Node)
    (ok : Truth) (same : x.declared.now ≡ D) (own : self_in x ≡ self) (none : first ≡ []) (p : Prepares first base self vars x.parameters x.vars) where
  prepared : Prepares [] base (self_in x) vars x.parameters x.vars
  prepared = subst (λ s. Prepares [] base s vars x.parameters x.vars) (sym own) (subst (λ ns. Prepares ns base self vars x.parameters x.vars) none p)

  module _ (start new : List Node) (locs : List ℕ) (e : ℕ) (outside : locs ≡ []) where
    pub scope_starts : (n : ℕ) → length base ≤ n → IsScope n (scope_in x locs)
    scope_starts n h =
        subst (λ l. IsScope n (scope_in x l)) (sym outside) (scope_outside (theory_in x) (self_in x) vars t base x.parameters x.vars prepared n h)

    pub counts_anyhow : IsNodeTable base → start ≡ base ++ Open ∷ [] → e ≡ length base →
        Outcome start new Typing (HasTyping (theory_in x) (self_in x) (scope_in x locs) t e) ok →
        Outcome [] new Typing (λ ρ. IsTypingIn (theory [] D) self vars t) ok
    counts_anyhow table opened place o =
        subst (λ s. Outcome [] new Typing (λ ρ. IsTypingIn (theory [] D) s vars t) ok) own
        (subst (λ d. Outcome [] new Typing (λ ρ. IsTypingIn (theory [] d) (self_in x) vars t) ok) same
        (anyhow (theory_in x) (self_in x) vars t base x.parameters x.vars prepared start new e ok table opened place
        (subst (λ l. Outcome start new Typing (HasTyping (theory_in x) (self_in x) (scope_in x l) t e) ok) outside o)))

  module _ (locs : List declared.Ty) (within start new : List Node) (loose : List ℕ) (e : ℕ) (q : AllStand base (types locs) within loose) where
    pub scope_with : (n : ℕ) → length within ≤ n → IsScope n (scope_in x loose)
    scope_with n h = scope_within (theory_in x) (self_in x) vars t base x.parameters x.vars prepared locs within loose q n h

    pub counts_at : (u : Ty) → Stands within u start e → Outcome start new Typing (HasTyping (theory_in x) (self_in x) (scope_in x loose) t e) ok →
        Outcome [] new Typing (λ ρ. IsTypingAt (theory [] D) self vars locs t u) ok
    counts_at u stands o =
        subst (λ s. Outcome [] new Typing (λ ρ. IsTypingAt (theory [] D) s vars locs t u) ok) own
        (subst (λ d. Outcome [] new Typing (λ ρ. IsTypingAt (theory [] d) (self_in x) vars locs t u) ok) same
        (at_type (theory_in x) (self_in x) vars t base x.parameters x.vars prepared locs within loose q start new u e ok stands o))
