-- Nodes for the types of what a term names, and what is asked of a typing there.
use Rattle.std.specs.Prelude.{ℕ, ◌≡◌, List, map, Option}
use Rattle.tg_model.specs.Theory.{Theory, Function}
use Rattle.tg_model.specs.TermTyping.{Typing, Typings, ArmTypings, type_of, types_of}
use Rattle.tg_types.specs.Substitutions.{Assignment}
use Rattle.tg_shared_types.specs.Nodes.{AreBelow}
use Rattle.tg_accept.specs.Resolved.{Resolved, Resolveds, Branches}
use Rattle.tg_accept.specs.ResolvedTyping.{IsTypingOf, AreTypingsOf, AreBranchTypings}

-- nodes for the type parameters of the function that is being declared, for the free variables, and for the loose bound ones, the
-- innermost first
pub record Scope : Type 0 where
  pub parameters : List ℕ
  pub vars : List ℕ
  pub locs : List ℕ

abbrev pub with_locs : Scope → List ℕ → Scope
with_locs s locs = record { parameters = s.parameters; vars = s.vars; locs = locs }

abbrev pub IsScope : ℕ → Scope → Type 0
IsScope n s = AreBelow n s.parameters × AreBelow n s.vars × AreBelow n s.locs

module _ (th : Theory) (self : Option Function) (s : Scope) where
  -- a typing of the term, at the type of node `e`
  abbrev pub HasTyping : Resolved → ℕ → Assignment → Typing → Type 0
  HasTyping t e ρ d = IsTypingOf th self (map ρ s.parameters) (map ρ s.vars) (map ρ s.locs) t d × (type_of d ≡ ρ e)

  -- typings of the terms, at the types of the nodes
  abbrev pub HaveTypings : Resolveds → List ℕ → Assignment → Typings → Type 0
  HaveTypings ts es ρ ds = AreTypingsOf th self (map ρ s.parameters) (map ρ s.vars) (map ρ s.locs) ts ds × (types_of ds ≡ map ρ es)

  -- typings of the branches of a `case` on datatype `n` at the types of the nodes `us`, at the type of node `e`
  abbrev pub HaveBranchTypings : ℕ → List ℕ → Branches → ℕ → Assignment → ArmTypings → Type 0
  HaveBranchTypings n us bs e ρ ds = AreBranchTypings th self (map ρ s.parameters) (map ρ s.vars) (map ρ s.locs) n (map ρ us) (ρ e) bs ds
