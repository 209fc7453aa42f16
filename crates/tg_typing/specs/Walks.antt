-- What typing a term, or the branches of a `case`, does to the table.
use Rattle.std.specs.Prelude.{ℕ, ◌≡◌, Bool as Truth, List, reverse}
use Rattle.std.specs.Bool.{OnTrue}
use Rattle.tg_model.specs.TermTyping.{Typing, ArmTypings}
use Rattle.tg_shared_types.specs.declared.nodes.Node.{Node}
use Rattle.tg_accept.specs.Resolved.{Resolved, Branches}
use Rattle.tg_typing.specs.declared.contexts.Context.{Context}
use Rattle.tg_typing.specs.Contexts.{theory_in, self_in}
use Rattle.tg_typing.specs.Growing.{Outcome}
use Rattle.tg_typing.specs.Scopes.{Scope, HasTyping, HaveBranchTypings}

-- the loose bound variables' nodes are kept with the outermost first
abbrev pub scope_in : Context → List ℕ → Scope
scope_in x locs = record { parameters = x.parameters; vars = x.vars; locs = reverse locs }

-- the term has the typings at the type of node `e` that are read off the new table, or none
abbrev pub TypesTerm : Context → List Node → List Node → List ℕ → List ℕ → Resolved → ℕ → Truth → Type 0
TypesTerm x old new locs locs_after t e ok =
    Outcome old new Typing (HasTyping (theory_in x) (self_in x) (scope_in x locs) t e) ok × OnTrue ok (locs_after ≡ locs)

abbrev pub TypesBranches : Context → List Node → List Node → List ℕ → List ℕ → ℕ → List ℕ → Branches → ℕ → Truth → Type 0
TypesBranches x old new locs locs_after n us bs e ok =
    Outcome old new ArmTypings (HaveBranchTypings (theory_in x) (self_in x) (scope_in x locs) n us bs e) ok × OnTrue ok (locs_after ≡ locs)
