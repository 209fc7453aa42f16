-- Branches as they are written, and their places.
use Rattle.std.specs.Prelude.{◌≡◌, List, Option, option_map, option_and_then, unwrap_or, slice_get}
use Rattle.tg_model.specs.Tree.{truth}
use Rattle.std.specs.Prelude.{false}
use Rattle.tg_accept.specs.Core as model
use Rattle.tg_accept.specs.Core.{same_head}
use Rattle.tg_accept.specs.Resolved.{Head}
use Rattle.tg_term.specs.declared.terms.Branch.{Branch}
use Rattle.tg_typing.specs.View.{head}
use Rattle.tg_equations.specs.declared.core_terms.Written.{Written}
use Rattle.tg_equations.specs.declared.places.Place.{Place}
use Rattle.tg_equations.specs.declared.places.Places.{Places}
use Rattle.tg_equations.specs.Places.{placed_from, held}

abbrev pub written_branch : Written → model.Written
written_branch w = record { head = head w.head; vars = w.branch.vars; body = w.branch.body }

-- the branch without its head
abbrev pub bare : model.Written → Branch
bare w = record { vars = w.vars; body = w.body }

-- what stands where there is no branch
abbrev pub no_branch : Branch
no_branch = record { vars = 0; body = truth false }

abbrev pub branch_at : List model.Written → Option Place → Branch
branch_at ws at = unwrap_or (option_map bare (option_and_then (λ (p : Place). slice_get ws p.first) at)) no_branch

-- each head has the place of its first branch
abbrev pub AreBranchPlaces : Places → List model.Written → Type 0
AreBranchPlaces places ws = (h : Head) → held places h ≡ placed_from (λ (w : model.Written). same_head w.head h) 0 ws
