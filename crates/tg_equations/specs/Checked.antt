-- Whether each `case` has the branches that its datatype asks for, as it is decided.
use Rattle.std.specs.Prelude.{ℕ, ◌≡◌, ◌++◌, Bool, true, false, not, ◌&&◌, List, [], ◌∷◌, if◌then◌else◌}
use Rattle.std.specs.List.{list_all, list_any}
use Rattle.std.specs.Str.{bytes_eq}
use Rattle.tg_model.specs.Theory.{Theory}
use Rattle.tg_accept.specs.Core.{same_head, heads_of, has_branch}
use Rattle.tg_accept.specs.Cases.{heads_in}
use Rattle.tg_accept.specs.Equations.{Pattern, variable, matched}
use Rattle.tg_accept.specs.Resolved as resolved
use Rattle.tg_accept.specs.Resolved.{Head, Resolved, Resolveds, Branches, con, call, own, misused, put, choice, case, bind, op, branch}

-- no two items are the same
abbrev pub are_different : {A : Type 0} → (A → A → Bool) → List A → Bool
are_different same [] = true
are_different same (x ∷ xs) = not (list_any (λ y. same y x) xs) && are_different same xs

-- names are taken behind others, of which no two are the same
abbrev pub Takes : List (List ℕ) → List (List ℕ) → List (List ℕ) → Bool → Type 0
Takes old new xs true = (new ≡ old ++ xs) × (are_different bytes_eq old ≡ true → are_different bytes_eq new ≡ true)
Takes old new xs false = are_different bytes_eq (old ++ xs) ≡ false

-- the names of a pattern's variables
abbrev pub names_in : Pattern → List (List ℕ)
names_in (variable x) = x ∷ []
names_in (matched h xs) = xs

abbrev pub are_once : Branches → Bool
are_once bs = are_different same_head (heads_in bs)

abbrev pub have_different_variables : Branches → Bool
have_different_variables resolved.end = true
have_different_variables (branch head xs body bs) = are_different bytes_eq xs && have_different_variables bs

-- `named` asks for different variables too
abbrev pub are_branches : Theory → Bool → ℕ → Branches → Bool
are_branches th named n bs =
    are_once bs && (list_all (λ h. has_branch h bs) (heads_of th n) && (if named then have_different_variables bs else true))

module _ (passes : ℕ → Branches → Bool) where
  abbrev mutual
    pub each_case : Resolved → Bool
    each_case (con c ts) = each_cases ts
    each_case (call f ts) = each_cases ts
    each_case (own ts) = each_cases ts
    each_case (misused ts) = each_cases ts
    each_case (put ts) = each_cases ts
    each_case (choice ts) = each_cases ts
    each_case (op o ts) = each_cases ts
    each_case (case n t bs) = passes n bs && (each_case t && each_branch bs)
    each_case (bind t body) = each_case t && each_case body
    each_case t = true

    pub each_cases : Resolveds → Bool
    each_cases resolved.none = true
    each_cases (resolved.more t ts) = each_case t && each_cases ts

    pub each_branch : Branches → Bool
    each_branch resolved.end = true
    each_branch (branch head xs body bs) = each_case body && each_branch bs
