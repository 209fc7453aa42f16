-- A core term as a resolved one: a `case` that hasn't its branches as declared is a term without a typing.
use Rattle.std.specs.Prelude.{ℕ, zero, suc, Bool, true, false, ◌&&◌, nat_eq, List, [], ◌∷◌, map, length, Option, Some, option_map, slice_get, if◌then◌else◌}
use Rattle.std.specs.Option.{option_map_or}
use Rattle.tg_model.specs.Tree as tree
use Rattle.tg_model.specs.Tree.{Tree, Trees, Arms}
use Rattle.tg_model.specs.Theory.{Theory, Datatype, Constructor}
use Rattle.tg_model.specs.TypeLaws.{branch_sizes}
use Rattle.tg_accept.specs.Core.{heads_of, unnamed}
use Rattle.tg_accept.specs.Resolved.{Head, Resolved, Resolveds, Branches, bound, free, literal, truth, con, call, misused, put, choice, case, bind, op, none, more, end, branch}

abbrev pub same_sizes : List ℕ → List ℕ → Bool
same_sizes [] [] = true
same_sizes (m ∷ ms) (n ∷ ns) = nat_eq n m && same_sizes ms ns
same_sizes ms ns = false

-- how many arguments the constructors of datatype `n` have, 0 for nat
abbrev pub sizes_of : Theory → ℕ → Option (List ℕ)
sizes_of th zero = Some (0 ∷ 1 ∷ [])
sizes_of th (suc d) = option_map (λ (x : Datatype). map (λ (c : Constructor). length c.arguments) x.constructors) (slice_get th.datatypes d)

-- branches of these sizes are those of a `case` on datatype `n`
abbrev pub are_sizes : Theory → ℕ → List ℕ → Bool
are_sizes th n ns = option_map_or (λ ms. same_sizes ms ns) (sizes_of th n) false

module _ (th : Theory) where
  abbrev mutual
    pub embedded : Tree → Resolved
    embedded (tree.bound k) = bound k
    embedded (tree.free n) = free n
    embedded (tree.literal n) = literal n
    embedded (tree.truth b) = truth b
    embedded (tree.con c ts) = con c (all_embedded ts)
    embedded (tree.call f ts) = call f (all_embedded ts)
    embedded (tree.put ts) = put (all_embedded ts)
    embedded (tree.choice ts) = choice (all_embedded ts)
    embedded (tree.case n t arms) =
        if are_sizes th n (branch_sizes arms) then case n (embedded t) (branches_embedded arms (heads_of th n)) else misused none
    embedded (tree.bind t body) = bind (embedded t) (embedded body)
    embedded (tree.op o ts) = op o (all_embedded ts)

    pub all_embedded : Trees → Resolveds
    all_embedded tree.none = none
    all_embedded (tree.more t ts) = more (embedded t) (all_embedded ts)

    pub branches_embedded : Arms → List Head → Branches
    branches_embedded (tree.arm n body arms) (h ∷ hs) = branch h (unnamed n) (embedded body) (branches_embedded arms hs)
    branches_embedded arms hs = end
