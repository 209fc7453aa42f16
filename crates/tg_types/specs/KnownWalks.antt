-- Known walks, each with the agreements or the pair at its end, and what is not most general.
use Rattle.std.specs.Prelude.{ℕ, ◌≡◌, [], ◌∷◌}
use Rattle.std.proofs.Common.{refl}
use Rattle.tg_model.specs.Types.{Ty, nat, bool, parameter, meta, applied, none, more}
use Rattle.tg_types.specs.Substitutions.{Assignment, Agreement, apply, Extends}
use Rattle.tg_types.specs.Unifiers.{IsMostGeneral}
use Rattle.tg_types.specs.Walks.{done, clash, occurs, Walk, walk_agree, walk_binds, walk_loops, walk_differ, walk_inside, walks_next, walks_clash, walks_occurs}

abbrev pub stands : ℕ → Ty → Agreement
stands v t = record { variable = v; meaning = t }

-- lists are datatype 1, pairs datatype 2
abbrev pub list_of : Ty → Ty
list_of t = applied 1 (more t none)

abbrev pub pair_of : Ty → Ty → Ty
pair_of t u = applied 2 (more t (more u none))

pub open_with_nat : Walk [] (meta 1) nat (done (stands 1 nat ∷ []))
open_with_nat = walk_binds refl

pub nat_with_open : Walk [] nat (meta 1) (done (stands 1 nat ∷ []))
nat_with_open = walk_binds refl

-- of two open types the left one becomes the right one, and one type beside itself needs nothing
pub two_open : Walk [] (meta 1) (meta 2) (done (stands 1 (meta 2) ∷ []))
two_open = walk_binds refl

pub one_open : Walk [] (meta 1) (meta 1) (done [])
one_open = walk_agree refl

pub nat_with_bool : Walk [] nat bool (clash nat bool)
nat_with_bool = walk_differ refl refl refl

pub two_parameters : Walk [] (parameter 1) (parameter 2) (clash (parameter 1) (parameter 2))
two_parameters = walk_differ refl refl refl

pub open_in_its_list : Walk [] (meta 1) (list_of (meta 1)) (occurs 1 (list_of (meta 1)))
open_in_its_list = walk_loops refl

pub list_of_open : Walk [] (list_of (meta 1)) (meta 1) (occurs 1 (list_of (meta 1)))
list_of_open = walk_loops refl

-- the number of arguments counts
pub fewer_arguments : Walk [] (list_of nat) (applied 1 none) (clash (list_of nat) (applied 1 none))
fewer_arguments = walk_differ refl refl refl

-- the pair at the leftmost arguments comes first
pub leftmost : Walk [] (pair_of nat bool) (pair_of bool nat) (clash nat bool)
leftmost = walk_inside _ _ refl (walks_clash (walk_differ refl refl refl))

-- an agreement on the left is put in on the right
pub put_in : Walk [] (pair_of (meta 1) (meta 1)) (pair_of nat (list_of bool)) (clash nat (list_of bool))
put_in = walk_inside _ _ refl (walks_next (walk_binds refl) (walks_clash (walk_differ refl refl refl)))

pub loop_of_two : Walk [] (pair_of (meta 1) (meta 2)) (pair_of (list_of (meta 2)) (list_of (meta 1))) (occurs 2 (list_of (list_of (meta 2))))
loop_of_two = walk_inside _ _ refl (walks_next (walk_binds refl) (walks_occurs (walk_loops refl)))

-- agreements are put in one after the other
pub put_in_whole : apply (stands 1 (list_of (meta 2)) ∷ stands 2 nat ∷ []) (pair_of (meta 1) (meta 3)) ≡ pair_of (list_of nat) (meta 3)
put_in_whole = refl

-- two open types can both be bool, so that both are nat isn't the most general way to make them one
pub not_general : ¬ (IsMostGeneral [] (meta 1) (meta 2) (stands 1 nat ∷ stands 2 nat ∷ []))
not_general m =
    let θ : Assignment = λ v. bool in
    let old : Extends θ [] = record { each = λ v. refl } in
    let e : nat ≡ bool = ((m.general θ).1 (old, refl)).each 1 in cc
