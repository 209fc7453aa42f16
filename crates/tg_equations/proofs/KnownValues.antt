-- Known values of the definitions of this crate.
use Rattle.std.specs.Prelude.{◌≡◌, true, false, [], ◌∷◌, Some, None, nat_eq, refl}
use Rattle.tg_model.specs.Types.{nat, bool}
use Rattle.tg_model.specs.TermTyping.{Typing, leaf}
use Rattle.tg_accept.specs.Equations as model
use Rattle.tg_accept.specs.Equations.{variable, matched}
use Rattle.tg_accept.specs.Declared.{nothing, theory}
use Rattle.tg_accept.specs.Resolved.{zero_head, successor_head, of, truth, end, branch}
use Rattle.tg_typing.specs.declared.typings.Typings.TheVariants as typings
use Rattle.tg_equations.specs.Checked.{are_different, names_in, are_once, have_different_variables, are_branches}
use Rattle.tg_equations.specs.LeftSides.{together, of_variables, of_constructors, as_many}
use Rattle.tg_equations.specs.Matched.{datatype_in, first_head, side_at}
use Rattle.tg_equations.specs.Places.{placed_from, noted}
use Rattle.tg_equations.specs.Told.{AreTypings}

-- ---- places

first_of_two : placed_from (nat_eq 5) 0 (4 ∷ 5 ∷ 5 ∷ []) ≡ Some (record { first = 1; only = false })
first_of_two = refl

only_one : placed_from (nat_eq 5) 3 (4 ∷ 5 ∷ []) ≡ Some (record { first = 4; only = true })
only_one = refl

no_place : placed_from (nat_eq 5) 0 (4 ∷ []) ≡ None
no_place = refl

-- another one doesn't take the first one's place
stays_first : noted 7 (Some (record { first = 2; only = true })) ≡ record { first = 2; only = false }
stays_first = refl

-- ---- names

repeated : are_different nat_eq (1 ∷ 2 ∷ 1 ∷ []) ≡ false
repeated = refl

different : are_different nat_eq (1 ∷ 2 ∷ 3 ∷ []) ≡ true
different = refl

constructor_names : names_in (matched zero_head ((120 ∷ []) ∷ (121 ∷ []) ∷ [])) ≡ (120 ∷ []) ∷ (121 ∷ []) ∷ []
constructor_names = refl

-- ---- branches

once : are_once (branch (of 1) [] (truth true) (branch (of 1) [] (truth true) end)) ≡ false
once = refl

-- a variable may stand in two branches, and not twice in one
in_two_branches : have_different_variables (branch (of 1) ((120 ∷ []) ∷ []) (truth true) (branch (of 2) ((120 ∷ []) ∷ []) (truth true) end)) ≡ true
in_two_branches = refl

twice_in_one : have_different_variables (branch (of 1) ((120 ∷ []) ∷ (120 ∷ []) ∷ []) (truth true) end) ≡ false
twice_in_one = refl

-- 0 alone is too few, in any order both are right
zero_alone : are_branches (theory [] nothing) true 0 (branch zero_head [] (truth true) end) ≡ false
zero_alone = refl

both_numbers : are_branches (theory [] nothing) true 0 (branch successor_head ((120 ∷ []) ∷ []) (truth true) (branch zero_head [] (truth true) end)) ≡ true
both_numbers = refl

-- variables are asked to differ only where that is asked
unnamed : are_branches (theory [] nothing) false 0 (branch successor_head ((120 ∷ []) ∷ (120 ∷ []) ∷ []) (truth true) (branch zero_head [] (truth true) end)) ≡ true
unnamed = refl

-- ---- left sides

-- the arguments that are variables come first, wherever they stand
variables_first : together (model.left_types (theory [] nothing) (matched successor_head ((120 ∷ []) ∷ []) ∷ variable (121 ∷ []) ∷ []) (nat ∷ bool ∷ [])) ≡ Some (bool ∷ nat ∷ [])
variables_first = refl

too_many_variables : of_constructors (theory [] nothing) (matched zero_head ((120 ∷ []) ∷ []) ∷ []) (nat ∷ []) ≡ None
too_many_variables = refl

one_kind : of_variables (matched successor_head ((120 ∷ []) ∷ []) ∷ variable (121 ∷ []) ∷ []) (nat ∷ bool ∷ []) ≡ bool ∷ []
one_kind = refl

too_few : as_many 2 (Some (nat ∷ [])) ≡ None
too_few = refl

-- ---- equations

first_pattern : first_head (variable (120 ∷ []) ∷ matched (of 3) [] ∷ matched zero_head [] ∷ []) ≡ Some (of 3)
first_pattern = refl

second_argument : datatype_in (bool ∷ nat ∷ []) 1 ≡ 0
second_argument = refl

no_side : side_at [] (Some (record { first = 0; only = true })) ≡ truth false
no_side = refl

-- ---- typings

-- no answer but `None` holds of what has no typing
none_told : AreTypings (λ (d : Typing). ⊥) typings.None
none_told h = h.is

not_one : ¬ (AreTypings (λ (d : Typing). ⊥) typings.One)
not_one h = h.is

not_several : ¬ (AreTypings (λ (d : Typing). ⊥) typings.Several)
not_several h = h.is

-- what holds of each typing has several
not_none : ¬ (AreTypings (λ (d : Typing). Unit {0}) typings.None)
not_none h = h (record { typing = leaf nat; is = tt })
