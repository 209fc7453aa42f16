-- Known patterns at known values, with constructors 1, `Nil`, and 2, `Cons`.
use Rattle.std.proofs.Common.{◌≡◌, [], ◌∷◌, true, false, Some, None, refl}
use Rattle.tg_model.specs.Tree.{Tree, Trees, con, free, none, one, two, literal, put}
use Rattle.tg_model.specs.Value.{Value, number, boolean, made, values}
use Rattle.tg_model.specs.Filling.{fill, stands, IsMatch}

abbrev nil_pattern : Tree
nil_pattern = con 1 none

abbrev nil : Value
nil = made 1 (values [])

-- `Cons ?1 Nil`
abbrev single : Trees
single = one (con 2 (two (free 1) nil_pattern))

filled_single : fill (number 4 ∷ []) single ≡ made 2 (values (number 4 ∷ nil ∷ [])) ∷ []
filled_single = refl

-- the second value is that of `?2`, whichever stands first
filled_turned : fill (number 4 ∷ boolean true ∷ []) (two (free 2) (free 1)) ≡ boolean true ∷ number 4 ∷ []
filled_turned = refl

-- neither a variable without a value nor a term of another kind has a value of its own
filled_wrong : fill (number 4 ∷ []) (two (free 2) (literal 4)) ≡ boolean false ∷ boolean false ∷ []
filled_wrong = refl

-- a variable in a term of another kind isn't one of the pattern
known_variables : (stands 1 (con 2 (two (free 1) nil_pattern)) ≡ true) × (stands 2 (con 2 (two (free 1) nil_pattern)) ≡ false) × (stands 1 (put (one (free 1))) ≡ false)
known_variables = (refl, refl, refl)

-- `Nil` isn't of the form
not_single : IsMatch 1 single (nil ∷ []) None
not_single vs n e = cc

-- ?1 at 5 isn't a match where 4 stands
not_five : ¬ (IsMatch 1 (one (free 1)) (number 4 ∷ []) (Some (number 5 ∷ [])))
not_five h = let e : number 5 ∷ [] ≡ number 4 ∷ [] = h.1 in cc
