-- In what is kept of a growing theory no declared type has an open one in it.
use Rattle.std.specs.Prelude.{◌≡◌, [], ◌∷◌, Option, Some}
use Rattle.tg_model.specs.Theory.{Function}
use Rattle.tg_accept.specs.Declared.{Declared, theory}
use Rattle.tg_accept.specs.Kept.{IsKept}
use Rattle.tg_accept.specs.Meant.{AreMade}
use Rattle.tg_typing.specs.Contexts.{HasClosedTypes}

-- the function that is being declared, if there is one, has types that are made of what is declared
abbrev pub IsOwnMade : Declared → Option Function → Type 0
IsOwnMade D self = (x : Function) → self ≡ Some x → AreMade (theory [] D) x.parameters (x.answer ∷ x.arguments)

abbrev pub KeptTypesAreClosed : Type 0
KeptTypesAreClosed = (D : Declared) (self : Option Function) → IsKept D → IsOwnMade D self → HasClosedTypes (theory [] D) self
