-- A declaration's checks, one after the other: the first that is not right tells of what kind its fault is.
use Rattle.std.specs.Prelude.{◌≡◌, ◌⊎◌, List, [], ◌∷◌, Option, Some, None}

pub data Kind : Type 0 where
  term_size : Kind
  name : Kind
  typing : Kind
  ambiguous : Kind
  shape : Kind
  program : Kind

-- `right` is more than the lack of a fault where it tells of a typing, so each is said by itself
pub record Check : Type 1 where
  pub kind : Kind
  pub fault : Type 0
  pub right : Type 0

-- the first check that isn't right is of this kind
abbrev pub First : List Check → Kind → Type 0
First [] k = ⊥
First (c ∷ cs) k = (c.fault × (k ≡ c.kind)) ⊎ (c.right × First cs k)

abbrev pub Pass : List Check → Type 0
Pass [] = Unit {0}
Pass (c ∷ cs) = c.right × Pass cs

-- no check is both right and at fault
abbrev pub AreSeparate : List Check → Type 0
AreSeparate [] = Unit {0}
AreSeparate (c ∷ cs) = (c.right → c.fault → ⊥) × AreSeparate cs

-- a check whose fault is that it isn't right
abbrev pub check : Kind → Type 0 → Check
check k right = record { kind = k; fault = ¬ right; right = right }

-- what is said of a meaning, where there is one
abbrev pub Where : {A : Type 0} → Option A → (A → Type 0) → Type 0
Where (Some m) P = P m
Where None P = ⊥

-- there is a meaning
abbrev pub Exists : {A : Type 0} → Option A → Type 0
Exists o = Where o (λ m. Unit {0})

abbrev pub Each : {A : Type 0} → (A → Type 0) → List A → Type 0
Each P [] = Unit {0}
Each P (x ∷ xs) = P x × Each P xs

abbrev pub Any : {A : Type 0} → (A → Type 0) → List A → Type 0
Any P [] = ⊥
Any P (x ∷ xs) = P x ⊎ Any P xs
