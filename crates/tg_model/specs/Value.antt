-- Values: unbounded naturals, truth values, and constructors applied to values.
use Rattle.std.specs.Prelude.{ℕ, Bool, true, false, not, ◌&&◌, ◌+◌, ◌≤◌, max, nat_eq, List, [], ◌∷◌}

mutual
  pub data Value : Type 0 where
    number : (n : ℕ) → Value
    boolean : (b : Bool) → Value
    made : (c : ℕ) (vs : Values) → Value

  pub data Values : Type 0 where
    none : Values
    more : (v : Value) (vs : Values) → Values

abbrev pub values : List Value → Values
values [] = none
values (v ∷ vs) = more v (values vs)

abbrev pub elements : Values → List Value
elements none = []
elements (more v vs) = v ∷ elements vs

-- the value of a use that no typing allows
abbrev pub wrong : Value
wrong = boolean false

abbrev pub same_truth : Bool → Bool → Bool
same_truth true b = b
same_truth false b = not b

abbrev mutual
  pub same_value : Value → Value → Bool
  same_value (number m) (number n) = nat_eq m n
  same_value (boolean a) (boolean b) = same_truth a b
  same_value (made c vs) (made d ws) = nat_eq c d && same_values vs ws
  same_value _ _ = false

  pub same_values : Values → Values → Bool
  same_values none none = true
  same_values (more v vs) (more w ws) = same_value v w && same_values vs ws
  same_values _ _ = false

-- the constructor depth: 0 for a natural or a truth value, else 1 above the deepest argument
abbrev mutual
  pub depth : Value → ℕ
  depth (number n) = 0
  depth (boolean b) = 0
  depth (made c vs) = 1 + deepest vs

  pub deepest : Values → ℕ
  deepest none = 0
  deepest (more v vs) = max (depth v) (deepest vs)

-- no component is deeper than `k`
abbrev pub IsShallow : ℕ → List Value → Type 0
IsShallow k [] = Unit {0}
IsShallow k (v ∷ vs) = (depth v ≤ k) × IsShallow k vs

-- a number that is greater for a value than for any part of it, and for `n + 1` than for `n`
abbrev mutual
  pub size : Value → ℕ
  size (number n) = n
  size (boolean b) = 0
  size (made c vs) = 1 + total_size vs

  pub total_size : Values → ℕ
  total_size none = 0
  total_size (more v vs) = size v + total_size vs
