-- The numbers in values, and that the limited value keeps them below 2^64.
use Rattle.std.specs.Prelude.{ℕ, ◌≡◌, ◌<◌, List, Some, All}
use Rattle.tg_model.specs.Tree.{Tree}
use Rattle.tg_model.specs.Value as value
use Rattle.tg_model.specs.Value.{Value, Values, number, boolean, made}
use Rattle.tg_model.specs.Theory.{Theory}
use Rattle.tg_eval.specs.Limited.{limited}

-- the numbers in it are below 2^64
abbrev mutual
  pub IsSmall : Value → Type 0
  IsSmall (number n) = n < 18446744073709551616
  IsSmall (boolean b) = Unit {0}
  IsSmall (made c vs) = AreSmall vs

  pub AreSmall : Values → Type 0
  AreSmall value.none = Unit {0}
  AreSmall (value.more v vs) = IsSmall v × AreSmall vs

-- Where the numbers in the answer and in the values of variables are below 2^64, so are those in the limited value.
abbrev pub LimitedIsSmall : Type 0
LimitedIsSmall = (th : Theory) (answer : Value) → IsSmall answer → (env loc : List Value) → All IsSmall env → All IsSmall loc
    → (levels left rest : ℕ) (t : Tree) (v : Value) → limited th answer levels left env loc t ≡ Some (v, rest) → IsSmall v
