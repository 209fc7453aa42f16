-- The operators of a raw term: an operator's number is its place in the list `Suc ~ & | --> = < <= + - * div mod`.
use Rattle.std.specs.Prelude.{ℕ}

abbrev pub suc_operator : ℕ
suc_operator = 1

abbrev pub not_operator : ℕ
not_operator = 2

abbrev pub and_operator : ℕ
and_operator = 3

abbrev pub or_operator : ℕ
or_operator = 4

abbrev pub implies_operator : ℕ
implies_operator = 5

abbrev pub equal_operator : ℕ
equal_operator = 6

abbrev pub less_operator : ℕ
less_operator = 7

abbrev pub less_equal_operator : ℕ
less_equal_operator = 8

abbrev pub plus_operator : ℕ
plus_operator = 9

abbrev pub minus_operator : ℕ
minus_operator = 10

abbrev pub times_operator : ℕ
times_operator = 11

abbrev pub div_operator : ℕ
div_operator = 12

abbrev pub mod_operator : ℕ
mod_operator = 13
