-- The codes of the symbols: a symbol's code is its place in the list of the language.
use Rattle.std.specs.Prelude.{ℕ}

abbrev pub open_paren : ℕ
open_paren = 1

abbrev pub close_paren : ℕ
close_paren = 2

abbrev pub open_brace : ℕ
open_brace = 3

abbrev pub close_brace : ℕ
close_brace = 4

abbrev pub open_bracket : ℕ
open_bracket = 5

abbrev pub close_bracket : ℕ
close_bracket = 6

abbrev pub comma : ℕ
comma = 7

abbrev pub semicolon : ℕ
semicolon = 8

abbrev pub dot : ℕ
dot = 9

abbrev pub equal : ℕ
equal = 10

abbrev pub less : ℕ
less = 11

abbrev pub less_equal : ℕ
less_equal = 12

abbrev pub plus : ℕ
plus = 13

abbrev pub minus : ℕ
minus = 14

abbrev pub times : ℕ
times = 15

abbrev pub and : ℕ
and = 16

abbrev pub or : ℕ
or = 17

abbrev pub not : ℕ
not = 18

abbrev pub arrow : ℕ
arrow = 19

abbrev pub double_arrow : ℕ
double_arrow = 20

abbrev pub double_colon : ℕ
double_colon = 21

abbrev pub question : ℕ
question = 22

abbrev pub bang : ℕ
bang = 23
