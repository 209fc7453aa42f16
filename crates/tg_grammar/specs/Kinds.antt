-- The kinds of tokens: what the grammar tells apart. A kind is a number, so that a class of tokens is a list of numbers.
use Rattle.std.specs.Prelude.{ℕ}
use Rattle.tg_tables.specs.SymbolCodes as symbols

-- ---- A symbol has its code in the table of the symbols.

abbrev pub open_paren : ℕ
open_paren = symbols.open_paren

abbrev pub close_paren : ℕ
close_paren = symbols.close_paren

abbrev pub open_brace : ℕ
open_brace = symbols.open_brace

abbrev pub close_brace : ℕ
close_brace = symbols.close_brace

abbrev pub open_bracket : ℕ
open_bracket = symbols.open_bracket

abbrev pub close_bracket : ℕ
close_bracket = symbols.close_bracket

abbrev pub comma : ℕ
comma = symbols.comma

abbrev pub semicolon : ℕ
semicolon = symbols.semicolon

abbrev pub dot : ℕ
dot = symbols.dot

abbrev pub equal : ℕ
equal = symbols.equal

abbrev pub less : ℕ
less = symbols.less

abbrev pub less_equal : ℕ
less_equal = symbols.less_equal

abbrev pub plus : ℕ
plus = symbols.plus

abbrev pub minus : ℕ
minus = symbols.minus

abbrev pub times : ℕ
times = symbols.times

abbrev pub and : ℕ
and = symbols.and

abbrev pub or : ℕ
or = symbols.or

abbrev pub not : ℕ
not = symbols.not

abbrev pub arrow : ℕ
arrow = symbols.arrow

abbrev pub double_arrow : ℕ
double_arrow = symbols.double_arrow

abbrev pub double_colon : ℕ
double_colon = symbols.double_colon

abbrev pub question : ℕ
question = symbols.question

abbrev pub bang : ℕ
bang = symbols.bang

-- ---- Type variables and numbers. The grammar tells 0, 1, 2 and the numbers from 3 to 8 from the others.

abbrev pub type_variable : ℕ
type_variable = 24

abbrev pub zero_number : ℕ
zero_number = 25

abbrev pub one_number : ℕ
one_number = 26

abbrev pub two_number : ℕ
two_number = 27

abbrev pub small_number : ℕ
small_number = 28

abbrev pub other_number : ℕ
other_number = 29

-- ---- A reserved word has 30 more than its code in the table of the reserved words. The kinds 57 to 68 are left for
-- the reserved words of further versions and commands.

abbrev pub theory_word : ℕ
theory_word = 31

abbrev pub version_word : ℕ
version_word = 32

abbrev pub begin_word : ℕ
begin_word = 33

abbrev pub end_word : ℕ
end_word = 34

abbrev pub datatype_word : ℕ
datatype_word = 35

abbrev pub primrec_word : ℕ
primrec_word = 36

abbrev pub definition_word : ℕ
definition_word = 37

abbrev pub where_word : ℕ
where_word = 38

abbrev pub program_word : ℕ
program_word = 39

abbrev pub spec_word : ℕ
spec_word = 40

abbrev pub outcomes_word : ℕ
outcomes_word = 41

abbrev pub certificate_word : ℕ
certificate_word = 42

abbrev pub if_word : ℕ
if_word = 43

abbrev pub then_word : ℕ
then_word = 44

abbrev pub else_word : ℕ
else_word = 45

abbrev pub let_word : ℕ
let_word = 46

abbrev pub in_word : ℕ
in_word = 47

abbrev pub case_word : ℕ
case_word = 48

abbrev pub of_word : ℕ
of_word = 49

abbrev pub div_word : ℕ
div_word = 50

abbrev pub mod_word : ℕ
mod_word = 51

abbrev pub suc_word : ℕ
suc_word = 52

abbrev pub true_word : ℕ
true_word = 53

abbrev pub false_word : ℕ
false_word = 54

abbrev pub nat_word : ℕ
nat_word = 55

abbrev pub bool_word : ℕ
bool_word = 56

-- ---- Names: the ordinary ones, and words with a meaning in one place. They are the last kinds, so that further words
-- come behind them.

abbrev pub other_word : ℕ
other_word = 69

abbrev pub depth_word : ℕ
depth_word = 70

abbrev pub bound_word : ℕ
bound_word = 71

abbrev pub seed_word : ℕ
seed_word = 72

abbrev pub tries_word : ℕ
tries_word = 73

abbrev pub width_word : ℕ
width_word = 74

abbrev pub answer_word : ℕ
answer_word = 75

abbrev pub raised_word : ℕ
raised_word = 76

abbrev pub all_word : ℕ
all_word = 77

abbrev pub exists_word : ℕ
exists_word = 78

abbrev pub thyp_word : ℕ
thyp_word = 79

abbrev pub tested_word : ℕ
tested_word = 80

-- ---- The rules of the calculus have such a meaning too. A rule has 80 more than its place among the 26 rules.

abbrev pub hyp_rule : ℕ
hyp_rule = 81

abbrev pub weak_rule : ℕ
weak_rule = 82

abbrev pub cut_rule : ℕ
cut_rule = 83

abbrev pub grow_rule : ℕ
grow_rule = 84

abbrev pub and_i_rule : ℕ
and_i_rule = 85

abbrev pub and_l_rule : ℕ
and_l_rule = 86

abbrev pub and_r_rule : ℕ
and_r_rule = 87

abbrev pub imp_i_rule : ℕ
imp_i_rule = 88

abbrev pub mp_rule : ℕ
mp_rule = 89

abbrev pub all_i_rule : ℕ
all_i_rule = 90

abbrev pub all_e_rule : ℕ
all_e_rule = 91

abbrev pub exists_i_rule : ℕ
exists_i_rule = 92

abbrev pub exists_e_rule : ℕ
exists_e_rule = 93

abbrev pub thyp_i_rule : ℕ
thyp_i_rule = 94

abbrev pub thyp_e_rule : ℕ
thyp_e_rule = 95

abbrev pub true_rule : ℕ
true_rule = 96

abbrev pub false_rule : ℕ
false_rule = 97

abbrev pub split_rule : ℕ
split_rule = 98

abbrev pub refl_rule : ℕ
refl_rule = 99

abbrev pub sym_rule : ℕ
sym_rule = 100

abbrev pub trans_rule : ℕ
trans_rule = 101

abbrev pub replace_rule : ℕ
replace_rule = 102

abbrev pub schema_rule : ℕ
schema_rule = 103

abbrev pub exhaust_rule : ℕ
exhaust_rule = 104

abbrev pub deep_rule : ℕ
deep_rule = 105

abbrev pub compute_rule : ℕ
compute_rule = 106
