-- Known kinds of tokens.
use Rattle.std.specs.Prelude.{◌≡◌, ◌+◌, Some, [], ◌∷◌, map, codes}
use Rattle.std.proofs.Common.{refl}
use Rattle.tg_tables.specs.Lists.{reserved_words, symbol_list}
use Rattle.tg_lex.specs.Grammar.{code_in, value}
use Rattle.tg_grammar.specs.Kinds.{open_paren, close_paren, open_brace, close_brace, open_bracket, close_bracket, comma, semicolon, dot, equal, less}
use Rattle.tg_grammar.specs.Kinds.{less_equal, plus, minus, times, and, or, not, arrow, double_arrow, double_colon, question, bang, theory_word}
use Rattle.tg_grammar.specs.Kinds.{version_word, begin_word, end_word, datatype_word, primrec_word, definition_word, where_word, program_word}
use Rattle.tg_grammar.specs.Kinds.{spec_word, outcomes_word, certificate_word, if_word, then_word, else_word, let_word, in_word, case_word, of_word}
use Rattle.tg_grammar.specs.Kinds.{div_word, mod_word, suc_word, true_word, false_word, nat_word, bool_word, depth_word, bound_word, seed_word}
use Rattle.tg_grammar.specs.Kinds.{tries_word, width_word, answer_word, raised_word, all_word, exists_word, thyp_word, tested_word, other_word}
use Rattle.tg_grammar.specs.Kinds.{zero_number, one_number, two_number, small_number, other_number}
use Rattle.tg_grammar.specs.Making.{rule_place}
use Rattle.tg_grammar.specs.Seen.{word_kind, number_kind}
use Rattle.tg_grammar.specs.Words.{version_one}

-- the kinds of the symbols are their codes in the table of the symbols
pub symbols : map (code_in symbol_list)
    (codes "(" ∷ codes ")" ∷ codes "{" ∷ codes "}" ∷ codes "[" ∷ codes "]" ∷ codes "," ∷ codes ";" ∷ codes "." ∷
    codes "=" ∷ codes "<" ∷ codes "<=" ∷ codes "+" ∷ codes "-" ∷ codes "*" ∷ codes "&" ∷ codes "|" ∷ codes "~" ∷
    codes "-->" ∷ codes "=>" ∷ codes "::" ∷ codes "?" ∷ codes "!" ∷ [])
    ≡ map Some
    (open_paren ∷ close_paren ∷ open_brace ∷ close_brace ∷ open_bracket ∷ close_bracket ∷ comma ∷ semicolon ∷ dot ∷
    equal ∷ less ∷ less_equal ∷ plus ∷ minus ∷ times ∷ and ∷ or ∷ not ∷ arrow ∷ double_arrow ∷ double_colon ∷
    question ∷ bang ∷ [])
symbols = refl

-- those of the reserved words are 30 more than their codes in the table of the reserved words
pub reserved : map (λ e. word_kind version_one e.name) reserved_words ≡ map (λ e. 30 + e.code) reserved_words
unfolding word_kind
reserved = refl

pub reserved_names : map (word_kind version_one)
    (codes "theory" ∷ codes "version" ∷ codes "begin" ∷ codes "end" ∷ codes "datatype" ∷ codes "primrec" ∷
    codes "definition" ∷ codes "where" ∷ codes "program" ∷ codes "spec" ∷ codes "outcomes" ∷ codes "certificate" ∷
    codes "if" ∷ codes "then" ∷ codes "else" ∷ codes "let" ∷ codes "in" ∷ codes "case" ∷ codes "of" ∷ codes "div" ∷
    codes "mod" ∷ codes "Suc" ∷ codes "True" ∷ codes "False" ∷ codes "nat" ∷ codes "bool" ∷ [])
    ≡ (theory_word ∷ version_word ∷ begin_word ∷ end_word ∷ datatype_word ∷ primrec_word ∷ definition_word ∷ where_word ∷
    program_word ∷ spec_word ∷ outcomes_word ∷ certificate_word ∷ if_word ∷ then_word ∷ else_word ∷ let_word ∷
    in_word ∷ case_word ∷ of_word ∷ div_word ∷ mod_word ∷ suc_word ∷ true_word ∷ false_word ∷ nat_word ∷ bool_word ∷ [])
unfolding word_kind
reserved_names = refl

-- the rules in the order of their places
pub rules : map (λ name. rule_place (word_kind version_one name))
    (codes "hyp" ∷ codes "weak" ∷ codes "cut" ∷ codes "grow" ∷ codes "andI" ∷ codes "andL" ∷ codes "andR" ∷
    codes "impI" ∷ codes "mp" ∷ codes "allI" ∷ codes "allE" ∷ codes "exI" ∷ codes "exE" ∷ codes "thypI" ∷
    codes "thypE" ∷ codes "true" ∷ codes "false" ∷ codes "split" ∷ codes "refl" ∷ codes "sym" ∷ codes "trans" ∷
    codes "replace" ∷ codes "schema" ∷ codes "exhaust" ∷ codes "deep" ∷ codes "compute" ∷ [])
    ≡ (1 ∷ 2 ∷ 3 ∷ 4 ∷ 5 ∷ 6 ∷ 7 ∷ 8 ∷ 9 ∷ 10 ∷ 11 ∷ 12 ∷ 13 ∷ 14 ∷ 15 ∷ 16 ∷ 17 ∷ 18 ∷ 19 ∷ 20 ∷ 21 ∷ 22 ∷ 23 ∷ 24 ∷ 25 ∷
    26 ∷ [])
unfolding word_kind
rules = refl

pub local_names : map (word_kind version_one)
    (codes "depth" ∷ codes "bound" ∷ codes "seed" ∷ codes "tries" ∷ codes "width" ∷ codes "answer" ∷ codes "raised" ∷
    codes "ALL" ∷ codes "EX" ∷ codes "THYP" ∷ codes "tested" ∷ [])
    ≡ (depth_word ∷ bound_word ∷ seed_word ∷ tries_word ∷ width_word ∷ answer_word ∷ raised_word ∷ all_word ∷
    exists_word ∷ thyp_word ∷ tested_word ∷ [])
unfolding word_kind
local_names = refl

-- other words are names, also where they begin as one of these or differ in the size of a letter
pub others : map (word_kind version_one) (codes "x" ∷ codes "int" ∷ codes "endx" ∷ codes "en" ∷ codes "suc" ∷ codes "all" ∷ [])
    ≡ (other_word ∷ other_word ∷ other_word ∷ other_word ∷ other_word ∷ other_word ∷ [])
unfolding word_kind
others = refl

-- a number has its kind by its value
pub numbers : map (λ digits. number_kind (value digits))
    (codes "0" ∷ codes "000" ∷ codes "1" ∷ codes "01" ∷ codes "2" ∷ codes "3" ∷ codes "8" ∷ codes "9" ∷ codes "10" ∷ [])
    ≡ (zero_number ∷ zero_number ∷ one_number ∷ one_number ∷ two_number ∷ small_number ∷ small_number ∷ other_number ∷ other_number ∷ [])
numbers = refl
