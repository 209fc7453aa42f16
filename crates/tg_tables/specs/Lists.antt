-- The reserved words, the symbols and the names of the rewrite schemas, each with its place in its list.
use Rattle.std.specs.Prelude.{List, [], ◌∷◌, codes}
use Rattle.tg_tables.specs.Rows.{Entry, entry}
use Rattle.tg_tables.specs.SymbolCodes.{open_paren, close_paren, open_brace, close_brace, open_bracket, close_bracket, comma, semicolon, dot, equal, less}
use Rattle.tg_tables.specs.SymbolCodes.{less_equal, plus, minus, times, and, or, not, arrow, double_arrow, double_colon, question, bang}

-- the reserved words, in the order of their bytes
abbrev pub reserved_words : List Entry
reserved_words = entry (codes "False") 24
    ∷ entry (codes "Suc") 22
    ∷ entry (codes "True") 23
    ∷ entry (codes "begin") 3
    ∷ entry (codes "bool") 26
    ∷ entry (codes "case") 18
    ∷ entry (codes "certificate") 12
    ∷ entry (codes "datatype") 5
    ∷ entry (codes "definition") 7
    ∷ entry (codes "div") 20
    ∷ entry (codes "else") 15
    ∷ entry (codes "end") 4
    ∷ entry (codes "if") 13
    ∷ entry (codes "in") 17
    ∷ entry (codes "let") 16
    ∷ entry (codes "mod") 21
    ∷ entry (codes "nat") 25
    ∷ entry (codes "of") 19
    ∷ entry (codes "outcomes") 11
    ∷ entry (codes "primrec") 6
    ∷ entry (codes "program") 9
    ∷ entry (codes "spec") 10
    ∷ entry (codes "then") 14
    ∷ entry (codes "theory") 1
    ∷ entry (codes "version") 2
    ∷ entry (codes "where") 8
    ∷ []

-- the symbols, in the order of their bytes
abbrev pub symbol_list : List Entry
symbol_list = entry (codes "!") bang
    ∷ entry (codes "&") and
    ∷ entry (codes "(") open_paren
    ∷ entry (codes ")") close_paren
    ∷ entry (codes "*") times
    ∷ entry (codes "+") plus
    ∷ entry (codes ",") comma
    ∷ entry (codes "-") minus
    ∷ entry (codes "-->") arrow
    ∷ entry (codes ".") dot
    ∷ entry (codes "::") double_colon
    ∷ entry (codes ";") semicolon
    ∷ entry (codes "<") less
    ∷ entry (codes "<=") less_equal
    ∷ entry (codes "=") equal
    ∷ entry (codes "=>") double_arrow
    ∷ entry (codes "?") question
    ∷ entry (codes "[") open_bracket
    ∷ entry (codes "]") close_bracket
    ∷ entry (codes "{") open_brace
    ∷ entry (codes "|") or
    ∷ entry (codes "}") close_brace
    ∷ entry (codes "~") not
    ∷ []

-- the names of the rewrite schemas, in the order of their bytes
abbrev pub schema_list : List Entry
schema_list = entry (codes "add_lit") 40
    ∷ entry (codes "and_false_l") 5
    ∷ entry (codes "and_false_r") 7
    ∷ entry (codes "and_same") 8
    ∷ entry (codes "and_true_l") 4
    ∷ entry (codes "and_true_r") 6
    ∷ entry (codes "case_con") 23
    ∷ entry (codes "case_lit") 25
    ∷ entry (codes "case_suc") 24
    ∷ entry (codes "div_lit") 43
    ∷ entry (codes "eq_con") 31
    ∷ entry (codes "eq_con_diff") 32
    ∷ entry (codes "eq_false") 38
    ∷ entry (codes "eq_lit") 33
    ∷ entry (codes "eq_same") 30
    ∷ entry (codes "eq_suc") 34
    ∷ entry (codes "eq_suc_lit") 36
    ∷ entry (codes "eq_true") 37
    ∷ entry (codes "eq_zero_suc") 35
    ∷ entry (codes "if_false") 20
    ∷ entry (codes "if_same") 21
    ∷ entry (codes "if_true") 19
    ∷ entry (codes "imp_false_l") 15
    ∷ entry (codes "imp_false_r") 17
    ∷ entry (codes "imp_same") 18
    ∷ entry (codes "imp_true_l") 14
    ∷ entry (codes "imp_true_r") 16
    ∷ entry (codes "le_lit") 48
    ∷ entry (codes "le_same") 47
    ∷ entry (codes "less_lit") 46
    ∷ entry (codes "less_same") 45
    ∷ entry (codes "let_sub") 22
    ∷ entry (codes "mod_lit") 44
    ∷ entry (codes "mul_lit") 42
    ∷ entry (codes "not_false") 2
    ∷ entry (codes "not_not") 3
    ∷ entry (codes "not_true") 1
    ∷ entry (codes "or_false_l") 10
    ∷ entry (codes "or_false_r") 12
    ∷ entry (codes "or_same") 13
    ∷ entry (codes "or_true_l") 9
    ∷ entry (codes "or_true_r") 11
    ∷ entry (codes "sub_lit") 41
    ∷ entry (codes "suc_lit") 39
    ∷ entry (codes "unfold_con") 27
    ∷ entry (codes "unfold_def") 26
    ∷ entry (codes "unfold_lit") 29
    ∷ entry (codes "unfold_suc") 28
    ∷ []
