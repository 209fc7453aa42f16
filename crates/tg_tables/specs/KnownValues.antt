-- Each word, each symbol and each name of a rewrite schema has as its code its place in its list.
use Rattle.std.specs.Prelude.{◌≡◌, ℕ, List, [], ◌∷◌, map, codes, if◌then◌else◌}
use Rattle.std.specs.Str.{bytes_eq}
use Rattle.std.proofs.Common.{refl}
use Rattle.tg_tables.specs.Rows.{Entry}
use Rattle.tg_tables.specs.Lists.{reserved_words, symbol_list, schema_list}

-- the codes of the entries of this name
abbrev codes_of : List Entry → List ℕ → List ℕ
codes_of [] name = []
codes_of (e ∷ es) name = if bytes_eq e.name name then e.code ∷ codes_of es name else codes_of es name

pub places_of_words : map (codes_of reserved_words)
    (codes "theory" ∷ codes "version" ∷ codes "begin" ∷ codes "end" ∷ codes "datatype" ∷ codes "primrec"
    ∷ codes "definition" ∷ codes "where" ∷ codes "program" ∷ codes "spec" ∷ codes "outcomes" ∷ codes "certificate"
    ∷ codes "if" ∷ codes "then" ∷ codes "else" ∷ codes "let" ∷ codes "in" ∷ codes "case"
    ∷ codes "of" ∷ codes "div" ∷ codes "mod" ∷ codes "Suc" ∷ codes "True" ∷ codes "False"
    ∷ codes "nat" ∷ codes "bool" ∷ [])
    ≡ ((1 ∷ []) ∷ (2 ∷ []) ∷ (3 ∷ []) ∷ (4 ∷ []) ∷ (5 ∷ []) ∷ (6 ∷ []) ∷ (7 ∷ []) ∷ (8 ∷ []) ∷ (9 ∷ []) ∷ (10 ∷ []) ∷ (11 ∷ []) ∷ (12 ∷ []) ∷ (13 ∷ []) ∷ (14 ∷ []) ∷ (15 ∷ []) ∷ (16 ∷ []) ∷ (17 ∷ []) ∷ (18 ∷ []) ∷ (19 ∷ []) ∷ (20 ∷ []) ∷ (21 ∷ []) ∷ (22 ∷ []) ∷ (23 ∷ []) ∷ (24 ∷ []) ∷ (25 ∷ []) ∷ (26 ∷ []) ∷ [])
places_of_words = refl

pub places_of_symbols : map (codes_of symbol_list)
    (codes "(" ∷ codes ")" ∷ codes "{" ∷ codes "}" ∷ codes "[" ∷ codes "]"
    ∷ codes "," ∷ codes ";" ∷ codes "." ∷ codes "=" ∷ codes "<" ∷ codes "<="
    ∷ codes "+" ∷ codes "-" ∷ codes "*" ∷ codes "&" ∷ codes "|" ∷ codes "~"
    ∷ codes "-->" ∷ codes "=>" ∷ codes "::" ∷ codes "?" ∷ codes "!" ∷ [])
    ≡ ((1 ∷ []) ∷ (2 ∷ []) ∷ (3 ∷ []) ∷ (4 ∷ []) ∷ (5 ∷ []) ∷ (6 ∷ []) ∷ (7 ∷ []) ∷ (8 ∷ []) ∷ (9 ∷ []) ∷ (10 ∷ []) ∷ (11 ∷ []) ∷ (12 ∷ []) ∷ (13 ∷ []) ∷ (14 ∷ []) ∷ (15 ∷ []) ∷ (16 ∷ []) ∷ (17 ∷ []) ∷ (18 ∷ []) ∷ (19 ∷ []) ∷ (20 ∷ []) ∷ (21 ∷ []) ∷ (22 ∷ []) ∷ (23 ∷ []) ∷ [])
places_of_symbols = refl

pub places_of_schemas : map (codes_of schema_list)
    (codes "not_true" ∷ codes "not_false" ∷ codes "not_not" ∷ codes "and_true_l" ∷ codes "and_false_l" ∷ codes "and_true_r"
    ∷ codes "and_false_r" ∷ codes "and_same" ∷ codes "or_true_l" ∷ codes "or_false_l" ∷ codes "or_true_r" ∷ codes "or_false_r"
    ∷ codes "or_same" ∷ codes "imp_true_l" ∷ codes "imp_false_l" ∷ codes "imp_true_r" ∷ codes "imp_false_r" ∷ codes "imp_same"
    ∷ codes "if_true" ∷ codes "if_false" ∷ codes "if_same" ∷ codes "let_sub" ∷ codes "case_con" ∷ codes "case_suc"
    ∷ codes "case_lit" ∷ codes "unfold_def" ∷ codes "unfold_con" ∷ codes "unfold_suc" ∷ codes "unfold_lit" ∷ codes "eq_same"
    ∷ codes "eq_con" ∷ codes "eq_con_diff" ∷ codes "eq_lit" ∷ codes "eq_suc" ∷ codes "eq_zero_suc" ∷ codes "eq_suc_lit"
    ∷ codes "eq_true" ∷ codes "eq_false" ∷ codes "suc_lit" ∷ codes "add_lit" ∷ codes "sub_lit" ∷ codes "mul_lit"
    ∷ codes "div_lit" ∷ codes "mod_lit" ∷ codes "less_same" ∷ codes "less_lit" ∷ codes "le_same" ∷ codes "le_lit" ∷ [])
    ≡ ((1 ∷ []) ∷ (2 ∷ []) ∷ (3 ∷ []) ∷ (4 ∷ []) ∷ (5 ∷ []) ∷ (6 ∷ []) ∷ (7 ∷ []) ∷ (8 ∷ []) ∷ (9 ∷ []) ∷ (10 ∷ []) ∷ (11 ∷ []) ∷ (12 ∷ []) ∷ (13 ∷ []) ∷ (14 ∷ []) ∷ (15 ∷ []) ∷ (16 ∷ []) ∷ (17 ∷ []) ∷ (18 ∷ []) ∷ (19 ∷ []) ∷ (20 ∷ []) ∷ (21 ∷ []) ∷ (22 ∷ []) ∷ (23 ∷ []) ∷ (24 ∷ []) ∷ (25 ∷ []) ∷ (26 ∷ []) ∷ (27 ∷ []) ∷ (28 ∷ []) ∷ (29 ∷ []) ∷ (30 ∷ []) ∷ (31 ∷ []) ∷ (32 ∷ []) ∷ (33 ∷ []) ∷ (34 ∷ []) ∷ (35 ∷ []) ∷ (36 ∷ []) ∷ (37 ∷ []) ∷ (38 ∷ []) ∷ (39 ∷ []) ∷ (40 ∷ []) ∷ (41 ∷ []) ∷ (42 ∷ []) ∷ (43 ∷ []) ∷ (44 ∷ []) ∷ (45 ∷ []) ∷ (46 ∷ []) ∷ (47 ∷ []) ∷ (48 ∷ []) ∷ [])
places_of_schemas = refl
