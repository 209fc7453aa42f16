-- The words that have a kind of their own.
use Rattle.std.specs.Prelude.{ℕ, List, [], ◌∷◌, codes}
use Rattle.tg_tables.specs.Rows.{Entry, entry}
use Rattle.tg_grammar.specs.Kinds.{all_e_rule, all_i_rule, all_word, and_i_rule, and_l_rule, and_r_rule, answer_word, begin_word, bool_word}
use Rattle.tg_grammar.specs.Kinds.{bound_word, case_word, certificate_word, compute_rule, cut_rule, datatype_word, deep_rule, definition_word}
use Rattle.tg_grammar.specs.Kinds.{depth_word, div_word, else_word, end_word, exhaust_rule, exists_e_rule, exists_i_rule, exists_word, false_rule}
use Rattle.tg_grammar.specs.Kinds.{false_word, grow_rule, hyp_rule, if_word, imp_i_rule, in_word, let_word, mod_word, mp_rule, nat_word, of_word}
use Rattle.tg_grammar.specs.Kinds.{outcomes_word, primrec_word, program_word, raised_word, refl_rule, replace_rule, schema_rule, seed_word, spec_word}
use Rattle.tg_grammar.specs.Kinds.{split_rule, suc_word, sym_rule, tested_word, then_word, theory_word, thyp_e_rule, thyp_i_rule, thyp_word}
use Rattle.tg_grammar.specs.Kinds.{trans_rule, tries_word, true_rule, true_word, version_word, weak_rule, where_word, width_word}

-- in version 1 of the language, in the order of their bytes: the reserved words, and words that have a meaning in one place and
-- are names elsewhere
abbrev pub version_one : List Entry
version_one = entry (codes "ALL") all_word
    ∷ entry (codes "EX") exists_word
    ∷ entry (codes "False") false_word
    ∷ entry (codes "Suc") suc_word
    ∷ entry (codes "THYP") thyp_word
    ∷ entry (codes "True") true_word
    ∷ entry (codes "allE") all_e_rule
    ∷ entry (codes "allI") all_i_rule
    ∷ entry (codes "andI") and_i_rule
    ∷ entry (codes "andL") and_l_rule
    ∷ entry (codes "andR") and_r_rule
    ∷ entry (codes "answer") answer_word
    ∷ entry (codes "begin") begin_word
    ∷ entry (codes "bool") bool_word
    ∷ entry (codes "bound") bound_word
    ∷ entry (codes "case") case_word
    ∷ entry (codes "certificate") certificate_word
    ∷ entry (codes "compute") compute_rule
    ∷ entry (codes "cut") cut_rule
    ∷ entry (codes "datatype") datatype_word
    ∷ entry (codes "deep") deep_rule
    ∷ entry (codes "definition") definition_word
    ∷ entry (codes "depth") depth_word
    ∷ entry (codes "div") div_word
    ∷ entry (codes "else") else_word
    ∷ entry (codes "end") end_word
    ∷ entry (codes "exE") exists_e_rule
    ∷ entry (codes "exI") exists_i_rule
    ∷ entry (codes "exhaust") exhaust_rule
    ∷ entry (codes "false") false_rule
    ∷ entry (codes "grow") grow_rule
    ∷ entry (codes "hyp") hyp_rule
    ∷ entry (codes "if") if_word
    ∷ entry (codes "impI") imp_i_rule
    ∷ entry (codes "in") in_word
    ∷ entry (codes "let") let_word
    ∷ entry (codes "mod") mod_word
    ∷ entry (codes "mp") mp_rule
    ∷ entry (codes "nat") nat_word
    ∷ entry (codes "of") of_word
    ∷ entry (codes "outcomes") outcomes_word
    ∷ entry (codes "primrec") primrec_word
    ∷ entry (codes "program") program_word
    ∷ entry (codes "raised") raised_word
    ∷ entry (codes "refl") refl_rule
    ∷ entry (codes "replace") replace_rule
    ∷ entry (codes "schema") schema_rule
    ∷ entry (codes "seed") seed_word
    ∷ entry (codes "spec") spec_word
    ∷ entry (codes "split") split_rule
    ∷ entry (codes "sym") sym_rule
    ∷ entry (codes "tested") tested_word
    ∷ entry (codes "then") then_word
    ∷ entry (codes "theory") theory_word
    ∷ entry (codes "thypE") thyp_e_rule
    ∷ entry (codes "thypI") thyp_i_rule
    ∷ entry (codes "trans") trans_rule
    ∷ entry (codes "tries") tries_word
    ∷ entry (codes "true") true_rule
    ∷ entry (codes "version") version_word
    ∷ entry (codes "weak") weak_rule
    ∷ entry (codes "where") where_word
    ∷ entry (codes "width") width_word
    ∷ []

-- the kinds of names that are no ordinary ones
abbrev pub local_kinds : List ℕ
local_kinds = depth_word ∷ bound_word ∷ seed_word ∷ tries_word ∷ width_word ∷ answer_word ∷ raised_word ∷ all_word ∷ exists_word
    ∷ thyp_word ∷ tested_word ∷ hyp_rule ∷ weak_rule ∷ cut_rule ∷ grow_rule ∷ and_i_rule ∷ and_l_rule ∷ and_r_rule
    ∷ imp_i_rule ∷ mp_rule ∷ all_i_rule ∷ all_e_rule ∷ exists_i_rule ∷ exists_e_rule ∷ thyp_i_rule ∷ thyp_e_rule ∷ true_rule
    ∷ false_rule ∷ split_rule ∷ refl_rule ∷ sym_rule ∷ trans_rule ∷ replace_rule ∷ schema_rule ∷ exhaust_rule ∷ deep_rule
    ∷ compute_rule ∷ []
