-- Known values of the grammar and of the load.
use Rattle.std.specs.Prelude.{◌≡◌, ◌^◌, true, false, [], ◌∷◌, Some, None, codes, replicate}
use Rattle.std.proofs.Common.{refl}
use Rattle.tg_tables.specs.Lists.{symbol_list}
use Rattle.tg_lex.specs.declared.load.Effect.TheVariants.{Opens, Closes, Resets, Counts, Nothing}
use Rattle.tg_lex.specs.Grammar.{is_word, is_type_variable, is_number, code_in, value, after_comment}
use Rattle.tg_lex.specs.Load.{effect, step, load_of, passes}

pub word : is_word (codes "x_1") ≡ true
word = refl

pub no_word : is_word (codes "_x") ≡ false
no_word = refl

pub variable : is_type_variable (codes "'a0") ≡ true
variable = refl

pub no_variable : is_type_variable (codes "'0a") ≡ false
no_variable = refl

pub zeros_before : value (codes "007") ≡ 7
zeros_before = refl

pub least_too_large : value (codes "18446744073709551616") ≡ 2 ^ 64
least_too_large = refl

pub no_digits : is_number [] ≡ false
no_digits = refl

pub less_equal : code_in symbol_list (codes "<=") ≡ Some 12
less_equal = refl

pub no_symbol : code_in symbol_list (codes "==>") ≡ None
no_symbol = refl

pub nested : after_comment (codes "(*(**)*)x") ≡ Some (codes "x")
nested = refl

-- both bytes of `(*` and `*)` are taken
pub star_once : after_comment (codes "(*)") ≡ None
star_once = refl

pub shortest : after_comment (codes "(**)") ≡ Some []
shortest = refl

pub not_closed : after_comment (codes "(*(*)*)") ≡ None
not_closed = refl

pub brackets : load_of (step Opens (step Opens (0 ∷ []))) ≡ 2
brackets = refl

-- `(a + b, - c`: a bracket and what stands since the comma
pub since_the_comma : load_of (step Counts (step Resets (step Counts (step Opens (0 ∷ []))))) ≡ 2
since_the_comma = refl

pub only_one_stays : step Closes (3 ∷ []) ≡ 3 ∷ []
only_one_stays = refl

pub arrow_counts : effect (codes "-->") ≡ Counts
unfolding effect
arrow_counts = refl

pub double_arrow_is_free : effect (codes "=>") ≡ Nothing
unfolding effect
double_arrow_is_free = refl

-- the bracket at which the limit is passed counts itself
pub second_bracket : passes 1 (0 ∷ []) (replicate 2 (codes "(")) ≡ true
unfolding effect
second_bracket = refl

pub first_bracket : passes 1 (0 ∷ []) (replicate 1 (codes "(")) ≡ false
unfolding effect
first_bracket = refl
