-- The names of what a theory declares. What isn't declared has no name: its text is empty.
use Rattle.std.specs.Prelude.{ℕ, zero, suc, List, [], codes, slice_get}
use Rattle.std.specs.Option.{option_map_or}
use Rattle.tg_model.specs.Theory.{Theory, Datatype, Constructor, Function, Owned, numbered, constructor_at}
use Rattle.tg_grammar.specs.Kinds.{suc_word}
use Rattle.tg_grammar.specs.Seen.{Seen}
use Rattle.tg_render.specs.Tokens.{mark, name, numeral}

abbrev pub datatype_name : Theory → ℕ → List ℕ
datatype_name th d = option_map_or (λ (x : Datatype). x.name) (numbered th.datatypes d) []

abbrev pub constructor_name : Theory → ℕ → List ℕ
constructor_name th c = option_map_or (λ (o : Owned). o.constructor.name) (constructor_at th c) []

abbrev pub function_name : Theory → ℕ → List ℕ
function_name th f = option_map_or (λ (x : Function). x.name) (numbered th.functions f) []

-- the name of the constructor at a place, from 0, among some
abbrev pub name_at : List Constructor → ℕ → List ℕ
name_at cs j = option_map_or (λ (c : Constructor). c.name) (slice_get cs j) []

abbrev pub constructors_of : Theory → ℕ → List Constructor
constructors_of th d = option_map_or (λ (x : Datatype). x.constructors) (numbered th.datatypes d) []

-- the constructor of the branch at a place, from 0, of a `case` on datatype `d`, or with number 0 on the naturals
abbrev pub branch_head : Theory → ℕ → ℕ → Seen
branch_head th zero zero = numeral 0
branch_head th zero (suc j) = mark suc_word (codes "Suc")
branch_head th (suc d) j = name (name_at (constructors_of th (suc d)) j)
