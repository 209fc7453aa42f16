-- How the logic stores a theory.
use Rattle.std.specs.Prelude.{ℕ, List, refl}
use Rattle.std.specs.Coded.{Coded, code_by, coded×, coded_ℕ, coded_list}
use Rattle.tg_model.specs.Tree.{Tree}
use Rattle.tg_model.specs.Theory.{Theory, Datatype, Function, Program}
use Rattle.tg_term.specs.Code.{coded_tree}
use Rattle.tg_declarations.specs.Code.{coded_datatype, coded_function, coded_program}

abbrev pub coded_theory : Coded Theory
coded_theory =
    code_by (List ℕ × (List Datatype × (List Function × (Program × Tree))))
    (coded× (coded_list coded_ℕ) (coded× (coded_list coded_datatype) (coded× (coded_list coded_function) (coded× coded_program coded_tree))))
    (λ th. (th.name, (th.datatypes, (th.functions, (th.program, th.specification)))))
    (λ p. record { name = p.0; datatypes = p.1.0; functions = p.1.1.0; program = p.1.1.1.0; specification = p.1.1.1.1 }) (λ _. refl)
