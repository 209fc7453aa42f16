-- What is asked for a need: beyond it, that no type which is given has an open one in it. In a book all types are closed.
use Rattle.tg_model.specs.Types.{tys}
use Rattle.tg_model.specs.Theory.{Theory}
use Rattle.tg_shared_types.specs.Growth.{IsDeclared, AreDeclared}
use Rattle.tg_calculus.specs.Draft.{Need, closed, formed, typed}
use Rattle.tg_calculus.specs.Step.{IsContext, IsFormula, IsTerm}

abbrev pub IsAsked : Theory → Need → Type 0
IsAsked th (closed G) = IsContext th G
IsAsked th (formed G F) = AreDeclared (tys G) × IsFormula th G F
IsAsked th (typed G t T) = AreDeclared (tys G) × IsDeclared T × IsTerm th G t T
