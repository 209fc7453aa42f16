-- A derivation: a tree whose nodes are sequents, each given by a rule from its children.
use Rattle.std.specs.Prelude.{List, [], ◌∷◌}
use Rattle.tg_model.specs.Formula.{Sequent}
use Rattle.tg_model.specs.Theory.{Theory}
use Rattle.tg_calculus.specs.Rule.{Rule}
use Rattle.tg_calculus.specs.Step.{Step}

module _ (th : Theory) where
  mutual
    pub data Derives : Sequent → Type 0 where
      by_rule : (r : Rule) {ps : List Sequent} {s : Sequent} → AllDerived ps → Step th r ps s → Derives s

    pub data AllDerived : List Sequent → Type 0 where
      none : AllDerived []
      more : {p : Sequent} {ps : List Sequent} → Derives p → AllDerived ps → AllDerived (p ∷ ps)
