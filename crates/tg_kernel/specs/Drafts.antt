-- The program's drafts as those of the calculus.
use Rattle.std.specs.Prelude.{◌≡◌, List, [], ◌∷◌, Option, Some, None, option_map}
use Rattle.tg_model.specs.Formula.{Sequent}
use Rattle.tg_model.specs.Theory.{Theory}
use Rattle.tg_types.specs.Types.{ty}
use Rattle.tg_calculus.specs.Draft as calculus
use Rattle.tg_calculus.specs.Draft.{draft}
use Rattle.tg_calculus.specs.Rule.{Rule}
use Rattle.tg_kernel.specs.Sequents.{sequent}
use Rattle.tg_kernel.specs.declared.drafts.Need.{Need}
use Rattle.tg_kernel.specs.declared.drafts.Need.TheVariants.{Closed, Formed, Typed}
use Rattle.tg_kernel.specs.declared.drafts.Draft.{Draft}

abbrev pub need : Need → calculus.Need
need (Closed G) = calculus.closed G
need (Formed G F) = calculus.formed G F
need (Typed G t T) = calculus.typed G t (ty T)

abbrev pub needs : Option Need → Option Need → List calculus.Need
needs None None = []
needs None (Some n) = need n ∷ []
needs (Some m) None = need m ∷ []
needs (Some m) (Some n) = need m ∷ need n ∷ []

abbrev pub drafted : Draft → calculus.Draft
drafted d = record { needs = needs d.first d.second; conclusion = sequent d.conclusion }

abbrev pub made : Option Draft → Option calculus.Draft
made o = option_map drafted o

-- just what the rule makes of the premises
abbrev pub Drafts : Theory → Rule → List Sequent → Option Draft → Type 0
Drafts th r ps o = made o ≡ draft th r ps
