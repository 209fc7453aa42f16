-- The terms directly below the root of a term, each with the number of binders that stand between.
use Rattle.std.specs.Prelude.{ℕ, ◌≡◌, ◌≢◌, List, [], ◌∷◌, map}
use Rattle.tg_model.specs.Tree.{Tree, Trees, Arms, bound, free, literal, truth, con, call, put, choice, case, bind, op, none, more, end, arm, trees}
use Rattle.tg_term.specs.declared.terms.Branch.{Branch}
use Rattle.tg_term.specs.declared.parts.Below as declared

pub record Part : Type 0 where
  pub vars : ℕ
  pub term : Tree

abbrev pub seen : declared.Below → Part
seen p = record { vars = p.vars; term = p.term.now }

abbrev pub outside : Tree → Part
outside t = record { vars = 0; term = t }

abbrev pub body_part : Branch → Part
body_part b = record { vars = b.vars; term = b.body }

abbrev pub term_of : Part → Tree
term_of p = p.term

abbrev pub plain : Trees → List Part
plain none = []
plain (more t ts) = outside t ∷ plain ts

abbrev pub bodies : Arms → List Part
bodies end = []
bodies (arm n body arms) = record { vars = n; term = body } ∷ bodies arms

abbrev pub parts : Tree → List Part
parts (bound k) = []
parts (free n) = []
parts (literal n) = []
parts (truth b) = []
parts (con c ts) = plain ts
parts (call f ts) = plain ts
parts (put ts) = plain ts
parts (choice ts) = plain ts
parts (case d t arms) = outside t ∷ bodies arms
parts (bind t body) = outside t ∷ record { vars = 1; term = body } ∷ []
parts (op o ts) = plain ts

-- the branches with other bodies
abbrev pub with_bodies : Arms → List Tree → Arms
with_bodies (arm n body arms) (u ∷ us) = arm n u (with_bodies arms us)
with_bodies _ _ = end

-- the term with other terms in the places of those below its root
abbrev pub with_parts : Tree → List Tree → Tree
with_parts (con c ts) us = con c (trees us)
with_parts (call f ts) us = call f (trees us)
with_parts (put ts) us = put (trees us)
with_parts (choice ts) us = choice (trees us)
with_parts (case d t arms) (u ∷ us) = case d u (with_bodies arms us)
with_parts (bind t body) (u ∷ v ∷ []) = bind u v
with_parts (op o ts) us = op o (trees us)
with_parts t _ = t

-- what a walk `f` has made of some parts: a list of terms, which is empty where it left them as they are
pub record IsWalked (f : Part → Tree) (ps : List Part) (us : List Tree) : Type 0 where
  pub kept : us ≡ [] → map f ps ≡ map term_of ps
  pub made : us ≢ [] → us ≡ map f ps
