-- Whether a formula comes from another by replacing some occurrences of a term by another, as a test.
use Rattle.std.specs.Prelude.{Bool, true, false, ◌&&◌, ◌||◌, nat_eq}
use Rattle.tg_model.specs.Tree as tree
use Rattle.tg_model.specs.Tree.{Tree, Trees, Arms, con, call, put, choice, case, bind, op}
use Rattle.tg_model.specs.Equality.{same_tree, same_type}
use Rattle.tg_model.specs.Formula as formula
use Rattle.tg_model.specs.Formula.{Formula}
use Rattle.tg_rows.specs.Parts.{same_operator}

module _ (s t : Tree) where
  -- at the root, or not at all
  abbrev pub at_root : Tree → Tree → Bool
  at_root u v = (same_tree u s && same_tree v t) || same_tree u v

  abbrev mutual
    -- below the root
    pub below : Tree → Tree → Bool
    below (con c us) (con d vs) = nat_eq c d && all_replace us vs
    below (call f us) (call g vs) = nat_eq f g && all_replace us vs
    below (put us) (put vs) = all_replace us vs
    below (choice us) (choice vs) = all_replace us vs
    below (case d u bs) (case e v cs) = nat_eq d e && ((at_root u v || below u v) && arms_replace bs cs)
    below (bind u a) (bind v b) = (at_root u v || below u v) && (at_root a b || below a b)
    below (op o us) (op p vs) = same_operator o p && all_replace us vs
    below u v = false

    pub all_replace : Trees → Trees → Bool
    all_replace tree.none tree.none = true
    all_replace (tree.more u us) (tree.more v vs) = (at_root u v || below u v) && all_replace us vs
    all_replace us vs = false

    pub arms_replace : Arms → Arms → Bool
    arms_replace tree.end tree.end = true
    arms_replace (tree.arm m u bs) (tree.arm n v cs) = nat_eq m n && ((at_root u v || below u v) && arms_replace bs cs)
    arms_replace bs cs = false

  abbrev pub replaces : Formula → Formula → Bool
  replaces (formula.atom u) (formula.atom v) = at_root u v || below u v
  replaces (formula.both f g) (formula.both f' g') = replaces f f' && replaces g g'
  replaces (formula.implies f g) (formula.implies f' g') = replaces f f' && replaces g g'
  replaces (formula.all T f) (formula.all U g) = same_type T U && replaces f g
  replaces (formula.some T f) (formula.some U g) = same_type T U && replaces f g
  replaces (formula.thyp f) (formula.thyp g) = replaces f g
  replaces (formula.tested us) (formula.tested vs) = all_replace us vs
  replaces (formula.deep j us) (formula.deep k vs) = nat_eq j k && all_replace us vs
  replaces f g = false
