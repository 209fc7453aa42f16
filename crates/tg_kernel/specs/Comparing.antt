-- Equality of types and formulas, root by root.
use Rattle.std.specs.Prelude.{Bool, true, false, ◌&&◌, nat_eq}
use Rattle.tg_model.specs.Tree as tree
use Rattle.tg_model.specs.Tree.{Tree, Trees}
use Rattle.tg_model.specs.Types as types
use Rattle.tg_model.specs.Types.{Ty, Tys, nat, bool, parameter, meta, applied}
use Rattle.tg_model.specs.Formula.{Formula, atom, both, implies, all, some, thyp, tested, deep}
use Rattle.tg_model.specs.Equality.{same_tree, same_type}

abbrev mutual
  pub type_alike : Ty → Ty → Bool
  type_alike nat nat = true
  type_alike bool bool = true
  type_alike (parameter m) (parameter n) = nat_eq m n
  type_alike (meta m) (meta n) = nat_eq m n
  type_alike (applied d ts) (applied e us) = nat_eq d e && all_types_alike ts us
  type_alike t u = false

  pub all_types_alike : Tys → Tys → Bool
  all_types_alike types.none types.none = true
  all_types_alike (types.more t ts) (types.more u us) = type_alike t u && all_types_alike ts us
  all_types_alike ts us = false

abbrev pub all_alike : Trees → Trees → Bool
all_alike tree.none tree.none = true
all_alike (tree.more t ts) (tree.more u us) = same_tree t u && all_alike ts us
all_alike ts us = false

abbrev pub alike : Formula → Formula → Bool
alike (atom t) (atom u) = same_tree t u
alike (both f g) (both f' g') = alike f f' && alike g g'
alike (implies f g) (implies f' g') = alike f f' && alike g g'
alike (all t f) (all u g) = same_type t u && alike f g
alike (some t f) (some u g) = same_type t u && alike f g
alike (thyp f) (thyp g) = alike f g
alike (tested ts) (tested us) = all_alike ts us
alike (deep j ts) (deep k us) = nat_eq j k && all_alike ts us
alike f g = false
