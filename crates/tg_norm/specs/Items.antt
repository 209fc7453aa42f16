-- The list of terms at the root of a term, where it has one, and another list in its place.
use Rattle.tg_model.specs.Tree as tree
use Rattle.tg_model.specs.Tree.{Tree, Trees, con, call, put, choice, op}

abbrev pub items : Tree → Trees
items (con c ts) = ts
items (call f ts) = ts
items (put ts) = ts
items (choice ts) = ts
items (op o ts) = ts
items t = tree.none

abbrev pub with_items : Tree → Trees → Tree
with_items (con c ts) us = con c us
with_items (call f ts) us = call f us
with_items (put ts) us = put us
with_items (choice ts) us = choice us
with_items (op o ts) us = op o us
with_items t us = t
