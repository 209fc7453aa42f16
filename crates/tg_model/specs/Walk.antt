-- Substitution, as one walk over a term: what stands for a bound and for a free variable is given by functions of the
-- number of binders that were passed and of the variable's number.
use Rattle.std.specs.Prelude.{ℕ, false, ◌+◌, ◌-◌, nat_eq, nat_lt, List, reverse, length, slice_get, if◌then◌else◌}
use Rattle.std.specs.Option.{option_map_or}
use Rattle.tg_model.specs.Tree as tree
use Rattle.tg_model.specs.Tree.{Tree, Trees, Arms, bound, free, literal, truth, con, call, put, choice, case, bind, op, arm, end}
use Rattle.tg_model.specs.Formula.{Formula, atom, both, implies, all, some, thyp, tested, deep}
use Rattle.tg_model.specs.Theory.{numbered}

module _ (on_bound on_free : ℕ → ℕ → Tree) where
  abbrev mutual
    pub walk : ℕ → Tree → Tree
    walk d (bound k) = on_bound d k
    walk d (free n) = on_free d n
    walk d (literal n) = literal n
    walk d (truth b) = truth b
    walk d (con c ts) = con c (walk_all d ts)
    walk d (call f ts) = call f (walk_all d ts)
    walk d (put ts) = put (walk_all d ts)
    walk d (choice ts) = choice (walk_all d ts)
    walk d (case e t arms) = case e (walk d t) (walk_arms d arms)
    walk d (bind t body) = bind (walk d t) (walk (d + 1) body)
    walk d (op o ts) = op o (walk_all d ts)

    pub walk_all : ℕ → Trees → Trees
    walk_all d tree.none = tree.none
    walk_all d (tree.more t ts) = tree.more (walk d t) (walk_all d ts)

    pub walk_arms : ℕ → Arms → Arms
    walk_arms d end = end
    walk_arms d (arm n body arms) = arm n (walk (d + n) body) (walk_arms d arms)

  abbrev pub walk_formula : ℕ → Formula → Formula
  walk_formula d (atom t) = atom (walk d t)
  walk_formula d (both f g) = both (walk_formula d f) (walk_formula d g)
  walk_formula d (implies f g) = implies (walk_formula d f) (walk_formula d g)
  walk_formula d (all t f) = all t (walk_formula (d + 1) f)
  walk_formula d (some t f) = some t (walk_formula (d + 1) f)
  walk_formula d (thyp f) = thyp (walk_formula d f)
  walk_formula d (tested ts) = tested (walk_all d ts)
  walk_formula d (deep k ts) = deep k (walk_all d ts)

-- a loose bound variable, one whose binder wasn't passed, goes up by `by`
abbrev pub raised : ℕ → ℕ → ℕ → Tree
raised by d k = if nat_lt k d then bound k else bound (k + by)

abbrev pub as_free : ℕ → ℕ → Tree
as_free d n = free n

abbrev pub as_bound : ℕ → ℕ → Tree
as_bound d k = bound k

abbrev pub lifted : ℕ → Tree → Tree
lifted by t = walk (raised by) as_free 0 t

-- `?n` is the n-th of the terms, lifted over the binders that were passed; where there is none, the use is False
abbrev pub given : List Tree → ℕ → ℕ → Tree
given us d n = option_map_or (lifted d) (numbered us n) (truth false)

abbrev pub substituted : List Tree → Tree → Tree
substituted us t = walk as_bound (given us) 0 t

-- the last of the terms is the innermost loose bound variable; the loose ones beyond them go down by their number
abbrev pub filled : List Tree → ℕ → ℕ → Tree
filled us d k = if nat_lt k d then bound k else option_map_or (lifted d) (slice_get (reverse us) (k - d)) (bound (k - length us))

abbrev pub instantiated : List Tree → Tree → Tree
instantiated us t = walk (filled us) as_free 0 t

-- `?n` becomes the innermost loose bound variable, and the others go up
abbrev pub bound_for : ℕ → ℕ → ℕ → Tree
bound_for n d m = if nat_eq m n then bound d else free m

abbrev pub abstracted : ℕ → Tree → Tree
abstracted n t = walk (raised 1) (bound_for n) 0 t

abbrev pub substituted_formula : List Tree → Formula → Formula
substituted_formula us f = walk_formula as_bound (given us) 0 f

abbrev pub instantiated_formula : List Tree → Formula → Formula
instantiated_formula us f = walk_formula (filled us) as_free 0 f

abbrev pub abstracted_formula : ℕ → Formula → Formula
abstracted_formula n f = walk_formula (raised 1) (bound_for n) 0 f
