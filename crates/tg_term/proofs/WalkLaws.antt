-- A walk, by the terms below a root.
use Rattle.std.proofs.Common.{ℕ, ◌≡◌, ◌≢◌, ◌+◌, map, refl, ap, add-zero}
use Rattle.tg_model.specs.Tree as model
use Rattle.tg_model.specs.Tree.{Tree, Trees, Arms, con, call, put, choice, case, bind, op, trees}
use Rattle.tg_model.specs.Walk.{walk, walk_all, walk_arms}
use Rattle.tg_term.specs.Parts.{Part, term_of, plain, bodies, parts, with_bodies, with_parts}
use Rattle.tg_term.specs.Operators.{operator}
use Rattle.tg_term.specs.View.{tree, arms}
use Rattle.tg_term.specs.declared.terms.Node.{Node}
use Rattle.tg_term.specs.declared.terms.Node.TheVariants.{Bound, Free, Lit, Truth, Con, Call, Put, If, Case, Let, Op}

pub kept_plain : (ts : Trees) → trees (map term_of (plain ts)) ≡ ts
kept_plain model.none = refl
kept_plain (model.more t ts) = ap (model.more t) (kept_plain ts)

kept_bodies : (bs : Arms) → with_bodies bs (map term_of (bodies bs)) ≡ bs
kept_bodies model.end = refl
kept_bodies (model.arm n t bs) = ap (model.arm n t) (kept_bodies bs)

pub kept_parts : (n : Node) → with_parts (tree n) (map term_of (parts (tree n))) ≡ tree n
kept_parts (Bound k) = refl
kept_parts (Free n) = refl
kept_parts (Lit n) = refl
kept_parts (Truth b) = refl
kept_parts (Con c ts) = ap (con c) (kept_plain (trees ts))
kept_parts (Call f ts) = ap (call f) (kept_plain (trees ts))
kept_parts (Put ts) = ap put (kept_plain (trees ts))
kept_parts (If ts) = ap choice (kept_plain (trees ts))
kept_parts (Case d t bs) = ap (case d t) (kept_bodies (arms bs))
kept_parts (Let t body) = refl
kept_parts (Op o ts) = ap (op (operator o)) (kept_plain (trees ts))

module _ (on_bound on_free : ℕ → ℕ → Tree) (d : ℕ) where
  abbrev pub walked : Part → Tree
  walked p = walk on_bound on_free (d + p.vars) p.term

  pub here : (t : Tree) → walk on_bound on_free (d + 0) t ≡ walk on_bound on_free d t
  here t = ap (λ n. walk on_bound on_free n t) (add-zero d)

  pub walked_plain : (ts : Trees) → trees (map walked (plain ts)) ≡ walk_all on_bound on_free d ts
  walked_plain model.none = refl
  walked_plain (model.more t ts) = λ i. model.more (here t i) (walked_plain ts i)

  walked_bodies : (bs : Arms) → with_bodies bs (map walked (bodies bs)) ≡ walk_arms on_bound on_free d bs
  walked_bodies model.end = refl
  walked_bodies (model.arm n t bs) = ap (model.arm n (walk on_bound on_free (d + n) t)) (walked_bodies bs)

  -- the walk over the term of a node that is no variable
  pub walked_parts : (n : Node) → ((k : ℕ) → n ≢ Bound k) → ((m : ℕ) → n ≢ Free m)
      → with_parts (tree n) (map walked (parts (tree n))) ≡ walk on_bound on_free d (tree n)
  walked_parts (Bound k) b f = absurd (b k refl)
  walked_parts (Free m) b f = absurd (f m refl)
  walked_parts (Lit n) b f = refl
  walked_parts (Truth x) b f = refl
  walked_parts (Con c ts) b f = ap (con c) (walked_plain (trees ts))
  walked_parts (Call g ts) b f = ap (call g) (walked_plain (trees ts))
  walked_parts (Put ts) b f = ap put (walked_plain (trees ts))
  walked_parts (If ts) b f = ap choice (walked_plain (trees ts))
  walked_parts (Case e t bs) b f = λ i. case e (here t i) (walked_bodies (arms bs) i)
  walked_parts (Let t body) b f = λ i. bind (here t i) (walk on_bound on_free (d + 1) body)
  walked_parts (Op o ts) b f = ap (op (operator o)) (walked_plain (trees ts))
