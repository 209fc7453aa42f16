-- What a typing of a term tells of the typings of its parts.
use Rattle.std.proofs.Common.{ℕ, ◌≡◌, Bool, List, [], ◌∷◌}
use Rattle.tg_model.specs.Tree as tree
use Rattle.tg_model.specs.Tree.{Tree, literal, truth, choice, op, one, two, Operator}
use Rattle.tg_model.specs.Types.{Ty, nat, bool}
use Rattle.tg_model.specs.Theory.{Theory}
use Rattle.tg_model.specs.TermTyping.{Typing, leaf, instanced, compound, branching, binding, none, more, type_of, IsOperation, IsTyping}

module _ (th : Theory) (vars locs : List Ty) where
  pub truth_type : (b : Bool) (d : Typing) → IsTyping th vars locs (truth b) d → type_of d ≡ bool
  truth_type b (leaf t) h = h
  truth_type b d h = absurd h

  pub literal_type : (n : ℕ) (d : Typing) → IsTyping th vars locs (literal n) d → type_of d ≡ nat
  literal_type n (leaf t) h = h
  literal_type n d h = absurd h

  pub unary : {P : Type 0} (o : Operator) (t : Tree) (d : Typing) → IsTyping th vars locs (op o (one t)) d
      → ((a : Typing) → IsTyping th vars locs t a → IsOperation o (type_of a ∷ []) (type_of d) → P) → P
  unary o t (compound u (more a none)) h f = f a h.1.0 h.0
  unary o t (compound u none) h f = absurd h.1
  unary o t (compound u (more a (more b ds))) h f = absurd h.1.1
  unary o t (leaf u) h f = absurd h
  unary o t (instanced us u ds) h f = absurd h
  unary o t (branching us u d arms) h f = absurd h
  unary o t (binding u v d e) h f = absurd h

  pub binary : {P : Type 0} (o : Operator) (t u : Tree) (d : Typing) → IsTyping th vars locs (op o (two t u)) d
      → ((a b : Typing) → IsTyping th vars locs t a → IsTyping th vars locs u b → IsOperation o (type_of a ∷ type_of b ∷ []) (type_of d) → P) → P
  binary o t u (compound v (more a (more b none))) h f = f a b h.1.0 h.1.1.0 h.0
  binary o t u (compound v none) h f = absurd h.1
  binary o t u (compound v (more a none)) h f = absurd h.1.1
  binary o t u (compound v (more a (more b (more c ds)))) h f = absurd h.1.1.1
  binary o t u (leaf v) h f = absurd h
  binary o t u (instanced us v ds) h f = absurd h
  binary o t u (branching us v d arms) h f = absurd h
  binary o t u (binding v w d e) h f = absurd h

  three_types : (a b c u : Ty) → a ∷ b ∷ c ∷ [] ≡ bool ∷ u ∷ u ∷ [] → (a ≡ bool) × (b ≡ u) × (c ≡ u)
  three_types a b c u e = (cc e, cc e, cc e)

  -- `if t then u else v`
  pub conditional : {P : Type 0} (t u v : Tree) (d : Typing) → IsTyping th vars locs (choice (tree.more t (two u v))) d
      → ((a b c : Typing) → IsTyping th vars locs t a → IsTyping th vars locs u b → IsTyping th vars locs v c
      → (type_of a ≡ bool) × (type_of b ≡ type_of d) × (type_of c ≡ type_of d) → P) → P
  conditional t u v (compound w (more a (more b (more c none)))) h f =
      f a b c h.1.0 h.1.1.0 h.1.1.1.0 (three_types (type_of a) (type_of b) (type_of c) w h.0)
  conditional t u v (compound w none) h f = absurd h.1
  conditional t u v (compound w (more a none)) h f = absurd h.1.1
  conditional t u v (compound w (more a (more b none))) h f = absurd h.1.1.1
  conditional t u v (compound w (more a (more b (more c (more d ds))))) h f = absurd h.1.1.1.1
  conditional t u v (leaf w) h f = absurd h
  conditional t u v (instanced us w ds) h f = absurd h
  conditional t u v (branching us w d arms) h f = absurd h
  conditional t u v (binding w x d e) h f = absurd h
