-- Terms of a pattern's shapes are the pattern at some variables, and the specification there is that at the pattern.
use Rattle.std.proofs.Common.{ℕ, zero, suc, ◌≡◌, ◌+◌, false, List, [], ◌∷◌, ◌++◌, length, refl, sym, ◌∙◌, ap, arith, append_assoc, length-append}
use Rattle.std.specs.Prelude.{slice_get}
use Rattle.std.specs.Option.{option_map_or}
use Rattle.tg_model.specs.Tree as tree
use Rattle.tg_model.specs.Tree.{Tree, Trees, bound, free, truth, con, elements}
use Rattle.tg_model.specs.Types.{Ty}
use Rattle.tg_model.specs.Theory.{Theory}
use Rattle.tg_model.specs.TermTyping.{leaf, AreListTyped}
use Rattle.tg_model.specs.Walk.{walk, walk_all, as_bound, raised, given, lifted, substituted}
use Rattle.tg_model.specs.Made.{AreMade}
use Rattle.tg_model.proofs.MadeTerms.{made_terms_stay}
use Rattle.tg_accept.specs.Checks.{Each}
use Rattle.tg_split.specs.Shapes.{Shape, Shapes, hole, node, none, more}
use Rattle.tg_split.specs.Patterns.{holes, all_holes, term_from, terms_from}
use Rattle.tg_derive.specs.Covering.{HasShape, HaveShapes}
use Rattle.tg_derive.proofs.WalkLaws.{composed}
use Rattle.tg_derive.proofs.Instances.{IsStill, item_there}
use Rattle.tg_calculus.specs.Sequent.{Context}

-- the variables in the holes, from the left
abbrev mutual
  pub at_holes : Shape → Tree → List Tree
  at_holes (hole T) t = t ∷ []
  at_holes (node c ss) (con d ts) = all_at_holes ss ts
  at_holes (node c ss) t = []

  pub all_at_holes : Shapes → Trees → List Tree
  all_at_holes (more s ss) (tree.more t ts) = at_holes s t ++ all_at_holes ss ts
  all_at_holes ss ts = []

each_both : {A : Type 0} (P : A → Type 0) (xs ys : List A) → Each P xs → Each P ys → Each P (xs ++ ys)
each_both P [] ys h k = k
each_both P (x ∷ xs) ys h k = (h.0, each_both P xs ys h.1 k)

list_both : (th : Theory) (G : Context) (xs ys : List Tree) (Ts Us : List Ty) → AreListTyped th G [] xs Ts → AreListTyped th G [] ys Us
    → AreListTyped th G [] (xs ++ ys) (Ts ++ Us)
list_both th G [] ys [] Us h k = k
list_both th G [] ys (T ∷ Ts) Us h k = absurd h
list_both th G (x ∷ xs) ys [] Us h k = absurd h
list_both th G (x ∷ xs) ys (T ∷ Ts) Us h k = (h.0, list_both th G xs ys Ts Us h.1 k)

module _ (th : Theory) (G : Context) where
  mutual
    holes_typed : (s : Shape) (t : Tree) → HasShape G s t → AreListTyped th G [] (at_holes s t) (holes s)
    holes_typed (hole T) (free n) h = ((leaf T, h, refl), tt)
    holes_typed (node c ss) (con d ts) h = all_holes_typed ss ts h.1
    holes_typed s t h = absurd h

    pub all_holes_typed : (ss : Shapes) (ts : Trees) → HaveShapes G ss ts → AreListTyped th G [] (all_at_holes ss ts) (all_holes ss)
    all_holes_typed none tree.none h = tt
    all_holes_typed (more s ss) (tree.more t ts) h =
        list_both th G (at_holes s t) (all_at_holes ss ts) (holes s) (all_holes ss) (holes_typed s t h.0) (all_holes_typed ss ts h.1)
    all_holes_typed ss ts h = absurd h

  mutual
    holes_still : (s : Shape) (t : Tree) → HasShape G s t → Each IsStill (at_holes s t)
    holes_still (hole T) (free n) h = ((λ b d. refl), tt)
    holes_still (node c ss) (con d ts) h = all_holes_still ss ts h.1
    holes_still s t h = absurd h

    pub all_holes_still : (ss : Shapes) (ts : Trees) → HaveShapes G ss ts → Each IsStill (all_at_holes ss ts)
    all_holes_still none tree.none h = tt
    all_holes_still (more s ss) (tree.more t ts) h =
        each_both IsStill (at_holes s t) (all_at_holes ss ts) (holes_still s t h.0) (all_holes_still ss ts h.1)
    all_holes_still ss ts h = absurd h

  mutual
    count_holes : (s : Shape) (t : Tree) → HasShape G s t → length (at_holes s t) ≡ length (holes s)
    count_holes (hole T) (free n) h = refl
    count_holes (node c ss) (con d ts) h = count_all_holes ss ts h.1
    count_holes s t h = absurd h

    count_all_holes : (ss : Shapes) (ts : Trees) → HaveShapes G ss ts → length (all_at_holes ss ts) ≡ length (all_holes ss)
    count_all_holes none tree.none h = refl
    count_all_holes (more s ss) (tree.more t ts) h =
        let a = count_holes s t h.0 in
        let b = count_all_holes ss ts h.1 in
        let l = length-append (at_holes s t) (all_at_holes ss ts) in
        let r = length-append (holes s) (all_holes ss) in
        omega (arith, a, b, l, r)
    count_all_holes ss ts h = absurd h

  -- the pattern's terms with the variables put in are the terms
  module _ (us : List Tree) (d : ℕ) where
    mutual
      put_in : (s : Shape) (t : Tree) (pre post : List Tree) (n : ℕ) → HasShape G s t → us ≡ pre ++ (at_holes s t ++ post) → n ≡ suc (length pre)
          → walk as_bound (given us) d (term_from n s) ≡ t
      put_in (hole T) (free m) pre post n h e q =
          ap (given us d) q
          ∙ ap (λ l. option_map_or (lifted d) (slice_get l (length pre)) (truth false)) e
          ∙ ap (λ o. option_map_or (lifted d) o (truth false)) (item_there pre (free m) post)
      put_in (node c ss) (con x ts) pre post n h e q = (λ i. con (h.0 i) (all_put_in ss ts pre post n h.1 e q i))
      put_in s t pre post n h e q = absurd h

      all_put_in : (ss : Shapes) (ts : Trees) (pre post : List Tree) (n : ℕ) → HaveShapes G ss ts → us ≡ pre ++ (all_at_holes ss ts ++ post) → n ≡ suc (length pre)
          → walk_all as_bound (given us) d (terms_from n ss) ≡ ts
      all_put_in none tree.none pre post n h e q = refl
      all_put_in (more s ss) (tree.more t ts) pre post n h e q =
          let first = at_holes s t in
          let rest = all_at_holes ss ts in
          let whole : us ≡ pre ++ (first ++ (rest ++ post)) = e ∙ ap (λ l. pre ++ l) (append_assoc first rest post) in
          let moved : us ≡ (pre ++ first) ++ (rest ++ post) = whole ∙ sym (append_assoc pre first (rest ++ post)) in
          let l = length-append pre first in
          let c = count_holes s t h.0 in
          λ i. tree.more (put_in s t pre (rest ++ post) n h.0 whole q i) (all_put_in ss ts (pre ++ first) post (n + length (holes s)) h.1 moved (omega (arith, q, l, c)) i)
      all_put_in ss ts pre post n h e q = absurd h

    append_none : (xs : List Tree) → xs ++ [] ≡ xs
    append_none [] = refl
    append_none (x ∷ xs) = ap (λ l. x ∷ l) (append_none xs)

    pub pattern_filled : (ss : Shapes) (ts : Trees) → HaveShapes G ss ts → us ≡ all_at_holes ss ts → walk_all as_bound (given us) d (terms_from 1 ss) ≡ ts
    pattern_filled ss ts h e = all_put_in ss ts [] [] 1 h (e ∙ sym (append_none (all_at_holes ss ts))) refl

-- two substitutions as one, where the first puts in made terms
module _ (us : List Tree) (ps ts : Trees) (made : AreMade ps) (made_too : AreMade ts) (filled : (d : ℕ) → walk_all as_bound (given us) d ps ≡ ts) where
  at_place : (ps ts : Trees) (k d e : ℕ) → AreMade ps → AreMade ts → walk_all as_bound (given us) e ps ≡ ts
      → walk as_bound (given us) e (option_map_or (lifted d) (slice_get (elements ps) k) (truth false)) ≡ option_map_or (lifted d) (slice_get (elements ts) k) (truth false)
  at_place tree.none tree.none k d e m n f = refl
  at_place tree.none (tree.more t ts) k d e m n f = cc f
  at_place (tree.more p ps) tree.none k d e m n f = cc f
  at_place (tree.more p ps) (tree.more t ts) zero d e m n f =
      let same : walk as_bound (given us) e p ≡ t = cc f in
      ap (walk as_bound (given us) e) ((made_terms_stay p m.0).walked (raised d) 0) ∙ same ∙ sym ((made_terms_stay t n.0).walked (raised d) 0)
  at_place (tree.more p ps) (tree.more t ts) (suc k) d e m n f = at_place ps ts k d e m.1 n.1 (cc f)

  on_free : (d e k : ℕ) → walk as_bound (given us) e (given (elements ps) d k) ≡ given (elements ts) d k
  on_free d e zero = refl
  on_free d e (suc k) = at_place ps ts k d e made made_too (filled e)

  pub twice : (t : Tree) → substituted us (substituted (elements ps) t) ≡ substituted (elements ts) t
  twice t = composed as_bound (given (elements ps)) as_bound (given us) as_bound (given (elements ts)) 0 (λ d e k q. refl) (λ d e k q. on_free d e k) t 0 0 refl
