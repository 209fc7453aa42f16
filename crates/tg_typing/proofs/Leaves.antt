-- Terms without parts.
use Rattle.std.proofs.Common.{ℕ, zero, suc, ◌≡◌, ◌<◌, Bool as Truth, List, [], ◌∷◌, length, refl, sym, ◌∙◌, ap, subst, arith}
use Rattle.std.specs.Prelude.{map, Option, Some, None, slice_get}
use Rattle.tg_model.specs.Types.{Ty, nat, bool}
use Rattle.tg_model.specs.Theory.{Theory, Function, numbered}
use Rattle.tg_model.specs.TermTyping.{Typing, leaf, type_of}
use Rattle.tg_types.specs.Substitutions.{Assignment}
use Rattle.tg_shared_types.specs.declared.nodes.Node.{Node}
use Rattle.tg_shared_types.specs.Nodes.{Fits, AreBelow}
use Rattle.tg_shared_types.specs.Growth.{Grows}
use Rattle.tg_shared_types.specs.Uniting.{Unites}
use Rattle.tg_shared_types.proofs.GrowthLaws.{grows_itself}
use Rattle.tg_accept.specs.Resolved.{Resolved, bound, free, literal, truth}
use Rattle.tg_accept.specs.ResolvedTyping.{IsTypingOf}
use Rattle.tg_typing.specs.Growing.{Agree, IsImpossible, Outcome}
use Rattle.tg_typing.specs.Scopes.{Scope, IsScope, HasTyping}
use Rattle.tg_typing.proofs.Turns.{Makes, in_turn, named, united, Meet}

-- a term all of whose typings are leaves of the type `type`
pub record IsLeaf (th : Theory) (self : Option Function) (s : Scope) (n : ℕ) (t : Resolved) (type : Assignment → Ty) : Type 0 where
  pub there : (ρ : Assignment) → IsTypingOf th self (map ρ s.parameters) (map ρ s.vars) (map ρ s.locs) t (leaf (type ρ))
  pub back : (ρ : Assignment) (d : Typing) → IsTypingOf th self (map ρ s.parameters) (map ρ s.vars) (map ρ s.locs) t d → leaf (type ρ) ≡ d
  pub local : (ρ φ : Assignment) → Agree n ρ φ → type ρ ≡ type φ

module _ (th : Theory) (self : Option Function) (s : Scope) (e : ℕ) where
  -- the type of node `k` is that of the leaf
  pub leaf_typed : (old mid new : List Node) (k : ℕ) (ok : Truth) (t : Resolved) (type : Assignment → Ty) → IsLeaf th self s (length old) t type →
      Grows old mid → e < length old → k < length mid → ((ρ : Assignment) → Fits ρ mid → ρ k ≡ type ρ) → Unites ok mid k e new →
      Outcome old new Typing (HasTyping th self s t e) ok
  leaf_typed old mid new k ok t type is g h hk reads u =
      in_turn (named old e h) makes new ok (united new k e ok g hk (let l = g.longer in omega arith) u)
    where
      makes : Makes old old (λ ρ. ρ e) (λ ρ u. u ≡ ρ e) (Meet old mid k e) (λ u b. leaf u) (HasTyping th self s t e)
      makes = record {
        there = λ ρ b f p q.
            let x = g.extends ρ f in
            let a : Agree (length old) x.types ρ = record { at = x.same } in
            let same : type ρ ≡ ρ e = sym (is.local x.types ρ a) ∙ sym (reads x.types x.fits) ∙ q x.types x.fits a ∙ x.same e h in
            (subst (λ u. IsTypingOf th self (map ρ s.parameters) (map ρ s.vars) (map ρ s.locs) t (leaf u)) same (is.there ρ), refl);
        back = λ ρ d f w.
            let same : leaf (type ρ) ≡ d = is.back ρ d w.0 in
            let types : type ρ ≡ ρ e = ap type_of same ∙ w.1 in (
              ρ e,
              refl,
              λ φ f' a r. (
                tt,
                (λ ψ f'' a'. reads ψ f'' ∙ is.local ψ φ a' ∙ is.local φ ρ a ∙ types ∙ sym r ∙ sym (a'.at e h)),
                ap leaf (sym types) ∙ same,
              ),
            );
        apart = λ ρ φ b b' f g p p' q q' r. (ap type_of r, refl);
      }

-- places of lists of nodes
get_map : (ρ : Assignment) (ks : List ℕ) (i k : ℕ) → slice_get ks i ≡ Some k → slice_get (map ρ ks) i ≡ Some (ρ k)
get_map ρ [] i k e = cc e
get_map ρ (l ∷ ks) zero k e = let f : l ≡ k = cc e in ap (λ x. Some (ρ x)) f
get_map ρ (l ∷ ks) (suc i) k e = get_map ρ ks i k e

get_none : (ρ : Assignment) (ks : List ℕ) (i : ℕ) → slice_get ks i ≡ None → slice_get (map ρ ks) i ≡ None
get_none ρ [] i e = refl
get_none ρ (l ∷ ks) zero e = cc e
get_none ρ (l ∷ ks) (suc i) e = get_none ρ ks i e

pub get_below : (n : ℕ) (ks : List ℕ) (i k : ℕ) → AreBelow n ks → slice_get ks i ≡ Some k → k < n
get_below n [] i k b e = cc e
get_below n (l ∷ ks) zero k b e = let f : l ≡ k = cc e in subst (λ x. x < n) f b.0
get_below n (l ∷ ks) (suc i) k b e = get_below n ks i k b.1 e

module _ (th : Theory) (self : Option Function) (s : Scope) (e : ℕ) (old : List Node) (scope : IsScope (length old) s) (he : e < length old) where
  bound_leaf : (i k : ℕ) → slice_get s.locs i ≡ Some k → IsLeaf th self s (length old) (bound i) (λ ρ. ρ k)
  bound_leaf i k h = record {
    there = λ ρ. get_map ρ s.locs i k h;
    back = λ ρ d w. only ρ d w;
    local = λ ρ φ a. a.at k (get_below (length old) s.locs i k scope.2 h);
  } where
    only : (ρ : Assignment) (d : Typing) → IsTypingOf th self (map ρ s.parameters) (map ρ s.vars) (map ρ s.locs) (bound i) d → leaf (ρ k) ≡ d
    only ρ (leaf t) w = let f : ρ k ≡ t = cc (sym (get_map ρ s.locs i k h) ∙ w) in ap leaf f
    only ρ d w = absurd w

  pub bound_typed : (new : List Node) (i k : ℕ) (ok : Truth) → slice_get s.locs i ≡ Some k → Unites ok old k e new →
      Outcome old new Typing (HasTyping th self s (bound i) e) ok
  bound_typed new i k ok h u =
      leaf_typed th self s e old old new k ok (bound i) (λ ρ. ρ k) (bound_leaf i k h) (grows_itself old) he
      (get_below (length old) s.locs i k scope.2 h) (λ ρ f. refl) u

  pub bound_untyped : (i : ℕ) → slice_get s.locs i ≡ None → IsImpossible old Typing (HasTyping th self s (bound i) e)
  bound_untyped i h ρ (leaf t) f w = let c : None ≡ Some t = sym (get_none ρ s.locs i h) ∙ w.0 in cc c
  bound_untyped i h ρ d f w = absurd w.0

  free_leaf : (i k : ℕ) → slice_get s.vars i ≡ Some k → IsLeaf th self s (length old) (free (suc i)) (λ ρ. ρ k)
  free_leaf i k h = record {
    there = λ ρ. get_map ρ s.vars i k h;
    back = λ ρ d w. only ρ d w;
    local = λ ρ φ a. a.at k (get_below (length old) s.vars i k scope.1 h);
  } where
    only : (ρ : Assignment) (d : Typing) → IsTypingOf th self (map ρ s.parameters) (map ρ s.vars) (map ρ s.locs) (free (suc i)) d → leaf (ρ k) ≡ d
    only ρ (leaf t) w = let f : ρ k ≡ t = cc (sym (get_map ρ s.vars i k h) ∙ w) in ap leaf f
    only ρ d w = absurd w

  pub free_typed : (new : List Node) (i k : ℕ) (ok : Truth) → numbered s.vars i ≡ Some k → Unites ok old k e new →
      Outcome old new Typing (HasTyping th self s (free i) e) ok
  free_typed new zero k ok h u = cc h
  free_typed new (suc i) k ok h u =
      leaf_typed th self s e old old new k ok (free (suc i)) (λ ρ. ρ k) (free_leaf i k h) (grows_itself old) he
      (get_below (length old) s.vars i k scope.1 h) (λ ρ f. refl) u

  pub free_untyped : (i : ℕ) → numbered s.vars i ≡ None → IsImpossible old Typing (HasTyping th self s (free i) e)
  free_untyped zero h ρ (leaf t) f w = let c : None ≡ Some t = w.0 in cc c
  free_untyped (suc i) h ρ (leaf t) f w = let c : None ≡ Some t = sym (get_none ρ s.vars i h) ∙ w.0 in cc c
  free_untyped i h ρ d f w = absurd w.0

  literal_leaf : (n : ℕ) → IsLeaf th self s (length old) (literal n) (λ ρ. nat)
  literal_leaf n = record { there = λ ρ. refl; back = λ ρ d w. only ρ d w; local = λ ρ φ a. refl } where
    only : (ρ : Assignment) (d : Typing) → IsTypingOf th self (map ρ s.parameters) (map ρ s.vars) (map ρ s.locs) (literal n) d → leaf nat ≡ d
    only ρ (leaf t) w = ap leaf (sym w)
    only ρ d w = absurd w

  truth_leaf : (b : Truth) → IsLeaf th self s (length old) (truth b) (λ ρ. bool)
  truth_leaf b = record { there = λ ρ. refl; back = λ ρ d w. only ρ d w; local = λ ρ φ a. refl } where
    only : (ρ : Assignment) (d : Typing) → IsTypingOf th self (map ρ s.parameters) (map ρ s.vars) (map ρ s.locs) (truth b) d → leaf bool ≡ d
    only ρ (leaf t) w = ap leaf (sym w)
    only ρ d w = absurd w

  -- `k` is a new node for nat, or for bool
  pub literal_typed : (mid new : List Node) (n k : ℕ) (ok : Truth) → Grows old mid → k < length mid → ((ρ : Assignment) → Fits ρ mid → ρ k ≡ nat) →
      Unites ok mid k e new → Outcome old new Typing (HasTyping th self s (literal n) e) ok
  literal_typed mid new n k ok g h reads u = leaf_typed th self s e old mid new k ok (literal n) (λ ρ. nat) (literal_leaf n) g he h reads u

  pub truth_typed : (mid new : List Node) (b : Truth) (k : ℕ) (ok : Truth) → Grows old mid → k < length mid →
      ((ρ : Assignment) → Fits ρ mid → ρ k ≡ bool) → Unites ok mid k e new → Outcome old new Typing (HasTyping th self s (truth b) e) ok
  truth_typed mid new b k ok g h reads u = leaf_typed th self s e old mid new k ok (truth b) (λ ρ. bool) (truth_leaf b) g he h reads u
