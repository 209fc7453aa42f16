-- A term means the same where each name is the same variable.
use Rattle.std.proofs.Common.{ℕ, suc, ◌≡◌, List, [], ◌∷◌, ◌++◌, map, reverse, Option, Some, None, refl, sym, ◌∙◌, ap, if◌then◌else◌}
use Rattle.std.specs.Prelude.{option_map, option_and_then}
use Rattle.std.specs.Option.{option_map_or}
use Rattle.tg_accept.specs.Raw as raw
use Rattle.tg_accept.specs.Raw.{Binder, RawTerm, RawTerms, RawBranches}
use Rattle.tg_accept.specs.Resolved as model
use Rattle.tg_accept.specs.Meaning.{Scope, place_of, variable_on, word_meant, declared_on, may_bind, may_bind_all, name_of, head_meant, datatype_of_first, resolve, resolve_all, resolve_branches}
use Rattle.tg_infer.specs.Scopes.{AreSameVariables}

abbrev pub Variables : Type 0
Variables = List (List ℕ × ℕ)

abbrev pub with_variables : Scope → Variables → Scope
with_variables S vs = record S { variables = vs }

same_word : (S : Scope) (vs ws : Variables) → AreSameVariables vs ws → (locs : List Binder) (x : List ℕ)
    → word_meant (with_variables S vs) locs x ≡ word_meant (with_variables S ws) locs x
same_word S vs ws h locs x = ap (λ o us.
    option_map_or (λ k. Some (variable_on (model.bound k) us)) (place_of (raw.name x) locs)
    (option_map_or (λ n. Some (variable_on (model.free n) us)) o (declared_on S x us))) (h.is x)

module _ (S : Scope) (vs ws : Variables) (h : AreSameVariables vs ws) where
  mutual
    pub same_resolve : (locs : List Binder) (t : RawTerm) → resolve (with_variables S vs) locs t ≡ resolve (with_variables S ws) locs t
    same_resolve locs (raw.number n) = refl
    same_resolve locs (raw.truth b) = refl
    same_resolve locs (raw.word x ts) = λ i. option_and_then (same_word S vs ws h locs x i) (same_all locs ts i)
    same_resolve locs (raw.question n) = refl
    same_resolve locs (raw.bang n) = refl
    same_resolve locs (raw.op o ts) = ap (option_map (model.op o)) (same_all locs ts)
    same_resolve locs (raw.choice ts) = ap (option_map model.choice) (same_all locs ts)
    same_resolve locs (raw.bind x t body) = λ i.
        if may_bind S locs x then option_and_then (λ u. option_map (model.bind u) (same_resolve (x ∷ locs) body i)) (same_resolve locs t i) else None
    same_resolve locs (raw.case t bs) = λ i.
        option_and_then (λ u. option_map (λ us. model.case (datatype_of_first S.declared us) u us) (same_branches locs bs i)) (same_resolve locs t i)
    same_resolve locs raw.unread = refl

    same_all : (locs : List Binder) (ts : RawTerms) → resolve_all (with_variables S vs) locs ts ≡ resolve_all (with_variables S ws) locs ts
    same_all locs raw.none = refl
    same_all locs (raw.more t ts) = λ i. option_and_then (λ u. option_map (model.more u) (same_all locs ts i)) (same_resolve locs t i)

    same_branches : (locs : List Binder) (bs : RawBranches) → resolve_branches (with_variables S vs) locs bs ≡ resolve_branches (with_variables S ws) locs bs
    same_branches locs raw.end = refl
    same_branches locs (raw.branch head xs body bs) = λ i.
        if may_bind_all S locs xs
        then option_and_then
        (λ k. option_and_then (λ u. option_map (model.branch k (map name_of xs) u) (same_branches locs bs i)) (same_resolve (reverse xs ++ locs) body i))
        (head_meant S.declared head)
        else None
