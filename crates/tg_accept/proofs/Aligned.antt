-- The heads of a datatype's branches have the types of its constructors' arguments, one after the other.
use Rattle.std.proofs.Common.{ℕ, zero, suc, ◌≡◌, ◌+◌, List, [], ◌∷◌, map, length, Some, refl, sym, ◌∙◌, ap, arith}
use Rattle.std.specs.Prelude.{slice_get, option_map}
use Rattle.std.specs.Option.{option_map_or}
use Rattle.std.proofs.lemmas.List.{length-map}
use Rattle.tg_model.specs.Types.{Ty}
use Rattle.tg_model.specs.Theory.{Theory, Datatype, Constructor, Owned, constructor_at, first_constructor, instance}
use Rattle.tg_model.specs.TermTyping.{IsDatatype, constructor_arguments}
use Rattle.tg_model.specs.TypeLaws.{AreBranchSizes}
use Rattle.tg_model.proofs.Inhabited.{constructor_number}
use Rattle.tg_accept.specs.Resolved.{Head}
use Rattle.tg_accept.specs.ResolvedTyping.{head_at}
use Rattle.tg_accept.specs.Core.{heads_from, heads_of}

pub second : (p q : ℕ × List Ty) → Some p ≡ Some q → p.1 ≡ q.1
second p q e = let r : p ≡ q = cc e in ap (λ (x : ℕ × List Ty). x.1) r

module _ (th : Theory) (us : List Ty) (n : ℕ) where
  abbrev pub Aligned : List Head → List (List Ty) → Type 0
  Aligned [] [] = Unit {0}
  Aligned (h ∷ hs) (args ∷ rest) = (head_at th us h ≡ Some (n, args)) × Aligned hs rest
  Aligned _ _ = ⊥

abbrev owned : ℕ → Constructor → Owned
owned d k = record { datatype = d; constructor = k }

aligned_from : (th : Theory) (us : List Ty) (d c : ℕ) (cs : List Constructor)
    → ((i : ℕ) (k : Constructor) → slice_get cs i ≡ Some k → constructor_at th (c + i) ≡ Some (owned d k))
    → Aligned th us d (heads_from c (length cs)) (map (λ (k : Constructor). map (instance us) k.arguments) cs)
aligned_from th us d c [] at = tt
aligned_from th us d c (k ∷ cs) at =
    let here : c ≡ c + 0 = omega arith in (
      ap (option_map (λ (o : Owned). (o.datatype, map (instance us) o.constructor.arguments))) (ap (constructor_at th) here ∙ at 0 k refl),
      aligned_from th us d (suc c) cs (λ i l e. let next : suc c + i ≡ c + suc i = omega arith in ap (constructor_at th) next ∙ at (suc i) l e),
    )

pub aligned : (th : Theory) (n : ℕ) (us : List Ty) → IsDatatype th n us → Aligned th us n (heads_of th n) (constructor_arguments th n us)
aligned th zero us h = (refl, (refl, tt))
aligned th (suc d) us (x, is, count) =
    let all = aligned_from th us (suc d) (first_constructor th.datatypes (suc d)) x.constructors (λ i k e. constructor_number th d x i k is e) in
    rw (is) all

length_from : (c count : ℕ) → length (heads_from c count) ≡ count
length_from c zero = refl
length_from c (suc count) = ap suc (length_from (suc c) count)

-- as many as the datatype has constructors
pub as_many : (th : Theory) (n : ℕ) (ns : List ℕ) → AreBranchSizes th n ns → length ns ≡ length (heads_of th n)
as_many th zero ns e = ap (λ (l : List ℕ). length l) e
as_many th (suc d) ns (x, is, e) =
    ap (λ (l : List ℕ). length l) e ∙ (length-map x.constructors (λ (c : Constructor). length c.arguments)
    ∙ (ap (λ o. option_map_or (λ (y : Datatype). length y.constructors) o 0) (sym is)
    ∙ sym (length_from (first_constructor th.datatypes (suc d)) (option_map_or (λ (y : Datatype). length y.constructors) (slice_get th.datatypes d) 0))))
