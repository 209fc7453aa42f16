-- How a use is framed: nodes for what it is used at, its arguments and its answer, the last united with the node of the whole.
use Rattle.std.proofs.Common.{ℕ, ◌≡◌, ◌<◌, Bool as Truth, true, false, List, length, refl, sym, ◌∙◌, ap, subst, arith}
use Rattle.std.specs.Prelude.{map, Option}
use Rattle.tg_model.specs.Types.{Ty}
use Rattle.tg_types.specs.Substitutions.{Assignment}
use Rattle.tg_shared_types.specs.declared.nodes.Node.{Node}
use Rattle.tg_shared_types.specs.Nodes.{Fits, AreBelow}
use Rattle.tg_shared_types.specs.Growth.{Grows}
use Rattle.tg_shared_types.specs.Uniting.{Unites}
use Rattle.tg_typing.specs.Growing.{Agree, Grown}
use Rattle.tg_typing.specs.Frames.{nodes_if, Ends}
use Rattle.tg_typing.specs.Uses.{Use, IsUsed, Frames}
use Rattle.tg_typing.proofs.Turns.{Makes, in_turn, grown_in_turn, grown_united, united, Meet}
use Rattle.tg_typing.proofs.Scoped.{below_more}

-- the uses are those that `use` makes of what is read
pub record AreUses {A : Type 0} (First : Assignment → A → Type 0) (Uses : Assignment → Use → Type 0) (use_of : A → Use) : Type 0 where
  pub there : (ρ : Assignment) (a : A) → First ρ a → Uses ρ (use_of a)
  pub back : (ρ : Assignment) (u : Use) → Uses ρ u → (a : A) × First ρ a × (use_of a ≡ u)
  pub apart : (ρ φ : Assignment) (a b : A) → First ρ a → First φ b → use_of a ≡ use_of b → a ≡ b

-- the nodes for the arguments' types and the answer's
pub record HasNodes {A : Type 0} (mid : List Node) (read : Assignment → A) (use_of : A → Use) (es : List ℕ) (top : ℕ) : Type 0 where
  pub inside : top < length mid
  pub below : AreBelow (length mid) es
  pub answer : (ρ : Assignment) → Fits ρ mid → ρ top ≡ (use_of (read ρ)).answer
  pub arguments : (ρ : Assignment) → Fits ρ mid → map ρ es ≡ (use_of (read ρ)).arguments

module _ {A : Type 0} {old start mid : List Node} {read : Assignment → A} {First : Assignment → A → Type 0} {Uses : Assignment → Use → Type 0}
    {use_of : A → Use} (first : Grown old start A read First) (are : AreUses First Uses use_of) (g : Grows start mid) (es : List ℕ) (top e : ℕ)
    (nodes : HasNodes mid read use_of es top) (he : e < length old) where
  e_mid : e < length mid
  e_mid = let a = first.longer in let b = g.longer in omega arith

  makes : Makes old start read First (Meet start mid top e) (λ a b. use_of a) (IsUsed Uses e)
  makes = record {
    there = λ ρ b f p q.
        let x = g.extends ρ f in
        let a : Agree (length start) x.types ρ = record { at = x.same } in
        let same : read x.types ≡ read ρ = first.local x.types ρ a in
        let h : e < length start = (let l = first.longer in omega arith) in (
          are.there ρ (read ρ) p,
          ap (λ r. (use_of r).answer) (sym same) ∙ sym (nodes.answer x.types x.fits) ∙ q x.types x.fits a ∙ x.same e h,
        );
    back = λ ρ u f w.
        let x = are.back ρ u w.0 in (
          x.0,
          x.1,
          λ φ f' a r. (
            tt,
            (λ ψ f'' a'.
                nodes.answer ψ f'' ∙ ap (λ v. (use_of v).answer) (first.local ψ φ a' ∙ r) ∙ ap (λ (v : Use). v.answer) x.2 ∙ w.1
                ∙ sym (a'.at e (let l = first.longer in omega arith) ∙ a.at e he)),
            x.2,
          ),
        );
    apart = λ ρ φ b b' f g p p' q q' r. (are.apart ρ φ (read ρ) (read φ) p p' r, refl);
  }

  pub framed : (new : List Node) (ok : Truth) → Unites ok mid top e new → Frames old new Uses e (nodes_if ok es)
  framed new true u =
      record {
        read = λ ρ. use_of (read ρ);
        grown = grown_in_turn first makes (grown_united new top e g nodes.inside e_mid u);
        arguments = λ ρ f. nodes.arguments ρ ((u.same ρ).0 f).0;
        inside = below_more (length mid) (length new) es (let l = u.long in omega arith) nodes.below;
      }
  framed new false u = in_turn first makes new false (united new top e false g nodes.inside e_mid u)

-- the same from what is promised of the nodes
pub ends_framed : (old start new : List Node) (us : List ℕ) (First : Assignment → List Ty → Type 0) (Uses : Assignment → Use → Type 0)
    (at arguments : List Ty → List Ty) (answer : List Ty → Ty) (e : ℕ) (found : Option (List ℕ)) → Grown old start (List Ty) (λ ρ. map ρ us) First →
    AreUses First Uses (λ ts. record { at = at ts; arguments = arguments ts; answer = answer ts }) → e < length old →
    Ends start new us arguments answer e found → Frames old new Uses e found
ends_framed old start new us First Uses at arguments answer e found first are h ends =
    let c = ends.closes in
    subst (Frames old new Uses e) (sym c.2) (framed first are ends.grows ends.es ends.top e nodes h new c.0 c.1)
  where
    nodes : HasNodes ends.mid (λ ρ. map ρ us) (λ ts. record { at = at ts; arguments = arguments ts; answer = answer ts }) ends.es ends.top
    nodes = record { inside = ends.inside; below = ends.below; answer = ends.answers; arguments = ends.takes }
