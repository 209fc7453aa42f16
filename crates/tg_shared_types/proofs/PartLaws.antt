-- What a node says depends on its parts and itself alone.
use Rattle.std.proofs.Common.{ℕ, ◌≡◌, ◌<◌, ◌≤◌, Bool as Truth, true, false, List, [], ◌∷◌, if◌then◌else◌, refl, ap, sym, ◌∙◌, arith}
use Rattle.tg_model.specs.Types as model
use Rattle.tg_types.specs.Substitutions.{Assignment}
use Rattle.tg_shared_types.specs.declared.nodes.Node.{Node}
use Rattle.tg_shared_types.specs.declared.nodes.Node.TheVariants.{Open, Link, Nat, Bool, Param, App}
use Rattle.tg_shared_types.specs.Nodes.{types_of, Says, AreBelow, Names}
use Rattle.tg_shared_types.specs.Marks.{is_marked, all_marked, is_ready}

abbrev pub Each : (ℕ → Type 0) → List ℕ → Type 0
Each P [] = Unit {0}
Each P (k ∷ ks) = P k × Each P ks

abbrev pub EachPart : (ℕ → Type 0) → Node → Type 0
EachPart P (Link k) = P k
EachPart P (App d ks) = Each P ks
EachPart P node = Unit {0}

below_each : (n : ℕ) (ks : List ℕ) → AreBelow n ks → Each (λ k. k < n) ks
below_each n [] b = tt
below_each n (k ∷ ks) b = (b.0, below_each n ks b.1)

pub named_parts : (n i : ℕ) (node : Node) → i ≤ n → Names n i node → EachPart (λ k. k < n) node
named_parts n i Open h s = tt
named_parts n i (Link k) h s = omega arith
named_parts n i Nat h s = tt
named_parts n i Bool h s = tt
named_parts n i (Param m) h s = tt
named_parts n i (App d ks) h s = below_each n ks s

marked_each : (ys : List Truth) (ks : List ℕ) → all_marked ys ks ≡ true → Each (λ k. is_marked ys k ≡ true) ks
marked_each ys [] e = tt
marked_each ys (k ∷ ks) e = go (is_marked ys k) refl e (marked_each ys ks) where
  go : (b : Truth) → is_marked ys k ≡ b → (if b then all_marked ys ks else false) ≡ true → (all_marked ys ks ≡ true → Each (λ k. is_marked ys k ≡ true) ks) →
      (is_marked ys k ≡ true) × Each (λ k. is_marked ys k ≡ true) ks
  go true h f rest = (h, rest f)
  go false h f rest = absurd cc

pub ready_parts : (ys : List Truth) (node : Node) → is_ready ys node ≡ true → EachPart (λ k. is_marked ys k ≡ true) node
ready_parts ys Open e = tt
ready_parts ys (Link k) e = e
ready_parts ys Nat e = tt
ready_parts ys Bool e = tt
ready_parts ys (Param m) e = tt
ready_parts ys (App d ks) e = marked_each ys ks e

types_same : (P : ℕ → Type 0) (ρ φ : Assignment) (ks : List ℕ) → Each P ks → ((k : ℕ) → P k → φ k ≡ ρ k) → types_of φ ks ≡ types_of ρ ks
types_same P ρ φ [] p e = refl
types_same P ρ φ (k ∷ ks) p e = λ i. model.more (e k p.0 i) (types_same P ρ φ ks p.1 e i)

pub says_same : (P : ℕ → Type 0) (ρ φ : Assignment) (i : ℕ) (node : Node) → EachPart P node → ((k : ℕ) → P k → φ k ≡ ρ k) → φ i ≡ ρ i →
    Says ρ i node → Says φ i node
says_same P ρ φ i Open p e h s = tt
says_same P ρ φ i (Link k) p e h s = h ∙ s ∙ sym (e k p)
says_same P ρ φ i Nat p e h s = h ∙ s
says_same P ρ φ i Bool p e h s = h ∙ s
says_same P ρ φ i (Param m) p e h s = h ∙ s
says_same P ρ φ i (App d ks) p e h s = h ∙ s ∙ ap (model.applied d) (sym (types_same P ρ φ ks p e))

-- a type for a node, given those of its parts, and `u` for an open one
abbrev pub value : Assignment → model.Ty → Node → model.Ty
value ρ u Open = u
value ρ u (Link k) = ρ k
value ρ u Nat = model.nat
value ρ u Bool = model.bool
value ρ u (Param m) = model.parameter m
value ρ u (App d ks) = model.applied d (types_of ρ ks)

pub says_value : (P : ℕ → Type 0) (ρ φ : Assignment) (u : model.Ty) (i : ℕ) (node : Node) → EachPart P node → ((k : ℕ) → P k → φ k ≡ ρ k) →
    φ i ≡ value ρ u node → Says φ i node
says_value P ρ φ u i Open p e h = tt
says_value P ρ φ u i (Link k) p e h = h ∙ sym (e k p)
says_value P ρ φ u i Nat p e h = h
says_value P ρ φ u i Bool p e h = h
says_value P ρ φ u i (Param m) p e h = h
says_value P ρ φ u i (App d ks) p e h = h ∙ ap (model.applied d) (sym (types_same P ρ φ ks p e))

-- two assignments that agree on the parts of a node, and on itself where it is open
pub says_alike : (P : ℕ → Type 0) (ρ φ : Assignment) (i : ℕ) (node : Node) → EachPart P node → ((k : ℕ) → P k → ρ k ≡ φ k) →
    (node ≡ Open → ρ i ≡ φ i) → Says ρ i node → Says φ i node → ρ i ≡ φ i
says_alike P ρ φ i Open p e o s t = o refl
says_alike P ρ φ i (Link k) p e o s t = s ∙ e k p ∙ sym t
says_alike P ρ φ i Nat p e o s t = s ∙ sym t
says_alike P ρ φ i Bool p e o s t = s ∙ sym t
says_alike P ρ φ i (Param m) p e o s t = s ∙ sym t
says_alike P ρ φ i (App d ks) p e o s t = s ∙ ap (model.applied d) (types_same P φ ρ ks p e) ∙ sym t
