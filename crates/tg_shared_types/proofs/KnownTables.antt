-- Tables that are known to have several types, one, or none.
use Rattle.std.proofs.Common.{ℕ, zero, suc, ◌≡◌, ◌+◌, ◌<◌, [], ◌∷◌, length, refl, ap, arith}
use Rattle.tg_model.specs.Types as model
use Rattle.tg_types.specs.Substitutions.{Assignment}
use Rattle.tg_shared_types.specs.declared.nodes.Node.{Node}
use Rattle.tg_shared_types.specs.declared.nodes.Node.TheVariants.{Open, Nat, App}
use Rattle.tg_shared_types.specs.Nodes.{Says, node_at, Fits}
use Rattle.tg_shared_types.specs.Settled.{HasNone, HasOne, HasSeveral}
use Rattle.tg_shared_types.proofs.Sizes.{size}

-- an assignment fits a table of one node
alone : (ρ : Assignment) (n : Node) → Says ρ 0 n → Fits ρ (n ∷ [])
alone ρ n s = record { at = go } where
  go : (i : ℕ) → i < length (n ∷ []) → Says ρ i (node_at (n ∷ []) i)
  go zero h = s
  go (suc i) h = absurd (omega (arith, h))

an_open_node : HasSeveral (Open ∷ [])
an_open_node = record {
  types = λ i. model.nat;
  others = λ i. model.bool;
  fits = alone (λ i. model.nat) Open tt;
  others_fit = alone (λ i. model.bool) Open tt;
  node = 0;
  inside = omega arith;
  differ = λ e. cc;
}

a_natural : HasOne (Nat ∷ [])
a_natural = record { types = λ i. model.nat; fits = alone (λ i. model.nat) Nat refl; only = go } where
  go : (ρ : Assignment) → Fits ρ (Nat ∷ []) → (i : ℕ) → i < length (Nat ∷ []) → ρ i ≡ model.nat
  go ρ f zero h = f.at 0 h
  go ρ f (suc i) h = absurd (omega (arith, h))

-- a list of itself
a_loop : HasNone (App 1 (0 ∷ []) ∷ [])
a_loop ρ f = let e : size (ρ 0) ≡ suc (size (ρ 0) + 0) = ap size (f.at 0 (omega arith)) in omega arith
