-- What is asked of a term depends on the types of the scope's nodes alone.
use Rattle.std.proofs.Common.{ℕ, ◌≤◌, List, [], ◌∷◌, sym, subst, arith}
use Rattle.std.specs.Prelude.{map}
use Rattle.tg_model.specs.Types.{Ty}
use Rattle.tg_types.specs.Substitutions.{Assignment}
use Rattle.tg_shared_types.specs.Nodes.{AreBelow}
use Rattle.tg_typing.specs.Growing.{Agree}
use Rattle.tg_typing.specs.Scopes.{Scope, IsScope}
use Rattle.tg_typing.proofs.Turns.{same_types}

pub moved : {n : ℕ} {ρ φ : Assignment} (s : Scope) (P : List Ty → List Ty → List Ty → Type 0) → IsScope n s → Agree n φ ρ →
    P (map ρ s.parameters) (map ρ s.vars) (map ρ s.locs) → P (map φ s.parameters) (map φ s.vars) (map φ s.locs)
moved {n} {ρ} {φ} s P h e p =
    subst (λ xs. P xs (map φ s.vars) (map φ s.locs)) (sym (same_types s.parameters h.0 e))
    (subst (λ xs. P (map ρ s.parameters) xs (map φ s.locs)) (sym (same_types s.vars h.1 e))
    (subst (λ xs. P (map ρ s.parameters) (map ρ s.vars) xs) (sym (same_types s.locs h.2 e)) p))

pub below_more : (m n : ℕ) (ks : List ℕ) → m ≤ n → AreBelow m ks → AreBelow n ks
below_more m n [] h b = tt
below_more m n (k ∷ ks) h b = (omega (arith, b.0, h), below_more m n ks h b.1)

pub scope_more : (m n : ℕ) (s : Scope) → m ≤ n → IsScope m s → IsScope n s
scope_more m n s h b = (below_more m n s.parameters h b.0, below_more m n s.vars h b.1, below_more m n s.locs h b.2)
