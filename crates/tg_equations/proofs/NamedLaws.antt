-- The theory's name doesn't matter to core terms, nor to the branches of a `case`.
use Rattle.std.proofs.Common.{ℕ, zero, suc, ◌≡◌, List, ◌∷◌, length, refl, ap, subst}
use Rattle.tg_model.specs.Tree as tree
use Rattle.tg_accept.specs.Core.{Written, heads_of, core, cores, written, arranged, HasBranches, EachCaseWhole, EachCasesWhole, EachBranchWhole}
use Rattle.tg_accept.specs.Declared.{Declared, theory}
use Rattle.tg_accept.specs.Resolved as resolved
use Rattle.tg_accept.specs.Resolved.{Head, Resolved, Resolveds, Branches, bound, free, literal, truth, con, call, own, misused, put, choice, case, bind, op, branch}

module _ (x y : List ℕ) (D : Declared) where
  heads_named : (n : ℕ) → heads_of (theory x D) n ≡ heads_of (theory y D) n
  heads_named zero = refl
  heads_named (suc d) = refl

  module _ (self : ℕ) where
    mutual
      pub core_named : (t : Resolved) → core (theory x D) self t ≡ core (theory y D) self t
      core_named (bound k) = refl
      core_named (free n) = refl
      core_named (literal n) = refl
      core_named (truth b) = refl
      core_named (con c ts) = ap (tree.con c) (cores_named ts)
      core_named (call f ts) = ap (tree.call f) (cores_named ts)
      core_named (own ts) = ap (tree.call self) (cores_named ts)
      core_named (misused ts) = refl
      core_named (put ts) = ap tree.put (cores_named ts)
      core_named (choice ts) = ap tree.choice (cores_named ts)
      core_named (op o ts) = ap (tree.op o) (cores_named ts)
      core_named (bind t body) = λ i. tree.bind (core_named t i) (core_named body i)
      core_named (case n t bs) = λ i. tree.case n (core_named t i) (arranged (written_named bs i) (heads_named n i))

      cores_named : (ts : Resolveds) → cores (theory x D) self ts ≡ cores (theory y D) self ts
      cores_named resolved.none = refl
      cores_named (resolved.more t ts) = λ i. tree.more (core_named t i) (cores_named ts i)

      written_named : (bs : Branches) → written (theory x D) self bs ≡ written (theory y D) self bs
      written_named resolved.end = refl
      written_named (branch h xs body bs) = λ i. (let w : Written = record { head = h; vars = length xs; body = core_named body i } in w) ∷ written_named bs i

  mutual
    pub whole_named : (t : Resolved) → EachCaseWhole (theory x D) t → EachCaseWhole (theory y D) t
    whole_named (con c ts) h = all_whole_named ts h
    whole_named (call f ts) h = all_whole_named ts h
    whole_named (own ts) h = all_whole_named ts h
    whole_named (misused ts) h = all_whole_named ts h
    whole_named (put ts) h = all_whole_named ts h
    whole_named (choice ts) h = all_whole_named ts h
    whole_named (op o ts) h = all_whole_named ts h
    whole_named (bind t body) h = (whole_named t h.0, whole_named body h.1)
    whole_named (case n t bs) h = (subst (λ hs. HasBranches hs bs) (heads_named n) h.0, whole_named t h.1, branches_whole_named bs h.2)
    whole_named t h = tt

    all_whole_named : (ts : Resolveds) → EachCasesWhole (theory x D) ts → EachCasesWhole (theory y D) ts
    all_whole_named resolved.none h = tt
    all_whole_named (resolved.more t ts) h = (whole_named t h.0, all_whole_named ts h.1)

    branches_whole_named : (bs : Branches) → EachBranchWhole (theory x D) bs → EachBranchWhole (theory y D) bs
    branches_whole_named resolved.end h = tt
    branches_whole_named (branch b xs body bs) h = (whole_named body h.0, branches_whole_named bs h.1)
