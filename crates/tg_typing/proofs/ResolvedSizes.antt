-- The number of nodes of a resolved term, for the recursion over it.
use Rattle.std.proofs.Common.{ℕ, zero, suc, ◌≡◌, ◌+◌, ◌<◌, ◌≤◌, List, [], ◌∷◌, length, get_or, sym, ap, subst, arith}
use Rattle.tg_accept.specs.Resolved as model
use Rattle.tg_typing.specs.declared.resolved.Resolved.{Resolved}
use Rattle.tg_typing.specs.declared.resolved.Branch.{Branch}
use Rattle.tg_typing.specs.View.{resolved, all_resolved, branches, seen, seen-Branch, Seen}

abbrev mutual
  pub size : model.Resolved → ℕ
  size (model.bound k) = 1
  size (model.free n) = 1
  size (model.literal n) = 1
  size (model.truth b) = 1
  size (model.con c ts) = suc (sizes ts)
  size (model.call f ts) = suc (sizes ts)
  size (model.own ts) = suc (sizes ts)
  size (model.misused ts) = suc (sizes ts)
  size (model.put ts) = suc (sizes ts)
  size (model.choice ts) = suc (sizes ts)
  size (model.op o ts) = suc (sizes ts)
  size (model.case n t bs) = suc (size t + branch_sizes bs)
  size (model.bind t body) = suc (size t + size body)

  pub sizes : model.Resolveds → ℕ
  sizes model.none = 0
  sizes (model.more t ts) = size t + sizes ts

  pub branch_sizes : model.Branches → ℕ
  branch_sizes model.end = 0
  branch_sizes (model.branch h xs body bs) = size body + branch_sizes bs

pub size_at : (ts : List Resolved) (i : ℕ) (t : Resolved) → i < length ts → t ≡ get_or ts i t → size (resolved t) ≤ sizes (all_resolved ts)
size_at [] i t h e = absurd (omega (arith, h))
size_at (u ∷ ts) zero t h e = subst (λ x. size (resolved x) ≤ size (resolved u) + sizes (all_resolved ts)) (sym e) (omega arith)
size_at (u ∷ ts) (suc i) t h e = let r : size (resolved t) ≤ sizes (all_resolved ts) = size_at ts i t (omega (arith, h)) e in omega (arith, r)

pub body_at : (bs : List Branch) (i : ℕ) (b : Branch) → i < length bs → b ≡ get_or bs i b → size (resolved b.body) ≤ branch_sizes (branches bs)
body_at [] i b h e = absurd (omega (arith, h))
body_at (a ∷ bs) zero b h e =
    let s : size (seen a).body ≡ size (resolved a.body) = ap (λ (x : Seen). size x.body) (seen-Branch a) in
    subst (λ (x : Branch). size (resolved x.body) ≤ size (seen a).body + branch_sizes (branches bs)) (sym e) (omega (arith, s))
body_at (a ∷ bs) (suc i) b h e = let r : size (resolved b.body) ≤ branch_sizes (branches bs) = body_at bs i b (omega (arith, h)) e in omega (arith, r)
