-- The resolved terms of the program as those of the definitions.
use Rattle.std.specs.Prelude.{◌≡◌, ℕ, Bool, List, [], ◌∷◌, map}
use Rattle.std.proofs.Common.{ap, sym, ◌∙◌}
use Rattle.tg_accept.specs.Resolved as model
use Rattle.tg_term.specs.Operators.{operator}
use Rattle.tg_typing.specs.declared.resolved.Head.{Head}
use Rattle.tg_typing.specs.declared.resolved.Head.TheVariants as heads
use Rattle.tg_typing.specs.declared.resolved.Branch.{Branch, Branch-F}
use Rattle.tg_typing.specs.declared.resolved.Resolved.{Resolved, fold-Resolved}
use Rattle.tg_typing.specs.declared.resolved.Resolved.TheFolds.{fold-roll-Resolved, fold-Branch, fold-roll-Branch}
use Rattle.tg_typing.specs.declared.resolved.Resolved.TheOpen.{Resolved-F}
use Rattle.tg_typing.specs.declared.resolved.Resolved.TheVariants.{Bound, Free, Lit, Truth, Con, Call, Own, Misused, Put, If, Case, Let, Op, rolls-Bound, rolls-Free, rolls-Lit, rolls-Truth, rolls-Con, rolls-Call, rolls-Own, rolls-Misused, rolls-Put, rolls-If, rolls-Case, rolls-Let, rolls-Op}

abbrev pub head : Head → model.Head
head heads.Zero = model.zero_head
head heads.Successor = model.successor_head
head (heads.Con c) = model.of c

-- a branch whose body is already seen
pub record Seen : Type 0 where
  pub head : model.Head
  pub names : List (List ℕ)
  pub body : model.Resolved

abbrev pub listed : List model.Resolved → model.Resolveds
listed [] = model.none
listed (t ∷ ts) = model.more t (listed ts)

abbrev pub branched : List Seen → model.Branches
branched [] = model.end
branched (b ∷ bs) = model.branch b.head b.names b.body (branched bs)

abbrev pub step : Resolved-F model.Resolved Seen → model.Resolved
step (Resolved-F.Bound k) = model.bound k
step (Resolved-F.Free n) = model.free n
step (Resolved-F.Lit n) = model.literal n
step (Resolved-F.Truth b) = model.truth b
step (Resolved-F.Con c ts) = model.con c (listed ts)
step (Resolved-F.Call f ts) = model.call f (listed ts)
step (Resolved-F.Own ts) = model.own (listed ts)
step (Resolved-F.Misused ts) = model.misused (listed ts)
step (Resolved-F.Put ts) = model.put (listed ts)
step (Resolved-F.If ts) = model.choice (listed ts)
step (Resolved-F.Case n t bs) = model.case n t (branched bs)
step (Resolved-F.Let t body) = model.bind t body
step (Resolved-F.Op o ts) = model.op (operator o) (listed ts)

abbrev pub branch_step : Branch-F model.Resolved Seen → Seen
branch_step b = record { head = head b.head; names = b.names; body = b.body }

abbrev pub resolved : Resolved → model.Resolved
resolved = fold-Resolved model.Resolved Seen step branch_step

abbrev pub all_resolved : List Resolved → model.Resolveds
all_resolved ts = listed (map resolved ts)

abbrev pub seen : Branch → Seen
seen = fold-Branch model.Resolved Seen step branch_step

abbrev pub branches : List Branch → model.Branches
branches bs = branched (map seen bs)

pub resolved-Bound : (k : ℕ) → resolved (Bound k) ≡ model.bound k
resolved-Bound k = ap resolved (sym (rolls-Bound k)) ∙ fold-roll-Resolved model.Resolved Seen step branch_step _

pub resolved-Free : (n : ℕ) → resolved (Free n) ≡ model.free n
resolved-Free n = ap resolved (sym (rolls-Free n)) ∙ fold-roll-Resolved model.Resolved Seen step branch_step _

pub resolved-Lit : (n : ℕ) → resolved (Lit n) ≡ model.literal n
resolved-Lit n = ap resolved (sym (rolls-Lit n)) ∙ fold-roll-Resolved model.Resolved Seen step branch_step _

pub resolved-Truth : (b : Bool) → resolved (Truth b) ≡ model.truth b
resolved-Truth b = ap resolved (sym (rolls-Truth b)) ∙ fold-roll-Resolved model.Resolved Seen step branch_step _

pub resolved-Con : (c : ℕ) (ts : List Resolved) → resolved (Con c ts) ≡ model.con c (all_resolved ts)
resolved-Con c ts = ap resolved (sym (rolls-Con c ts)) ∙ fold-roll-Resolved model.Resolved Seen step branch_step _

pub resolved-Call : (f : ℕ) (ts : List Resolved) → resolved (Call f ts) ≡ model.call f (all_resolved ts)
resolved-Call f ts = ap resolved (sym (rolls-Call f ts)) ∙ fold-roll-Resolved model.Resolved Seen step branch_step _

pub resolved-Own : (ts : List Resolved) → resolved (Own ts) ≡ model.own (all_resolved ts)
resolved-Own ts = ap resolved (sym (rolls-Own ts)) ∙ fold-roll-Resolved model.Resolved Seen step branch_step _

pub resolved-Misused : (ts : List Resolved) → resolved (Misused ts) ≡ model.misused (all_resolved ts)
resolved-Misused ts = ap resolved (sym (rolls-Misused ts)) ∙ fold-roll-Resolved model.Resolved Seen step branch_step _

pub resolved-Put : (ts : List Resolved) → resolved (Put ts) ≡ model.put (all_resolved ts)
resolved-Put ts = ap resolved (sym (rolls-Put ts)) ∙ fold-roll-Resolved model.Resolved Seen step branch_step _

pub resolved-If : (ts : List Resolved) → resolved (If ts) ≡ model.choice (all_resolved ts)
resolved-If ts = ap resolved (sym (rolls-If ts)) ∙ fold-roll-Resolved model.Resolved Seen step branch_step _

pub resolved-Case : (n : ℕ) (t : Resolved) (bs : List Branch) → resolved (Case n t bs) ≡ model.case n (resolved t) (branches bs)
resolved-Case n t bs = ap resolved (sym (rolls-Case n t bs)) ∙ fold-roll-Resolved model.Resolved Seen step branch_step _

pub resolved-Let : (t body : Resolved) → resolved (Let t body) ≡ model.bind (resolved t) (resolved body)
resolved-Let t body = ap resolved (sym (rolls-Let t body)) ∙ fold-roll-Resolved model.Resolved Seen step branch_step _

pub resolved-Op : (o : ℕ) (ts : List Resolved) → resolved (Op o ts) ≡ model.op (operator o) (all_resolved ts)
resolved-Op o ts = ap resolved (sym (rolls-Op o ts)) ∙ fold-roll-Resolved model.Resolved Seen step branch_step _

pub seen-Branch : (b : Branch) → seen b ≡ record { head = head b.head; names = b.names; body = resolved b.body }
seen-Branch b = fold-roll-Branch model.Resolved Seen step branch_step _
