-- The steps of a walk, from what the calls in them ensure.
use Rattle.std.proofs.Common.{ℕ, ◌≡◌, List, [], ◌∷◌, ◌++◌, append_assoc, append-nil, length, ap, sym, ◌∙◌, subst}
use Rattle.std.specs.Prelude.{Result, Ok, Err, OnOk, IfErr}
use Rattle.tg_model.specs.Types.{Ty, Tys}
use Rattle.tg_types.specs.Substitutions.{Substitution, apply, IsWhole, IsFresh, Continues}
use Rattle.tg_types.specs.Walks as walks
use Rattle.tg_types.specs.Walks.{meet, agree, binds, loops, inside, differ, Outcome, done, clash, occurs, Walk, walk_agree, walk_binds, walk_loops, walk_differ, walk_inside, Walks}
use Rattle.tg_types.specs.declared.types.Ty as declared
use Rattle.tg_types.specs.Types.{types}
use Rattle.tg_types.proofs.Arguments.{count_types}
use Rattle.tg_types.specs.declared.unifying.UnifyErr.{UnifyErr}
use Rattle.tg_types.specs.declared.unifying.UnifyErr.TheVariants.{Clash, Occurs, Memory}
use Rattle.tg_types.specs.Refusals.{StopsAt, EndsIn, Refuses}
use Rattle.tg_types.specs.Unifiers.{IsMostGeneral}
use Rattle.tg_types.proofs.WalkLaws.{fresh, as_long, most_general, none_clash, none_occurs}

-- `a` and `b` are the types walked, `x` and `y` the types with the substitution put in
module _ (s : Substitution) (a b x y : Ty) (left : x ≡ apply s a) (right : y ≡ apply s b) where
  met : {m : walks.Meeting} → m ≡ meet x y → meet (apply s a) (apply s b) ≡ m
  met e = (λ i. meet (sym left i) (sym right i)) ∙ sym e

  pub got_agree : agree ≡ meet x y → Walk s a b (done s)
  got_agree e = walk_agree (met e)

  pub got_binds : (v : ℕ) (u : Ty) (next : Substitution) → binds v u ≡ meet x y →
      next ≡ s ++ (record { variable = v; meaning = u }) ∷ [] → Walk s a b (done next)
  got_binds v u next e k = subst (λ n. Walk s a b (done n)) (sym k) (walk_binds (met e))

  pub got_fresh : (v : ℕ) (u : Ty) → IsWhole s → binds v u ≡ meet x y → IsFresh s (record { variable = v; meaning = u })
  got_fresh v u w e = fresh a b w (met e)

  pub got_loops : (v : ℕ) (u : Ty) → loops v u ≡ meet x y → Walk s a b (occurs v u)
  got_loops v u e = walk_loops (met e)

  pub got_differ : differ ≡ meet x y → Walk s a b (clash x y)
  got_differ e = walk_differ (met e) left right

  pub got_inside : (ts us : Tys) (r : Outcome) → inside ts us ≡ meet x y → Walks s ts us r → Walk s a b r
  got_inside ts us r e h = walk_inside ts us (met e) h

-- ends of one walk as ends of another
pub ends_through : {U : Type 0} (P Q : Outcome → Type 0) → ((r : Outcome) → P r → Q r) → (new : Substitution) (r : Result U UnifyErr) →
    EndsIn P new r → EndsIn Q new r
ends_through P Q f new (Ok u) h = f _ h
ends_through P Q f new (Err (Clash left right)) h = f _ h
ends_through P Q f new (Err (Occurs var t)) h = f _ h
ends_through P Q f new (Err Memory) h = tt

pub stops_at : (P Q : Outcome → Type 0) → ((c d : Ty) → P (clash c d) → Q (clash c d)) → ((v : ℕ) (u : Ty) → P (occurs v u) → Q (occurs v u)) →
    (e : UnifyErr) → StopsAt P e → StopsAt Q e
stops_at P Q f g (Clash left right) h = f _ _ h
stops_at P Q f g (Occurs var t) h = g _ _ h
stops_at P Q f g Memory h = tt

pub long_enough : (x y : Ty) (ts us : List declared.Ty) → inside (types ts) (types us) ≡ meet x y → length ts ≡ length us
long_enough x y ts us e = sym (count_types ts) ∙ as_long x y (types ts) (types us) (sym e) ∙ count_types us

pub continues_itself : (s : Substitution) → Continues s s
continues_itself s = ([], sym (append-nil s))

pub continues_on : (old mid new : Substitution) → Continues old mid → Continues mid new → Continues old new
continues_on old mid new (m, e) (n, f) = (m ++ n, f ∙ ap (λ s. s ++ n) e ∙ append_assoc old m n)

-- what the end of a walk says of unifiers
pub unified : {U : Type 0} (s : Substitution) (a b : Ty) (new : Substitution) (r : Result U UnifyErr) → EndsIn (Walk s a b) new r → IsWhole s →
    OnOk r (IsMostGeneral s a b new)
unified s a b new (Ok u) h w = most_general h w
unified s a b new (Err e) h w = tt

pub refused : {U : Type 0} (s : Substitution) (a b : Ty) (new : Substitution) (r : Result U UnifyErr) → EndsIn (Walk s a b) new r → IsWhole s →
    IfErr r (λ e. Refuses e s a b)
refused s a b new (Ok u) h w = tt
refused s a b new (Err (Clash left right)) h w = none_clash h w
refused s a b new (Err (Occurs var t)) h w = none_occurs h w
refused s a b new (Err Memory) h w = tt
