-- The walk through two types from their roots, and the first pair that can't agree.
use Rattle.std.specs.Prelude.{ℕ, suc, ◌≡◌, [], ◌∷◌, ◌++◌, nat_eq, if◌then◌else◌}
use Rattle.tg_model.specs.Types.{Ty, Tys, nat, bool, parameter, meta, applied, none, more}
use Rattle.tg_types.specs.Substitutions.{holds, Substitution, apply}

abbrev pub count : Tys → ℕ
count none = 0
count (more t ts) = suc (count ts)

-- What two types say at their roots: they agree; an open type is to stand for a type that doesn't hold it; an open type
-- stands beside a type that holds it; the arguments are to be walked; or the roots differ.
pub data Meeting : Type 0 where
  agree : Meeting
  binds : (v : ℕ) (u : Ty) → Meeting
  loops : (v : ℕ) (u : Ty) → Meeting
  inside : (ts us : Tys) → Meeting
  differ : Meeting

-- an open type beside a type that is no open one
abbrev pub beside : ℕ → Ty → Meeting
beside v t = if holds v t then loops v t else binds v t

abbrev pub meet_applied : ℕ → Tys → ℕ → Tys → Meeting
meet_applied d ts e us = if nat_eq d e then (if nat_eq (count ts) (count us) then inside ts us else differ) else differ

-- of two different open types the left one is to stand for the right one
abbrev pub meet : Ty → Ty → Meeting
meet (meta v) (meta w) = if nat_eq v w then agree else binds v (meta w)
meet (meta v) b = beside v b
meet a (meta w) = beside w a
meet nat nat = agree
meet bool bool = agree
meet (parameter m) (parameter n) = if nat_eq m n then agree else differ
meet (applied d ts) (applied e us) = meet_applied d ts e us
meet a b = differ

-- how a walk ends: with a substitution, or at the first pair that can't agree
pub data Outcome : Type 0 where
  done : (s : Substitution) → Outcome
  clash : (a b : Ty) → Outcome
  occurs : (v : ℕ) (u : Ty) → Outcome

-- Both types are taken with all agreements so far put in; arguments are walked from the left.
mutual
  pub data Walk : Substitution → Ty → Ty → Outcome → Type 0 where
    walk_agree : {s : Substitution} {a b : Ty} → meet (apply s a) (apply s b) ≡ agree → Walk s a b (done s)
    walk_binds : {s : Substitution} {a b u : Ty} {v : ℕ} →
        meet (apply s a) (apply s b) ≡ binds v u → Walk s a b (done (s ++ (record { variable = v; meaning = u }) ∷ []))
    walk_loops : {s : Substitution} {a b u : Ty} {v : ℕ} → meet (apply s a) (apply s b) ≡ loops v u → Walk s a b (occurs v u)
    walk_differ : {s : Substitution} {a b c d : Ty} →
        meet (apply s a) (apply s b) ≡ differ → c ≡ apply s a → d ≡ apply s b → Walk s a b (clash c d)
    walk_inside : {s : Substitution} {a b : Ty} {r : Outcome} (ts us : Tys) →
        meet (apply s a) (apply s b) ≡ inside ts us → Walks s ts us r → Walk s a b r

  pub data Walks : Substitution → Tys → Tys → Outcome → Type 0 where
    walks_end : {s : Substitution} → Walks s none none (done s)
    walks_next : {s next : Substitution} {t u : Ty} {ts us : Tys} {r : Outcome} →
        Walk s t u (done next) → Walks next ts us r → Walks s (more t ts) (more u us) r
    walks_clash : {s : Substitution} {t u c d : Ty} {ts us : Tys} → Walk s t u (clash c d) → Walks s (more t ts) (more u us) (clash c d)
    walks_occurs : {s : Substitution} {t u w : Ty} {v : ℕ} {ts us : Tys} →
        Walk s t u (occurs v w) → Walks s (more t ts) (more u us) (occurs v w)
