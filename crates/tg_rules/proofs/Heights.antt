-- Trees of several heights are one tree: what is put together of texts of the parts is a text.
use Rattle.std.proofs.Common.{ℕ, zero, suc, ◌+◌, ◌≤◌, List, inl, inr, arith}
use Rattle.tg_rules.specs.Rule.{Rule, tok, nt, seq, alt, opt, act}
use Rattle.tg_rules.specs.Texts.{Is, Within, Reads}

module _ {T : Type 0} (kind : T → ℕ) {N : Type 0} {Value : N → Type 0} where
  -- what is more of the parts is more of the rules
  pub grows : (R S : (n : N) → Value n → List T → Type 0) → ((n : N) (v : Value n) (ts : List T) → R n v ts → S n v ts)
      → {A : Type 0} (g : Rule T N Value A) (v : A) (ts : List T) → Is kind R g v ts → Is kind S g v ts
  grows R S more (tok k ks) v ts h = h
  grows R S more (nt n) v ts h = more n v ts h
  grows R S more (seq g h) v ts (p, q, a, b, e) = (p, q, grows R S more g v.0 p a, grows R S more h v.1 q b, e)
  grows R S more (alt g h) v ts (inl a) = inl (grows R S more g v ts a)
  grows R S more (alt g h) v ts (inr b) = inr (grows R S more h v ts b)
  grows R S more (opt g) v ts (inl e) = inl e
  grows R S more (opt g) v ts (inr (a, e, h)) = inr (a, e, grows R S more g a ts h)
  grows R S more (act make g) v ts (a, e, h) = (a, e, grows R S more g a ts h)

module _ {T : Type 0} (kind : T → ℕ) {N : Type 0} {Value : N → Type 0} (rule : (n : N) → Rule T N Value (Value n)) where
  pub taller : (h m : ℕ) → h ≤ m → (n : N) (v : Value n) (ts : List T) → Within kind rule h n v ts → Within kind rule m n v ts
  taller zero m le n v ts w = absurd w
  taller (suc h) zero le n v ts w = absurd (omega arith)
  taller (suc h) (suc m) le n v ts w = grows kind (Within kind rule h) (Within kind rule m) (taller h m (omega arith)) (rule n) v ts w

  pub joined : {A : Type 0} (g : Rule T N Value A) (v : A) (ts : List T) → Is kind (Reads kind rule) g v ts → (h : ℕ) × Is kind (Within kind rule h) g v ts
  joined (tok k ks) v ts h = (0, h)
  joined (nt n) v ts h = h
  joined (seq g h) v ts (p, q, a, b, e) =
      let (i, x) = joined g v.0 p a in
      let (j, y) = joined h v.1 q b in
      let first = grows kind (Within kind rule i) (Within kind rule (i + j)) (taller i (i + j) (omega arith)) g v.0 p x in
      let second = grows kind (Within kind rule j) (Within kind rule (i + j)) (taller j (i + j) (omega arith)) h v.1 q y in
      (i + j, (p, q, first, second, e))
  joined (alt g h) v ts (inl a) = let (i, x) = joined g v ts a in (i, inl x)
  joined (alt g h) v ts (inr b) = let (i, x) = joined h v ts b in (i, inr x)
  joined (opt g) v ts (inl e) = (0, inl e)
  joined (opt g) v ts (inr (a, e, h)) = let (i, x) = joined g a ts h in (i, inr (a, e, x))
  joined (act make g) v ts (a, e, h) = let (i, x) = joined g a ts h in (i, (a, e, x))

  -- a text of a part is a text of its rule, and the other way round
  pub by_rule : (n : N) (v : Value n) (ts : List T) → Is kind (Reads kind rule) (rule n) v ts → Reads kind rule n v ts
  by_rule n v ts h = let (i, x) = joined (rule n) v ts h in (suc i, x)

  pub of_rule : (n : N) (v : Value n) (ts : List T) → Reads kind rule n v ts → Is kind (Reads kind rule) (rule n) v ts
  of_rule n v ts (zero, w) = absurd w
  of_rule n v ts (suc h, w) = grows kind (Within kind rule h) (Reads kind rule) (λ m u us x. (h, x)) (rule n) v ts w

-- Of all relations that the rules keep within, the readings are the least: so what holds of them is shown rule by rule.
module _ {T : Type 0} (kind : T → ℕ) {N : Type 0} {Value : N → Type 0} (rule : (n : N) → Rule T N Value (Value n)) (R : (n : N) → Value n → List T → Type 0)
    (closed : (n : N) (v : Value n) (ts : List T) → Is kind R (rule n) v ts → R n v ts) where
  least_within : (h : ℕ) (n : N) (v : Value n) (ts : List T) → Within kind rule h n v ts → R n v ts
  least_within zero n v ts w = absurd w
  least_within (suc h) n v ts w = closed n v ts (grows kind (Within kind rule h) R (least_within h) (rule n) v ts w)

  pub least : (n : N) (v : Value n) (ts : List T) → Reads kind rule n v ts → R n v ts
  least n v ts r = least_within r.0 n v ts r.1

-- So of two tables with the same parts the one has all readings of the other, if the other's rules put together nothing but
-- what the one reads already.
pub reads_also : {T : Type 0} (kind : T → ℕ) {N : Type 0} {Value : N → Type 0} (rule other : (n : N) → Rule T N Value (Value n))
    → ((n : N) (v : Value n) (ts : List T) → Is kind (Reads kind rule) (other n) v ts → Reads kind rule n v ts)
    → (n : N) (v : Value n) (ts : List T) → Reads kind other n v ts → Reads kind rule n v ts
reads_also kind rule other closed n v ts r = least kind other (Reads kind rule) closed n v ts r
