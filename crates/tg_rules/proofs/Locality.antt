-- A reader has one token of foresight: of two texts with the same tokens up to `t`, it does the same until it takes `t`. So
-- what goes wrong at `t` goes wrong there whatever stands behind.
use Rattle.std.proofs.Common.{◌≡◌, ℕ, zero, suc, ◌≤◌, Bool, true, false, Some, None, List, [], ◌∷◌, ◌++◌, length, refl, sym, ap, subst, if◌then◌else◌, arith}
use Rattle.tg_rules.specs.Rule.{Rule, tok, nt, seq, alt, opt, act, has}
use Rattle.tg_rules.specs.Foresight.{Foresight, first_of}
use Rattle.tg_rules.specs.Reader.{Read, ok, err, out, mapped, followed, starts, token_at, read_in, read_within}

-- how many tokens are left
abbrev pub left_of : {T A : Type 0} → Read T A → ℕ
left_of (ok a rest) = length rest
left_of (err rest) = length rest
left_of out = 0

module _ {T : Type 0} where
  mapped_left : {A B : Type 0} (make : A → B) (x : Read T A) → left_of (mapped make x) ≡ left_of x
  mapped_left make (ok a rest) = refl
  mapped_left make (err rest) = refl
  mapped_left make out = refl

  followed_left : {A B : Type 0} (x : Read T A) (next : List T → Read T B) (n : ℕ) → left_of x ≤ n → ((ts : List T) → left_of (next ts) ≤ length ts) → left_of (followed x next) ≤ n
  followed_left {A} {B} (ok a rest) next n le less = omega (arith, le, less rest, mapped_left {B = A × B} (λ b. (a, b)) (next rest))
  followed_left (err rest) next n le less = le
  followed_left out next n le less = le

-- reading what ends in `t` and then `r`, beside reading the same but `c` behind `t`
module _ {T : Type 0} (t : T) (r c : List T) where
  pub data Local {A : Type 0} (x y : Read T A) : Type 0 where
    -- both stop before `t`, with one value
    goes : (v : A) (q : List T) → x ≡ ok v (q ++ t ∷ r) → y ≡ ok v (q ++ t ∷ c) → Local x y
    -- both are at fault at `t` or before it
    stops : (q : List T) → x ≡ err (q ++ t ∷ r) → y ≡ err (q ++ t ∷ c) → Local x y
    -- `t` was taken
    past : left_of x ≤ length r → Local x y

  mapped_local : {A B : Type 0} (make : A → B) (x y : Read T A) → Local x y → Local (mapped make x) (mapped make y)
  mapped_local make x y (goes v q e1 e2) = goes (make v) q (ap (mapped make) e1) (ap (mapped make) e2)
  mapped_local make x y (stops q e1 e2) = stops q (ap (mapped make) e1) (ap (mapped make) e2)
  mapped_local make (ok a rest) y (past le) = past le
  mapped_local make (err rest) y (past le) = past le
  mapped_local make out y (past le) = past le

  chosen_local : {A : Type 0} (b : Bool) (x x' y y' : Read T A) → Local x x' → Local y y' → Local (if b then x else y) (if b then x' else y')
  chosen_local true x x' y y' p q = p
  chosen_local false x x' y y' p q = q

  moved : {A : Type 0} (x x' y y' : Read T A) → x ≡ x' → y ≡ y' → Local x' y' → Local x y
  moved x x' y y' e1 e2 l = subst (λ z. Local z y) (sym e1) (subst (λ z. Local x' z) (sym e2) l)

  followed_local : {A B : Type 0} (x y : Read T A) (next : List T → Read T B) → Local x y → ((q : List T) → Local (next (q ++ t ∷ r)) (next (q ++ t ∷ c)))
      → ((ts : List T) → left_of (next ts) ≤ length ts) → Local (followed x next) (followed y next)
  followed_local {A} {B} x y next (goes v q e1 e2) later less =
      moved (followed x next) (followed (ok v (q ++ t ∷ r)) next) (followed y next) (followed (ok v (q ++ t ∷ c)) next) (ap (λ z. followed z next) e1) (ap (λ z. followed z next) e2)
      (mapped_local {B = A × B} (λ b. (v, b)) (next (q ++ t ∷ r)) (next (q ++ t ∷ c)) (later q))
  followed_local x y next (stops q e1 e2) later less = stops q (ap (λ z. followed z next) e1) (ap (λ z. followed z next) e2)
  followed_local x y next (past le) later less = past (followed_left x next (length r) le less)

  token_local : (kind : T → ℕ) (ks : List ℕ) (q : List T) → Local (token_at kind ks (q ++ t ∷ r)) (token_at kind ks (q ++ t ∷ c))
  token_local kind ks [] = chosen_local (has ks (kind t)) (ok t r) (ok t c) (err (t ∷ r)) (err (t ∷ c)) (past (omega arith)) (stops [] refl refl)
  token_local kind ks (s ∷ q) =
      chosen_local (has ks (kind s)) (ok s (q ++ t ∷ r)) (ok s (q ++ t ∷ c)) (err (s ∷ (q ++ t ∷ r))) (err (s ∷ (q ++ t ∷ c))) (goes s q refl refl) (stops (s ∷ q) refl refl)

  pub starts_same : (kind : T → ℕ) (ks : List ℕ) (q : List T) → starts kind ks (q ++ t ∷ c) ≡ starts kind ks (q ++ t ∷ r)
  starts_same kind ks [] = refl
  starts_same kind ks (s ∷ q) = refl

module _ {T : Type 0} (kind : T → ℕ) {N : Type 0} {Value : N → Type 0} (f : Foresight N) (call : (n : N) → List T → Read T (Value n))
    (less_call : (n : N) (ts : List T) → left_of (call n ts) ≤ length ts) where
  chosen_less : {A : Type 0} (b : Bool) (x y : Read T A) (n : ℕ) → left_of x ≤ n → left_of y ≤ n → left_of (if b then x else y) ≤ n
  chosen_less true x y n p q = p
  chosen_less false x y n p q = q

  token_less : (ks : List ℕ) (ts : List T) → left_of (token_at kind ks ts) ≤ length ts
  token_less ks [] = omega arith
  token_less ks (t ∷ ts) = chosen_less (has ks (kind t)) (ok t ts) (err (t ∷ ts)) (length (t ∷ ts)) (omega arith) (omega arith)

  mapped_less : {A B : Type 0} (make : A → B) (x : Read T A) (n : ℕ) → left_of x ≤ n → left_of (mapped make x) ≤ n
  mapped_less make x n le = subst (λ k. k ≤ n) (sym (mapped_left make x)) le

  pub less_left : {A : Type 0} (g : Rule T N Value A) (ts : List T) → left_of (read_in kind f call g ts) ≤ length ts
  less_left (tok k ks) ts = token_less (k ∷ ks) ts
  less_left (nt n) ts = less_call n ts
  less_left (seq g h) ts = followed_left (read_in kind f call g ts) (read_in kind f call h) (length ts) (less_left g ts) (less_left h)
  less_left (alt g h) ts = chosen_less (starts kind (first_of f g) ts) (read_in kind f call g ts) (read_in kind f call h ts) (length ts) (less_left g ts) (less_left h ts)
  less_left (opt g) ts =
      chosen_less (starts kind (first_of f g) ts) (mapped Some (read_in kind f call g ts)) (ok None ts) (length ts)
      (mapped_less Some (read_in kind f call g ts) (length ts) (less_left g ts)) (omega arith)
  less_left (act make g) ts = mapped_less make (read_in kind f call g ts) (length ts) (less_left g ts)

  module _ (t : T) (r c : List T) (local_call : (n : N) (q : List T) → Local t r c (call n (q ++ t ∷ r)) (call n (q ++ t ∷ c))) where
    pub local : {A : Type 0} (g : Rule T N Value A) (q : List T) → Local t r c (read_in kind f call g (q ++ t ∷ r)) (read_in kind f call g (q ++ t ∷ c))
    local (tok k ks) q = token_local t r c kind (k ∷ ks) q
    local (nt n) q = local_call n q
    local (seq g h) q = followed_local t r c (read_in kind f call g (q ++ t ∷ r)) (read_in kind f call g (q ++ t ∷ c)) (read_in kind f call h) (local g q) (local h) (less_left h)
    local (alt g h) q =
        rw (starts_same t r c kind (first_of f g) q)
        (chosen_local t r c (starts kind (first_of f g) (q ++ t ∷ r)) (read_in kind f call g (q ++ t ∷ r)) (read_in kind f call g (q ++ t ∷ c))
        (read_in kind f call h (q ++ t ∷ r)) (read_in kind f call h (q ++ t ∷ c)) (local g q) (local h q))
    local (opt g) q =
        rw (starts_same t r c kind (first_of f g) q)
        (chosen_local t r c (starts kind (first_of f g) (q ++ t ∷ r)) (mapped Some (read_in kind f call g (q ++ t ∷ r))) (mapped Some (read_in kind f call g (q ++ t ∷ c)))
        (ok None (q ++ t ∷ r)) (ok None (q ++ t ∷ c))
        (mapped_local t r c Some (read_in kind f call g (q ++ t ∷ r)) (read_in kind f call g (q ++ t ∷ c)) (local g q)) (goes None q refl refl))
    local (act make g) q = mapped_local t r c make (read_in kind f call g (q ++ t ∷ r)) (read_in kind f call g (q ++ t ∷ c)) (local g q)

module _ {T : Type 0} (kind : T → ℕ) {N : Type 0} {Value : N → Type 0} (rule : (n : N) → Rule T N Value (Value n)) (f : Foresight N) where
  less_within : (h : ℕ) (n : N) (ts : List T) → left_of (read_within kind f rule h n ts) ≤ length ts
  less_within zero n ts = omega arith
  less_within (suc h) n ts = less_left kind f (read_within kind f rule h) (less_within h) (rule n) ts

  pub local_within : (t : T) (r c : List T) (h : ℕ) (n : N) (q : List T)
      → Local t r c (read_within kind f rule h n (q ++ t ∷ r)) (read_within kind f rule h n (q ++ t ∷ c))
  local_within t r c zero n q = past (omega arith)
  local_within t r c (suc h) n q = local kind f (read_within kind f rule h) (less_within h) t r c (local_within t r c h) (rule n) q
