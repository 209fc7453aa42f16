-- What the reader reads is a text.
use Rattle.std.proofs.Common.{◌≡◌, ◌⊎◌, ℕ, zero, suc, true, Some, None, List, [], ◌∷◌, ◌++◌, inl, inr, refl, sym, ap, subst, ◌∙◌, append_assoc}
use Rattle.std.proofs.lemmas.Bool.{cases_Bool}
use Rattle.tg_rules.specs.Rule.{Rule, tok, nt, seq, alt, opt, act, has}
use Rattle.tg_rules.specs.Texts.{Is, Within}
use Rattle.tg_rules.specs.Foresight.{Foresight, first_of}
use Rattle.tg_rules.specs.Reader.{Read, ok, err, out, mapped, followed, starts, token_at, read_in, read_within}

module _ {T A : Type 0} where
  pub same_value : (x : Read T A) (a b : A) (r s : List T) → x ≡ ok a r → x ≡ ok b s → a ≡ b
  same_value x a b r s p q = cc

  pub same_rest : (x : Read T A) (a b : A) (r s : List T) → x ≡ ok a r → x ≡ ok b s → r ≡ s
  same_rest x a b r s p q = cc

  pub same_fault : (x : Read T A) (r s : List T) → x ≡ err r → x ≡ err s → r ≡ s
  same_fault x r s p q = cc

  pub ok_or_err : (x : Read T A) (a : A) (r s : List T) → x ≡ ok a r → x ≡ err s → ⊥
  ok_or_err x a r s p q = cc

  pub ok_or_out : (x : Read T A) (a : A) (r : List T) → x ≡ ok a r → x ≡ out → ⊥
  ok_or_out x a r p q = cc

  pub err_or_out : (x : Read T A) (r : List T) → x ≡ err r → x ≡ out → ⊥
  err_or_out x r p q = cc

-- the reading of parts and of choices, backwards
module _ {T : Type 0} where
  pub mapped_ok : {A B : Type 0} (make : A → B) (x : Read T A) (b : B) (rest : List T) → mapped make x ≡ ok b rest → (a : A) × (b ≡ make a) × (x ≡ ok a rest)
  mapped_ok make (ok a r) b rest e = (
    a,
    same_value (ok (make a) r) b (make a) rest r e refl,
    ap (ok a) (same_rest (ok (make a) r) (make a) b r rest refl e),
  )
  mapped_ok make (err r) b rest e = absurd (ok_or_err (err r) b rest r e refl)
  mapped_ok make out b rest e = absurd (ok_or_out out b rest e refl)

  pub mapped_err : {A B : Type 0} (make : A → B) (x : Read T A) (rest : List T) → mapped make x ≡ err rest → x ≡ err rest
  mapped_err {A} make (ok a r) rest e = absurd (ok_or_err (ok (make a) r) (make a) r rest refl e)
  mapped_err make (err r) rest e = ap err (same_fault (mapped make (err r)) r rest refl e)
  mapped_err make out rest e = absurd (err_or_out (mapped make out) rest e refl)

  pub followed_ok : {A B : Type 0} (x : Read T A) (next : List T → Read T B) (v : A × B) (rest : List T) → followed x next ≡ ok v rest
      → (middle : List T) × (x ≡ ok v.0 middle) × (next middle ≡ ok v.1 rest)
  followed_ok {A} {B} (ok a r) next v rest e =
      let last = mapped_ok {B = A × B} (λ b. (a, b)) (next r) v rest e in
      (r, ap (λ x. ok x r) (sym (ap (λ p. p.0) last.1)), last.2 ∙ ap (λ x. ok x rest) (sym (ap (λ p. p.1) last.1)))
  followed_ok (err r) next v rest e = absurd (ok_or_err (err r) v rest r e refl)
  followed_ok out next v rest e = absurd (ok_or_out out v rest e refl)

  -- the first part is at fault, or the second
  pub followed_err : {A B : Type 0} (x : Read T A) (next : List T → Read T B) (rest : List T) → followed x next ≡ err rest
      → (x ≡ err rest) ⊎ ((a : A) × (middle : List T) × (x ≡ ok a middle) × (next middle ≡ err rest))
  followed_err {A} {B} (ok a r) next rest e = inr (a, r, refl, mapped_err {B = A × B} (λ b. (a, b)) (next r) rest e)
  followed_err (err r) next rest e = inl (ap err (same_fault (followed (err r) next) r rest refl e))
  followed_err out next rest e = absurd (err_or_out (followed out next) rest e refl)

module _ {T : Type 0} (kind : T → ℕ) {N : Type 0} {Value : N → Type 0} (f : Foresight N) (R : (n : N) → Value n → List T → Type 0)
    (call : (n : N) → List T → Read T (Value n)) (sound_call : (n : N) (ts : List T) (v : Value n) (rest : List T) → call n ts ≡ ok v rest → (p : List T) × R n v p × (ts ≡ p ++ rest)) where
  token_sound : (ks : List ℕ) (t : T) (ts : List T) (v : T) (rest : List T) → token_at kind ks (t ∷ ts) ≡ ok v rest → (has ks (kind v) ≡ true) × (t ∷ ts ≡ v ∷ rest)
  token_sound ks t ts v rest e =
      elim (cases_Bool (has ks (kind t))) [
        | inl is ↦
            let taken : ok t ts ≡ ok v rest = rw is at e in
            let same : t ≡ v = same_value (ok t ts) t v ts rest refl taken in
            let left : ts ≡ rest = same_rest (ok t ts) t v ts rest refl taken in
            (subst (λ x. has ks (kind x) ≡ true) same is, cc)
        | inr isnt ↦ let failed : err (t ∷ ts) ≡ ok v rest = rw isnt at e in absurd (ok_or_err (err (t ∷ ts)) v rest (t ∷ ts) failed refl)
      ]

  pub sound : {A : Type 0} (g : Rule T N Value A) (ts : List T) (v : A) (rest : List T) → read_in kind f call g ts ≡ ok v rest
      → (p : List T) × Is kind R g v p × (ts ≡ p ++ rest)
  sound (tok k ks) [] v rest e = absurd (ok_or_err (err []) v rest [] e refl)
  sound (tok k ks) (t ∷ ts) v rest e = let is = token_sound (k ∷ ks) t ts v rest e in (v ∷ [], (is.0, refl), is.1)
  sound (nt n) ts v rest e = sound_call n ts v rest e
  sound (seq g h) ts v rest e =
      let (middle, e1, e2) = followed_ok (read_in kind f call g ts) (read_in kind f call h) v rest e in
      let (p, is1, q1) = sound g ts v.0 middle e1 in
      let (q, is2, q2) = sound h middle v.1 rest e2 in
      (p ++ q, (p, q, is1, is2, refl), q1 ∙ ap (λ x. p ++ x) q2 ∙ sym (append_assoc p q rest))
  sound (alt g h) ts v rest e =
      elim (cases_Bool (starts kind (first_of f g) ts)) [
        | inl is ↦ let (p, h, q) = sound g ts v rest (rw is at e) in (p, inl h, q)
        | inr isnt ↦ let (p, h, q) = sound h ts v rest (rw isnt at e) in (p, inr h, q)
      ]
  sound (opt g) ts v rest e =
      elim (cases_Bool (starts kind (first_of f g) ts)) [
        | inl is ↦
            let (a, same, x) = mapped_ok Some (read_in kind f call g ts) v rest (rw is at e) in
            let (p, h, q) = sound g ts a rest x in
            (p, inr (a, same, h), q)
        | inr isnt ↦
            let taken : ok None ts ≡ ok v rest = rw isnt at e in
            ([], inl (same_value (ok None ts) v None rest ts taken refl, refl), same_rest (ok None ts) None v ts rest refl taken)
      ]
  sound (act make g) ts v rest e =
      let (a, same, x) = mapped_ok make (read_in kind f call g ts) v rest e in
      let (p, h, q) = sound g ts a rest x in
      (p, (a, same, h), q)

module _ {T : Type 0} (kind : T → ℕ) {N : Type 0} {Value : N → Type 0} (rule : (n : N) → Rule T N Value (Value n)) (f : Foresight N) where
  pub sound_within : (h : ℕ) (n : N) (ts : List T) (v : Value n) (rest : List T) → read_within kind f rule h n ts ≡ ok v rest
      → (p : List T) × Within kind rule h n v p × (ts ≡ p ++ rest)
  sound_within zero n ts v rest e = absurd (ok_or_out out v rest e refl)
  sound_within (suc h) n ts v rest e = sound kind f (Within kind rule h) (read_within kind f rule h) (sound_within h) (rule n) ts v rest e
