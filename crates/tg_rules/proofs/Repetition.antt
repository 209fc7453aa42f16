-- A repetition is read by a loop: as long as the next token begins one more, one more is read.
use Rattle.std.proofs.Common.{◌≡◌, Bool, true, false, Some, None, List, [], ◌∷◌, ◌++◌, refl, sym, ap, ◌∙◌, append_assoc, append-nil, if◌then◌else◌}
use Rattle.tg_rules.specs.Reader.{Read, ok, err, out, mapped, followed}
use Rattle.tg_rules.specs.Repetition.{listed, with_front, fold_from}

module _ {T : Type 0} where
  longer_front : {A : Type 0} (front : List A) (a : A) (r : Read T (List A)) → with_front front (mapped (λ rest. a ∷ rest) r) ≡ with_front (front ++ a ∷ []) r
  longer_front front a (ok rest left) = ap (λ z. ok z left) (sym (append_assoc front (a ∷ []) rest))
  longer_front front a (err left) = refl
  longer_front front a out = refl

  next_fold : {A B : Type 0} (step : A → B → A) (a : A) (b : B) (r : Read T (List B)) → fold_from step a (mapped (λ rest. b ∷ rest) r) ≡ fold_from step (step a b) r
  next_fold step a b (ok rest left) = refl
  next_fold step a b (err left) = refl
  next_fold step a b out = refl

  listed_pair : {A : Type 0} (a : A) (r : Read T (List A)) → mapped listed (mapped Some (mapped {B = A × List A} (λ rest. (a, rest)) r)) ≡ mapped (λ rest. a ∷ rest) r
  listed_pair a (ok rest left) = refl
  listed_pair a (err left) = refl
  listed_pair a out = refl

-- `many` reads a repetition of what `one` reads, as its rule says; `begins` tells whether one more begins here
module _ {T A : Type 0} (begins : List T → Bool) (one : List T → Read T A) (many : List T → Read T (List A))
    (by_rule : (ts : List T) → many ts ≡ mapped listed (if begins ts then mapped Some (followed (one ts) many) else ok None ts)) where
  many_end : (ts : List T) → begins ts ≡ false → many ts ≡ ok [] ts
  many_end ts e = by_rule ts ∙ rw e refl

  many_next : (ts rest : List T) (a : A) → begins ts ≡ true → one ts ≡ ok a rest → many ts ≡ mapped (λ more. a ∷ more) (many rest)
  many_next ts rest a e read = by_rule ts ∙ rw (e, read) (listed_pair a (many rest))

  many_fault : (ts left : List T) → begins ts ≡ true → one ts ≡ err left → many ts ≡ err left
  many_fault ts left e read = by_rule ts ∙ rw (e, read) refl

  -- a loop that makes a list
  pub front_end : (front : List A) (ts : List T) → begins ts ≡ false → with_front front (many ts) ≡ ok front ts
  front_end front ts e = ap (with_front front) (many_end ts e) ∙ ap (λ z. ok z ts) (append-nil front)

  pub front_next : (front : List A) (ts rest : List T) (a : A) → begins ts ≡ true → one ts ≡ ok a rest → with_front front (many ts) ≡ with_front (front ++ a ∷ []) (many rest)
  front_next front ts rest a e read = ap (with_front front) (many_next ts rest a e read) ∙ longer_front front a (many rest)

  pub front_fault : (front : List A) (ts left : List T) → begins ts ≡ true → one ts ≡ err left → with_front front (many ts) ≡ err left
  front_fault front ts left e read = ap (with_front front) (many_fault ts left e read)

  -- a loop that folds to the left
  pub fold_end : {B : Type 0} (step : B → A → B) (b : B) (ts : List T) → begins ts ≡ false → fold_from step b (many ts) ≡ ok b ts
  fold_end step b ts e = ap (fold_from step b) (many_end ts e)

  pub fold_next : {B : Type 0} (step : B → A → B) (b : B) (ts rest : List T) (a : A) → begins ts ≡ true → one ts ≡ ok a rest
      → fold_from step b (many ts) ≡ fold_from step (step b a) (many rest)
  fold_next step b ts rest a e read = ap (fold_from step b) (many_next ts rest a e read) ∙ next_fold step b a (many rest)

  pub fold_fault : {B : Type 0} (step : B → A → B) (b : B) (ts left : List T) → begins ts ≡ true → one ts ≡ err left → fold_from step b (many ts) ≡ err left
  fold_fault step b ts left e read = ap (fold_from step b) (many_fault ts left e read)

-- ---- one and then more

module _ {T : Type 0} where
  pub without_front : {A : Type 0} (r : Read T (List A)) → with_front [] r ≡ r
  without_front (ok rest left) = refl
  without_front (err left) = refl
  without_front out = refl

-- what `one` reads, and then a repetition of it
abbrev pub some_read : {T A : Type 0} → (List T → Read T A) → (List T → Read T (List A)) → List T → Read T (List A)
some_read {T} {A} one many ts = mapped {A = A × List A} (λ x. x.0 ∷ x.1) (followed (one ts) many)

module _ {T A : Type 0} where
  consed : (a : A) (r : Read T (List A)) → mapped {A = A × List A} (λ x. x.0 ∷ x.1) (mapped {B = A × List A} (λ rest. (a, rest)) r) ≡ mapped (λ rest. a ∷ rest) r
  consed a (ok rest left) = refl
  consed a (err left) = refl
  consed a out = refl

  listed_some : (r : Read T (A × List A)) → mapped listed (mapped Some r) ≡ mapped (λ x. x.0 ∷ x.1) r
  listed_some (ok x left) = refl
  listed_some (err left) = refl
  listed_some out = refl

  behind_token : (t : T) (r : Read T (A × List A)) → mapped listed (mapped Some (mapped {A = T × (A × List A)} (λ x. x.1) (mapped {B = T × (A × List A)} (λ y. (t, y)) r))) ≡ mapped (λ x. x.0 ∷ x.1) r
  behind_token t (ok x left) = refl
  behind_token t (err left) = refl
  behind_token t out = refl

-- the first is read, and then the repetition
module _ {T A : Type 0} (begins : List T → Bool) (one : List T → Read T A) (many : List T → Read T (List A)) where
  pub some_goes_on : (front : List A) (ts rest : List T) (a : A) → one ts ≡ ok a rest → with_front front (some_read one many ts) ≡ with_front (front ++ a ∷ []) (many rest)
  some_goes_on front ts rest a read = rw read (ap (with_front front) (consed a (many rest)) ∙ longer_front front a (many rest))

  pub some_fault : (front : List A) (ts left : List T) → one ts ≡ err left → with_front front (some_read one many ts) ≡ err left
  some_fault front ts left read = rw read refl

  -- without a token between
  module _ (by_rule : (ts : List T) → many ts ≡ mapped listed (if begins ts then mapped Some (followed (one ts) many) else ok None ts)) where
    pub some_end : (front : List A) (ts rest : List T) (a : A) → one ts ≡ ok a rest → begins rest ≡ false → with_front front (some_read one many ts) ≡ ok (front ++ a ∷ []) rest
    some_end front ts rest a read e =
        some_goes_on front ts rest a read ∙ ap (with_front (front ++ a ∷ [])) (many_end begins one many by_rule rest e) ∙ ap (λ z. ok z rest) (append-nil (front ++ a ∷ []))

    pub some_next : (front : List A) (ts rest : List T) (a : A) → one ts ≡ ok a rest → begins rest ≡ true
        → with_front front (some_read one many ts) ≡ with_front (front ++ a ∷ []) (some_read one many rest)
    some_next front ts rest a read e =
        some_goes_on front ts rest a read ∙ ap (with_front (front ++ a ∷ [])) (by_rule rest ∙ rw e (listed_some (followed (one rest) many)))

    -- the repetition is nothing, or one and then more
    pub many_none : (ts : List T) → begins ts ≡ false → many ts ≡ ok [] ts
    many_none = many_end begins one many by_rule

    pub many_some : (ts : List T) → begins ts ≡ true → many ts ≡ some_read one many ts
    many_some ts e = by_rule ts ∙ rw e (listed_some (followed (one ts) many))

  -- with a token between
  module _ (between : List T → Read T T)
      (by_rule : (ts : List T) → many ts ≡ mapped listed (if begins ts then mapped Some (mapped {A = T × (A × List A)} (λ x. x.1) (followed (between ts) (λ left. followed (one left) many))) else ok None ts)) where
    pub last_one : (front : List A) (ts rest : List T) (a : A) → one ts ≡ ok a rest → begins rest ≡ false → with_front front (some_read one many ts) ≡ ok (front ++ a ∷ []) rest
    last_one front ts rest a read e =
        let none : many rest ≡ ok [] rest = by_rule rest ∙ rw e refl in
        some_goes_on front ts rest a read ∙ ap (with_front (front ++ a ∷ [])) none ∙ ap (λ z. ok z rest) (append-nil (front ++ a ∷ []))

    pub one_behind : (front : List A) (ts rest left : List T) (a : A) (t : T) → one ts ≡ ok a rest → begins rest ≡ true → between rest ≡ ok t left
        → with_front front (some_read one many ts) ≡ with_front (front ++ a ∷ []) (some_read one many left)
    one_behind front ts rest left a t read e token =
        some_goes_on front ts rest a read ∙ ap (with_front (front ++ a ∷ [])) (by_rule rest ∙ rw (e, token) (behind_token t (followed (one left) many)))
