-- Certificates checked line by line.
use Rattle.std.proofs.Common.{ℕ, zero, suc, ◌≡◌, ◌≢◌, ◌≤◌, ◌+◌, true, false, List, [], ◌∷◌, ◌++◌, length, take, drop, Some, None, refl, sym, ◌∙◌, ap, subst, add-one, take_all, append_assoc, Result, Ok, Err}
use Rattle.std.specs.Prelude.{slice_get, IfOk, IfErr}
use Rattle.tg_model.specs.Formula.{Sequent}
use Rattle.tg_model.specs.Theory.{Theory, numbered}
use Rattle.tg_accept.specs.Standing.{IsAnswer, declared_in}
use Rattle.tg_calculus.specs.Book.{Line, Entry, sequents, IsInstance}
use Rattle.tg_calculus.specs.Derivation.{Derives}
use Rattle.tg_calculus.proofs.BookLaws.{append_nothing}
use Rattle.tg_grammar.specs.declared.certificates.RawLine.{RawLine}
use Rattle.tg_infer.specs.declared.words.Words.{Words}
use Rattle.tg_infer.specs.Words.{AreWordsOf}
use Rattle.tg_kernel.specs.Books.{Book, IsAppended, IsNone, IsTrueEverywhere}
use Rattle.tg_cert.specs.Lines.{Says}
use Rattle.tg_cert.specs.Certificates.{IsEntry, AreEntries, Proves, FailsAt}
use Rattle.tg_cert.specs.Code.{Takes, AreChecked, Refuses, IsWithoutLine}
use Rattle.tg_cert.specs.declared.errors.CertErr.{CertErr}
use Rattle.tg_cert.specs.declared.errors.CertErr.TheVariants.{Step, Empty, Memory}
use Rattle.tg_cert.proofs.Unique.{one_line}

-- ---- a line is taken

module _ (b : Book) (r : RawLine) where
  abbrev Done : List Sequent
  Done = sequents b.entries

  pub other_number : (n : ℕ) → n ≡ length b.entries + 1 → r.number ≢ n → Takes b b r false
  other_number n is differs = (refl, λ e i. differs (i.number ∙ ap suc (counted b.entries) ∙ sym (add-one (length b.entries)) ∙ sym is))
    where
      counted : (es : List Entry) → length (sequents es) ≡ length es
      counted [] = refl
      counted (e ∷ es) = ap suc (counted es)

  pub says_none : IsAnswer (Says b.theory Done r) None → Takes b b r false
  says_none n = (refl, λ e i. n e.line i.says)

  module _ (l : Line) (said : IsAnswer (Says b.theory Done r) (Some l)) where
    pub no_instance : (c : Book) → c ≡ b → IsNone b l → Takes b c r false
    no_instance c same none = (
      same,
      λ e i.
          let line : e.line ≡ l = one_line b.theory Done r e.line l i.says said in
          none e.sequent (subst (λ (x : Line). IsInstance b.theory Done x e.sequent) line i.instance),
    )

    pub taken : (n m : ℕ) → n ≡ length b.entries + 1 → r.number ≡ n → (c : Book) → IsAppended b c l m → Takes b c r true
    taken n m is number c a =
        let e : Entry = record { line = l; sequent = a.sequent } in (
          e,
          record { number = number ∙ is ∙ add-one (length b.entries) ∙ ap suc (sym (counted b.entries)); says = said; instance = a.instance },
          ap (λ (x : Book). x.theory) a.appended,
          ap (λ (x : Book). x.entries) a.appended,
        )
      where
        counted : (es : List Entry) → length (sequents es) ≡ length es
        counted [] = refl
        counted (e ∷ es) = ap suc (counted es)

pub ruleset taking = (other_number, says_none, no_instance, taken)

-- ---- the lines so far

take_next : (rs : List RawLine) (i : ℕ) (r : RawLine) → slice_get rs i ≡ Some r → take (suc i) rs ≡ take i rs ++ r ∷ []
take_next [] i r e = cc e
take_next (x ∷ rs) zero r e = let q : x ≡ r = cc e in ap (λ y. y ∷ []) q
take_next (x ∷ rs) (suc i) r e = ap (λ l. x ∷ l) (take_next rs i r e)

apart : (rs : List RawLine) (i : ℕ) (r : RawLine) → slice_get rs i ≡ Some r → rs ≡ take i rs ++ r ∷ drop (suc i) rs
apart [] i r e = cc e
apart (x ∷ rs) zero r e = let q : x ≡ r = cc e in ap (λ y. y ∷ rs) q
apart (x ∷ rs) (suc i) r e = ap (λ l. x ∷ l) (apart rs i r e)

module _ (th : Theory) where
  more : (done : List Sequent) (rs : List RawLine) (es : List Entry) (r : RawLine) (e : Entry) → AreEntries th done rs es
      → IsEntry th (done ++ sequents es) r e → AreEntries th done (rs ++ r ∷ []) (es ++ e ∷ [])
  more done [] [] r e h i = (subst (λ (l : List Sequent). IsEntry th l r e) (append_nothing done) i, tt)
  more done [] (x ∷ es) r e h i = absurd h
  more done (s ∷ rs) [] r e h i = absurd h
  more done (s ∷ rs) (x ∷ es) r e h i =
      (h.0, more (done ++ x.sequent ∷ []) rs es r e h.1 (subst (λ (l : List Sequent). IsEntry th l r e) (sym (append_assoc done (x.sequent ∷ []) (sequents es))) i))

  as_many : (done : List Sequent) (rs : List RawLine) (es : List Entry) → AreEntries th done rs es → length es ≡ length rs
  as_many done [] [] h = refl
  as_many done [] (x ∷ es) h = absurd h
  as_many done (s ∷ rs) [] h = absurd h
  as_many done (s ∷ rs) (x ∷ es) h = ap suc (as_many (done ++ x.sequent ∷ []) rs es h.1)

  pub begins : (rs : List RawLine) (b : Book) → b.theory ≡ th → b.entries ≡ [] → AreChecked th (take 0 rs) b
  begins rs b t e = record { theory = t; entries = subst (AreEntries th [] []) (sym e) tt }

  pub all_checked : (rs : List RawLine) (i : ℕ) (b : Book) → AreChecked th (take i rs) b → length rs ≤ i → AreChecked th rs b
  all_checked rs i b h l = subst (λ (k : List RawLine). AreChecked th k b) (take_all i rs l) h

  pub words_there : (rs : List RawLine) (b : Book) (w : Words) → AreChecked th rs b → AreWordsOf w (declared_in th) → AreWordsOf w (declared_in b.theory)
  words_there rs b w h a = subst (λ (t : Theory). AreWordsOf w (declared_in t)) (sym h.theory) a

  module _ (rs : List RawLine) (i : ℕ) (b c : Book) (h : AreChecked th (take i rs) b) where
    module _ (r : RawLine) (at : slice_get rs i ≡ Some r) where
      pub goes_on : Takes b c r true → AreChecked th (take (i + 1) rs) c
      goes_on t =
          let e = t.0 in
          let entry : IsEntry th (sequents b.entries) r e = subst (λ (x : Theory). IsEntry x (sequents b.entries) r e) h.theory t.1 in
          let list : AreEntries th [] (take i rs ++ r ∷ []) (b.entries ++ e ∷ []) = more [] (take i rs) b.entries r e h.entries entry in
          record {
            theory = t.2 ∙ h.theory;
            entries =
                subst (λ (l : List RawLine). AreEntries th [] l c.entries) (sym (ap (λ k. take k rs) (add-one i) ∙ take_next rs i r at))
                (subst (AreEntries th [] (take i rs ++ r ∷ [])) (sym t.3) list);
          }

      pub stops : (n m : ℕ) → Takes b c r false → m ≡ length c.entries → n ≡ m + 1 → FailsAt th rs n
      stops n m t counted is = record {
        before = take i rs;
        line = r;
        after = drop (suc i) rs;
        are = apart rs i r at;
        place = is ∙ add-one m ∙ ap suc (counted ∙ ap (λ (x : Book). length x.entries) t.0 ∙ as_many [] (take i rs) b.entries h.entries);
        entries = b.entries;
        good = h.entries;
        none = λ e x. t.1 e (subst (λ (y : Theory). IsEntry y (sequents b.entries) r e) (sym h.theory) x);
      }

  module _ (rs : List RawLine) (b : Book) (h : AreChecked th rs b) where
    pub nothing : b.entries ≡ [] → rs ≡ []
    nothing none = go rs (sym (as_many [] rs b.entries h.entries) ∙ ap (λ (l : List Entry). length l) none)
      where
        go : (l : List RawLine) → length l ≡ 0 → l ≡ []
        go [] e = refl
        go (x ∷ l) e = cc e

    pub proves : (s : Sequent) → numbered (sequents b.entries) (length b.entries) ≡ Some s → Proves th rs s
    proves s at =
        let p = last b.entries (length b.entries) refl at in
        record { before = p.0; last = p.1; lines = subst (AreEntries th [] rs) p.2 h.entries; is = p.3 }
      where
        here : (e : Entry) (es : List Entry) (k : ℕ) → k ≡ length es → slice_get (sequents (e ∷ es)) k ≡ Some s
            → (before : List Entry) × (x : Entry) × (e ∷ es ≡ before ++ x ∷ []) × (x.sequent ≡ s)
        here e [] zero q f = ([], e, refl, let g : e.sequent ≡ s = cc f in g)
        here e [] (suc k) q f = cc q
        here e (y ∷ es) zero q f = cc q
        here e (y ∷ es) (suc k) q f =
            let r : k ≡ length es = cc q in
            let p = here y es k r f in (e ∷ p.0, p.1, ap (λ (l : List Entry). e ∷ l) p.2, p.3)

        last : (es : List Entry) (n : ℕ) → n ≡ length es → numbered (sequents es) n ≡ Some s
            → (before : List Entry) × (x : Entry) × (es ≡ before ++ x ∷ []) × (x.sequent ≡ s)
        last es zero q f = cc f
        last [] (suc k) q f = cc q
        last (e ∷ es) (suc k) q f = let r : k ≡ length es = cc q in here e es k r f

    pub derives : (s : Sequent) → Derives b.theory s → Derives th s
    derives s d = subst (λ (x : Theory). Derives x s) h.theory d

    pub is_true : (s : Sequent) → IsTrueEverywhere b.theory s → IsTrueEverywhere th s
    is_true s t = subst (λ (x : Theory). IsTrueEverywhere x s) h.theory t

pub refuses : (th : Theory) (rs : List RawLine) (b : Book) → AreChecked th rs b → (e : CertErr) → IsWithoutLine b e → Refuses th rs e
refuses th rs b h (Step n) w = absurd w
refuses th rs b h Empty w = nothing th rs b h w
refuses th rs b h Memory w = tt

pub without : (b : Book) (n : ℕ) → n ≡ length b.entries → n ≡ 0 → b.entries ≡ []
without b n is z = go b.entries (sym is ∙ z)
  where
    go : (es : List Entry) → length es ≡ 0 → es ≡ []
    go [] e = refl
    go (e ∷ es) q = cc q

pub at_length : (b : Book) (n : ℕ) (s : Sequent) → n ≡ length b.entries → numbered (sequents b.entries) n ≡ Some s
    → numbered (sequents b.entries) (length b.entries) ≡ Some s
at_length b n s is at = ap (numbered (sequents b.entries)) (sym is) ∙ at

pub ruleset checking = (begins, words_there, goes_on, stops, all_checked)

pub ruleset ending = (without, at_length)

pub ruleset concluding = (proves, derives, is_true, refuses)

pub checked_for : (th th' : Theory) (rs rs' : List RawLine) (b : Book) → th ≡ th' → rs ≡ rs' → AreChecked th rs b → AreChecked th' rs' b
checked_for th th' rs rs' b s t h =
    subst (λ (x : Theory). AreChecked x rs' b) s (subst (λ (l : List RawLine). AreChecked th l b) t h)

pub ok_map : {A E : Type 0} (P Q : A → Type 0) (r : Result A E) → ((x : A) → P x → Q x) → IfOk r P → IfOk r Q
ok_map P Q (Ok x) f h = f x h
ok_map P Q (Err e) f h = tt

pub err_map : {A E : Type 0} (P Q : E → Type 0) (r : Result A E) → ((e : E) → P e → Q e) → IfErr r P → IfErr r Q
err_map P Q (Ok x) f h = tt
err_map P Q (Err e) f h = f e h
