-- Books and derivations: each sequent of a book is derivable, and what is derivable ends a book.
use Rattle.std.proofs.Common.{ℕ, zero, suc, ◌≡◌, ◌↔◌, Bool, true, List, [], ◌∷◌, ◌++◌, length, Some, refl, sym, ◌∙◌, ap, subst, append_assoc}
use Rattle.tg_model.specs.Formula.{Sequent}
use Rattle.tg_model.specs.Theory.{Theory, numbered}
use Rattle.tg_model.proofs.Booleans.{and_left, and_right, and_both}
use Rattle.tg_rows.specs.Parts.{only_if, and_then}
use Rattle.tg_calculus.specs.Sequent.{Each}
use Rattle.tg_calculus.specs.Step.{Step}
use Rattle.tg_calculus.specs.Derivation as derivation
use Rattle.tg_calculus.specs.Derivation.{Derives, AllDerived, by_rule}
use Rattle.tg_calculus.specs.Draft.{Need, Draft, AreMet, draft}
use Rattle.tg_calculus.specs.Book.{Line, Entry, sequents, premises_at, IsInstance, Follow, IsBook, Decides, all_pass, concluded}
use Rattle.tg_calculus.specs.Laws.{BooksDerive, DerivableEndsBook, ConcludesExactly}
use Rattle.tg_calculus.proofs.Drafted.{step_drafted, then_is, numbered_more}
use Rattle.tg_calculus.proofs.FromDraft.{draft_step, then_found, only_some}

pub append_nothing : {A : Type 0} (xs : List A) → xs ++ [] ≡ xs
append_nothing [] = refl
append_nothing (x ∷ xs) = ap (λ l. x ∷ l) (append_nothing xs)

each_end : {A : Type 0} (P : A → Type 0) (xs : List A) (x : A) → Each P xs → P x → Each P (xs ++ x ∷ [])
each_end P [] x h p = (p, tt)
each_end P (y ∷ xs) x h p = (h.0, each_end P xs x h.1 p)

each_numbered : {A : Type 0} (P : A → Type 0) (xs : List A) (n : ℕ) (x : A) → Each P xs → numbered xs n ≡ Some x → P x
each_numbered P xs zero x h e = cc e
each_numbered P [] (suc n) x h e = cc e
each_numbered P (y ∷ xs) (suc zero) x h e = let q : y ≡ x = cc e in subst P q h.0
each_numbered P (y ∷ xs) (suc (suc n)) x h e = each_numbered P xs (suc n) x h.1 e

-- premises that are found
first_found : (done : List Sequent) (n : ℕ) (ns : List ℕ) (qs : List Sequent) → premises_at done (n ∷ ns) ≡ Some qs
    → (p : Sequent) × ((ps : List Sequent) × (numbered done n ≡ Some p) × (premises_at done ns ≡ Some ps) × (p ∷ ps ≡ qs))
first_found done n ns qs e =
    then_found (numbered done n) (λ p. and_then (premises_at done ns) (λ ps. Some (p ∷ ps))) qs e
    (λ p a d. then_found (premises_at done ns) (λ ps. Some (p ∷ ps)) qs d (λ ps b c. (p, (ps, a, b, cc c))))

module _ (th : Theory) where
  all_at : (done : List Sequent) (ns : List ℕ) (ps : List Sequent) → Each (Derives th) done → premises_at done ns ≡ Some ps → AllDerived th ps
  all_at done [] ps h e = let q : [] ≡ ps = cc e in subst (λ (l : List Sequent). AllDerived th l) q derivation.none
  all_at done (n ∷ ns) ps h e =
      let f = first_found done n ns ps e in
      subst (λ (l : List Sequent). AllDerived th l) f.1.3
      (derivation.more (each_numbered (Derives th) done n f.0 h f.1.1) (all_at done ns f.1.0 h f.1.2))

  follow_derives : (done : List Sequent) (es : List Entry) → Each (Derives th) done → Follow th done es → Each (Derives th) (sequents es)
  follow_derives done [] h f = tt
  follow_derives done (e ∷ es) h f =
      let d = by_rule e.line.rule (all_at done e.line.premises f.0.premises h f.0.at) f.0.step in
      (d, follow_derives (done ++ e.sequent ∷ []) es (each_end (Derives th) done e.sequent h d) f.1)

  -- one more line
  pub follow_more : (done : List Sequent) (es : List Entry) (e : Entry) → Follow th done es → IsInstance th (done ++ sequents es) e.line e.sequent
      → Follow th done (es ++ e ∷ [])
  follow_more done [] e f i = (subst (λ (l : List Sequent). IsInstance th l e.line e.sequent) (append_nothing done) i, tt)
  follow_more done (x ∷ es) e f i = (
    f.0,
    follow_more (done ++ x.sequent ∷ []) es e f.1
        (subst (λ (l : List Sequent). IsInstance th l e.line e.sequent) (sym (append_assoc done (x.sequent ∷ []) (sequents es))) i),
  )

  sequents_more : (es : List Entry) (e : Entry) → sequents (es ++ e ∷ []) ≡ sequents es ++ e.sequent ∷ []
  sequents_more [] e = refl
  sequents_more (x ∷ es) e = ap (λ l. x.sequent ∷ l) (sequents_more es e)

  at_last : (xs : List Sequent) (x : Sequent) → numbered (xs ++ x ∷ []) (suc (length xs)) ≡ Some x
  at_last [] x = refl
  at_last (y ∷ xs) x = at_last xs x

  -- a book that has all of another, and more
  record Grown (front : List Entry) : Type 0 where
    book : List Entry
    is : IsBook th book
    keeps : (n : ℕ) (s : Sequent) → numbered (sequents front) n ≡ Some s → numbered (sequents book) n ≡ Some s

  record Has (front : List Entry) (s : Sequent) : Type 0 where
    grown : Grown front
    place : ℕ
    found : numbered (sequents grown.book) place ≡ Some s

  record HasAll (front : List Entry) (ps : List Sequent) : Type 0 where
    grown : Grown front
    places : List ℕ
    found : premises_at (sequents grown.book) places ≡ Some ps

  mutual
    booked : {s : Sequent} → Derives th s → (front : List Entry) → IsBook th front → Has front s
    booked {s} (by_rule r {ps} ds x) front is =
        let a = all_booked ds front is in
        let b = a.grown.book in
        let l : Line = record { rule = r; premises = a.places } in
        let e : Entry = record { line = l; sequent = s } in
        let i : IsInstance th (sequents b) l s = record { premises = ps; at = a.found; step = x } in
        let more = sequents_more b e in
        record {
          grown = record {
            book = b ++ e ∷ [];
            is = follow_more [] b e a.grown.is i;
            keeps = λ n q h. ap (λ (xs : List Sequent). numbered xs n) more ∙ numbered_more (sequents b) (s ∷ []) n q (a.grown.keeps n q h);
          };
          place = suc (length (sequents b));
          found = ap (λ (xs : List Sequent). numbered xs (suc (length (sequents b)))) more ∙ at_last (sequents b) s;
        }

    all_booked : {ps : List Sequent} → AllDerived th ps → (front : List Entry) → IsBook th front → HasAll front ps
    all_booked derivation.none front is = record { grown = record { book = front; is = is; keeps = λ n s h. h }; places = []; found = refl }
    all_booked (derivation.more {p} {ps} d ds) front is =
        let a = booked d front is in
        let b = all_booked ds a.grown.book a.grown.is in
        record {
          grown = record { book = b.grown.book; is = b.grown.is; keeps = λ n s h. b.grown.keeps n s (a.grown.keeps n s h) };
          places = a.place ∷ b.places;
          found = then_is (numbered (sequents b.grown.book) a.place) p (λ q. and_then (premises_at (sequents b.grown.book) b.places) (λ qs. Some (q ∷ qs)))
              (Some (p ∷ ps))
              (b.grown.keeps a.place p a.found)
              (then_is (premises_at (sequents b.grown.book) b.places) ps (λ qs. Some (p ∷ qs)) (Some (p ∷ ps)) b.found refl);
        }

  ends_book : (s : Sequent) → Derives th s → (es : List Entry) × (e : Entry) × IsBook th (es ++ e ∷ []) × (e.sequent ≡ s)
  ends_book s (by_rule r {ps} ds x) =
      let a = all_booked ds [] tt in
      let l : Line = record { rule = r; premises = a.places } in
      let e : Entry = record { line = l; sequent = s } in
      (a.grown.book, e, follow_more [] a.grown.book e a.grown.is (record { premises = ps; at = a.found; step = x }), refl)

  -- with a test of what is met
  module _ (ask : Need → Bool) (decides : Decides th ask) where
    pass_met : (ns : List Need) → (all_pass ask ns ≡ true) ↔ AreMet th ns
    pass_met [] = (λ e. tt, λ m. refl)
    pass_met (n ∷ ns) = (
      λ e. ((decides n).0 (and_left (ask n) (all_pass ask ns) e), (pass_met ns).0 (and_right (ask n) (all_pass ask ns) e)),
      λ m. and_both (ask n) (all_pass ask ns) ((decides n).1 m.0) ((pass_met ns).1 m.1),
    )

    pub concludes : (done : List Sequent) (l : Line) (s : Sequent) → (concluded th ask done l ≡ Some s) ↔ IsInstance th done l s
    concludes done l s = (into, back)
      where
        into : concluded th ask done l ≡ Some s → IsInstance th done l s
        into e =
            then_found (premises_at done l.premises) (λ ps. and_then (draft th l.rule ps) (λ d. only_if (all_pass ask d.needs) d.conclusion)) s e
            (λ ps a e'. then_found (draft th l.rule ps) (λ d. only_if (all_pass ask d.needs) d.conclusion) s e'
            (λ d b e''.
            let q = only_some (all_pass ask d.needs) d.conclusion s e'' in
            let x : Step th l.rule ps d.conclusion = draft_step th l.rule ps d b ((pass_met d.needs).0 q.0) in
            record { premises = ps; at = a; step = subst (λ (c : Sequent). Step th l.rule ps c) q.1 x }))

        back : IsInstance th done l s → concluded th ask done l ≡ Some s
        back i =
            let d = step_drafted th i.step in
            let y : Draft = record { needs = d.0; conclusion = s } in
            then_is (premises_at done l.premises) i.premises (λ ps. and_then (draft th l.rule ps) (λ d. only_if (all_pass ask d.needs) d.conclusion))
            (Some s) i.at
            (then_is (draft th l.rule i.premises) y (λ d. only_if (all_pass ask d.needs) d.conclusion) (Some s) d.1
            (ap (λ b. only_if b s) ((pass_met d.0).1 d.2)))

pub books_derive : BooksDerive
books_derive th es b = follow_derives th [] es tt b

pub derivable_ends_book : DerivableEndsBook
derivable_ends_book th s d = ends_book th s d

pub concludes_exactly : ConcludesExactly
concludes_exactly th ask decides done l s = concludes th ask decides done l s
