-- Books in code: premises that are read, and what a line gives.
use Rattle.std.proofs.Common.{ℕ, zero, suc, ◌≡◌, ◌↔◌, ◌≤◌, ◌+◌, ◌-◌, Bool, true, false, List, [], ◌∷◌, ◌++◌, map, length, drop, get_or, Option, Some, None, refl, sym, ◌∙◌, ap, subst, arith, add-one, append_assoc}
use Rattle.std.specs.Prelude.{slice_get, option_map, IsSome}
use Rattle.std.proofs.lemmas.List.{length-map, map-append, drop_all}
use Rattle.std.proofs.lemmas.Option.{slice_get-map}
use Rattle.tg_term.proofs.PartLaws.{drop_at}
use Rattle.tg_model.specs.Formula as model
use Rattle.tg_model.specs.Theory.{Theory, numbered}
use Rattle.tg_model.specs.Accepted.{IsAccepted}
use Rattle.tg_rows.specs.Parts.{and_then}
use Rattle.tg_calculus.specs.Sequent.{Each}
use Rattle.tg_calculus.specs.Step.{Step}
use Rattle.tg_calculus.specs.Derivation.{Derives}
use Rattle.tg_calculus.specs.Draft.{draft, always}
use Rattle.tg_calculus.specs.Book as calculus
use Rattle.tg_calculus.specs.Book.{Line, IsInstance, IsBook, Follow, lines, sequents, premises_at}
use Rattle.tg_calculus.specs.Laws.{IsFormed}
use Rattle.tg_calculus.proofs.BookLaws.{books_derive, follow_more}
use Rattle.tg_calculus.proofs.Formed.{formed}
use Rattle.tg_calculus.proofs.FromDraft.{then_found}
use Rattle.tg_calculus.proofs.Drafted.{step_drafted}
use Rattle.tg_kernel.specs.Asked.{IsAsked}
use Rattle.tg_kernel.specs.Drafts as drafts
use Rattle.tg_kernel.specs.Drafts.{drafted, made, needs}
use Rattle.tg_kernel.specs.declared.drafts.Draft.{Draft}
use Rattle.tg_kernel.specs.Books.{Book, IsAppended, IsNone, CanStep}
use Rattle.tg_kernel.specs.Entries.{entry, book_of, Concludes}
use Rattle.tg_kernel.specs.Rules.{as_line}
use Rattle.tg_kernel.specs.Sequents.{sequent}
use Rattle.tg_kernel.specs.declared.concluding.Entry.{Entry}
use Rattle.tg_kernel.specs.declared.sequents.Sequent.{Sequent}
use Rattle.tg_kernel.proofs.AskedLaws.{asked_step, step_asked}

-- ---- the line of a number

abbrev pub done : List Entry → List model.Sequent
done es = sequents (map entry es)

at_place : (es : List Entry) (k : ℕ) → option_map (λ (e : Entry). sequent e.sequent) (slice_get es k) ≡ slice_get (done es) k
at_place [] k = refl
at_place (e ∷ es) zero = refl
at_place (e ∷ es) (suc k) = at_place es k

pub found_earlier : (es : List Entry) (n : ℕ) (e : Entry) → Some e ≡ numbered es n → Some (sequent e.sequent) ≡ numbered (done es) n
found_earlier es zero e g = cc g
found_earlier es (suc k) e g = ap (option_map (λ (x : Entry). sequent x.sequent)) g ∙ at_place es k

pub none_earlier : (es : List Entry) (n : ℕ) → None ≡ numbered es n → None ≡ numbered (done es) n
none_earlier es zero g = refl
none_earlier es (suc k) g = ap (option_map (λ (x : Entry). sequent x.sequent)) g ∙ at_place es k

pub ruleset finding = (found_earlier, none_earlier)

line_place : (es : List Entry) (k : ℕ) → option_map (λ (e : Entry). as_line e.line) (slice_get es k) ≡ slice_get (lines (map entry es)) k
line_place [] k = refl
line_place (e ∷ es) zero = refl
line_place (e ∷ es) (suc k) = line_place es k

pub found_line : (es : List Entry) (n : ℕ) (e : Entry) → numbered es n ≡ Some e → numbered (lines (map entry es)) n ≡ Some (as_line e.line)
found_line es zero e g = cc g
found_line es (suc k) e g = sym (line_place es k) ∙ ap (option_map (λ (x : Entry). as_line x.line)) g

pub is_there : (es : List Entry) (n : ℕ) → 1 ≤ n → n ≤ length es → IsSome (numbered es n)
is_there es zero a b = absurd (omega (arith, a))
is_there [] (suc n) a b = absurd (omega (arith, b))
is_there (e ∷ es) (suc zero) a b = refl
is_there (e ∷ es) (suc (suc n)) a b = is_there es (suc n) (omega arith) (omega (arith, b))

pub ruleset standing = (is_there)

-- ---- premises, one after another

-- those that are read, with those of the numbers that are left
abbrev pub read_with : List model.Sequent → List model.Sequent → List ℕ → Option (List model.Sequent)
read_with D ps ns = and_then (premises_at D ns) (λ qs. Some (ps ++ qs))

more_read : (D ps qs : List model.Sequent) (p : model.Sequent) (o : Option (List model.Sequent))
    → and_then o (λ qs. Some ((ps ++ p ∷ []) ++ qs)) ≡ and_then (and_then o (λ qs. Some (p ∷ qs))) (λ qs. Some (ps ++ qs))
more_read D ps qs p None = refl
more_read D ps qs p (Some rs) = ap Some (append_assoc ps (p ∷ []) rs)

module _ (D ps : List model.Sequent) (all : List ℕ) (i n : ℕ) where
  here : slice_get all i ≡ Some n → read_with D ps (drop i all) ≡ and_then (premises_at D (n ∷ drop (i + 1) all)) (λ qs. Some (ps ++ qs))
  here e = ap (read_with D ps) (drop_at all i n e ∙ ap (λ k. n ∷ drop k all) (sym (add-one i)))

  pub read_next : (p : model.Sequent) → read_with D ps (drop i all) ≡ premises_at D all → slice_get all i ≡ Some n → Some p ≡ numbered D n
      → read_with D (ps ++ p ∷ []) (drop (i + 1) all) ≡ premises_at D all
  read_next p v e f =
      more_read D ps [] p (premises_at D (drop (i + 1) all))
      ∙ ap (λ o. and_then (and_then o (λ q. and_then (premises_at D (drop (i + 1) all)) (λ qs. Some (q ∷ qs)))) (λ qs. Some (ps ++ qs))) f
      ∙ sym (here e) ∙ v

  pub read_none : read_with D ps (drop i all) ≡ premises_at D all → slice_get all i ≡ Some n → None ≡ numbered D n → None ≡ premises_at D all
  read_none v e f =
      ap (λ o. and_then (and_then o (λ q. and_then (premises_at D (drop (i + 1) all)) (λ qs. Some (q ∷ qs)))) (λ qs. Some (ps ++ qs))) f
      ∙ sym (here e) ∙ v

append_none : (ps : List model.Sequent) → ps ≡ ps ++ []
append_none [] = refl
append_none (p ∷ ps) = ap (λ l. p ∷ l) (append_none ps)

pub read_all : (D ps : List model.Sequent) (all : List ℕ) (i : ℕ) → read_with D ps (drop i all) ≡ premises_at D all → length all ≤ i → Some ps ≡ premises_at D all
read_all D ps all i v h = ap Some (append_none ps) ∙ ap (read_with D ps) (sym (drop_all i all h)) ∙ v

-- ---- what a line gives

module _ (th : Theory) (es : List calculus.Entry) (l : Line) where
  abbrev Gives : Option model.Sequent → Type 0
  Gives o = Concludes th es l o

  each_at : (P : model.Sequent → Type 0) (D : List model.Sequent) (n : ℕ) (x : model.Sequent) → Each P D → numbered D n ≡ Some x → P x
  each_at P D zero x h e = cc e
  each_at P [] (suc n) x h e = cc e
  each_at P (y ∷ D) (suc zero) x h e = let q : y ≡ x = cc e in subst P q h.0
  each_at P (y ∷ D) (suc (suc n)) x h e = each_at P D (suc n) x h.1 e

  each_premise : (P : model.Sequent → Type 0) (D : List model.Sequent) (ns : List ℕ) (ps : List model.Sequent) → Each P D → premises_at D ns ≡ Some ps → Each P ps
  each_premise P D [] ps h e = let q : [] ≡ ps = cc e in subst (λ (x : List model.Sequent). Each P x) q tt
  each_premise P D (n ∷ ns) ps h e =
      then_found (numbered D n) _ ps e
      (λ p a b. then_found (premises_at D ns) _ ps b
      (λ qs c d. let q : p ∷ qs ≡ ps = cc d in subst (λ (x : List model.Sequent). Each P x) q (each_at P D n p h a, each_premise P D ns qs h c)))

  all_formed : (ss : List model.Sequent) → Each (Derives th) ss → Each (IsFormed th) ss
  all_formed [] h = tt
  all_formed (s ∷ ss) h = (formed th h.0, all_formed ss h.1)

  premises_formed : IsBook th es → (ps : List model.Sequent) → premises_at (sequents es) l.premises ≡ Some ps → Each (IsFormed th) ps
  premises_formed book ps e = each_premise (IsFormed th) (sequents es) l.premises ps (all_formed (sequents es) (books_derive th es book)) e

  same_premises : (ps qs : List model.Sequent) → Some ps ≡ premises_at (sequents es) l.premises → premises_at (sequents es) l.premises ≡ Some qs → qs ≡ ps
  same_premises ps qs e f = let q : Some ps ≡ Some qs = e ∙ f in cc q

  pub no_premises : None ≡ premises_at (sequents es) l.premises → Gives None
  no_premises e s i = let q : None ≡ Some i.premises = e ∙ i.at in cc q

  module _ (ps : List model.Sequent) (e : Some ps ≡ premises_at (sequents es) l.premises) where
    step_of : (s : model.Sequent) → IsInstance th (sequents es) l s → Step th l.rule ps s
    step_of s i = subst (λ (x : List model.Sequent). Step th l.rule x s) (same_premises ps i.premises e i.at) i.step

    pub no_draft : None ≡ draft th l.rule ps → Gives None
    no_draft d s i = absurd (not_drafted (step_of s i))
      where
        not_drafted : Step th l.rule ps s → ⊥
        not_drafted x = let p = step_drafted th x in let q : None ≡ always p.0 s = d ∙ p.1 in cc q

    module _ (d : Draft) (f : Some (drafted d) ≡ draft th l.rule ps) (b : Bool) (told : (b ≡ true) ↔ Each (IsAsked th) (needs d.first d.second)) where
      pub gives : b ≡ true → Gives (Some (sequent d.conclusion))
      gives y = record { premises = ps; at = sym e; step = asked_step th l.rule ps (drafted d) (sym f) (told.0 y) }

      pub gives_none : IsBook th es → b ≡ false → Gives None
      gives_none book n s i =
          let y : b ≡ true = told.1 (step_asked th l.rule ps (drafted d) s (sym f) (premises_formed book ps (sym e)) (step_of s i)) in
          let q : true ≡ false = sym y ∙ n in cc q

-- ---- the sequents of a book

pub line_derives : (th : Theory) (es : List calculus.Entry) (n : ℕ) (s : model.Sequent) → IsBook th es → numbered (sequents es) n ≡ Some s → Derives th s
line_derives th es n s book e = at (sequents es) n (books_derive th es book) e
  where
    at : (D : List model.Sequent) (n : ℕ) → Each (Derives th) D → numbered D n ≡ Some s → Derives th s
    at D zero h e = cc e
    at [] (suc n) h e = cc e
    at (y ∷ D) (suc zero) h e = let q : y ≡ s = cc e in subst (Derives th) q h.0
    at (y ∷ D) (suc (suc n)) h e = at D (suc n) h.1 e

-- ---- more lines

pub book_more : (th : Theory) (es : List Entry) (l : Line) (s : model.Sequent) (e : Entry) → IsBook th (map entry es) → IsInstance th (sequents (map entry es)) l s
    → as_line e.line ≡ l → sequent e.sequent ≡ s → IsBook th (map entry (es ++ e ∷ []))
book_more th es l s e book i p q =
    let j : IsInstance th (sequents (map entry es)) (as_line e.line) (sequent e.sequent) =
    subst (λ (x : Line). IsInstance th (sequents (map entry es)) x (sequent e.sequent)) (sym p)
    (subst (λ (x : model.Sequent). IsInstance th (sequents (map entry es)) l x) (sym q) i) in
    subst (λ (x : List calculus.Entry). IsBook th x) (sym (map-append entry es (e ∷ []))) (follow_more th [] (map entry es) (entry e) book j)

pub entry_count : (es : List Entry) → length es ≡ length (map entry es)
entry_count es = sym (length-map es entry)

pub ruleset counting = (entry_count)

one_longer : (es : List Entry) (e : Entry) → length (es ++ e ∷ []) ≡ suc (length (map entry es))
one_longer [] e = refl
one_longer (x ∷ es) e = ap suc (one_longer es e)

pub appended_is : (th : Theory) (es new : List Entry) (e : Entry) (n : ℕ) → IsInstance th (done es) (as_line e.line) (sequent e.sequent) → new ≡ es ++ e ∷ []
    → n ≡ length new → IsAppended (book_of th es) (book_of th new) (as_line e.line) n
appended_is th es new e n i g m = record {
  sequent = sequent e.sequent;
  instance = i;
  appended = ap (book_of th) g ∙ (λ j. record { theory = th; entries = map-append entry es (e ∷ []) j });
  number = m ∙ ap length g ∙ one_longer es e;
}

pub never : (b : Book) (l : Line) → CanStep b l → IsNone b l → ⊥
never b l p n = n p.0 p.1

pub ruleset stepping = (never)
