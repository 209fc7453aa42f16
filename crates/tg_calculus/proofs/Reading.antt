-- A list of lines passes as one book or is refused at one place.
use Rattle.std.proofs.Common.{suc, ◌≡◌, Bool, List, [], ◌∷◌, ◌++◌, length, Option, Some, None, refl, sym, ◌∙◌, ap, subst, append_assoc, ◌⊎◌, inl, inr}
use Rattle.tg_model.specs.Formula.{Sequent}
use Rattle.tg_model.specs.Theory.{Theory}
use Rattle.tg_calculus.specs.Step.{Step}
use Rattle.tg_calculus.specs.Draft.{Need}
use Rattle.tg_calculus.specs.Book.{Line, Entry, lines, sequents, IsInstance, Follow, Decides, concluded}
use Rattle.tg_calculus.specs.Laws.{OneBook, OneRefusal, NeverBoth, PassesOrIsRefused}
use Rattle.tg_calculus.proofs.FromDraft.{has_one_conclusion}
use Rattle.tg_calculus.proofs.BookLaws.{append_nothing, concludes}

same_head : (l l' : Line) (ls ls' : List Line) → l ∷ ls ≡ l' ∷ ls' → l ≡ l'
same_head l l' ls ls' e = cc e

same_tail : (l l' : Line) (ls ls' : List Line) → l ∷ ls ≡ l' ∷ ls' → ls ≡ ls'
same_tail l l' ls ls' e = cc e

module _ (th : Theory) where
  -- a line has one sequent
  one_sequent : (done : List Sequent) (l l' : Line) (s s' : Sequent) → l ≡ l' → IsInstance th done l s → IsInstance th done l' s' → s ≡ s'
  one_sequent done l l' s s' e i i' =
      let j : IsInstance th done l s' = subst (λ (x : Line). IsInstance th done x s') (sym e) i' in
      let same : i.premises ≡ j.premises = some_one i.premises j.premises (sym i.at ∙ j.at) in
      has_one_conclusion th l.rule j.premises s s' (subst (λ (ps : List Sequent). Step th l.rule ps s) same i.step) j.step
    where
      some_one : (x y : List Sequent) → Some x ≡ Some y → x ≡ y
      some_one x y e = cc e

  same_entry : (e e' : Entry) → e.line ≡ e'.line → e.sequent ≡ e'.sequent → e ≡ e'
  same_entry e e' p q = λ i. record { line = p i; sequent = q i }

  one_entry : (done : List Sequent) (e e' : Entry) → e.line ≡ e'.line → IsInstance th done e.line e.sequent → IsInstance th done e'.line e'.sequent → e ≡ e'
  one_entry done e e' p i i' = same_entry e e' p (one_sequent done e.line e'.line e.sequent e'.sequent p i i')

  -- the lines that follow one entry follow an equal one
  follow_same : (done : List Sequent) (e e' : Entry) (es : List Entry) → e ≡ e' → Follow th (done ++ e'.sequent ∷ []) es
      → Follow th (done ++ e.sequent ∷ []) es
  follow_same done e e' es p f = subst (λ (x : Entry). Follow th (done ++ x.sequent ∷ []) es) (sym p) f

  one_book_after : (done : List Sequent) (es es' : List Entry) → Follow th done es → Follow th done es' → lines es ≡ lines es' → es ≡ es'
  one_book_after done [] [] f g e = refl
  one_book_after done [] (x ∷ es') f g e = cc e
  one_book_after done (x ∷ es) [] f g e = cc e
  one_book_after done (x ∷ es) (y ∷ es') f g e =
      let same = one_entry done x y (same_head x.line y.line (lines es) (lines es') e) f.0 g.0 in
      let rest = one_book_after (done ++ x.sequent ∷ []) es es' f.1 (follow_same done x y es' same g.1) (same_tail x.line y.line (lines es) (lines es') e) in
      λ i. same i ∷ rest i

  -- a line that is no instance after some
  abbrev Stops : List Sequent → List Entry → Line → Type 0
  Stops done before l = (s : Sequent) → ¬ (IsInstance th (done ++ sequents before) l s)

  stops_here : (done : List Sequent) (l : Line) (e : Entry) → l ≡ e.line → IsInstance th done e.line e.sequent → ¬ (Stops done [] l)
  stops_here done l e p i h =
      h e.sequent (subst (λ (x : List Sequent). IsInstance th x l e.sequent) (sym (append_nothing done))
      (subst (λ (x : Line). IsInstance th done x e.sequent) (sym p) i))

  stops_past : (done : List Sequent) (e : Entry) (before : List Entry) (l : Line) → Stops done (e ∷ before) l → Stops (done ++ e.sequent ∷ []) before l
  stops_past done e before l h s i = h s (subst (λ (x : List Sequent). IsInstance th x l s) (append_assoc done (e.sequent ∷ []) (sequents before)) i)

  one_stop : (done : List Sequent) (b b' : List Entry) (l l' : Line) (a a' : List Line) → Follow th done b → Follow th done b'
      → lines b ++ l ∷ a ≡ lines b' ++ l' ∷ a' → Stops done b l → Stops done b' l' → length b ≡ length b'
  one_stop done [] [] l l' a a' f g e h k = refl
  one_stop done [] (y ∷ b') l l' a a' f g e h k =
      absurd (stops_here done l y (same_head l y.line a (lines b' ++ l' ∷ a') e) g.0 h)
  one_stop done (x ∷ b) [] l l' a a' f g e h k =
      absurd (stops_here done l' x (sym (same_head x.line l' (lines b ++ l ∷ a) a' e)) f.0 k)
  one_stop done (x ∷ b) (y ∷ b') l l' a a' f g e h k =
      let same = one_entry done x y (same_head x.line y.line (lines b ++ l ∷ a) (lines b' ++ l' ∷ a') e) f.0 g.0 in
      let k' : Stops done (x ∷ b') l' = subst (λ (z : Entry). Stops done (z ∷ b') l') (sym same) k in
      ap suc (one_stop (done ++ x.sequent ∷ []) b b' l l' a a' f.1 (follow_same done x y b' same g.1)
      (same_tail x.line y.line (lines b ++ l ∷ a) (lines b' ++ l' ∷ a') e) (stops_past done x b l h) (stops_past done x b' l' k'))

  never : (done : List Sequent) (es b : List Entry) (l : Line) (a : List Line) → Follow th done es → Follow th done b → lines es ≡ lines b ++ l ∷ a
      → ¬ (Stops done b l)
  never done [] [] l a f g e h = cc e
  never done [] (y ∷ b) l a f g e h = cc e
  never done (x ∷ es) [] l a f g e h = stops_here done l x (sym (same_head x.line l (lines es) a e)) f.0 h
  never done (x ∷ es) (y ∷ b) l a f g e h =
      let same = one_entry done x y (same_head x.line y.line (lines es) (lines b ++ l ∷ a) e) f.0 g.0 in
      let h' : Stops done (x ∷ b) l = subst (λ (z : Entry). Stops done (z ∷ b) l) (sym same) h in
      never (done ++ x.sequent ∷ []) es b l a f.1 (follow_same done x y b same g.1) (same_tail x.line y.line (lines es) (lines b ++ l ∷ a) e)
      (stops_past done x b l h')

  -- where the lines after some others stop
  record Refused (done : List Sequent) (ls : List Line) : Type 0 where
    before : List Entry
    line : Line
    after : List Line
    follow : Follow th done before
    are : ls ≡ lines before ++ line ∷ after
    none : Stops done before line

  module _ (ask : Need → Bool) (decides : Decides th ask) where
    read : (done : List Sequent) (ls : List Line) → ((es : List Entry) × Follow th done es × (lines es ≡ ls)) ⊎ Refused done ls
    read done [] = inl ([], tt, refl)
    read done (l ∷ ls) = at (concluded th ask done l) refl (λ s. read (done ++ s ∷ []) ls)
      where
        at : (o : Option Sequent) → concluded th ask done l ≡ o
            → ((s : Sequent) → ((es : List Entry) × Follow th (done ++ s ∷ []) es × (lines es ≡ ls)) ⊎ Refused (done ++ s ∷ []) ls)
            → ((es : List Entry) × Follow th done es × (lines es ≡ l ∷ ls)) ⊎ Refused done (l ∷ ls)
        at None e rest = inr (record {
          before = [];
          line = l;
          after = ls;
          follow = tt;
          are = refl;
          none = λ s i.
              let c = (concludes th ask decides done l s).1 (subst (λ (x : List Sequent). IsInstance th x l s) (append_nothing done) i) in
              let n : None ≡ Some s = sym e ∙ c in cc n;
        })
        at (Some s) e rest =
            let i = (concludes th ask decides done l s).0 e in
            let x : Entry = record { line = l; sequent = s } in
            elim (rest s) [
              | inl p ↦ inl (x ∷ p.0, (i, p.1), ap (λ k. l ∷ k) p.2)
              | inr r ↦ inr (record {
                before = x ∷ r.before;
                line = r.line;
                after = r.after;
                follow = (i, r.follow);
                are = ap (λ k. l ∷ k) r.are;
                none = λ s' j. r.none s' (subst (λ (z : List Sequent). IsInstance th z r.line s') (sym (append_assoc done (s ∷ []) (sequents r.before))) j);
              })
            ]

pub one_book : OneBook
one_book th ls es es' p q = one_book_after th [] es es' p.0 q.0 (p.1 ∙ sym q.1)

pub one_refusal : OneRefusal
one_refusal th ls n n' r r' =
    r.place ∙ (ap suc (one_stop th [] r.before r'.before r.line r'.line r.after r'.after r.book r'.book (sym r.are ∙ r'.are) r.none r'.none) ∙ sym r'.place)

pub never_both : NeverBoth
never_both th ls es n p r = never th [] es r.before r.line r.after p.0 r.book (p.1 ∙ r.are) r.none

pub passes_or_is_refused : PassesOrIsRefused
passes_or_is_refused th ask decides ls =
    elim (read th ask decides [] ls) [
      | inl p ↦ inl (p.0, (p.1, p.2))
      | inr r ↦ inr (
        suc (length r.before),
        record {
          before = r.before;
          line = r.line;
          after = r.after;
          book = r.follow;
          are = r.are;
          place = refl;
          none = r.none;
        },
      )
    ]
