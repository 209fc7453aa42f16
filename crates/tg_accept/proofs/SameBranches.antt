-- The branches of a core term are those of the resolved term, where these are different ones of the datatype.
use Rattle.std.proofs.Common.{ℕ, ◌≡◌, Bool, true, false, List, [], ◌∷◌, map, refl, sym, ◌∙◌, ap, subst, inl, inr, if◌then◌else◌}
use Rattle.std.proofs.lemmas.Bool.Decides.{Decides-eqb}
use Rattle.tg_model.specs.Tree as tree
use Rattle.tg_model.specs.Tree.{Tree}
use Rattle.tg_model.specs.Theory.{Theory}
use Rattle.tg_model.specs.Accepted.{IsAmong, AreDistinct}
use Rattle.tg_accept.specs.Resolved as resolved
use Rattle.tg_accept.specs.Resolved.{Head, zero_head, successor_head, of, Branches, branch}
use Rattle.tg_accept.specs.Core.{same_head, Written, branch_of, written}
use Rattle.tg_accept.specs.Cases.{heads_in}
use Rattle.tg_accept.proofs.CoreTypes.{heads_same}
use Rattle.tg_accept.proofs.FitTerms.{AreAmong}

pub same_itself : (h : Head) → same_head h h ≡ true
same_itself zero_head = refl
same_itself successor_head = refl
same_itself (of c) = (Decides-eqb c c).1 refl

abbrev heads_of_written : List Written → List Head
heads_of_written ws = map (λ (w : Written). w.head) ws

pub heads_written : (th : Theory) (self : ℕ) (bs : Branches) → heads_in bs ≡ heads_of_written (written th self bs)
heads_written th self resolved.end = refl
heads_written th self (branch head xs body bs) = ap (λ l. head ∷ l) (heads_written th self bs)

module _ (P : Tree → Type 0) where
  abbrev pub AllWritten : List Written → Type 0
  AllWritten [] = Unit {0}
  AllWritten (w ∷ ws) = P w.body × AllWritten ws

  abbrev pub EachHead : List Written → List Head → Type 0
  EachHead ws [] = Unit {0}
  EachHead ws (h ∷ hs) = P (branch_of ws h).body × EachHead ws hs

  chosen : P (tree.truth false) → (ws : List Written) (h : Head) → AllWritten ws → P (branch_of ws h).body
  chosen else_false [] h all = else_false
  chosen else_false (w ∷ ws) h all = by (same_head w.head h) (chosen else_false ws h all.1)
    where
      by : (b : Bool) → P (branch_of ws h).body → P (if b then w else branch_of ws h).body
      by true p = all.0
      by false p = p

  pub all_chosen : P (tree.truth false) → (ws : List Written) (hs : List Head) → AllWritten ws → EachHead ws hs
  all_chosen else_false ws [] all = tt
  all_chosen else_false ws (h ∷ hs) all = (chosen else_false ws h all, all_chosen else_false ws hs all)

  at_head : (ws : List Written) (hs : List Head) (h : Head) → EachHead ws hs → IsAmong h hs → P (branch_of ws h).body
  at_head ws [] h each a = absurd a
  at_head ws (k ∷ hs) h each (inl e) = subst (λ j. P (branch_of ws j).body) (sym e) each.0
  at_head ws (k ∷ hs) h each (inr a) = at_head ws hs h each.1 a

  other_head : (w : Written) (ws : List Written) (h : Head) → ¬ (IsAmong w.head (heads_of_written ws)) → IsAmong h (heads_of_written ws)
      → branch_of (w ∷ ws) h ≡ branch_of ws h
  other_head w ws h new a = by (same_head w.head h) refl
    where
      by : (b : Bool) → same_head w.head h ≡ b → (if b then w else branch_of ws h) ≡ branch_of ws h
      by true e = absurd (new (subst (λ j. IsAmong j (heads_of_written ws)) (sym (heads_same w.head h e)) a))
      by false e = refl

  -- each of the branches is chosen for its head
  all_of : (full ws : List Written) (hs : List Head) → EachHead full hs → AreAmong (heads_of_written ws) hs → AreDistinct (heads_of_written ws)
      → ((h : Head) → IsAmong h (heads_of_written ws) → branch_of full h ≡ branch_of ws h) → AllWritten ws
  all_of full [] hs each among distinct same = tt
  all_of full (w ∷ ws) hs each among distinct same =
      let here : branch_of full w.head ≡ w =
      same w.head (inl refl) ∙ ap (λ b. if b then w else branch_of ws w.head) (same_itself w.head) in (
        subst (λ (v : Written). P v.body) here (at_head full hs w.head each among.0),
        all_of full ws hs each among.1 distinct.1 (λ h a. same h (inr a) ∙ other_head w ws h distinct.0 a),
      )

  pub all_written : (ws : List Written) (hs : List Head) → EachHead ws hs → AreAmong (heads_of_written ws) hs → AreDistinct (heads_of_written ws) → AllWritten ws
  all_written ws hs each among distinct = all_of ws ws hs each among distinct (λ h a. refl)

  -- so what holds of each branch of the core term holds of each that is written
  pub branches_back : (th : Theory) (self : ℕ) (bs : Branches) (hs : List Head) → EachHead (written th self bs) hs → AreAmong (heads_in bs) hs
      → AreDistinct (heads_in bs) → AllWritten (written th self bs)
  branches_back th self bs hs each among distinct =
      let e = heads_written th self bs in
      all_written (written th self bs) hs each (subst (λ ks. AreAmong ks hs) e among) (subst AreDistinct e distinct)
