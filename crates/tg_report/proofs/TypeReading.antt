-- Types are read back.
use Rattle.std.proofs.Common.{◌≡◌, ℕ, List, [], ◌∷◌, ◌++◌, Some, None, inl, inr, refl, sym, ap, ◌∙◌, append_assoc, append-nil}
use Rattle.std.specs.Prelude.{codes}
use Rattle.tg_model.specs.Theory.{Theory, IsClosed, AreClosed}
use Rattle.tg_model.specs.Types as types
use Rattle.tg_model.specs.Types.{Ty, Tys}
use Rattle.tg_grammar.specs.declared.types.RawTy.{RawTy}
use Rattle.tg_grammar.specs.declared.types.RawTy.TheVariants as raw
use Rattle.tg_grammar.specs.Kinds as kinds
use Rattle.tg_grammar.specs.Seen.{Seen, word_kind}
use Rattle.tg_grammar.specs.Parts.{TypeAtom, SimpleType, WholeType, MoreTypes}
use Rattle.tg_theory.specs.Wholes.{IsWritten}
use Rattle.tg_render.specs.Tokens.{mark, name, enclosed, continued, IsNameWord}
use Rattle.tg_render.proofs.Proper.{words}
use Rattle.tg_render.proofs.Forward.{tokens_back}
use Rattle.tg_report.specs.Words.{comma}
use Rattle.tg_report.specs.TypeTexts.{ty_tokens, tys_tokens, type_application}
use Rattle.tg_report.specs.RawTypes.{raw_ty, raw_tys}
use Rattle.tg_report.specs.ReadBack.{IsReadBack}
use Rattle.tg_report.proofs.NameWords.{name_word, type_named}
use Rattle.tg_report.proofs.ProperTokens.{IsPart, made, proper-append, proper-enclosed, symbol, keyword}

abbrev opening : Seen
opening = mark kinds.open_paren (codes "(")

abbrev closing : Seen
closing = mark kinds.close_paren (codes ")")

-- ---- shapes

simple : (v : RawTy) (ts : List Seen) → IsPart SimpleType v ts → IsPart TypeAtom v ts
simple v ts a = made TypeAtom v ts a.proper (inr a.read)

naturals : IsPart TypeAtom raw.Nat (mark kinds.nat_word (codes "nat") ∷ [])
unfolding word_kind
naturals = let t = mark kinds.nat_word (codes "nat") in
    simple raw.Nat (t ∷ []) (made SimpleType raw.Nat (t ∷ []) (keyword kinds.nat_word (codes "nat") refl refl, tt) (inl (t, refl, (refl, refl))))

truths : IsPart TypeAtom raw.Bool (mark kinds.bool_word (codes "bool") ∷ [])
unfolding word_kind
truths = let t = mark kinds.bool_word (codes "bool") in
    simple raw.Bool (t ∷ []) (made SimpleType raw.Bool (t ∷ []) (keyword kinds.bool_word (codes "bool") refl refl, tt) (inr (inl (t, refl, (refl, refl)))))

named : (x : List ℕ) → IsNameWord x → IsPart TypeAtom (raw.Word x []) (name x ∷ [])
named x w = simple (raw.Word x []) (name x ∷ [])
    (made SimpleType (raw.Word x []) (name x ∷ []) (words x w.0, tt) (inr (inr (inr (x, refl, (name x, refl, (w.1, refl)))))))

whole : (v : RawTy) (ts : List Seen) → IsPart TypeAtom v ts → IsPart WholeType v ts
whole v ts a = made WholeType v ts a.proper (inl ((v, None), refl, (ts, [], a.read, inl (refl, refl), sym (append-nil ts))))

behind_one : (v : RawTy) (x : List ℕ) (ts : List Seen) → IsPart TypeAtom v ts → IsNameWord x → IsPart WholeType (raw.Word x (v ∷ [])) (ts ++ name x ∷ [])
behind_one v x ts a w =
    made WholeType (raw.Word x (v ∷ [])) (ts ++ name x ∷ []) (proper-append ts (name x ∷ []) a.proper (words x w.0, tt))
    (inl ((v, Some x), refl, (ts, name x ∷ [], a.read, inr (x, refl, (name x, refl, (w.1, refl))), refl)))

in_brackets : (v : RawTy) (ts : List Seen) → IsPart WholeType v ts → IsPart TypeAtom v (enclosed ts)
in_brackets v ts a =
    made TypeAtom v (enclosed ts) (proper-enclosed ts a.proper)
    (inl ((opening, v), refl, (opening ∷ [], ts ++ closing ∷ [], (refl, refl), ((v, closing), refl, (ts, closing ∷ [], a.read, (refl, refl), refl)), refl)))

no_more : IsPart MoreTypes [] []
no_more = made MoreTypes [] [] tt (None, refl, inl (refl, refl))

one_more : (v : RawTy) (vs : List RawTy) (ts us : List Seen) → IsPart WholeType v ts → IsPart MoreTypes vs us → IsPart MoreTypes (v ∷ vs) (comma ∷ (ts ++ us))
one_more v vs ts us a b =
    made MoreTypes (v ∷ vs) (comma ∷ (ts ++ us)) (symbol kinds.comma (codes ",") refl, proper-append ts us a.proper b.proper)
    (Some (v, vs), refl, inr ((v, vs), refl, ((comma, (v, vs)), refl, (comma ∷ [], ts ++ us, (refl, refl), (ts, us, a.read, b.read, refl), refl))))

regrouped : (xs ys : List Seen) (c d : Seen) → ((xs ++ ys) ++ c ∷ []) ++ d ∷ [] ≡ xs ++ (ys ++ c ∷ d ∷ [])
regrouped xs ys c d = append_assoc (xs ++ ys) (c ∷ []) (d ∷ []) ∙ append_assoc xs ys (c ∷ d ∷ [])

behind_several : (v w : RawTy) (vs : List RawTy) (x : List ℕ) (ts us more : List Seen) → IsPart WholeType v ts → IsPart WholeType w us
    → IsPart MoreTypes vs more → IsNameWord x → IsPart WholeType (raw.Word x (v ∷ w ∷ vs)) (enclosed (ts ++ comma ∷ (us ++ more)) ++ name x ∷ [])
behind_several v w vs x ts us more a b c n =
    let tys = w ∷ vs in
    let end = closing ∷ name x ∷ [] in
    let rest = comma ∷ ((us ++ more) ++ end) in
    let proper = proper-append (enclosed (ts ++ comma ∷ (us ++ more))) (name x ∷ [])
    (proper-enclosed (ts ++ comma ∷ (us ++ more))
    (proper-append ts (comma ∷ (us ++ more)) a.proper (symbol kinds.comma (codes ",") refl, proper-append us more b.proper c.proper)))
    (words x n.0, tt) in
    made WholeType (raw.Word x (v ∷ w ∷ vs)) (enclosed (ts ++ comma ∷ (us ++ more)) ++ name x ∷ []) proper
    (inr (
      (v, (tys, x)),
      refl,
      (
        (opening, (v, (tys, x))),
        refl,
        (
          opening ∷ [],
          ts ++ rest,
          (refl, refl),
          (
            ts,
            rest,
            a.read,
            (
              (comma, (tys, x)),
              refl,
              (
                comma ∷ [],
                (us ++ more) ++ end,
                (refl, refl),
                (
                  us ++ more,
                  end,
                  ((w, vs), refl, (us, more, b.read, c.read, refl)),
                  ((closing, x), refl, (closing ∷ [], name x ∷ [], (refl, refl), (name x, refl, (n.1, refl)), refl)),
                  refl,
                ),
                refl,
              ),
            ),
            refl,
          ),
          ap (λ z. opening ∷ z) (regrouped ts (comma ∷ (us ++ more)) closing (name x)),
        ),
      ),
    ))

-- ---- all types

abbrev AreAtoms : List RawTy → List (List Seen) → Type 0
AreAtoms [] [] = Unit {0}
AreAtoms [] (x ∷ xs) = ⊥
AreAtoms (v ∷ vs) [] = ⊥
AreAtoms (v ∷ vs) (x ∷ xs) = IsPart TypeAtom v x × AreAtoms vs xs

further : (vs : List RawTy) (xs : List (List Seen)) → AreAtoms vs xs → IsPart MoreTypes vs (continued comma xs)
further [] [] a = no_more
further [] (x ∷ xs) a = absurd a
further (v ∷ vs) [] a = absurd a
further (v ∷ vs) (x ∷ xs) (a, others) = one_more v vs x (continued comma xs) (whole v x a) (further vs xs others)

application : (x : List ℕ) (vs : List RawTy) (xs : List (List Seen)) → IsNameWord x → AreAtoms vs xs
    → IsPart TypeAtom (raw.Word x vs) (type_application (name x) xs)
application x [] [] n a = named x n
application x [] (t ∷ ts) n a = absurd a
application x (v ∷ vs) [] n a = absurd a
application x (v ∷ []) (t ∷ []) n (a, b) = in_brackets (raw.Word x (v ∷ [])) (t ++ name x ∷ []) (behind_one v x t a n)
application x (v ∷ []) (t ∷ u ∷ ts) n (a, b) = absurd b
application x (v ∷ w ∷ vs) (t ∷ []) n (a, b) = absurd b
application x (v ∷ w ∷ vs) (t ∷ u ∷ ts) n (a, (b, others)) =
    in_brackets (raw.Word x (v ∷ w ∷ vs)) (enclosed (t ++ comma ∷ (u ++ continued comma ts)) ++ name x ∷ [])
    (behind_several v w vs x t u (continued comma ts) (whole v t a) (whole w u b) (further vs ts others) n)

mutual
  pub atom : (th : Theory) (t : Ty) → IsWritten th → IsClosed th t → IsPart TypeAtom (raw_ty th t) (ty_tokens th t)
  atom th types.nat w h = naturals
  atom th types.bool w h = truths
  atom th (types.parameter n) w h = absurd h
  atom th (types.meta n) w h = absurd h
  atom th (types.applied d ts) w ((x, found, count), h) =
      application _ (raw_tys th ts) (tys_tokens th ts) (name_word _ (type_named th d x w found)) (atoms th ts w h)

  atoms : (th : Theory) (ts : Tys) → IsWritten th → AreClosed th ts → AreAtoms (raw_tys th ts) (tys_tokens th ts)
  atoms th types.none w h = tt
  atoms th (types.more t ts) w (h, hs) = (atom th t w h, atoms th ts w hs)

pub types_back : (th : Theory) (t : Ty) → IsWritten th → IsClosed th t → IsReadBack TypeAtom (raw_ty th t) (ty_tokens th t)
types_back th t w h = let a = atom th t w h in (tokens_back (ty_tokens th t) a.proper, a.read)
