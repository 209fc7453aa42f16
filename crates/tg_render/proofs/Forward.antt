-- The tokens of a written text are read again, from the left.
use Rattle.std.proofs.Common.{◌≡◌, ℕ, ◌+◌, ◌-◌, ◌^◌, ◌<◌, true, false, List, [], ◌∷◌, ◌++◌, length, take, drop, inl, inr, refl, sym, ap, subst, ◌∙◌, arith, append_assoc, append-nil, length-append}
use Rattle.std.proofs.lemmas.List.{map-append}
use Rattle.std.proofs.lemmas.Bool.{cases_Bool}
use Rattle.std.proofs.Math.Seq.{drop-append_seam, take-append_seam}
use Rattle.tg_lex.specs.declared.token.Token.{Token}
use Rattle.tg_lex.specs.Bytes.{is_blank}
use Rattle.tg_lex.specs.Grammar.{Spells, value, begins_blank, IsToken, token, ReadsTo}
use Rattle.tg_lex.specs.Load.{text_of}
use Rattle.tg_lex.proofs.Runs.{nothing_read, skips, takes}
use Rattle.tg_lex.proofs.Unique.{one_reading}
use Rattle.tg_grammar.specs.Seen.{Seen, kind_of, value_of, seen_token, seen}
use Rattle.tg_grammar.specs.Words.{version_one}
use Rattle.tg_render.specs.Render.{last_or, is_apart, gap, put, written, written_line, written_lines, render, lines}
use Rattle.tg_render.specs.Tokens.{joined, IsProper, AreProper}
use Rattle.tg_render.specs.Laws.{HasTokens, AreAllProper}
use Rattle.tg_render.proofs.Ends.{last-append}
use Rattle.tg_render.proofs.Longest.{IsBreak, Follows, most, no_opening, next_follows}

-- ---- the text of tokens, from the right

abbrev spaced : ℕ → List Seen → List ℕ
spaced before [] = []
spaced before (t ∷ ts) = gap before t.text ++ (t.text ++ spaced (last_or before t.text) ts)

abbrev spaced_lines : ℕ → List (List Seen) → List ℕ
spaced_lines before [] = []
spaced_lines before (ts ∷ tss) = spaced before ts ++ 10 ∷ spaced_lines 10 tss

last_behind_gap : (before : ℕ) (text : List ℕ) → last_or (last_or before (gap before text)) text ≡ last_or before text
last_behind_gap before [] = refl
last_behind_gap before (c ∷ cs) = refl

last_put : (out text : List ℕ) → last_or 10 (put out text) ≡ last_or (last_or 10 out) text
unfolding put
last_put out text =
    last-append 10 out (gap (last_or 10 out) text ++ text)
    ∙ last-append (last_or 10 out) (gap (last_or 10 out) text) text
    ∙ last_behind_gap (last_or 10 out) text

written-spaced : (out : List ℕ) (ts : List Seen) → written out ts ≡ out ++ spaced (last_or 10 out) ts
unfolding put
written-spaced out [] = sym (append-nil out)
written-spaced out (t ∷ ts) =
    let l = last_or 10 out in
    written-spaced (put out t.text) ts
    ∙ ap (λ n. put out t.text ++ spaced n ts) (last_put out t.text)
    ∙ append_assoc out (gap l t.text ++ t.text) (spaced (last_or l t.text) ts)
    ∙ ap (λ z. out ++ z) (append_assoc (gap l t.text) t.text (spaced (last_or l t.text) ts))

lines-spaced : (out : List ℕ) (tss : List (List Seen)) → written_lines out tss ≡ out ++ spaced_lines (last_or 10 out) tss
lines-spaced out [] = sym (append-nil out)
lines-spaced out (ts ∷ tss) =
    let more = spaced_lines 10 tss in
    let l = last_or 10 out in
    lines-spaced (written_line out ts) tss
    ∙ ap (λ n. written_line out ts ++ spaced_lines n tss) (last-append 10 (written out ts) (10 ∷ []))
    ∙ append_assoc (written out ts) (10 ∷ []) more
    ∙ ap (λ z. z ++ 10 ∷ more) (written-spaced out ts)
    ∙ append_assoc out (spaced l ts) (10 ∷ more)

-- ---- what is read so far

-- `rest` is left of the bytes, and the tokens before it are `done`
record IsRead (bytes rest : List ℕ) (done : List Seen) : Type 0 where
  front : List ℕ
  whole : bytes ≡ front ++ rest
  tokens : List Token
  reads : ReadsTo bytes tokens (length front)
  are : seen bytes tokens ≡ done

begin : (bytes : List ℕ) → IsRead bytes bytes []
begin bytes = record { front = []; whole = refl; tokens = []; reads = nothing_read bytes; are = refl }

left : (bytes rest : List ℕ) (done : List Seen) (r : IsRead bytes rest done) → drop (length r.front) bytes ≡ rest
left bytes rest done r = ap (drop (length r.front)) r.whole ∙ drop-append_seam r.front rest

blank : (bytes rest : List ℕ) (b : ℕ) (done : List Seen) → is_blank b ≡ true → IsRead bytes (b ∷ rest) done → IsRead bytes rest done
blank bytes rest b done e r =
    let here : begins_blank (drop (length r.front) bytes) ≡ true = ap begins_blank (left bytes (b ∷ rest) done r) ∙ e in
    record {
      front = r.front ++ b ∷ [];
      whole = r.whole ∙ sym (append_assoc r.front (b ∷ []) rest);
      tokens = r.tokens;
      reads = subst (λ n. ReadsTo bytes r.tokens n) (sym (length-append r.front (b ∷ []))) (skips bytes r.tokens (length r.front) 1 r.reads (inl (here, refl)));
      are = r.are;
    }

stands : (s : Seen) (p : IsProper s) (rest : List ℕ) → Follows s.text rest → IsToken (s.text ++ rest) p.sort (length s.text)
stands s p rest f =
    let size = length s.text in
    let text : take size (s.text ++ rest) ≡ s.text = take-append_seam s.text rest in
    record {
      no_comment = no_opening p.sort s.text rest p.spelled f;
      is_longest = record {
        within = omega (arith, length-append s.text rest);
        spelled = subst (λ t. Spells p.sort t) (sym text) p.spelled;
        longest = most p.sort s.text rest p.spelled f;
      };
      fits = λ e. subst (λ t. value t < 2 ^ 64) (sym text) (p.fits e);
    }

same_seen : (s : Seen) (p : IsProper s) (bytes : List ℕ) (at : ℕ) → text_of bytes (token p.sort at (at + length s.text)) ≡ s.text
    → seen_token version_one bytes (token p.sort at (at + length s.text)) ≡ s
same_seen s p bytes at e =
    let of_text : List ℕ → Seen = λ t. record { kind = kind_of version_one p.sort t; value = value_of p.sort t; text = t } in
    let proper : of_text s.text ≡ s = λ i. record { kind = sym p.kinded i; value = sym p.valued i; text = s.text } in
    ap of_text e ∙ proper

one_token : (bytes rest : List ℕ) (done : List Seen) (s : Seen) → IsProper s → Follows s.text rest → IsRead bytes (s.text ++ rest) done
    → IsRead bytes rest (done ++ s ∷ [])
one_token bytes rest done s p f r =
    let at = length r.front in
    let size = length s.text in
    let new = token p.sort at (at + size) in
    let here : drop at bytes ≡ s.text ++ rest = left bytes (s.text ++ rest) done r in
    let count : (at + size) - at ≡ size = omega arith in
    let text : text_of bytes new ≡ s.text =
    ap (λ n. take n (drop at bytes)) count ∙ ap (take size) here ∙ take-append_seam s.text rest in
    record {
      front = r.front ++ s.text;
      whole = r.whole ∙ sym (append_assoc r.front s.text rest);
      tokens = r.tokens ++ new ∷ [];
      reads = subst (λ n. ReadsTo bytes (r.tokens ++ new ∷ []) n) (sym (length-append r.front s.text))
          (takes bytes r.tokens at p.sort size r.reads (subst (λ l. IsToken l p.sort size) (sym here) (stands s p rest f)));
      are = map-append (seen_token version_one bytes) r.tokens (new ∷ [])
          ∙ ap (λ ts. ts ++ seen_token version_one bytes new ∷ []) r.are
          ∙ ap (λ t. done ++ t ∷ []) (same_seen s p bytes at text);
    }

behind_gap : (bytes rest : List ℕ) (before : ℕ) (text : List ℕ) (done : List Seen) → IsRead bytes (gap before text ++ rest) done → IsRead bytes rest done
behind_gap bytes rest before text done r =
    elim (cases_Bool (is_apart before text)) [
      | inl apart ↦ blank bytes rest 32 done refl (subst (λ (z : List ℕ). IsRead bytes (z ++ rest) done) (space before text apart) r)
      | inr near ↦ subst (λ (z : List ℕ). IsRead bytes (z ++ rest) done) (nothing before text near) r
    ] where
      space : (before : ℕ) (text : List ℕ) → is_apart before text ≡ true → gap before text ≡ 32 ∷ []
      space before text e = rw e refl

      nothing : (before : ℕ) (text : List ℕ) → is_apart before text ≡ false → gap before text ≡ []
      nothing before text e = rw e refl

-- ---- all tokens

follows : (s : Seen) (before : ℕ) (ts : List Seen) (rest : List ℕ) → IsProper s → AreProper ts → IsBreak rest
    → Follows s.text (spaced (last_or before s.text) ts ++ rest)
follows s before [] rest p ps break = inl break
follows s before (t ∷ ts) rest p ps break =
    let l = last_or before s.text in
    let more = spaced (last_or l t.text) ts in
    subst (λ z. Follows s.text z)
    (ap (λ z. gap l t.text ++ z) (sym (append_assoc t.text more rest)) ∙ sym (append_assoc (gap l t.text) (t.text ++ more) rest))
    (next_follows p.sort ps.0.sort s.text t.text (more ++ rest) before p.spelled ps.0.spelled)

all_read : (bytes rest : List ℕ) (before : ℕ) (ts done : List Seen) → AreProper ts → IsBreak rest → IsRead bytes (spaced before ts ++ rest) done
    → IsRead bytes rest (done ++ ts)
all_read bytes rest before [] done ps break r = subst (λ d. IsRead bytes rest d) (sym (append-nil done)) r
all_read bytes rest before (t ∷ ts) done (p, ps) break r =
    let l = last_or before t.text in
    let more = spaced l ts in
    let first = subst (λ z. IsRead bytes z done)
    (append_assoc (gap before t.text) (t.text ++ more) rest ∙ ap (λ z. gap before t.text ++ z) (append_assoc t.text more rest)) r in
    let second = behind_gap bytes (t.text ++ (more ++ rest)) before t.text done first in
    let third = one_token bytes (more ++ rest) done t p (follows t before ts rest p ps break) second in
    subst (λ d. IsRead bytes rest d) (append_assoc done (t ∷ []) ts) (all_read bytes rest l ts (done ++ t ∷ []) ps break third)

all_lines : (bytes : List ℕ) (before : ℕ) (tss : List (List Seen)) (done : List Seen) → AreAllProper tss → IsRead bytes (spaced_lines before tss) done
    → IsRead bytes [] (done ++ joined tss)
all_lines bytes before [] done ps r = subst (λ d. IsRead bytes [] d) (sym (append-nil done)) r
all_lines bytes before (ts ∷ tss) done (p, ps) r =
    let more = spaced_lines 10 tss in
    let line = all_read bytes (10 ∷ more) before ts done p (inr (10, more, refl, refl, refl)) r in
    subst (λ d. IsRead bytes [] d) (append_assoc done ts (joined tss)) (all_lines bytes 10 tss (done ++ ts) ps (blank bytes more 10 (done ++ ts) refl line))

finish : (bytes : List ℕ) (done : List Seen) → IsRead bytes [] done → HasTokens bytes done
finish bytes done r =
    (r.tokens, subst (λ n. ReadsTo bytes r.tokens n) (ap length (sym (append-nil r.front)) ∙ ap length (sym r.whole)) r.reads, r.are)

pub tokens_back : (ts : List Seen) → AreProper ts → HasTokens (render ts) ts
tokens_back ts ps =
    let same : render ts ≡ spaced 10 ts ++ [] = written-spaced [] ts ∙ sym (append-nil (spaced 10 ts)) in
    let bytes = render ts in
    finish bytes ts (all_read bytes [] 10 ts [] ps (inl refl) (subst (λ z. IsRead bytes z []) same (begin bytes)))

pub lines_back : (tss : List (List Seen)) → AreAllProper tss → HasTokens (lines tss) (joined tss)
lines_back tss ps =
    let bytes = lines tss in
    finish bytes (joined tss) (all_lines bytes 10 tss [] ps (subst (λ z. IsRead bytes z []) (lines-spaced [] tss) (begin bytes)))

pub one_list : (bytes : List ℕ) (ts us : List Seen) → HasTokens bytes ts → HasTokens bytes us → ts ≡ us
one_list bytes ts us (v, r, e) (w, q, f) = sym e ∙ ap (seen bytes) (one_reading bytes v w r q) ∙ f

pub told : (ts us : List Seen) → AreProper ts → AreProper us → render ts ≡ render us → ts ≡ us
told ts us p q e = one_list (render us) ts us (subst (λ b. HasTokens b ts) e (tokens_back ts p)) (tokens_back us q)
