-- The tokens that are left, and the next one of them.
use Rattle.std.proofs.Common.{◌≡◌, ℕ, zero, suc, ◌<◌, ◌≤◌, ◌+◌, true, false, List, [], ◌∷◌, drop, length, Some, None, Result, Ok, Err, IfOk, IfErr, OnOk, refl, sym, ◌∙◌, ap, get_or, arith}
use Rattle.std.proofs.lemmas.List.{drop_more, drop-drop, get_or-map, length-map}
use Rattle.tg_lex.specs.declared.token.Token.{Token}
use Rattle.tg_rules.specs.Rule.{has}
use Rattle.tg_rules.specs.Reader.{ok, starts}
use Rattle.tg_grammar.specs.Seen.{Seen, Vocabulary, seen_with, seen_token}
use Rattle.tg_grammar.specs.Reading.{kind}
use Rattle.tg_lex.specs.Load.{text_of}
use Rattle.tg_reading.specs.declared.reader.Stop.{Stop}
use Rattle.tg_reading.specs.declared.reader.Stop.TheVariants.{Memory}
use Rattle.tg_reading.specs.Answers.{Gives, text_at, next_kind, next_text, next_value}

-- ---- where the next token stands

next_of : (all : List Seen) (at : ℕ) (d : Seen) → at < length all → next_kind (drop at all) ≡ Some (get_or all at d).kind
next_of all at d low = ap next_kind (drop_more all at d low)

pub none_left : (all left : List Seen) (at : ℕ) → drop at all ≡ left → length all ≤ at → left ≡ []
none_left all left at view high = sym view ∙ drop_all all at high
  where
    drop_all : (all : List Seen) (at : ℕ) → length all ≤ at → drop at all ≡ []
    drop_all [] zero high = refl
    drop_all [] (suc at) high = refl
    drop_all (t ∷ all) zero high = absurd (omega (arith, high))
    drop_all (t ∷ all) (suc at) high = drop_all all at (omega (arith, high))

-- the next token of the bytes
token_left : (words : Vocabulary) (bytes : List ℕ) (tokens : List Token) (left : List Seen) (at : ℕ) (d : Token) → drop at (seen_with words bytes tokens) ≡ left → at < length tokens
    → left ≡ seen_token words bytes (get_or tokens at d) ∷ drop (at + 1) (seen_with words bytes tokens)
token_left words bytes tokens left at d view low =
    let within : at < length (seen_with words bytes tokens) = omega (arith, low, length-map tokens (seen_token words bytes)) in
    sym view ∙ drop_more (seen_with words bytes tokens) at (seen_token words bytes d) within
    ∙ ap (λ x. x ∷ drop (at + 1) (seen_with words bytes tokens)) (get_or-map (seen_token words bytes) tokens at d (seen_token words bytes d) low)

-- the kind of the token at a place
pub kind_at : (words : Vocabulary) (bytes : List ℕ) (tokens : List Token) (at : ℕ) (d : Token) → at < length tokens
    → Some (seen_token words bytes (get_or tokens at d)).kind ≡ next_kind (drop at (seen_with words bytes tokens))
kind_at words bytes tokens at d low = sym (ap next_kind (token_left words bytes tokens (drop at (seen_with words bytes tokens)) at d refl low))

pub no_kind : (words : Vocabulary) (bytes : List ℕ) (tokens : List Token) (at : ℕ) → length tokens ≤ at → None ≡ next_kind (drop at (seen_with words bytes tokens))
no_kind words bytes tokens at high =
    sym (ap next_kind (none_left (seen_with words bytes tokens) (drop at (seen_with words bytes tokens)) at refl (omega (arith, high, length-map tokens (seen_token words bytes)))))

pub text_left : (words : Vocabulary) (bytes : List ℕ) (tokens : List Token) (left : List Seen) (at : ℕ) (d : Token) → drop at (seen_with words bytes tokens) ≡ left → at < length tokens
    → text_of bytes (get_or tokens at d) ≡ next_text left
text_left words bytes tokens left at d view low = sym (ap next_text (token_left words bytes tokens left at d view low))

pub value_left : (words : Vocabulary) (bytes : List ℕ) (tokens : List Token) (left : List Seen) (at : ℕ) (d : Token) → drop at (seen_with words bytes tokens) ≡ left → at < length tokens
    → (seen_token words bytes (get_or tokens at d)).value ≡ next_value left
value_left words bytes tokens left at d view low = sym (ap next_value (token_left words bytes tokens left at d view low))

pub advanced : (words : Vocabulary) (bytes : List ℕ) (tokens : List Token) (left : List Seen) (at : ℕ) → drop at (seen_with words bytes tokens) ≡ left → drop (at + 1) (seen_with words bytes tokens) ≡ drop 1 left
advanced words bytes tokens left at view = sym (drop-drop 1 at (seen_with words bytes tokens)) ∙ ap (drop 1) view

-- ---- what is taken

pub next_starts : (ks : List ℕ) (ts : List Seen) (k : ℕ) → next_kind ts ≡ Some k → has ks k ≡ starts kind ks ts
next_starts ks [] k e = cc
next_starts ks (t ∷ ts) k e = let s : t.kind ≡ k = cc e in ap (has ks) (sym s)

pub none_starts : (ks : List ℕ) (ts : List Seen) → next_kind ts ≡ None → false ≡ starts kind ks ts
none_starts ks [] e = refl
none_starts ks (t ∷ ts) e = cc

pub ruleset next = (next_starts, none_starts)

pub name_taken : (ks : List ℕ) (ts left : List Seen) (k : ℕ) (r : Result (List ℕ) Stop) → next_kind ts ≡ Some k → has ks k ≡ true → IfOk r (λ n. n ≡ next_text ts)
    → OnOk r (left ≡ drop 1 ts) → IfErr r (λ s. s ≡ Memory) → Gives r left (text_at ks ts)
name_taken ks [] left k r e h text rest stop = cc
name_taken ks (t ∷ ts) left k (Ok n) e h text rest stop =
    let s : t.kind ≡ k = cc e in
    let taken : has ks t.kind ≡ true = ap (has ks) s ∙ h in
    rw taken (λ i. ok (sym text i) (sym rest i))
name_taken ks (t ∷ ts) left k (Err s) e h text rest stop = rw stop tt
