-- Readings of a text, part by part, and what holds of their tokens.
use Rattle.std.proofs.Common.{◌≡◌, ℕ, zero, suc, ◌+◌, ◌-◌, ◌^◌, ◌<◌, ◌≤◌, List, [], ◌∷◌, ◌++◌, length, take, drop, Result, Ok, Err, true, inl, inr, refl, sym, ap, subst, ◌∙◌, arith, length-drop}
use Rattle.std.specs.Prelude.{slice_range, All, IfOk, IfErr}
use Rattle.std.specs.List.{AllByRecursion, list_all}
use Rattle.std.proofs.lemmas.List.Elements.{All-from_recursion}
use Rattle.std.specs.declared.alloc.Global.{Global}
use Rattle.std.specs.declared.vec.Vec.{Vec}
use Rattle.tg_lex.specs.declared.token.Kind.{Kind}
use Rattle.tg_lex.specs.declared.token.Kind.TheVariants.{Number}
use Rattle.tg_lex.specs.declared.token.Token.{Token}
use Rattle.tg_lex.specs.declared.token.LexErr.{LexErr}
use Rattle.tg_lex.specs.declared.token.LexErr.TheVariants as errors
use Rattle.tg_lex.specs.declared.part.Part.{Part}
use Rattle.tg_lex.specs.declared.part.Part.TheVariants as parts
use Rattle.tg_lex.specs.declared.part.Fault.{Fault}
use Rattle.tg_lex.specs.declared.part.Fault.TheVariants as faults
use Rattle.tg_lex.specs.Bytes.{is_digit}
use Rattle.tg_lex.specs.Grammar.{Spells, value, Stands, size_of, total, BeginsWith, token, tokens_from, ReadsTo, Reads, FailsAt, IsFirst, IsToken, IsTokenOf, Rises}
use Rattle.tg_lex.specs.Answers.{IsFirstFault, TellsTokens, TellsFault}
use Rattle.tg_lex.proofs.Comments.{drop-add, rest_is}
use Rattle.tg_lex.proofs.Texts.{nothing_spelled}
use Rattle.tg_lex.proofs.Unique.{one_reading, no_fault, one_first_fault}

-- ---- one part more

total-more : (ps : List Part) (p : Part) → total (ps ++ p ∷ []) ≡ total ps + size_of p
total-more [] p = omega arith
total-more (q ∷ ps) p = omega (arith, total-more ps p)

begins-more : (bytes : List ℕ) (ps : List Part) (p : Part) → BeginsWith bytes ps → Stands (drop (total ps) bytes) p → BeginsWith bytes (ps ++ p ∷ [])
begins-more bytes [] p a s = (s, tt)
begins-more bytes (q ∷ ps) p a s =
    (a.0, begins-more (drop (size_of q) bytes) ps p a.1 (subst (λ l. Stands l p) (sym (drop-add (total ps) (size_of q) bytes)) s))

skip-more : (at : ℕ) (ps : List Part) (size : ℕ) → tokens_from at (ps ++ parts.Skip size ∷ []) ≡ tokens_from at ps
skip-more at [] size = refl
skip-more at (parts.Skip n ∷ ps) size = skip-more (at + n) ps size
skip-more at (parts.Token k n ∷ ps) size = ap (λ ts. token k at (at + n) ∷ ts) (skip-more (at + n) ps size)

token-more : (at : ℕ) (ps : List Part) (kind : Kind) (size end : ℕ) → at + total ps ≡ end → tokens_from at (ps ++ parts.Token kind size ∷ []) ≡ tokens_from at ps ++ token kind end (end + size) ∷ []
token-more at [] kind size end e = let same : at ≡ end = omega arith in ap (λ n. token kind n (n + size) ∷ []) same
token-more at (parts.Skip n ∷ ps) kind size end e = token-more (at + n) ps kind size end (omega arith)
token-more at (parts.Token k n ∷ ps) kind size end e = ap (λ ts. token k at (at + n) ∷ ts) (token-more (at + n) ps kind size end (omega arith))

pub nothing_read : (bytes : List ℕ) → ReadsTo bytes [] 0
nothing_read bytes = ([], tt, refl, refl)

pub skips : (bytes : List ℕ) (ts : List Token) (at size : ℕ) → ReadsTo bytes ts at → Stands (drop at bytes) (parts.Skip size) → ReadsTo bytes ts (at + size)
skips bytes ts at size a s =
    (a.0 ++ parts.Skip size ∷ [], begins-more bytes a.0 (parts.Skip size) a.1 (subst (λ n. Stands (drop n bytes) (parts.Skip size)) a.2 s), omega (arith, a.2, total-more a.0 (parts.Skip size)), a.3 ∙ sym (skip-more 0 a.0 size))

pub takes : (bytes : List ℕ) (ts : List Token) (at : ℕ) (kind : Kind) (size : ℕ) → ReadsTo bytes ts at → Stands (drop at bytes) (parts.Token kind size)
    → ReadsTo bytes (ts ++ token kind at (at + size) ∷ []) (at + size)
takes bytes ts at kind size a s = (
  a.0 ++ parts.Token kind size ∷ [],
  begins-more bytes a.0 (parts.Token kind size) a.1 (subst (λ n. Stands (drop n bytes) (parts.Token kind size)) a.2 s),
  omega (arith, a.2, total-more a.0 (parts.Token kind size)),
  ap (λ us. us ++ token kind at (at + size) ∷ []) a.3 ∙ sym (token-more 0 a.0 kind size at (omega (arith, a.2))),
)

pub all_read : (bytes : List ℕ) (ts : List Token) (at : ℕ) → ReadsTo bytes ts at → at ≤ length bytes → length bytes ≤ at → Reads bytes ts
all_read bytes ts at a le ge = let same : at ≡ length bytes = omega arith in subst (λ n. ReadsTo bytes ts n) same a

-- ---- the tokens

some_bytes : (kind : Kind) (bytes : List ℕ) (n : ℕ) → Spells kind (take n bytes) → 0 < n
some_bytes kind bytes zero s = absurd (nothing_spelled kind s)
some_bytes kind bytes (suc n) s = omega arith

slice_is : (bytes : List ℕ) (at size : ℕ) → slice_range bytes at (at + size) ≡ take size (drop at bytes)
slice_is bytes at size = let same : at + size - at ≡ size = omega arith in ap (λ n. take n (drop at bytes)) same

one_text : (bytes : List ℕ) (at : ℕ) (kind : Kind) (size : ℕ) → at ≤ length bytes → IsToken (drop at bytes) kind size → IsTokenOf bytes (token kind at (at + size))
one_text bytes at kind size le t = record {
  some = omega (arith, some_bytes kind (drop at bytes) size t.is_longest.spelled);
  within = omega (arith, t.is_longest.within, length-drop at bytes);
  spelled = subst (λ l. Spells kind l) (sym (slice_is bytes at size)) t.is_longest.spelled;
  fits = λ e. subst (λ l. value l < 2 ^ 64) (sym (slice_is bytes at size)) (t.fits e);
}

-- a part ends within the text
ends_in : (bytes : List ℕ) (p : Part) → Stands bytes p → size_of p ≤ length bytes
ends_in [] (parts.Skip size) (inl a) = absurd cc
ends_in (b ∷ bs) (parts.Skip size) (inl a) = omega (arith, a.1)
ends_in bytes (parts.Skip size) (inr a) = a.0
ends_in bytes (parts.Token kind size) t = t.is_longest.within

texts_from : (bytes : List ℕ) (at : ℕ) (ps : List Part) → at ≤ length bytes → BeginsWith (drop at bytes) ps → AllByRecursion (IsTokenOf bytes) (tokens_from at ps)
texts_from bytes at [] le a = tt
texts_from bytes at (parts.Skip size ∷ ps) le a =
    texts_from bytes (at + size) ps (omega (arith, ends_in (drop at bytes) (parts.Skip size) a.0, length-drop at bytes)) (subst (λ l. BeginsWith l ps) (drop-add size at bytes) a.1)
texts_from bytes at (parts.Token kind size ∷ ps) le a = (
  one_text bytes at kind size le a.0,
  texts_from bytes (at + size) ps (omega (arith, a.0.is_longest.within, length-drop at bytes)) (subst (λ l. BeginsWith l ps) (drop-add size at bytes) a.1),
)

pub texts : (bytes : List ℕ) (ts : List Token) (at : ℕ) → ReadsTo bytes ts at → All (IsTokenOf bytes) ts
texts bytes ts at a =
    All-from_recursion (IsTokenOf bytes) ts (subst (λ us. AllByRecursion (IsTokenOf bytes) us) (sym a.3) (texts_from bytes 0 a.0 (omega arith) a.1))

rises-before : (m n : ℕ) (ts : List Token) → m ≤ n → Rises n ts → Rises m ts
rises-before m n [] le r = tt
rises-before m n (t ∷ ts) le r = (omega (arith, r.0), r.1, r.2)

rises_from : (bytes : List ℕ) (at : ℕ) (ps : List Part) → BeginsWith (drop at bytes) ps → Rises at (tokens_from at ps)
rises_from bytes at [] a = tt
rises_from bytes at (parts.Skip size ∷ ps) a =
    rises-before at (at + size) (tokens_from (at + size) ps) (omega arith) (rises_from bytes (at + size) ps (subst (λ l. BeginsWith l ps) (drop-add size at bytes) a.1))
rises_from bytes at (parts.Token kind size ∷ ps) a =
    (omega arith, omega (arith, some_bytes kind (drop at bytes) size a.0.is_longest.spelled), rises_from bytes (at + size) ps (subst (λ l. BeginsWith l ps) (drop-add size at bytes) a.1))

pub rise : (bytes : List ℕ) (ts : List Token) (at : ℕ) → ReadsTo bytes ts at → Rises 0 ts
rise bytes ts at a = subst (λ us. Rises 0 us) (sym a.3) (rises_from bytes 0 a.0 a.1)

number_digits : (text : List ℕ) → Spells Number text → list_all is_digit text ≡ true
number_digits [] s = refl
number_digits (b ∷ bs) s = s

pub digits_of : (bytes : List ℕ) (t : Token) → IsTokenOf bytes t → t.kind ≡ Number → list_all is_digit (slice_range bytes t.start t.end) ≡ true
digits_of bytes t is e = number_digits (slice_range bytes t.start t.end) (subst (λ k. Spells k (slice_range bytes t.start t.end)) e is.spelled)

-- ---- the answer

pub only_all : (bytes : List ℕ) (r : Result (Vec Token Global) LexErr) → IfOk r (λ v. Reads bytes v.items) → IfErr r (IsFirstFault bytes) → (tokens : List Token) → Reads bytes tokens → TellsTokens tokens r
only_all bytes (Ok v) ok err tokens a = one_reading bytes v.items tokens ok a
only_all bytes (Err (errors.Byte at before)) ok err tokens a = no_fault bytes tokens before faults.Byte at a err
only_all bytes (Err (errors.Comment at before)) ok err tokens a = no_fault bytes tokens before faults.Comment at a err
only_all bytes (Err (errors.Number at before)) ok err tokens a = no_fault bytes tokens before faults.Number at a err
only_all bytes (Err errors.Memory) ok err tokens a = tt

told : (f g : Fault) (m n : ℕ) (ts us : List Token) → (f ≡ g) × (m ≡ n) × (ts ≡ us) → (g ≡ f) × (m ≡ n) × (ts ≡ us)
told f g m n ts us e = (sym e.0, e.1, e.2)

pub exact_all : (bytes : List ℕ) (r : Result (Vec Token Global) LexErr) → IfOk r (λ v. Reads bytes v.items) → IfErr r (IsFirstFault bytes)
    → (f : Fault) (at : ℕ) (before : List Token) → FailsAt bytes f at before → TellsFault f at before r
exact_all bytes (Ok v) ok err f at before a = no_fault bytes v.items before f at ok a
exact_all bytes (Err (errors.Byte m ts)) ok err f at before a = told faults.Byte f m at ts before (one_first_fault bytes ts before faults.Byte f m at err a)
exact_all bytes (Err (errors.Comment m ts)) ok err f at before a = told faults.Comment f m at ts before (one_first_fault bytes ts before faults.Comment f m at err a)
exact_all bytes (Err (errors.Number m ts)) ok err f at before a = told faults.Number f m at ts before (one_first_fault bytes ts before faults.Number f m at err a)
exact_all bytes (Err errors.Memory) ok err f at before a = tt

pub texts_all : (bytes : List ℕ) (r : Result (Vec Token Global) LexErr) → IfOk r (λ v. Reads bytes v.items) → IfOk r (λ v. All (IsTokenOf bytes) v.items)
texts_all bytes (Ok v) ok = texts bytes v.items (length bytes) ok
texts_all bytes (Err e) ok = tt

pub rise_all : (bytes : List ℕ) (r : Result (Vec Token Global) LexErr) → IfOk r (λ v. Reads bytes v.items) → IfOk r (λ v. Rises 0 v.items)
rise_all bytes (Ok v) ok = rise bytes v.items (length bytes) ok
rise_all bytes (Err e) ok = tt

-- ---- the steps of the loop, with the rest as a slice has it

whole_rest : (bytes : List ℕ) (at : ℕ) (r : Result Part Fault) → IsFirst (take (length bytes - at) (drop at bytes)) r → IsFirst (drop at bytes) r
whole_rest bytes at r first = subst (λ l. IsFirst l r) (rest_is at bytes) first

pub record IsSoFar (bytes : List ℕ) (ts : List Token) (at : ℕ) : Type 0 where
  pub within : at ≤ length bytes
  pub so_far : ReadsTo bytes ts at

pub skip_step : (bytes : List ℕ) (ts : List Token) (at : ℕ) (p : Part) (size : ℕ) → IsFirst (take (length bytes - at) (drop at bytes)) (Ok p) → p ≡ parts.Skip size → at ≤ length bytes → ReadsTo bytes ts at
    → IsSoFar bytes ts (at + size)
skip_step bytes ts at p size first is le a =
    let here : IsFirst (drop at bytes) (Ok (parts.Skip size)) = subst (λ q. IsFirst (drop at bytes) (Ok q)) is (whole_rest bytes at (Ok p) first) in
    record { within = omega (arith, here.2, length-drop at bytes); so_far = skips bytes ts at size a here.0 }

pub token_step : (bytes : List ℕ) (ts us : List Token) (at : ℕ) (p : Part) (kind : Kind) (size : ℕ) → IsFirst (take (length bytes - at) (drop at bytes)) (Ok p) → p ≡ parts.Token kind size
    → us ≡ ts ++ token kind at (at + size) ∷ [] → at ≤ length bytes → ReadsTo bytes ts at → IsSoFar bytes us (at + size)
token_step bytes ts us at p kind size first is more le a =
    let here : IsFirst (drop at bytes) (Ok (parts.Token kind size)) = subst (λ q. IsFirst (drop at bytes) (Ok q)) is (whole_rest bytes at (Ok p) first) in
    record {
      within = omega (arith, here.2, length-drop at bytes);
      so_far = subst (λ l. ReadsTo bytes l (at + size)) (sym more) (takes bytes ts at kind size a here.0);
    }

pub fault_step : (bytes : List ℕ) (ts : List Token) (at : ℕ) (f : Fault) → IsFirst (take (length bytes - at) (drop at bytes)) (Err f) → ReadsTo bytes ts at → FailsAt bytes f at ts
fault_step bytes ts at f first a = (a, whole_rest bytes at (Err f) first)
