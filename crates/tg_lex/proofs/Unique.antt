-- At most one part stands first, and where one does there is no fault: a text has one list of tokens, or
-- one first fault.
use Rattle.std.proofs.Common.{◌≡◌, ℕ, zero, suc, ◌^◌, ◌≤◌, true, false, List, [], ◌∷◌, length, take, drop, Option, Some, None, inl, inr, refl, sym, ap, subst, ◌∙◌, arith, length-drop}
use Rattle.std.proofs.lemmas.Bool.{cond-false, cases_Bool}
use Rattle.std.proofs.Math.ListN.{drop_of_length-le}
use Rattle.tg_lex.specs.declared.token.Kind.{Kind}
use Rattle.tg_lex.specs.declared.token.Kind.TheVariants.{Number}
use Rattle.tg_lex.specs.declared.token.Token.{Token}
use Rattle.tg_lex.specs.declared.part.Part.{Part}
use Rattle.tg_lex.specs.declared.part.Part.TheVariants as parts
use Rattle.tg_lex.specs.declared.part.Fault.{Fault}
use Rattle.tg_lex.specs.declared.part.Fault.TheVariants as faults
use Rattle.tg_lex.specs.Bytes.{is_blank, is_digit}
use Rattle.tg_lex.specs.Grammar.{Spells, value, opens, after_open, after_comment, begins_blank, IsLongest, IsToken, IsSeparator, IsTooLarge, Stands, Fails, size_of, total, BeginsWith, tokens_from, ReadsTo, Reads, FailsAt, HasWrongByte, HasOpenComment, HasLargeNumber}
use Rattle.tg_lex.proofs.Comments.{drop-add}
use Rattle.tg_lex.proofs.Texts.{FirstOf, first_of, nothing_spelled, not_blank, open_first, one_kind, clash}

-- ---- what stands first

first_of_front : (kind : Kind) (n b : ℕ) (bs : List ℕ) → Spells kind (take n (b ∷ bs)) → FirstOf kind b
first_of_front kind zero b bs s = absurd (nothing_spelled kind s)
first_of_front kind (suc n) b bs s = first_of kind b (take n bs) s

take-nil : (n : ℕ) → take {A = ℕ} n [] ≡ []
take-nil zero = refl
take-nil (suc n) = refl

blank_is_no_token : (bytes : List ℕ) (kind : Kind) (n : ℕ) → begins_blank bytes ≡ true → Spells kind (take n bytes) → ⊥
blank_is_no_token [] kind n e s = clash false refl e
blank_is_no_token (b ∷ bs) kind n e s = not_blank kind b (first_of_front kind n b bs s) e

blank_is_no_comment : (bytes : List ℕ) → begins_blank bytes ≡ true → opens bytes ≡ true → ⊥
blank_is_no_comment [] e o = clash false refl e
blank_is_no_comment (b ∷ bs) e o = clash (is_blank b) (ap is_blank (open_first b bs o)) e

comment_is_no_number : (bytes : List ℕ) (n : ℕ) → opens bytes ≡ true → Spells Number (take n bytes) → ⊥
comment_is_no_number [] n o s = clash false refl o
comment_is_no_number (b ∷ bs) n o s = clash (is_digit b) (ap is_digit (open_first b bs o)) (first_of_front Number n b bs s)

none_is_not_some : (o : Option (List ℕ)) (rest : List ℕ) → o ≡ None → o ≡ Some rest → ⊥
none_is_not_some o rest e f = cc

ends_open : (bytes rest : List ℕ) → after_comment bytes ≡ Some rest → opens bytes ≡ true
ends_open bytes rest e =
    elim (cases_Bool (opens bytes)) [
      | inl o ↦ o
      | inr closed ↦ absurd (none_is_not_some (after_comment bytes) rest (cond-false (opens bytes) (after_open false 0 bytes) None closed) e)
    ]

same_rest : (x y : List ℕ) → let some : List ℕ → Option (List ℕ) = λ l. Some l in some x ≡ some y → x ≡ y
same_rest x y e = cc

same_size : (bytes : List ℕ) (m n : ℕ) → m ≤ length bytes → n ≤ length bytes → drop m bytes ≡ drop n bytes → m ≡ n
same_size bytes m n le ge e = omega (arith, length-drop m bytes, length-drop n bytes, ap length e)

one_separator : (bytes : List ℕ) (m n : ℕ) → IsSeparator bytes m → IsSeparator bytes n → m ≡ n
one_separator bytes m n (inl a) (inl b) = a.1 ∙ sym b.1
one_separator bytes m n (inl a) (inr b) = absurd (blank_is_no_comment bytes a.0 (ends_open bytes (drop n bytes) b.1))
one_separator bytes m n (inr a) (inl b) = absurd (blank_is_no_comment bytes b.0 (ends_open bytes (drop m bytes) a.1))
one_separator bytes m n (inr a) (inr b) = same_size bytes m n a.0 b.0 (same_rest (drop m bytes) (drop n bytes) (sym a.1 ∙ b.1))

separator_is_no_token : (bytes : List ℕ) (m : ℕ) (kind : Kind) (n : ℕ) → IsSeparator bytes m → IsToken bytes kind n → ⊥
separator_is_no_token bytes m kind n (inl a) t = blank_is_no_token bytes kind n a.0 t.is_longest.spelled
separator_is_no_token bytes m kind n (inr a) t = clash (opens bytes) t.no_comment (ends_open bytes (drop m bytes) a.1)

one_size : (bytes : List ℕ) (k l : Kind) (m n : ℕ) → IsLongest bytes k m → IsLongest bytes l n → m ≡ n
one_size bytes k l m n p q = omega (arith, p.longest l n q.within q.spelled, q.longest k m p.within p.spelled)

one_longest : (bytes : List ℕ) (k l : Kind) (m n : ℕ) → IsLongest bytes k m → IsLongest bytes l n → k ≡ l
one_longest bytes k l m n p q =
    one_kind k l (take n bytes) (subst (λ i. Spells k (take i bytes)) (one_size bytes k l m n p q) p.spelled) q.spelled

one_part : (bytes : List ℕ) (p q : Part) → Stands bytes p → Stands bytes q → p ≡ q
one_part bytes (parts.Skip m) (parts.Skip n) a b = ap parts.Skip (one_separator bytes m n a b)
one_part bytes (parts.Skip m) (parts.Token kind n) a b = absurd (separator_is_no_token bytes m kind n a b)
one_part bytes (parts.Token kind n) (parts.Skip m) a b = absurd (separator_is_no_token bytes m kind n b a)
one_part bytes (parts.Token k m) (parts.Token l n) a b =
    let kinds = one_longest bytes k l m n a.is_longest b.is_longest in
    let sizes = one_size bytes k l m n a.is_longest b.is_longest in
    cc

too_large_is_no_token : (bytes : List ℕ) (kind : Kind) (n : ℕ) → IsToken bytes kind n → IsTooLarge bytes → ⊥
too_large_is_no_token bytes kind n t large =
    let kinds = one_longest bytes kind Number n large.0 t.is_longest large.1 in
    let sizes = one_size bytes kind Number n large.0 t.is_longest large.1 in
    omega (arith, t.fits kinds, subst (λ i. 2 ^ 64 ≤ value (take i bytes)) (sym sizes) large.2)

stands_or_fails : (bytes : List ℕ) (p : Part) (f : Fault) → Stands bytes p → Fails bytes f → ⊥
stands_or_fails bytes (parts.Skip m) faults.Byte (inl a) f = clash (begins_blank bytes) f.no_blank a.0
stands_or_fails bytes (parts.Skip m) faults.Byte (inr a) f = clash (opens bytes) f.no_comment (ends_open bytes (drop m bytes) a.1)
stands_or_fails bytes (parts.Skip m) faults.Comment (inl a) f = blank_is_no_comment bytes a.0 f.opened
stands_or_fails bytes (parts.Skip m) faults.Comment (inr a) f = none_is_not_some (after_comment bytes) (drop m bytes) f.never a.1
stands_or_fails bytes (parts.Skip m) faults.Number (inl a) f = blank_is_no_token bytes Number f.0 a.0 f.1.spelled
stands_or_fails bytes (parts.Skip m) faults.Number (inr a) f = comment_is_no_number bytes f.0 (ends_open bytes (drop m bytes) a.1) f.1.spelled
stands_or_fails bytes (parts.Token kind n) faults.Byte a f = f.no_token kind n a.is_longest.within a.is_longest.spelled
stands_or_fails bytes (parts.Token kind n) faults.Comment a f = clash (opens bytes) a.no_comment f.opened
stands_or_fails bytes (parts.Token kind n) faults.Number a f = too_large_is_no_token bytes kind n a f

one_fault : (bytes : List ℕ) (f g : Fault) → Fails bytes f → Fails bytes g → f ≡ g
one_fault bytes faults.Byte faults.Byte a b = refl
one_fault bytes faults.Byte faults.Comment a b = absurd (clash (opens bytes) a.no_comment b.opened)
one_fault bytes faults.Byte faults.Number a b = absurd (a.no_token Number b.0 b.1.within b.1.spelled)
one_fault bytes faults.Comment faults.Byte a b = absurd (clash (opens bytes) b.no_comment a.opened)
one_fault bytes faults.Comment faults.Comment a b = refl
one_fault bytes faults.Comment faults.Number a b = absurd (comment_is_no_number bytes b.0 a.opened b.1.spelled)
one_fault bytes faults.Number faults.Byte a b = absurd (b.no_token Number a.0 a.1.within a.1.spelled)
one_fault bytes faults.Number faults.Comment a b = absurd (comment_is_no_number bytes a.0 b.opened a.1.spelled)
one_fault bytes faults.Number faults.Number a b = refl

-- ---- all parts

-- no part stands here
abbrev Ends : List ℕ → Type 0
Ends bytes = (p : Part) → Stands bytes p → ⊥

nothing_ends : Ends []
nothing_ends (parts.Skip m) (inl a) = clash false refl a.0
nothing_ends (parts.Skip m) (inr a) = none_is_not_some (after_comment []) (drop m []) refl a.1
nothing_ends (parts.Token kind n) t = nothing_spelled kind (subst (λ l. Spells kind l) (take-nil n) t.is_longest.spelled)

same_parts : (bytes : List ℕ) (ps qs : List Part) → BeginsWith bytes ps → BeginsWith bytes qs → Ends (drop (total ps) bytes) → Ends (drop (total qs) bytes) → ps ≡ qs
same_parts bytes [] [] a b e f = refl
same_parts bytes [] (q ∷ qs) a b e f = absurd (e q b.0)
same_parts bytes (p ∷ ps) [] a b e f = absurd (f p a.0)
same_parts bytes (p ∷ ps) (q ∷ qs) a b e f =
    let first : p ≡ q = one_part bytes p q a.0 b.0 in
    let rest : ps ≡ qs = same_parts (drop (size_of p) bytes) ps qs a.1
    (subst (λ x. BeginsWith (drop (size_of x) bytes) qs) (sym first) b.1)
    (subst Ends (sym (drop-add (total ps) (size_of p) bytes)) e)
    (subst (λ x. Ends (drop (total qs) (drop (size_of x) bytes))) (sym first) (subst Ends (sym (drop-add (total qs) (size_of q) bytes)) f)) in
    cc

-- readings up to two places where no part stands are the same
one_end : (bytes : List ℕ) (ts us : List Token) (m n : ℕ) → ReadsTo bytes ts m → ReadsTo bytes us n → Ends (drop m bytes) → Ends (drop n bytes) → (ts ≡ us) × (m ≡ n)
one_end bytes ts us m n a b e f =
    let same : a.0 ≡ b.0 = same_parts bytes a.0 b.0 a.1 b.1 (subst (λ k. Ends (drop k bytes)) a.2 e) (subst (λ k. Ends (drop k bytes)) b.2 f) in
    (a.3 ∙ ap (tokens_from 0) same ∙ sym b.3, a.2 ∙ ap total same ∙ sym b.2)

at_end : (bytes : List ℕ) → Ends (drop (length bytes) bytes)
at_end bytes = subst Ends (sym (drop_of_length-le bytes (omega arith))) nothing_ends

at_fault : (bytes : List ℕ) (fault : Fault) (at : ℕ) → Fails (drop at bytes) fault → Ends (drop at bytes)
at_fault bytes fault at f p s = stands_or_fails (drop at bytes) p fault s f

pub one_reading : (bytes : List ℕ) (ts us : List Token) → Reads bytes ts → Reads bytes us → ts ≡ us
one_reading bytes ts us a b = (one_end bytes ts us (length bytes) (length bytes) a b (at_end bytes) (at_end bytes)).0

fails_nowhere : (fault : Fault) → Fails [] fault → ⊥
fails_nowhere faults.Byte f = omega (arith, f.some)
fails_nowhere faults.Comment f = clash false refl f.opened
fails_nowhere faults.Number f = nothing_spelled Number (subst (λ l. Spells Number l) (take-nil f.0) f.1.spelled)

pub no_fault : (bytes : List ℕ) (ts us : List Token) (fault : Fault) (at : ℕ) → Reads bytes ts → FailsAt bytes fault at us → ⊥
no_fault bytes ts us fault at a b =
    let places = (one_end bytes ts us (length bytes) at a b.0 (at_end bytes) (at_fault bytes fault at b.1)).1 in
    fails_nowhere fault (subst (λ l. Fails l fault) (drop_of_length-le bytes (omega (arith, places))) b.1)

pub one_first_fault : (bytes : List ℕ) (ts us : List Token) (f g : Fault) (m n : ℕ) → FailsAt bytes f m ts → FailsAt bytes g n us → (f ≡ g) × (m ≡ n) × (ts ≡ us)
one_first_fault bytes ts us f g m n a b =
    let same = one_end bytes ts us m n a.0 b.0 (at_fault bytes f m a.1) (at_fault bytes g n b.1) in
    (one_fault (drop n bytes) f g (subst (λ k. Fails (drop k bytes) f) same.1 a.1) b.1, same.1, same.0)

-- so none of each kind
pub no_wrong_byte : (bytes : List ℕ) (ts us : List Token) (at : ℕ) → Reads bytes ts → HasWrongByte bytes at us → ⊥
no_wrong_byte bytes ts us at r f = no_fault bytes ts us faults.Byte at r f

pub no_open_comment : (bytes : List ℕ) (ts us : List Token) (at : ℕ) → Reads bytes ts → HasOpenComment bytes at us → ⊥
no_open_comment bytes ts us at r f = no_fault bytes ts us faults.Comment at r f

pub no_large_number : (bytes : List ℕ) (ts us : List Token) (at : ℕ) → Reads bytes ts → HasLargeNumber bytes at us → ⊥
no_large_number bytes ts us at r f = no_fault bytes ts us faults.Number at r f
