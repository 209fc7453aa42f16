-- The tokens of two texts of which the first ends in LF, part by part.
use Rattle.std.proofs.Common.{ℕ, zero, suc, ◌≡◌, ◌+◌, ◌-◌, ◌^◌, ◌<◌, ◌≤◌, ◌⊎◌, Bool, true, false, List, [], ◌∷◌, ◌++◌, length, map, take, drop, Some, None, inl, inr, refl, sym, ap, subst, ◌∙◌, arith, append_assoc, length-append, length-drop}
use Rattle.std.specs.Prelude.{if◌then◌else◌}
use Rattle.tg_lex.specs.declared.token.Token.{Token}
use Rattle.tg_lex.specs.declared.part.Part.{Part}
use Rattle.tg_lex.specs.declared.part.Part.TheVariants as parts
use Rattle.tg_lex.specs.Grammar.{Spells, value, opens, closes, after_open, after_comment, Stands, size_of, total, BeginsWith, token, tokens_from, Reads}
use Rattle.tg_lex.specs.Laws.{moved, ReadingsFollow}
use Rattle.tg_lex.proofs.Joined.{drop_on, take_on, ways, each_way, no_line, before_line, tokens_moved}
use Rattle.tg_lex.proofs.Texts.{nothing_spelled}

abbrev line : List ℕ → List ℕ
line a = a ++ 10 ∷ []

-- ---- comments go on as they did

opens_in : (a r : List ℕ) → opens (line a ++ r) ≡ opens (line a)
opens_in [] [] = refl
opens_in [] (c ∷ r) = refl
opens_in (b ∷ []) r = refl
opens_in (b ∷ c ∷ a) r = refl

closes_in : (a r : List ℕ) → closes (line a ++ r) ≡ closes (line a)
closes_in [] [] = refl
closes_in [] (c ∷ r) = refl
closes_in (b ∷ []) r = refl
closes_in (b ∷ c ∷ a) r = refl

open_in : (second : Bool) (depth : ℕ) (a r rest : List ℕ) → after_open second depth (line a) ≡ Some rest
    → after_open second depth (line a ++ r) ≡ Some (rest ++ r)
open_in true zero [] r rest e = let same : [] ≡ rest = cc in ap (λ l. Some (l ++ r)) same
open_in true (suc depth) [] r rest e = absurd cc
open_in false depth [] r rest e = absurd cc
open_in true zero (b ∷ a) r rest e = let same : line a ≡ rest = cc in ap (λ l. Some (l ++ r)) same
open_in true (suc depth) (b ∷ a) r rest e = open_in false (suc depth) a r rest e
open_in false depth (b ∷ a) r rest e =
    let more = line a ++ r in
    (λ i. ways (opens_in (b ∷ a) r i) (closes_in (b ∷ a) r i) (after_open true (suc depth) more) (after_open true (depth - 1) more)
    (after_open false depth more))
    ∙ each_way (opens (line (b ∷ a))) (closes (line (b ∷ a))) (after_open true (suc depth) (line a)) (after_open true (depth - 1) (line a))
    (after_open false depth (line a)) (after_open true (suc depth) more) (after_open true (depth - 1) more)
    (after_open false depth more) rest
    (rest ++ r) (open_in true (suc depth) a r rest) (open_in true (depth - 1) a r rest) (open_in false depth a r rest) e

comment_in : (a r rest : List ℕ) → after_comment (line a) ≡ Some rest → after_comment (line a ++ r) ≡ Some (rest ++ r)
comment_in a r rest e =
    ap (λ o. if o then after_open false 0 (line a ++ r) else None) (opens_in a r) ∙ by (opens (line a)) e
  where
    by : (o : Bool) → (if o then after_open false 0 (line a) else None) ≡ Some rest
        → (if o then after_open false 0 (line a ++ r) else None) ≡ Some (rest ++ r)
    by true f = open_in false 0 a r rest f
    by false f = absurd cc

-- ---- parts stand where they stood

stands_in : (p : Part) (a r : List ℕ) → size_of p ≤ length (line a) → Stands (line a) p → Stands (line a ++ r) p
stands_in (parts.Skip size) [] r le (inl h) = inl h
stands_in (parts.Skip size) (b ∷ a) r le (inl h) = inl h
stands_in (parts.Skip size) a r le (inr h) = inr (
  omega (arith, le, length-append (line a) r),
  comment_in a r (drop size (line a)) h.1 ∙ ap Some (sym (drop_on size (line a) r le)),
)
stands_in (parts.Token kind size) a r le t =
    let front : take size (line a ++ r) ≡ take size (line a) = take_on size (line a) r le in
    record {
      no_comment = opens_in a r ∙ t.no_comment;
      is_longest = record {
        within = omega (arith, le, length-append (line a) r);
        spelled = subst (λ l. Spells kind l) (sym front) t.is_longest.spelled;
        longest = λ other n low s.
            let text = subst (λ l. Spells other (take n l)) (append_assoc a (10 ∷ []) r) s in
            let before = before_line a r n (no_line other (take n (a ++ 10 ∷ r)) text) in
            let within : n ≤ length (line a) = omega (arith, before, length-append a (10 ∷ [])) in
            t.is_longest.longest other n within (subst (λ l. Spells other l) (take_on n (line a) r within) s);
      };
      fits = λ e. subst (λ l. value l < 2 ^ 64) (sym front) (t.fits e);
    }

none_stands : (p : Part) → Stands [] p → ⊥
none_stands (parts.Skip size) (inl h) = cc h.0
none_stands (parts.Skip size) (inr h) = cc h.1
none_stands (parts.Token kind size) t =
    let size_zero : size ≡ 0 = omega (arith, t.is_longest.within) in
    nothing_spelled kind (subst (λ n. Spells kind (take n [])) size_zero t.is_longest.spelled)

-- all but the last byte, or all
inside_or_all : (m n : ℕ) → m ≤ n + 1 → (m ≤ n) ⊎ (m ≡ n + 1)
inside_or_all zero n h = inl (omega arith)
inside_or_all (suc m) zero h = inr (omega (arith, h))
inside_or_all (suc m) (suc n) h = elim (inside_or_all m n (omega (arith, h))) [
  | inl l ↦ inl (omega (arith, l))
  | inr e ↦ inr (omega (arith, e))
]

drop_whole : (a : List ℕ) (n : ℕ) → n ≡ length a + 1 → drop n (line a) ≡ []
drop_whole [] zero e = absurd (omega (arith, e))
drop_whole [] (suc zero) e = refl
drop_whole [] (suc (suc n)) e = absurd (omega (arith, e))
drop_whole (b ∷ a) zero e = absurd (omega (arith, e))
drop_whole (b ∷ a) (suc n) e = drop_whole a n (omega (arith, e))

at_end : (r : List ℕ) (qs : List Part) → BeginsWith r qs → (xs : List ℕ) (ps : List Part) → xs ≡ [] → BeginsWith xs ps
    → BeginsWith (xs ++ r) (ps ++ qs)
at_end r qs k [] [] f g = k
at_end r qs k [] (p ∷ ps) f g = absurd (none_stands p g.0)
at_end r qs k (x ∷ xs) ps f g = absurd cc

begin_in : (ps : List Part) (a r : List ℕ) (qs : List Part) → total ps ≡ length a + 1 → BeginsWith (line a) ps → BeginsWith r qs
    → BeginsWith (line a ++ r) (ps ++ qs)
begin_in [] a r qs e h k = absurd (omega (arith, e))
begin_in (p ∷ ps) a r qs e h k =
    let le : size_of p ≤ length (line a) = omega (arith, e, length-append a (10 ∷ [])) in
    let rest = drop (size_of p) (line a) in
    let more : BeginsWith (rest ++ r) (ps ++ qs) = elim (inside_or_all (size_of p) (length a) (omega (arith, e))) [
      | inl l ↦
          let same : rest ≡ line (drop (size_of p) a) = drop_on (size_of p) a (10 ∷ []) l in
          subst (λ (z : List ℕ). BeginsWith (z ++ r) (ps ++ qs)) (sym same)
          (begin_in ps (drop (size_of p) a) r qs (omega (arith, e, l, length-drop (size_of p) a))
          (subst (λ (z : List ℕ). BeginsWith z ps) same h.1) k)
      | inr f ↦ at_end r qs k rest ps (drop_whole a (size_of p) f) h.1
    ] in
    (stands_in p a r le h.0, subst (λ (z : List ℕ). BeginsWith z (ps ++ qs)) (sym (drop_on (size_of p) (line a) r le)) more)

-- ---- their tokens

total_in : (ps qs : List Part) → total (ps ++ qs) ≡ total ps + total qs
total_in [] qs = omega arith
total_in (p ∷ ps) qs = omega (arith, total_in ps qs)

tokens_in : (at end : ℕ) (ps qs : List Part) → at + total ps ≡ end → tokens_from at (ps ++ qs) ≡ tokens_from at ps ++ tokens_from end qs
tokens_in at end [] qs e = let same : at ≡ end = omega arith in ap (λ n. tokens_from n qs) same
tokens_in at end (parts.Skip size ∷ ps) qs e = tokens_in (at + size) end ps qs (omega (arith, e))
tokens_in at end (parts.Token kind size ∷ ps) qs e =
    ap (λ ts. token kind at (at + size) ∷ ts) (tokens_in (at + size) end ps qs (omega (arith, e)))

from_zero : (n : ℕ) → 0 + n ≡ n
from_zero n = omega arith

follow : (a b : List ℕ) (ts us : List Token) → Reads (line a) ts → Reads b us → Reads (line a ++ b) (ts ++ map (moved (length (line a))) us)
follow a b ts us (ps, h, e, f) (qs, k, d, g) =
    let end = length (line a) in (
      ps ++ qs,
      begin_in ps a b qs (omega (arith, e, length-append a (10 ∷ []))) h k,
      omega (arith, e, d, total_in ps qs, length-append (line a) b),
      (λ i. f i ++ map (moved end) (g i))
          ∙ ap (λ l. tokens_from 0 ps ++ l) (sym (ap (λ m. tokens_from m qs) (sym (from_zero end)) ∙ tokens_moved 0 end qs))
          ∙ sym (tokens_in 0 end ps qs (omega (arith, e))),
    )

pub readings_follow : ReadingsFollow
readings_follow a b ts us (front, is) r q =
    subst (λ (z : List ℕ). Reads (z ++ b) (ts ++ map (moved (length z)) us)) (sym is)
    (follow front b ts us (subst (λ (z : List ℕ). Reads z ts) is r) q)
