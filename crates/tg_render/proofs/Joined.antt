-- The grammar sees in two texts with LF between them what it sees in the one and then in the other.
use Rattle.std.proofs.Common.{◌≡◌, ℕ, suc, ◌+◌, ◌-◌, ◌<◌, ◌≤◌, List, [], ◌∷◌, ◌++◌, length, map, take, drop, refl, ap, ◌∙◌, arith, length-drop, All}
use Rattle.std.specs.Prelude.{slice_range}
use Rattle.std.proofs.lemmas.List.{map-append}
use Rattle.std.proofs.lemmas.List.Elements.{All-head, All-tail}
use Rattle.tg_lex.specs.declared.token.Token.{Token}
use Rattle.tg_lex.specs.Grammar.{IsTokenOf}
use Rattle.tg_lex.specs.Laws.{moved}
use Rattle.tg_lex.proofs.Following.{readings_follow}
use Rattle.tg_lex.proofs.Joined.{drop_on, take_on, readings_join}
use Rattle.tg_lex.proofs.Runs.{texts}
use Rattle.tg_grammar.specs.Seen.{Seen, kind_of, value_of, seen_token, seen}
use Rattle.tg_grammar.specs.Words.{version_one}
use Rattle.tg_render.specs.Laws.{TextsAreJoined, TextsFollow}

-- ---- slices

slice_on : (a x : List ℕ) (start end : ℕ) → start < end → end ≤ length a → slice_range (a ++ x) start end ≡ slice_range a start end
slice_on a x start end some within =
    ap (take (end - start)) (drop_on start a x (omega (arith, some, within)))
    ∙ take_on (end - start) (drop start a) x (omega (arith, some, within, length-drop start a))

behind : (a b : List ℕ) (n : ℕ) → drop (n + (length a + 1)) (a ++ 10 ∷ b) ≡ drop n b
behind [] b n = let z : n + (0 + 1) ≡ suc n = omega arith in ap (λ m. drop m (10 ∷ b)) z
behind (c ∷ a) b n =
    let z : n + (suc (length a) + 1) ≡ suc (n + (length a + 1)) = omega arith in ap (λ m. drop m (c ∷ (a ++ 10 ∷ b))) z ∙ behind a b n

slice_moved : (a b : List ℕ) (start end : ℕ)
    → slice_range (a ++ 10 ∷ b) (start + (length a + 1)) (end + (length a + 1)) ≡ slice_range b start end
slice_moved a b start end =
    let n = length a + 1 in
    let same : end + n - (start + n) ≡ end - start = omega arith in
    ap (λ m. take m (drop (start + n) (a ++ 10 ∷ b))) same ∙ ap (take (end - start)) (behind a b start)

past : (a b : List ℕ) (n : ℕ) → drop (n + length a) (a ++ b) ≡ drop n b
past [] b n = let z : n + 0 ≡ n = omega arith in ap (λ m. drop m b) z
past (c ∷ a) b n =
    let z : n + suc (length a) ≡ suc (n + length a) = omega arith in ap (λ m. drop m (c ∷ (a ++ b))) z ∙ past a b n

slice_past : (a b : List ℕ) (start end : ℕ) → slice_range (a ++ b) (start + length a) (end + length a) ≡ slice_range b start end
slice_past a b start end =
    let n = length a in
    let same : end + n - (start + n) ≡ end - start = omega arith in
    ap (λ m. take m (drop (start + n) (a ++ b))) same ∙ ap (take (end - start)) (past a b start)

-- ---- tokens

abbrev seen_by : Token → List ℕ → Seen
seen_by t text = record { kind = kind_of version_one t.kind text; value = value_of t.kind text; text = text }

front : (a x : List ℕ) (ts : List Token) → All (IsTokenOf a) ts → seen (a ++ x) ts ≡ seen a ts
front a x [] h = refl
front a x (t ∷ ts) h =
    let is = All-head (IsTokenOf a) t ts h in
    let first = slice_on a x t.start t.end is.some is.within in
    λ i. seen_by t (first i) ∷ front a x ts (All-tail (IsTokenOf a) t ts h) i

rest : (a b : List ℕ) (us : List Token) → seen (a ++ 10 ∷ b) (map (moved (length a + 1)) us) ≡ seen b us
rest a b [] = refl
rest a b (t ∷ us) =
    let first = slice_moved a b t.start t.end in
    λ i. seen_by t (first i) ∷ rest a b us i

pub texts_joined : TextsAreJoined
texts_joined a b ts us (v, r, e) (w, q, f) = (
  v ++ map (moved (length a + 1)) w,
  readings_join a b v w r q,
  map-append (seen_token version_one (a ++ 10 ∷ b)) v (map (moved (length a + 1)) w)
      ∙ (λ i. (front a (10 ∷ b) v (texts a v (length a) r) ∙ e) i ++ (rest a b w ∙ f) i),
)

rest_past : (a b : List ℕ) (us : List Token) → seen (a ++ b) (map (moved (length a)) us) ≡ seen b us
rest_past a b [] = refl
rest_past a b (t ∷ us) =
    let first = slice_past a b t.start t.end in
    λ i. seen_by t (first i) ∷ rest_past a b us i

pub texts_follow : TextsFollow
texts_follow a b ts us ends (v, r, e) (w, q, f) = (
  v ++ map (moved (length a)) w,
  readings_follow a b v w ends r q,
  map-append (seen_token version_one (a ++ b)) v (map (moved (length a)) w)
      ∙ (λ i. (front a b v (texts a v (length a) r) ∙ e) i ++ (rest_past a b w ∙ f) i),
)
