-- What the front of a list is that a call gave or took.
use Rattle.std.proofs.Common.{◌≡◌, ℕ, ◌+◌, ◌-◌, ◌<◌, ◌≤◌, min, List, [], ◌++◌, length, take, drop, sym, ◌∙◌, ap, subst, arith, length-drop, take-append-drop}
use Rattle.std.specs.declared.option.Option.{Option}
use Rattle.std.specs.Io.KnownBytes.{Appends}
use Rattle.std.proofs.KnownBytes.{Appends-trans}
use Rattle.std.proofs.lemmas.List.{take_rest, drop-drop, drop_all}
use Rattle.std.proofs.Math.Seq.{take-add}

-- the first bytes that are left were given, and none only where none is left
pub record GivesFront (rest given : List ℕ) (count : ℕ) (after : List ℕ) : Type 0 where
  pub front : rest ≡ take count given ++ after
  pub end : count ≡ 0 → 0 < length given → after ≡ []

-- the bytes from `at` on are a front of `count` bytes and those from `at + count` on
pub drop-split : (at count : ℕ) (bytes : List ℕ) → drop at bytes ≡ take count (drop at bytes) ++ drop (at + count) bytes
drop-split at count bytes =
    sym (take-append-drop count (drop at bytes)) ∙ ap (λ l. take count (drop at bytes) ++ l) (drop-drop count at bytes)

pub GivesFront-from_copy : (bytes given rest : List ℕ) (at count piece room : ℕ) → drop at bytes ≡ rest → 1 ≤ piece → length given ≡ room
    → count ≡ min piece (min room (length (take (length bytes - at) (drop at bytes))))
    → take count given ≡ take count (take (length bytes - at) (drop at bytes))
    → GivesFront rest given count (drop (at + count) bytes)
GivesFront-from_copy bytes given rest at count piece room is some len counted copied =
    let whole = take_rest bytes at in
    let same : take count given ≡ take count (drop at bytes) = copied ∙ ap (take count) whole in
    let many : count ≡ min piece (min room (length (drop at bytes))) =
    subst (λ l. count ≡ min piece (min room (length l))) whole counted in
    record {
      front = sym is ∙ drop-split at count bytes ∙ ap (λ l. l ++ drop (at + count) bytes) (sym same);
      end = λ none filled. drop_all (at + count) bytes (omega (arith, length-drop {A = ℕ}, many, none, filled, some, len));
    }

-- after a front of the bytes was appended, a front of the rest was
pub Appends-next : (a b c : Option (List ℕ)) (bytes : List ℕ) (written count : ℕ) → Appends a b (take written bytes)
    → Appends b c (take count (take (length bytes - written) (drop written bytes))) → Appends a c (take (written + count) bytes)
Appends-next a b c bytes written count front next =
    subst (Appends a c) (sym (take-add written count bytes))
    (Appends-trans a b c _ _ front (subst (λ l. Appends b c (take count l)) (take_rest bytes written) next))
