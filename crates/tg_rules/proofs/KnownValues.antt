-- What is known of the example by hand, said of the definitions, so that a slip in one of them doesn't check.
use Rattle.std.proofs.Common.{◌≡◌, ℕ, ◌-◌, false, Some, None, List, [], ◌∷◌, refl, sym, subst, inl, inr, if◌then◌else◌}
use Rattle.tg_rules.specs.Rule.{nt, seq, alt, opt, ◌▸◌}
use Rattle.tg_rules.specs.Texts.{Reads}
use Rattle.tg_rules.specs.Fault.{IsFault}
use Rattle.tg_rules.specs.Foresight.{fits, below, agrees, spelled}
use Rattle.tg_rules.specs.Reader.{Read, ok, mapped, followed, starts, read_in, read, passes}
use Rattle.tg_rules.specs.Repetition.{listed, with_front, fold_from}
use Rattle.tg_rules.specs.Differences.{Token, number, minus, open_bracket, close_bracket, kind, Tree, leaf, less, difference, further, atom, Meaning, rule, page, foresight, token, sample}
use Rattle.tg_rules.specs.KnownTexts.{one, two, three, IsText, GroupsToTheLeft, IsWrongAtSecondMinus, IsWrongAtEnd, IsWrongBehindText}
use Rattle.tg_rules.specs.Passing.{all_pass}
use Rattle.tg_rules.proofs.Places.{not_both}
use Rattle.tg_rules.proofs.Whole.{read_is, whole_read, one_reading, fault_at, fault_before}

abbrev reads : List Token → Read Token Tree
reads ts = read kind foresight rule difference ts

-- ---- texts

-- 1 - 2 - 3
to_the_left : reads (one ∷ minus ∷ two ∷ minus ∷ three ∷ []) ≡ ok (less (less (leaf 1) (leaf 2)) (leaf 3)) []
unfolding read
to_the_left = refl

-- 1 - (2 - 3)
in_brackets : reads (one ∷ minus ∷ open_bracket ∷ two ∷ minus ∷ three ∷ close_bracket ∷ []) ≡ ok (less (leaf 1) (less (leaf 2) (leaf 3))) []
unfolding read
in_brackets = refl

-- ((0)): both kinds of a class are taken, and brackets don't show in the value
brackets_alone : reads (open_bracket ∷ open_bracket ∷ number 0 ∷ close_bracket ∷ close_bracket ∷ []) ≡ ok (leaf 0) []
unfolding read
brackets_alone = refl

-- of the relation, without a reader: `- 2` behind an operand
minus_two : Reads kind rule further (leaf 2 ∷ []) (minus ∷ two ∷ [])
minus_two =
    (2, (Some (leaf 2, []), refl, inr ((leaf 2, []), refl, (minus ∷ two ∷ [], [], ((minus, leaf 2), refl, (minus ∷ [], two ∷ [], (refl, refl), inl (two, refl, (refl, refl)), refl)), (None, refl, inl (refl, refl)), refl))))

-- what follows an operand is a repetition, so a loop reads it
further_repeats : (ts : List Token) → read kind foresight rule further ts
    ≡ mapped listed (if starts kind (2 ∷ []) ts then mapped Some (followed (read_in kind foresight (read kind foresight rule) (2 ▸ nt atom) ts) (read kind foresight rule further)) else ok None ts)
further_repeats ts = read_is kind rule foresight token sample all_pass further ts

-- a list that was read in part, and a fold that has come to 5
front_kept : with_front {A = ℕ} (1 ∷ 2 ∷ []) (ok (3 ∷ []) (minus ∷ [])) ≡ ok (1 ∷ 2 ∷ 3 ∷ []) (minus ∷ [])
front_kept = refl

fold_kept : fold_from {A = ℕ} (λ (a b : ℕ). a - b) 5 (ok (1 ∷ 2 ∷ []) (minus ∷ [])) ≡ ok 2 (minus ∷ [])
fold_kept = refl

-- ---- where no text goes on

-- 1 - - 2
pub second_minus : IsWrongAtSecondMinus
unfolding read
second_minus = fault_at kind rule foresight token sample all_pass difference (one ∷ minus ∷ []) (minus ∷ two ∷ []) refl

-- 1 -
ends_early : IsFault IsText (one ∷ minus ∷ []) (one ∷ minus ∷ []) []
unfolding read
ends_early = fault_at kind rule foresight token sample all_pass difference (one ∷ minus ∷ []) [] refl

-- nothing at all
empty_text : IsFault IsText [] [] []
unfolding read
empty_text = fault_at kind rule foresight token sample all_pass difference [] [] refl

-- 1 2: 1 is a text, and no text goes on with 2
pub two_behind : IsWrongBehindText
unfolding read
two_behind = fault_before kind rule foresight token sample all_pass difference (one ∷ []) (leaf 1) two [] refl

-- (1 - 2: the bracket isn't closed
pub not_closed : IsWrongAtEnd
unfolding read
not_closed = fault_at kind rule foresight token sample all_pass difference (open_bracket ∷ one ∷ minus ∷ two ∷ []) [] refl

-- so `1 -` is no text
no_text : (v : Tree) → IsText v (one ∷ minus ∷ []) → ⊥
no_text v r = not_both IsText v (one ∷ minus ∷ []) (one ∷ minus ∷ []) [] r ends_early

-- and 1 - 2 - 3 has no other grouping
pub to_the_left_alone : GroupsToTheLeft
to_the_left_alone v =
    let left = whole_read kind rule foresight token sample all_pass difference (less (less (leaf 1) (leaf 2)) (leaf 3)) (one ∷ minus ∷ two ∷ minus ∷ three ∷ []) to_the_left in (
      λ r. one_reading kind rule foresight token sample all_pass difference v (less (less (leaf 1) (leaf 2)) (leaf 3)) (one ∷ minus ∷ two ∷ minus ∷ three ∷ []) r left,
      λ e. subst (λ z. IsText z (one ∷ minus ∷ two ∷ minus ∷ three ∷ [])) (sym e) left,
    )

-- ---- tables that don't pass

-- a difference that begins with a difference
page_recurs : below foresight 1 (page difference) ≡ false
page_recurs = refl

-- two sides that begin alike
sides_meet : fits {T = Token} {Value = Meaning} foresight (alt (nt difference) (nt atom)) ≡ false
sides_meet = refl

-- `-` goes on with the first part, and the second part begins with it
parts_meet : fits {T = Token} {Value = Meaning} foresight (seq (nt difference) (nt further)) ≡ false
parts_meet = refl

-- nothing can be left out twice
empty_choice : fits {T = Token} {Value = Meaning} foresight (opt (nt further)) ≡ false
empty_choice = refl

-- a kind was forgotten
first_lacks : agrees (record { first = λ n. 0 ∷ 3 ∷ []; empty = foresight.empty; more = foresight.more; rank = foresight.rank }) atom (rule atom) ≡ false
first_lacks = refl

more_lacks : agrees (record { first = foresight.first; empty = foresight.empty; more = λ n. []; rank = foresight.rank }) further (rule further) ≡ false
more_lacks = refl

empty_lacks : agrees (record { first = foresight.first; empty = λ n. false; more = foresight.more; rank = foresight.rank }) further (rule further) ≡ false
empty_lacks = refl

-- `1 -` is no sample
sample_fails : passes kind rule foresight token (λ n. one ∷ minus ∷ []) difference ≡ false
sample_fails = refl

-- a token of another kind
token_fails : spelled kind (λ k. minus) (rule atom) ≡ false
token_fails = refl
