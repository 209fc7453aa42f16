-- Arguments, others in their places, and the list that isn't made while nothing changes.
use Rattle.std.proofs.Common.{ℕ, ◌≡◌, ◌≢◌, List, [], ◌∷◌, ◌++◌, length, get_or, take, drop, ◌-◌, length-drop, refl, ap, sym, ◌∙◌, arith}
use Rattle.std.proofs.lemmas.List.{take_all}
use Rattle.tg_model.specs.Tree as tree
use Rattle.tg_model.specs.Tree.{Tree, Trees, bound, free, literal, truth, con, call, put, choice, case, bind, op, trees, elements}
use Rattle.tg_term.specs.View.{elements-trees}
use Rattle.tg_norm.specs.Normal.{arguments, rebuilt}
use Rattle.tg_norm.specs.Walking.{or_else}

pub trees_elements : (ts : Trees) → trees (elements ts) ≡ ts
trees_elements tree.none = refl
trees_elements (tree.more t ts) = ap (tree.more t) (trees_elements ts)

pub rebuilt_same : (t : Tree) → rebuilt t (arguments t) ≡ t
rebuilt_same (bound k) = refl
rebuilt_same (free n) = refl
rebuilt_same (literal n) = refl
rebuilt_same (truth b) = refl
rebuilt_same (con c ts) = ap (con c) (trees_elements ts)
rebuilt_same (call f ts) = ap (call f) (trees_elements ts)
rebuilt_same (put ts) = ap put (trees_elements ts)
rebuilt_same (choice tree.none) = refl
rebuilt_same (choice (tree.more t ts)) = refl
rebuilt_same (case d t arms) = refl
rebuilt_same (bind t body) = refl
rebuilt_same (op o ts) = ap (op o) (trees_elements ts)

pub ruleset listed = (elements-trees)

pub or_none : (us ts : List Tree) → us ≡ [] → or_else us ts ≡ ts
or_none [] ts e = refl
or_none (u ∷ us) ts e = absurd (cc e)

pub or_some : (us ts : List Tree) → us ≢ [] → or_else us ts ≡ us
or_some [] ts h = absurd (h refl)
or_some (u ∷ us) ts h = refl

not_ended : (xs : List Tree) (x : Tree) → xs ++ x ∷ [] ≢ []
not_ended [] x h = absurd (cc h)
not_ended (y ∷ ys) x h = absurd (cc h)

or_added : (us vs ts : List Tree) (u : Tree) → vs ≡ us ++ u ∷ [] → or_else vs ts ≡ us ++ u ∷ []
or_added us vs ts u e = or_some vs ts (λ n. not_ended us u (sym e ∙ n)) ∙ e

-- what add_form makes of the forms so far
pub still_none : (us before : List Tree) (t : Tree) → us ≡ [] → or_else us (before ++ t ∷ []) ≡ or_else us before ++ t ∷ []
still_none us before t e = or_none us (before ++ t ∷ []) e ∙ ap (λ (l : List Tree). l ++ t ∷ []) (sym (or_none us before e))

pub one_added : (us vs before ts : List Tree) (u : Tree) → us ≢ [] → vs ≡ us ++ u ∷ [] → or_else vs ts ≡ or_else us before ++ u ∷ []
one_added us vs before ts u h e = or_added us vs ts u e ∙ ap (λ (l : List Tree). l ++ u ∷ []) (sym (or_some us before h))

pub begun : (us ws vs before ts : List Tree) (u : Tree) → us ≡ [] → ws ≡ us ++ before → vs ≡ ws ++ u ∷ [] → or_else vs ts ≡ or_else us before ++ u ∷ []
begun us ws vs before ts u none shared e =
    or_added ws vs ts u e ∙ ap (λ (l : List Tree). l ++ u ∷ []) (shared ∙ ap (λ (l : List Tree). l ++ before) none ∙ sym (or_none us before none))

pub ruleset adding = (still_none, one_added, begun)

choice_with : (ts us : List Tree) → length us ≡ length (arguments (choice (trees ts))) → choice (trees (us ++ drop (length us) ts)) ≡ rebuilt (choice (trees ts)) us
choice_with [] [] e = refl
choice_with [] (u ∷ us) e = absurd (omega (arith, e))
choice_with (t ∷ ts) [] e = absurd (omega (arith, e))
choice_with (t ∷ ts) (u ∷ []) e = refl
choice_with (t ∷ ts) (u ∷ v ∷ us) e = absurd (omega (arith, e))

pub choice_rebuilt : (ts us ws : List Tree) (n : ℕ) → n ≡ length us → ws ≡ us ++ take (length ts - n) (drop n ts)
    → length us ≡ length (arguments (choice (trees ts))) → choice (trees ws) ≡ rebuilt (choice (trees ts)) us
choice_rebuilt ts us ws n i e h =
    let all : take (length ts - n) (drop n ts) ≡ drop n ts = take_all _ _ (omega (arith, length-drop n ts)) in
    ap (λ l. choice (trees l)) (e ∙ ap (λ l. us ++ l) all ∙ ap (λ k. us ++ drop k ts) i) ∙ choice_with ts us h

pub case_rebuilt : (d : ℕ) (t x : Tree) (arms : tree.Arms) (us : List Tree) → length us ≡ 1 → rebuilt (case d t arms) us ≡ case d (get_or us 0 x) arms
case_rebuilt d t x arms [] e = absurd (omega (arith, e))
case_rebuilt d t x arms (u ∷ us) e = refl

pub bind_rebuilt : (t x body : Tree) (us : List Tree) → length us ≡ 1 → rebuilt (bind t body) us ≡ bind (get_or us 0 x) body
bind_rebuilt t x body [] e = absurd (omega (arith, e))
bind_rebuilt t x body (u ∷ us) e = refl

pub ruleset replacing = (elements-trees, rebuilt_same, or_none, or_some, choice_rebuilt, case_rebuilt, bind_rebuilt)
