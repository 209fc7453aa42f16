-- Branches, calls, and the arguments of a call beside one of them.
use Rattle.std.proofs.Common.{ℕ, zero, suc, ◌≡◌, ◌<◌, ◌-◌, ◌++◌, List, [], ◌∷◌, map, length, take, drop, Some, None, refl, ap, sym, ◌∙◌, arith, append-nil}
use Rattle.std.specs.Prelude.{slice_get, option_map}
use Rattle.std.specs.Option.{option_map_or}
use Rattle.std.proofs.lemmas.Option.{slice_get-map}
use Rattle.std.proofs.lemmas.List.{take_all, drop_all, length-drop}
use Rattle.tg_model.specs.Tree.{Tree}
use Rattle.tg_model.specs.Theory.{numbered, datatype_of}
use Rattle.tg_model.specs.Denotation.{others}
use Rattle.tg_types.specs.Types.{ty, ty-Nat, ty-Bool, ty-Param, ty-Meta, ty-App}
use Rattle.tg_types.specs.declared.types.Ty.{Ty}
use Rattle.tg_rows.specs.Parts.{branch_at}
use Rattle.tg_term.specs.View.{arms, elements-trees}
use Rattle.tg_term.specs.declared.terms.Branch.{Branch}

pub branch_there : (bs : List Branch) (k : ℕ) (b : Branch) → Some b ≡ slice_get bs k → Some (b.vars, b.body) ≡ branch_at (arms bs) k
branch_there [] k b e = cc e
branch_there (x ∷ bs) zero b e = let p : b ≡ x = cc e in ap (λ (y : Branch). Some (y.vars, y.body)) p
branch_there (x ∷ bs) (suc k) b e = branch_there bs k b e

pub branch_absent : (bs : List Branch) (k : ℕ) → None ≡ slice_get bs k → None ≡ branch_at (arms bs) k
branch_absent [] k e = refl
branch_absent (x ∷ bs) zero e = cc e
branch_absent (x ∷ bs) (suc k) e = branch_absent bs k e

pub ruleset branches = (branch_there, branch_absent)

pub ruleset calls = (elements-trees)

pub typed_there : (ts : List Ty) (n d : ℕ) (t : Ty) → Some t ≡ numbered ts n → d ≡ datatype_of (ty t) → d ≡ option_map_or datatype_of (numbered (map ty ts) n) 0
typed_there ts zero d t e is = cc e
typed_there ts (suc k) d t e is = is ∙ ap (λ o. option_map_or datatype_of (option_map ty o) 0) e ∙ ap (λ o. option_map_or datatype_of o 0) (sym (slice_get-map ty ts k))

pub typed_absent : (ts : List Ty) (n : ℕ) → None ≡ numbered ts n → 0 ≡ option_map_or datatype_of (numbered (map ty ts) n) 0
typed_absent ts zero e = refl
typed_absent ts (suc k) e = ap (λ o. option_map_or datatype_of (option_map ty o) 0) e ∙ ap (λ o. option_map_or datatype_of o 0) (sym (slice_get-map ty ts k))

pub ruleset typed = (typed_there, typed_absent)

pub ruleset types = (ty-Nat, ty-Bool, ty-Param, ty-Meta, ty-App)

pub others_none : (xs : List Tree) (n : ℕ) → n ≡ 0 → xs ≡ others xs n
others_none xs n e = ap (others xs) (sym e)

pub others_past : (xs : List Tree) (n : ℕ) → length xs < n → xs ≡ others xs n
others_past xs n h =
    sym ((λ i. take_all (n - 1) xs (omega (arith, h)) i ++ drop_all n xs (omega (arith, h)) i) ∙ append-nil xs)

pub others_there : (xs : List Tree) (n : ℕ) → take (n - 1) xs ++ take (length xs - n) (drop n xs) ≡ others xs n
others_there xs n =
    let e = length-drop n xs in
    ap (λ l. take (n - 1) xs ++ l) (take_all (length xs - n) (drop n xs) (omega (arith, e)))

pub ruleset beside = (others_none, others_past, others_there)
