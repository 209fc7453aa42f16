-- Terms and branches, from a place on.
use Rattle.std.proofs.Common.{ℕ, ◌≡◌, ◌+◌, List, ◌∷◌, drop, Some, ap, sym, ◌∙◌, add-one}
use Rattle.std.specs.Prelude.{slice_get}
use Rattle.tg_model.specs.Tree.{Tree, trees, more, arm}
use Rattle.tg_term.specs.View.{arms}
use Rattle.tg_term.specs.declared.terms.Branch.{Branch}
use Rattle.tg_term.proofs.PartLaws.{drop_at}
use Rattle.tg_term.proofs.ListHeights.{height_at, branch_height_at}

pub terms_from : (ts : List Tree) (i : ℕ) (t : Tree) → slice_get ts i ≡ Some t → trees (drop i ts) ≡ more t (trees (drop (i + 1) ts))
terms_from ts i t e = ap trees (drop_at ts i t e ∙ ap (λ n. t ∷ drop n ts) (sym (add-one i)))

pub branches_from : (bs : List Branch) (i : ℕ) (b : Branch) → slice_get bs i ≡ Some b → arms (drop i bs) ≡ arm b.vars b.body (arms (drop (i + 1) bs))
branches_from bs i b e = ap arms (drop_at bs i b e ∙ ap (λ n. b ∷ drop n bs) (sym (add-one i)))

pub ruleset using = (height_at, branch_height_at, terms_from, branches_from)
