-- Constraints at values: what a test of one tells, and of all.
use Rattle.std.proofs.Common.{ℕ, ◌≡◌, ◌+◌, ◌&&◌, Some, refl, ap, sym, ◌∙◌, [], ◌∷◌, List, drop, add-one}
use Rattle.std.specs.Prelude.{slice_get}
use Rattle.tg_model.specs.Theory.{Theory}
use Rattle.tg_model.specs.Tree.{Tree}
use Rattle.tg_model.specs.Uses.{uses, AgreeWhere}
use Rattle.tg_model.specs.Value.{Value, wrong}
use Rattle.tg_eval.specs.Answering.{is_true, value_part}
use Rattle.tg_eval.specs.Limited.{limited_value}
use Rattle.tg_accept.specs.Declared.{Declared, theory}
use Rattle.tg_eval.proofs.Unnamed.{limited_unnamed}
use Rattle.tg_eval.proofs.Reading.{limited_reads_used}
use Rattle.tg_term.proofs.PartLaws.{drop_at}
use Rattle.tg_solver.specs.Candidates.{holds, satisfies}

pub held_at : (th : Theory) (vars : List Value) (t : Tree) → is_true (value_part (limited_value th wrong vars t)) ≡ holds th vars t
unfolding holds
held_at th vars t = refl

pub ruleset holding = (held_at)

pub holds_reads : (th : Theory) (vars vars' : List Value) (t : Tree) → AgreeWhere (λ m. uses m t) vars vars' → holds th vars t ≡ holds th vars' t
unfolding holds
holds_reads th vars vars' t agree = ap (λ o. is_true (value_part o)) (limited_reads_used th wrong 500 10000 vars vars' [] t agree)

pub all_from : (th : Theory) (vars : List Value) (ts : List Tree) (i : ℕ) (t : Tree) → slice_get ts i ≡ Some t
    → satisfies th (drop i ts) vars ≡ (holds th vars t && satisfies th (drop (i + 1) ts) vars)
all_from th vars ts i t e = ap (λ l. satisfies th l vars) (drop_at ts i t e ∙ ap (λ n. t ∷ drop n ts) (sym (add-one i)))

pub ruleset all_hold = (all_from)

-- the name of a theory doesn't matter
pub unnamed : (name : List ℕ) (D : Declared) → holds (theory [] D) ≡ holds (theory name D)
unfolding holds
unnamed name D = λ i vars t. is_true (value_part (limited_unnamed [] name D wrong 500 i 10000 vars [] t))
