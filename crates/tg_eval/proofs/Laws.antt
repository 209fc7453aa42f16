-- The two laws, at the top of a term.
use Rattle.std.proofs.Common.{ℕ, ◌≡◌, List, [], length, Some, sym, ◌∙◌, ap, subst}
use Rattle.tg_model.specs.Tree.{Tree, Trees}
use Rattle.tg_model.specs.Types.{Ty, tys}
use Rattle.tg_model.specs.Value.{Value}
use Rattle.tg_model.specs.Theory.{Theory, AreClosed}
use Rattle.tg_model.specs.Typing.{AreTyped}
use Rattle.tg_model.specs.Table.{Table, IsTable}
use Rattle.tg_model.specs.Denotation.{values_in, world, den}
use Rattle.tg_model.specs.TermTyping.{IsTyped}
use Rattle.tg_model.specs.Calls.{EachPut}
use Rattle.tg_model.specs.Accepted.{IsAccepted}
use Rattle.tg_model.proofs.Agreement.{no_put}
use Rattle.tg_model.proofs.Inhabited.{list_closed_instance}
use Rattle.tg_model.proofs.Recorded.{answers_are_recorded}
use Rattle.tg_model.proofs.TheorySoundness.{world_answers}
use Rattle.tg_eval.specs.Limited.{limited}
use Rattle.tg_eval.specs.Laws.{LimitedIsValue}
use Rattle.tg_eval.specs.Laws.{LimitedWithoutCalls}
use Rattle.tg_eval.proofs.LimitedAgrees.{limited_agrees}

limited_at_top : (th : Theory) (tb : Table) (accepted : IsAccepted th) (table : IsTable th tb) (answer : Value) (Allowed : List Value → Trees → Type 0)
    → ((env loc : List Value) (ts : Trees) → Allowed env ts → (world th tb).answers (values_in (world th tb) env loc ts) ≡ answer)
    → (vars : List Ty) (env : List Value) (t : Tree) (u : Ty) → AreClosed th (tys vars) → AreTyped th env vars → IsTyped th vars [] t u
    → EachPut (Allowed env) t → (levels left rest : ℕ) (v : Value) → limited th answer levels left env [] t ≡ Some (v, rest) → v ≡ den th tb env [] t
limited_at_top th tb accepted table answer Allowed gives vars env t u closed typed h good levels left rest v e =
    limited_agrees th tb accepted table answer Allowed gives levels [] vars [] env [] t u
    (subst (λ (ts : List Ty). AreTyped th env ts) (sym (list_closed_instance th [] vars closed)) typed) tt h good left (v, rest) e

pub limited_is_value : LimitedIsValue
limited_is_value th tb accepted table d answer lists vars env t u closed typed h good levels left rest v e =
    limited_at_top th tb accepted table answer (λ env ts. (loc : List Value) → values_in (world th tb) env loc ts ≡ d)
    (λ env loc ts same. ap (world th tb).answers (same loc) ∙ world_answers th tb (length th.functions) d ∙ answers_are_recorded th tb d answer table lists)
    vars env t u closed typed h good levels left rest v e

pub limited_without_calls : LimitedWithoutCalls
limited_without_calls th tb accepted table answer vars env t u closed typed h none_there levels left rest v e =
    limited_at_top th tb accepted table answer (λ env ts. ⊥) (λ env loc ts never. absurd never)
    vars env t u closed typed h (no_put (λ ts. ⊥) t none_there) levels left rest v e
