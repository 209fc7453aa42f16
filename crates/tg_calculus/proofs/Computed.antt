-- What computes to True is True on every table.
use Rattle.std.proofs.Common.{ℕ, zero, suc, ◌≡◌, true, false, List, [], Some, None, refl, sym, ◌∙◌}
use Rattle.tg_model.specs.Tree.{Tree}
use Rattle.tg_model.specs.Types.{bool}
use Rattle.tg_model.specs.Value.{Value, number, boolean, made, wrong}
use Rattle.tg_model.specs.Theory.{Theory, numbered}
use Rattle.tg_model.specs.Table.{Table, IsTable}
use Rattle.tg_model.specs.Denotation.{den}
use Rattle.tg_model.specs.TermTyping.{IsTyped}
use Rattle.tg_model.specs.Calls.{has_call}
use Rattle.tg_model.specs.Accepted.{IsAccepted}
use Rattle.tg_model.proofs.Keeping.{depends_on_used}
use Rattle.tg_model.proofs.Contexts.{used_have_types}
use Rattle.tg_eval.specs.Limited.{Outcome, limited_value}
use Rattle.tg_eval.proofs.Laws.{limited_without_calls}
use Rattle.tg_calculus.specs.Computing.{is_true, computes}

true_outcome : (o : Outcome) → is_true o ≡ true → (left : ℕ) × (o ≡ Some (boolean true, left))
true_outcome None e = cc e
true_outcome (Some (boolean true, left)) e = (left, refl)
true_outcome (Some (boolean false, left)) e = cc e
true_outcome (Some (number n, left)) e = cc e
true_outcome (Some (made c vs, left)) e = cc e

pub no_place : {A : Type 0} (x : A) (m : ℕ) → numbered {A = A} [] m ≡ Some x → ⊥
no_place x zero e = cc e
no_place x (suc m) e = cc e

pub computed : (th : Theory) (tb : Table) → IsAccepted th → IsTable th tb → (env : List Value) (t : Tree) → IsTyped th [] [] t bool → has_call t ≡ false
    → computes th t ≡ true → den th tb env [] t ≡ boolean true
computed th tb accepted table env t typed no_call e =
    let p = true_outcome (limited_value th wrong [] t) e in
    let same : boolean true ≡ den th tb [] [] t =
    limited_without_calls th tb accepted table wrong [] [] t bool tt tt typed no_call 500 10000 p.0 (boolean true) p.1 in
    let again : den th tb [] [] t ≡ den th tb env [] t =
    depends_on_used th tb [] env [] t (λ m u. let q = used_have_types th [] [] t bool typed m u in absurd (no_place q.0 m q.1)) in
    sym (same ∙ again)
