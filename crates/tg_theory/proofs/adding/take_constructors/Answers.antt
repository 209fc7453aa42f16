use Rattle.std.proofs.Common.{◌≡◌, ◌++◌, ◌∷◌, [], Some, true, false, sym, ap, refl, ◌∙◌, rules}
use Rattle.std.proofs.lemmas.Option.{slice_get_read}
use Rattle.std.specs.Prelude.{slice_get}
use Rattle.tg_accept.specs.Faults.{is_taken, name}
use Rattle.tg_theory.specs.Taking.{name_fault}
use Rattle.tg_theory.proofs.Taken.{next_names, all_names}
use Rattle.tg_theory.proofs.adding.take_constructors.Goals as goal

pub returns-then-not-branch-clause-cause : goal.returns-then-not-branch-clause-cause
returns-then-not-branch-clause-cause c =
    let at : slice_get c.args.cons.now c.loop-con.con-index ≡ Some c.con-item.result =
    slice_get_read c.args.cons.now _ _ c.con-item.result refl c.loop-con-test.true c.con-item.is in
    let here : is_taken c.con-item.result.name c.loop-con.names ≡ true = search rules in
    let found = all_names c.args.names.now c.args.cons.now c.loop-con.con-index c.con-item.result c.loop-con.names at c.loop-con.invariant here in
    let same : c.in_ok-clone.field-0 ≡ c.con-item.result.name = search rules in
    ap name_fault found ∙ ap (λ n. Some (name n)) (sym same)

pub loop-con-preserved : goal.loop-con-preserved
loop-con-preserved c =
    let at : slice_get c.args.cons.now c.loop-con.con-index ≡ Some c.con-item.result =
    slice_get_read c.args.cons.now _ _ c.con-item.result refl c.loop-con-test.true c.con-item.is in
    let free : is_taken c.con-item.result.name c.loop-con.names ≡ false = search rules in
    let taken : c.take.new.self ≡ c.loop-con.names ++ c.con-item.result.name ∷ [] = search rules in
    next_names c.args.names.now c.args.cons.now c.loop-con.con-index c.con-item.result c.loop-con.names c.take.new.self at c.loop-con.invariant free taken
