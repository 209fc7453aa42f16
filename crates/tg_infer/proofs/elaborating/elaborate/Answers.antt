use Rattle.std.proofs.Common.{◌≡◌, ◌∙◌, ◌+◌, suc, [], ◌∷◌, drop, length, map, Some, None, refl, sym, ap, subst, arith, rules}
use Rattle.std.specs.Prelude.{slice_get}
use Rattle.std.proofs.lemmas.List.{drop_all}
use Rattle.std.proofs.lemmas.Option.{slice_get_read}
use Rattle.tg_accept.specs.Declared.{theory, nothing}
use Rattle.tg_accept.specs.Theories.{IsTheoryOf}
use Rattle.tg_theory.specs.Causes.{missing_fault}
use Rattle.tg_infer.specs.Refused.{IsDeclared}
use Rattle.tg_infer.specs.Theories.{IsRefusal, missing_at}
use Rattle.tg_infer.specs.View.{raw_declaration}
use Rattle.tg_infer.proofs.TypingLaws.{rest_at}
use Rattle.tg_infer.proofs.TheoryLaws.{Reaches, one_declared, one_refused, all_accepted, missing_refused}
use Rattle.tg_infer.proofs.elaborating.elaborate.Goals as goal

pub returns-in-Err-clause-refused : goal.returns-in-Err-clause-refused
returns-in-Err-clause-refused c =
    let ds = c.as_slice-decls.result.now in
    let all = map raw_declaration ds in
    let at : slice_get ds c.loop-at.at ≡ Some c.index-decls-at.result = slice_get_read ds _ _ c.index-decls-at.result refl c.loop-at-test.true c.index-decls-at.is in
    let x = raw_declaration c.index-decls-at.result in
    let rest = map raw_declaration (drop (c.loop-at.at + 1) ds) in
    let here : Reaches all (x ∷ rest) c.loop-at.builder (c.loop-at.at + 1) c.loop-at.words =
    subst (λ l. Reaches all l c.loop-at.builder (c.loop-at.at + 1) c.loop-at.words) (rest_at raw_declaration ds c.loop-at.at c.index-decls-at.result at) c.loop-at.invariant in
    let r = one_refused all rest x c.loop-at.builder (c.loop-at.at + 1) c.loop-at.words c.in-Err.refusal here c.in-Err.ensures.cause in
    subst (λ l. IsRefusal (map raw_declaration l) c.at.result) c.as_slice-decls.ensures (subst (IsRefusal all) (sym c.at.ensures) r)

pub loop-at-preserved : goal.loop-at-preserved
loop-at-preserved c =
    let ds = c.as_slice-decls.result.now in
    let all = map raw_declaration ds in
    let at : slice_get ds c.loop-at.at ≡ Some c.index-decls-at.result = slice_get_read ds _ _ c.index-decls-at.result refl c.loop-at-test.true c.index-decls-at.is in
    let x = raw_declaration c.index-decls-at.result in
    let rest = map raw_declaration (drop (c.loop-at.at + 1) ds) in
    let here : Reaches all (x ∷ rest) c.loop-at.builder (c.loop-at.at + 1) c.loop-at.words =
    subst (λ l. Reaches all l c.loop-at.builder (c.loop-at.at + 1) c.loop-at.words) (rest_at raw_declaration ds c.loop-at.at c.index-decls-at.result at) c.loop-at.invariant in
    let n : suc (c.loop-at.at + 1) ≡ (c.loop-at.at + 1) + 1 = omega arith in
    let done : IsDeclared c.loop-at.builder c.declare.new.builder c.declare.new.words x = c.in_default.ensures.declared in
    subst (λ m. Reaches all rest c.declare.new.builder m c.declare.new.words) n
    (one_declared all rest x c.loop-at.builder c.declare.new.builder (c.loop-at.at + 1) c.loop-at.words c.declare.new.words here done)

pub returns-in-Ok-clause-accepted : goal.returns-in-Ok-clause-accepted
returns-in-Ok-clause-accepted c =
    let ds = c.as_slice-decls.result.now in
    let all = map raw_declaration ds in
    let end : drop c.loop-at.at ds ≡ [] = drop_all c.loop-at.at ds (omega (arith, c.loop-at-test.false)) in
    let here : Reaches all [] c.loop-at.builder (c.loop-at.at + 1) c.loop-at.words =
    subst (λ l. Reaches all (map raw_declaration l) c.loop-at.builder (c.loop-at.at + 1) c.loop-at.words) end c.loop-at.invariant in
    let name : c.in_ok-name.name ≡ c.args.raw.now.name = search rules in
    let whole : c.in-Ok.th ≡ theory c.args.raw.now.name c.loop-at.builder = c.in-Ok.ensures.whole ∙ ap (λ y. theory y c.loop-at.builder) name in
    subst (λ l. IsTheoryOf c.args.raw.now.name nothing (map raw_declaration l) c.in-Ok.th) c.as_slice-decls.ensures
    (all_accepted all c.loop-at.builder (c.loop-at.at + 1) c.loop-at.words c.args.raw.now.name c.in-Ok.th here c.in-Ok.ensures.right whole)

pub returns-clause-refused : goal.returns-clause-refused
returns-clause-refused c =
    let ds = c.as_slice-decls.result.now in
    let all = map raw_declaration ds in
    let end : drop c.loop-at.at ds ≡ [] = drop_all c.loop-at.at ds (omega (arith, c.loop-at-test.false)) in
    let count : c.loop-at.at + 1 ≡ length ds + 1 = omega (arith, c.loop-at-test.false, c.loop-at.auto.at-end) in
    let here : Reaches all [] c.loop-at.builder (c.loop-at.at + 1) c.loop-at.words =
    subst (λ l. Reaches all (map raw_declaration l) c.loop-at.builder (c.loop-at.at + 1) c.loop-at.words) end c.loop-at.invariant in
    let r = missing_refused all c.loop-at.builder (c.loop-at.at + 1) c.loop-at.words c.in-Err-finish.error here c.in-Err-finish.ensures.cause in
    let s : IsRefusal all c.missing.result = subst (IsRefusal all) (ap (missing_at c.in-Err-finish.error) count ∙ sym c.missing.ensures) r in
    subst (λ l. IsRefusal (map raw_declaration l) c.missing.result) c.as_slice-decls.ensures s
