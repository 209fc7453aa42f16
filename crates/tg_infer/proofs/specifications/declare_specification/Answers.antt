use Rattle.std.proofs.Common.{◌≡◌, ◌∙◌, [], false, Some, None, nat_lt, length, sym, ap, subst, rules}
use Rattle.tg_accept.specs.Declared.{theory, with_specification}
use Rattle.tg_accept.specs.Faults.{specification_fault}
use Rattle.tg_accept.specs.Meant.{IsSpecificationMeant}
use Rattle.tg_accept.specs.Programs.{specification_meant, IsSpecificationTyping, IsSpecificationShaped, whole_specification}
use Rattle.tg_accept.specs.Raw as raw
use Rattle.tg_accept.specs.Raw.{nodes}
use Rattle.tg_accept.specs.Theories.{checks_of}
use Rattle.tg_accept.specs.Typings.{HasOneTyping, HasTwoTypings}
use Rattle.tg_theory.specs.Causes.{IsCause}
use Rattle.tg_typing.specs.View.{resolved}
use Rattle.tg_infer.specs.Refused.{IsFirst}
use Rattle.tg_infer.specs.Specifications.{HasInputs}
use Rattle.tg_infer.specs.View.{raw_term}
use Rattle.tg_infer.proofs.SpecificationLaws.{ambiguous_first, unshaped_first, specification_cause, specification_declared, specification_meant_by}
use Rattle.tg_infer.proofs.specifications.declare_specification.Goals as goal

pub returns-in-Several-clause-cause : goal.returns-in-Several-clause-cause
returns-in-Several-clause-cause c =
    let D = c.args.builder.now in
    let xs = c.args.vars.now in
    let t = raw_term c.args.body.now in
    let small : nat_lt 100000 (nodes t) ≡ false = search rules in
    let asks : HasInputs c.declarations-declared.result.now (length xs) = search rules in
    let inputs : HasInputs D (length xs) = subst (λ d. HasInputs d (length xs)) c.declarations-declared.ensures.declared asks in
    let m = resolved c.in-Some.t in
    let found : Some m ≡ specification_meant c.declarations-declared.result.now xs t = search rules in
    let is : Some m ≡ specification_meant D xs t = subst (λ d. Some m ≡ specification_meant d xs t) c.declarations-declared.ensures.declared found in
    let told : HasTwoTypings (IsSpecificationTyping c.declarations-declared.result.now m) = search rules in
    let two : HasTwoTypings (IsSpecificationTyping D m) = subst (λ d. HasTwoTypings (IsSpecificationTyping d m)) c.declarations-declared.ensures.declared told in
    ambiguous_first D xs t m small inputs is two

pub returns-then-not-branch-clause-cause : goal.returns-then-not-branch-clause-cause
returns-then-not-branch-clause-cause c =
    let D = c.args.builder.now in
    let xs = c.args.vars.now in
    let t = raw_term c.args.body.now in
    let small : nat_lt 100000 (nodes t) ≡ false = search rules in
    let asks : HasInputs c.declarations-declared.result.now (length xs) = search rules in
    let inputs : HasInputs D (length xs) = subst (λ d. HasInputs d (length xs)) c.declarations-declared.ensures.declared asks in
    let m = resolved c.in-Some.t in
    let found : Some m ≡ specification_meant c.declarations-declared.result.now xs t = search rules in
    let is : Some m ≡ specification_meant D xs t = subst (λ d. Some m ≡ specification_meant d xs t) c.declarations-declared.ensures.declared found in
    let told : HasOneTyping (IsSpecificationTyping c.declarations-declared.result.now m) = search rules in
    let typed : HasOneTyping (IsSpecificationTyping D m) = subst (λ d. HasOneTyping (IsSpecificationTyping d m)) c.declarations-declared.ensures.declared told in
    let seen : ¬ (IsSpecificationShaped c.declarations-declared.result.now xs m) = search rules in
    let unshaped : ¬ (IsSpecificationShaped D xs m) = subst (λ d. ¬ (IsSpecificationShaped d xs m)) c.declarations-declared.ensures.declared seen in
    unshaped_first D xs t m small inputs is typed unshaped

pub set_spec-requires : goal.set_spec-requires
set_spec-requires c =
    let D = c.args.builder.now in
    let xs = c.args.vars.now in
    let t = raw_term c.args.body.now in
    let small : nat_lt 100000 (nodes t) ≡ false = search rules in
    let asks : HasInputs c.declarations-declared.result.now (length xs) = search rules in
    let inputs : HasInputs D (length xs) = subst (λ d. HasInputs d (length xs)) c.declarations-declared.ensures.declared asks in
    let m = resolved c.in-Some.t in
    let found : Some m ≡ specification_meant c.declarations-declared.result.now xs t = search rules in
    let is : Some m ≡ specification_meant D xs t = subst (λ d. Some m ≡ specification_meant d xs t) c.declarations-declared.ensures.declared found in
    let told : HasOneTyping (IsSpecificationTyping c.declarations-declared.result.now m) = search rules in
    let typed : HasOneTyping (IsSpecificationTyping D m) = subst (λ d. HasOneTyping (IsSpecificationTyping d m)) c.declarations-declared.ensures.declared told in
    let seen : IsSpecificationShaped c.declarations-declared.result.now xs m = search rules in
    let shaped : IsSpecificationShaped D xs m = subst (λ d. IsSpecificationShaped d xs m) c.declarations-declared.ensures.declared seen in
    let made : c.in_ok-t-2.t ≡ whole_specification c.declarations-declared.result.now m = search rules in
    let core : c.in_ok-t-2.t ≡ whole_specification D m = subst (λ d. c.in_ok-t-2.t ≡ whole_specification d m) c.declarations-declared.ensures.declared made in
    subst (IsSpecificationMeant (theory [] D) D.program) (sym core) (specification_meant_by D xs t m small inputs is typed shaped)

pub returns-in-Ok-clause-declared : goal.returns-in-Ok-clause-declared
returns-in-Ok-clause-declared c =
    let D = c.args.builder.now in
    let xs = c.args.vars.now in
    let t = raw_term c.args.body.now in
    let small : nat_lt 100000 (nodes t) ≡ false = search rules in
    let asks : HasInputs c.declarations-declared.result.now (length xs) = search rules in
    let inputs : HasInputs D (length xs) = subst (λ d. HasInputs d (length xs)) c.declarations-declared.ensures.declared asks in
    let m = resolved c.in-Some.t in
    let found : Some m ≡ specification_meant c.declarations-declared.result.now xs t = search rules in
    let is : Some m ≡ specification_meant D xs t = subst (λ d. Some m ≡ specification_meant d xs t) c.declarations-declared.ensures.declared found in
    let told : HasOneTyping (IsSpecificationTyping c.declarations-declared.result.now m) = search rules in
    let typed : HasOneTyping (IsSpecificationTyping D m) = subst (λ d. HasOneTyping (IsSpecificationTyping d m)) c.declarations-declared.ensures.declared told in
    let seen : IsSpecificationShaped c.declarations-declared.result.now xs m = search rules in
    let shaped : IsSpecificationShaped D xs m = subst (λ d. IsSpecificationShaped d xs m) c.declarations-declared.ensures.declared seen in
    let made : c.in_ok-t-2.t ≡ whole_specification c.declarations-declared.result.now m = search rules in
    let core : c.in_ok-t-2.t ≡ whole_specification D m = subst (λ d. c.in_ok-t-2.t ≡ whole_specification d m) c.declarations-declared.ensures.declared made in
    let free : specification_fault D (whole_specification D m) ≡ None = ap (specification_fault D) (sym core) ∙ c.in-Ok.ensures.right in
    let new : c.set_spec.new.self ≡ with_specification D (whole_specification D m) = c.in-Ok.ensures.added ∙ ap (with_specification D) core in
    specification_declared D xs t m small inputs is typed shaped c.args.words.now c.requires c.set_spec.new.self free new

pub returns-clause-cause : goal.returns-clause-cause
returns-clause-cause c =
    let D = c.args.builder.now in
    let xs = c.args.vars.now in
    let t = raw_term c.args.body.now in
    let small : nat_lt 100000 (nodes t) ≡ false = search rules in
    let asks : HasInputs c.declarations-declared.result.now (length xs) = search rules in
    let inputs : HasInputs D (length xs) = subst (λ d. HasInputs d (length xs)) c.declarations-declared.ensures.declared asks in
    let m = resolved c.in-Some.t in
    let found : Some m ≡ specification_meant c.declarations-declared.result.now xs t = search rules in
    let is : Some m ≡ specification_meant D xs t = subst (λ d. Some m ≡ specification_meant d xs t) c.declarations-declared.ensures.declared found in
    let told : HasOneTyping (IsSpecificationTyping c.declarations-declared.result.now m) = search rules in
    let typed : HasOneTyping (IsSpecificationTyping D m) = subst (λ d. HasOneTyping (IsSpecificationTyping d m)) c.declarations-declared.ensures.declared told in
    let seen : IsSpecificationShaped c.declarations-declared.result.now xs m = search rules in
    let shaped : IsSpecificationShaped D xs m = subst (λ d. IsSpecificationShaped d xs m) c.declarations-declared.ensures.declared seen in
    let made : c.in_ok-t-2.t ≡ whole_specification c.declarations-declared.result.now m = search rules in
    let core : c.in_ok-t-2.t ≡ whole_specification D m = subst (λ d. c.in_ok-t-2.t ≡ whole_specification d m) c.declarations-declared.ensures.declared made in
    let cause : IsCause (specification_fault D (whole_specification D m)) c.in-Err.error =
    subst (λ u. IsCause (specification_fault D u) c.in-Err.error) core c.in-Err.ensures.cause in
    subst (IsFirst (checks_of D (raw.specification xs t))) (sym c.from.ensures) (specification_cause D xs t m small inputs is typed shaped c.in-Err.error cause)
