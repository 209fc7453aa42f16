use Rattle.std.proofs.Common.{◌≡◌, ◌∙◌, map, Some, None, sym, ap, subst, rules}
use Rattle.tg_accept.specs.Declared.{with_function}
use Rattle.tg_accept.specs.Faults.{function_fault}
use Rattle.tg_accept.specs.Functions.{function_meant, whole_function}
use Rattle.tg_accept.specs.Meant.{IsFunctionMeant}
use Rattle.tg_accept.specs.Theories.{checks_of}
use Rattle.tg_declarations.specs.View.{function}
use Rattle.tg_theory.specs.Causes.{IsCause}
use Rattle.tg_theory.specs.Names.{IsName}
use Rattle.tg_infer.specs.Functions.{raw_function, seen_meant, SmallSides, IsTypingFault, IsWritten}
use Rattle.tg_infer.specs.Refused.{IsFirst}
use Rattle.tg_infer.specs.Words.{HaveFunction}
use Rattle.tg_infer.specs.View.{raw_type, raw_equation}
use Rattle.tg_infer.proofs.FunctionLaws.{misnamed_function, typing_first, unwritten_first, function_cause, function_free, function_is_new, function_meant_by, function_named}
use Rattle.tg_infer.proofs.functions.declare_function.Goals as goal

pub returns-in_default-clause-cause : goal.returns-in_default-clause-cause
returns-in_default-clause-cause c =
    let D = c.args.builder.now in
    let r = c.args.is_recursive in
    let x = c.args.name.now in
    let ts = map raw_type c.args.tys.now in
    let es = map raw_equation c.args.eqs.now in
    let small : SmallSides es = search rules in
    let found : None ≡ function_meant c.declarations-declared.result.now x r ts es = search rules in
    let is : None ≡ function_meant D x r ts es = subst (λ d. None ≡ function_meant d x r ts es) c.declarations-declared.ensures.declared found in
    misnamed_function D x ts es r small is

pub returns-in-Some-2-clause-cause : goal.returns-in-Some-2-clause-cause
returns-in-Some-2-clause-cause c =
    let D = c.args.builder.now in
    let r = c.args.is_recursive in
    let x = c.args.name.now in
    let ts = map raw_type c.args.tys.now in
    let es = map raw_equation c.args.eqs.now in
    let small : SmallSides es = search rules in
    let m = seen_meant c.in-Some.function in
    let found : Some m ≡ function_meant c.declarations-declared.result.now x r ts es = search rules in
    let is : Some m ≡ function_meant D x r ts es = subst (λ d. Some m ≡ function_meant d x r ts es) c.declarations-declared.ensures.declared found in
    let told : IsTypingFault c.declarations-declared.result.now r m (Some c.in-Some-2.kind) = search rules in
    let fault : IsTypingFault D r m (Some c.in-Some-2.kind) = subst (λ d. IsTypingFault d r m (Some c.in-Some-2.kind)) c.declarations-declared.ensures.declared told in
    typing_first D r x ts es m small is c.in-Some-2.kind fault

pub returns-in_default-3-clause-cause : goal.returns-in_default-3-clause-cause
returns-in_default-3-clause-cause c =
    let D = c.args.builder.now in
    let r = c.args.is_recursive in
    let x = c.args.name.now in
    let ts = map raw_type c.args.tys.now in
    let es = map raw_equation c.args.eqs.now in
    let small : SmallSides es = search rules in
    let m = seen_meant c.in-Some.function in
    let found : Some m ≡ function_meant c.declarations-declared.result.now x r ts es = search rules in
    let is : Some m ≡ function_meant D x r ts es = subst (λ d. Some m ≡ function_meant d x r ts es) c.declarations-declared.ensures.declared found in
    let told : IsTypingFault c.declarations-declared.result.now r m None = search rules in
    let typed : IsTypingFault D r m None = subst (λ d. IsTypingFault d r m None) c.declarations-declared.ensures.declared told in
    let done : IsWritten c.declarations-declared.result.now r m None = search rules in
    let unwritten : IsWritten D r m None = subst (λ d. IsWritten d r m None) c.declarations-declared.ensures.declared done in
    unwritten_first D r x ts es m small is typed unwritten

pub add_def-requires-clause-named : goal.add_def-requires-clause-named
add_def-requires-clause-named c =
    let D = c.args.builder.now in
    let r = c.args.is_recursive in
    let x = c.args.name.now in
    let ts = map raw_type c.args.tys.now in
    let es = map raw_equation c.args.eqs.now in
    let small : SmallSides es = search rules in
    let m = seen_meant c.in-Some.function in
    let found : Some m ≡ function_meant c.declarations-declared.result.now x r ts es = search rules in
    let is : Some m ≡ function_meant D x r ts es = subst (λ d. Some m ≡ function_meant d x r ts es) c.declarations-declared.ensures.declared found in
    let told : IsTypingFault c.declarations-declared.result.now r m None = search rules in
    let typed : IsTypingFault D r m None = subst (λ d. IsTypingFault d r m None) c.declarations-declared.ensures.declared told in
    let done : IsWritten c.declarations-declared.result.now r m (Some (function c.in-Some-3.def)) = search rules in
    let written : IsWritten D r m (Some (function c.in-Some-3.def)) = subst (λ d. IsWritten d r m (Some (function c.in-Some-3.def))) c.declarations-declared.ensures.declared done in
    subst (λ f. IsName f.name) (sym written.1) (function_named D r x ts es m small is c.requires.named)

pub add_def-requires-clause-meant : goal.add_def-requires-clause-meant
add_def-requires-clause-meant c =
    let D = c.args.builder.now in
    let r = c.args.is_recursive in
    let x = c.args.name.now in
    let ts = map raw_type c.args.tys.now in
    let es = map raw_equation c.args.eqs.now in
    let small : SmallSides es = search rules in
    let m = seen_meant c.in-Some.function in
    let found : Some m ≡ function_meant c.declarations-declared.result.now x r ts es = search rules in
    let is : Some m ≡ function_meant D x r ts es = subst (λ d. Some m ≡ function_meant d x r ts es) c.declarations-declared.ensures.declared found in
    let told : IsTypingFault c.declarations-declared.result.now r m None = search rules in
    let typed : IsTypingFault D r m None = subst (λ d. IsTypingFault d r m None) c.declarations-declared.ensures.declared told in
    let done : IsWritten c.declarations-declared.result.now r m (Some (function c.in-Some-3.def)) = search rules in
    let written : IsWritten D r m (Some (function c.in-Some-3.def)) = subst (λ d. IsWritten d r m (Some (function c.in-Some-3.def))) c.declarations-declared.ensures.declared done in
    subst (IsFunctionMeant D) (sym written.1) (function_meant_by D r x ts es m small is typed written.0)

pub add_function-requires : goal.add_function-requires
add_function-requires c =
    let D = c.args.builder.now in
    let r = c.args.is_recursive in
    let x = c.args.name.now in
    let ts = map raw_type c.args.tys.now in
    let es = map raw_equation c.args.eqs.now in
    let small : SmallSides es = search rules in
    let m = seen_meant c.in-Some.function in
    let found : Some m ≡ function_meant c.declarations-declared.result.now x r ts es = search rules in
    let is : Some m ≡ function_meant D x r ts es = subst (λ d. Some m ≡ function_meant d x r ts es) c.declarations-declared.ensures.declared found in
    function_free D r x ts es m small is c.args.words.now c.requires.words

pub returns-in_ok-add_function-in-Ok-clause-declared : goal.returns-in_ok-add_function-in-Ok-clause-declared
returns-in_ok-add_function-in-Ok-clause-declared c =
    let D = c.args.builder.now in
    let r = c.args.is_recursive in
    let x = c.args.name.now in
    let ts = map raw_type c.args.tys.now in
    let es = map raw_equation c.args.eqs.now in
    let small : SmallSides es = search rules in
    let m = seen_meant c.in-Some.function in
    let found : Some m ≡ function_meant c.declarations-declared.result.now x r ts es = search rules in
    let is : Some m ≡ function_meant D x r ts es = subst (λ d. Some m ≡ function_meant d x r ts es) c.declarations-declared.ensures.declared found in
    let told : IsTypingFault c.declarations-declared.result.now r m None = search rules in
    let typed : IsTypingFault D r m None = subst (λ d. IsTypingFault d r m None) c.declarations-declared.ensures.declared told in
    let done : IsWritten c.declarations-declared.result.now r m (Some (function c.in-Some-3.def)) = search rules in
    let written : IsWritten D r m (Some (function c.in-Some-3.def)) = subst (λ d. IsWritten d r m (Some (function c.in-Some-3.def))) c.declarations-declared.ensures.declared done in
    let free : function_fault D (whole_function D r m) ≡ None = ap (function_fault D) (sym written.1) ∙ c.in-Ok.ensures.right in
    let new : c.add_def.new.self ≡ with_function D (whole_function D r m) = c.in-Ok.ensures.added ∙ ap (with_function D) written.1 in
    let named : HaveFunction c.args.words.now c.add_function.new.self x = search rules in
    function_is_new D r x ts es m small is c.args.words.now c.requires.words c.add_def.new.self c.add_function.new.self typed written.0 free new named

pub returns-in-Err-clause-cause : goal.returns-in-Err-clause-cause
returns-in-Err-clause-cause c =
    let D = c.args.builder.now in
    let r = c.args.is_recursive in
    let x = c.args.name.now in
    let ts = map raw_type c.args.tys.now in
    let es = map raw_equation c.args.eqs.now in
    let small : SmallSides es = search rules in
    let m = seen_meant c.in-Some.function in
    let found : Some m ≡ function_meant c.declarations-declared.result.now x r ts es = search rules in
    let is : Some m ≡ function_meant D x r ts es = subst (λ d. Some m ≡ function_meant d x r ts es) c.declarations-declared.ensures.declared found in
    let told : IsTypingFault c.declarations-declared.result.now r m None = search rules in
    let typed : IsTypingFault D r m None = subst (λ d. IsTypingFault d r m None) c.declarations-declared.ensures.declared told in
    let done : IsWritten c.declarations-declared.result.now r m (Some (function c.in-Some-3.def)) = search rules in
    let written : IsWritten D r m (Some (function c.in-Some-3.def)) = subst (λ d. IsWritten d r m (Some (function c.in-Some-3.def))) c.declarations-declared.ensures.declared done in
    let cause : IsCause (function_fault D (whole_function D r m)) c.in-Err.error = subst (λ f. IsCause (function_fault D f) c.in-Err.error) written.1 c.in-Err.ensures.cause in
    subst (IsFirst (checks_of D (raw_function r x ts es))) (sym c.from.ensures) (function_cause D r x ts es m small is typed written.0 c.in-Err.error cause)
