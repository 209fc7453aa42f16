-- The program's rules and lines as those of the calculus.
use Rattle.tg_model.specs.Tree.{trees}
use Rattle.tg_calculus.specs.Rule as calculus
use Rattle.tg_calculus.specs.Book.{Line}
use Rattle.tg_kernel.specs.declared.rules.Rule.{Rule}
use Rattle.tg_kernel.specs.declared.rules.Rule.TheVariants.{Hyp, Weak, Cut, Grow, AndI, AndL, AndR, ImpI, Mp, AllI, AllE, ExI, ExE, ThypI, ThypE, Truth, Absurd, Split, Refl, Sym, Trans, Replace, Schema, Exhaust, Deep, Compute}
use Rattle.tg_kernel.specs.declared.rules.RuleLine.{RuleLine}

abbrev pub as_rule : Rule → calculus.Rule
as_rule (Hyp G F) = calculus.hyp G F
as_rule (Weak F) = calculus.weak F
as_rule Cut = calculus.cut
as_rule (Grow Ts) = calculus.grow Ts
as_rule AndI = calculus.and_i
as_rule AndL = calculus.and_l
as_rule AndR = calculus.and_r
as_rule (ImpI F) = calculus.imp_i F
as_rule Mp = calculus.mp
as_rule AllI = calculus.all_i
as_rule (AllE t) = calculus.all_e t
as_rule (ExI F t) = calculus.ex_i F t
as_rule ExE = calculus.ex_e
as_rule ThypI = calculus.thyp_i
as_rule ThypE = calculus.thyp_e
as_rule (Truth G) = calculus.truth G
as_rule (Absurd F) = calculus.falsity F
as_rule (Split t) = calculus.split t
as_rule (Refl G t) = calculus.reflexive G t
as_rule Sym = calculus.symmetric
as_rule Trans = calculus.transitive
as_rule (Replace F) = calculus.replace F
as_rule (Schema G k t) = calculus.schema G k t
as_rule (Exhaust n) = calculus.exhaust n
as_rule (Deep G k ts) = calculus.deep G k (trees ts)
as_rule (Compute G t) = calculus.compute G t

abbrev pub as_line : RuleLine → Line
as_line l = record { rule = as_rule l.rule; premises = l.premises }
