use Rattle.std.proofs.Common.{[], drop}
use Rattle.tg_accept.specs.Declared.{theory}
use Rattle.tg_accept.specs.Equations.{IsEquationTyping}
use Rattle.tg_accept.specs.Functions.{self_of}
use Rattle.tg_declarations.specs.View.{function}
use Rattle.tg_equations.specs.View.{equations}
use Rattle.tg_infer.proofs.TypingLaws.{AreCounted}
use Rattle.tg_infer.proofs.typings.count_typings.Given as goal

abbrev pub invariant-loop-e : goal.invariant-loop-e
invariant-loop-e l =
    AreCounted (IsEquationTyping (theory [] l.declared) (self_of l.is_recursive (function l.signature)) (function l.signature)) (equations l.es) (equations (drop l.e-index l.es))
    l.several
