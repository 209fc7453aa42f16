-- What a run answers is what its input has.
use Rattle.std.proofs.Common.{ℕ, inl, inr, List, Option, Some, None, IfSome}
use Rattle.tg_cmd.specs.declared.answer.Answer.{Answer}
use Rattle.tg_cmd.specs.Requests.{Request}
use Rattle.tg_cmd.specs.Output.{IsOutput, IsInterrupted, Completes}
use Rattle.tg_cmd.proofs.OneOutput.{one_output}

pub all_complete : (r : Request) (left : Option (List ℕ)) (answer : Answer) (text : List ℕ) → IfSome left (λ input. IsOutput r input answer text)
    → IfSome left (λ input. Completes r input answer)
all_complete r None answer text h = tt
all_complete r (Some input) answer text h = λ a t other. inl (one_output r input answer a text t h other).0

-- a run that is interrupted promises nothing
pub interrupted : (r : Request) (left : Option (List ℕ)) (answer : Answer) → IsInterrupted answer → IfSome left (λ input. Completes r input answer)
interrupted r None answer h = tt
interrupted r (Some input) answer h = λ a t other. inr h
