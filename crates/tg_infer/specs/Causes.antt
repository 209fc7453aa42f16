-- What the builder's errors are.
use Rattle.tg_theory.specs.declared.errors.BuildErr.{BuildErr}
use Rattle.tg_theory.specs.declared.errors.BuildErr.TheVariants as errors
use Rattle.tg_infer.specs.declared.refusals.Kind.TheVariants as kinds
use Rattle.tg_infer.specs.declared.refusals.Refusal.{Refusal}
use Rattle.tg_infer.specs.declared.refusals.Refusal.TheVariants.{Fault, Memory}

abbrev pub refusal : BuildErr → Refusal
refusal (errors.Name x) = Fault kinds.Name
refusal errors.Shape = Fault kinds.Shape
refusal errors.Program = Fault kinds.Program
refusal errors.Memory = Memory
