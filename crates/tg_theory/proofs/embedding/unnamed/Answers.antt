use Rattle.std.proofs.Common.{◌∙◌, ◌++◌, ◌∷◌, [], ap}
use Rattle.tg_theory.proofs.Embeddings.{unnamed_more}
use Rattle.tg_theory.proofs.embedding.unnamed.Goals as goal

pub loop-preserved : goal.loop-preserved
loop-preserved c =
    c.in_ok-push.ensures.ok ∙ ap (λ n. c.loop.names ++ n ∷ []) c.in_ok-new.ensures ∙ ap (λ l. l ++ [] ∷ []) c.loop.invariant ∙ unnamed_more c.loop.counter
