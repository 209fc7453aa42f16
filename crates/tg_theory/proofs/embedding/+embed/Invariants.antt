use Rattle.std.proofs.Common.{◌≡◌, ◌+◌, ◌*◌, ◌++◌, [], map, take, drop}
use Rattle.tg_accept.specs.Core.{heads_of}
use Rattle.tg_accept.specs.Declared.{theory}
use Rattle.tg_model.specs.Tree.{trees}
use Rattle.tg_term.specs.Measures.{height, heights, heights_within}
use Rattle.tg_term.specs.View.{arms}
use Rattle.tg_typing.specs.View.{resolved, seen}
use Rattle.tg_theory.specs.Embedded.{embedded}
use Rattle.tg_theory.proofs.Embeddings.{seen_all}
use Rattle.tg_theory.proofs.embedding.+embed.Given as goal

abbrev pub decreases-embed : goal.decreases-embed
decreases-embed l = 2 * height l.t.now + 1

abbrev pub decreases-embed_all : goal.decreases-embed_all
decreases-embed_all l = 2 * heights (trees l.ts.now)

abbrev pub decreases-embed_branches : goal.decreases-embed_branches
decreases-embed_branches l = 2 * heights_within (arms l.bs.now)

abbrev pub invariant-embed_all-loop-t : goal.invariant-embed_all-loop-t
invariant-embed_all-loop-t l = map resolved l.all ≡ map (embedded (theory [] l.declared)) (take l.t-index l.ts)

-- what stands, and what is left, are all the branches
abbrev pub invariant-embed_branches-loop-at : goal.invariant-embed_branches-loop-at
invariant-embed_branches-loop-at l =
    map seen l.all ++ seen_all (theory [] l.declared) (drop l.at l.bs) (drop l.at (heads_of (theory [] l.declared) l.n))
    ≡ seen_all (theory [] l.declared) l.bs (heads_of (theory [] l.declared) l.n)
