use Rattle.std.proofs.Common.{◌≡◌}
use Rattle.std.proofs.lemmas.List.Elements.{All-replicate}
use Rattle.tg_types.specs.Types.{types}
use Rattle.tg_split.specs.declared.known.Known.{Known}
use Rattle.tg_split.specs.Known.{size_of_data}
use Rattle.tg_split.proofs.counting.count_of.Goals as goal

pub size_of_arguments-size-requires-clause-right : goal.size_of_arguments-size-requires-clause-right
size_of_arguments-size-requires-clause-right c = All-replicate (λ (x : Known). x.size ≡ size_of_data c.args.declared.now.datatypes x.data (types x.types.now) x.depth) 32768 c.nothing-known.result (c.nothing-known.ensures _)
