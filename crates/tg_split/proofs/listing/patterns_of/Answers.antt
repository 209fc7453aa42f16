use Rattle.std.proofs.Common.{◌≡◌}
use Rattle.std.proofs.lemmas.List.Elements.{All-replicate}
use Rattle.tg_types.specs.Types.{types}
use Rattle.tg_split.specs.declared.known.Known.{Known}
use Rattle.tg_split.specs.Known.{size_of_data}
use Rattle.tg_split.proofs.listing.patterns_of.Goals as goal

pub rows_of-requires : goal.rows_of-requires
rows_of-requires c = All-replicate (λ (x : Known). x.size ≡ size_of_data c.args.declared.now.datatypes x.data (types x.types.now) x.depth) 32768 c.nothing-known.result (c.nothing-known.ensures _)
