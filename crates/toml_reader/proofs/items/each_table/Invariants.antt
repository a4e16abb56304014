use Rattle.std.proofs.Common.{map}
use Rattle.toml.specs.View.{view, table_view}
use Rattle.toml_reader.specs.Tree.{table_in}
use Rattle.toml_reader.proofs.TomlListReading.{HasRead}
use Rattle.toml_reader.proofs.items.each_table.Given as goal

abbrev pub invariant-loop-value : goal.invariant-loop-value
invariant-loop-value l =
    HasRead (λ n. table_in l.place) view 0 l.values l.value-index (map (λ t. table_view t.now) l.tables.items)
