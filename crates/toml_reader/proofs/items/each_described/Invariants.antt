use Rattle.toml.specs.View.{table_view}
use Rattle.toml_reader.proofs.TomlListReading.{HasRead}
use Rattle.toml_reader.proofs.items.each_described.Given as goal

abbrev pub invariant-loop-i : goal.invariant-loop-i
invariant-loop-i g l =
    HasRead (λ n. g.X.Describes.of (record { table = l.kind; item = n })) (λ t. table_view t.now) 1 l.tables l.i l.all.items
