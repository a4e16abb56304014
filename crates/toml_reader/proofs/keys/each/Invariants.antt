use Rattle.toml.specs.View.{view}
use Rattle.toml_reader.proofs.TomlListReading.{HasRead}
use Rattle.toml_reader.proofs.keys.each.Given as goal

abbrev pub invariant-loop-value : goal.invariant-loop-value
invariant-loop-value g l = HasRead (λ n. g.X.Kind.kind l.place l.key) view 0 l.values l.value-index l.members.items
