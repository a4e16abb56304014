-- Items by their names.
use Rattle.std.specs.Prelude.{ℕ, List, Option, bytes_eq, position}
use Rattle.net_model.specs.declared.parts.Node.{Node}
use Rattle.net_model.specs.declared.parts.Link.{Link}

-- the number of the first node with a name
abbrev pub node_numbered : List ℕ → List Node → Option ℕ
node_numbered name nodes = position (λ n. bytes_eq n.name name) nodes

-- the number of the first link with a name
abbrev pub link_numbered : List ℕ → List Link → Option ℕ
link_numbered name links = position (λ l. bytes_eq l.name name) links
