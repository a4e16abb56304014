-- Need not be believed: helps proofs and other laws.
-- Terms beside those of `specs/Named.antt`.
use Rattle.std.specs.Prelude.{◌≡◌, ◌≢◌, ℕ, List, slice_get, Option, Some, None}
use Rattle.net_model.specs.declared.parts.Node.{Node}
use Rattle.net_model.specs.declared.parts.Link.{Link}

-- the number is that of a node with the name; with none no node has it
abbrev pub IsNodeNumbered : List ℕ → List Node → Option ℕ → Type 0
IsNodeNumbered name nodes None = (i : ℕ) (n : Node) → slice_get nodes i ≡ Some n → n.name ≢ name
IsNodeNumbered name nodes (Some i) = (n : Node) × (slice_get nodes i ≡ Some n) × (n.name ≡ name)

abbrev pub IsLinkNumbered : List ℕ → List Link → Option ℕ → Type 0
IsLinkNumbered name links None = (i : ℕ) (l : Link) → slice_get links i ≡ Some l → l.name ≢ name
IsLinkNumbered name links (Some i) = (l : Link) × (slice_get links i ≡ Some l) × (l.name ≡ name)
