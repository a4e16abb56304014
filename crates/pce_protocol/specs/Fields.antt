-- The names of a request's fields.
use Rattle.std.specs.Prelude.{ℕ, Bool, List, codes, if◌then◌else◌, Option, Some, None, bytes_eq}
use Rattle.std.specs.List.{list_any}
use Rattle.serde_json.specs.Data.{Members, no_members, member}
use Rattle.pce_protocol.specs.declared.field.Field.{Field}
use Rattle.pce_protocol.specs.declared.field.Field.TheVariants as fields

unfoldable pub field_name : Field → List ℕ
field_name fields.Id = codes "id"
field_name fields.Do = codes "do"
field_name fields.As = codes "as"
field_name fields.Network = codes "network"
field_name fields.File = codes "file"
field_name fields.Plan = codes "plan"
field_name fields.PlanFile = codes "plan_file"
field_name fields.From = codes "from"
field_name fields.Links = codes "links"
field_name fields.Nodes = codes "nodes"
field_name fields.Routes = codes "routes"
field_name fields.In = codes "in"
field_name fields.Intent = codes "intent"
field_name fields.Certificate = codes "certificate"
field_name fields.List = codes "list"
field_name fields.Node = codes "node"
field_name fields.Packet = codes "packet"
field_name fields.Choices = codes "choices"

abbrev pub is_among : List Field → List ℕ → Bool
is_among known name = list_any (λ field. bytes_eq (field_name field) name) known

-- the first member that is none of these; members stand in ascending order of their names
abbrev pub first_unknown : List Field → Members → Option (List ℕ)
first_unknown known no_members = None
first_unknown known (member name d ms) = if is_among known name then first_unknown known ms else Some name
