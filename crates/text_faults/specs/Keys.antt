-- The words of the tables and keys of descriptions and intents, as they stand in the files.
use Rattle.std.specs.Prelude.{ℕ, List, codes}
use Rattle.text_faults.specs.declared.text_place.TableKind.{TableKind}
use Rattle.text_faults.specs.declared.text_place.TableKind.TheVariants as tables
use Rattle.text_faults.specs.declared.text_place.Key.{Key}
use Rattle.text_faults.specs.declared.text_place.Key.TheVariants as keys

-- a table's name; of the whole, as it stands in a refusal
unfoldable pub table_text : TableKind → List ℕ
table_text tables.Net = codes "net"
table_text tables.Block = codes "block"
table_text tables.Node = codes "node"
table_text tables.Link = codes "link"
table_text tables.Route = codes "route"
table_text tables.Policy = codes "policy"
table_text tables.Sid = codes "sid"
table_text tables.Intent = codes "intent"
table_text tables.Step = codes "step"

-- a key
unfoldable pub key_text : Key → List ℕ
key_text keys.Block = codes "block"
key_text keys.Node = codes "node"
key_text keys.Link = codes "link"
key_text keys.Route = codes "route"
key_text keys.Policy = codes "policy"
key_text keys.Sid = codes "sid"
key_text keys.Step = codes "step"
key_text keys.Prefix = codes "prefix"
key_text keys.Kind = codes "kind"
key_text keys.Csid = codes "csid"
key_text keys.Name = codes "name"
key_text keys.Address = codes "address"
key_text keys.Allow = codes "allow"
key_text keys.From = codes "from"
key_text keys.To = codes "to"
key_text keys.Mtu = codes "mtu"
key_text keys.Table = codes "table"
key_text keys.Via = codes "via"
key_text keys.Source = codes "source"
key_text keys.Segments = codes "segments"
key_text keys.TrafficClass = codes "traffic_class"
key_text keys.FlowLabel = codes "flow_label"
key_text keys.HopLimit = codes "hop_limit"
key_text keys.Behaviour = codes "behaviour"
key_text keys.Flavours = codes "flavours"
key_text keys.Title = codes "title"
key_text keys.Links = codes "links"
key_text keys.Headend = codes "headend"
key_text keys.Inner = codes "inner"
key_text keys.Mode = codes "mode"
key_text keys.Prefer = codes "prefer"
key_text keys.MaxContainers = codes "max_containers"
key_text keys.Function = codes "function"
key_text keys.Reach = codes "reach"
