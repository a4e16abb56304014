-- Need not be believed: no program stands on it yet.
-- The words of the tables and keys of plans, as they stand in the files.
use Rattle.std.specs.Prelude.{ℕ, List, codes}
use Rattle.plan_syntax.specs.declared.plan_places.PlanTable.{PlanTable}
use Rattle.plan_syntax.specs.declared.plan_places.PlanTable.TheVariants as tables
use Rattle.plan_syntax.specs.declared.plan_places.PlanKey.{PlanKey}
use Rattle.plan_syntax.specs.declared.plan_places.PlanKey.TheVariants as keys

-- a table's name; of the whole, as it stands in a refusal
unfoldable pub plan_table_text : PlanTable → List ℕ
plan_table_text tables.Plan = codes "plan"
plan_table_text tables.Cable = codes "cable"
plan_table_text tables.Link = codes "link"
plan_table_text tables.Locator = codes "locator"
plan_table_text tables.Site = codes "site"

-- a key
unfoldable pub plan_key_text : PlanKey → List ℕ
plan_key_text keys.Metric = codes "metric"
plan_key_text keys.Mtu = codes "mtu"
plan_key_text keys.Ends = codes "ends"
plan_key_text keys.Addresses = codes "addresses"
plan_key_text keys.Cable = codes "cable"
plan_key_text keys.Link = codes "link"
plan_key_text keys.Locator = codes "locator"
plan_key_text keys.Site = codes "site"
plan_key_text keys.Nodes = codes "nodes"
plan_key_text keys.Links = codes "links"
plan_key_text keys.Name = codes "name"
plan_key_text keys.Prefix = codes "prefix"
plan_key_text keys.Table = codes "table"
plan_key_text keys.Node = codes "node"
plan_key_text keys.Prefixes = codes "prefixes"
