-- Need not be believed: no program stands on it yet.
-- What the tree of a plan says, or its first fault, in the written order. Names stay texts, since whether they are known is judged
-- later, beside a description.
use Rattle.std.specs.Prelude.{ℕ, pos, true, false, if◌then◌else◌, List, [], ◌∷◌, length, Option, Some, None, Result, Ok, Err, bytes_eq}
use Rattle.toml.specs.Data.{Data, Items, Members, as_array}
use Rattle.net_model.specs.declared.limits.TheConstants.{MAX_NODES, LAST_TABLE, MIN_LINK_MTU, MAX_LINK_MTU}
use Rattle.toml_reader.specs.TomlReading.{◌>>=◌, or_fault, document_of}
use Rattle.toml_reader.specs.Tree.{data_of}
use Rattle.net_syntax.specs.declared.family_prefix.FamilyPrefix.{FamilyPrefix}
use Rattle.plan_syntax.specs.declared.limits.TheConstants.{MAX_CABLES, MAX_METRICS, MAX_LOCATORS, MAX_SITES, MAX_SITE_PREFIXES, MAX_METRIC, DEFAULT_METRIC}
use Rattle.plan_syntax.specs.declared.plan_places.PlanTable.TheVariants as tables
use Rattle.plan_syntax.specs.declared.plan_places.PlanKey.{PlanKey}
use Rattle.plan_syntax.specs.declared.plan_places.PlanKey.TheVariants as keys
use Rattle.plan_syntax.specs.declared.plan_places.PlanPlace.{PlanPlace}
use Rattle.plan_syntax.specs.declared.plan_faults.PlanFault.{PlanFault}
use Rattle.plan_syntax.specs.declared.plan_faults.PlanFaultKind.TheVariants as kinds
use Rattle.plan_syntax.specs.declared.both_ways.BothWays.{BothWays}
use Rattle.plan_syntax.specs.declared.two_names.TwoNames.{TwoNames}
use Rattle.plan_syntax.specs.declared.cable_table.DescribedCable.{DescribedCable}
use Rattle.plan_syntax.specs.declared.metric_table.DescribedMetric.{DescribedMetric}
use Rattle.plan_syntax.specs.declared.locator_table.DescribedLocator.{DescribedLocator}
use Rattle.plan_syntax.specs.declared.site_table.DescribedSite.{DescribedSite}
use Rattle.plan_syntax.specs.declared.plan_table.DescribedPlan.{DescribedPlan}
use Rattle.plan_syntax.specs.PlanFaults.{plan_fault_at}
use Rattle.plan_syntax.specs.PlanTree.{name_in, prefix_in, number_in, flag_in, given, some_of, list_in, needed, optional, only, items_at}

-- ---- values

-- a list of another length than it has to have
abbrev pub wrong_length : {X Y : Type 0} → PlanPlace → PlanKey → List X → Result Y PlanFault
wrong_length p k xs = Err (plan_fault_at p (kinds.Limit k (pos (length xs))))

-- ---- the links of a cable: one from its first node to its second, and one back

abbrev pub no_numbers : BothWays
no_numbers = record { there = None; back = None }

abbrev pub two_numbers : ℕ → ℕ → PlanPlace → PlanKey → List Data → Result BothWays PlanFault
two_numbers least most p k [] = wrong_length {X = Data} p k []
two_numbers least most p k (d ∷ []) = wrong_length p k (d ∷ [])
two_numbers least most p k (d ∷ e ∷ []) = do
  there ← number_in least most p k d
  back ← number_in least most p k e
  Ok (record { there = Some there; back = Some back })
two_numbers least most p k (d ∷ e ∷ f ∷ ds) = wrong_length p k (d ∷ e ∷ f ∷ ds)

abbrev pub one_number : ℕ → ℕ → PlanPlace → PlanKey → Data → Result BothWays PlanFault
one_number least most p k d = do
  number ← number_in least most p k d
  Ok (record { there = Some number; back = Some number })

abbrev pub both_of : ℕ → ℕ → PlanPlace → PlanKey → Data → Option Items → Result BothWays PlanFault
both_of least most p k d None = one_number least most p k d
both_of least most p k d (Some items) = two_numbers least most p k (data_of items)

-- a number for both links, or a list of two
abbrev pub both_in : ℕ → ℕ → PlanPlace → PlanKey → Data → Result BothWays PlanFault
both_in least most p k d = both_of least most p k d (as_array d)

-- two names that differ
abbrev pub two_of : PlanPlace → PlanKey → List (List ℕ) → Result TwoNames PlanFault
two_of p k [] = wrong_length {X = List ℕ} p k []
two_of p k (a ∷ []) = wrong_length p k (a ∷ [])
two_of p k (a ∷ b ∷ []) = if bytes_eq a b then Err (plan_fault_at p kinds.BadStructure) else Ok (record { first = a; second = b })
two_of p k (a ∷ b ∷ c ∷ names) = wrong_length p k (a ∷ b ∷ c ∷ names)

abbrev pub two_at : PlanPlace → Members → PlanKey → Result TwoNames PlanFault
two_at p t k = do
  names ← needed (list_in 2 name_in) p t k
  two_of p k names

abbrev pub two_of_given : PlanPlace → PlanKey → Option (List (List ℕ)) → Result (Option TwoNames) PlanFault
two_of_given p k None = Ok None
two_of_given p k (Some names) = do
  two ← two_of p k names
  Ok (Some two)

abbrev pub two_if_given : PlanPlace → Members → PlanKey → Result (Option TwoNames) PlanFault
two_if_given p t k = do
  names ← optional (given (list_in 2 name_in)) None p t k
  two_of_given p k names

-- ---- items

-- a cable, which gives a link each way
abbrev pub cable_of : PlanPlace → Members → Result DescribedCable PlanFault
cable_of p t = do
  known ← only (keys.Nodes ∷ keys.Metric ∷ keys.Mtu ∷ keys.Links ∷ []) p t
  nodes ← two_at p known keys.Nodes
  metrics ← optional (both_in 1 MAX_METRIC) no_numbers p known keys.Metric
  mtus ← optional (both_in MIN_LINK_MTU MAX_LINK_MTU) no_numbers p known keys.Mtu
  links ← two_if_given p known keys.Links
  Ok (record { nodes = nodes; metrics = metrics; mtus = mtus; links = links })

-- the metric of a link by its name
abbrev pub metric_of : PlanPlace → Members → Result DescribedMetric PlanFault
metric_of p t = do
  known ← only (keys.Name ∷ keys.Metric ∷ []) p t
  name ← needed name_in p known keys.Name
  metric ← needed (number_in 1 MAX_METRIC) p known keys.Metric
  Ok (record { name = name; metric = metric })

abbrev pub some_names : PlanPlace → Members → Result (List (List ℕ)) PlanFault
some_names p t = do
  names ← needed (list_in MAX_NODES name_in) p t keys.Nodes
  some_of p keys.Nodes names

-- a prefix that nodes have, at least one
abbrev pub locator_of : PlanPlace → Members → Result DescribedLocator PlanFault
locator_of p t = do
  known ← only (keys.Prefix ∷ keys.Nodes ∷ keys.Table ∷ []) p t
  prefix ← needed prefix_in p known keys.Prefix
  nodes ← some_names p known
  table ← optional (number_in 0 LAST_TABLE) 0 p known keys.Table
  Ok (record { prefix = prefix; nodes = nodes; table = table })

abbrev pub some_prefixes : PlanPlace → Members → Result (List FamilyPrefix) PlanFault
some_prefixes p t = do
  prefixes ← needed (list_in MAX_SITE_PREFIXES prefix_in) p t keys.Prefixes
  some_of p keys.Prefixes prefixes

-- prefixes, at least one, that a node sends out of the network over a link
abbrev pub site_of : PlanPlace → Members → Result DescribedSite PlanFault
site_of p t = do
  known ← only (keys.Node ∷ keys.Link ∷ keys.Table ∷ keys.Prefixes ∷ []) p t
  node ← needed name_in p known keys.Node
  link ← needed name_in p known keys.Link
  table ← optional (number_in 0 LAST_TABLE) 0 p known keys.Table
  prefixes ← some_prefixes p known
  Ok (record { node = node; link = link; table = table; prefixes = prefixes })

-- ---- the whole

abbrev pub plan_place : PlanPlace
plan_place = record { table = tables.Plan; item = 0 }

-- its own keys, then the tables in their order
abbrev pub plan_of : Members → Result DescribedPlan PlanFault
plan_of root = do
  known ← only (
      keys.Metric ∷ keys.Mtu ∷ keys.Ends ∷ keys.Addresses ∷ keys.Cable ∷ keys.Link ∷ keys.Locator ∷ keys.Site ∷ []) plan_place root
  metric ← optional (number_in 1 MAX_METRIC) DEFAULT_METRIC plan_place known keys.Metric
  mtu ← optional (given (number_in MIN_LINK_MTU MAX_LINK_MTU)) None plan_place known keys.Mtu
  ends ← optional flag_in true plan_place known keys.Ends
  addresses ← optional flag_in false plan_place known keys.Addresses
  cables ← items_at tables.Cable keys.Cable MAX_CABLES cable_of known
  links ← items_at tables.Link keys.Link MAX_METRICS metric_of known
  locators ← items_at tables.Locator keys.Locator MAX_LOCATORS locator_of known
  sites ← items_at tables.Site keys.Site MAX_SITES site_of known
  Ok (record {
    metric = metric;
    mtu = mtu;
    ends = ends;
    addresses = addresses;
    cables = cables;
    links = links;
    locators = locators;
    sites = sites;
  })

-- what a text says: first whether it is TOML
abbrev pub plan_in : List ℕ → Result DescribedPlan PlanFault
plan_in text = do
  root ← or_fault (plan_fault_at plan_place kinds.NotToml) (document_of text)
  plan_of root
