-- Need not be believed: no program stands on it yet.
-- The network of a description and of the cables and sites of a plan, before the plan's routes.
use Rattle.std.specs.Prelude.{ℕ, List, Result, Ok, Err, ◌++◌, codes}
use Rattle.text_faults.specs.declared.text_place.TableKind.TheVariants as tables
use Rattle.text_faults.specs.declared.text_place.Key.TheVariants as keys
use Rattle.text_faults.specs.declared.fault.TextFault.{TextFault}
use Rattle.text_faults.specs.TextFaults.{kind_number, fault_text}
use Rattle.net_model.specs.declared.limits.TheConstants.{MAX_LINKS}
use Rattle.net_model.specs.Network.{Network}
use Rattle.toml_reader.specs.TomlReading.{◌>>=◌}
use Rattle.toml_reader.specs.Tree.{few}
use Rattle.net_syntax.specs.declared.description.Description.{Description}
use Rattle.net_syntax.specs.DescriptionText.{description_in}
use Rattle.net_reader.specs.NetworkReading.{judged_network}
use Rattle.plan_syntax.specs.declared.plan_faults.PlanFault.{PlanFault}
use Rattle.plan_syntax.specs.PlanFaults.{plan_fault_text}
use Rattle.plan_syntax.specs.declared.plan_table.DescribedPlan.{DescribedPlan}
use Rattle.net_plan.specs.declared.base_fault.BaseFault.{BaseFault}
use Rattle.net_plan.specs.declared.base_fault.BaseFault.TheVariants as faults
use Rattle.net_plan.specs.CableLinks.{links_with}

-- a fault of the plan, and one of the description or of the parts that come of both
abbrev pub of_plan : {X : Type 0} → Result X PlanFault → Result X BaseFault
of_plan (Ok x) = Ok x
of_plan (Err fault) = Err (faults.Plan fault)

abbrev pub of_net : {X : Type 0} → Result X TextFault → Result X BaseFault
of_net (Ok x) = Ok x
of_net (Err fault) = Err (faults.Net fault)

-- the plan's names are judged first, then how many links there are, then the parts
abbrev pub base_of : Description → DescribedPlan → Result Network BaseFault
base_of said plan = do
  links ← of_plan (links_with said.nodes said.links plan)
  all ← of_net (few (record { table = tables.Link; item = 0 }) keys.Link MAX_LINKS links)
  of_net (judged_network (record said { links = all }))

abbrev pub base_in : List ℕ → DescribedPlan → Result Network BaseFault
base_in text plan = do
  said ← of_net (description_in text)
  base_of said plan

-- ---- how a fault is told

abbrev pub base_fault_number : BaseFault → ℕ
base_fault_number (faults.Plan fault) = 55
base_fault_number (faults.Net fault) = kind_number fault.kind

unfoldable pub base_fault_text : BaseFault → List ℕ
base_fault_text (faults.Plan fault) = codes "Plan " ++ plan_fault_text fault
base_fault_text (faults.Net fault) = fault_text fault
