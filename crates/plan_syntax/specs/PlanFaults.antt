-- Need not be believed: no program stands on it yet.
-- Faults of plans: a kind of fault at a place, and how it is told.
use Rattle.std.specs.Prelude.{ℕ, List, [], ◌∷◌, ◌++◌, codes}
use Rattle.std.specs.Fmt.{decimal}
use Rattle.text_faults.specs.declared.fault_kind.FaultKind.{FaultKind}
use Rattle.text_faults.specs.declared.fault_kind.FaultKind.TheVariants as texts
use Rattle.plan_syntax.specs.declared.plan_places.PlanKey.{PlanKey}
use Rattle.plan_syntax.specs.declared.plan_places.PlanPlace.{PlanPlace}
use Rattle.plan_syntax.specs.declared.plan_faults.PlanFaultKind.{PlanFaultKind}
use Rattle.plan_syntax.specs.declared.plan_faults.PlanFaultKind.TheVariants as kinds
use Rattle.plan_syntax.specs.declared.plan_faults.PlanFault.{PlanFault}
use Rattle.plan_syntax.specs.PlanWords.{plan_table_text, plan_key_text}

-- the fault of a kind at a place
abbrev pub plan_fault_at : PlanPlace → PlanFaultKind → PlanFault
plan_fault_at p kind = record { place = p; kind = kind }

-- a kind of fault of a value, as it is told of a plan, with the plan's key; values of plans have no flavours, and none is the prefix of
-- an earlier item
abbrev pub kind_told : PlanKey → FaultKind → PlanFaultKind
kind_told k texts.NotToml = kinds.NotToml
kind_told k (texts.MissingKey key) = kinds.MissingKey k
kind_told k texts.WrongKind = kinds.WrongKind
kind_told k texts.UnknownKey = kinds.UnknownKey
kind_told k texts.BadName = kinds.BadName
kind_told k texts.UnknownName = kinds.UnknownName
kind_told k texts.DoubleName = kinds.DoubleName
kind_told k texts.BadAddress = kinds.BadAddress
kind_told k texts.BadFlavour = kinds.BadStructure
kind_told k texts.BadStructure = kinds.BadStructure
kind_told k texts.DoublePrefix = kinds.BadStructure
kind_told k (texts.Limit what value) = kinds.Limit k value

-- a kind's name
unfoldable pub plan_kind_name : PlanFaultKind → List ℕ
plan_kind_name kinds.NotToml = codes "NotToml"
plan_kind_name (kinds.MissingKey key) = codes "MissingKey"
plan_kind_name kinds.WrongKind = codes "WrongKind"
plan_kind_name kinds.UnknownKey = codes "UnknownKey"
plan_kind_name kinds.BadName = codes "BadName"
plan_kind_name kinds.UnknownName = codes "UnknownName"
plan_kind_name kinds.DoubleName = codes "DoubleName"
plan_kind_name kinds.BadAddress = codes "BadAddress"
plan_kind_name kinds.BadStructure = codes "BadStructure"
plan_kind_name (kinds.Limit what value) = codes "Limit"

-- the table and the item's number
abbrev pub plan_place_text : PlanPlace → List ℕ
plan_place_text p = plan_table_text p.table ++ 32 ∷ decimal p.item

-- what is told of a kind after its name: where it is, of a text that is not TOML nothing, and the key too where one is missing
abbrev pub plan_fields_text : PlanPlace → PlanFaultKind → List ℕ
plan_fields_text p kinds.NotToml = []
plan_fields_text p (kinds.MissingKey key) = 32 ∷ (plan_place_text p ++ 32 ∷ plan_key_text key)
plan_fields_text p kinds.WrongKind = 32 ∷ plan_place_text p
plan_fields_text p kinds.UnknownKey = 32 ∷ plan_place_text p
plan_fields_text p kinds.BadName = 32 ∷ plan_place_text p
plan_fields_text p kinds.UnknownName = 32 ∷ plan_place_text p
plan_fields_text p kinds.DoubleName = 32 ∷ plan_place_text p
plan_fields_text p kinds.BadAddress = 32 ∷ plan_place_text p
plan_fields_text p kinds.BadStructure = 32 ∷ plan_place_text p
plan_fields_text p (kinds.Limit what value) = 32 ∷ plan_place_text p

-- a fault's name and its fields
unfoldable pub plan_fault_text : PlanFault → List ℕ
plan_fault_text fault = plan_kind_name fault.kind ++ plan_fields_text fault.place fault.kind
