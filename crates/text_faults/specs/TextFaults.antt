-- Faults of texts: a kind of fault at a place, and how it is told.
use Rattle.std.specs.Prelude.{ℕ, List, [], ◌∷◌, ◌++◌, codes}
use Rattle.std.specs.Fmt.{decimal}
use Rattle.text_faults.specs.declared.text_place.FaultPlace.{FaultPlace}
use Rattle.text_faults.specs.declared.fault_kind.FaultKind.{FaultKind}
use Rattle.text_faults.specs.declared.fault_kind.FaultKind.TheVariants as kinds
use Rattle.text_faults.specs.declared.fault.TextFault.{TextFault}
use Rattle.text_faults.specs.Keys.{table_text, key_text}

-- the fault of a kind at a place
abbrev pub fault_at : FaultPlace → FaultKind → TextFault
fault_at p kind = record { place = p; kind = kind }

-- a kind's number
abbrev pub kind_number : FaultKind → ℕ
kind_number kinds.NotToml = 21
kind_number (kinds.MissingKey key) = 22
kind_number kinds.WrongKind = 23
kind_number kinds.UnknownKey = 24
kind_number kinds.BadName = 25
kind_number kinds.UnknownName = 26
kind_number kinds.DoubleName = 27
kind_number kinds.BadAddress = 28
kind_number kinds.BadFlavour = 29
kind_number kinds.BadStructure = 30
kind_number kinds.DoublePrefix = 31
kind_number (kinds.Limit what value) = 32

-- a kind's name
unfoldable pub kind_name : FaultKind → List ℕ
kind_name kinds.NotToml = codes "NotToml"
kind_name (kinds.MissingKey key) = codes "MissingKey"
kind_name kinds.WrongKind = codes "WrongKind"
kind_name kinds.UnknownKey = codes "UnknownKey"
kind_name kinds.BadName = codes "BadName"
kind_name kinds.UnknownName = codes "UnknownName"
kind_name kinds.DoubleName = codes "DoubleName"
kind_name kinds.BadAddress = codes "BadAddress"
kind_name kinds.BadFlavour = codes "BadFlavour"
kind_name kinds.BadStructure = codes "BadStructure"
kind_name kinds.DoublePrefix = codes "DoublePrefix"
kind_name (kinds.Limit what value) = codes "Limit"

-- the table and the item's number
abbrev pub place_text : FaultPlace → List ℕ
place_text p = table_text p.table ++ 32 ∷ decimal p.item

-- what is told of a kind after its name: where it is, of a text that is not TOML nothing, and the key too where one is missing
abbrev pub fields_text : FaultPlace → FaultKind → List ℕ
fields_text p kinds.NotToml = []
fields_text p (kinds.MissingKey key) = 32 ∷ (place_text p ++ 32 ∷ key_text key)
fields_text p kinds.WrongKind = 32 ∷ place_text p
fields_text p kinds.UnknownKey = 32 ∷ place_text p
fields_text p kinds.BadName = 32 ∷ place_text p
fields_text p kinds.UnknownName = 32 ∷ place_text p
fields_text p kinds.DoubleName = 32 ∷ place_text p
fields_text p kinds.BadAddress = 32 ∷ place_text p
fields_text p kinds.BadFlavour = 32 ∷ place_text p
fields_text p kinds.BadStructure = 32 ∷ place_text p
fields_text p kinds.DoublePrefix = 32 ∷ place_text p
fields_text p (kinds.Limit what value) = 32 ∷ place_text p

-- a fault's name and its fields
unfoldable pub fault_text : TextFault → List ℕ
fault_text fault = kind_name fault.kind ++ fields_text fault.place fault.kind
