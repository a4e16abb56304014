-- Prefixes of either family.
use Rattle.std.specs.Prelude.{ℕ, List, Option, Some, None, option_map, Result}
use Rattle.toml.specs.Data.{Data}
use Rattle.v6_addr.specs.Address.{PrefixValue}
use Rattle.v6_addr.specs.Scan4.{prefix4_of_text}
use Rattle.v6_addr.specs.Text.{prefix_of_text}
use Rattle.text_faults.specs.declared.text_place.FaultPlace.{FaultPlace}
use Rattle.text_faults.specs.declared.text_place.Key.{Key}
use Rattle.text_faults.specs.declared.fault.TextFault.{TextFault}
use Rattle.text_faults.specs.declared.fault_kind.FaultKind.TheVariants as kinds
use Rattle.text_faults.specs.TextFaults.{fault_at}
use Rattle.srv6_rules.specs.declared.family.Family.{Family}
use Rattle.srv6_rules.specs.declared.family.Family.TheVariants.{V6, V4}
use Rattle.net_syntax.specs.declared.family_prefix.FamilyPrefix.{FamilyPrefix}
use Rattle.toml_reader.specs.TomlReading.{◌>>=◌, or_fault}
use Rattle.toml_reader.specs.Tree.{text_in}

abbrev pub of_family : Family → PrefixValue → FamilyPrefix
of_family family prefix = record { family = family; prefix = prefix }

-- the first that is there
abbrev pub or_else : {X : Type 0} → Option X → Option X → Option X
or_else None other = other
or_else (Some x) other = Some x

-- the prefix that a text writes, of the one family or of the other
abbrev pub family_prefix_of : List ℕ → Option FamilyPrefix
family_prefix_of text = or_else (option_map (of_family V6) (prefix_of_text text)) (option_map (of_family V4) (prefix4_of_text text))

abbrev pub family_prefix_in : FaultPlace → Key → Data → Result FamilyPrefix TextFault
family_prefix_in p k d = do
  text ← text_in p d
  or_fault (fault_at p kinds.BadAddress) (family_prefix_of text)
