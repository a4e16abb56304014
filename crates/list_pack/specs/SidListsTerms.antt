-- Need not be believed: helps proofs and other laws.
-- Terms beside those of `specs/SidLists.antt`.
use Rattle.std.specs.Prelude.{◌≡◌, ℕ, Bool, slice_get, Some}
use Rattle.std.specs.List.{list_any}
use Rattle.v6_addr.specs.Address.{PrefixValue}
use Rattle.srv6_rules.specs.declared.sid.SidEntry.{SidEntry}
use Rattle.net_model.specs.Network.{Network}
use Rattle.net_model.specs.NetworkRules.{same_prefix}
use Rattle.sid_list_theory.specs.SegmentListsTerms.{IsFlatSid}
use Rattle.sid_list_theory.specs.ListPlaces.{StandsOn}
use Rattle.list_pack.specs.SidLists.{list_sid}

-- ---- SIDs of a network as lists know them

-- each SID of the network stands on its prefix as lists know it, and that is as a flat network has it
pub record AreListSids (net : Network) : Type 0 where
  pub flat : (n : ℕ) (s : SidEntry) → slice_get net.sids n ≡ Some s → IsFlatSid (list_sid net s.prefix)
  pub stands : (n : ℕ) (s : SidEntry) → slice_get net.sids n ≡ Some s → StandsOn s (list_sid net s.prefix)

-- ---- lists

-- the same as a test
abbrev pub is_named : Network → PrefixValue → Bool
is_named net p = list_any (λ s. same_prefix s.prefix p) net.sids
