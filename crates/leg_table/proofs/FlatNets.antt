-- What a flat network gives to legs and lists.
use Rattle.std.proofs.Common.{◌≡◌, ℕ, ◌+◌, ◌*◌, ◌≤◌, slice_get, Some}
use Rattle.srv6_rules.specs.declared.family.Family.TheVariants as families
use Rattle.srv6_rules.specs.declared.sid.SidEntry.{SidEntry}
use Rattle.net_model.specs.Network.{Network}
use Rattle.net_model.specs.Best.{lookup_of}
use Rattle.net_model.specs.NetworkRules.{block_of}
use Rattle.net_model.specs.NetworkRulesTerms.{IsNetwork}
use Rattle.net_model.proofs.PublicLaws.{keeps_from_network, contains_from_get}
use Rattle.net_flatness.specs.Flat.{IsFlat}
use Rattle.net_flatness.specs.NestsTerms.{IsOwn}
use Rattle.net_flatness.proofs.PublicLaws.{lookups_alike, sid_units}
use Rattle.net_model.specs.declared.parts.Block.{Block}
use Rattle.list_pack.specs.SidListsTerms.{AreListSids}
use Rattle.list_pack.proofs.PublicLaws.{flat_lists}
use Rattle.leg_table.proofs.OwnPlaces.{first_own}

-- a SID's own addresses are looked up alike, one of which is the first of its prefix, each SID suits its prefix as lists know it, and a
-- SID in a block is longer than the block by whole units of 16 bits
pub record FlatFacts (net : Network) : Type 0 where
  pub alike : (n node table a b : ℕ) (s : SidEntry) → slice_get net.sids n ≡ Some s → IsOwn net s a → IsOwn net s b
      → lookup_of net node table families.V6 a ≡ lookup_of net node table families.V6 b
  pub first : (n : ℕ) (s : SidEntry) → slice_get net.sids n ≡ Some s → IsOwn net s s.prefix.value
  pub suits : AreListSids net
  pub units : (n : ℕ) (s : SidEntry) (b : Block) → slice_get net.sids n ≡ Some s → block_of net.blocks s.prefix ≡ Some b
      → (k : ℕ) × (1 ≤ k) × (s.prefix.len ≡ b.prefix.len + 16 * k)

pub flat_facts : (net : Network) → IsNetwork net → IsFlat net → FlatFacts net
flat_facts net network flat =
    record {
      alike = λ n node table a b s there own also. lookups_alike net n s node table a b flat there own also;
      first = λ n s there. first_own net (keeps_from_network net network) s (contains_from_get net.sids n s there);
      suits = flat_lists net network flat;
      units = λ n s b there is.
          let of = sid_units net n s b network flat there is in
          (of.units, of.some, of.len);
    }
