-- Need not be believed: helps proofs and other laws.
-- Terms beside those of `specs/CertificateReading.antt`.
use Rattle.std.specs.Prelude.{◌≡◌, ℕ, List, [], ◌∷◌, slice_get, Option, Some, None, Result, Ok, Err}
use Rattle.srv6_rules.specs.declared.sid.SidEntry.{SidEntry}
use Rattle.net_model.specs.Network.{Network}
use Rattle.list_pack.specs.LegsValue.{LegsValue}
use Rattle.list_pack.specs.LegsValueTerms.{IsSid}
use Rattle.list_pack.specs.Costs.{IsState}
use Rattle.list_certificate.specs.declared.certificate_types.PotentialLine.{PotentialLine}
use Rattle.list_certificate.specs.declared.certificate_types.Cert.{Cert}
use Rattle.list_certificate.specs.declared.item.Item.{Item}
use Rattle.list_certificate.specs.declared.item.Item.TheVariants as items
use Rattle.list_certificate.specs.declared.line_words.Row.{Row}
use Rattle.list_certificate.specs.declared.line_words.Parts.{Parts}
use Rattle.list_certificate.specs.declared.draft.Draft.{Draft}
use Rattle.list_certificate.specs.declared.draft.Key.{Key}
use Rattle.list_certificate.specs.declared.certificate_types.CertFault.{CertFault}
use Rattle.list_certificate.specs.declared.certificate_types.CertFault.TheVariants as faults
use Rattle.list_certificate.specs.CertificateReading.{Cut, RowValue, Read}

-- the network is that of the legs: their SIDs are SIDs of it, with its prefixes and nodes
pub record IsSidOf (net : Network) (v : LegsValue) (n : ℕ) : Type 0 where
  pub sid : SidEntry
  pub here : slice_get net.sids n ≡ Some sid
  pub prefix : (v.shape n).prefix ≡ sid.prefix
  pub node : v.node n ≡ sid.node

abbrev pub IsNetworkOf : Network → LegsValue → Type 0
IsNetworkOf net v = (n : ℕ) → IsSid v n → IsSidOf net v n

-- the values of what code reads
abbrev pub cut_value : Parts → Cut
cut_value p = record { front = p.front.now; rest = p.rest.now }

abbrev pub row_value : Row → RowValue
row_value r = record { position = r.position; sid = r.sid.now; room = r.room; cost = r.cost }

abbrev pub read_value : Draft → Read
read_value d =
    record { stage = d.stage; head = d.head; potentials = d.potentials.items; path = d.path.items; none = d.none; end = d.end }

abbrev pub read_values : Option Draft → Option Read
read_values None = None
read_values (Some d) = Some (read_value d)

abbrev pub key_value : Key → List ℕ
key_value k = k.position ∷ k.value ∷ k.len ∷ k.node ∷ k.room ∷ []

-- a line that lists something lists a state
abbrev pub IsItem : LegsValue → Item → Type 0
IsItem v (items.Listed q) = IsState v q.state
IsItem v items.Comment = Unit {0}
IsItem v items.Head = Unit {0}
IsItem v (items.Step p) = Unit {0}
IsItem v items.NoPath = Unit {0}
IsItem v items.End = Unit {0}
IsItem v items.Other = Unit {0}

abbrev pub AreStates : LegsValue → List PotentialLine → Type 0
AreStates v lines = (i : ℕ) (l : PotentialLine) → slice_get lines i ≡ Some l → IsState v l.potential.state

-- a reader gives what a text spells, unless memory runs out
abbrev pub Refuses : CertFault → Result Cert ℕ → Type 0
Refuses (faults.BadCert line) read = read ≡ Err line
Refuses faults.NoMemory read = Unit {0}

abbrev pub GivesCertificate : Result Cert CertFault → Result Cert ℕ → Type 0
GivesCertificate (Ok cert) read = read ≡ Ok cert
GivesCertificate (Err fault) read = Refuses fault read
