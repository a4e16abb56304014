-- Need not be believed: helps proofs and other laws.
-- Terms beside those of `specs/Planned.antt`.
use Rattle.std.specs.Prelude.{◌≡◌, ℕ, ◌-◌, Bool, false, ◌==◌, not, List}
use Rattle.std.specs.List.{list_any}
use Rattle.srv6_rules.specs.declared.family.Family.{Family}
use Rattle.net_model.specs.declared.net.Hit.{Hit}
use Rattle.net_model.specs.declared.net.Hit.TheVariants as hits
use Rattle.net_model.specs.Network.{Network}
use Rattle.net_model.specs.Best.{lookup_of}
use Rattle.net_model.specs.declared.net.EntryId.{EntryId}
use Rattle.net_model.specs.declared.net.EntryId.TheVariants as ids
use Rattle.update_spec.specs.Joined.{joined_of}
use Rattle.update_theory.specs.LookupsTerms.{shown_lookup}
use Rattle.update_flight.specs.Planned.{hidden_after}
use Rattle.update_spec.specs.Changes.{added_entries, removed_entries}

-- a name is that of a hit; no node's own address is added or removed
abbrev pub names : EntryId → Hit → Bool
names (ids.Route n) (hits.Sid m) = false
names (ids.Route n) hits.Address = false
names (ids.Route n) (hits.Route m) = n == m
names (ids.Route n) hits.Nothing = false
names (ids.Sid n) (hits.Sid m) = n == m
names (ids.Sid n) hits.Address = false
names (ids.Sid n) (hits.Route m) = false
names (ids.Sid n) hits.Nothing = false
names (ids.Address n) (hits.Sid m) = false
names (ids.Address n) hits.Address = false
names (ids.Address n) (hits.Route m) = false
names (ids.Address n) hits.Nothing = false

abbrev pub is_shown_after : List EntryId → List EntryId → ℕ → Hit → Bool
is_shown_after added removed done h = not (list_any (λ entry. names entry h) (hidden_after added removed done))

-- the tables of each moment are those of the joined network, and show what the edits leave
pub record ShowsEdits (old new : Network) (tables : ℕ → Network) : Type 0 where
  pub nodes : (done : ℕ) → (tables done).nodes ≡ (joined_of old new).nodes
  pub links : (done : ℕ) → (tables done).links ≡ (joined_of old new).links
  pub routes : (done : ℕ) → (tables done).routes ≡ (joined_of old new).routes
  pub policies : (done : ℕ) → (tables done).policies ≡ (joined_of old new).policies
  pub sids : (done : ℕ) → (tables done).sids ≡ (joined_of old new).sids
  pub looks_up : (done node table : ℕ) (family : Family) (a : ℕ) → lookup_of (tables done) node table family a
      ≡ shown_lookup (is_shown_after (added_entries old new) (removed_entries old new) done) (joined_of old new) node table family a
