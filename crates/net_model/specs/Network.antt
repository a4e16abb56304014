-- A network as the lists of its parts, in the order of its description, and what of it is hidden.
use Rattle.std.specs.Prelude.{ℕ, Bool, true, false, ◌==◌, not, List}
use Rattle.std.specs.List.{list_any}
use Rattle.srv6_rules.specs.declared.sid.SidEntry.{SidEntry}
use Rattle.net_model.specs.declared.parts.Block.{Block}
use Rattle.net_model.specs.declared.parts.Node.{Node}
use Rattle.net_model.specs.declared.parts.Link.{Link}
use Rattle.net_model.specs.declared.parts.Route.{Route}
use Rattle.net_model.specs.declared.parts.NamedPolicy.{NamedPolicy}
use Rattle.net_model.specs.declared.net.Hit.{Hit}
use Rattle.net_model.specs.declared.net.Hit.TheVariants as hits
use Rattle.net_model.specs.declared.net.EntryId.{EntryId}
use Rattle.net_model.specs.declared.net.EntryId.TheVariants as entries

-- an item's number is its place in its list, from 0; the hidden routes and SIDs stay in their lists, at their numbers
pub record Network : Type 0 where
  pub blocks : List Block
  pub nodes : List Node
  pub links : List Link
  pub routes : List Route
  pub policies : List NamedPolicy
  pub titles : List (List ℕ)
  pub sids : List SidEntry
  pub hidden : List Hit

-- ---- what is hidden

abbrev pub same_hit : Hit → Hit → Bool
same_hit (hits.Sid m) (hits.Sid n) = m == n
same_hit (hits.Sid m) hits.Address = false
same_hit (hits.Sid m) (hits.Route n) = false
same_hit (hits.Sid m) hits.Nothing = false
same_hit hits.Address (hits.Sid n) = false
same_hit hits.Address hits.Address = true
same_hit hits.Address (hits.Route n) = false
same_hit hits.Address hits.Nothing = false
same_hit (hits.Route m) (hits.Sid n) = false
same_hit (hits.Route m) hits.Address = false
same_hit (hits.Route m) (hits.Route n) = m == n
same_hit (hits.Route m) hits.Nothing = false
same_hit hits.Nothing (hits.Sid n) = false
same_hit hits.Nothing hits.Address = false
same_hit hits.Nothing (hits.Route n) = false
same_hit hits.Nothing hits.Nothing = true

-- an entry is shown where it isn't among the hidden ones
abbrev pub is_shown : List Hit → Hit → Bool
is_shown hidden h = not (list_any (same_hit h) hidden)

-- what an entry of a network is as a hit
abbrev pub hit_of_entry : EntryId → Hit
hit_of_entry (entries.Route n) = hits.Route n
hit_of_entry (entries.Sid n) = hits.Sid n
hit_of_entry (entries.Address n) = hits.Address
