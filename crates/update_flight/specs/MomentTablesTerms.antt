-- Need not be believed: helps proofs and other laws.
-- Terms beside those of `specs/MomentTables.antt`.
use Rattle.std.specs.Prelude.{◌≡◌, ◌≢◌, ℕ}
use Rattle.srv6_rules.specs.declared.family.Family.{Family}
use Rattle.net_model.specs.declared.net.Hit.TheVariants as hits
use Rattle.net_model.specs.Network.{Network}
use Rattle.net_model.specs.Best.{lookup_of}

-- the tables of a moment keep a description's own matches: an address that the description has an entry for is looked up to that
-- entry, and all else than the tables is the description's
pub record KeepsOwn (own now : Network) : Type 0 where
  pub nodes : now.nodes ≡ own.nodes
  pub links : now.links ≡ own.links
  pub routes : now.routes ≡ own.routes
  pub policies : now.policies ≡ own.policies
  pub sids : now.sids ≡ own.sids
  pub matches : (node table : ℕ) (family : Family) (a : ℕ) → lookup_of own node table family a ≢ hits.Nothing
      → lookup_of now node table family a ≡ lookup_of own node table family a

-- tables that look up alike: each address is looked up to the same entry, and all else is the same, but for how it is written down
-- what is hidden
pub record AreAlike (one other : Network) : Type 0 where
  pub nodes : other.nodes ≡ one.nodes
  pub links : other.links ≡ one.links
  pub routes : other.routes ≡ one.routes
  pub policies : other.policies ≡ one.policies
  pub sids : other.sids ≡ one.sids
  pub finds : (node table : ℕ) (family : Family) (a : ℕ) → lookup_of other node table family a ≡ lookup_of one node table family a
