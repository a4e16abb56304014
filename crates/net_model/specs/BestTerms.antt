-- Need not be believed: helps proofs and other laws.
-- Terms beside those of `specs/Best.antt`.
use Rattle.std.specs.Prelude.{◌≡◌, ℕ, ◌≤◌, List, Contains}
use Rattle.v6_addr.specs.Address.{PrefixValue, Holds}
use Rattle.srv6_rules.specs.declared.family.Family.{Family}
use Rattle.net_model.specs.declared.parts.Route.{Route}
use Rattle.net_model.specs.declared.net.Hit.{Hit}
use Rattle.net_model.specs.declared.net.Hit.TheVariants as hits
use Rattle.net_model.specs.Network.{Network}
use Rattle.net_model.specs.Best.{Entry, entries_of}

-- at equal prefixes a SID comes before the address, and the address before a route
abbrev pub rank_of : Hit → ℕ
rank_of (hits.Sid n) = 0
rank_of hits.Address = 1
rank_of (hits.Route n) = 2
rank_of hits.Nothing = 3

-- the entry fits the address no worse than another that holds it
abbrev pub FitsNoWorse : Entry → Entry → Type 0
FitsNoWorse e other = (other.prefix.len ≤ e.prefix.len) × (other.prefix.len ≡ e.prefix.len → rank_of e.hit ≤ rank_of other.hit)

-- the entry holds the address, and no entry that holds it fits better
pub record IsBestEntry (entries : List Entry) (a : ℕ) (e : Entry) : Type 0 where
  pub is_there : Contains entries e
  pub holds : Holds e.prefix a
  pub no_better : (other : Entry) → Contains entries other → Holds other.prefix a → FitsNoWorse e other

-- best match: the hit of an entry that fits best, and nothing exactly where no entry holds the address
abbrev pub IsBest : Network → ℕ → ℕ → Family → ℕ → Hit → Type 0
IsBest net node table family a hits.Nothing = (e : Entry) → Contains (entries_of net node table family) e → ¬ Holds e.prefix a
IsBest net node table family a (hits.Sid n) = (p : PrefixValue) × IsBestEntry (entries_of net node table family) a
    (record { hit = hits.Sid n; prefix = p })
IsBest net node table family a (hits.Route n) = (p : PrefixValue) × IsBestEntry (entries_of net node table family) a
    (record { hit = hits.Route n; prefix = p })
IsBest net node table family a hits.Address = (p : PrefixValue) × IsBestEntry (entries_of net node table family) a
    (record { hit = hits.Address; prefix = p })
