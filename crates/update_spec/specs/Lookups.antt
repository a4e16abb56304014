-- Look-ups in the joined network of two descriptions while some of its entries are hidden. Those of the old
-- description stand there at their numbers; those of the new one are the old entries that stay and all behind them.
use Rattle.std.specs.Prelude.{◌≡◌, slice_get, Some}
use Rattle.srv6_rules.specs.declared.sid.SidEntry.{SidEntry}
use Rattle.net_model.specs.declared.parts.Route.{Route}
use Rattle.net_model.specs.declared.net.Hit.{Hit}
use Rattle.net_model.specs.declared.net.Hit.TheVariants as hits
use Rattle.net_model.specs.Network.{Network}
use Rattle.net_model.specs.NetworkJudging.{title_text}

-- SIDs of two networks that are equal in all fields, titles by their texts
pub record SameSid (a b : Network) (s t : SidEntry) : Type 0 where
  pub node : s.node ≡ t.node
  pub prefix : s.prefix ≡ t.prefix
  pub behaviour : s.behaviour ≡ t.behaviour
  pub csid : s.csid ≡ t.csid
  pub block_len : s.block_len ≡ t.block_len
  pub psp : s.psp ≡ t.psp
  pub usp : s.usp ≡ t.usp
  pub usd : s.usd ≡ t.usd
  pub links : s.links ≡ t.links
  pub title : title_text a.titles s ≡ title_text b.titles t

-- hits of two networks that name equal entries
abbrev pub SameHit : Network → Network → Hit → Hit → Type 0
SameHit a b (hits.Sid m) (hits.Sid n) =
    (s : SidEntry) × (t : SidEntry) × (slice_get a.sids m ≡ Some s) × (slice_get b.sids n ≡ Some t) × SameSid a b s t
SameHit a b (hits.Sid m) hits.Address = ⊥
SameHit a b (hits.Sid m) (hits.Route n) = ⊥
SameHit a b (hits.Sid m) hits.Nothing = ⊥
SameHit a b hits.Address (hits.Sid n) = ⊥
SameHit a b hits.Address hits.Address = Unit {0}
SameHit a b hits.Address (hits.Route n) = ⊥
SameHit a b hits.Address hits.Nothing = ⊥
SameHit a b (hits.Route m) (hits.Sid n) = ⊥
SameHit a b (hits.Route m) hits.Address = ⊥
SameHit a b (hits.Route m) (hits.Route n) = (r : Route) × (slice_get a.routes m ≡ Some r) × (slice_get b.routes n ≡ Some r)
SameHit a b (hits.Route m) hits.Nothing = ⊥
SameHit a b hits.Nothing (hits.Sid n) = ⊥
SameHit a b hits.Nothing hits.Address = ⊥
SameHit a b hits.Nothing (hits.Route n) = ⊥
SameHit a b hits.Nothing hits.Nothing = Unit {0}
