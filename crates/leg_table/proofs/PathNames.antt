-- Paths of strict legs as paths of any legs: their hops and their prefixes.
use Rattle.std.proofs.Common.{◌≡◌, ℕ, ◌+◌, List, [], ◌∷◌, map, Option, Some, None, slice_get, refl, ◌∙◌, ap}
use Rattle.std.specs.Option.{option_map}
use Rattle.v6_addr.specs.Address.{PrefixValue}
use Rattle.srv6_rules.specs.declared.sid.SidEntry.{SidEntry}
use Rattle.net_model.specs.Network.{Network}
use Rattle.intent_reader.specs.declared.intent.Intent.{Intent}
use Rattle.list_pack.specs.declared.types.Leg.{Leg}
use Rattle.list_pack.specs.PathsTerms.{hops_of, with_hops}
use Rattle.leg_table.specs.StrictLegsTerms.{leg_of}
use Rattle.leg_table.specs.RealizesTerms.{path_need}
use Rattle.leg_table.specs.PositionSids.{prefix_by, prefix_at}
use Rattle.leg_table.specs.StrictTable.{shape_by, shape_of}
use Rattle.leg_table.specs.StrictLegsValue.{legs_value}

module _ (net : Network) (intent : Intent) where
  hops_with : (o : Option Leg) (one other : ℕ → Option ℕ) → ((to : ℕ) → one to ≡ other to) → with_hops o one ≡ with_hops o other
  hops_with None one other same = refl
  hops_with (Some leg) one other same = ap (option_map (λ (n : ℕ). leg.hops + n)) (same leg.to)

  pub hops_need : (sids : List ℕ) (position : ℕ) (via : Option ℕ)
      → hops_of (legs_value net intent) position via sids ≡ path_need net intent position via sids
  hops_need [] position via = refl
  hops_need (n ∷ []) position via = refl
  hops_need (n ∷ m ∷ more) position via =
      hops_with (leg_of net intent position via n) (λ to. hops_of (legs_value net intent) to (Some n) (m ∷ more))
      (λ to. path_need net intent to (Some n) (m ∷ more)) (λ to. hops_need (m ∷ more) to (Some n))

-- ---- prefixes

pub shape_prefix : (net : Network) (n : ℕ) → (shape_of net n).prefix ≡ prefix_at net n
shape_prefix net n = by (slice_get net.sids n)
  where
    by : (o : Option SidEntry) → (shape_by net.blocks o).prefix ≡ prefix_by o
    by None = refl
    by (Some s) = refl

pub shapes_prefixes : (net : Network) (sids : List ℕ) → map (λ (n : ℕ). (shape_of net n).prefix) sids ≡ map (prefix_at net) sids
shapes_prefixes net [] = refl
shapes_prefixes net (n ∷ ns) =
    ap (λ (p : PrefixValue). p ∷ map (λ (m : ℕ). (shape_of net m).prefix) ns) (shape_prefix net n)
    ∙ ap (λ (ps : List PrefixValue). prefix_at net n ∷ ps) (shapes_prefixes net ns)
