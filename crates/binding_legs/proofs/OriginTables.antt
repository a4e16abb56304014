-- What is known of origins, and of ways from them.
use Rattle.std.proofs.Common.{◌≡◌, ℕ, drop, Option, Some, None, sym, ap}
use Rattle.std.specs.Prelude.{IfSome}
use Rattle.std.specs.Option.{option_and_then}
use Rattle.net_model.specs.NetworkKeeps.{Keeps}
use Rattle.net_model.specs.Network.{Network}
use Rattle.intent_reader.specs.IntentRulesTerms.{IsIntent}
use Rattle.intent_reader.specs.declared.intent.Intent.{Intent}
use Rattle.leg_table.specs.Courses.{behind_of}
use Rattle.leg_table.specs.TransitTables.{way_along}
use Rattle.binding_spec.specs.declared.origin.Origin.{Origin}
use Rattle.binding_spec.specs.Origins.{binding_origin, transit_from}
use Rattle.binding_legs_theory.specs.OriginFacts.{OriginsFrom}
use Rattle.binding_legs_theory.proofs.OriginPlaces.{origin_is}
use Rattle.binding_legs.specs.BindingTable.{binding_way}

pub origins_from : (net : Network) → Keeps net → (intent : Intent) → IsIntent net intent → (position : ℕ) (via : Option ℕ)
    → (origin : Option Origin) → origin ≡ binding_origin net intent position via → IfSome origin (OriginsFrom net intent position)
origins_from net keeps intent is position via None h = tt
origins_from net keeps intent is position via (Some s) h = (origin_is net keeps intent is position via s (sym h)).origins

module _ (net : Network) (intent : Intent) (position : ℕ) (via : Option ℕ) (next : ℕ) where
  -- by the origin
  pub way_from : (origin : Origin) → Some origin ≡ binding_origin net intent position via
      → way_along net (drop origin.done intent.steps) origin.place next ≡ binding_way net intent position via next
  way_from origin h =
      ap (λ (o : Option Origin). option_and_then (λ (s : Origin). behind_of net next (transit_from net intent next s)) o) h
