-- Stages as a relation and as a function: each outcome of the relation is the function's at some choice.
use Rattle.std.proofs.Common.{◌≡◌, ℕ, ◌<◌, length, Option, refl}
use Rattle.srv6_rules.specs.declared.reason.Reason.TheVariants as reasons
use Rattle.srv6_rules.specs.Packet.{Packet, Content, V6, V4, Unreadable}
use Rattle.srv6_rules.specs.Packet4.{Packet4, ttl, destination4}
use Rattle.net_model.specs.Network.{Network}
use Rattle.walk_rules.specs.declared.place.Place.{Place}
use Rattle.walk_rules.specs.declared.place.Outcome.{Outcome}
use Rattle.walk_rules.specs.Way.{Way, NoWay, Over, Own, Into, way_of}
use Rattle.walk_rules.specs.Treatment.{Gave, lowered, ttl_lowered, treated, treated4, free_step_of}
use Rattle.walk_rules.specs.Relation.{Treats, Treats4, IsFreeStage}
use Rattle.walk_rules.proofs.Sending.{given, gives_gave, drops_gave, sends_by, sends4_by, sends_by_choice, sent_by_sends}

module _ (net : Network) (node : ℕ) where
  treats_choice : (w : Way) (p : Packet) (outcome : Outcome) (after : Content) (error : Option Packet)
      → Treats net node w p outcome after error → (choice : ℕ) × (treated net node w p choice ≡ given outcome after error)
  treats_choice (NoWay reason) p outcome after error h = (0, drops_gave net node reason 0 (V6 p) outcome after error h)
  treats_choice (Over set lower) p outcome after error h =
      sends_by_choice net node set p.hop_limit reasons.HopLimit (V6 p) (V6 (lowered lower p)) lower outcome after error
      ((sends_by net node set lower p outcome after error).0 h)
  treats_choice Own p outcome after error h = (0, gives_gave _ outcome after error h)
  treats_choice (Into n) p outcome after error h = (0, gives_gave _ outcome after error h)

  treats4_choice : (w : Way) (p : Packet4) (outcome : Outcome) (after : Content) (error : Option Packet)
      → Treats4 net node w p outcome after error → (choice : ℕ) × (treated4 net node w p choice ≡ given outcome after error)
  treats4_choice (NoWay reason) p outcome after error h = (0, drops_gave net node reason 0 (V4 p) outcome after error h)
  treats4_choice (Over set lower) p outcome after error h =
      sends_by_choice net node set (ttl p) reasons.Ttl (V4 p) (V4 (ttl_lowered lower p)) lower outcome after error
      ((sends4_by net node set lower p outcome after error).0 h)
  treats4_choice Own p outcome after error h = (0, drops_gave net node reasons.NoRoute 0 (V4 p) outcome after error h)
  treats4_choice (Into n) p outcome after error h = (0, drops_gave net node reasons.NoRoute 0 (V4 p) outcome after error h)

-- each outcome of the relation is the function's at some choice
pub free_choice : (net : Network) (place : Place) (content : Content) (outcome : Outcome) (after : Content) (error : Option Packet)
    → IsFreeStage net place content outcome after error → (choice : ℕ) × (free_step_of net place content choice ≡ given outcome after error)
free_choice net place (Unreadable bytes reason) outcome after error h =
    (0, drops_gave net place.node reason 0 (Unreadable bytes reason) outcome after error h)
free_choice net place (V6 p) outcome after error h =
    treats_choice net place.node (way_of net place p.destination) p outcome after error h
free_choice net place (V4 p) outcome after error h =
    treats4_choice net place.node (way_of net place (destination4 p)) p outcome after error h

-- the sets that a way goes over are not empty
abbrev pub HasLinks : Way → Type 0
HasLinks (NoWay reason) = Unit {0}
HasLinks (Over set lower) = 0 < length set
HasLinks Own = Unit {0}
HasLinks (Into n) = Unit {0}

-- what a function gives is an outcome of the relation
abbrev GivenStage : (Outcome → Content → Option Packet → Type 0) → Gave → Type 0
GivenStage S gave = S gave.outcome gave.after gave.error

pub treated_treats : (net : Network) (node : ℕ) (w : Way) (p : Packet) (choice : ℕ) → HasLinks w
    → GivenStage (Treats net node w p) (treated net node w p choice)
treated_treats net node (NoWay reason) p choice some = (refl, refl, refl)
treated_treats net node (Over set lower) p choice some =
    let gave : Gave = treated net node (Over set lower) p choice in
    (sends_by net node set lower p gave.outcome gave.after gave.error).1
    (sent_by_sends net node set p.hop_limit reasons.HopLimit (V6 p) (V6 (lowered lower p)) lower choice some)
treated_treats net node Own p choice some = (refl, refl, refl)
treated_treats net node (Into n) p choice some = (refl, refl, refl)

pub treated4_treats : (net : Network) (node : ℕ) (w : Way) (p : Packet4) (choice : ℕ) → HasLinks w
    → GivenStage (Treats4 net node w p) (treated4 net node w p choice)
treated4_treats net node (NoWay reason) p choice some = (refl, refl, refl)
treated4_treats net node (Over set lower) p choice some =
    let gave : Gave = treated4 net node (Over set lower) p choice in
    (sends4_by net node set lower p gave.outcome gave.after gave.error).1
    (sent_by_sends net node set (ttl p) reasons.Ttl (V4 p) (V4 (ttl_lowered lower p)) lower choice some)
treated4_treats net node Own p choice some = (refl, refl, refl)
treated4_treats net node (Into n) p choice some = (refl, refl, refl)
