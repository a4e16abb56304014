-- What is hidden of a network is nothing to its rules, nor to its places.
use Rattle.std.proofs.Common.{◌≡◌, ℕ, zero, suc, List, Option, Some, None, IfSome, refl}
use Rattle.srv6_rules.specs.PacketTerms.{IsContent}
use Rattle.srv6_rules.specs.declared.sid.SidEntry.{SidEntry}
use Rattle.net_model.specs.declared.net.Hit.{Hit}
use Rattle.net_model.specs.NetworkKeeps.{Keeps, KeepsSid, SuitsBehaviour}
use Rattle.net_model.specs.Network.{Network}
use Rattle.packet_walk.specs.Flight.{InFlight, packet_in}
use Rattle.packet_walk.specs.FlightTerms.{IsCounted, IsInFlight}
use Rattle.update_flight.specs.Transition.{Transition}
use Rattle.update_plan.specs.UpdateStateTerms.{IsUpdate}

module _ (net : Network) (hidden : List Hit) where
  abbrev other : Network
  other = record net { hidden = hidden }

  suits_hidden : (s : SidEntry) → SuitsBehaviour net s → SuitsBehaviour other s
  suits_hidden s h = record { table = h.table; policy = h.policy; links = h.links; flavours = h.flavours }

  sid_hidden : (s : SidEntry) → KeepsSid net s → KeepsSid other s
  sid_hidden s h = record {
    node = h.node;
    len = h.len;
    prefix = h.prefix;
    behaviour = suits_hidden s h.behaviour;
    block_len = h.block_len;
    csid = h.csid;
    title = h.title;
    room = h.room;
  }

  pub hidden_keeps : Keeps net → Keeps other
  hidden_keeps k = record {
    block_count = k.block_count;
    node_count = k.node_count;
    link_count = k.link_count;
    route_count = k.route_count;
    policy_count = k.policy_count;
    sid_count = k.sid_count;
    block = k.block;
    node = k.node;
    link = λ i l there. let h = k.link i l there in
        record { name = h.name; from = h.from; to = h.to; at_least = h.at_least; at_most = h.at_most };
    route = λ i r there. let h = k.route i r there in record { node = h.node; table = h.table; prefix = h.prefix; via = h.via };
    policy = k.policy;
    sid = λ i s there. sid_hidden s (k.sid i s there);
    title = k.title;
    apart = k.apart;
    node_name = k.node_name;
    node_address = k.node_address;
    link_name = k.link_name;
    route_prefix = k.route_prefix;
    policy_name = k.policy_name;
    sid_prefix = k.sid_prefix;
    sid_title = k.sid_title;
    title_name = k.title_name;
  }

-- a packet that is there is at a place of the tables
module _ (net : Network) (t : Transition) (h : IsUpdate net t) (hidden : List Hit) where
  fits_there : (number : ℕ) (o : Option InFlight) → packet_in t.packets.packets number ≡ o → IfSome o IsCounted
      → IfSome o (λ p. IsContent p.content) → IfSome o (IsInFlight (record net { hidden = hidden }))
  fits_there zero None there counted content = tt
  fits_there zero (Some p) there counted content = cc
  fits_there (suc before) None there counted content = tt
  fits_there (suc before) (Some p) there counted content =
      record { place = h.placed before p there; content = content; counted = counted }

  pub packet_fits : (number : ℕ) → IfSome (packet_in t.packets.packets number) IsCounted
      → IfSome (packet_in t.packets.packets number) (λ p. IsContent p.content)
      → IfSome (packet_in t.packets.packets number) (IsInFlight (record net { hidden = hidden }))
  packet_fits number counted content = fits_there number (packet_in t.packets.packets number) refl counted content
