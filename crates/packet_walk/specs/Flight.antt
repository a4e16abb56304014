-- Packets in flight: what is held of them, and what a turn of one of them leaves.
use Rattle.std.specs.Prelude.{ℕ, zero, suc, ◌+◌, max, if◌then◌else◌, nat_lt, List, slice_get, slice_set, Option, Some, None}
use Rattle.srv6_rules.specs.Packet.{Content}
use Rattle.icmp6_errors.specs.Answer.{error_bytes}
use Rattle.net_model.specs.Network.{Network}
use Rattle.node_stage.specs.Fronted.{FrontedContent, front_after, fronted, most_front}
use Rattle.walk_rules.specs.declared.place.Ended.{Ended}
use Rattle.walk_rules.specs.declared.place.Ended.TheVariants as ends
use Rattle.walk_rules.specs.declared.place.Outcome.{Outcome}
use Rattle.walk_rules.specs.declared.place.Place.{Place}
use Rattle.walk_rules.specs.Walk.{Stage, stage_of, choice_at, decisions, next_place, end_by}
use Rattle.walk_rules.specs.declared.limits.TheConstants.{MAX_STAGES}

-- a packet in flight: what stands there, how many bytes are spare in front of it, and where, its list of choices, the decisions that it
-- has taken, the stages that it has used, and how it ended, if it has; a packet that ended stands where its last stage left it
pub record InFlight : Type 0 where
  pub content : Content
  pub front : ℕ
  pub place : Place
  pub choices : List ℕ
  pub decisions : ℕ
  pub stages : ℕ
  pub ended : Option Ended

-- packets in flight, whatever their network, and the bytes of the ICMPv6 error of the last stage, none where it sent none
pub record Packets : Type 0 where
  pub error : List ℕ
  pub packets : List InFlight

-- a network, the bytes of the ICMPv6 error of the last stage, none where it sent none, and the packets in flight
pub record Flight : Type 0 where
  pub net : Network
  pub error : List ℕ
  pub packets : List InFlight

-- packets in a network
abbrev pub within : Network → Packets → Flight
within net all = record { net = net; error = all.error; packets = all.packets }

-- a packet that enters has taken no decision, used no stage and not ended
abbrev pub entering : FrontedContent → Place → List ℕ → InFlight
entering c place choices =
    record { content = c.content; front = c.front; place = place; choices = choices; decisions = 0; stages = 0; ended = None }

-- what stands where a packet does
abbrev pub fronted_of : InFlight → FrontedContent
fronted_of p = fronted p.content p.front

-- a packet with so many bytes spare in front
abbrev pub with_front : ℕ → InFlight → InFlight
with_front front p = record p { front = front }

-- a packet with room in front for the longest header of a policy
abbrev pub with_room : InFlight → InFlight
with_room p = with_front (max most_front p.front) p

-- the stage that a packet takes next: where it stands, of what stands there, under the choice of its next decision
abbrev pub stage_in : Network → InFlight → Stage
stage_in net p = stage_of net p.place p.content (choice_at p.choices p.decisions)

-- where a packet stands after a stage: where it goes on, if it does, and else where it stood
abbrev pub place_from : Place → Option Place → Place
place_from place None = place
place_from place (Some next) = next

-- how a packet has ended after so many stages: as the last one ended it where it doesn't go on, and else where all its stages are used
abbrev pub ended_after : ℕ → Ended → Option Place → Option Ended
ended_after used end None = Some end
ended_after used end (Some next) = if nat_lt used MAX_STAGES then None else Some ends.Stages

-- a packet after a stage of an outcome, by what the stage left
abbrev pub advanced : Network → Outcome → FrontedContent → InFlight → InFlight
advanced net outcome after p =
    record {
      content = after.content;
      front = after.front;
      place = place_from p.place (next_place net p.place outcome);
      choices = p.choices;
      decisions = p.decisions + decisions outcome;
      stages = p.stages + 1;
      ended = ended_after (p.stages + 1) (end_by net p.place outcome) (next_place net p.place outcome);
    }

-- what a packet's next stage leaves, and what is spare then in front of it: before the stage there was room in front
abbrev pub left_by : Network → InFlight → Stage → FrontedContent
left_by net p s = fronted s.gave.after (front_after net p.place.node (fronted_of (with_room p)) s.gave.outcome)

-- a packet after its next stage
abbrev pub staged : Network → InFlight → InFlight
staged net p = let s = stage_in net p in advanced net s.gave.outcome (left_by net p s) p

-- the packet of a number; they count from 1, in the order of entering
abbrev pub packet_in : List InFlight → ℕ → Option InFlight
packet_in packets zero = None
packet_in packets (suc before) = slice_get packets before

abbrev pub packet_of : Flight → ℕ → Option InFlight
packet_of f number = packet_in f.packets number

-- the packets, with another as that of a number
abbrev pub with_packet : List InFlight → ℕ → InFlight → List InFlight
with_packet packets zero p = packets
with_packet packets (suc before) p = slice_set packets before p

-- a flight after the next stage of a packet of a number
abbrev pub after_stage : ℕ → Flight → InFlight → Flight
after_stage number f p =
    record {
      net = f.net;
      error = error_bytes (stage_in f.net p).gave.error;
      packets = with_packet f.packets number (staged f.net p);
    }

-- a flight after a turn of the packet of a number: where it has ended, and where there is none, nothing changes

abbrev pub turned_where : ℕ → Flight → InFlight → Option Ended → Flight
turned_where number f p None = after_stage number f p
turned_where number f p (Some end) = f

abbrev pub turned_by : ℕ → Flight → Option InFlight → Flight
turned_by number f None = f
turned_by number f (Some p) = turned_where number f p p.ended

abbrev pub turned : ℕ → Flight → Flight
turned number f = turned_by number f (packet_of f number)
