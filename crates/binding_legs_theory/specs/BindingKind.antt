-- Need not be believed: helps proofs and other laws.
-- What is handed over of a packet on its way along a list whose SIDs may be binding SIDs (RFC 8986 sections 4.13, 4.14 and 4.16.3).
use Rattle.std.specs.Prelude.{ℕ, false, List, [], ◌∷◌, slice_get, Option, Some, None}
use Rattle.srv6_rules.specs.declared.family.Family.TheVariants as families
use Rattle.srv6_rules.specs.declared.sid.SidEntry.{SidEntry}
use Rattle.srv6_rules.specs.Behaviours.{behaviour_policy, behaviour_reduces}
use Rattle.srv6_rules.specs.Packet.{Packet, Content, V6, V4, Unreadable}
use Rattle.srv6_rules.specs.Policies.{outer_by}
use Rattle.net_model.specs.declared.parts.NamedPolicy.{NamedPolicy}
use Rattle.net_model.specs.Network.{Network}
use Rattle.walk_rules.specs.declared.place.Place.{Place}
use Rattle.intent_reader.specs.declared.intent.Intent.{Intent}
use Rattle.leg_table.specs.StrictLegs.{place_behind}
use Rattle.leg_table.specs.OneLegLaws.{LegKind}
use Rattle.leg_table.specs.Realizes.{headend_place}
use Rattle.leg_table.specs.StrictLegsValue.{no_mark, strict_kept}
use Rattle.leg_table.specs.WalkTrace.{Handed}
use Rattle.binding_spec.specs.TunnelWalks.{tunnel_walk}
use Rattle.binding_spec.specs.OwnHands.{handed_own}
use Rattle.tunnel_walks_theory.specs.TunnelPacketsTerms.{Tunnelled, open_at, pushed_at}
use Rattle.binding_spec.specs.BindingLegsValue.{binding_legs_value}

-- how a packet goes on from SID v: right there, or below the header of the policy that the SID binds
abbrev pub under_policy : ℕ → SidEntry → Packet → Option NamedPolicy → Option (Tunnelled Place Packet)
under_policy v s p None = None
under_policy v s p (Some named) =
    Some (pushed_at (place_behind v s) (outer_by named.policy (behaviour_reduces s.behaviour) families.V6 []) p)

abbrev pub onward_by : Network → ℕ → SidEntry → Packet → Option ℕ → Option (Tunnelled Place Packet)
onward_by net v s p None = Some (open_at (place_behind v s) p)
onward_by net v s p (Some number) = under_policy v s p (slice_get net.policies number)

abbrev pub onward_at : Network → ℕ → Packet → Option SidEntry → Option (Tunnelled Place Packet)
onward_at net v p None = None
onward_at net v p (Some s) = onward_by net v s p (behaviour_policy s.behaviour)

-- how it goes on from the SID that it executed last, or from the headend
abbrev pub onward_of : Network → Intent → Option ℕ → Packet → Option (Tunnelled Place Packet)
onward_of net intent None p = Some (open_at (headend_place intent) p)
onward_of net intent (Some v) p = onward_at net v p (slice_get net.sids v)

-- the packet's own hand_over from there, in so many stages
abbrev pub hand_on : Network → ℕ → Option (Tunnelled Place Packet) → (ℕ → ℕ) → ℕ → Option Handed
hand_on net fuel None pick taken = None
hand_on net fuel (Some d) pick taken = handed_own net 0 (tunnel_walk fuel net (Some d.place) (V6 d.head) d.below pick taken)

abbrev pub binding_hand : Network → Intent → ℕ → Option ℕ → Packet → (ℕ → ℕ) → ℕ → Option Handed
binding_hand net intent fuel via p pick taken = hand_on net fuel (onward_of net intent via p) pick taken

-- the legs through binding SIDs: no SID is barred
abbrev pub binding_kind : Network → Intent → LegKind
binding_kind net intent =
    record {
      net = net;
      intent = intent;
      legs = binding_legs_value net intent;
      barred = λ n. false;
      hand = binding_hand net intent;
      kept = strict_kept intent;
      mark = no_mark;
    }

-- the hop limit of the packet itself, below the header that may be in front of it
abbrev pub own_limit : Content → List Packet → Option ℕ
own_limit (V6 p) [] = Some p.hop_limit
own_limit (V4 p) [] = None
own_limit (Unreadable bytes reason) [] = None
own_limit content (q ∷ below) = Some q.hop_limit
