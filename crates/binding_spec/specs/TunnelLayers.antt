-- Headers and the packets that they carry as the bytes of one packet (RFC 8986 sections 4.13 and 4.14, RFC 8200 section 3).
use Rattle.std.specs.Prelude.{◌<◌, ◌≤◌, List, [], ◌∷◌, ◌++◌, length}
use Rattle.srv6_rules.specs.Packet.{Packet, Content, V6, V4, Unreadable, spelling}
use Rattle.srv6_rules.specs.Policies.{most_payload}
use Rattle.binding_spec.specs.TunnelStages.{TunnelGave}

-- a packet with those that it carries in its payload: behind its own bytes stand those of the packet below
abbrev pub spelled : Packet → List Packet → Packet
spelled p [] = p
spelled p (q ∷ below) = record p { payload = p.payload ++ spelling (spelled q below) }

-- only an IPv6 packet carries others
abbrev pub spelled_content : Content → List Packet → Content
spelled_content (V6 p) below = V6 (spelled p below)
spelled_content (V4 p) below = V4 p
spelled_content (Unreadable bytes reason) below = Unreadable bytes reason

-- the payload is at most as long as a header can state
abbrev pub Fits : Content → List Packet → Type 0
Fits (V6 p) below = length (spelled p below).payload ≤ most_payload
Fits (V4 p) below = Unit {0}
Fits (Unreadable bytes reason) below = Unit {0}

-- a header that the stage pushes has such a payload
abbrev pub PushFits : List Packet → TunnelGave → Type 0
PushFits under gave = length under < length gave.below → Fits gave.after gave.below
