-- Headers with the bytes of the packets below them.
use Rattle.std.proofs.Common.{◌≡◌, ℕ, Bool, true, false, List, [], ◌∷◌, ◌++◌, Option, Some, None, refl, sym, ◌∙◌, ap, subst, append_assoc}
use Rattle.srv6_rules.specs.declared.policy.Policy.{Policy}
use Rattle.srv6_rules.specs.declared.family.Family.TheVariants.{V6 as Ipv6}
use Rattle.srv6_rules.specs.declared.sid.SidEntry.{SidEntry}
use Rattle.srv6_rules.specs.Packet.{Packet, Content, V6, V4, Unreadable, IsSpellable, spelling}
use Rattle.srv6_rules.specs.Srh.{Srh, srh_spelling}
use Rattle.srv6_rules.specs.Chain.{routing}
use Rattle.srv6_rules.specs.Endpoint.{Endpoint, Onward, Exposed, Delivered, Refused, at_sid}
use Rattle.srv6_rules.specs.Policies.{outer_by}
use Rattle.walk_rules.specs.Treatment.{lowered}
use Rattle.outer_header_theory.specs.HeaderFronts.{Fate, GoesOn, IsTakenOff, IsDelivered, IsDropped, IsFate, AreFront, endpoint_of, filled, front_by}
use Rattle.outer_header_theory.proofs.PushedHeaderLaws.{one_fate, policy_front, policy_round}
use Rattle.binding_spec.specs.TunnelLayers.{spelled, spelled_content}
use Rattle.tunnel_stages_theory.specs.TunnelLayersTerms.{IsHeader, AreLayers, AreLayersOf}

pub spelled_destination : (p : Packet) (below : List Packet) → (spelled p below).destination ≡ p.destination
spelled_destination p [] = refl
spelled_destination p (q ∷ below) = refl

pub spelled_hop_limit : (p : Packet) (below : List Packet) → (spelled p below).hop_limit ≡ p.hop_limit
spelled_hop_limit p [] = refl
spelled_hop_limit p (q ∷ below) = refl

pub spelled_lowered : (lower : Bool) (p : Packet) (below : List Packet) → spelled (lowered lower p) below ≡ lowered lower (spelled p below)
spelled_lowered true p [] = refl
spelled_lowered true p (q ∷ below) = refl
spelled_lowered false p [] = refl
spelled_lowered false p (q ∷ below) = refl

-- a content that carries nothing
pub content_alone : (content : Content) → spelled_content content [] ≡ content
content_alone (V6 p) = refl
content_alone (V4 p) = refl
content_alone (Unreadable bytes reason) = refl

pub layers_alone : (content : Content) → AreLayersOf content []
layers_alone (V6 p) = tt
layers_alone (V4 p) = refl
layers_alone (Unreadable bytes reason) = refl

-- ---- headers round no bytes

filled_lowered : (p : Packet) (o : Option Srh) → lowered true (filled p o []) ≡ filled (lowered true p) o []
filled_lowered p None = refl
filled_lowered p (Some t) = refl

header_lowered : (lower : Bool) (p : Packet) → IsHeader p → IsHeader (lowered lower p)
header_lowered false p h = h
header_lowered true p h =
    record { front = h.front; is_front = h.is_front; is = ap (lowered true) h.is ∙ filled_lowered p h.front }

pub layers_lowered : (lower : Bool) (p : Packet) (below : List Packet) → AreLayers p below → AreLayers (lowered lower p) below
layers_lowered lower p [] layers = tt
layers_lowered lower p (q ∷ below) layers = (header_lowered lower p layers.0, layers.1, layers.2)

filled_again : (p : Packet) (o : Option Srh) → filled p o [] ≡ filled (filled p o []) o []
filled_again p None = refl
filled_again p (Some t) = refl

header_filled : (p : Packet) (o : Option Srh) → AreFront o → IsHeader (filled p o [])
header_filled p o front = record { front = o; is_front = front; is = filled_again p o }

abbrev pub header_policy : (policy : Policy) (reduced : Bool) → IsHeader (outer_by policy reduced Ipv6 [])
header_policy policy reduced =
    record { front = front_by policy reduced; is_front = policy_front policy reduced; is = policy_round policy reduced [] }

-- bytes behind a header
filled_round : (p : Packet) (o : Option Srh) (bytes : List ℕ)
    → record (filled p o []) { payload = (filled p o []).payload ++ bytes } ≡ filled p o bytes
filled_round p None bytes = refl
filled_round p (Some t) bytes =
    ap (λ xs. record p { next_header = routing; payload = xs }) (append_assoc (srh_spelling t) [] bytes)

header_round : (p : Packet) (h : IsHeader p) (bytes : List ℕ) → record p { payload = p.payload ++ bytes } ≡ filled p h.front bytes
header_round p h bytes = ap (λ (r : Packet). record r { payload = r.payload ++ bytes }) h.is ∙ filled_round p h.front bytes

-- a policy's header round a packet and those that it carries
pub policy_spelled : (policy : Policy) (reduced : Bool) (q : Packet) (below : List Packet)
    → outer_by policy reduced Ipv6 (spelling (spelled q below)) ≡ spelled (outer_by policy reduced Ipv6 []) (q ∷ below)
policy_spelled policy reduced q below =
    let bytes : List ℕ = spelling (spelled q below) in
    policy_round policy reduced bytes ∙ sym (header_round (outer_by policy reduced Ipv6 []) (header_policy policy reduced) bytes)

-- ---- at a SID

-- what comes of the bytes of a packet and those below it follows what comes of the packet, where it goes on or is exposed
abbrev pub Follows : List Packet → Endpoint → Endpoint → Type 0
Follows below (Onward q) real = (real ≡ Onward (spelled q below)) × AreLayers q below
Follows [] (Exposed family bytes) real = real ≡ Exposed family bytes
Follows (q ∷ below) (Exposed family bytes) real = (real ≡ Exposed Ipv6 (spelling (spelled q below))) × (family ≡ Ipv6)
Follows below (Delivered q) real = Unit {0}
Follows below (Refused reason at) real = Unit {0}

follows_alone : (e : Endpoint) → Follows [] e e
follows_alone (Onward q) = (refl, tt)
follows_alone (Exposed family bytes) = refl
follows_alone (Delivered q) = tt
follows_alone (Refused reason at) = tt

follows_fate : (q : Packet) (below : List Packet) (fate : Fate) → IsSpellable (spelled q below) → AreLayers q below → IsFate fate
    → Follows (q ∷ below) (endpoint_of fate []) (endpoint_of fate (spelling (spelled q below)))
follows_fate q below (GoesOn p o) ok layers front =
    (ap Onward (sym (filled_round p o (spelling (spelled q below)))), (header_filled p o front, ok, layers))
follows_fate q below IsTakenOff ok layers front = (refl, refl)
follows_fate q below (IsDelivered p o) ok layers front = tt
follows_fate q below (IsDropped reason at) ok layers front = tt

pub follows_sid : (s : SidEntry) (allow : List ℕ) (p : Packet) (below : List Packet) → AreLayers p below
    → Follows below (at_sid s allow p) (at_sid s allow (spelled p below))
follows_sid s allow p [] layers = follows_alone (at_sid s allow p)
follows_sid s allow p (q ∷ below) layers =
    let h = layers.0 in
    let bytes : List ℕ = spelling (spelled q below) in
    let one = one_fate s allow p h.front h.is_front in
    let value : at_sid s allow p ≡ endpoint_of one.0 [] = ap (at_sid s allow) h.is ∙ one.2 [] in
    let real : at_sid s allow (spelled p (q ∷ below)) ≡ endpoint_of one.0 bytes =
    ap (at_sid s allow) (header_round p h bytes) ∙ one.2 bytes in
    subst (λ e. Follows (q ∷ below) e (at_sid s allow (spelled p (q ∷ below)))) (sym value)
    (subst (λ r. Follows (q ∷ below) (endpoint_of one.0 []) r) (sym real) (follows_fate q below one.0 layers.1 layers.2 one.1))
