-- What a stage's line tells of its outcome: the bytes of an error, and the table that a packet goes by.
use Rattle.std.proofs.Common.{◌≡◌, ℕ, ◌^◌, ◌<◌, ◌≤◌, Bool, true, false, cond, List, ◌∷◌, ◌++◌, All, IfSome, Option, Some, None, slice_get, refl, subst, arith, lit<}
use Rattle.std.proofs.lemmas.List.Elements.{All-append, All-cons, All-nil, All-take}
use Rattle.std.proofs.lemmas.Option.{same_Some}
use Rattle.srv6_rules.specs.declared.icmp.IcmpKind.{IcmpKind}
use Rattle.srv6_rules.specs.declared.icmp.IcmpKind.TheVariants.{Unreachable, PacketTooBig, TimeExceeded, Parameter}
use Rattle.srv6_rules.specs.declared.numbers.TheConstants.{MAX_QUOTE_LEN}
use Rattle.srv6_rules.specs.declared.sid.Behaviour.{Behaviour}
use Rattle.srv6_rules.specs.declared.reason.Reason.{Reason}
use Rattle.srv6_rules.specs.declared.reason.Reason.TheVariants as reasons
use Rattle.srv6_rules.specs.Behaviours.{behaviour_table, behaviour_takes_links}
use Rattle.srv6_rules.specs.Endpoint.{Delivered, Endpoint, Exposed, Onward, Refused, at_address, at_sid}
use Rattle.srv6_rules.specs.Errors.{code_of, error_about, error_checksum, error_packet, is_unanswered, kind_of, message_head, last_word_of, quote_of, type_of}
use Rattle.srv6_rules.specs.Packet.{Content, IsSpellable, Packet, Unreadable, V4, V6, address_bytes, first_word, four_bytes, header_spelling, spelling, two_bytes}
use Rattle.srv6_rules.specs.PacketTerms.{IsContent}
use Rattle.srv6_rules.specs.Packet4.{destination4}
use Rattle.srv6_rules.proofs.PublicLaws.{all_address_bytes, all_four_bytes, all_spelling, all_two_bytes}
use Rattle.icmp6_errors.specs.Answer.{error_bytes}
use Rattle.net_model.specs.declared.limits.TheConstants.{LAST_TABLE}
use Rattle.net_model.specs.Network.{Network}
use Rattle.walk_rules.specs.declared.place.How.{How}
use Rattle.walk_rules.specs.declared.place.How.TheVariants.{Arrived, Submitted, Through}
use Rattle.walk_rules.specs.declared.place.Place.{Place}
use Rattle.walk_rules.specs.Treatment.{Gave, allow_of, dropped, error_by, error_from, error_of, exposed_from, free_step_of, mtu_at, onward_from, step_of, treated_at_address, treated_at_sid, way_on}
use Rattle.walk_rules.specs.Way.{way_of}
use Rattle.walk_rules.proofs.OutcomeFacts.{treated_each, treated4_each}
use Rattle.walk_rules.proofs.PublicLaws.{onward_each, step_each}

-- ---- the bytes of an error

abbrev Byte : ℕ → Type 0
Byte b = b < 2 ^ 8

abbrev pub ErrorIsBytes : Option Packet → Type 0
ErrorIsBytes error = All (λ b. b < 2 ^ 8) (error_bytes error)

abbrev GaveBytes : Gave → Type 0
GaveBytes gave = ErrorIsBytes gave.error

code_along : (one kind : IcmpKind) → code_of one < 2 ^ 8 → Some one ≡ Some kind → code_of kind < 2 ^ 8
code_along one kind h e = subst (λ (k : IcmpKind). code_of k < 2 ^ 8) (same_Some one kind e) h

code_fits : (reason : Reason) (at : ℕ) (kind : IcmpKind) → kind_of reason at ≡ Some kind → code_of kind < 2 ^ 8
code_fits reasons.Truncated at kind e = cc
code_fits reasons.BadVersion at kind e = cc
code_fits reasons.Multicast at kind e = cc
code_fits reasons.NoRoute at kind e = code_along Unreachable kind (lit< tt) e
code_fits reasons.HopLimit at kind e = code_along TimeExceeded kind (lit< tt) e
code_fits reasons.BadChain at kind e = cc
code_fits reasons.LateHopByHop at kind e = code_along (Parameter 1 at) kind (lit< tt) e
code_fits reasons.OptionDiscard at kind e = cc
code_fits reasons.OptionUnknown at kind e = code_along (Parameter 2 at) kind (lit< tt) e
code_fits reasons.Fragment at kind e = cc
code_fits reasons.BadSegments at kind e = code_along (Parameter 0 at) kind (lit< tt) e
code_fits reasons.HmacTlv at kind e = cc
code_fits reasons.BadTlv at kind e = cc
code_fits reasons.UnknownRouting at kind e = code_along (Parameter 0 at) kind (lit< tt) e
code_fits reasons.UpperLayer at kind e = code_along (Parameter 4 at) kind (lit< tt) e
code_fits reasons.Ttl at kind e = cc
code_fits reasons.TooBig at kind e = cc
code_fits reasons.InnerHop at kind e = cc
code_fits reasons.MtuExceeded at kind e = code_along (PacketTooBig at) kind (lit< tt) e

type_below : (kind : IcmpKind) → type_of kind < 2 ^ 8
type_below Unreachable = lit< tt
type_below (PacketTooBig mtu) = lit< tt
type_below TimeExceeded = lit< tt
type_below (Parameter code at) = lit< tt

message_bytes : (p : Packet) (kind : IcmpKind) (checksum : ℕ) → IsSpellable p → code_of kind < 2 ^ 8
    → All (λ b. b < 2 ^ 8) (message_head kind checksum ++ quote_of p)
message_bytes p kind checksum h fits =
    let numbers = All-append Byte (two_bytes checksum) (four_bytes (last_word_of kind)) (all_two_bytes checksum)
    (all_four_bytes (last_word_of kind)) in
    let tail : List ℕ = two_bytes checksum ++ four_bytes (last_word_of kind) in
    let head = All-cons Byte (type_of kind) (code_of kind ∷ tail) (type_below kind) (All-cons Byte (code_of kind) tail fits numbers) in
    All-append Byte (message_head kind checksum) (quote_of p) head (All-take Byte MAX_QUOTE_LEN (spelling p) (all_spelling p h))

spelled_bytes : (q : Packet) → q.next_header < 2 ^ 8 → q.hop_limit < 2 ^ 8 → All (λ b. b < 2 ^ 8) q.payload
    → All (λ b. b < 2 ^ 8) (spelling q)
unfolding header_spelling
spelled_bytes q next hop h =
    let ends = All-append Byte (address_bytes q.source) (address_bytes q.destination) (all_address_bytes q.source)
    (all_address_bytes q.destination) in
    let both_ends : List ℕ = address_bytes q.source ++ address_bytes q.destination in
    let one = All-cons Byte q.next_header (q.hop_limit ∷ both_ends) next (All-cons Byte q.hop_limit both_ends hop ends) in
    let rest = All-append Byte (two_bytes _) _ (all_two_bytes _) one in
    All-append Byte (header_spelling q) q.payload
    (All-append Byte (four_bytes (first_word q.traffic_class q.flow_label)) _
    (all_four_bytes (first_word q.traffic_class q.flow_label)) rest)
    h

about_bytes : (p : Packet) (kind : IcmpKind) (from : ℕ) → IsSpellable p → code_of kind < 2 ^ 8
    → All (λ b. b < 2 ^ 8) (spelling (error_about p kind from))
unfolding error_about
about_bytes p kind from h fits =
    spelled_bytes (error_about p kind from) (lit< tt) (lit< tt) (message_bytes p kind (error_checksum p kind from) h fits)

-- what is so of both sides of a test is so of what it gives
either : {T : Type 0} (P : T → Type 0) (b : Bool) (x y : T) → P x → P y → P (cond b x y)
either P true x y h g = h
either P false x y h g = g

packet_bytes : (p : Packet) (kind : IcmpKind) (from : ℕ) → IsSpellable p → code_of kind < 2 ^ 8
    → ErrorIsBytes (error_packet p kind from)
unfolding error_packet
packet_bytes p kind from h fits =
    either ErrorIsBytes (is_unanswered p kind) None (Some (error_about p kind from)) (All-nil Byte) (about_bytes p kind from h fits)

by_bytes : (p : Packet) (from : ℕ) (reason : Reason) (at : ℕ) (o : Option IcmpKind) → IsSpellable p → kind_of reason at ≡ o
    → ErrorIsBytes (error_by o p from)
by_bytes p from reason at None h e = All-nil Byte
by_bytes p from reason at (Some kind) h e = packet_bytes p kind from h (code_fits reason at kind e)

from_bytes : (from : ℕ) (reason : Reason) (at : ℕ) (c : Content) → IsContent c → ErrorIsBytes (error_from from reason at c)
from_bytes from reason at (V6 p) h = by_bytes p from reason at (kind_of reason at) h refl
from_bytes from reason at (V4 p) h = All-nil Byte
from_bytes from reason at (Unreadable bytes why) h = All-nil Byte

dropped_bytes : (net : Network) (node : ℕ) (reason : Reason) (at : ℕ) (c : Content) → IsContent c
    → GaveBytes (dropped net node reason at c)
unfolding error_of
dropped_bytes net node reason at c h = from_bytes _ reason at c h

address_bytes_law : (net : Network) (node : ℕ) (p : Packet) (e : Endpoint) → IsSpellable p → GaveBytes (treated_at_address net node p e)
address_bytes_law net node p (Onward q) h = dropped_bytes net node reasons.NoRoute 0 (V6 p) h
address_bytes_law net node p (Exposed family bytes) h = dropped_bytes net node reasons.NoRoute 0 (V6 p) h
address_bytes_law net node p (Delivered q) h = All-nil Byte
address_bytes_law net node p (Refused reason at) h = dropped_bytes net node reason at (V6 p) h

endpoint_bytes : (net : Network) (node n : ℕ) (b : Behaviour) (p : Packet) (e : Endpoint) → IsSpellable p
    → GaveBytes (treated_at_sid net node n b p e)
endpoint_bytes net node n b p (Onward q) h =
    onward_each net node n b p q GaveBytes (λ plain. All-nil Byte) (λ number named binds is fits. All-nil Byte)
    (λ reason. dropped_bytes net node reason 0 (V6 p) h)
endpoint_bytes net node n b p (Exposed family bytes) h = All-nil Byte
endpoint_bytes net node n b p (Delivered q) h = All-nil Byte
endpoint_bytes net node n b p (Refused reason at) h = dropped_bytes net node reason at (V6 p) h

free_bytes : (net : Network) (place : Place) (content : Content) (choice : ℕ) → IsContent content
    → ErrorIsBytes (free_step_of net place content choice).error
free_bytes net place (Unreadable bytes reason) choice h = dropped_bytes net place.node reason 0 (Unreadable bytes reason) h
free_bytes net place (V6 p) choice h =
    treated_each GaveBytes net place.node (way_of net place p.destination) p choice
    (record {
      drop = λ reason at. dropped_bytes net place.node reason at (V6 p) h;
      send = λ set lower e. All-nil Byte;
      own = address_bytes_law net place.node p (at_address p) h;
      sid = λ n s e there.
          endpoint_bytes net place.node n s.behaviour p (at_sid s (allow_of (slice_get net.nodes place.node)) p) h;
    })
free_bytes net place (V4 p) choice h =
    treated4_each GaveBytes net place.node (way_of net place (destination4 p)) p choice
    (record { drop = λ reason. dropped_bytes net place.node reason 0 (V4 p) h; send = λ set lower e. All-nil Byte })

pub step_bytes : (net : Network) (place : Place) (content : Content) (choice : ℕ) → IsContent content
    → ErrorIsBytes (step_of net place content choice).error
step_bytes net place content choice h =
    step_each net place content choice GaveBytes (free_bytes net place content choice h)
    (λ link e long. dropped_bytes net place.node reasons.MtuExceeded (mtu_at net link) content h)

-- ---- the table that a packet goes by

abbrev pub HasTable : How → Type 0
HasTable (Arrived table) = table ≤ LAST_TABLE
HasTable (Submitted table) = table ≤ LAST_TABLE
HasTable (Through n lower) = Unit {0}

way_on_table : (n : ℕ) (takes goes_on : Bool) (table : Option ℕ) → IfSome table (λ number. number ≤ LAST_TABLE)
    → HasTable (way_on n takes goes_on table)
way_on_table n true goes_on table h = tt
way_on_table n false true None h = omega arith
way_on_table n false true (Some table) h = h
way_on_table n false false None h = omega arith
way_on_table n false false (Some table) h = h

pub onward_table : (n : ℕ) (b : Behaviour) → IfSome (behaviour_table b) (λ number. number ≤ LAST_TABLE) → HasTable (onward_from n b)
onward_table n b h = way_on_table n (behaviour_takes_links b) true (behaviour_table b) h

pub exposed_table : (n : ℕ) (b : Behaviour) → IfSome (behaviour_table b) (λ number. number ≤ LAST_TABLE) → HasTable (exposed_from n b)
exposed_table n b h = way_on_table n (behaviour_takes_links b) false (behaviour_table b) h
