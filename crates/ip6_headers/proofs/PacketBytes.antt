-- Packets in bytes: what reading them says.
use Rattle.std.proofs.Common.{◌≡◌, ℕ, ◌+◌, List, ◌++◌, length, take, drop, refl, sym, ap, ◌∙◌, arith, length-drop}
use Rattle.std.proofs.lemmas.List.{length-take-le, take_at}
use Rattle.std.specs.Prelude.{Result, Ok, Err}
use Rattle.srv6_rules.specs.Packet.{Packet, V6, IsSpellable, content_of, packet_at, stated_len, spelling, header_len}
use Rattle.srv6_rules.proofs.PublicLaws.{content_of_spelling, length_spelling, packet_at_spellable, reads_spelled}
use Rattle.ip6_headers.specs.declared.faults.ReadFault.{ReadFault}
use Rattle.ip6_headers.specs.declared.faults.ReadFault.TheVariants.{Truncated, BadVersion}
use Rattle.ip6_headers.specs.Ip6Reading.{HoldsPacket, read_content}

-- the packet in whole bytes can be spelled, and they begin with its spelling
pub holds_spellable : (bytes : List ℕ) → HoldsPacket bytes → IsSpellable (packet_at bytes)
holds_spellable bytes h = packet_at_spellable bytes h.in_range h.whole

pub holds_spelled : (bytes : List ℕ) → HoldsPacket bytes
    → bytes ≡ spelling (packet_at bytes) ++ drop (length (spelling (packet_at bytes))) bytes
holds_spelled bytes h = reads_spelled bytes (packet_at bytes) h.in_range h.reads

-- its payload has the length that the header states
pub holds_payload_len : (bytes : List ℕ) → HoldsPacket bytes → length (packet_at bytes).payload ≡ stated_len bytes
unfolding packet_at
holds_payload_len bytes h =
    let whole = h.whole in
    length-take-le (stated_len bytes) (drop header_len bytes) (omega (arith, length-drop header_len bytes))

-- the bytes up to its end spell it
pub holds_front : (bytes : List ℕ) → HoldsPacket bytes → take (header_len + stated_len bytes) bytes ≡ spelling (packet_at bytes)
holds_front bytes h =
    let p : Packet = packet_at bytes in
    let n : ℕ = length (spelling p) in
    let len : header_len + stated_len bytes ≡ n =
    ap (λ k. header_len + k) (sym (holds_payload_len bytes h)) ∙ sym (length_spelling p) in
    ap (λ k. take k bytes) len ∙ ap (take n) (holds_spelled bytes h) ∙ take_at (spelling p) (drop n bytes) n refl

-- bytes that begin with a packet's spelling read as that packet
pub read_back : (bytes : List ℕ) (answer : Result Packet ReadFault) → content_of bytes ≡ read_content bytes answer
    → (p : Packet) (rest : List ℕ) → IsSpellable p → bytes ≡ spelling p ++ rest → answer ≡ Ok p
read_back bytes (Ok q) is p rest ok same =
    let reads : content_of bytes ≡ V6 p = ap content_of same ∙ content_of_spelling p rest ok in
    cc (sym is ∙ reads)
read_back bytes (Err Truncated) is p rest ok same =
    let reads : content_of bytes ≡ V6 p = ap content_of same ∙ content_of_spelling p rest ok in
    cc (sym is ∙ reads)
read_back bytes (Err BadVersion) is p rest ok same =
    let reads : content_of bytes ≡ V6 p = ap content_of same ∙ content_of_spelling p rest ok in
    cc (sym is ∙ reads)

pub ruleset readings = (holds_spellable, holds_spelled)

pub ruleset spellings = (holds_front)

pub ruleset payload_lens = (holds_payload_len)
