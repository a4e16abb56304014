-- IPv4 packets in bytes: what reading them says, their fields, and a lower time to live.
use Rattle.std.proofs.Common.{◌≡◌, ℕ, ◌+◌, ◌-◌, ◌*◌, ◌^◌, ◌<◌, ◌≤◌, List, ◌++◌, length, take, drop, slice_index, slice_set, All, refl, sym, ap, ◌∙◌, arith, append_assoc, length-append, length-drop}
use Rattle.std.proofs.lemmas.List.{length-take-le, take_at, take-append-drop, drop-append-le, get_or-take}
use Rattle.std.specs.Prelude.{Result, Ok, Err}
use Rattle.srv6_rules.specs.declared.reason.Reason.{Reason}
use Rattle.srv6_rules.specs.Packet.{two_bytes, two_number, four_number}
use Rattle.srv6_rules.specs.Packet4.{Packet4, IsSpellable4, spelling4, read4, packet4_at, stated_header_len, total_len, address4_at, header_checksum, checksum_lowered, ttl_lowered, lowered4}
use Rattle.srv6_rules.proofs.PublicLaws.{read4_spelling, reads4_spellable, reads4_spelled, ttl_lowered_front, lowered4_spellable, two_number_append, four_number_append}
use Rattle.ip6_headers.specs.declared.faults.ReadFault.{ReadFault}
use Rattle.ip6_headers.specs.declared.faults.ReadFault.TheVariants.{Truncated, BadVersion}
use Rattle.ip6_headers.specs.Ip4Reading.{HoldsPacket4, read_packet4}

-- the packet in whole bytes can be spelled, and they begin with its spelling
pub holds4_spellable : (bytes : List ℕ) → HoldsPacket4 bytes → IsSpellable4 (packet4_at bytes)
holds4_spellable bytes h = reads4_spellable bytes (packet4_at bytes) h.reads h.in_range

pub holds4_spelled : (bytes : List ℕ) → HoldsPacket4 bytes
    → bytes ≡ spelling4 (packet4_at bytes) ++ drop (length (spelling4 (packet4_at bytes))) bytes
holds4_spelled bytes h = reads4_spelled bytes (packet4_at bytes) h.reads

-- bytes that begin with a packet's spelling read as that packet
pub read4_back : (bytes : List ℕ) (answer : Result Packet4 ReadFault) → read4 bytes ≡ read_packet4 answer
    → (p : Packet4) (rest : List ℕ) → IsSpellable4 p → bytes ≡ spelling4 p ++ rest → answer ≡ Ok p
read4_back bytes (Ok q) is p rest ok same =
    let reads : read4 bytes ≡ Ok p = ap read4 same ∙ read4_spelling p rest ok in
    let both : ◌≡◌ {A = Result Packet4 Reason} (Ok q) (Ok p) = sym is ∙ reads in
    cc
read4_back bytes (Err Truncated) is p rest ok same =
    let reads : read4 bytes ≡ Ok p = ap read4 same ∙ read4_spelling p rest ok in
    cc (sym is ∙ reads)
read4_back bytes (Err BadVersion) is p rest ok same =
    let reads : read4 bytes ≡ Ok p = ap read4 same ∙ read4_spelling p rest ok in
    cc (sym is ∙ reads)

-- ---- fields

header_front : (bytes : List ℕ) → bytes ≡ (packet4_at bytes).header ++ drop (stated_header_len bytes) bytes
unfolding packet4_at
header_front bytes = sym (take-append-drop (stated_header_len bytes) bytes)

header_length : (bytes : List ℕ) → HoldsPacket4 bytes → length (packet4_at bytes).header ≡ stated_header_len bytes
unfolding packet4_at
header_length bytes h =
    let header = h.header in let whole = h.whole in
    length-take-le (stated_header_len bytes) bytes (omega arith)

-- each of a header's first 20 bytes is the packet's
pub holds4_byte : (bytes : List ℕ) (k : ℕ) → HoldsPacket4 bytes → k < 20 → slice_index (packet4_at bytes).header k ≡ slice_index bytes k
unfolding packet4_at
holds4_byte bytes k h below = let least = h.least in get_or-take (stated_header_len bytes) bytes k 0 (omega arith)

two_front : (at : ℕ) (h rest : List ℕ) → at + 2 ≤ length h → two_number (drop at (h ++ rest)) ≡ two_number (drop at h)
two_front at h rest fits =
    ap two_number (drop-append-le at h rest (omega arith)) ∙ two_number_append (drop at h) rest (omega (arith, length-drop at h))

four_front : (at : ℕ) (h rest : List ℕ) → at + 4 ≤ length h → four_number (drop at (h ++ rest)) ≡ four_number (drop at h)
four_front at h rest fits =
    ap four_number (drop-append-le at h rest (omega arith)) ∙ four_number_append (drop at h) rest (omega (arith, length-drop at h))

pub holds4_total : (bytes : List ℕ) → HoldsPacket4 bytes → total_len (packet4_at bytes).header ≡ total_len bytes
unfolding total_len two_number
holds4_total bytes h =
    let least = h.least in let len = header_length bytes h in
    sym (ap (λ xs. two_number (drop 2 xs)) (header_front bytes)
    ∙ two_front 2 (packet4_at bytes).header (drop (stated_header_len bytes) bytes) (omega arith))

pub holds4_address : (at : ℕ) (bytes : List ℕ) → HoldsPacket4 bytes → at + 4 ≤ 20
    → address4_at at (packet4_at bytes).header ≡ address4_at at bytes
unfolding address4_at four_number
holds4_address at bytes h fits =
    let least = h.least in let len = header_length bytes h in
    sym (ap (λ xs. four_number (drop at xs) * 2 ^ 96) (header_front bytes)
    ∙ ap (λ n. n * 2 ^ 96) (four_front at (packet4_at bytes).header (drop (stated_header_len bytes) bytes) (omega arith)))

pub holds4_length : (bytes : List ℕ) → HoldsPacket4 bytes → length (spelling4 (packet4_at bytes)) ≡ total_len bytes
holds4_length bytes h =
    let ok = holds4_spellable bytes h in
    length-append (packet4_at bytes).header (packet4_at bytes).payload ∙ sym ok.total ∙ holds4_total bytes h

-- the bytes up to its end spell it
pub holds4_front : (bytes : List ℕ) → HoldsPacket4 bytes → take (total_len bytes) bytes ≡ spelling4 (packet4_at bytes)
holds4_front bytes h =
    let n : ℕ = length (spelling4 (packet4_at bytes)) in
    ap (λ k. take k bytes) (sym (holds4_length bytes h)) ∙ ap (take n) (holds4_spelled bytes h)
    ∙ take_at (spelling4 (packet4_at bytes)) (drop n bytes) n refl

-- ---- a lower time to live

-- what is written in them
pub ttl_lowered_written : (bytes : List ℕ) (n : ℕ) → n ≡ checksum_lowered (two_number (drop 10 bytes))
    → take 10 (slice_set bytes 8 (slice_index bytes 8 - 1)) ++ (two_bytes n ++ drop 12 (slice_set bytes 8 (slice_index bytes 8 - 1)))
    ≡ ttl_lowered bytes
unfolding ttl_lowered header_checksum two_bytes two_number
ttl_lowered_written bytes n e =
    let fewer : List ℕ = slice_set bytes 8 (slice_index bytes 8 - 1) in
    ap (λ k. take 10 fewer ++ (two_bytes k ++ drop 12 fewer)) e

-- bytes that read as a packet read, where the time to live was lowered, as that packet with a lower one
pub read4_lowered : (bytes : List ℕ) (p : Packet4) → All (λ b. b < 2 ^ 8) bytes → read4 bytes ≡ Ok p
    → read4 (ttl_lowered bytes) ≡ Ok (lowered4 p)
read4_lowered bytes p all e =
    let ok = reads4_spellable bytes p e all in
    let rest : List ℕ = drop (length (spelling4 p)) bytes in
    ap (λ xs. read4 (ttl_lowered xs)) (reads4_spelled bytes p e ∙ append_assoc p.header p.payload rest)
    ∙ ap read4 (ttl_lowered_front p.header (p.payload ++ rest) ok.least ∙ sym (append_assoc (ttl_lowered p.header) p.payload rest))
    ∙ read4_spelling (lowered4 p) rest (lowered4_spellable p ok)

pub ruleset readings4 = (holds4_spellable, holds4_spelled)

pub ruleset fields4 = (holds4_byte, holds4_total, holds4_address, holds4_length)

pub ruleset spellings4 = (holds4_front, holds4_length)

pub ruleset lowerings4 = (read4_lowered)
