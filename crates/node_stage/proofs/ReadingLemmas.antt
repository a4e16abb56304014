-- IPv6 packets in bytes that spell them.
use Rattle.std.proofs.Common.{◌≡◌, ℕ, ◌+◌, ◌-◌, ◌/◌, ◌≤◌, ◌==◌, Bool, true, false, nat_lt, if◌then◌else◌, List, length, take, slice_index, slice_set, refl, sym, ap, subst, ◌∙◌}
use Rattle.std.proofs.lemmas.Bool.{ltb-false}
use Rattle.srv6_rules.specs.declared.reason.Reason.TheVariants.{Truncated, BadVersion}
use Rattle.srv6_rules.specs.Packet.{Packet, V6, Unreadable, IsSpellable, header_len, content_of, packet_at, spelling, stated_len}
use Rattle.srv6_rules.specs.PacketTerms.{Spells}
use Rattle.srv6_rules.proofs.PublicLaws.{content_of_spelling_alone, length_spelling, all_spelling, edit_hop_limit, lowered_spellable}
use Rattle.ip6_headers.specs.Ip6Reading.{HoldsPacket}
use Rattle.ip6_headers.proofs.PublicLaws.{holds_spellable, holds_payload_len, holds_front}
use Rattle.endpoint_chain.specs.Outcomes.{HoldsAlone}
use Rattle.endpoint_chain.proofs.PublicLaws.{alone_spelled}

-- bytes that read as a packet begin with it, and what their header states is there
record Reads (bytes : List ℕ) (p : Packet) : Type 0 where
  whole : header_len + stated_len bytes ≤ length bytes
  packet : packet_at bytes ≡ p

reads_by_tests : (bytes : List ℕ) (p : Packet) (empty six short cut : Bool) → nat_lt (length bytes) (header_len + stated_len bytes) ≡ cut
    → (if empty then Unreadable bytes Truncated
    else if six then (if short then Unreadable bytes Truncated else if cut then Unreadable bytes Truncated else V6 (packet_at bytes))
    else Unreadable bytes BadVersion) ≡ V6 p
    → Reads bytes p
reads_by_tests bytes p true six short cut t e = cc
reads_by_tests bytes p false false short cut t e = cc
reads_by_tests bytes p false true true cut t e = cc
reads_by_tests bytes p false true false true t e = cc
reads_by_tests bytes p false true false false t e =
    record { whole = ltb-false (length bytes) (header_len + stated_len bytes) t; packet = cc }

reads : (bytes : List ℕ) (p : Packet) → content_of bytes ≡ V6 p → Reads bytes p
reads bytes p e = reads_by_tests bytes p (length bytes == 0) ((slice_index bytes 0 / 16) == 6) (nat_lt (length bytes) header_len)
    (nat_lt (length bytes) (header_len + stated_len bytes)) refl e

pub packet_at_spelling : (p : Packet) → IsSpellable p → packet_at (spelling p) ≡ p
packet_at_spelling p ok = (reads (spelling p) p (content_of_spelling_alone p ok)).packet

-- ---- a spelling holds its packet alone

pub alone_spelling : (p : Packet) → IsSpellable p → HoldsAlone (spelling p)
alone_spelling p ok =
    let e : content_of (spelling p) ≡ V6 p = content_of_spelling_alone p ok in
    let is : packet_at (spelling p) ≡ p = packet_at_spelling p ok in
    let holds : HoldsPacket (spelling p) =
    record { reads = e ∙ ap V6 (sym is); whole = (reads (spelling p) p e).whole; in_range = all_spelling p ok } in
    let stated : length p.payload ≡ stated_len (spelling p) =
    ap (λ (q : Packet). length q.payload) (sym is) ∙ holds_payload_len (spelling p) holds in
    record { holds = holds; alone = length_spelling p ∙ ap (λ n. header_len + n) stated }

module _ (bytes : List ℕ) (h : HoldsPacket bytes) where
  -- the bytes up to the packet's end hold it alone
  pub front_alone : HoldsAlone (take (header_len + stated_len bytes) bytes)
  front_alone =
      subst (λ xs. HoldsAlone xs) (sym (holds_front bytes h)) (alone_spelling (packet_at bytes) (holds_spellable bytes h))

  pub front_packet : packet_at (take (header_len + stated_len bytes) bytes) ≡ packet_at bytes
  front_packet = ap packet_at (holds_front bytes h) ∙ packet_at_spelling (packet_at bytes) (holds_spellable bytes h)

-- ---- bytes that spell a packet read as it

pub spells_content : (bytes : List ℕ) (p : Packet) → Spells bytes p → content_of bytes ≡ V6 p
spells_content bytes p h = ap content_of h.1 ∙ content_of_spelling_alone p h.0

-- ---- a hop limit that is one lower

module _ (bytes : List ℕ) (h : HoldsAlone bytes) where
  p : Packet
  p = packet_at bytes

  fewer : Packet
  fewer = record p { hop_limit = p.hop_limit - 1 }

  fewer_spellable : IsSpellable fewer
  unfolding p fewer
  fewer_spellable = lowered_spellable (packet_at bytes) (holds_spellable bytes h.holds)

  fewer_spelled : slice_set bytes 7 (p.hop_limit - 1) ≡ spelling fewer
  unfolding p fewer
  fewer_spelled =
      ap (λ xs. slice_set xs 7 (p.hop_limit - 1)) (alone_spelled bytes h)
      ∙ sym (edit_hop_limit (packet_at bytes) ((packet_at bytes).hop_limit - 1))

  pub lowered_alone : HoldsAlone (slice_set bytes 7 ((packet_at bytes).hop_limit - 1))
  unfolding p
  lowered_alone = subst (λ xs. HoldsAlone xs) (sym fewer_spelled) (alone_spelling fewer fewer_spellable)

  pub lowered_packet : packet_at (slice_set bytes 7 ((packet_at bytes).hop_limit - 1))
      ≡ record (packet_at bytes) { hop_limit = (packet_at bytes).hop_limit - 1 }
  unfolding p fewer
  lowered_packet = ap packet_at fewer_spelled ∙ packet_at_spelling fewer fewer_spellable
