-- What is judged of a packet at a SID that decapsulates, in bytes that hold the packet alone.
use Rattle.std.proofs.Common.{◌≡◌, ℕ, ◌+◌, ◌-◌, ◌<◌, ◌^◌, ◌≤◌, List, length, take, drop, sym, ap, subst, ◌∙◌, arith, length-drop}
use Rattle.std.proofs.lemmas.List.{drop-drop, take_all}
use Rattle.srv6_rules.specs.declared.family.Family.{Family}
use Rattle.srv6_rules.specs.declared.reason.Reason.{Reason}
use Rattle.srv6_rules.specs.declared.sid.SidEntry.{SidEntry}
use Rattle.srv6_rules.specs.Packet.{Packet, header_len, packet_at, stated_len}
use Rattle.srv6_rules.specs.PacketTerms.{Spells}
use Rattle.srv6_rules.specs.Chain.{from_place}
use Rattle.srv6_rules.specs.Endpoint.{Endpoint, Exposed, Delivered, Refused, at_sid}
use Rattle.srv6_rules.proofs.PublicLaws.{at_sid_place}
use Rattle.ip6_headers.proofs.PublicLaws.{holds_spellable, holds_front, holds_payload_len}
use Rattle.endpoint_chain.specs.Outcomes.{HoldsAlone, Leaves}
use Rattle.decap_behaviours.specs.declared.decap_judge.Exposure.{Exposure}
use Rattle.decap_behaviours.specs.DecapJudging.{IsExposure, IsWithin}

-- what is judged of one outcome is judged of one that is the same
pub judged_at : (p : Packet) (e f : Endpoint) (judged : Exposure) → e ≡ f → IsExposure p f judged → IsExposure p e judged
judged_at p e f judged same is = let P : Endpoint → Type 0 = λ x. IsExposure p x judged in subst P (sym same) is

-- and of a packet in bytes, of the packet in bytes that are the same
pub judged_in : (s : SidEntry) (allow one two : List ℕ) (judged : Exposure) → one ≡ two
    → IsExposure (packet_at one) (at_sid s allow (packet_at one)) judged
    → IsExposure (packet_at two) (at_sid s allow (packet_at two)) judged
judged_in s allow one two judged same is =
    let P : List ℕ → Type 0 = λ xs. IsExposure (packet_at xs) (at_sid s allow (packet_at xs)) judged in subst P same is

module _ (bytes : List ℕ) (h : HoldsAlone bytes) where
  payload_alone : (packet_at bytes).payload ≡ drop header_len bytes
  unfolding packet_at
  payload_alone =
      let alone = h.alone in
      take_all (stated_len bytes) (drop header_len bytes) (omega (arith, length-drop header_len bytes))

  -- the bytes from a place on are those without as many in front
  pub bytes_from : (at : ℕ) → header_len ≤ at → from_place (packet_at bytes) at ≡ drop at bytes
  bytes_from at behind =
      let sum : header_len + (at - header_len) ≡ at = omega arith in
      ap (drop (at - header_len)) payload_alone ∙ drop-drop (at - header_len) header_len bytes ∙ ap (λ k. drop k bytes) sum

  -- a place in the packet is one in the bytes
  pub place_there : (at : ℕ) → IsWithin (packet_at bytes) at → at ≤ length bytes
  place_there at w =
      let within = w.within in
      let alone = h.alone in
      let len = holds_payload_len bytes h.holds in
      omega arith

  pub alone_spells : Spells bytes (packet_at bytes)
  alone_spells =
      let alone = h.alone in
      let all : take (header_len + stated_len bytes) bytes ≡ bytes = take_all (header_len + stated_len bytes) bytes (omega arith) in
      (holds_spellable bytes h.holds, sym all ∙ holds_front bytes h.holds)

  -- a packet that the upper layer takes is spelled by the bytes
  pub alone_leaves : (e : Endpoint) → e ≡ Delivered (packet_at bytes) → Leaves e Delivered bytes
  alone_leaves e is = record { packet = packet_at bytes; is = is; spelled = alone_spells }

  -- what is exposed are the bytes from a place on
  pub alone_exposes : (e : Endpoint) (family : Family) (at : ℕ) → e ≡ Exposed family (from_place (packet_at bytes) at)
      → IsWithin (packet_at bytes) at → e ≡ Exposed family (drop at bytes)
  alone_exposes e family at is w = is ∙ ap (Exposed family) (bytes_from at w.behind)

  -- the place of a fault fits
  pub alone_fault : (s : SidEntry) (allow : List ℕ) (reason : Reason) (at : ℕ) → at_sid s allow (packet_at bytes) ≡ Refused reason at
      → at < 2 ^ 32
  alone_fault s allow reason at is =
      let place = at_sid_place s allow (packet_at bytes) reason at is in
      let spellable = holds_spellable bytes h.holds in
      let fits = spellable.payload_len in
      omega arith
