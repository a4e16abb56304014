-- What comes of a pushed header at a SID, for all bytes that it stands in front of.
use Rattle.std.proofs.Common.{◌≡◌, ℕ, ◌+◌, ◌-◌, Bool, true, false, ◌==◌, ◌&&◌, nat_le, if◌then◌else◌, List, [], ◌∷◌, length, Option, Some, None, refl, ap, ◌∙◌, arith}
use Rattle.std.proofs.lemmas.List.{drop_at}
use Rattle.srv6_rules.specs.declared.numbers.TheConstants.{NEXT_HEADER_AT}
use Rattle.srv6_rules.specs.declared.reason.Reason.TheVariants as reasons
use Rattle.srv6_rules.specs.declared.sid.SidEntry.{SidEntry}
use Rattle.srv6_rules.specs.declared.family.Family.TheVariants.{V6}
use Rattle.srv6_rules.specs.declared.compression.Compression.{Compression}
use Rattle.srv6_rules.specs.Behaviours.{goes_on, exposes, ipv6_inside}
use Rattle.srv6_rules.specs.Packet.{Packet, header_len}
use Rattle.srv6_rules.specs.Srh.{Srh, srh_spelling, srh_of, segments_left_at, entry_of}
use Rattle.srv6_rules.specs.Areas.{Fault, tlvs_fault}
use Rattle.srv6_rules.specs.Chain.{ChainPlace, Upper, Chain, behind, segments_left, from_place, chain_of}
use Rattle.srv6_rules.specs.ChainTerms.{chain_at}
use Rattle.srv6_rules.specs.CompressedSteps.{ReplaceStep, Moved, AtEnd, Dropped, Move, move_of, compression_of, is_replace, shifts, shifted, moved, hop_limit_fault, lacks_entry, is_ended, is_at_end, has_bad_list, unless_dropped, segments_fault, replace_step}
use Rattle.srv6_rules.specs.Endpoint.{Endpoint, Onward, Exposed, outcome_without, over_headers, is_allowed, upper_layer, has_bad_segments, next_segment, leaves_none, after_last, at_whole_segments, by_replace_step, at_packed_segments, next_csid, at_header, at_last_upper, at_upper, at_end, at_sid}
use Rattle.srv6_rules.proofs.PublicLaws.{chain_of_start, chain_at_upper, chain_at_spelled}
use Rattle.outer_header_theory.specs.HeaderFronts.{Fate, IsFate, IsFrontOf, AreFront, endpoint_of, filled}
use Rattle.outer_header_theory.proofs.Framing.{Framed, kept_fate, framed_more, framed_onward, framed_exposed, framed_delivered, framed_refused, framed_same, framed_if, framed_unless}
use Rattle.outer_header_theory.proofs.PushedHeaderTaking.{head_of, IsLike, like_front, framed_out}

-- where the packet inside stands: behind the IPv6 header, or behind the segment routing header too
abbrev place_in : Option Srh → ChainPlace
place_in None = record { at = header_len; kind = ipv6_inside; named_at = NEXT_HEADER_AT }
place_in (Some t) = record { at = header_len + length (srh_spelling t); kind = ipv6_inside; named_at = header_len }

inside_bytes : (p : Packet) (o : Option Srh) (bytes : List ℕ) → from_place (filled p o bytes) (place_in o).at ≡ bytes
inside_bytes p None bytes = refl
inside_bytes p (Some t) bytes =
    drop_at (srh_spelling t) bytes (header_len + length (srh_spelling t) - header_len) (omega arith)

module _ (s : SidEntry) (allow : List ℕ) (p : Packet) where
  -- ---- the packet inside

  framed_shift : (F : Option Srh → Type 0) (o : Option Srh) → F o → Framed F (λ bytes. next_csid s (filled p o bytes))
  framed_shift F None is =
      framed_if F (nat_le p.hop_limit 1) _ _ (framed_refused F reasons.HopLimit 0) (framed_onward F (shifted (compression_of s) p) None is)
  framed_shift F (Some t) is =
      framed_if F (nat_le p.hop_limit 1) _ _ (framed_refused F reasons.HopLimit 0)
      (framed_onward F (shifted (compression_of s) p) (Some t) is)

  framed_layer : (F : Option Srh → Type 0) (o : Option Srh) → F o → (at named : ℕ)
      → Framed F (λ bytes. upper_layer allow (filled p o bytes) (record { at = at; kind = ipv6_inside; named_at = named }))
  framed_layer F o is at named =
      framed_if F (is_allowed allow ipv6_inside) _ _ (framed_delivered F p o is) (framed_refused F reasons.UpperLayer at)

  framed_last : (F : Option Srh → Type 0) (o : Option Srh) → F o → Framed F (λ bytes. at_last_upper s allow (filled p o bytes) (place_in o))
  framed_last F None is =
      framed_if F (exposes s ipv6_inside) _ _ (framed_exposed F) (framed_layer F None is header_len NEXT_HEADER_AT)
  framed_last F (Some t) is =
      framed_if F (exposes s ipv6_inside) _ _
      (framed_same F _ _ (λ bytes. ap (λ xs. Exposed V6 xs) (inside_bytes p (Some t) bytes)) (framed_exposed F))
      (framed_layer F (Some t) is (header_len + length (srh_spelling t)) header_len)

  framed_upper : (F : Option Srh → Type 0) (o : Option Srh) → F o → Framed F (λ bytes. at_upper s allow (filled p o bytes) (place_in o))
  framed_upper F None is =
      framed_if F (shifts (compression_of s) p.destination) _ _ (framed_shift F None is) (framed_last F None is)
  framed_upper F (Some t) is =
      framed_if F (shifts (compression_of s) p.destination) _ _ (framed_shift F (Some t) is) (framed_last F (Some t) is)

  -- ---- a segment routing header in front of it

  module _ (t : Srh) (front : IsFrontOf t) where
    -- with other Segments Left, another hop limit and another destination
    framed_moved : (hop destination left : ℕ)
        → Framed (IsLike t) (λ bytes. Onward (filled (record p { hop_limit = hop; destination = destination })
        (Some (record t { segments_left = left })) bytes))
    framed_moved hop destination left =
        framed_onward (IsLike t) (record p { hop_limit = hop; destination = destination }) (Some (record t { segments_left = left }))
        (front, refl)

    -- what comes of the packet inside
    inside : List ℕ → Endpoint
    inside bytes = at_upper s allow (filled p (Some t) bytes) (place_in (Some t))

    framed_inside : Framed (IsLike t) inside
    unfolding inside
    framed_inside = framed_upper (IsLike t) (Some t) (front, refl)

    -- it may be taken out
    framed_pop : (b : Bool) (f : List ℕ → Endpoint) → Framed (IsLike t) f
        → Framed AreFront (λ bytes. if b then outcome_without (head_of t) (f bytes) else f bytes)
    framed_pop b f framed =
        framed_if AreFront b _ _ (framed_out t f framed) (framed_more (IsLike t) AreFront f (like_front t) framed)

    framed_after_last : Framed AreFront (λ bytes. after_last s (head_of t) (inside bytes))
    framed_after_last = framed_pop s.usp inside framed_inside

    -- ---- whole segments

    framed_next : Framed (IsLike t) (λ bytes. next_segment (filled p (Some t) bytes) header_len (srh_of (srh_spelling t)))
    framed_next =
        let srh : Srh = srh_of (srh_spelling t) in
        let left : ℕ = srh.segments_left - 1 in
        framed_if (IsLike t) (nat_le p.hop_limit 1) _ _ (framed_refused (IsLike t) reasons.HopLimit 0)
        (framed_if (IsLike t) (has_bad_segments srh) _ _ (framed_refused (IsLike t) reasons.BadSegments (header_len + segments_left_at))
        (framed_unless (IsLike t) (tlvs_fault header_len srh) _ (framed_moved (p.hop_limit - 1) (entry_of srh left) left)))

    framed_whole : Framed AreFront (λ bytes. at_whole_segments s (filled p (Some t) bytes) (head_of t) (inside bytes))
    framed_whole =
        framed_if AreFront (segments_left (head_of t) == 0) _ _ framed_after_last
        (framed_if AreFront (goes_on s) _ _
        (framed_pop (s.psp && leaves_none (srh_of (srh_spelling t))) _ framed_next)
        (framed_refused AreFront reasons.BadSegments (header_len + segments_left_at)))

    -- ---- packed segments

    -- what comes of a step
    by_step : (List ℕ → ReplaceStep) → List ℕ → Endpoint
    by_step step bytes = by_replace_step s (head_of t) (inside bytes) (step bytes)

    step_if : (b : Bool) (f g : List ℕ → ReplaceStep) → Framed AreFront (by_step f) → Framed AreFront (by_step g)
        → Framed AreFront (by_step (λ bytes. if b then f bytes else g bytes))
    unfolding by_step
    step_if true f g one other = one
    step_if false f g one other = other

    step_dropped : (fault : Fault) → Framed AreFront (by_step (λ bytes. Dropped fault))
    unfolding by_step
    step_dropped fault = framed_refused AreFront fault.reason fault.at

    step_unless : (x : Option Fault) (f : List ℕ → ReplaceStep) → Framed AreFront (by_step f)
        → Framed AreFront (by_step (λ bytes. unless_dropped x (f bytes)))
    unfolding by_step
    step_unless None f framed = framed
    step_unless (Some fault) f framed = step_dropped fault

    step_end : Framed AreFront (by_step (λ bytes. AtEnd))
    unfolding by_step
    step_end = framed_after_last

    step_moved : (m : Move) → Framed AreFront (by_step (λ bytes. Moved (moved (filled p (Some t) bytes) header_len m) m.ended))
    unfolding by_step
    step_moved m =
        framed_pop (s.psp && m.ended) _ (framed_moved (p.hop_limit - 1) m.destination m.segments_left)

    framed_step : Framed AreFront (by_step (λ bytes. replace_step (compression_of s) (filled p (Some t) bytes) header_len
        (srh_of (srh_spelling t))))
    framed_step =
        let c : Compression = compression_of s in
        let srh : Srh = srh_of (srh_spelling t) in
        step_if (lacks_entry c srh p.destination) _ _ (step_dropped (segments_fault header_len))
        (step_if (is_ended c srh srh.segments_left p.destination) _ _ step_end
        (step_unless (hop_limit_fault p) _
        (step_if (has_bad_list c srh p.destination) _ _ (step_dropped (segments_fault header_len))
        (step_unless (tlvs_fault header_len srh) _ (step_moved (move_of c srh p.destination))))))

    framed_packed : Framed AreFront (λ bytes. at_packed_segments s (filled p (Some t) bytes) (head_of t) (inside bytes))
    unfolding by_step
    framed_packed =
        framed_if AreFront (goes_on s) _ _ framed_step
        (framed_if AreFront (is_at_end (compression_of s) (srh_of (srh_spelling t)) p.destination) _ _ framed_after_last
        (framed_refused AreFront reasons.BadSegments (header_len + segments_left_at)))

    -- ---- either

    framed_header : Framed AreFront (λ bytes. at_header s (filled p (Some t) bytes) (head_of t) (inside bytes))
    framed_header =
        framed_if AreFront (shifts (compression_of s) p.destination && true) _ _ (framed_shift AreFront (Some t) front)
        (framed_if AreFront (is_replace s.csid) _ _ framed_packed framed_whole)

  -- ---- the chain

  chain_bare : (bytes : List ℕ) → chain_of (filled p None bytes) ≡ record { headers = []; end = Upper (place_in None) }
  chain_bare bytes =
      let q : Packet = filled p None bytes in
      chain_of_start q ∙ chain_at_upper q (place_in None) (omega arith) refl

  chain_with : (t : Srh) → IsFrontOf t → (bytes : List ℕ)
      → chain_of (filled p (Some t) bytes) ≡ record { headers = head_of t ∷ []; end = Upper (place_in (Some t)) }
  chain_with t front bytes =
      let q : Packet = filled p (Some t) bytes in
      let n : ℕ = length (srh_spelling t) in
      chain_of_start q
      ∙ chain_at_spelled q header_len NEXT_HEADER_AT t bytes (omega arith) front.1 refl
      ∙ ap (λ k. behind (head_of t) (chain_at q (record { at = header_len + n; kind = k; named_at = header_len }))) front.0
      ∙ ap (behind (head_of t)) (chain_at_upper q (place_in (Some t)) (omega arith) refl)

  over_chain : Packet → Chain → Endpoint
  over_chain q c = over_headers (at_header s q) c.headers (at_end s allow q c.end)

  framed_sid : (o : Option Srh) → AreFront o → Framed AreFront (λ bytes. at_sid s allow (filled p o bytes))
  unfolding over_chain inside
  framed_sid None front =
      framed_same AreFront _ _ (λ bytes. ap (over_chain (filled p None bytes)) (chain_bare bytes)) (framed_upper AreFront None tt)
  framed_sid (Some t) front =
      framed_same AreFront _ _ (λ bytes. ap (over_chain (filled p (Some t) bytes)) (chain_with t front bytes)) (framed_header t front)

  -- what comes of a pushed header at a SID is one fate for all bytes
  pub one_fate : (o : Option Srh) → AreFront o
      → (fate : Fate) × IsFate fate × ((bytes : List ℕ) → at_sid s allow (filled p o bytes) ≡ endpoint_of fate bytes)
  one_fate o front =
      let framed = framed_sid o front in
      (framed.fate, kept_fate framed.fate framed.kept, framed.same)
