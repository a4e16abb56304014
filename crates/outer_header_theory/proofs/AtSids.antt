-- What comes of packets at a SID that differ in their hop limit alone.
use Rattle.std.proofs.Common.{◌≡◌, ℕ, ◌+◌, Bool, true, false, ◌==◌, ◌&&◌, not, nat_le, if◌then◌else◌, List, [], ◌∷◌, Option, Some, None, refl}
use Rattle.srv6_rules.specs.declared.reason.Reason.TheVariants as reasons
use Rattle.srv6_rules.specs.declared.sid.SidEntry.{SidEntry}
use Rattle.srv6_rules.specs.Behaviours.{goes_on, exposes, family_inside}
use Rattle.srv6_rules.specs.CompressedSteps.{compression_of, is_replace, shifted, is_at_end, lacks_entry, is_ended, has_bad_list, Move, move_of, moved, ReplaceStep, Moved, AtEnd, Dropped, unless_dropped, hop_limit_fault, replace_step, segments_fault}
use Rattle.srv6_rules.specs.Packet.{Packet}
use Rattle.srv6_rules.specs.Srh.{Srh, srh_of, segments_left_at, routing_type_at}
use Rattle.srv6_rules.specs.Areas.{Fault, options_fault, tlvs_fault}
use Rattle.srv6_rules.specs.Chain.{Header, ChainEnd, Upper, Cut, hop_by_hop, fragment, destination_options, is_first, segments_left, is_segment_routing, from_place, chain_of}
use Rattle.srv6_rules.specs.Endpoint.{Endpoint, Onward, Refused, at_sid, at_header, at_sid_routing, at_whole_segments, at_packed_segments, by_replace_step, at_end, over_headers, unless_fault, next_segment, next_csid, has_bad_segments, advanced, outcome_without, leaves_none, is_allowed, shifts_at, is_options}
use Rattle.outer_header_theory.specs.HopLimits.{Course, Takes, at_hop}
use Rattle.outer_header_theory.proofs.HopLimitAlike.{Alike, alike_if, alike_same, alike_refused, alike_shown, alike_delivered, alike_unless, alike_above, alike_low, alike_out}

module _ (s : SidEntry) (allow : List ℕ) (p : Packet) where
  -- the step over whole segments
  segment_tests : (at : ℕ) (srh : Srh) (bad : Bool) (fault : Option Fault)
      → Alike (λ hop. if nat_le hop 1 then Refused reasons.HopLimit 0
      else if bad then Refused reasons.BadSegments (at + segments_left_at)
      else unless_fault fault (Onward (advanced (at_hop hop p) at srh)))
  segment_tests at srh true fault = alike_low reasons.BadSegments (at + segments_left_at)
  segment_tests at srh false (Some x) = alike_low x.reason x.at
  segment_tests at srh false None = alike_above (advanced p at srh)

  alike_segment : (at : ℕ) (srh : Srh) → Alike (λ hop. next_segment (at_hop hop p) at srh)
  alike_segment at srh = segment_tests at srh (has_bad_segments srh) (tlvs_fault at srh)

  alike_csid : Alike (λ hop. next_csid s (at_hop hop p))
  alike_csid = alike_above (shifted (compression_of s) p)

  alike_whole : (h : Header) (rest : ℕ → Endpoint) → Alike rest → Alike (λ hop. at_whole_segments s (at_hop hop p) h (rest hop))
  alike_whole h rest same =
      alike_if (segments_left h == 0) _ _ (alike_out s.usp h rest same)
      (alike_if (goes_on s) _ _ (alike_out (s.psp && leaves_none (srh_of h.bytes)) h _ (alike_segment h.place.at (srh_of h.bytes)))
      (alike_refused reasons.BadSegments (h.place.at + segments_left_at)))

  -- the step over packed segments
  abbrev step_by : Bool → Bool → Bool → Option Fault → Header → ℕ → ReplaceStep
  step_by lacks end bad fault h hop =
      let q = at_hop hop p in
      let m = move_of (compression_of s) (srh_of h.bytes) p.destination in
      if lacks then Dropped (segments_fault h.place.at)
      else if end then AtEnd
      else unless_dropped (hop_limit_fault q)
      (if bad then Dropped (segments_fault h.place.at) else unless_dropped fault (Moved (moved q h.place.at m) m.ended))

  low_dropped : (h : Header) (fault : Fault) (b : Bool) (x : Endpoint)
      → by_replace_step s h x (unless_dropped (if b then Some (record { reason = reasons.HopLimit; at = 0 }) else None) (Dropped fault))
      ≡ (if b then Refused reasons.HopLimit 0 else Refused fault.reason fault.at)
  low_dropped h fault true x = refl
  low_dropped h fault false x = refl

  low_moved : (h : Header) (ended b pops : Bool) (x : Endpoint) (q : Packet) → (s.psp && ended) ≡ pops
      → by_replace_step s h x (unless_dropped (if b then Some (record { reason = reasons.HopLimit; at = 0 }) else None) (Moved q ended))
      ≡ (if pops then outcome_without h (if b then Refused reasons.HopLimit 0 else Onward q)
      else (if b then Refused reasons.HopLimit 0 else Onward q))
  low_moved h ended true true x q e = refl
  low_moved h ended true false x q e = refl
  low_moved h ended false true x q e = rw e refl
  low_moved h ended false false x q e = rw e refl

  module _ (h : Header) (rest : ℕ → Endpoint) (same : Alike rest) where
    step_tests : (lacks end bad : Bool) (fault : Option Fault)
        → Alike (λ hop. by_replace_step s h (rest hop) (step_by lacks end bad fault h hop))
    step_tests true end bad fault = alike_refused reasons.BadSegments (h.place.at + segments_left_at)
    step_tests false true bad fault = alike_out s.usp h rest same
    step_tests false false true fault =
        alike_same _ _ (λ hop. low_dropped h (segments_fault h.place.at) (nat_le hop 1) (rest hop))
        (alike_low reasons.BadSegments (h.place.at + segments_left_at))
    step_tests false false false (Some x) =
        alike_same _ _ (λ hop. low_dropped h x (nat_le hop 1) (rest hop)) (alike_low x.reason x.at)
    step_tests false false false None =
        let m : Move = move_of (compression_of s) (srh_of h.bytes) p.destination in
        alike_same _ _ (λ hop. low_moved h m.ended (nat_le hop 1) (s.psp && m.ended) (rest hop) (moved (at_hop hop p) h.place.at m) refl)
        (alike_out (s.psp && m.ended) h _ (alike_above (moved p h.place.at m)))

    alike_step : Alike (λ hop. by_replace_step s h (rest hop)
        (replace_step (compression_of s) (at_hop hop p) h.place.at (srh_of h.bytes)))
    alike_step =
        step_tests (lacks_entry (compression_of s) (srh_of h.bytes) p.destination)
        (is_ended (compression_of s) (srh_of h.bytes) (srh_of h.bytes).segments_left p.destination)
        (has_bad_list (compression_of s) (srh_of h.bytes) p.destination) (tlvs_fault h.place.at (srh_of h.bytes))

    alike_packed : Alike (λ hop. at_packed_segments s (at_hop hop p) h (rest hop))
    alike_packed =
        alike_if (goes_on s) _ _ alike_step
        (alike_if (is_at_end (compression_of s) (srh_of h.bytes) p.destination) _ _ (alike_out s.usp h rest same)
        (alike_refused reasons.BadSegments (h.place.at + segments_left_at)))

    alike_routing : Alike (λ hop. at_sid_routing s (at_hop hop p) h (rest hop))
    alike_routing =
        alike_if (is_segment_routing h) _ _ (alike_if (is_replace s.csid) _ _ alike_packed (alike_whole h rest same))
        (alike_if (segments_left h == 0) _ _ same (alike_refused reasons.UnknownRouting (h.place.at + routing_type_at)))

    alike_header : Alike (λ hop. at_header s (at_hop hop p) h (rest hop))
    alike_header =
        alike_if (shifts_at s p && not (is_options h)) _ _ alike_csid
        (alike_if (h.place.kind == hop_by_hop) _ _
        (alike_if (is_first h.place) _ _ same (alike_refused reasons.LateHopByHop h.place.named_at))
        (alike_if (h.place.kind == destination_options) _ _ (alike_unless (options_fault h) rest same)
        (alike_if (h.place.kind == fragment) _ _ (alike_refused reasons.Fragment h.place.at) alike_routing)))

  alike_headers : (hs : List Header) (end : ℕ → Endpoint) → Alike end
      → Alike (λ hop. over_headers (at_header s (at_hop hop p)) hs (end hop))
  alike_headers [] end same = same
  alike_headers (h ∷ hs) end same = alike_header h _ (alike_headers hs end same)

  alike_end : (end : ChainEnd) → Alike (λ hop. at_end s allow (at_hop hop p) end)
  alike_end (Cut place) = alike_refused reasons.BadChain place.at
  alike_end (Upper place) =
      alike_if (shifts_at s p) _ _ alike_csid
      (alike_if (exposes s place.kind) _ _ (alike_shown (family_inside place.kind) (from_place p place.at))
      (alike_if (is_allowed allow place.kind) _ _ (alike_delivered (λ hop. at_hop hop p)) (alike_refused reasons.UpperLayer place.at)))

  -- what comes of a packet at a SID has one course, whatever its hop limit is
  pub one_course : (course : Course) × ((hop : ℕ) → Takes course hop (at_sid s allow (at_hop hop p)))
  one_course =
      let alike = alike_headers (chain_of p).headers _ (alike_end (chain_of p).end) in
      (alike.course, alike.takes)
