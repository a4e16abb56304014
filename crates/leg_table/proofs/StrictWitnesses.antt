-- Packets for each SID: one with a segment to come, and one in which a packet of a family begins.
use Rattle.std.proofs.Common.{◌≡◌, ℕ, Bool, true, false, ◌==◌, ◌&&◌, nat_lt, if◌then◌else◌, List, [], ◌∷◌, Option, Some, slice_get, refl, ◌∙◌, ap, inl, inr}
use Rattle.std.proofs.lemmas.Bool.{cases_Bool, and_from}
use Rattle.srv6_rules.specs.declared.family.Family.{Family}
use Rattle.srv6_rules.specs.declared.family.Family.TheVariants as families
use Rattle.srv6_rules.specs.declared.sid.SidEntry.{SidEntry}
use Rattle.srv6_rules.specs.Behaviours.{goes_on, exposes}
use Rattle.srv6_rules.specs.CompressedSteps.{compression_of, shifts, is_replace, index_in, has_bad_list, Move, move_of, moved, replace_step}
use Rattle.srv6_rules.specs.Packet.{Packet}
use Rattle.srv6_rules.specs.Policies.{inner_kind}
use Rattle.srv6_rules.specs.Srh.{srh_of}
use Rattle.srv6_rules.specs.Chain.{Header, Chain, Upper, chain_of, chain_from, is_segment_routing}
use Rattle.srv6_rules.specs.Endpoint.{Endpoint, Onward, at_sid, at_header, at_end, over_headers, next_segment, next_csid, outcome_without, leaves_none, advanced, after_step, by_replace_step, shifts_at}
use Rattle.srv6_rules.proofs.PublicLaws.{at_header_shifts, at_header_known, known_whole, known_packed, whole_steps, packed_steps}
use Rattle.net_model.specs.Network.{Network}
use Rattle.leg_table.specs.TransitsTerms.{with_hop_limit}
use Rattle.leg_table.specs.PositionSids.{takes_step, hands_over}
use Rattle.leg_table.specs.StrictLegsTerms.{is_onward, is_exposed, takes_on, takes_out, has_next_segment, has_packet_inside}
use Rattle.leg_table.proofs.StrictExecutions.{step_parts}

-- a segment routing header of two entries, with one segment left
routing_bytes : List ℕ
routing_bytes =
    41 ∷ 4 ∷ 4 ∷ 1 ∷ 1 ∷ 0 ∷ 0 ∷ 0 ∷ 0 ∷ 0 ∷ 0 ∷ 0 ∷ 0 ∷ 0 ∷ 0 ∷ 0 ∷ 0 ∷ 0 ∷ 0 ∷ 0 ∷ 0 ∷ 0 ∷ 0 ∷ 0 ∷
    0 ∷ 0 ∷ 0 ∷ 0 ∷ 0 ∷ 0 ∷ 0 ∷ 0 ∷ 0 ∷ 0 ∷ 0 ∷ 0 ∷ 0 ∷ 0 ∷ 0 ∷ 0 ∷ []

routing_header : Header
routing_header = record { place = record { at = 40; kind = 43; named_at = 6 }; bytes = routing_bytes }

pub some_packet : ℕ → ℕ → Packet
some_packet destination limit =
    record {
      traffic_class = 0;
      flow_label = 0;
      next_header = 43;
      hop_limit = limit;
      source = 0;
      destination = destination;
      payload = routing_bytes;
    }

some_packet_chain : (destination limit : ℕ)
    → chain_of (with_hop_limit 2 (some_packet destination limit))
    ≡ record { headers = routing_header ∷ []; end = Upper (record { at = 80; kind = 41; named_at = 40 }) }
unfolding some_packet routing_header routing_bytes chain_from
some_packet_chain destination limit = refl

onward_if : (b : Bool) (h : Header) (q : Packet) → is_onward (if b then outcome_without h (Onward q) else Onward q) ≡ true
onward_if true h q = refl
onward_if false h q = refl

module _ (s : SidEntry) (destination limit : ℕ) (goes : goes_on s ≡ true) where
  abbrev p : Packet
  p = with_hop_limit 2 (some_packet destination limit)

  shifted_onward : is_onward (next_csid s p) ≡ true
  unfolding some_packet
  shifted_onward = refl

  whole_onward : is_onward (after_step s routing_header (next_segment p 40 (srh_of routing_bytes))) ≡ true
  unfolding some_packet routing_header routing_bytes
  whole_onward = onward_if (s.psp && leaves_none (srh_of routing_bytes)) routing_header (advanced p 40 (srh_of routing_bytes))

  abbrev m : Move
  m = move_of (compression_of s) (srh_of routing_bytes) destination

  none_bad : has_bad_list (compression_of s) (srh_of routing_bytes) destination ≡ false
  unfolding routing_bytes
  none_bad = by_index (index_in (compression_of s) destination == 0)
    where
      by_index : (first : Bool) → nat_lt (if first then 2 else 1) 1 ≡ false
      by_index true = refl
      by_index false = refl

  packed_onward : (end : Endpoint)
      → is_onward (by_replace_step s routing_header end (replace_step (compression_of s) p 40 (srh_of routing_bytes))) ≡ true
  unfolding some_packet routing_header routing_bytes
  packed_onward end = rw none_bad (onward_if (s.psp && m.ended) routing_header (moved p 40 m))

  no_options : is_segment_routing routing_header ≡ true
  unfolding routing_header routing_bytes
  no_options = refl

  header_onward : (end : Endpoint) → is_onward (at_header s p routing_header end) ≡ true
  unfolding routing_header routing_bytes
  header_onward end = elim (cases_Bool (shifts_at s p)) [
    | inl shifts ↦ ap is_onward (at_header_shifts s p routing_header end shifts refl) ∙ shifted_onward
    | inr stays ↦ ap is_onward (at_header_known s p routing_header end stays no_options)
        ∙ elim (cases_Bool (is_replace s.csid)) [
          | inl packed ↦ ap is_onward (known_packed s p routing_header end packed ∙ packed_steps s p routing_header end goes)
              ∙ packed_onward end
          | inr whole ↦ ap is_onward (known_whole s p routing_header end whole ∙ whole_steps s p routing_header end refl goes)
              ∙ whole_onward
        ]
  ]

  some_packet_onward : is_onward (at_sid s [] p) ≡ true
  some_packet_onward =
      ap (λ (c : Chain). is_onward (over_headers (at_header s p) c.headers (at_end s [] p c.end))) (some_packet_chain destination limit)
      ∙ header_onward _

some_packet_fields : (destination limit : ℕ)
    → ((some_packet destination limit).destination ≡ destination) × ((some_packet destination limit).hop_limit ≡ limit)
unfolding some_packet
some_packet_fields destination limit = (refl, refl)

pub some_packet_has : (net : Network) (n : ℕ) (s : SidEntry) (destination limit : ℕ) → slice_get net.sids n ≡ Some s → takes_step s ≡ true
    → (has_next_segment net n (some_packet destination limit) ≡ true) × ((some_packet destination limit).destination ≡ destination)
    × ((some_packet destination limit).hop_limit ≡ limit)
some_packet_has net n s destination limit there takes =
    let fields = some_packet_fields destination limit in (
      ap (λ (o : Option SidEntry). takes_on o (some_packet destination limit)) there
          ∙ and_from (takes_step s) _ takes (some_packet_onward s destination limit (step_parts s takes).0),
      fields.0,
      fields.1,
    )

pub last_packet : Family → ℕ → ℕ → Packet
last_packet family destination limit =
    record {
      traffic_class = 0;
      flow_label = 0;
      next_header = inner_kind family;
      hop_limit = limit;
      source = 0;
      destination = destination;
      payload = [];
    }

last_packet_exposed : (s : SidEntry) (family : Family) (destination limit : ℕ) → shifts (compression_of s) destination ≡ false
    → exposes s (inner_kind family) ≡ true → is_exposed (at_sid s [] (last_packet family destination limit)) ≡ true
unfolding last_packet chain_from
last_packet_exposed s families.V6 destination limit stays shows = rw (stays, shows) refl
last_packet_exposed s families.V4 destination limit stays shows = rw (stays, shows) refl

last_packet_fields : (family : Family) (destination limit : ℕ)
    → ((last_packet family destination limit).destination ≡ destination) × ((last_packet family destination limit).hop_limit ≡ limit)
unfolding last_packet
last_packet_fields family destination limit = (refl, refl)

pub last_packet_has : (net : Network) (n : ℕ) (s : SidEntry) (family : Family) (destination limit : ℕ) → slice_get net.sids n ≡ Some s
    → shifts (compression_of s) destination ≡ false → hands_over family s ≡ true
    → (has_packet_inside net n (last_packet family destination limit) ≡ true)
    × ((last_packet family destination limit).destination ≡ destination)
    × ((last_packet family destination limit).hop_limit ≡ limit)
last_packet_has net n s family destination limit there stays shows =
    let fields = last_packet_fields family destination limit in (
      ap (λ (o : Option SidEntry). takes_out o (last_packet family destination limit)) there
          ∙ last_packet_exposed s family destination limit stays shows,
      fields.0,
      fields.1,
    )
