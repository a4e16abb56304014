-- The laws of this crate as lemmas, each the proof of a clause of `laws` or `encapsulation`: what crates above cite.
pub use Rattle.srv6_rules.proofs.Bytes.{length_two_bytes, length_four_bytes, length_address_bytes, all_two_bytes, all_four_bytes, all_address_bytes, two_number_below, two_number_append, four_number_append, address_number_append}
pub use Rattle.srv6_rules.proofs.PacketPackets.{content_of_spelling, content_of_spelling_alone, length_spelling, all_spelling, packet_at_spellable, reads_spellable, reads_spelled}
pub use Rattle.srv6_rules.proofs.Packets4.{read4_spelling, read4_alone, read4_version, read4_short, read4_header, read4_total, read4_cut, read4_whole, reads4_spellable, reads4_spelled, spells4_value}
pub use Rattle.srv6_rules.proofs.TimesToLive.{ttl_lowered_ttl, ttl_lowered_length, ttl_lowered_other, ttl_lowered_front, ttl_lowered_all, lowered4_spelling, lowered4_spellable, lowered4_checksum, lowered4_other, lowered4_sum, lowered4_verifies}
pub use Rattle.srv6_rules.proofs.PacketContents.{content_of_never4, read_as_is_content, read_as_bytes_of, read_as_spelled, read_as_spelled4, read_as_unreadable, read_as_family6, read_as_family4, entered_is_content, entered_back}
pub use Rattle.srv6_rules.proofs.PacketEdits.{spelling_behind, spelled_payload, spelled_from, edit_hop_limit, edit_destination, edit_payload}
pub use Rattle.srv6_rules.proofs.Headers.{srh_of_spelling, srh_of_spellable, srh_spelling_srh_of, entry_at, length_entries}
pub use Rattle.srv6_rules.proofs.Chains.{chain_of_start, chain_at_goes_on, chain_at_upper, chain_at_cut, chain_at_header, chain_at_lies, chain_at_follow, chain_at_stand, chain_at_ends, chain_at_upper_stands, chain_at_spelled, follow_ascends, follow_chain, start_stands, behind_stands, extension_bytes_least, header_in_lies, lies_at, lies_spelled, lies_bytes, lies_stated}
pub use Rattle.srv6_rules.proofs.CutPackets.{without_first_chain, chain_at_split, chain_at_lowered}
pub use Rattle.srv6_rules.proofs.HeaderTakenOut.{without_others, without_bytes, without_length, without_behind, without_front, without_spellable, without_later_chain}
pub use Rattle.srv6_rules.proofs.AreaItems.{area_fault_empty, area_fault_item, area_fault_within, options_fault_within, tlvs_fault_within, pad1_skipped, option_skipped, option_discarded, option_told, option_bad, tlv_hmac, tlv_bad, tlv_pad1, tlv_skipped}
pub use Rattle.srv6_rules.proofs.PacketReached.{over_goes_on, over_passed, over_all_passed, over_decides, reached_contained, reached_lies, reached_stands, first_there}
pub use Rattle.srv6_rules.proofs.Treatments.{first_passed, late_refused, options_judged, options_passed, options_refused, fragment_refused, routing_by, unknown_passed, unknown_refused, sid_known, known_whole, known_packed, whole_last, whole_steps, whole_refuses, packed_steps, packed_last, packed_refuses, last_stays, last_out}
pub use Rattle.srv6_rules.proofs.HeadersAtSids.{plain_whole, header_by, at_header_unshifted, at_header_shifts, at_header_options, at_header_routing, at_header_known, at_header_packed, at_header_whole, end_skipped, at_header_either, at_header_skipped, at_header_last, at_header_taken_out, at_header_passed, at_header_passed_other, at_header_after_step, at_header_steps, at_header_pops, at_header_refuses, at_header_unknown, at_address_header_either, at_address_header_passed, at_address_header_refuses}
pub use Rattle.srv6_rules.proofs.BehaviourLaws.{goes_on_is, exposes_ipv6, exposes_ipv4, exposes_kinds, goes_on_exposes, goes_on_exposes_usd}
pub use Rattle.srv6_rules.proofs.FlavourSteps.{as_in_lies}
pub use Rattle.srv6_rules.proofs.Flavours.{at_sid_lowers, at_sid_shorter, at_sid_fields, at_sid_spellable, at_sid_delivered_fields, at_sid_delivered_spellable}
pub use Rattle.srv6_rules.proofs.Endpoints.{upper_shifts}
pub use Rattle.srv6_rules.proofs.EndpointSteps.{at_sid_steps, at_sid_steps_psp, at_sid_moves, at_sid_shifted, at_sid_bytes, at_sid_exposes, at_sid_exposed_packet, at_sid_exposed_packet4, at_sid_content, at_sid_exposed_back, at_sid_delivered, at_sid_place, at_address_delivered, at_address_not_onward, at_address_not_exposed, at_address_place}
pub use Rattle.srv6_rules.proofs.Encapsulations.{outer_chain_law, outer_inner}
pub use Rattle.srv6_rules.proofs.EncapsulatedSteps.{upper_plain, at_segment_onward, at_segment_psp, at_segment_usp, bare_exposed, bare_upper_layer, at_segment_hop_limit, at_segment_bad_segments, at_segment_upper_layer, at_segment_exposed}
pub use Rattle.srv6_rules.proofs.EncapsulationForms.{at_segment_spellable, lowered_spellable, lowered_spelling, encapsulated_spellable}
pub use Rattle.srv6_rules.proofs.Checksums.{ones_sum_carried, word_sum_append, carried_again, carried_small}
pub use Rattle.srv6_rules.proofs.ErrorLaws.{upper_layer_sum_carried, error_checksum_parts, error_start, error_goes_on, error_behind, error_none, error_is_error, error_once, error_most, error_length, quote_short, kind_of_fits, error_spellable, error_verifies}
pub use Rattle.srv6_rules.proofs.PacketContainers.{container_shift, container_rest, argument_container, argument_zero, container_holds, container_address, container_one}
pub use Rattle.srv6_rules.proofs.PackedEntries.{entry_csid, entry_past, entry_address, next_sid, index_back_law, index_holds, index_written}
pub use Rattle.srv6_rules.proofs.SteppedPackets.{shifted_spellable, step_spellable, step_hop_limit, StepMoves, step_moves, step_at_end, at_end_none, step_place}
pub use Rattle.srv6_rules.proofs.SteppedEntries.{entry_next, entry_last, entry_first, entry_ended}
pub use Rattle.srv6_rules.proofs.PolicyLaws.{round_front, round_payload, round_length, round_next_header, round_spellable, round_behind, by_length, by_payload, by_inner, by_fits, by_big, by_only_big, made_fits, made_big, headend_low, headend_high}
