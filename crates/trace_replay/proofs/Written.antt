-- What is written of packets is a trace, is read as its lines, and these are right.
use Rattle.std.proofs.Common.{◌≡◌, ℕ, ◌+◌, ◌-◌, ◌≤◌, Bool, true, false, List, [], ◌∷◌, ◌++◌, All, length, Option, Some, None, Ok, refl, sym, ap, ◌∙◌, arith, append_assoc, length-append, zero-add}
use Rattle.std.specs.Prelude.{bytes_eq, cond, if◌then◌else◌}
use Rattle.std.specs.List.{count_by}
use Rattle.std.proofs.lemmas.List.Elements.{All-append, All-cons, All-head, All-nil, All-tail}
use Rattle.std.proofs.lemmas.List.Sums.{sum_by-append, sum_by-cons}
use Rattle.std.proofs.lemmas.Slice.Eq.{bytes_eq-Decides}
use Rattle.srv6_rules.specs.Packet.{Content}
use Rattle.net_model.specs.NetworkKeeps.{Keeps}
use Rattle.net_model.specs.Network.{Network}
use Rattle.walk_rules.specs.declared.limits.TheConstants.{MAX_STAGES}
use Rattle.net_model.specs.declared.limits.TheConstants.{MAX_TEXT_BYTES}
use Rattle.trace_replay.specs.declared.line.Line.{Line}
use Rattle.trace_replay.specs.declared.trace_reading.Phase.TheVariants as phases
use Rattle.trace_replay.specs.declared.state.ReplayState.TheVariants as states
use Rattle.trace_replay.specs.TraceGrammar.{line_read}
use Rattle.trace_replay.specs.TraceLaws.{walk_lines}
use Rattle.trace_replay.specs.TraceLawsTerms.{state_behind, state_by}
use Rattle.trace_replay.specs.TraceLines.{end_text, head_text}
use Rattle.trace_replay.specs.TraceReading.{bad_by, bad_from, bad_line, behind_head, behind_packet, but_last, last_of, lines_of, pieces_of, rest_of}
use Rattle.trace_replay.specs.TraceReadingTerms.{Reads}
use Rattle.trace_replay.specs.Replays.{begins_packet, by_line, counts_of, first_wrong, wrong_by, wrong_from}
use Rattle.trace_replay.specs.Written.{Traced, entry_place, fed, packet_line, packet_lines, packets_trace, trace_end_bytes, trace_head_bytes, trace_text, traced_walk}
use Rattle.trace_replay.specs.WrittenTerms.{IsTraced, counts_written, packets_lines, trace_lines}
use Rattle.trace_replay.proofs.PacketLines.{IsInner, enters_again, entry_stands, first_line, walk_inner}
use Rattle.trace_replay.proofs.Pieces.{but_last_append, last_append}
use Rattle.trace_replay.proofs.ReplayPrinting.{lines_passed, walk_replays}
use Rattle.trace_replay.proofs.Splitting.{IsTextLine, fed_append, fed_flat, fed_parts}
use Rattle.trace_replay.proofs.StageLines.{end_line}

-- ---- the text is its lines

pub text_fed : (net : Network) (packets : List Traced) → trace_text net packets ≡ fed (trace_lines net packets)
text_fed net packets =
    let each : packets_trace net packets ≡ fed (packets_lines net packets) = sym (fed_flat (packet_lines net) packets) in
    ap (λ (t : List ℕ). (trace_head_bytes ++ t) ++ trace_end_bytes) each
    ∙ (append_assoc trace_head_bytes (fed (packets_lines net packets)) trace_end_bytes
    ∙ (append_assoc head_text (10 ∷ []) (fed (packets_lines net packets) ++ trace_end_bytes)
    ∙ ap (λ (t : List ℕ). head_text ++ 10 ∷ t) (sym (fed_append (packets_lines net packets) (end_text ∷ [])))))

pub head_line : IsTextLine head_text
unfolding head_text
head_line = refl

module _ (net : Network) (keeps : Keeps net) where
  pub walk_lines_inner : (p : Traced) → IsTraced net p → All (IsInner net) (walk_lines net (Some (entry_place p)) (traced_walk net p))
  walk_lines_inner p is = walk_inner MAX_STAGES net (entry_place p) p.content p.pick 0 keeps (entry_stands net p keeps is)

  inner_texts : (ls : List (List ℕ)) → All (IsInner net) ls → All IsTextLine ls
  inner_texts [] h = All-nil IsTextLine
  inner_texts (l ∷ ls) h =
      All-cons IsTextLine l ls (All-head (IsInner net) l ls h).text (inner_texts ls (All-tail (IsInner net) l ls h))

  packet_texts : (p : Traced) → IsTraced net p → All IsTextLine (packet_lines net p)
  packet_texts p is =
      All-cons IsTextLine (packet_line net p) _ (first_line net p keeps is).text (inner_texts _ (walk_lines_inner p is))

  pub packets_texts : (packets : List Traced) → All (IsTraced net) packets → All IsTextLine (packets_lines net packets)
  packets_texts [] h = All-nil IsTextLine
  packets_texts (p ∷ ps) h =
      All-append IsTextLine (packet_lines net p) (packets_lines net ps) (packet_texts p (All-head (IsTraced net) p ps h))
      (packets_texts ps (All-tail (IsTraced net) p ps h))

  trace_texts : (packets : List Traced) → All (IsTraced net) packets → All IsTextLine (trace_lines net packets)
  trace_texts packets h =
      All-cons IsTextLine head_text (packets_lines net packets ++ end_text ∷ []) head_line
      (All-append IsTextLine (packets_lines net packets) (end_text ∷ []) (packets_texts packets h)
      (All-cons IsTextLine end_text [] (end_line net).text (All-nil IsTextLine)))

  trace_pieces : (packets : List Traced) → All (IsTraced net) packets
      → pieces_of (trace_text net packets) ≡ trace_lines net packets ++ [] ∷ []
  trace_pieces packets h = ap pieces_of (text_fed net packets) ∙ fed_parts (trace_lines net packets) (trace_texts packets h)

  pub written_lines : (packets : List Traced) → All (IsTraced net) packets → lines_of (trace_text net packets) ≡ trace_lines net packets
  written_lines packets h = ap but_last (trace_pieces packets h) ∙ but_last_append (trace_lines net packets) []

  written_rest : (packets : List Traced) → All (IsTraced net) packets → rest_of (trace_text net packets) ≡ []
  written_rest packets h = ap last_of (trace_pieces packets h) ∙ last_append (trace_lines net packets) []

  -- ---- no line is bad

  inner_good : (n : ℕ) (ls more : List (List ℕ)) → All (IsInner net) ls → ((k : ℕ) → bad_from net phases.Packets k [] more ≡ None)
      → bad_from net phases.Packets n [] (ls ++ more) ≡ None
  inner_good n [] more h on = on n
  inner_good n (l ∷ ls) more h on =
      ap (bad_by n (λ phase. bad_from net phase (n + 1) [] (ls ++ more))) (All-head (IsInner net) l ls h).phase
      ∙ inner_good (n + 1) ls more (All-tail (IsInner net) l ls h) on

  -- an end may stand after the head and after packets
  end_good : (n : ℕ) → bad_by n (λ phase. bad_from net phase (n + 1) [] []) (behind_packet (line_read net end_text)) ≡ None
  end_good n = ap (λ (o : Option Line). bad_by n (λ phase. bad_from net phase (n + 1) [] []) (behind_packet o)) (end_line net).read

  end_good_alone : (n : ℕ) → bad_by n (λ phase. bad_from net phase (n + 1) [] []) (behind_head (line_read net end_text)) ≡ None
  end_good_alone n = ap (λ (o : Option Line). bad_by n (λ phase. bad_from net phase (n + 1) [] []) (behind_head o)) (end_line net).read

  -- after a packet's first line
  behind_first : (n : ℕ) (p : Traced) (more : List (List ℕ)) → IsTraced net p → ((k : ℕ) → bad_from net phases.Packets k [] more ≡ None)
      → bad_from net phases.Packets n [] (walk_lines net (Some (entry_place p)) (traced_walk net p) ++ more) ≡ None
  behind_first n p more is on =
      inner_good n (walk_lines net (Some (entry_place p)) (traced_walk net p)) more (walk_lines_inner p is) on

  packets_good : (n : ℕ) (packets : List Traced) → All (IsTraced net) packets
      → bad_from net phases.Packets n [] (packets_lines net packets ++ end_text ∷ []) ≡ None
  packets_good n [] h = end_good n
  packets_good n (p ∷ ps) h =
      let is = All-head (IsTraced net) p ps h in
      let more = packets_lines net ps ++ end_text ∷ [] in
      ap (bad_from net phases.Packets n []) (append_assoc (packet_lines net p) (packets_lines net ps) (end_text ∷ []))
      ∙ (ap (λ (o : Option Line). bad_by n (λ phase. bad_from net phase (n + 1) []
      (walk_lines net (Some (entry_place p)) (traced_walk net p) ++ more)) (behind_packet o)) (first_line net p keeps is).read
      ∙ behind_first (n + 1) p more is (λ k. packets_good k ps (All-tail (IsTraced net) p ps h)))

  behind_head_good : (n : ℕ) (packets : List Traced) → All (IsTraced net) packets
      → bad_from net phases.Empty n [] (packets_lines net packets ++ end_text ∷ []) ≡ None
  behind_head_good n [] h = end_good_alone n
  behind_head_good n (p ∷ ps) h =
      let is = All-head (IsTraced net) p ps h in
      let more = packets_lines net ps ++ end_text ∷ [] in
      ap (bad_from net phases.Empty n []) (append_assoc (packet_lines net p) (packets_lines net ps) (end_text ∷ []))
      ∙ (ap (λ (o : Option Line). bad_by n (λ phase. bad_from net phase (n + 1) []
      (walk_lines net (Some (entry_place p)) (traced_walk net p) ++ more)) (behind_head o)) (first_line net p keeps is).read
      ∙ behind_first (n + 1) p more is (λ k. packets_good k ps (All-tail (IsTraced net) p ps h)))

  lines_good : (packets : List Traced) → All (IsTraced net) packets → bad_from net phases.Begins 1 [] (trace_lines net packets) ≡ None
  lines_good packets h =
      let same : bytes_eq head_text head_text ≡ true = (bytes_eq-Decides head_text head_text).1 refl in
      ap (λ (b : Bool). bad_by 1 (λ phase. bad_from net phase 2 [] (packets_lines net packets ++ end_text ∷ []))
      (if b then Some phases.Empty else None)) same
      ∙ behind_head_good 2 packets h

  pub written_good : (packets : List Traced) → All (IsTraced net) packets → bad_line net (trace_text net packets) ≡ None
  written_good packets h =
      ap (λ (ls : List (List ℕ)). bad_from net phases.Begins 1 (rest_of (trace_text net packets)) ls) (written_lines packets h)
      ∙ (ap (λ (rest : List ℕ). bad_from net phases.Begins 1 rest (trace_lines net packets)) (written_rest packets h)
      ∙ lines_good packets h)

  -- ---- the text is read

  fed_long : (ls : List (List ℕ)) → length ls ≤ length (fed ls)
  fed_long [] = omega arith
  fed_long (l ∷ ls) = omega (arith, fed_long ls, length-append l (10 ∷ fed ls))

  pub written_read : (packets : List Traced) → All (IsTraced net) packets → length (trace_text net packets) ≤ MAX_TEXT_BYTES
      → Reads net (trace_text net packets) (Ok (trace_lines net packets))
  written_read packets h short = (
    written_good packets h,
    sym (written_lines packets h),
    record {
      good = lines_good packets h;
      few = omega (arith, short, ap length (text_fed net packets), fed_long (trace_lines net packets));
    },
  )

  -- ---- the lines are right

  packet_right : (p : Traced) → IsTraced net p → state_behind net states.Ended (packet_lines net p) ≡ Some states.Ended
  packet_right p is =
      let walk = walk_lines net (Some (entry_place p)) (traced_walk net p) in
      ap (λ (o : Option Line). state_by (λ next. state_behind net next walk) (by_line o)) (first_line net p keeps is).read
      ∙ (ap (λ (c : Content). state_behind net (states.Going (entry_place p) c (MAX_STAGES - 1)) walk) (enters_again net p keeps is)
      ∙ walk_replays net (MAX_STAGES - 1) (entry_place p) p.content p.pick 0 keeps (entry_stands net p keeps is).is)

  end_right : (n : ℕ) → wrong_from net states.Ended n (end_text ∷ []) ≡ None
  end_right n =
      ap (λ (o : Option Line). wrong_by n (λ next. wrong_from net next (n + 1) []) (by_line o)) (end_line net).read

  packets_right : (n : ℕ) (packets : List Traced) → All (IsTraced net) packets
      → wrong_from net states.Ended n (packets_lines net packets ++ end_text ∷ []) ≡ None
  packets_right n [] h = end_right n
  packets_right n (p ∷ ps) h =
      ap (wrong_from net states.Ended n) (append_assoc (packet_lines net p) (packets_lines net ps) (end_text ∷ []))
      ∙ (lines_passed net states.Ended states.Ended n (packet_lines net p) (packets_lines net ps ++ end_text ∷ [])
      (packet_right p (All-head (IsTraced net) p ps h))
      ∙ packets_right (n + length (packet_lines net p)) ps (All-tail (IsTraced net) p ps h))

  pub written_right : (packets : List Traced) → All (IsTraced net) packets → first_wrong net (trace_lines net packets) ≡ None
  written_right packets h = packets_right 2 packets h

  -- ---- their counts

  count_append : (xs ys : List (List ℕ)) → count_by begins_packet (xs ++ ys) ≡ count_by begins_packet xs + count_by begins_packet ys
  count_append xs ys = sum_by-append (λ x. cond (begins_packet x) 1 0) xs ys

  count_no : (l : List ℕ) (ls : List (List ℕ)) → begins_packet l ≡ false → count_by begins_packet (l ∷ ls) ≡ count_by begins_packet ls
  count_no l ls h = sum_by-cons (λ x. cond (begins_packet x) 1 0) l ls ∙ (ap (λ (b : Bool). cond b 1 0 + count_by begins_packet ls) h
      ∙ zero-add (count_by begins_packet ls))

  count_yes : (l : List ℕ) (ls : List (List ℕ)) → begins_packet l ≡ true → count_by begins_packet (l ∷ ls) ≡ 1 + count_by begins_packet ls
  count_yes l ls h =
      sum_by-cons (λ x. cond (begins_packet x) 1 0) l ls ∙ ap (λ (b : Bool). cond b 1 0 + count_by begins_packet ls) h

  inner_count : (ls : List (List ℕ)) → All (IsInner net) ls → count_by begins_packet ls ≡ 0
  inner_count [] h = refl
  inner_count (l ∷ ls) h =
      count_no l ls (All-head (IsInner net) l ls h).begins ∙ inner_count ls (All-tail (IsInner net) l ls h)

  packets_count : (packets : List Traced) → All (IsTraced net) packets → count_by begins_packet (packets_lines net packets) ≡ length packets
  packets_count [] h = refl
  packets_count (p ∷ ps) h =
      let is = All-head (IsTraced net) p ps h in
      let walk = walk_lines net (Some (entry_place p)) (traced_walk net p) in
      let one = count_yes (packet_line net p) walk (first_line net p keeps is).begins in
      let none = inner_count walk (walk_lines_inner p is) in
      let more = packets_count ps (All-tail (IsTraced net) p ps h) in
      let sum = count_append (packet_lines net p) (packets_lines net ps) in
      omega (arith, one, none, more, sum)

  head_begins : begins_packet head_text ≡ false
  unfolding head_text
  head_begins = refl

  all_count : (packets : List Traced) → All (IsTraced net) packets → count_by begins_packet (trace_lines net packets) ≡ length packets
  all_count packets h =
      let sum = count_append (packets_lines net packets) (end_text ∷ []) in
      let end = count_no end_text [] (end_line net).begins in
      let none : count_by begins_packet [] ≡ 0 = refl in
      count_no head_text (packets_lines net packets ++ end_text ∷ []) head_begins
      ∙ omega (arith, sum, end, none, packets_count packets h)

  all_lines : (packets : List Traced) → length (trace_lines net packets) - 2 ≡ length (packets_lines net packets)
  all_lines packets = omega (arith, length-append (packets_lines net packets) (end_text ∷ []))

  pub written_counts : (packets : List Traced) → All (IsTraced net) packets
      → counts_written net packets ≡ counts_of (trace_lines net packets)
  written_counts packets h =
      sym (ap (λ k. record { packets = k; lines = length (trace_lines net packets) - 2 }) (all_count packets h)
      ∙ ap (λ k. record { packets = length packets; lines = k }) (all_lines packets))
