-- A trace that has no end is refused at the line after its last.
use Rattle.std.proofs.Common.{◌≡◌, ℕ, ◌+◌, List, [], ◌∷◌, ◌++◌, All, length, Option, Some, None, Bool, true, refl, sym, ap, ◌∙◌, arith, append_assoc, length-append}
use Rattle.std.specs.Prelude.{bytes_eq, if◌then◌else◌}
use Rattle.std.proofs.lemmas.List.Elements.{All-cons, All-head, All-tail}
use Rattle.std.proofs.lemmas.Slice.Eq.{bytes_eq-Decides}
use Rattle.net_model.specs.NetworkKeeps.{Keeps}
use Rattle.net_model.specs.Network.{Network}
use Rattle.trace_replay.specs.declared.line.Line.{Line}
use Rattle.trace_replay.specs.declared.trace_reading.Phase.TheVariants as phases
use Rattle.trace_replay.specs.TraceLaws.{walk_lines}
use Rattle.trace_replay.specs.TraceLines.{head_text}
use Rattle.trace_replay.specs.TraceReading.{bad_by, bad_from, bad_line, behind_head, behind_packet, but_last, last_of, lines_of, pieces_of, rest_of}
use Rattle.trace_replay.specs.Written.{Traced, entry_place, fed, packet_lines, trace_head_bytes, traced_walk, unended_text}
use Rattle.trace_replay.specs.WrittenTerms.{IsTraced, packets_lines}
use Rattle.trace_replay.proofs.PacketLines.{IsInner, first_line}
use Rattle.trace_replay.proofs.Pieces.{but_last_append, last_append}
use Rattle.trace_replay.proofs.Splitting.{IsTextLine, fed_flat, fed_parts}
use Rattle.trace_replay.proofs.Written.{head_line, packets_texts, walk_lines_inner}

unended_fed : (net : Network) (packets : List Traced) → unended_text net packets ≡ fed (head_text ∷ packets_lines net packets)
unended_fed net packets =
    ap (λ (t : List ℕ). trace_head_bytes ++ t) (sym (fed_flat (packet_lines net) packets))
    ∙ append_assoc head_text (10 ∷ []) (fed (packets_lines net packets))

module _ (net : Network) (keeps : Keeps net) where
  -- after lines of packets others are judged
  inner_passed : (n : ℕ) (ls more : List (List ℕ)) → All (IsInner net) ls
      → bad_from net phases.Packets n [] (ls ++ more) ≡ bad_from net phases.Packets (n + length ls) [] more
  inner_passed n [] more h = let same : n ≡ n + 0 = omega arith in ap (λ k. bad_from net phases.Packets k [] more) same
  inner_passed n (l ∷ ls) more h =
      let count : (n + 1) + length ls ≡ n + length (l ∷ ls) = omega arith in
      ap (bad_by n (λ phase. bad_from net phase (n + 1) [] (ls ++ more))) (All-head (IsInner net) l ls h).phase
      ∙ (inner_passed (n + 1) ls more (All-tail (IsInner net) l ls h) ∙ ap (λ k. bad_from net phases.Packets k [] more) count)

  behind_first : (n : ℕ) (p : Traced) (more : List (List ℕ)) → IsTraced net p
      → bad_from net phases.Packets (n + 1) [] (walk_lines net (Some (entry_place p)) (traced_walk net p) ++ more)
      ≡ bad_from net phases.Packets (n + length (packet_lines net p)) [] more
  behind_first n p more is =
      let walk = walk_lines net (Some (entry_place p)) (traced_walk net p) in
      let count : (n + 1) + length walk ≡ n + length (packet_lines net p) = omega arith in
      inner_passed (n + 1) walk more (walk_lines_inner net keeps p is) ∙ ap (λ k. bad_from net phases.Packets k [] more) count

  packets_unended : (n : ℕ) (packets : List Traced) → All (IsTraced net) packets
      → bad_from net phases.Packets n [] (packets_lines net packets) ≡ Some (n + length (packets_lines net packets))
  packets_unended n [] h = let same : n ≡ n + 0 = omega arith in ap Some same
  packets_unended n (p ∷ ps) h =
      let is = All-head (IsTraced net) p ps h in
      let more = packets_lines net ps in
      let count : (n + length (packet_lines net p)) + length more ≡ n + length (packets_lines net (p ∷ ps)) =
      omega (arith, length-append (packet_lines net p) more) in
      ap (λ (o : Option Line). bad_by n (λ phase. bad_from net phase (n + 1) []
      (walk_lines net (Some (entry_place p)) (traced_walk net p) ++ more)) (behind_packet o)) (first_line net p keeps is).read
      ∙ (behind_first n p more is
      ∙ (packets_unended (n + length (packet_lines net p)) ps (All-tail (IsTraced net) p ps h) ∙ ap Some count))

  head_unended : (n : ℕ) (packets : List Traced) → All (IsTraced net) packets
      → bad_from net phases.Empty n [] (packets_lines net packets) ≡ Some (n + length (packets_lines net packets))
  head_unended n [] h = let same : n ≡ n + 0 = omega arith in ap Some same
  head_unended n (p ∷ ps) h =
      let is = All-head (IsTraced net) p ps h in
      let more = packets_lines net ps in
      let count : (n + length (packet_lines net p)) + length more ≡ n + length (packets_lines net (p ∷ ps)) =
      omega (arith, length-append (packet_lines net p) more) in
      ap (λ (o : Option Line). bad_by n (λ phase. bad_from net phase (n + 1) []
      (walk_lines net (Some (entry_place p)) (traced_walk net p) ++ more)) (behind_head o)) (first_line net p keeps is).read
      ∙ (behind_first n p more is
      ∙ (packets_unended (n + length (packet_lines net p)) ps (All-tail (IsTraced net) p ps h) ∙ ap Some count))

  pub unended_bad : (packets : List Traced) → All (IsTraced net) packets
      → bad_line net (unended_text net packets) ≡ Some (length (packets_lines net packets) + 2)
  unended_bad packets h =
      let ls = head_text ∷ packets_lines net packets in
      let texts : All IsTextLine ls =
      All-cons IsTextLine head_text (packets_lines net packets) head_line (packets_texts net keeps packets h) in
      let parts : pieces_of (unended_text net packets) ≡ ls ++ [] ∷ [] = ap pieces_of (unended_fed net packets) ∙ fed_parts ls texts in
      let its_lines : lines_of (unended_text net packets) ≡ ls = ap but_last parts ∙ but_last_append ls [] in
      let its_rest : rest_of (unended_text net packets) ≡ [] = ap last_of parts ∙ last_append ls [] in
      let same : bytes_eq head_text head_text ≡ true = (bytes_eq-Decides head_text head_text).1 refl in
      let count : 2 + length (packets_lines net packets) ≡ length (packets_lines net packets) + 2 = omega arith in
      ap (λ (xs : List (List ℕ)). bad_from net phases.Begins 1 (rest_of (unended_text net packets)) xs) its_lines
      ∙ (ap (λ (rest : List ℕ). bad_from net phases.Begins 1 rest ls) its_rest
      ∙ (ap (λ (b : Bool). bad_by 1 (λ phase. bad_from net phase 2 [] (packets_lines net packets))
      (if b then Some phases.Empty else None)) same
      ∙ (head_unended 2 packets h ∙ ap Some count)))
