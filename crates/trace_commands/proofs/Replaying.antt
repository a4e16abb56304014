-- What `trace` writes is a trace of packets that entered, which is what `replay` finds.
use Rattle.std.proofs.Common.{◌≡◌, ℕ, ◌+◌, ◌^◌, ◌<◌, ◌≤◌, List, [], ◌∷◌, All, length, Option, Some, None, Result, Ok, Err, refl, sym, ap, ◌∙◌, arith, subst, append-nil}
use Rattle.std.specs.Prelude.{◌↔◌, IsSomeAnd, bytes_eq}
use Rattle.std.proofs.lemmas.List.Elements.{All-append, All-cons, All-nil, All-tail}
use Rattle.std.proofs.lemmas.Option.{slice_get_within}
use Rattle.pcap_io.specs.declared.frame.Body.{Body}
use Rattle.pcap_io.specs.declared.frame.Body.TheVariants as bodies
use Rattle.pcap_io.specs.declared.frame.Frame.{Frame}
use Rattle.srv6_rules.specs.declared.family.Family.{Family}
use Rattle.srv6_rules.specs.declared.family.Family.TheVariants as families
use Rattle.srv6_rules.specs.Packet.{entered}
use Rattle.net_model.specs.NetworkKeeps.{Keeps}
use Rattle.net_model.specs.Named.{node_numbered}
use Rattle.net_model.specs.Network.{Network}
use Rattle.net_model.proofs.PublicLaws.{keeps_from_network, position_item}
use Rattle.trace_replay.specs.declared.verdict.Replayed.{Replayed}
use Rattle.trace_replay.specs.Replays.{Wrong, counts_of}
use Rattle.trace_replay.specs.Written.{Traced, trace_text, unended_text}
use Rattle.trace_replay.specs.WrittenTerms.{IsTraced, counts_written, packets_lines, trace_lines}
use Rattle.trace_replay.proofs.PublicLaws.{unended_bad, written_counts, written_good, written_lines, written_right}
use Rattle.srx_edge.specs.Edge.{file_named}
use Rattle.srx_edge.specs.Sinks.{sent}
use Rattle.srx_edge.proofs.PublicLaws.{sent_both}
use Rattle.net_model.specs.declared.limits.TheConstants.{MAX_TEXT_BYTES}
use Rattle.command_inputs.specs.declared.input_packets.Packets.{Packets}
use Rattle.command_output.specs.declared.refusal.Refusal.{Refusal}
use Rattle.command_output.specs.declared.refusal.Refusal.TheVariants as refusals
use Rattle.command_output.specs.declared.status.Status.TheVariants as statuses
use Rattle.trace_commands.specs.ReplayCommand.{ReplayWants, replay_output, replayed, replayed_by}
use Rattle.trace_commands.specs.TraceCommand.{text_by, text_of, trace_output, traced, traced_as, traced_by, traced_of, traced_of_frame}
use Rattle.command_output.specs.Outputs.{after, ended_by, refused}
use Rattle.command_inputs.specs.Judgements.{network_in, node_in, node_or}
use Rattle.command_inputs.specs.InputPackets.{fault_of, packets_in, reading_of}
use Rattle.command_output.specs.OutputPieces.{ForErr, ForOut, Output, Piece, bytes_for_out, gone}
use Rattle.trace_commands.specs.Replaying.{Judged, OutReceives, ReplaysTo, UnendedTracesAreRefused, WholeTracesAreRight, right_with, trace_for_out, traced_under}
use Rattle.command_inputs.proofs.PublicLaws.{AreBytes, HoldsBytes, IsOfBytes, RulesAreKept, bytes_packets, in_input, rules_kept, trace_small}

-- ---- what `out` receives

pub out_receives : OutReceives
out_receives [] old = refl
out_receives (ForOut bytes ∷ more) old =
    sent_both bytes (bytes_for_out more) old.out (sent bytes old.out) (gone (ForOut bytes ∷ more) old).out refl
    (out_receives more (record old { out = sent bytes old.out }))
out_receives (ForErr bytes ∷ more) old = out_receives more (record old { err = sent bytes old.err })

-- ---- the network and the node

named_some : (found : Option ℕ) (node : ℕ) → node_or found ≡ Ok node → found ≡ Some node
named_some None node e = absurd (let no : ⊥ = cc in no)
named_some (Some n) node e = let same : n ≡ node = cc in ap Some same

named_within : (net : Network) (name : List ℕ) (node : ℕ) → node_in net name ≡ Ok node → node < length net.nodes
named_within net name node e =
    let item = position_item (λ n. bytes_eq n.name name) net.nodes node (named_some (node_numbered name net.nodes) node e) in
    slice_get_within net.nodes node item.0 item.1

-- ---- so the packets of the frames are ones that entered

module _ (net : Network) (node : ℕ) (choices : List ℕ) (there : node < length net.nodes) where
  entered_as : (number : ℕ) (family : Family) (packet : List ℕ) → number < 2 ^ 32 → AreBytes packet
      → IsTraced net (traced_as node choices number family (entered family packet))
  entered_as number family packet small h = record {
    number = small;
    node = there;
    bytes = packet;
    each = h;
    content = refl;
  }

  entered_one : (p : Traced) → IsTraced net p → All (IsTraced net) (p ∷ [])
  entered_one p is = All-cons (IsTraced net) p [] is (All-nil (IsTraced net))

  entered_by : (number : ℕ) (body : Body) → number < 2 ^ 32 → HoldsBytes body → All (IsTraced net) (traced_by node choices number body)
  entered_by number (bodies.V6 packet) small h = entered_one _ (entered_as number families.V6 packet small h)
  entered_by number (bodies.V4 packet) small h = entered_one _ (entered_as number families.V4 packet small h)
  entered_by number bodies.ShortFrame small h = All-nil (IsTraced net)
  entered_by number bodies.NotIp small h = All-nil (IsTraced net)

  entered_frames : (frames : List Frame) → All IsOfBytes frames → All (IsTraced net) (traced_of node choices frames)
  entered_frames [] h = All-nil (IsTraced net)
  entered_frames (frame ∷ more) h =
      let first = h 0 frame (omega arith) in
      All-append (IsTraced net) (traced_of_frame node choices frame) (traced_of node choices more)
      (entered_by frame.number frame.body first.0 first.1)
      (entered_frames more (All-tail IsOfBytes frame more h))

judged_entered : {text name input : List ℕ} (choices : List ℕ) (judged : Judged text name input) → AreBytes input
    → All (IsTraced judged.net) (traced_under choices judged)
judged_entered {text} {name} {input} choices judged h =
    let there = named_within judged.net name judged.node judged.named in
    entered_frames judged.net judged.node choices there (reading_of judged.packets).frames
    (bytes_packets judged.packets (in_input input judged.packets h judged.read))

-- ---- what `trace` writes

out_ended : (bytes : List ℕ) (fault : Option Refusal) → bytes_for_out (ended_by (ForOut bytes ∷ []) fault).pieces ≡ bytes
out_ended bytes None = append-nil bytes
out_ended bytes (Some refusal) = append-nil bytes

output_judged : {text name input : List ℕ} (choices : List ℕ) (judged : Judged text name input)
    → trace_output text name choices input ≡ traced judged.net judged.node choices judged.packets
output_judged {text} {name} {input} choices judged =
    ap (λ (r : Result Network Refusal). after r (λ net. after (node_in net name) (λ node. after (packets_in input)
    (traced net node choices)))) judged.described
    ∙ (ap (λ (r : Result ℕ Refusal). after r (λ node. after (packets_in input) (traced judged.net node choices))) judged.named
    ∙ ap (λ (r : Result Packets Refusal). after r (traced judged.net judged.node choices)) judged.read)

out_judged : {text name input : List ℕ} (choices : List ℕ) (judged : Judged text name input)
    → trace_for_out text name choices input ≡ text_by judged.net (traced_under choices judged) (fault_of (reading_of judged.packets))
out_judged choices judged =
    ap (λ (output : Output). bytes_for_out output.pieces) (output_judged choices judged)
    ∙ out_ended (text_of judged.net judged.node choices (reading_of judged.packets)) (fault_of (reading_of judged.packets))

done_unrefused : (pieces : List Piece) (fault : Option Refusal) → (ended_by pieces fault).status ≡ statuses.Done → fault ≡ None
done_unrefused pieces None e = refl
done_unrefused pieces (Some refusal) e = absurd (let no : ⊥ = cc in no)

refused_some : (pieces : List Piece) (fault : Option Refusal) → (ended_by pieces fault).status ≡ statuses.Refused
    → (refusal : Refusal) × (fault ≡ Some refusal)
refused_some pieces None e = absurd (let no : ⊥ = cc in no)
refused_some pieces (Some refusal) e = (refusal, refl)

-- where it is Done, all was judged well
done_after : {A : Type 0} (read : Result A Refusal) (follow : A → Output) → (after read follow).status ≡ statuses.Done
    → (a : A) × (read ≡ Ok a) × ((follow a).status ≡ statuses.Done)
done_after (Ok a) follow e = (a, refl, e)
done_after (Err refusal) follow e = absurd (let no : ⊥ = cc in no)

done_judged : (text name choices input : List ℕ) → (trace_output text name choices input).status ≡ statuses.Done → Judged text name input
done_judged text name choices input e =
    let first = done_after (network_in text)
    (λ net. after (node_in net name) (λ node. after (packets_in input) (traced net node choices))) e in
    let second = done_after (node_in first.0 name) (λ node. after (packets_in input) (traced first.0 node choices)) first.2 in
    let third = done_after (packets_in input) (traced first.0 second.0 choices) second.2 in
    record {
      net = first.0;
      node = second.0;
      packets = third.0;
      described = first.1;
      named = second.1;
      read = third.1;
    }

-- ---- what `replay` says of it

wanted_by : (file trace : Option (List ℕ)) (text bytes : List ℕ) (net : Network) (given : Output) → file ≡ Some text → trace ≡ Some bytes
    → network_in text ≡ Ok net
    → IsSomeAnd file (λ text. ReplayWants (network_in text) trace given) ↔ (given ≡ replay_output net bytes)
wanted_by file trace text bytes net given first second is = rw (first, second, is) (λ h. h, λ h. h)

replays : (text bytes : List ℕ) (net : Network) (output : Output) → network_in text ≡ Ok net → replay_output net bytes ≡ output
    → ReplaysTo text bytes output
replays text bytes net output is says = λ file name held input given first second.
    let same = wanted_by (file_named held file) (file_named held name) text bytes net given first second is in
    (λ h. same.0 h ∙ says, λ h. same.1 (h ∙ sym says))

right_output : (net : Network) (packets : List Traced) → Keeps net → All (IsTraced net) packets
    → length (trace_text net packets) ≤ MAX_TEXT_BYTES
    → replay_output net (trace_text net packets) ≡ right_with (counts_written net packets)
right_output net packets keeps each fits =
    let read = trace_small net (trace_text net packets) None (Ok (trace_lines net packets)) fits (written_good net keeps packets each)
    (ap Ok (written_lines net keeps packets each)) in
    ap (λ (r : Result (List (List ℕ)) Refusal). after r (replayed net)) read
    ∙ (ap (λ (wrong : Option Wrong). replayed_by (counts_of (trace_lines net packets)) wrong) (written_right net keeps packets each)
    ∙ ap (λ (counts : Replayed). replayed_by counts None) (sym (written_counts net keeps packets each)))

unended_output : (net : Network) (packets : List Traced) → Keeps net → All (IsTraced net) packets
    → length (unended_text net packets) ≤ MAX_TEXT_BYTES
    → replay_output net (unended_text net packets) ≡ refused (refusals.BadTrace (length (packets_lines net packets) + 2))
unended_output net packets keeps each fits =
    let bad = length (packets_lines net packets) + 2 in
    let read = trace_small net (unended_text net packets) (Some bad) (Err (refusals.BadTrace bad)) fits
    (unended_bad net keeps packets each) refl in
    ap (λ (r : Result (List (List ℕ)) Refusal). after r (replayed net)) read

pub whole_right : RulesAreKept → WholeTracesAreRight
whole_right rules text name choices input h done fits =
    let judged = done_judged text name choices input done in
    let packets = traced_under choices judged in
    let fault = done_unrefused (ForOut (text_of judged.net judged.node choices (reading_of judged.packets)) ∷ [])
    (fault_of (reading_of judged.packets)) (ap (λ (o : Output). o.status) (sym (output_judged choices judged)) ∙ done) in
    let out : trace_for_out text name choices input ≡ trace_text judged.net packets =
    out_judged choices judged ∙ ap (text_by judged.net packets) fault in (
      judged,
      replays text (trace_for_out text name choices input) judged.net _ judged.described
          (ap (replay_output judged.net) out
          ∙ right_output judged.net packets (keeps_from_network judged.net (rules_kept rules text judged.net judged.described))
          (judged_entered choices judged h)
          (subst (λ (bytes : List ℕ). length bytes ≤ MAX_TEXT_BYTES) out fits)),
    )

pub unended_refused : RulesAreKept → UnendedTracesAreRefused
unended_refused rules text name choices input h judged ends fits =
    let packets = traced_under choices judged in
    let fault = refused_some (ForOut (text_of judged.net judged.node choices (reading_of judged.packets)) ∷ [])
    (fault_of (reading_of judged.packets)) (ap (λ (o : Output). o.status) (sym (output_judged choices judged)) ∙ ends) in
    let out : trace_for_out text name choices input ≡ unended_text judged.net packets =
    out_judged choices judged ∙ ap (text_by judged.net packets) fault.1 in
    replays text (trace_for_out text name choices input) judged.net _ judged.described
    (ap (replay_output judged.net) out
    ∙ unended_output judged.net packets (keeps_from_network judged.net (rules_kept rules text judged.net judged.described))
    (judged_entered choices judged h)
    (subst (λ (bytes : List ℕ). length bytes ≤ MAX_TEXT_BYTES) out fits))
