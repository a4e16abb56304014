-- The trace of a packet, as a sink in memory holds it, and as a text.
use Rattle.std.proofs.Common.{◌≡◌, ℕ, ◌<◌, ◌≤◌, ◌^◌, true, List, [], ◌∷◌, All, Some, length, nat_le, refl, ap, subst, sym, ◌∙◌, arith}
use Rattle.std.specs.Str.{IsUtf8}
use Rattle.std.proofs.lemmas.Bool.{and_parts, leb-true}
use Rattle.std.proofs.lemmas.Option.{same_Some}
use Rattle.srx_edge.specs.Sinks.{SinkSeen, sent}
use Rattle.srx_edge.specs.Fakes.{SureSinkState, sure_sink_seen}
use Rattle.srv6_rules.specs.declared.family.Family.{Family}
use Rattle.srv6_rules.specs.declared.family.Family.TheVariants as families
use Rattle.srv6_rules.specs.Packet.{entered}
use Rattle.pcap_io.specs.declared.frame.Body.{Body}
use Rattle.pcap_io.specs.Frames.{by_version}
use Rattle.net_model.specs.Network.{Network}
use Rattle.net_model.specs.NetworkRulesTerms.{IsNetwork}
use Rattle.net_model.proofs.PublicLaws.{keeps_from_network}
use Rattle.trace_replay.specs.Written.{trace_text}
use Rattle.trace_commands.specs.TraceCommand.{traced_as, traced_by}
use Rattle.pce_protocol.specs.declared.limits.TheConstants.{MAX_CHOICES}
use Rattle.pce_protocol.specs.Kinds.{are_choices}
use Rattle.pce_answers.specs.NetAnswersTerms.{body_as}
use Rattle.pce_answers.proofs.PlainTexts.{trace_is_text}

-- ---- a sink that held nothing, once a text went out whole

held_then : (text : List ℕ) (old : SureSinkState) → old.held ≡ [] → (sent text (sure_sink_seen old)).held ≡ Some text
held_then [] old e = ap Some e
held_then (b ∷ bs) old e = rw e refl

pub sunk : (text : List ℕ) (old new : SureSinkState) → old.held ≡ [] → sure_sink_seen new ≡ sent text (sure_sink_seen old)
    → new.held ≡ text
sunk text old new e went = same_Some new.held text (ap (λ (s : SinkSeen). s.held) went ∙ held_then text old e)

-- ---- the trace

pub some_choices : (choices : List ℕ) → are_choices choices ≡ true → 0 < length choices
some_choices choices h =
    let few = leb-true 1 (length choices) (and_parts (nat_le 1 (length choices)) (nat_le (length choices) MAX_CHOICES) h).0 in
    omega (arith, few)

one_of : (node : ℕ) (choices : List ℕ) (family : Family) (packet : List ℕ)
    → traced_by node choices 1 (body_as family packet) ≡ traced_as node choices 1 family (entered family packet) ∷ []
one_of node choices families.V6 packet = refl
one_of node choices families.V4 packet = refl

pub traced_one : (net : Network) (node : ℕ) (choices : List ℕ) (family : Family) (packet text : List ℕ)
    → by_version packet ≡ body_as family packet
    → text ≡ trace_text net (traced_as node choices 1 family (entered family packet) ∷ [])
    → text ≡ trace_text net (traced_by node choices 1 (by_version packet))
traced_one net node choices family packet text is e =
    e ∙ ap (trace_text net) (sym (ap (traced_by node choices 1) is ∙ one_of node choices family packet))

pub traced_text : (net : Network) (node : ℕ) (choices : List ℕ) (family : Family) (packet text : List ℕ) → IsNetwork net
    → node < length net.nodes → All (λ b. b < 2 ^ 8) packet
    → text ≡ trace_text net (traced_as node choices 1 family (entered family packet) ∷ [])
    → IsUtf8 text
traced_text net node choices family packet text network there each e =
    subst IsUtf8 (sym e)
    (trace_is_text net (traced_as node choices 1 family (entered family packet)) (keeps_from_network net network) (record {
      number = omega arith;
      node = there;
      bytes = packet;
      each = each;
      content = refl;
    }))

pub ruleset traced = (some_choices, traced_one, traced_text)
