-- What is answered of one network that is held. (own rules)
use Rattle.std.specs.Prelude.{◌≡◌, ◌⊎◌, ℕ, Bool, if◌then◌else◌, List, length, drop, map, Option, Some, None, Result, Ok, Err}
use Rattle.v6_addr.specs.declared.address.Addr.{Addr}
use Rattle.pcap_io.specs.Frames.{by_version}
use Rattle.net_model.specs.Network.{Network}
use Rattle.net_model.specs.Named.{node_numbered}
use Rattle.net_flatness.specs.declared.not_flat.NotFlat.{NotFlat}
use Rattle.net_flatness.specs.Flat.{flatness_of}
use Rattle.trace_replay.specs.Written.{trace_text}
use Rattle.intent_reader.specs.Preferences.{sid_cost_of}
use Rattle.intent_reader.specs.declared.intent.Intent.{Intent}
use Rattle.intent_reader.specs.declared.fault.IntentFault.{IntentFault}
use Rattle.intent_reader.specs.IntentJudging.{intent_of_text}
use Rattle.list_pack.specs.declared.types.PathStep.{PathStep}
use Rattle.list_pack.specs.declared.types.Solution.{Solution}
use Rattle.list_pack.specs.SidLists.{list_values, steps_in}
use Rattle.list_certificate.specs.Spelling.{spelled}
use Rattle.path_compiler.specs.declared.compiled.Compiled.{Compiled}
use Rattle.path_compiler.specs.declared.compiled.CompileFault.{CompileFault}
use Rattle.path_compiler.specs.declared.compiled.CompileFault.TheVariants as faults
use Rattle.command_output.specs.declared.refusal.Refusal.{Refusal}
use Rattle.command_output.specs.declared.refusal.Refusal.TheVariants as refusals
use Rattle.command_output.specs.Halts.{flat_refusal}
use Rattle.command_output.specs.OutputLines.{refusal_text}
use Rattle.trace_commands.specs.TraceCommand.{traced_by}
use Rattle.intent_compiler.specs.CompilerAnswers.{IntentAnswers, NoneLessFor}
use Rattle.pce_protocol.specs.declared.reply.Held.{Held}
use Rattle.pce_protocol.specs.declared.reply.PathSid.{PathSid}
use Rattle.pce_protocol.specs.declared.reply.ListReply.{ListReply}
use Rattle.pce_protocol.specs.declared.reply.Compiled.TheVariants as compiled
use Rattle.pce_protocol.specs.declared.reply.Answer.{Answer}
use Rattle.pce_protocol.specs.declared.reply.Answer.TheVariants as answers
use Rattle.pce_protocol.specs.declared.reply.ReplyError.{ReplyError}
use Rattle.pce_protocol.specs.declared.reply.ReplyError.TheVariants as errors

-- what a request gives, or why it gives nothing
abbrev pub Reply : Type 0
Reply = Result Answer ReplyError

-- ---- refusals

-- why something is refused: the text of the refusal behind the word `refused `
abbrev pub why_of : Refusal → List ℕ
why_of refusal = drop 8 (refusal_text refusal)

-- why a network isn't flat
abbrev pub why_not_flat : Network → NotFlat → List ℕ
why_not_flat net why = why_of (flat_refusal net why)

-- ---- what is told of a network that comes to be held

abbrev pub why_unless_flat : Network → Result (Unit {0}) NotFlat → Option (List ℕ)
why_unless_flat net (Ok flat) = None
why_unless_flat net (Err why) = Some (why_not_flat net why)

abbrev pub held_of : Network → Held
held_of net = record {
  links = length net.links;
  nodes = length net.nodes;
  routes = length net.routes;
  sids = length net.sids;
  not_flat = why_unless_flat net (flatness_of net);
}

-- ---- an intent that is compiled

abbrev pub path_sid : PathStep → PathSid
path_sid step = record { prefix = step.prefix; stays = step.stays }

abbrev pub segment : ℕ → Addr
segment value = record { value = value }

-- a list that was found: its SIDs in the order in which they are executed, each in the container of the one before it or in a new one, and
-- its segments in the order in which they are visited
abbrev pub list_reply_of : Network → Compiled → ListReply
list_reply_of net c = record {
  containers = c.containers;
  header = c.header;
  need = c.need;
  path = map path_sid (steps_in c.list);
  segments = map segment (list_values net c.list);
  sids = c.sids;
}

-- where it is asked for, the certificate of what the search found, of the form that the intent's preference asks for
abbrev pub certificate_if : Bool → Network → Intent → Solution → Option (List ℕ)
certificate_if asked net intent solution = if asked then Some (spelled net (sid_cost_of intent.prefer) solution) else None

-- the reply to an answer of the compiler
abbrev pub compiled_reply_of : Network → Intent → Bool → Result Compiled CompileFault → Reply
compiled_reply_of net intent asked (Ok c) =
    Ok (answers.Compiled (compiled.List (list_reply_of net c)) (certificate_if asked net intent c.solution))
compiled_reply_of net intent asked (Err (faults.NotFlat why)) = Err (errors.NotFlat (why_not_flat net why))
compiled_reply_of net intent asked (Err (faults.NoList solution)) =
    Ok (answers.Compiled compiled.NoList (certificate_if asked net intent solution))
compiled_reply_of net intent asked (Err (faults.TooLong c)) =
    Ok (answers.Compiled (compiled.TooLong (list_reply_of net c)) (certificate_if asked net intent c.solution))
compiled_reply_of net intent asked (Err (faults.HopLimit c)) =
    Ok (answers.Compiled (compiled.HopLimit (list_reply_of net c)) (certificate_if asked net intent c.solution))
compiled_reply_of net intent asked (Err faults.NoMemory) = Err errors.NoMemory

-- the intent is judged before the network's flatness, which the compiler's answer tells; the answer is one, but for want of memory
abbrev pub IsIntentReply : Network → Bool → Result Intent IntentFault → Reply → Type 0
IsIntentReply net asked (Err fault) reply = reply ≡ Err (errors.Refused (why_of (refusals.Intent fault)))
IsIntentReply net asked (Ok intent) reply =
    (answer : Result Compiled CompileFault) × IntentAnswers net intent answer × NoneLessFor net intent answer
    × (reply ≡ compiled_reply_of net intent asked answer)

-- the reply to an intent's text; memory may be wanting in the place of any reply
abbrev pub IsCompileReply : Network → List ℕ → Bool → Reply → Type 0
IsCompileReply net text asked reply = (reply ≡ Err errors.NoMemory) ⊎ IsIntentReply net asked (intent_of_text net text) reply

-- ---- a packet that is traced

-- from the node of a name, under choices that its decisions take in turn: the trace of this packet alone, which is packet 1
abbrev pub trace_reply_of : Network → List ℕ → List ℕ → List ℕ → Option ℕ → Reply
trace_reply_of net name packet choices None = Err (errors.UnknownName name)
trace_reply_of net name packet choices (Some node) =
    Ok (answers.Traced (trace_text net (traced_by node choices 1 (by_version packet))))

abbrev pub IsTraceReply : Network → List ℕ → List ℕ → List ℕ → Reply → Type 0
IsTraceReply net name packet choices reply =
    (reply ≡ Err errors.NoMemory) ⊎ (reply ≡ trace_reply_of net name packet choices (node_numbered name net.nodes))
