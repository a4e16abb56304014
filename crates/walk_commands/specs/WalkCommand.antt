-- The command `walk`: the inner packets of the input, encapsulated at the headend of the intent of a file with the list that
-- the intent is compiled to, in the network that another file describes (RFC 8986 sections 5.1 and 5.2).
use Rattle.std.specs.Prelude.{◌≡◌, ℕ, ◌+◌, ◌≤◌, true, false, IsTrue, if◌then◌else◌, List, [], ◌∷◌, codes, length, map, All, Option, Some, Result, Ok, Err, IsSomeAnd, IsSome, None, slice_get}
use Rattle.v6_addr.specs.declared.address.Addr.{Addr}
use Rattle.pcap_io.specs.declared.frame.Body.{Body}
use Rattle.pcap_io.specs.declared.frame.Body.TheVariants as bodies
use Rattle.pcap_io.specs.declared.frame.Frame.{Frame}
use Rattle.srv6_rules.specs.declared.policy.Policy.{Policy}
use Rattle.srv6_rules.specs.declared.family.Family.TheVariants as families
use Rattle.srv6_rules.specs.declared.family.Family.{Family}
use Rattle.srv6_rules.specs.declared.reason.Reason.{Reason}
use Rattle.srv6_rules.specs.declared.reason.Reason.TheVariants as reasons
use Rattle.srv6_rules.specs.Encapsulation.{inner_lowered}
use Rattle.srv6_rules.specs.Packet.{Content, V6, V4, Unreadable, bytes_of, entered, most_len, spelling}
use Rattle.srv6_rules.specs.Packet4.{ttl, spelling4, lowered4}
use Rattle.srv6_rules.specs.Policies.{Encapsulating, Outer, TooBig, InnerHop, headend_by}
use Rattle.net_model.specs.Network.{Network}
use Rattle.net_model.specs.NetworkRules.{same_family}
use Rattle.walk_rules.specs.declared.place.Ended.TheVariants as ends
use Rattle.walk_rules.specs.declared.place.How.TheVariants.{Submitted}
use Rattle.walk_rules.specs.declared.place.Place.{Place}
use Rattle.walk_rules.specs.Walk.{Stage, walk_of, choice_at, far_end}
use Rattle.walk_rules.specs.Treatment.{mtu_at}
use Rattle.intent_reader.specs.declared.intent.Intent.{Intent}
use Rattle.intent_reader.specs.IntentRules.{has_reach}
use Rattle.intent_reader.specs.declared.intent.Step.{Step}
use Rattle.intent_reader.specs.declared.intent.Step.TheVariants.{Links, Function, Reach}
use Rattle.list_pack.specs.SidLists.{list_values}
use Rattle.leg_table.specs.Realizes.{headend_place, IsInner, ListRealizes, content_lowered}
use Rattle.leg_table.specs.WalkTrace.{Handed, handed_over}
use Rattle.binding_spec.specs.OwnHandCounting.{handed_at_depth}
use Rattle.path_compiler.specs.declared.compiled.Compiled.{Compiled}
use Rattle.path_compiler.specs.declared.compiled.CompileFault.{CompileFault}
use Rattle.path_compiler.specs.declared.compiled.CompileFault.TheVariants as faults
use Rattle.compile_commands.specs.CompiledLists.{IsCompiledFor, BindsNothing, IsSmallFor, KeepsToSteps}
use Rattle.srx_edge.specs.Edge.{file_named}
use Rattle.walk_commands.specs.declared.headend.Headend.{Headend}
use Rattle.walk_rules.specs.declared.limits.TheConstants.{MAX_STAGES}
use Rattle.command_inputs.specs.declared.input_packets.Packets.{Packets}
use Rattle.command_output.specs.declared.unread.Unread.{Unread}
use Rattle.command_output.specs.declared.unread.Unread.TheVariants as unreads
use Rattle.command_output.specs.declared.refusal.Refusal.{Refusal}
use Rattle.command_output.specs.declared.status.Status.TheVariants as statuses
use Rattle.compile_commands.specs.CompileCommand.{NetworkWants, none_line, too_long_line, hop_limit_line}
use Rattle.command_output.specs.Halts.{flat_refusal}
use Rattle.command_inputs.specs.Judgements.{network_in, intent_in, asks_behind_network}
use Rattle.command_output.specs.Outputs.{refused, after, ended_by}
use Rattle.command_inputs.specs.InputPackets.{packets_in, reading_of, fault_of}
use Rattle.command_output.specs.OutputPieces.{Piece, ForErr, Output}
use Rattle.run_commands.specs.declared.enters.EarlyEnd.TheVariants as stays
use Rattle.run_commands.specs.Admission.{Admission, EndsEarly, Admitted, driven_pieces, comings_of_frames}
use Rattle.command_output.specs.CommandSpec.{Held, CommandSpec}
use Rattle.command_output.specs.Verbs.{TwoWords, two_words}
use Rattle.command_inputs.specs.ChoiceWords.{Picks, picks_after}
use Rattle.packet_walk.specs.Schedule.{Coming}

-- what its words ask for
pub record WalkWords : Type 0 where
  pub file : List ℕ
  pub intent : List ℕ
  pub choices : List ℕ
  pub schedule : List ℕ

abbrev pub walk_with : List ℕ → List ℕ → Option Picks → Option WalkWords
walk_with file intent None = None
walk_with file intent (Some picks) =
    Some (record { file = file; intent = intent; choices = picks.choices; schedule = picks.schedule })

abbrev pub walk_by : Option TwoWords → Option WalkWords
walk_by None = None
walk_by (Some words) = walk_with words.first words.second (picks_after words.more)

-- its words: the description and the intent; the choices may follow, and after them the schedule
abbrev pub walk_words : List (List ℕ) → Option WalkWords
walk_words words = walk_by (two_words (codes "walk") words)

-- what the headend puts in front of packets: the compiled list, with the intent's fields
abbrev pub segment_of : ℕ → Addr
segment_of value = record { value = value }

abbrev pub policy_of : Network → Intent → Compiled → Policy
policy_of net intent c =
    record {
      source = intent.source;
      segments = map segment_of (list_values net c.list);
      traffic_class = intent.traffic_class;
      flow_label = intent.flow_label;
      hop_limit = intent.hop_limit;
      reduced = intent.reduced;
    }

-- the headend of an intent, with the list that it is compiled to
abbrev pub headend_of : Network → Intent → Compiled → Headend
headend_of net intent c = record { node = intent.headend; inner = intent.inner; policy = policy_of net intent c }

-- what becomes of a frame's packet at the headend, before the first stage: it isn't read, it is dropped, or it is encapsulated; a packet
-- of another family than the intent's isn't read

pub data AtHeadend : Type 0 where
  NotRead : Unread → AtHeadend
  Dropped : Reason → AtHeadend
  Enters : Content → AtHeadend

abbrev pub of_encapsulating : Encapsulating → AtHeadend
of_encapsulating (Outer packet) = Enters (V6 packet)
of_encapsulating (TooBig length) = Dropped reasons.TooBig
of_encapsulating InnerHop = Dropped reasons.InnerHop

abbrev pub of_content : Policy → Content → AtHeadend
of_content policy (V6 p) = of_encapsulating (headend_by policy families.V6 p.hop_limit (spelling (inner_lowered p)))
of_content policy (V4 p) = of_encapsulating (headend_by policy families.V4 (ttl p) (spelling4 (lowered4 p)))
of_content policy (Unreadable bytes reason) = Dropped reason

abbrev pub of_bytes : Policy → Family → Family → List ℕ → AtHeadend
of_bytes policy inner family bytes =
    if same_family inner family then of_content policy (entered family bytes) else NotRead unreads.WrongVersion

abbrev pub at_headend : Policy → Family → Body → AtHeadend
at_headend policy inner (bodies.V6 bytes) = of_bytes policy inner families.V6 bytes
at_headend policy inner (bodies.V4 bytes) = of_bytes policy inner families.V4 bytes
at_headend policy inner bodies.ShortFrame = NotRead unreads.ShortFrame
at_headend policy inner bodies.NotIp = NotRead unreads.NotIp

-- where what is encapsulated stands: it is submitted to the node's table 0
abbrev pub submitted_at : ℕ → Place
submitted_at node = record { node = node; how = Submitted 0; family = families.V6 }

-- so a packet that isn't read or is dropped stays, and one that is encapsulated enters the network

abbrev pub admission_of : ℕ → AtHeadend → Admission
admission_of node (NotRead cause) = EndsEarly (stays.NotRead cause)
admission_of node (Dropped reason) = EndsEarly (stays.Ends (ends.Dropped node reason))
admission_of node (Enters content) = Admitted (record { place = submitted_at node; content = content })

abbrev pub admission_at_headend : Headend → Body → Admission
admission_at_headend h body = admission_of h.node (at_headend h.policy h.inner body)

-- the walk of what the headend encapsulated: it submits it to table 0
abbrev pub walk_at_headend : Network → Intent → List ℕ → Content → List Stage
walk_at_headend net intent choices content = walk_of MAX_STAGES net (Some (headend_place intent)) content (choice_at choices) 0

-- the head of the capture that is written; the lines of the packets that stay at the headend, by their numbers; and the stages of
-- the others in the order of a schedule
abbrev pub walk_pieces : Network → Headend → List ℕ → List ℕ → List Frame → List Piece
walk_pieces net headend choices schedule frames = driven_pieces net choices schedule (admission_at_headend headend) frames

abbrev pub walked : Network → Headend → List ℕ → List ℕ → Packets → Output
walked net headend choices schedule packets =
    ended_by (walk_pieces net headend choices schedule (reading_of packets).frames) (fault_of (reading_of packets))

-- the input is judged where there is a list
abbrev pub walk_output : Network → Headend → List ℕ → List ℕ → List ℕ → Output
walk_output net headend choices schedule input = after (packets_in input) (walked net headend choices schedule)

-- no list: the line that `compile` has, and no capture
abbrev pub no_list : List ℕ → Output
no_list told = record { pieces = ForErr told ∷ []; status = statuses.NoAnswer }

-- a packet of so many bytes goes over each link of a step's set, and on the way to a node over each link that leads to a node
abbrev pub GoesOver : Network → ℕ → Step → Type 0
GoesOver net len (Links set) = All (λ link. len ≤ mtu_at net link) set
GoesOver net len (Function sid) = Unit {0}
GoesOver net len (Reach node) = (link : ℕ) → IsSome (far_end (slice_get net.links link)) → len ≤ mtu_at net link

-- an inner packet that the headend encapsulates and that is small enough: bytes spell it, its hop limit or TTL can be lowered, the outer
-- packet is not too big, and it goes over each link that one of the intent's steps may cross
pub record IsEncapsulated (net : Network) (intent : Intent) (c : Compiled) (inner : Content) : Type 0 where
  pub is_inner : IsInner intent.inner inner
  pub small : c.header + length (bytes_of inner) ≤ most_len
  pub goes_over : All (GoesOver net (c.header + length (bytes_of inner))) intent.steps

-- it enters, its walk's trace up to its own hand_over keeps to the intent's steps, and what is handed over there is the inner packet with
-- its hop limit or TTL lowered by one; the own hand_over is the first at depth 0, where the depth is counted by outcomes
pub record KeepsTo (net : Network) (intent : Intent) (c : Compiled) (choices : List ℕ) (inner : Content) : Type 0 where
  pub outer : Content
  pub enters : of_content (policy_of net intent c) inner ≡ Enters outer
  pub handed : Handed
  pub own : handed_at_depth net 0 (walk_at_headend net intent choices outer) ≡ Some handed
  pub steps : KeepsToSteps net intent handed.trace
  pub lowered : handed.content ≡ content_lowered inner

-- and that is what its walk hands over first
pub record KeepsToAtFirst (net : Network) (intent : Intent) (c : Compiled) (choices : List ℕ) (inner : Content) : Type 0 where
  pub keeps : KeepsTo net intent c choices inner
  pub first : handed_over net (walk_at_headend net intent choices keeps.outer) ≡ Some keeps.handed

-- what the walks of a list keep to: every inner packet of the intent that may be encapsulated and is small keeps to the intent, also where
-- the list executes binding SIDs. Where it executes none, so does every inner packet that fits the links that the intent's steps
-- may cross, with the first hand_over of its walk; and so it is in a network without binding SIDs, and for an intent with a step
-- that is to reach a node
pub record WalksKeep (net : Network) (intent : Intent) (c : Compiled) (choices : List ℕ) : Type 0 where
  pub small : (inner : Content) → IsInner intent.inner inner → IsSmallFor net intent (list_values net c.list) inner intent.hop_limit
      → KeepsTo net intent c choices inner
  pub strict : ListRealizes net intent c.list c.need → (inner : Content) → IsEncapsulated net intent c inner
      → KeepsToAtFirst net intent c choices inner
  pub plain : BindsNothing net → (inner : Content) → IsEncapsulated net intent c inner → KeepsToAtFirst net intent c choices inner
  pub loose : IsTrue (has_reach intent.steps) → (inner : Content) → IsEncapsulated net intent c inner
      → KeepsToAtFirst net intent c choices inner

-- the output of a list, whose walks keep to the intent
abbrev pub ListWants : Network → Intent → List ℕ → List ℕ → List ℕ → Compiled → Output → Type 0
ListWants net intent choices schedule input c output =
    (output ≡ walk_output net (headend_of net intent c) choices schedule input) × WalksKeep net intent c choices

-- where there is no list, the line that `compile` has, or the refusal of a network that isn't flat; want of memory has no output
abbrev pub NoListWants : Network → CompileFault → Output → Type 0
NoListWants net (faults.NotFlat why) output = output ≡ refused (flat_refusal net why)
NoListWants net (faults.NoList solution) output = output ≡ no_list none_line
NoListWants net (faults.TooLong found) output = output ≡ no_list (too_long_line found.containers)
NoListWants net (faults.HopLimit found) output = output ≡ no_list (hop_limit_line found.need)
NoListWants net faults.NoMemory output = ⊥

-- the output of an answer of the compiler
abbrev pub WalkWants : List ℕ → List ℕ → List ℕ → Network → Intent → Result Compiled CompileFault → Output → Type 0
WalkWants choices schedule input net intent (Ok c) output = ListWants net intent choices schedule input c output
WalkWants choices schedule input net intent (Err fault) output = NoListWants net fault output

-- the input is read only where the intent may be compiled

abbrev pub HasList : Network → Result Intent Refusal → Type 0
HasList net (Err refusal) = ⊥
HasList net (Ok intent) = (c : Compiled) × IsCompiledFor net intent c

abbrev pub HasListIn : Result Network Refusal → Option (List ℕ) → Type 0
HasListIn (Err refusal) intent = ⊥
HasListIn (Ok net) intent = IsSomeAnd intent (λ text. HasList net (intent_in net text))

abbrev pub ReadsInput : List ℕ → List ℕ → Held → Type 0
ReadsInput file intent held = IsSomeAnd (file_named held file) (λ text. HasListIn (network_in text) (file_named held intent))

abbrev pub walk_spec : List ℕ → List ℕ → List ℕ → List ℕ → CommandSpec
walk_spec file intent choices schedule = record {
  files = file ∷ intent ∷ [];
  goes_on = asks_behind_network;
  reads = true;
  leaves_input = λ held. ¬ ReadsInput file intent held;
  lines_last = false;
  statuses = statuses.Done ∷ statuses.Refused ∷ statuses.NoAnswer ∷ [];
  wants = λ held input output.
      IsSomeAnd (file_named held file) (λ text. NetworkWants (WalkWants choices schedule input) (network_in text)
      (file_named held intent) output);
}

-- so a packet that isn't read or is dropped stays, and one that is encapsulated enters the network

-- the packets that it encapsulates, by their numbers and their walks
abbrev pub comings_at_headend : Network → Headend → List ℕ → List Frame → List Coming
comings_at_headend net headend choices frames = comings_of_frames net choices (admission_at_headend headend) frames
