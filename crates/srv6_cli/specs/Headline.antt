-- The headline: what a run of `walk` shows of a flat network and an intent, for every inner packet and whichever equal next hops are taken.
use Rattle.std.specs.Prelude.{◌≡◌, ℕ, ◌<◌, ◌≤◌, List, length, IsSomeAnd, Some, Result, Ok, Err}
use Rattle.srv6_rules.specs.Encapsulation.{header_bytes}
use Rattle.srv6_rules.specs.Packet.{Content}
use Rattle.net_model.specs.Network.{Network}
use Rattle.net_flatness.specs.Flat.{IsFlat}
use Rattle.walk_rules.specs.declared.limits.TheConstants.{MAX_STAGES}
use Rattle.walk_rules.specs.Walk.{walk_of}
use Rattle.net_syntax.specs.declared.intent_table.Prefer.TheVariants as prefers
use Rattle.intent_reader.specs.declared.intent.Intent.{Intent}
use Rattle.list_pack.specs.declared.types.Container.{Container}
use Rattle.list_pack.specs.SidLists.{IsLegalList, prefixes_in}
use Rattle.leg_table.specs.Realizes.{IsInner, content_lowered, headend_place}
use Rattle.leg_table.specs.WalkTrace.{Handed}
use Rattle.binding_spec.specs.OwnHandCounting.{handed_at_depth}
use Rattle.path_compiler.specs.declared.compiled.Compiled.{Compiled}
use Rattle.path_compiler.specs.declared.compiled.CompileFault.{CompileFault}
use Rattle.path_compiler.specs.declared.compiled.CompileFault.TheVariants as faults
use Rattle.srx_edge.specs.Edge.{file_named}
use Rattle.srx_edge.specs.CallSteps.{Whole}
use Rattle.command_output.specs.declared.status.Status.{Status}
use Rattle.command_output.specs.Endings.{ending_of_status}
use Rattle.command_output.specs.Outside.{Outside}
use Rattle.command_output.specs.CommandSpec.{Held}
use Rattle.command_inputs.specs.declared.input_packets.Packets.{Packets}
use Rattle.command_inputs.specs.Judgements.{intent_in, network_in}
use Rattle.command_inputs.specs.InputPackets.{packets_in}
use Rattle.compile_commands.specs.CompileCommand.{hop_limit_line, none_line, too_long_line}
use Rattle.compile_commands.specs.CompiledLists.{IsLeastFor, KeepsToSteps, ListHandsFor}
use Rattle.walk_commands.specs.WalkCommand.{Enters, WalkWords, headend_of, no_list, of_content, policy_of, walk_output}
use Rattle.srv6_cli.specs.Captured.{IsCaptured, IsSmallEnough, Wrote, outer_for}
use Rattle.srv6_cli.specs.Commands.{walk_by}
use Rattle.srv6_cli.specs.Serves.{Serves}

-- a run of `walk` over a flat network and an intent, as the contract of `serve` leaves it
pub record WalkRun (net : Network) (intent : Intent) : Type 0 where
  pub words : WalkWords  -- the command line: the names of the two files, the choices, and the schedule
  pub status : Status
  pub old : Outside  -- files, input, `out` and `err` before the call
  pub new : Outside  -- and after it
  pub serves : Serves (walk_by words) status old new
  pub ended : ending_of_status status ≡ Whole  -- memory was found, and no file and no stream failed
  pub held : Held
  pub files : old.files.told ≡ Some held  -- the files tell what they hold
  pub described : IsSomeAnd (file_named held words.file) (λ text. network_in text ≡ Ok net)  -- one reads as the network
  pub asked : IsSomeAnd (file_named held words.intent) (λ text. intent_in net text ≡ Ok intent)  -- the other as the intent
  pub flat : IsFlat net
  pub input : List ℕ
  pub bytes : old.input.left ≡ Some input  -- the input tells its bytes

-- an inner packet is carried by the compiled list, where `pick` says at each decision which of equal next hops is taken
pub record IsCarried (net : Network) (intent : Intent) (c : Compiled) (inner : Content) (pick : ℕ → ℕ) : Type 0 where
  -- The headend encapsulates it with the list (H.Encaps), and the nodes run the bytes of what it makes up to where the inner packet is
  -- handed over: the first time without a header in front that a SID pushed.
  pub enters : of_content (policy_of net intent c) inner ≡ Enters (outer_for net intent c inner)
  pub handed : Handed
  pub over : handed_at_depth net 0 (walk_of MAX_STAGES net (Some (headend_place intent)) (outer_for net intent c inner) pick 0)
      ≡ Some handed
  -- The links that it was sent on and the functions that were executed up to there are exactly those of the intent, in order.
  pub in_order : KeepsToSteps net intent handed.trace
  -- What is handed over has its hop limit or TTL lowered by one (with IPv4 the checksum follows), and nothing else changed.
  pub lowered : handed.content ≡ content_lowered inner

-- a list is no worse than another by what an intent prefers
pub record IsNoWorse (intent : Intent) (list other : List Container) : Type 0 where
  -- It has no more containers.
  pub containers : length list ≤ length other
  -- Where the intent prefers few SIDs, it has no more of them, if both have as many containers.
  pub sids : intent.prefer ≡ prefers.Sids → length list ≡ length other → length (prefixes_in list) ≤ length (prefixes_in other)

-- the compiled list carries the intent, with the fewest header bytes, and as the intent prefers
pub record Carries (net : Network) (intent : Intent) (c : Compiled) : Type 0 where
  -- It is legal over the SIDs of the network.
  pub legal : IsLegalList net c.list
  -- Each inner packet of the intent's family with enough hop limit (2 or more) and small enough is carried, whatever is taken.
  pub each : (inner : Content) (pick : ℕ → ℕ) → IsInner intent.inner inner → IsSmallEnough net intent c inner
      → IsCarried net intent c inner pick
  -- No legal list that hands over even one inner packet so, at whatever outer hop limit and over links without an MTU, needs fewer
  -- header bytes.
  pub fewest : (other : List Container) (hop : ℕ) → IsLegalList net other → ListHandsFor net intent other hop
      → header_bytes intent.reduced (length c.list) ≤ header_bytes intent.reduced (length other)
  -- Nor has such a list fewer containers, or, where the intent prefers few SIDs, as many containers and fewer SIDs.
  pub preferred : (other : List Container) (hop : ℕ) → IsLegalList net other → ListHandsFor net intent other hop
      → IsNoWorse intent c.list other

-- what a run comes to, by the compiler's answer: a list that carries the intent, and in `out` the capture of the walks of the input's
-- packets; or, with the line that says so, no legal list hands over even one inner packet, or the least that does has too many containers
-- or needs too high a hop limit
abbrev pub ComesTo : (net : Network) (intent : Intent) → WalkRun net intent → Result Compiled CompileFault → Type 0
ComesTo net intent run (Ok c) =
    Carries net intent c
    × Wrote run.old run.new run.status (walk_output net (headend_of net intent c) run.words.choices run.words.schedule run.input)
    × ((packets : Packets) → packets_in run.input ≡ Ok packets
    → IsCaptured net intent c run.words packets run.old.sinks.out run.new.sinks.out)
ComesTo net intent run (Err (faults.NoList solution)) =
    ((list : List Container) (hop : ℕ) → IsLegalList net list → ¬ ListHandsFor net intent list hop)
    × Wrote run.old run.new run.status (no_list none_line)
ComesTo net intent run (Err (faults.TooLong c)) =
    IsLeastFor net intent c × (intent.max_containers < c.containers)
    × Wrote run.old run.new run.status (no_list (too_long_line c.containers))
ComesTo net intent run (Err (faults.HopLimit c)) =
    IsLeastFor net intent c × (intent.hop_limit ≤ c.need) × Wrote run.old run.new run.status (no_list (hop_limit_line c.need))
ComesTo net intent run (Err (faults.NotFlat why)) = ⊥
ComesTo net intent run (Err faults.NoMemory) = ⊥
