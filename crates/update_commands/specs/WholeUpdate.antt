-- Each packet of an update by itself: it takes the walk of one description, also while the tables change, so that it keeps to
-- the intent as without a change (RFC 8986 sections 4.13, 4.14, 4.16.3, 5.1 and 5.2).
use Rattle.std.specs.Prelude.{◌≡◌, ℕ, zero, suc, ◌==◌, ◌||◌, Bool, true, false, if◌then◌else◌, List, [], ◌∷◌, ◌++◌, All, slice_get, Option, Some, None}
use Rattle.std.specs.List.{filter, filter_map}
use Rattle.pcap_io.specs.declared.frame.Body.{Body}
use Rattle.pcap_io.specs.declared.frame.Body.TheVariants as bodies
use Rattle.pcap_io.specs.declared.frame.Frame.{Frame}
use Rattle.srv6_rules.specs.declared.family.Family.{Family}
use Rattle.srv6_rules.specs.declared.family.Family.TheVariants as families
use Rattle.srv6_rules.specs.Packet.{Content, entered}
use Rattle.net_model.specs.Network.{Network}
use Rattle.walk_rules.specs.declared.place.Outcome.{Outcome}
use Rattle.walk_rules.specs.declared.place.Outcome.TheVariants as outcomes
use Rattle.walk_rules.specs.Walk.{Stage}
use Rattle.intent_reader.specs.declared.intent.Intent.{Intent}
use Rattle.list_pack.specs.SidLists.{list_values}
use Rattle.leg_table.specs.Realizes.{IsInner}
use Rattle.binding_spec.specs.TunnelWalks.{depth_after}
use Rattle.path_compiler.specs.declared.compiled.Compiled.{Compiled}
use Rattle.update_spec.specs.Joined.{joined_of}
use Rattle.update_flight.specs.declared.table_edit.Edit.TheVariants as edits
use Rattle.update_flight.specs.MomentTables.{HasRoute}
use Rattle.update_plan.specs.UpdateState.{plan_of}
use Rattle.update_spec.specs.Alike.{BeginAs}
use Rattle.command_output.specs.OutputPieces.{bytes_for_err, bytes_for_out}
use Rattle.command_inputs.specs.declared.file_judge.BothIntents.{BothIntents}
use Rattle.run_commands.specs.WrittenCapture.{frames_of}
use Rattle.run_commands.specs.Admission.{Admission, EndsEarly, Admitted, walk_of_entrant}
use Rattle.run_commands.specs.Scheduled.{line_of_walk}
use Rattle.walk_commands.specs.WalkLists.{IsSmallFor}
use Rattle.walk_commands.specs.WalkCommand.{KeepsTo, admission_at_headend, headend_of, walk_at_headend}
use Rattle.update_driver.specs.Arriving.{early_at}
use Rattle.update_driver.specs.Events.{events_and_rest, pieces_of, starting}
use Rattle.update_driver.specs.Moving.{Happening, Staged, Stayed, Edited, Waits, Sides, first_member, happening, sides_by}

-- ---- what is happened of a packet

-- something happens to the packet of a frame's number
abbrev pub is_of : ℕ → Happening → Bool
is_of number (Staged n stage ended) = n == number
is_of number (Stayed n stays) = n == number
is_of number (Edited edit) = false
is_of number (Waits n) = false

abbrev pub happened_to : ℕ → List Happening → List Happening
happened_to number all = filter (is_of number) all

-- the stages that it takes

abbrev pub stage_happened : Happening → Option Stage
stage_happened (Staged n stage ended) = Some stage
stage_happened (Stayed n stays) = None
stage_happened (Edited edit) = None
stage_happened (Waits n) = None

abbrev pub stages_happened : List Happening → List Stage
stages_happened happened = filter_map stage_happened happened

-- it comes before the switch: it is happened of before the switch is
abbrev pub comes_early : ℕ → List Happening → Bool
comes_early number [] = true
comes_early number (Staged n stage ended ∷ more) = (n == number) || comes_early number more
comes_early number (Stayed n stays ∷ more) = (n == number) || comes_early number more
comes_early number (Edited (edits.Added entry) ∷ more) = comes_early number more
comes_early number (Edited edits.Switched ∷ more) = false
comes_early number (Edited (edits.Removed entry) ∷ more) = comes_early number more
comes_early number (Edited edits.Finished ∷ more) = comes_early number more
comes_early number (Waits n ∷ more) = comes_early number more

-- ---- its own description: the old one where it comes before the switch, else the new one, with the intent and the list there

pub record Own : Type 0 where
  pub net : Network
  pub intent : Intent
  pub list : Compiled

abbrev pub own_by : Own → Own → Bool → Own
own_by old new early = if early then old else new

abbrev pub own_of : Network → Intent → Compiled → Own
own_of net intent list = record { net = net; intent = intent; list = list }

-- how packets enter with its list
abbrev pub own_entry : Own → Body → Admission
own_entry own = admission_at_headend (headend_of own.net own.intent own.list)

-- how packets enter at the headend with both lists
abbrev pub sides_of : Network → Network → BothIntents → Compiled → Compiled → Sides
sides_of old new both before after = sides_by (own_entry (own_of old both.before before)) (own_entry (own_of new both.after after))

-- ---- it takes its own walk

-- What is happened of a packet that enters is its walk in its own description. As far as that walk meets a route, the packet takes its stages,
-- where SIDs have their numbers in the network of both descriptions; and where it does so to its end, what is written of the packet
-- are the frames and the line of that walk.
pub record TakesWalk (joined old own : Network) (number : ℕ) (happened : List Happening) (walk : List Stage) : Type 0 where
  pub fronts : (first more : List Stage) → walk ≡ first ++ more → All HasRoute first → BeginAs joined own (stages_happened happened) first
  pub frames : All HasRoute walk → bytes_for_out (pieces_of old happened) ≡ frames_of number walk
  pub line : All HasRoute walk → bytes_for_err (pieces_of old happened) ≡ line_of_walk own number walk

-- or it stays, where its list makes it too big, and that is happened
abbrev pub HappensAs : Network → Network → Network → ℕ → List Happening → Admission → Type 0
HappensAs joined old own number happened (EndsEarly stays) = happened ≡ Stayed number stays ∷ []
HappensAs joined old own number happened (Admitted comes) = TakesWalk joined old own number happened (walk_of_entrant own first_member comes)

-- ---- it keeps to the intent

-- what follows a stage up to and with the packet's own hand_over
abbrev pub behind_hand : ℕ → Outcome → List Stage → List Stage
behind_hand zero (outcomes.Hand n how family) later = []
behind_hand (suc depth) (outcomes.Hand n how family) later = later
behind_hand depth (outcomes.Again n how) later = later
behind_hand depth (outcomes.Send link) later = later
behind_hand depth outcomes.Local later = later
behind_hand depth (outcomes.Drop reason error) later = later

-- the stages of a walk up to and with the first hand_over at depth 0
abbrev pub stages_to_hand : Network → ℕ → List Stage → List Stage
stages_to_hand net depth [] = []
stages_to_hand net depth (s ∷ ss) =
    s ∷ behind_hand depth s.gave.outcome (stages_to_hand net (depth_after net depth s.gave.outcome) ss)

-- a frame has this inner packet
abbrev pub HasInner : Family → Body → Content → Type 0
HasInner families.V6 (bodies.V6 bytes) inner = entered families.V6 bytes ≡ inner
HasInner families.V6 (bodies.V4 bytes) inner = ⊥
HasInner families.V4 (bodies.V6 bytes) inner = ⊥
HasInner families.V4 (bodies.V4 bytes) inner = entered families.V4 bytes ≡ inner
HasInner family bodies.ShortFrame inner = ⊥
HasInner family bodies.NotIp inner = ⊥

-- In its own description the packet's walk crosses and executes exactly the intent's steps up to its own hand_over, and hands over the
-- inner packet lowered by one; and the packet takes the stages of that walk up to there, whatever was added and removed meanwhile.
pub record KeepsToOwn (joined : Network) (own : Own) (happened : List Happening) (inner : Content) : Type 0 where
  pub keeps : KeepsTo own.net own.intent own.list first_member inner
  pub takes : BeginAs joined own.net (stages_happened happened)
      (stages_to_hand own.net 0 (walk_at_headend own.net own.intent first_member keeps.outer))

-- ---- so it is of each packet

-- what happens by the events, and after them
abbrev pub all_of : Network → Network → Sides → List Frame → List ℕ → List Happening
all_of old new sides frames events =
    let start = starting sides (plan_of old new) frames in happening sides start (events_and_rest start frames events)

-- Of the packet of a number, among all that happens. One that doesn't stay before the first event is to come, and takes its own walk, or
-- stays. An inner packet that can be lowered is to come whatever the lists are, so where it is small it keeps to the intent.
pub record PacketKeeps (old new : Network) (before after : Own) (number : ℕ) (body : Body) (all : List Happening) : Type 0 where
  pub takes : early_at (own_entry before) body ≡ None
      → HappensAs (joined_of old new) old (own_by before after (comes_early number all)).net number (happened_to number all)
      (own_entry (own_by before after (comes_early number all)) body)
  pub keeps : (inner : Content) → let own = own_by before after (comes_early number all) in HasInner own.intent.inner body inner
      → IsInner own.intent.inner inner → IsSmallFor own.net own.intent (list_values own.net own.list.list) inner own.intent.hop_limit
      → KeepsToOwn (joined_of old new) own (happened_to number all) inner

-- whatever the frames and the events are
abbrev pub PacketsKeep : Network → Network → BothIntents → Compiled → Compiled → Type 0
PacketsKeep old new both before after =
    (frames : List Frame) (events : List ℕ) (at : ℕ) (frame : Frame) → slice_get frames at ≡ Some frame
    → PacketKeeps old new (own_of old both.before before) (own_of new both.after after) (suc at) frame.body
    (all_of old new (sides_of old new both before after) frames events)
