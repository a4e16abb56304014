-- Need not be believed: helps proofs and other laws.
-- What a stage of the code gives and tells.
use Rattle.std.specs.Prelude.{◌≡◌, ◌≢◌, ℕ, ◌<◌, Bool, true, false, List, slice_get, is_some, IsSome, Option, Some, None, Result, Ok, Err}
use Rattle.srv6_rules.specs.Behaviours.{behaviour_policy}
use Rattle.srv6_rules.specs.declared.reason.Reason.{Reason}
use Rattle.srv6_rules.specs.declared.sid.SidEntry.{SidEntry}
use Rattle.srv6_rules.specs.declared.policy.Policy.{Policy}
use Rattle.srv6_rules.specs.declared.family.Family.TheVariants as families
use Rattle.srv6_rules.specs.Endpoint.{Endpoint, Onward}
use Rattle.srv6_rules.specs.Packet.{Content, Packet, spelling}
use Rattle.srv6_rules.specs.Policies.{Outer, TooBig, pushed_by}
use Rattle.net_model.specs.Network.{Network}
use Rattle.walk_rules.specs.declared.place.Outcome.{Outcome}
use Rattle.walk_rules.specs.declared.place.Outcome.TheVariants as outcomes
use Rattle.walk_rules.specs.Treatment.{Gave, dropped, error_from, goes}
use Rattle.icmp6_errors.specs.Answer.{error_bytes}
use Rattle.policy_encap.specs.declared.policy_headers.TheConstants.{MAX_FRONT}
use Rattle.node_stage.specs.Fronted.{FrontedContent, front_after}
use Rattle.node_stage.specs.declared.stage_error.StageResult.{StageResult}
use Rattle.node_stage.specs.declared.stage_result.Staged.{Staged}
use Rattle.node_stage.specs.declared.stage_result.Staged.TheVariants.{Goes, Drops}

-- what a stage at a node of a network gives
abbrev pub gave_of : Network → ℕ → Staged → Gave
gave_of net node (Goes outcome after) = goes outcome after.content
gave_of net node (Drops reason detail content) = dropped net node reason detail content.content

-- as many are spare in front as are after a stage of what stood there before
abbrev pub FrontOf : Network → ℕ → FrontedContent → Staged → Type 0
FrontOf net node before (Goes outcome after) = after.front ≡ front_after net node before outcome
FrontOf net node before (Drops reason detail content) = content.front ≡ before.front

-- what a stage gives, and what is spare after it
abbrev pub StagesAll : Network → ℕ → FrontedContent → Staged → Gave → Type 0
StagesAll net node before staged gave = (gave_of net node staged ≡ gave) × FrontOf net node before staged

-- what is given where a node with an address drops what stands there
abbrev pub dropped_from : ℕ → Reason → ℕ → Content → Gave
dropped_from from reason detail content =
    let error = error_from from reason detail content in
    record { outcome = outcomes.Drop reason (is_some error); after = content; error = error }

-- what is stage_result is what is given, and the slot has the bytes of the error
abbrev pub Tells : StageResult → List ℕ → Gave → Type 0
Tells stage_result slot gave = (stage_result.outcome ≡ gave.outcome) × (stage_result.after.content ≡ gave.after) × (slot ≡ error_bytes gave.error)

-- a SID is there and binds a policy (RFC 8986 sections 4.13 and 4.14)
abbrev pub BindsPolicy : Option SidEntry → Type 0
BindsPolicy None = ⊥
BindsPolicy (Some s) = IsSome (behaviour_policy s.behaviour)

-- a packet goes on from a binding SID, whose header is put in front of it: what alone takes memory
abbrev pub PutsPolicy : Network → Outcome → Type 0
PutsPolicy net (outcomes.Again sid how) = BindsPolicy (slice_get net.sids sid)
PutsPolicy net (outcomes.Hand sid how family) = ⊥
PutsPolicy net (outcomes.Send link) = ⊥
PutsPolicy net outcomes.Local = ⊥
PutsPolicy net (outcomes.Drop reason error) = ⊥

-- what a stage gives, or, for want of memory, what stood there before, where a policy's header is put in front in less room than the
-- longest takes
abbrev pub Stages : Network → ℕ → FrontedContent → Result Staged FrontedContent → Gave → Type 0
Stages net node before (Ok staged) gave = StagesAll net node before staged gave
Stages net node before (Err kept) gave = (kept ≡ before) × (before.front < MAX_FRONT) × PutsPolicy net gave.outcome

-- what is stage_result, and what is spare then; or, for want of memory, what stood there before, with what the slot held, where a policy's
-- header is put in front in less room than the longest takes
abbrev pub TellsOrKeeps : Network → ℕ → FrontedContent → List ℕ → Result StageResult FrontedContent → List ℕ → Gave → Type 0
TellsOrKeeps net node before held (Ok stage_result) slot gave = Tells stage_result slot gave × (stage_result.after.front ≡ front_after net node before stage_result.outcome)
TellsOrKeeps net node before held (Err kept) slot gave =
    (kept ≡ before) × (before.front < MAX_FRONT) × (slot ≡ held) × PutsPolicy net gave.outcome

-- whether the header of a policy makes a packet that goes on too long, in the full or the reduced form; none where no packet goes on
abbrev pub IsBigAfter : Endpoint → Policy → Bool → Option Bool → Type 0
IsBigAfter e policy reduced None = (q : Packet) → e ≢ Onward q
IsBigAfter e policy reduced (Some true) =
    (q : Packet) × ((e ≡ Onward q) × ((n : ℕ) × (pushed_by policy reduced families.V6 (spelling q) ≡ TooBig n)))
IsBigAfter e policy reduced (Some false) =
    (q : Packet) × ((e ≡ Onward q) × ((outer : Packet) × (pushed_by policy reduced families.V6 (spelling q) ≡ Outer outer)))
