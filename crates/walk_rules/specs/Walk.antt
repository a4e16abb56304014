-- Walks: stages that follow one another, what they send, and how they end.
use Rattle.std.specs.Prelude.{ℕ, zero, suc, ◌+◌, ◌%◌, Bool, true, false, if◌then◌else◌, List, [], ◌∷◌, length, slice_index, slice_get, Option, Some, None}
use Rattle.srv6_rules.specs.declared.reason.Reason.{Reason}
use Rattle.srv6_rules.specs.declared.reason.Reason.TheVariants as reasons
use Rattle.srv6_rules.specs.Packet.{Content}
use Rattle.net_model.specs.declared.parts.Link.{Link}
use Rattle.net_model.specs.Network.{Network}
use Rattle.walk_rules.specs.declared.place.How.TheVariants.{Arrived}
use Rattle.walk_rules.specs.declared.place.Place.{Place}
use Rattle.walk_rules.specs.declared.place.Outcome.{Outcome}
use Rattle.walk_rules.specs.declared.place.Outcome.TheVariants as outcomes
use Rattle.walk_rules.specs.declared.place.Ended.{Ended}
use Rattle.walk_rules.specs.declared.place.Ended.TheVariants as ends
use Rattle.walk_rules.specs.Treatment.{Gave, free_step_of, step_of}

-- the node where a link ends
abbrev pub far_end : Option Link → Option ℕ
far_end None = None
far_end (Some l) = l.to

-- a packet that comes over a link has arrived, and is looked up in table 0
abbrev pub arrival : Option ℕ → Place → Option Place
arrival None place = None
arrival (Some node) place = Some (record { node = node; how = Arrived 0; family = place.family })

-- where the packet stands after an outcome, if the walk goes on
abbrev pub next_place : Network → Place → Outcome → Option Place
next_place net place (outcomes.Again sid how) = Some (record { node = place.node; how = how; family = place.family })
next_place net place (outcomes.Hand sid how family) = Some (record { node = place.node; how = how; family = family })
next_place net place (outcomes.Send link) = arrival (far_end (slice_get net.links link)) place
next_place net place outcomes.Local = None
next_place net place (outcomes.Drop reason error) = None

-- a drop for a reason takes a member of a set of equal next hops
abbrev pub takes_member : Reason → Bool
takes_member reasons.Truncated = false
takes_member reasons.BadVersion = false
takes_member reasons.Multicast = false
takes_member reasons.NoRoute = false
takes_member reasons.HopLimit = false
takes_member reasons.BadChain = false
takes_member reasons.LateHopByHop = false
takes_member reasons.OptionDiscard = false
takes_member reasons.OptionUnknown = false
takes_member reasons.Fragment = false
takes_member reasons.BadSegments = false
takes_member reasons.HmacTlv = false
takes_member reasons.BadTlv = false
takes_member reasons.UnknownRouting = false
takes_member reasons.UpperLayer = false
takes_member reasons.Ttl = false
takes_member reasons.TooBig = false
takes_member reasons.InnerHop = false
takes_member reasons.MtuExceeded = true

-- the decisions that an outcome takes: one where a member of a set of equal next hops is taken
abbrev pub decisions : Outcome → ℕ
decisions (outcomes.Again sid how) = 0
decisions (outcomes.Hand sid how family) = 0
decisions (outcomes.Send link) = 1
decisions outcomes.Local = 0
decisions (outcomes.Drop reason error) = if takes_member reason then 1 else 0

-- a stage of a walk: where the packet stood, what stood there, and what the stage gave
pub record Stage : Type 0 where
  pub place : Place
  pub before : Content
  pub gave : Gave

-- the stage at a place, under a choice
abbrev pub stage_of : Network → Place → Content → ℕ → Stage
stage_of net place content choice = record { place = place; before = content; gave = step_of net place content choice }

-- what a node does with what stands at a place under a choice, and where the packet stands after an outcome, if it goes on
abbrev pub Steps : Type 0
Steps = Place → Content → ℕ → Gave

abbrev pub Nexts : Type 0
Nexts = Place → Outcome → Option Place

-- at most so many stages from a place, if there is one, by what nodes do and where packets go, where pick gives the choice of each
-- decision, and `taken` decisions were taken before
unfoldable pub walk_by : Steps → Nexts → ℕ → Option Place → Content → (ℕ → ℕ) → ℕ → List Stage
walk_by step next zero place content pick taken = []
walk_by step next (suc more) None content pick taken = []
walk_by step next (suc more) (Some place) content pick taken =
    let gave = step place content (pick taken) in
    record { place = place; before = content; gave = gave }
    ∷ walk_by step next more (next place gave.outcome) gave.after pick (taken + decisions gave.outcome)

-- the stages in a network
abbrev pub walk_of : ℕ → Network → Option Place → Content → (ℕ → ℕ) → ℕ → List Stage
walk_of fuel net place content pick taken = walk_by (step_of net) (next_place net) fuel place content pick taken

-- the stages in a network where no link has an MTU
abbrev pub free_walk_of : ℕ → Network → Option Place → Content → (ℕ → ℕ) → ℕ → List Stage
free_walk_of fuel net place content pick taken = walk_by (free_step_of net) (next_place net) fuel place content pick taken

-- a list of choices, which begins anew at its end
abbrev pub choice_at : List ℕ → ℕ → ℕ
choice_at choices d = slice_index choices (d % length choices)

abbrev pub left_or_stages : ℕ → Option ℕ → Ended
left_or_stages link None = ends.Left link
left_or_stages link (Some node) = ends.Stages

-- how a walk ended whose last stage this was; a stage after which the packet could go on was the last one allowed
abbrev pub end_by : Network → Place → Outcome → Ended
end_by net place (outcomes.Again sid how) = ends.Stages
end_by net place (outcomes.Hand sid how family) = ends.Stages
end_by net place (outcomes.Send link) = left_or_stages link (far_end (slice_get net.links link))
end_by net place outcomes.Local = ends.Delivered place.node
end_by net place (outcomes.Drop reason error) = ends.Dropped place.node reason

abbrev pub end_of : Network → List Stage → Ended
end_of net [] = ends.Stages
end_of net (s ∷ []) = end_by net s.place s.gave.outcome
end_of net (s ∷ t ∷ more) = end_of net (t ∷ more)

-- where the packet stands after stages, if it goes on; what stands there; and the decisions taken by then
abbrev pub place_after : Network → Option Place → List Stage → Option Place
place_after net place [] = place
place_after net place (s ∷ more) = place_after net (next_place net s.place s.gave.outcome) more
