-- Need not be believed: helps proofs and other laws.
-- Ways of a packet to the next SID that is executed, along the steps of an intent, whichever equal next hop is chosen.
use Rattle.std.specs.Prelude.{ℕ, ◌<◌, Bool, List, [], ◌∷◌, length, Option, Some, None, IsTrue}
use Rattle.srv6_rules.specs.Packet.{Content}
use Rattle.net_model.specs.Network.{Network}
use Rattle.walk_rules.specs.declared.place.Place.{Place}
use Rattle.walk_rules.specs.declared.place.Outcome.{Outcome}
use Rattle.walk_rules.specs.declared.place.Outcome.TheVariants as outcomes
use Rattle.walk_rules.specs.Treatment.{Gave, free_step_of as step_of}
use Rattle.walk_rules.specs.Walk as walks
use Rattle.walk_rules.specs.Walk.{free_walk_of as walk_of, next_place, choice_at}
use Rattle.intent_reader.specs.declared.intent.Step.{Step}
use Rattle.intent_reader.specs.declared.intent.Step.TheVariants.{Links, Function, Reach}
use Rattle.leg_table.specs.StepMatching.{has_link}

-- a link is crossed as a step has it, and then the rest holds; a loose step has no links of its own
abbrev pub Crosses : Step → ℕ → Type 0 → Type 0
Crosses (Links set) link Rest = IsTrue (has_link set link) × Rest
Crosses (Function sid) link Rest = ⊥
Crosses (Reach node) link Rest = ⊥

-- a stage of the way: a packet that is sent crosses a link of the first step, with Rest of the others; an execution ends
-- the way, where End has to hold; and the packet is not taken away before
abbrev pub Goes : Outcome → Step → Type 0 → Type 0 → Type 0
Goes (outcomes.Send link) t Rest End = Crosses t link Rest
Goes (outcomes.Again n how) t Rest End = End
Goes (outcomes.Hand n how family) t Rest End = End
Goes outcomes.Local t Rest End = ⊥
Goes (outcomes.Drop reason error) t Rest End = ⊥

-- the same where no step is left, so that no link is crossed any more
abbrev pub Ends : Outcome → Type 0 → Type 0
Ends (outcomes.Send link) End = ⊥
Ends (outcomes.Again n how) End = End
Ends (outcomes.Hand n how family) End = End
Ends outcomes.Local End = ⊥
Ends (outcomes.Drop reason error) End = ⊥

-- the stages of a walk cross links along the first steps, up to an execution that a test of the steps left and of the
-- stage accepts
abbrev pub Transits : (List Step → walks.Stage → Bool) → List Step → List walks.Stage → Type 0
Transits end ts [] = ⊥
Transits end [] (s ∷ ss) = Ends s.gave.outcome (IsTrue (end [] s))
Transits end (t ∷ ts) (s ∷ ss) = Goes s.gave.outcome t (Transits end ts ss) (IsTrue (end (t ∷ ts) s))

-- for every list of choices some finite part of the walk transits so
abbrev pub ForAllChoices : Network → (List Step → walks.Stage → Bool) → List Step → Place → Content → Type 0
ForAllChoices net end ts place content =
    (choices : List ℕ) → 0 < length choices → (fuel : ℕ) × Transits end ts (walk_of fuel net (Some place) content (choice_at choices) 0)

-- at a place, which has to be there
abbrev pub AtPlace : Option Place → (Place → Type 0) → Type 0
AtPlace None P = ⊥
AtPlace (Some place) P = P place

abbrev pub seen_at : Place → Content → Gave → walks.Stage
seen_at place content gave = record { place = place; before = content; gave = gave }

-- the same stage by stage: whatever is chosen at each
abbrev pub EveryWay : Network → (List Step → walks.Stage → Bool) → List Step → Place → Content → Type 0
EveryWay net end [] place content =
    (choice : ℕ) → let gave = step_of net place content choice in Ends gave.outcome (IsTrue (end [] (seen_at place content gave)))
EveryWay net end (t ∷ ts) place content =
    (choice : ℕ) → let gave = step_of net place content choice in
    Goes gave.outcome t (AtPlace (next_place net place gave.outcome) (λ next. EveryWay net end ts next gave.after))
    (IsTrue (end (t ∷ ts) (seen_at place content gave)))
