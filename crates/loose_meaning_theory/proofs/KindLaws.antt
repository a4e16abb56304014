-- The lemmas that crates above may cite: those that prove the laws of public functions, and the ways of packets on a leg, stage by stage.
use Rattle.std.proofs.Common.{◌≡◌, ℕ, ◌<◌, List, [], ◌∷◌, Option, Some, None}
use Rattle.srv6_rules.specs.Packet.{Packet}
use Rattle.net_model.specs.Network.{Network}
use Rattle.net_model.specs.NetworkRulesTerms.{IsNetwork}
use Rattle.net_model.proofs.PublicLaws.{keeps_from_network}
use Rattle.net_flatness.specs.Flat.{IsFlat}
use Rattle.intent_reader.specs.declared.intent.Intent.{Intent}
use Rattle.sid_list_theory.specs.ListPlaces.{ListPlace, Tunnel, next_of}
use Rattle.list_pack.specs.declared.types.Leg.{Leg}
use Rattle.intent_traces.specs.declared.trace_steps.TraceStep.{TraceStep}
use Rattle.leg_table.specs.OneLegLaws.{GoesOver, HandsOver, OnWay}
use Rattle.leg_table.specs.WalkTrace.{Handed}
use Rattle.leg_table.proofs.FlatNets.{flat_facts}
use Rattle.loose_spec.specs.LooseLegs.{finish_of, leg_of}
use Rattle.loose_legs_theory.specs.LooseStepsTerms.{AreSteps}
use Rattle.loose_meaning_theory.specs.LooseKind.{loose_kind}
use Rattle.loose_meaning_theory.specs.LongestWays.{Longest}
use Rattle.loose_meaning_theory.proofs.LooseKindOver.{finish_over_law, leg_over_law}
pub use Rattle.loose_meaning_theory.proofs.Agreeing.{hop_matter}
pub use Rattle.loose_meaning_theory.proofs.LooseKindChoosing.{some_longest_law}
pub use Rattle.loose_meaning_theory.proofs.LooseKindCourses.{Course, Passes, course}
pub use Rattle.loose_meaning_theory.proofs.Together.{loose_kind_laws}
pub use Rattle.loose_meaning_theory.proofs.LooseKindArrivals.{ComesAt, comes_at, course_over, from_place, over_place, to_sid, way_of_law}

pub loose_leg_over : (net : Network) (intent : Intent) (steps : List TraceStep) → IsNetwork net → IsFlat net → AreSteps net intent steps
    → (t : Tunnel) (x y : ListPlace) (position : ℕ) (via : Option ℕ) (next : ℕ) (leg : Leg) (hop : ℕ) (p : Packet) (pick : ℕ → ℕ)
    (taken : ℕ) (h : Handed)
    → leg_of net intent steps position via next ≡ Some leg → OnWay (loose_kind net intent steps) t x hop p next → next_of x ≡ Some y
    → HandsOver (loose_kind net intent steps) via p pick taken h
    → GoesOver (loose_kind net intent steps) (Longest net intent) t y via next leg hop p pick taken h
loose_leg_over net intent steps network flat are t =
    leg_over_law net (keeps_from_network net network) (flat_facts net network flat) intent steps are t

pub loose_finish_over : (net : Network) (intent : Intent) (steps : List TraceStep) → IsNetwork net → IsFlat net → AreSteps net intent steps
    → (t : Tunnel) → t.inner ≡ intent.inner → (x : ListPlace) (position : ℕ) (via : Option ℕ) (next lowered hop : ℕ) (p : Packet)
    (pick : ℕ → ℕ) (taken : ℕ) (h : Handed)
    → finish_of net intent steps position via next ≡ Some lowered → OnWay (loose_kind net intent steps) t x hop p next → next_of x ≡ None
    → HandsOver (loose_kind net intent steps) via p pick taken h
    → (h.sids ≡ next ∷ []) × (Longest net intent via p pick taken → 0 < hop → lowered < hop)
loose_finish_over net intent steps network flat are t family x position via next lowered hop p pick taken h =
    finish_over_law net (keeps_from_network net network) (flat_facts net network flat) intent steps are t x position via next lowered hop p pick
    taken h family
