-- What a stage's outcome names, and the first choice that gives a line.
use Rattle.std.proofs.Common.{◌≡◌, ℕ, zero, suc, ◌+◌, ◌-◌, ◌<◌, Bool, false, cond, List, [], ◌∷◌, length, Option, Some, sym, ap, ◌∙◌, arith}
use Rattle.std.specs.Prelude.{slice_get}
use Rattle.std.specs.List.{find, range_with_len}
use Rattle.srv6_rules.specs.Packet.{Packet, Content}
use Rattle.net_model.specs.Network.{Network}
use Rattle.net_model.specs.NetworkKeeps.{Keeps}
use Rattle.walk_rules.specs.declared.place.Place.{Place}
use Rattle.walk_rules.specs.declared.place.Outcome.{Outcome}
use Rattle.walk_rules.specs.declared.place.Outcome.TheVariants as outcomes
use Rattle.walk_rules.specs.Relation.{IsPlace, IsStage}
use Rattle.walk_rules.specs.Treatment.{step_of}
use Rattle.walk_rules.proofs.PublicLaws.{hops_start, stage_member, step_again, step_hand}
use Rattle.trace_replay.specs.Numbered.{IsNumbered}

-- what an outcome names is there

within : {T : Type 0} (items : List T) (n : ℕ) (item : T) → slice_get items n ≡ Some item → n < length items
within [] n item h = cc
within (m ∷ ms) zero item h = omega arith
within (m ∷ ms) (suc n) item h = omega (arith, within ms n item h)

pub numbered : (net : Network) (place : Place) (content : Content) (outcome : Outcome) (after : Content) (error : Option Packet)
    → (choice : ℕ) → Keeps net → IsPlace net place → IsStage net place content outcome after error
    → (step_of net place content choice).outcome ≡ outcome → IsNumbered net outcome
numbered net place content (outcomes.Send link) after error choice keeps is stage e =
    let there = hops_start net place content link keeps is (stage_member net place content link after error stage) in
    within net.links link there.0 there.1
numbered net place content (outcomes.Again sid how) after error choice keeps is stage e =
    let x = step_again net place content choice sid how e in within net.sids sid x.sid x.is_there
numbered net place content (outcomes.Hand sid how family) after error choice keeps is stage e =
    let x = step_hand net place content choice sid how family e in within net.sids sid x.sid x.is_there
numbered net place content outcomes.Local after error choice keeps is stage e = tt
numbered net place content (outcomes.Drop reason told) after error choice keeps is stage e = tt

-- where the first number of a range does not pass, the rest decides
pub find_on : (p : ℕ → Bool) (a n : ℕ) (all : Option ℕ) → a < n → p a ≡ false → find p (range_with_len a (n - a)) ≡ all
    → find p (range_with_len (a + 1) (n - (a + 1))) ≡ all
find_on p a n all more fails h =
    let left : n - a ≡ suc (n - (a + 1)) = omega (arith, more) in
    ap (λ (t : Bool). cond t (Some a) (find p (range_with_len (a + 1) (n - (a + 1))))) (sym fails)
    ∙ ap (λ k. find p (range_with_len a k)) (sym left)
    ∙ h
