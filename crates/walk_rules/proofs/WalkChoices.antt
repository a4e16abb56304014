-- What a stage has in common at all choices.
use Rattle.std.proofs.Common.{◌≡◌, ◌≢◌, ℕ, ◌⊎◌, inl, inr, ◌↔◌, Bool, true, false, nat_le, ◌&&◌, if◌then◌else◌, List, [], Option, slice_get, refl, sym, ◌∙◌, ap, arith}
use Rattle.srv6_rules.specs.declared.reason.Reason.{Reason}
use Rattle.srv6_rules.specs.declared.reason.Reason.TheVariants as reasons
use Rattle.srv6_rules.specs.Packet.{Packet, Content, V6, V4, Unreadable}
use Rattle.srv6_rules.specs.Packet4.{Packet4, ttl, destination4}
use Rattle.srv6_rules.specs.Endpoint.{at_address}
use Rattle.net_model.specs.Network.{Network}
use Rattle.walk_rules.specs.declared.place.Place.{Place}
use Rattle.walk_rules.specs.declared.place.Outcome.{Outcome}
use Rattle.walk_rules.specs.declared.place.Outcome.TheVariants as outcomes
use Rattle.walk_rules.specs.Way.{Way, NoWay, Over, Own, Into, way_of}
use Rattle.walk_rules.specs.Treatment.{Gave, dropped, goes, member_of, lowered, ttl_lowered, treated_at_address, treated_in, treated, treated4, free_step_of}
use Rattle.walk_rules.specs.Relation.{GivesOutcome, Treats, Treats4, IsFreeStage}
use Rattle.walk_rules.specs.Walk.{takes_member, decisions}
use Rattle.walk_rules.specs.WalkLaws.{set_of, hops_at}
use Rattle.walk_rules.specs.WalkLawsTerms.{SendsApart}
use Rattle.walk_rules.proofs.Sending.{Agree, drops_agree, sends_by, sends4_by, sends_by_unique}

gives_agree : (set : List ℕ) (gave : Gave) (one : Outcome) (after : Content) (error : Option Packet) (other : Outcome)
    → (later : Content) (told : Option Packet) → GivesOutcome gave one after error → GivesOutcome gave other later told
    → Agree set one after error other later told
gives_agree set gave one after error other later told h g =
    record { same_after = h.1 ∙ sym g.1; same_error = h.2 ∙ sym g.2; apart = inl (h.0 ∙ sym g.0) }

module _ (net : Network) (node : ℕ) where
  treats_unique : (w : Way) (p : Packet) (one : Outcome) (after : Content) (error : Option Packet)
      → (other : Outcome) (later : Content) (told : Option Packet)
      → Treats net node w p one after error → Treats net node w p other later told
      → Agree (set_of w) one after error other later told
  treats_unique (NoWay reason) p one after error other later told h g =
      drops_agree net node [] reason 0 (V6 p) one after error other later told h g
  treats_unique (Over set lower) p one after error other later told h g =
      sends_by_unique net node set p.hop_limit reasons.HopLimit (V6 p) (V6 (lowered lower p)) lower one after error other later told
      ((sends_by net node set lower p one after error).0 h) ((sends_by net node set lower p other later told).0 g)
  treats_unique Own p one after error other later told h g =
      gives_agree [] (treated_at_address net node p (at_address p)) one after error other later told h g
  treats_unique (Into n) p one after error other later told h g =
      gives_agree [] (treated_in net node n (slice_get net.sids n) p) one after error other later told h g

  treats4_unique : (w : Way) (p : Packet4) (one : Outcome) (after : Content) (error : Option Packet)
      → (other : Outcome) (later : Content) (told : Option Packet)
      → Treats4 net node w p one after error → Treats4 net node w p other later told
      → Agree (set_of w) one after error other later told
  treats4_unique (NoWay reason) p one after error other later told h g =
      drops_agree net node [] reason 0 (V4 p) one after error other later told h g
  treats4_unique (Over set lower) p one after error other later told h g =
      sends_by_unique net node set (ttl p) reasons.Ttl (V4 p) (V4 (ttl_lowered lower p)) lower one after error other later told
      ((sends4_by net node set lower p one after error).0 h) ((sends4_by net node set lower p other later told).0 g)
  treats4_unique Own p one after error other later told h g =
      drops_agree net node [] reasons.NoRoute 0 (V4 p) one after error other later told h g
  treats4_unique (Into n) p one after error other later told h g =
      drops_agree net node [] reasons.NoRoute 0 (V4 p) one after error other later told h g

stage_agrees : (net : Network) (place : Place) (content : Content) (one : Outcome) (after : Content) (error : Option Packet)
    → (other : Outcome) (later : Content) (told : Option Packet)
    → IsFreeStage net place content one after error → IsFreeStage net place content other later told
    → Agree (hops_at net place content) one after error other later told
stage_agrees net place (Unreadable bytes reason) one after error other later told h g =
    drops_agree net place.node [] reason 0 (Unreadable bytes reason) one after error other later told h g
stage_agrees net place (V6 p) one after error other later told h g =
    treats_unique net place.node (way_of net place p.destination) p one after error other later told h g
stage_agrees net place (V4 p) one after error other later told h g =
    treats4_unique net place.node (way_of net place (destination4 p)) p one after error other later told h g

-- a stage has several outcomes only where a set of equal next hops has several members
pub free_unique : (net : Network) (place : Place) (content : Content) (one : Outcome) (after : Content) (error : Option Packet)
    → (other : Outcome) (later : Content) (told : Option Packet)
    → IsFreeStage net place content one after error → IsFreeStage net place content other later told
    → (after ≡ later) × (error ≡ told) × ((one ≡ other) ⊎ SendsApart (hops_at net place content) one other)
free_unique net place content one after error other later told h g =
    let a = stage_agrees net place content one after error other later told h g in (a.same_after, a.same_error, a.apart)

-- choices that name one member give one answer
treated_named : (net : Network) (node : ℕ) (w : Way) (p : Packet) (choice other : ℕ)
    → member_of (set_of w) choice ≡ member_of (set_of w) other → treated net node w p choice ≡ treated net node w p other
treated_named net node (NoWay reason) p choice other same = refl
treated_named net node (Over set lower) p choice other same =
    ap (λ m. if lower && nat_le p.hop_limit 1 then dropped net node reasons.HopLimit 0 (V6 p)
    else goes (outcomes.Send m) (V6 (lowered lower p))) same
treated_named net node Own p choice other same = refl
treated_named net node (Into n) p choice other same = refl

treated4_named : (net : Network) (node : ℕ) (w : Way) (p : Packet4) (choice other : ℕ)
    → member_of (set_of w) choice ≡ member_of (set_of w) other → treated4 net node w p choice ≡ treated4 net node w p other
treated4_named net node (NoWay reason) p choice other same = refl
treated4_named net node (Over set lower) p choice other same =
    ap (λ m. if lower && nat_le (ttl p) 1 then dropped net node reasons.Ttl 0 (V4 p)
    else goes (outcomes.Send m) (V4 (ttl_lowered lower p))) same
treated4_named net node Own p choice other same = refl
treated4_named net node (Into n) p choice other same = refl

pub free_named : (net : Network) (place : Place) (content : Content) (choice other : ℕ)
    → member_of (hops_at net place content) choice ≡ member_of (hops_at net place content) other
    → free_step_of net place content choice ≡ free_step_of net place content other
free_named net place (Unreadable bytes reason) choice other same = refl
free_named net place (V6 p) choice other same = treated_named net place.node (way_of net place p.destination) p choice other same
free_named net place (V4 p) choice other same = treated4_named net place.node (way_of net place (destination4 p)) p choice other same

-- a member that is taken is the one decision
member_taken : (reason : Reason) → takes_member reason ≡ true → reason ≡ reasons.MtuExceeded
member_taken reasons.Truncated e = cc
member_taken reasons.BadVersion e = cc
member_taken reasons.Multicast e = cc
member_taken reasons.NoRoute e = cc
member_taken reasons.HopLimit e = cc
member_taken reasons.BadChain e = cc
member_taken reasons.LateHopByHop e = cc
member_taken reasons.OptionDiscard e = cc
member_taken reasons.OptionUnknown e = cc
member_taken reasons.Fragment e = cc
member_taken reasons.BadSegments e = cc
member_taken reasons.HmacTlv e = cc
member_taken reasons.BadTlv e = cc
member_taken reasons.UnknownRouting e = cc
member_taken reasons.UpperLayer e = cc
member_taken reasons.Ttl e = cc
member_taken reasons.TooBig e = cc
member_taken reasons.InnerHop e = cc
member_taken reasons.MtuExceeded e = refl

-- how many decisions a drop takes, by whether it takes a member
abbrev taken_by : Bool → ℕ
taken_by b = if b then 1 else 0

one_taken : (b : Bool) → taken_by b ≡ 1 → b ≡ true
one_taken true e = refl
one_taken false e = absurd (omega (arith, e))

none_taken : (b : Bool) → b ≢ true → taken_by b ≡ 0
none_taken true e = absurd (e refl)
none_taken false e = refl

pub decisions_one : (outcome : Outcome)
    → (decisions outcome ≡ 1)
    ↔ (((link : ℕ) × (outcome ≡ outcomes.Send link)) ⊎ ((told : Bool) × (outcome ≡ outcomes.Drop reasons.MtuExceeded told)))
decisions_one outcome = (takes outcome, taken)
  where
    takes : (o : Outcome) → decisions o ≡ 1
        → ((link : ℕ) × (o ≡ outcomes.Send link)) ⊎ ((told : Bool) × (o ≡ outcomes.Drop reasons.MtuExceeded told))
    takes (outcomes.Send link) h = inl (link, refl)
    takes (outcomes.Again n how) h = absurd (omega (arith, h))
    takes (outcomes.Hand n how family) h = absurd (omega (arith, h))
    takes outcomes.Local h = absurd (omega (arith, h))
    takes (outcomes.Drop reason told) h =
        inr (told, ap (λ r. outcomes.Drop r told) (member_taken reason (one_taken (takes_member reason) h)))

    taken : ((link : ℕ) × (outcome ≡ outcomes.Send link)) ⊎ ((told : Bool) × (outcome ≡ outcomes.Drop reasons.MtuExceeded told))
        → decisions outcome ≡ 1
    taken (inl sent) = ap decisions sent.1
    taken (inr dropped) = ap decisions dropped.1

pub decisions_zero : (outcome : Outcome) → ((link : ℕ) → outcome ≢ outcomes.Send link)
    → ((told : Bool) → outcome ≢ outcomes.Drop reasons.MtuExceeded told) → decisions outcome ≡ 0
decisions_zero (outcomes.Send link) h g = absurd (h link refl)
decisions_zero (outcomes.Again n how) h g = refl
decisions_zero (outcomes.Hand n how family) h g = refl
decisions_zero outcomes.Local h g = refl
decisions_zero (outcomes.Drop reason told) h g =
    none_taken (takes_member reason) (λ e. g told (ap (λ r. outcomes.Drop r told) (member_taken reason e)))
