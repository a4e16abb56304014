-- Places go on to places, and what a stage gives at a place is one of its outcomes.
use Rattle.std.proofs.Common.{◌≡◌, ℕ, ◌<◌, Bool, true, false, List, [], length, Option, Some, None, slice_get, Contains, refl, sym, subst, arith}
use Rattle.std.specs.Prelude.{MatchBool}
use Rattle.srv6_rules.specs.Behaviours.{behaviour_takes_links, behaviour_table}
use Rattle.srv6_rules.specs.declared.sid.SidEntry.{SidEntry}
use Rattle.srv6_rules.specs.Packet.{Content, V6, V4, Unreadable}
use Rattle.srv6_rules.specs.Packet4.{destination4}
use Rattle.net_model.specs.declared.parts.Link.{Link}
use Rattle.net_model.specs.Network.{Network}
use Rattle.net_model.specs.NetworkKeeps.{Keeps, StartsAt, IsLinkSet, EndsElsewhere}
use Rattle.walk_rules.specs.declared.place.How.{How}
use Rattle.walk_rules.specs.declared.place.How.TheVariants.{Arrived}
use Rattle.walk_rules.specs.declared.place.Place.{Place}
use Rattle.walk_rules.specs.declared.place.Outcome.{Outcome}
use Rattle.walk_rules.specs.declared.place.Outcome.TheVariants as outcomes
use Rattle.walk_rules.specs.Way.{Way, NoWay, Over, Own, Into, way_of}
use Rattle.walk_rules.specs.WayTerms.{IsWayFrom}
use Rattle.walk_rules.specs.Treatment.{Gave, way_on, onward_from, exposed_from, free_step_of, step_of}
use Rattle.walk_rules.specs.Walk.{far_end, arrival, next_place}
use Rattle.walk_rules.specs.WalkLaws.{set_of, hops_at}
use Rattle.walk_rules.specs.WalkLawsTerms.{Executes}
use Rattle.walk_rules.specs.Relation.{IsFreeStage, IsStage, IsThrough, IsHow, IsPlace}
use Rattle.walk_rules.proofs.Judged.{step_again, step_hand, step_is}
use Rattle.walk_rules.proofs.Routing.{way_from}
use Rattle.walk_rules.proofs.WalkStages.{HasLinks, treated_treats, treated4_treats}

has_links : (net : Network) (node : ℕ) (w : Way) → IsWayFrom net node w → HasLinks w
has_links net node (NoWay reason) from = tt
has_links net node (Over set lower) from = from.some
has_links net node Own from = tt
has_links net node (Into n) from = tt

-- the equal next hops of a stage start at its node
set_starts : (net : Network) (node : ℕ) (w : Way) → IsWayFrom net node w → (n : ℕ) → Contains (set_of w) n → StartsAt net.links node n
set_starts net node (NoWay reason) from n there = absurd (omega (arith, there.1))
set_starts net node (Over set lower) from n there = from.each n there
set_starts net node Own from n there = absurd (omega (arith, there.1))
set_starts net node (Into m) from n there = absurd (omega (arith, there.1))

pub hops_start : (net : Network) (place : Place) (content : Content) (n : ℕ) → Keeps net → IsPlace net place
    → Contains (hops_at net place content) n → StartsAt net.links place.node n
hops_start net place (Unreadable bytes reason) n keeps is there = absurd (omega (arith, there.1))
hops_start net place (V6 p) n keeps is there =
    set_starts net place.node (way_of net place p.destination) (way_from net place p.destination keeps is.1) n there
hops_start net place (V4 p) n keeps is there =
    set_starts net place.node (way_of net place (destination4 p)) (way_from net place (destination4 p) keeps is.1) n there

-- at a place the function gives an outcome of the relation
free_step : (net : Network) (place : Place) (content : Content) (choice : ℕ) → Keeps net → IsPlace net place
    → let gave = free_step_of net place content choice in IsFreeStage net place content gave.outcome gave.after gave.error
free_step net place (Unreadable bytes reason) choice keeps is = (refl, refl, refl)
free_step net place (V6 p) choice keeps is =
    let w = way_of net place p.destination in
    treated_treats net place.node w p choice (has_links net place.node w (way_from net place p.destination keeps is.1))
free_step net place (V4 p) choice keeps is =
    let w = way_of net place (destination4 p) in
    treated4_treats net place.node w p choice (has_links net place.node w (way_from net place (destination4 p) keeps is.1))

pub stage_step : (net : Network) (place : Place) (content : Content) (choice : ℕ) → Keeps net → IsPlace net place
    → let gave = step_of net place content choice in IsStage net place content gave.outcome gave.after gave.error
stage_step net place content choice keeps is = step_is net place content choice (free_step net place content choice keeps is)

-- a SID that takes links has some
links_some : (links : List Link) (node : ℕ) (takes : Bool) (set : List ℕ) → takes ≡ true
    → MatchBool takes (IsLinkSet links node set) (set ≡ []) → 0 < length set
links_some links node true set e suits = suits.some
links_some links node false set e suits = cc

way_on_how : (net : Network) (node n : ℕ) (takes goes_on : Bool) (table : Option ℕ)
    → (takes ≡ true → IsThrough node (slice_get net.sids n)) → IsHow net node (way_on n takes goes_on table)
way_on_how net node n true goes_on table through = through refl
way_on_how net node n false true table through = tt
way_on_how net node n false false table through = tt

-- how a packet, or what was exposed, goes on from a SID that is there and stands at the node
way_from_how : (net : Network) (node n : ℕ) (s : SidEntry) (goes_on : Bool) → Keeps net → slice_get net.sids n ≡ Some s
    → s.node ≡ node → IsHow net node (way_on n (behaviour_takes_links s.behaviour) goes_on (behaviour_table s.behaviour))
way_from_how net node n s goes_on keeps there stands =
    way_on_how net node n (behaviour_takes_links s.behaviour) goes_on (behaviour_table s.behaviour) (λ takes.
    rw there (
      stands,
      links_some net.links s.node (behaviour_takes_links s.behaviour) s.links takes (keeps.sid n s there).behaviour.links,
    ))

pub sid_how : (net : Network) (n : ℕ) (s : SidEntry) → Keeps net → slice_get net.sids n ≡ Some s
    → IsHow net s.node (onward_from n s.behaviour)
sid_how net n s keeps there = way_from_how net s.node n s true keeps there refl

pub exposed_how : (net : Network) (n : ℕ) (s : SidEntry) → Keeps net → slice_get net.sids n ≡ Some s
    → IsHow net s.node (exposed_from n s.behaviour)
exposed_how net n s keeps there = way_from_how net s.node n s false keeps there refl

executes_how : (net : Network) (place : Place) (content : Content) (gave : Gave) (n : ℕ) (how : How) (goes_on : Bool) → Keeps net
    → Executes (λ m b. way_on m (behaviour_takes_links b) goes_on (behaviour_table b)) net place content gave n how
    → IsHow net place.node how
executes_how net place content gave n how goes_on keeps x =
    subst (λ (h : How). IsHow net place.node h) (sym x.goes_on)
    (way_from_how net place.node n x.sid goes_on keeps x.is_there x.stands)

same_place : (net : Network) (place next : Place) → Some place ≡ Some next → IsPlace net place → IsPlace net next
same_place net place next e is =
    let same : place ≡ next = cc in
    subst (λ (q : Place). IsPlace net q) same is

ends_there : (from node_count : ℕ) (to : Option ℕ) (node : ℕ) → to ≡ Some node → EndsElsewhere node_count from to → node < node_count
ends_there from node_count None node e ends = cc
ends_there from node_count (Some n) node e ends =
    let same : n ≡ node = cc in
    omega (arith, ends.0, same)

end_place : (net : Network) (place next : Place) (link : ℕ) (l : Link) (to : Option ℕ) → Keeps net → slice_get net.links link ≡ Some l
    → l.to ≡ to → arrival to place ≡ Some next → IsPlace net next
end_place net place next link l None keeps there ends e = cc
end_place net place next link l (Some node) keeps there ends e =
    same_place net (record { node = node; how = Arrived 0; family = place.family }) next e
    (ends_there l.from (length net.nodes) l.to node ends (keeps.link link l there).to, tt)

link_place : (net : Network) (place next : Place) (link : ℕ) (o : Option Link) → Keeps net → slice_get net.links link ≡ o
    → arrival (far_end o) place ≡ Some next → IsPlace net next
link_place net place next link None keeps there e = cc
link_place net place next link (Some l) keeps there e = end_place net place next link l l.to keeps there refl e

outcome_place : (net : Network) (place : Place) (content : Content) (choice : ℕ) (next : Place) (outcome : Outcome) → Keeps net
    → IsPlace net place → (step_of net place content choice).outcome ≡ outcome → next_place net place outcome ≡ Some next
    → IsPlace net next
outcome_place net place content choice next (outcomes.Again n how) keeps is o e =
    same_place net (record { node = place.node; how = how; family = place.family }) next e (
      is.0,
      executes_how net place content (step_of net place content choice) n how true keeps
          (step_again net place content choice n how o),
    )
outcome_place net place content choice next (outcomes.Hand n how family) keeps is o e =
    let gave = step_of net place content choice in
    same_place net (record { node = place.node; how = how; family = family }) next e
    (is.0, executes_how net place content gave n how false keeps (step_hand net place content choice n how family o))
outcome_place net place content choice next (outcomes.Send link) keeps is o e =
    link_place net place next link (slice_get net.links link) keeps refl e
outcome_place net place content choice next outcomes.Local keeps is o e = cc
outcome_place net place content choice next (outcomes.Drop reason error) keeps is o e = cc

-- a place goes on to places
pub step_place : (net : Network) (place : Place) (content : Content) (choice : ℕ) (next : Place) → Keeps net → IsPlace net place
    → next_place net place (step_of net place content choice).outcome ≡ Some next → IsPlace net next
step_place net place content choice next keeps is e =
    outcome_place net place content choice next (step_of net place content choice).outcome keeps is refl e
