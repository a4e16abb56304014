-- What the machine does in a stage of a pushed header's walk, by what the code finds.
use Rattle.std.proofs.Common.{◌≡◌, ℕ, ◌<◌, Bool, true, false, ◌&&◌, nat_le, if◌then◌else◌, List, [], ◌∷◌, ◌++◌, length, drop, reverse, slice_get, Option, Some, None, refl, sym, ap, ◌∙◌, arith}
use Rattle.std.specs.Option.{option_map, option_and_then}
use Rattle.srv6_rules.specs.declared.sid.Behaviour.{Behaviour}
use Rattle.srv6_rules.specs.declared.sid.SidEntry.{SidEntry}
use Rattle.srv6_rules.specs.Behaviours.{behaviour_policy, behaviour_reduces}
use Rattle.srv6_rules.specs.Policies.{outer_by}
use Rattle.srv6_rules.specs.declared.family.Family.TheVariants as families
use Rattle.std.proofs.lemmas.List.{reverse-append}
use Rattle.srv6_rules.specs.Packet.{Packet}
use Rattle.srv6_rules.specs.Endpoint.{Endpoint, Onward, Exposed, Delivered, Refused, at_sid}
use Rattle.net_model.specs.declared.parts.NamedPolicy.{NamedPolicy}
use Rattle.net_model.specs.Network.{Network}
use Rattle.walk_rules.specs.declared.place.Place.{Place}
use Rattle.walk_rules.specs.Treatment.{allow_of, lowered, onward_from, exposed_from}
use Rattle.walk_rules.specs.Walk.{arrival}
use Rattle.walk_rules.specs.Way.{Over, Into}
use Rattle.intent_reader.specs.IntentRules.{end_of_link, first_end}
use Rattle.intent_reader.specs.declared.intent.Step.{Step}
use Rattle.leg_table.specs.Transits.{all_in_step}
use Rattle.leg_table.specs.WalkTrace.{executed}
use Rattle.leg_table.proofs.StrictLinks.{far_end_is}
use Rattle.binding_spec.specs.Machines.{Go, End, left_by, end_after, end_with, end_over, end_by}
use Rattle.binding_spec.specs.TunnelPackets.{Inside, inside_at, inside_by, inside_off, arrives}
use Rattle.tunnel_network_theory.proofs.PublicLaws.{all_same}
use Rattle.binding_spec.specs.NetworkWorld.{at_how, leads, look_links, look_bound, look_onward, look_at_sid, look_in, step_events}
use Rattle.policy_walks.specs.declared.header_stage.Headers.{Headers}
use Rattle.policy_walks.specs.HeaderWalks.{Walking, inside_of, place_over, way_move, world_of}

-- no SID is noted
end_none : (o : Option (End Step ℕ Place)) → option_map (end_after []) o ≡ o
end_none None = refl
end_none (Some e) = refl

module _ (net : Network) (go : Walking) where
  -- ---- over links

  links_end : (place : Place) (above : List Packet) (q : Packet) (first : ℕ) (rest : List ℕ) (ts : List Step)
      → end_over step_events go first rest (arrives (leads net place) (inside_at q above)) ts
      ≡ option_and_then (λ p. go (drop 1 ts) (inside_at q above p)) (place_over net place (first ∷ rest) ts)
  links_end place above q first rest [] = refl
  links_end place above q first rest (t ∷ ts) =
      ap (λ (b : Bool). if b then option_and_then (go ts) (arrives (leads net place) (inside_at q above) first) else None)
      (all_same t first rest)
      ∙ by_test (all_in_step t (first ∷ rest))
    where
      by_end : (o : Option ℕ)
          → option_and_then (go ts) (option_map (inside_at q above) (arrival o place))
          ≡ option_and_then (λ p. go ts (inside_at q above p)) (arrival o place)
      by_end None = refl
      by_end (Some to) = refl

      by_test : (b : Bool)
          → (if b then option_and_then (go ts) (arrives (leads net place) (inside_at q above) first) else None)
          ≡ option_and_then (λ p. go ts (inside_at q above p)) (if b then arrival (first_end net (first ∷ rest)) place else None)
      by_test false = refl
      by_test true =
          ap (λ o. option_and_then (go ts) (option_map (inside_at q above) (arrival o place))) (far_end_is (slice_get net.links first))
          ∙ by_end (end_of_link (slice_get net.links first))

  over_end : (h : Headers) (set : List ℕ) (lower : Bool) (ts : List Step) → 0 < length set
      → end_by step_events go (way_move net h (Over set lower)) ts
      ≡ (if lower && nat_le h.top.hop_limit 1 then None
      else option_and_then (λ p. go (drop 1 ts) (inside_at (lowered lower h.top) (reverse h.below.items) p))
      (place_over net h.place set ts))
  over_end h [] lower ts some = absurd (omega arith)
  over_end h (first ∷ rest) lower ts some = by_low (lower && nat_le h.top.hop_limit 1)
    where
      by_low : (b : Bool)
          → end_by step_events go (inside_by (world_of net) (reverse h.below.items)
          (if b then Rattle.binding_spec.specs.TunnelPackets.Loses else look_links net h.place (first ∷ rest) (lowered lower h.top))) ts
          ≡ (if b then None
          else option_and_then (λ p. go (drop 1 ts) (inside_at (lowered lower h.top) (reverse h.below.items) p))
          (place_over net h.place (first ∷ rest) ts))
      by_low true = refl
      by_low false = links_end h.place (reverse h.below.items) (lowered lower h.top) first rest ts

  pub over_some : (h : Headers) (set : List ℕ) (lower : Bool) (ts : List Step) (place : Place) → 0 < length set
      → (lower && nat_le h.top.hop_limit 1) ≡ false → place_over net h.place set ts ≡ Some place
      → end_by step_events go (way_move net h (Over set lower)) ts
      ≡ go (drop 1 ts) (inside_at (lowered lower h.top) (reverse h.below.items) place)
  over_some h set lower ts place some high found =
      over_end h set lower ts some
      ∙ ap (λ (b : Bool). if b then None
      else option_and_then (λ p. go (drop 1 ts) (inside_at (lowered lower h.top) (reverse h.below.items) p))
      (place_over net h.place set ts)) high
      ∙ ap (option_and_then (λ p. go (drop 1 ts) (inside_at (lowered lower h.top) (reverse h.below.items) p))) found

  -- ---- into a SID

  -- the machine goes on with the events of the SID's execution
  pub go_end : (sid : ℕ) (i : Inside Place Packet) (ts us : List Step) → left_by step_events ts (executed net sid) ≡ Some us
      → end_by step_events go (Go (executed net sid) [] i) ts ≡ go us i
  go_end sid i ts us left =
      end_none (option_and_then (λ vs. go vs i) (left_by step_events ts (executed net sid))) ∙ ap (option_and_then (λ vs. go vs i)) left

  -- where the SID's function is not the step
  missed_by : (sid : ℕ) (ts : List Step) → left_by step_events ts (executed net sid) ≡ None → (i : Inside Place Packet)
      → end_by step_events go (Go (executed net sid) [] i) ts ≡ None
  missed_by sid ts left i = ap (λ o. option_map (end_after []) (option_and_then (λ us. go us i) o)) left

  module _ (place : Place) (above : List Packet) (n : ℕ) (b : Behaviour) (ts : List Step)
      (left : left_by step_events ts (executed net n) ≡ None) where
    missed_bound : (q : Packet) (o : Option NamedPolicy)
        → end_by step_events go (inside_by (world_of net) above (look_bound net place n b q o)) ts ≡ None
    missed_bound q None = refl
    missed_bound q (Some named) = missed_by n ts left _

    missed_onward : (q : Packet) (o : Option ℕ)
        → end_by step_events go (inside_by (world_of net) above (look_onward net place n b q o)) ts ≡ None
    missed_onward q None = missed_by n ts left _
    missed_onward q (Some number) = missed_bound q (slice_get net.policies number)

    missed_off : (there : Place) (more : List Packet)
        → end_by step_events go (inside_off ℕ (executed net n) there more) ts ≡ None
    missed_off there [] = ap (option_map (end_with [] there)) left
    missed_off there (a ∷ more) = missed_by n ts left _

    missed_at : (e : Endpoint) → end_by step_events go (inside_by (world_of net) above (look_at_sid net place n b e)) ts ≡ None
    missed_at (Onward q) = missed_onward q (behaviour_policy b)
    missed_at (Exposed family bytes) = missed_off (record { node = place.node; how = exposed_from n b; family = family }) above
    missed_at (Delivered q) = refl
    missed_at (Refused reason at) = refl

  missed_in : (h : Headers) (n : ℕ) (ts : List Step) → left_by step_events ts (executed net n) ≡ None → (o : Option SidEntry)
      → end_by step_events go (inside_by (world_of net) (reverse h.below.items) (look_in net h.place n o h.top)) ts ≡ None
  missed_in h n ts left None = refl
  missed_in h n ts left (Some s) =
      missed_at h.place (reverse h.below.items) n s.behaviour ts left (at_sid s (allow_of (slice_get net.nodes h.place.node)) h.top)

  pub into_missed : (h : Headers) (n : ℕ) (ts : List Step) → left_by step_events ts (executed net n) ≡ None
      → end_by step_events go (way_move net h (Into n)) ts ≡ None
  into_missed h n ts left = missed_in h n ts left (slice_get net.sids n)

  -- what the SID does with the header on top
  module _ (h : Headers) (n : ℕ) (s : SidEntry) (there : slice_get net.sids n ≡ Some s) (allow : List ℕ)
      (is : allow ≡ allow_of (slice_get net.nodes h.place.node)) (ts : List Step) where
    abbrev above : List Packet
    above = reverse h.below.items

    into_is : (e : Endpoint) → at_sid s allow h.top ≡ e
        → end_by step_events go (way_move net h (Into n)) ts
        ≡ end_by step_events go (inside_by (world_of net) above (look_at_sid net h.place n s.behaviour e)) ts
    into_is e came =
        ap (λ o. end_by step_events go (inside_by (world_of net) above (look_in net h.place n o h.top)) ts) there
        ∙ ap (λ (a : List ℕ). end_by step_events go
        (inside_by (world_of net) above (look_at_sid net h.place n s.behaviour (at_sid s a h.top))) ts) (sym is)
        ∙ ap (λ x. end_by step_events go (inside_by (world_of net) above (look_at_sid net h.place n s.behaviour x)) ts) came

    pub into_onward : (q : Packet) (next : Headers) (us : List Step) → at_sid s allow h.top ≡ Onward q
        → left_by step_events ts (executed net n) ≡ Some us
        → inside_by (world_of net) above (look_onward net h.place n s.behaviour q (behaviour_policy s.behaviour))
        ≡ Go (executed net n) [] (inside_of next)
        → end_by step_events go (way_move net h (Into n)) ts ≡ go us (inside_of next)
    into_onward q next us came left goes =
        into_is (Onward q) came ∙ ap (λ m. end_by step_events go m ts) goes ∙ go_end n (inside_of next) ts us left

-- behind a binding SID, with the policy's header in front
pub bound_go : (net : Network) (from place : Place) (n : ℕ) (b : Behaviour) (q top : Packet) (below more : List Packet) (number : ℕ)
    → (named : NamedPolicy) → behaviour_policy b ≡ Some number → slice_get net.policies number ≡ Some named
    → at_how from (onward_from n b) ≡ place → top ≡ outer_by named.policy (behaviour_reduces b) families.V6 [] → more ≡ below ++ q ∷ []
    → inside_by (world_of net) (reverse below) (look_onward net from n b q (behaviour_policy b))
    ≡ Go (executed net n) [] (inside_at top (reverse more) place)
bound_go net from place n b q top below more number named binds there at is all =
    ap (λ o. inside_by (world_of net) (reverse below) (look_onward net from n b q o)) binds
    ∙ ap (λ o. inside_by (world_of net) (reverse below) (look_bound net from n b q o)) there
    ∙ ap (λ (p : Place). Go (executed net n) []
    (inside_at (outer_by named.policy (behaviour_reduces b) families.V6 []) (q ∷ reverse below) p)) at
    ∙ ap (λ (h : Packet). Go (executed net n) [] (inside_at h (q ∷ reverse below) place)) (sym is)
    ∙ ap (λ l. Go (executed net n) [] (inside_at top l place)) (sym (ap reverse all ∙ reverse-append below (q ∷ [])))
