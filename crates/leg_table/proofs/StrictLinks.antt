-- Sets of links: the links of a step, and where they end.
use Rattle.std.proofs.Common.{◌≡◌, ℕ, zero, suc, ◌%◌, ◌<◌, Bool, true, false, ◌==◌, ◌&&◌, ◌||◌, if◌then◌else◌, List, [], ◌∷◌, length, Option, Some, None, slice_get, slice_index, refl, ap, subst, arith, mod-eq_of_lt, mod-lt, eqb-true}
use Rattle.std.specs.Prelude.{is_some}
use Rattle.std.specs.List.{list_all}
use Rattle.std.specs.Option.{option_and_then}
use Rattle.std.proofs.lemmas.Bool.{and_parts, and_from, false≢true}
use Rattle.net_model.specs.declared.parts.Link.{Link}
use Rattle.net_model.specs.Network.{Network}
use Rattle.net_model.specs.NetworkKeeps.{IsLinkSet}
use Rattle.net_model.specs.NetworkRules.{is_link_set}
use Rattle.net_model.proofs.PublicLaws.{link_set_from}
use Rattle.walk_rules.specs.Treatment.{member_of}
use Rattle.walk_rules.specs.Walk.{far_end}
use Rattle.intent_reader.specs.IntentRules.{end_of_link, ends_at, is_at, far_node, first_end, stand_after, node_after}
use Rattle.intent_reader.specs.declared.intent.Step.{Step}
use Rattle.intent_reader.specs.declared.intent.Step.TheVariants.{Links}
use Rattle.leg_table.specs.StepMatching.{has_link}

-- tests over a list of numbers, by index
pub list_all_index : (p : ℕ → Bool) (xs : List ℕ) (i : ℕ) → list_all p xs ≡ true → i < length xs → p (slice_index xs i) ≡ true
list_all_index p [] i all h = absurd (omega arith)
list_all_index p (x ∷ xs) zero all h = (and_parts (p x) (list_all p xs) all).0
list_all_index p (x ∷ xs) (suc i) all h = list_all_index p xs i (and_parts (p x) (list_all p xs) all).1 (omega arith)

pub list_all_from_index : (p : ℕ → Bool) (xs : List ℕ) → ((i : ℕ) → i < length xs → p (slice_index xs i) ≡ true) → list_all p xs ≡ true
list_all_from_index p [] each = refl
list_all_from_index p (x ∷ xs) each =
    and_from (p x) (list_all p xs) (each 0 (omega arith)) (list_all_from_index p xs (λ i h. each (suc i) (omega arith)))

-- each member is chosen by some choice
pub all_members : (p : ℕ → Bool) (set : List ℕ) → ((choice : ℕ) → p (member_of set choice) ≡ true) → list_all p set ≡ true
all_members p set each = list_all_from_index p set (λ i h. rw mod-eq_of_lt at (each i))

pub member_of_all : (p : ℕ → Bool) (set : List ℕ) → 0 < length set → list_all p set ≡ true → (choice : ℕ) → p (member_of set choice) ≡ true
member_of_all p set some all choice = list_all_index p set (choice % length set) all (mod-lt choice some)

pub far_end_is : (o : Option Link) → far_end o ≡ end_of_link o
far_end_is None = refl
far_end_is (Some l) = refl

pub is_at_is : (to : ℕ) (o : Option ℕ) → is_at to o ≡ true → o ≡ Some to
is_at_is to None h = absurd (false≢true h)
is_at_is to (Some n) h = ap Some (eqb-true n to h)

-- a link of a step ends where all links of the step do
pub link_ends : (net : Network) (to : ℕ) (step : List ℕ) (link : ℕ) → list_all (ends_at net to) step ≡ true → has_link step link ≡ true
    → end_of_link (slice_get net.links link) ≡ Some to
link_ends net to [] link all here = absurd (false≢true here)
link_ends net to (k ∷ ks) link all here =
    by_first (λ h. link_ends net to ks link (and_parts (ends_at net to k) (list_all (ends_at net to) ks) all).1 h) (k == link) refl here
  where
    parts : (ends_at net to k ≡ true) × (list_all (ends_at net to) ks ≡ true)
    parts = and_parts (ends_at net to k) (list_all (ends_at net to) ks) all

    by_first : (has_link ks link ≡ true → end_of_link (slice_get net.links link) ≡ Some to) → (t : Bool) → (k == link) ≡ t
        → (t || has_link ks link) ≡ true → end_of_link (slice_get net.links link) ≡ Some to
    by_first later true e h =
        subst (λ (n : ℕ). end_of_link (slice_get net.links n) ≡ Some to) (eqb-true k link e)
        (is_at_is to (end_of_link (slice_get net.links k)) parts.0)
    by_first later false e h = later h

-- the end of the first member of a set that lies in a step
pub first_end_is : (net : Network) (to : ℕ) (step set : List ℕ) → list_all (ends_at net to) step ≡ true
    → list_all (has_link step) set ≡ true → 0 < length set
    → first_end net set ≡ Some to
first_end_is net to step [] ends all some = absurd (omega arith)
first_end_is net to step (link ∷ links) ends all some =
    link_ends net to step link ends (and_parts (has_link step link) (list_all (has_link step) links) all).0

-- a strict step of links, from the node where it starts: all its links end at one node, where the next step starts
pub step_opens : (net : Network) (node : ℕ) (step : List ℕ) (ts : List Step) → is_some (stand_after net node (Links step ∷ ts)) ≡ true
    → (to : ℕ) × (list_all (ends_at net to) step ≡ true) × (is_some (stand_after net to ts) ≡ true)
    × (node_after net node (Links step) ≡ Some to)
step_opens net node step ts h = by_end (first_end net step) h
  where
    by_end : (o : Option ℕ) → is_some (option_and_then (λ next. stand_after net next ts) (far_node net node step o)) ≡ true
        → (to : ℕ) × (list_all (ends_at net to) step ≡ true) × (is_some (stand_after net to ts) ≡ true)
        × (far_node net node step o ≡ Some to)
    by_end None h = absurd (false≢true h)
    by_end (Some to) h = by_test (is_link_set net.links node step) (list_all (ends_at net to) step) refl h
      where
        by_test : (s t : Bool) → list_all (ends_at net to) step ≡ t
            → is_some (option_and_then (λ next. stand_after net next ts) (if s && t then Some to else None)) ≡ true
            → (at : ℕ) × (list_all (ends_at net at) step ≡ true) × (is_some (stand_after net at ts) ≡ true)
            × ((if s && t then Some to else None) ≡ Some at)
        by_test true true e h = (to, e, h, refl)
        by_test true false e h = absurd (false≢true h)
        by_test false t e h = absurd (false≢true h)

-- the links of a step that starts at a node are a set of its links
pub step_links : (net : Network) (node : ℕ) (step : Step) (set : List ℕ) → is_some (node_after net node step) ≡ true → step ≡ Links set
    → IsLinkSet net.links node set
step_links net node step set h e = by_end (first_end net set) (subst (λ (s : Step). is_some (node_after net node s) ≡ true) e h)
  where
    by_end : (o : Option ℕ) → is_some (far_node net node set o) ≡ true → IsLinkSet net.links node set
    by_end None h = absurd (false≢true h)
    by_end (Some to) h = by_test (is_link_set net.links node set) (list_all (ends_at net to) set) refl h
      where
        by_test : (s t : Bool) → is_link_set net.links node set ≡ s → is_some (if s && t then Some to else None) ≡ true
            → IsLinkSet net.links node set
        by_test true t e h = link_set_from net.links node set e
        by_test false t e h = absurd (false≢true h)
