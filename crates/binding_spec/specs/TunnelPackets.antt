-- Packets under pushed headers: what nodes do with the header on top, and walks that count how deep they are.
use Rattle.std.specs.Prelude.{ℕ, ◌-◌, List, [], ◌∷◌, Option}
use Rattle.std.specs.Option.{option_map}
use Rattle.binding_spec.specs.Machines.{Events, Move, Fork, Go, Done, Fail, End, end_of}

-- what a node does at a place with the packet on top, whatever is below it: it sends it over a link of a set, which is not empty, to where
-- that link leads, and how it is then; it executes a SID on it, and the packet stays at a place; so too, and then a header is pushed on it,
-- the first of the two here; it executes a SID that takes the header off and shows what is inside, at a place; or it keeps it or drops it
pub data Look (L N P H X : Type 0) : Type 0 where
  Crosses : L → List L → (L → Option P) → H → Look L N P H X
  Executes : N → P → H → Look L N P H X
  Pushes : N → P → H → H → Look L N P H X
  Exposes : N → P → X → Look L N P H X
  Loses : Look L N P H X

-- nodes, links and SIDs: what traces speak of, the events of an execution, what is done at a place with the packet on top, and how many
-- stages there are at most from a push on the own packet to where that is on top again, both counted
pub record World (L E T N P H X : Type 0) : Type 0 where
  pub events : Events L E T
  pub executed : N → List E
  pub look : P → H → Look L N P H X
  pub limit : ℕ

-- where a link leads, as a state there
abbrev pub arrives : {L P S : Type 0} → (L → Option P) → (P → S) → L → Option S
arrives to at link = option_map at (to link)

-- ---- a header alone

-- a place, the header on top there, and those above the own packet that are below it; the own packet and the count of stages are left out
pub record Inside (P H : Type 0) : Type 0 where
  pub place : P
  pub head : H
  pub above : List H

abbrev pub inside_at : {P H : Type 0} → H → List H → P → Inside P H
inside_at head above place = record { place = place; head = head; above = above }

-- the last header is taken off: the walk is done, at the place behind it
abbrev pub inside_off : {E N P H : Type 0} → (L : Type 0) → List E → P → List H → Move L E N (Inside P H) P
inside_off L events place [] = Done events [] place
inside_off L events place (a ∷ above) = Go events [] (inside_at a above place)

abbrev pub inside_by : {L E T N P H X : Type 0} → World L E T N P H X → List H → Look L N P H X → Move L E N (Inside P H) P
inside_by w above (Crosses first rest to head) = Fork first rest (arrives to (inside_at head above))
inside_by w above (Executes sid place head) = Go (w.executed sid) [] (inside_at head above place)
inside_by w above (Pushes sid place new head) = Go (w.executed sid) [] (inside_at new (head ∷ above) place)
inside_by w above (Exposes sid place inside) = inside_off _ (w.executed sid) place above
inside_by w above Loses = Fail

abbrev pub inside_move : {L E T N P H X : Type 0} → World L E T N P H X → Inside P H → Move L E N (Inside P H) P
inside_move w i = inside_by w i.above (w.look i.place i.head)

-- the walk of a header that was pushed at a place, along a beginning of the steps, to the place behind it: the push is the first stage
unfoldable pub tunnel_of : {L E T N P H X : Type 0} → World L E T N P H X → List T → P → H → Option (End T N P)
tunnel_of w ts place new = end_of w.events (inside_move w) (w.limit - 1) ts (inside_at new [] place)
