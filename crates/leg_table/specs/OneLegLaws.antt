-- Need not be believed: helps proofs and other laws.
-- Laws of one leg and of one finish, for each kind of legs: what becomes of a packet on its way along a list, from one SID to the next.
use Rattle.std.specs.Prelude.{◌≡◌, ℕ, ◌+◌, ◌-◌, ◌<◌, ◌≤◌, Bool, false, List, [], ◌∷◌, ◌++◌, All, Option, Some, None}
use Rattle.std.specs.Option.{option_map}
use Rattle.v6_addr.specs.Address.{PrefixValue}
use Rattle.srv6_rules.specs.Packet.{Packet, read_as}
use Rattle.net_model.specs.Network.{Network}
use Rattle.net_model.specs.NetworkRulesTerms.{IsNetwork}
use Rattle.net_flatness.specs.Flat.{IsFlat}
use Rattle.net_flatness.specs.Nests.{MayFollow}
use Rattle.intent_reader.specs.declared.intent.Intent.{Intent}
use Rattle.sid_list_spec.specs.SegmentLists.{ListSid}
use Rattle.sid_list_theory.specs.ListPlaces.{ListPlace, Tunnel, Along, active, behind_of, next_of}
use Rattle.list_pack.specs.declared.types.Leg.{Leg}
use Rattle.list_pack.specs.SidLists.{IsSidPrefix, list_sid}
use Rattle.list_pack.specs.Meaning.{AreSidsOf}
use Rattle.list_pack.specs.PathsTerms.{SuitsLists}
use Rattle.list_pack.specs.LegsValue.{LegsValue}
use Rattle.list_pack.specs.LegsValueTerms.{IsVia, KeepsLaws}
use Rattle.leg_table.specs.NestLegsTerms.{PlaceKeeps}
use Rattle.leg_table.specs.WalkTrace.{TraceEvent, Handed}

-- a kind of legs: the steps and the network, what a search sees of the legs, the SIDs that may not be executed, and what is handed over of
-- a packet that goes on after the SID that was executed last, or from the headend where none was: in so many stages, under a row of choices
-- from one of them on. A trace that keeps to the steps from a position on leaves marks, which have to be the same for all choices; an
-- execution of a SID leaves its own, with so many steps finished behind it
pub record LegKind : Type 0 where
  pub net : Network
  pub intent : Intent
  pub legs : LegsValue
  pub barred : ℕ → Bool
  pub hand : ℕ → Option ℕ → Packet → (ℕ → ℕ) → ℕ → Option Handed
  pub kept : ℕ → List TraceEvent → Option (List ℕ)
  pub mark : ℕ → ℕ → List ℕ

-- a SID as lists know it
abbrev pub prefix_in : LegKind → ℕ → PrefixValue
prefix_in k n = (k.legs.shape n).prefix

abbrev pub sid_in : LegKind → ℕ → ListSid
sid_in k n = list_sid k.net (prefix_in k n)

-- some number of stages hands over
abbrev pub HandsOver : LegKind → Option ℕ → Packet → (ℕ → ℕ) → ℕ → Handed → Type 0
HandsOver k via p pick taken h = (fuel : ℕ) × (k.hand fuel via p pick taken ≡ Some h)

-- under every row of choices, along exactly the steps from a position on, with the same marks, and by no SID that may not be executed
abbrev pub AlwaysHands : LegKind → Option ℕ → Packet → ℕ → Type 0
AlwaysHands k via p position =
    (marks : List ℕ) × ((pick : ℕ → ℕ) → (h : Handed) × HandsOver k via p pick 0 h × (k.kept position h.trace ≡ Some marks)
    × All (λ n. k.barred n ≡ false) h.sids)

-- a trace that begins with these events keeps to the steps of a position exactly where its rest keeps to those of another, with the mark
-- of a SID before those of the rest
abbrev pub Leads : LegKind → ℕ → List TraceEvent → ℕ → ℕ → Type 0
Leads k position events next to =
    (more : List TraceEvent) → k.kept position (events ++ more) ≡ option_map (λ (marks : List ℕ). k.mark next to ++ marks) (k.kept to more)

-- what is handed over, after the events up to the execution of a SID
abbrev pub after_leg : List TraceEvent → ℕ → Handed → Handed
after_leg events next h = record { trace = events ++ h.trace; sids = next ∷ h.sids; content = h.content }

-- a packet at a place of a list that keeps the rule on nested SIDs, on its way to a SID: from a position and the SID that was executed
-- last
pub record OnWay (k : LegKind) (t : Tunnel) (x : ListPlace) (hop : ℕ) (p : Packet) (next : ℕ) : Type 0 where
  pub along : Along t x hop p
  pub keeps : PlaceKeeps k.net x
  pub to : active x ≡ sid_in k next

-- under a row of choices a packet is taken along a leg: to the list's next place, by at most the leg's hops and along its steps, by a SID
-- that may be executed; and what is handed over is what is handed over from there
pub record IsTakenOn (k : LegKind) (t : Tunnel) (y : ListPlace) (position : ℕ) (via : Option ℕ) (next : ℕ) (leg : Leg) (hop : ℕ)
    (p : Packet) (pick : ℕ → ℕ) (taken : ℕ)
    : Type 0 where
  pub lowered : ℕ
  pub few : lowered ≤ leg.hops
  pub packet : Packet
  pub along : Along t y (hop - lowered) packet
  pub allowed : k.barred next ≡ false
  pub events : List TraceEvent
  pub leads : Leads k position events next leg.to
  pub count : ℕ
  pub chosen : ℕ
  pub passes : (fuel : ℕ) (h : Handed) → k.hand fuel (Some next) packet pick chosen ≡ Some h
      → k.hand (count + fuel) via p pick taken ≡ Some (after_leg events next h)

-- a packet is handed over by SIDs that may be executed, along the steps from a position on, with marks: the packet inside
pub record HandsBy (k : LegKind) (t : Tunnel) (position : ℕ) (via : Option ℕ) (p : Packet) (ns marks : List ℕ) (pick : ℕ → ℕ) (taken : ℕ)
    : Type 0 where
  pub handed : Handed
  pub over : HandsOver k via p pick taken handed
  pub meets : k.kept position handed.trace ≡ Some marks
  pub sids : handed.sids ≡ ns
  pub allowed : All (λ n. k.barred n ≡ false) handed.sids
  pub content : handed.content ≡ read_as t.inner t.bytes

-- what is handed over of a packet on a leg is handed over from the list's next place; on a longest way as many hops after as the leg has
pub record GoesOver (k : LegKind) (Longest : Option ℕ → Packet → (ℕ → ℕ) → ℕ → Type 0) (t : Tunnel) (y : ListPlace) (via : Option ℕ)
    (next : ℕ) (leg : Leg) (hop : ℕ) (p : Packet) (pick : ℕ → ℕ) (taken : ℕ) (h : Handed)
    : Type 0 where
  pub lowered : ℕ
  pub high : lowered < hop
  pub packet : Packet
  pub along : Along t y (hop - lowered) packet
  pub chosen : ℕ
  pub handed : Handed
  pub over : HandsOver k (Some next) packet pick chosen handed
  pub sids : h.sids ≡ next ∷ handed.sids
  pub longest : Longest via p pick taken → (lowered ≡ leg.hops) × Longest (Some next) packet pick chosen

-- what becomes of a packet to a prefix that is handed over under every row of choices: there is a finish in the last container, or a leg,
-- after which the packet of a longest way is handed over under every row
pub data BecomesOf (k : LegKind) (Longest : Option ℕ → Packet → (ℕ → ℕ) → ℕ → Type 0) (t : Tunnel) (x : ListPlace) (q : PrefixValue)
    (position : ℕ) (via : Option ℕ) (hop : ℕ) (p : Packet)
    : Type 0 where
  Ended : (n lowered : ℕ) → k.legs.finish position via n ≡ Some lowered → prefix_in k n ≡ q → lowered < hop → behind_of x ≡ []
      → ((pick : ℕ → ℕ) (taken : ℕ) (h : Handed) → HandsOver k via p pick taken h → h.sids ≡ n ∷ [])
      → BecomesOf k Longest t x q position via hop p
  Moved : (n : ℕ) (leg : Leg) (y : ListPlace) (r : Packet) → k.legs.leg position via n ≡ Some leg → prefix_in k n ≡ q → leg.hops < hop
      → next_of x ≡ Some y → Along t y (hop - leg.hops) r → AlwaysHands k (Some n) r leg.to
      → ((pick : ℕ → ℕ) (taken : ℕ) (h : Handed) → Longest via p pick taken → HandsOver k via p pick taken h
      → (chosen : ℕ) × (g : Handed) × Longest (Some n) r pick chosen × HandsOver k (Some n) r pick chosen g × (h.sids ≡ n ∷ g.sids))
      → BecomesOf k Longest t x q position via hop p

-- the laws of one leg and of one finish: up from it, over it, and down to it
pub record LegLaws (k : LegKind) (Longest : Option ℕ → Packet → (ℕ → ℕ) → ℕ → Type 0) (t : Tunnel) : Type 0 where
  pub leg_up : (x y : ListPlace) (position : ℕ) (via : Option ℕ) (next : ℕ) (leg : Leg) (hop : ℕ) (p : Packet) (pick : ℕ → ℕ) (taken : ℕ)
      → k.legs.leg position via next ≡ Some leg → OnWay k t x hop p next → next_of x ≡ Some y → leg.hops < hop
      → IsTakenOn k t y position via next leg hop p pick taken
  pub finish_up : (x : ListPlace) (position : ℕ) (via : Option ℕ) (next lowered : ℕ) (hop : ℕ) (p : Packet) (pick : ℕ → ℕ) (taken : ℕ)
      → k.legs.finish position via next ≡ Some lowered → OnWay k t x hop p next → next_of x ≡ None → lowered < hop
      → HandsBy k t position via p (next ∷ []) (k.mark next k.legs.steps) pick taken
  pub leg_over : (x y : ListPlace) (position : ℕ) (via : Option ℕ) (next : ℕ) (leg : Leg) (hop : ℕ) (p : Packet) (pick : ℕ → ℕ) (taken : ℕ)
      (h : Handed)
      → k.legs.leg position via next ≡ Some leg → OnWay k t x hop p next → next_of x ≡ Some y → HandsOver k via p pick taken h
      → GoesOver k Longest t y via next leg hop p pick taken h
  pub finish_over : (x : ListPlace) (position : ℕ) (via : Option ℕ) (next lowered : ℕ) (hop : ℕ) (p : Packet) (pick : ℕ → ℕ) (taken : ℕ)
      (h : Handed)
      → k.legs.finish position via next ≡ Some lowered → OnWay k t x hop p next → next_of x ≡ None → HandsOver k via p pick taken h
      → (h.sids ≡ next ∷ []) × (Longest via p pick taken → 0 < hop → lowered < hop)
  pub down : (x : ListPlace) (q : PrefixValue) (position : ℕ) (via : Option ℕ) (hop : ℕ) (p : Packet)
      → position ≤ k.legs.steps → IsVia k.legs position via → Along t x hop p → PlaceKeeps k.net x → active x ≡ list_sid k.net q
      → IsSidPrefix k.net q → 0 < hop → AlwaysHands k via p position → BecomesOf k Longest t x q position via hop p
  -- each packet has a longest way
  pub some_longest : (via : Option ℕ) (p : Packet) → (pick : ℕ → ℕ) × Longest via p pick 0

-- what a kind of legs keeps, from which follows what lists mean: the laws of legs, SIDs of a flat network, the laws of one leg and one
-- finish for all packets of the intent, and how many choices matter to a packet from the headend that is handed over along the steps
pub record KindLaws (k : LegKind) (Longest : Option ℕ → Packet → (ℕ → ℕ) → ℕ → Type 0) : Type 0 where
  pub network : IsNetwork k.net
  pub flat : IsFlat k.net
  pub legs : KeepsLaws k.legs
  pub sids : AreSidsOf k.legs k.net
  pub suits : SuitsLists k.legs (list_sid k.net) (MayFollow k.net)
  pub one : (t : Tunnel) → t.inner ≡ k.intent.inner → LegLaws k Longest t
  pub matter : Packet → ℕ
  pub agree : (p : Packet) (pick other : ℕ → ℕ) (h : Handed) (marks : List ℕ) → ((d : ℕ) → d < matter p → pick d ≡ other d)
      → HandsOver k None p pick 0 h → k.kept 0 h.trace ≡ Some marks → HandsOver k None p other 0 h
