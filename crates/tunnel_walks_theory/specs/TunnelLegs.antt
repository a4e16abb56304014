-- Need not be believed: helps proofs and other laws.
-- Legs and paths: from one execution on the own packet to the next.
use Rattle.std.specs.Prelude.{◌≡◌, ℕ, zero, suc, ◌<◌, List, [], ◌∷◌, ◌++◌, length, Option, Some, None}
use Rattle.std.specs.Option.{option_map, option_and_then}
use Rattle.binding_spec.specs.Machines.{Move, End, end_of}
use Rattle.tunnel_walks_theory.specs.TunnelChoices.{Reaches, EndsWith, choice_at}
use Rattle.binding_spec.specs.TunnelPackets.{World, tunnel_of}
use Rattle.tunnel_walks_theory.specs.TunnelPacketsTerms.{Tunnelled, Bared, Met, Onward, Under, Bare, open_at, tunnel_move, own_move, met_move}

-- the transit of the own packet to its next execution: each move but the last crosses a link of a step
unfoldable pub transit_of : {L E T N P H X : Type 0} → World L E T N P H X → List T → P → H → Option (End T N (Met P H X))
transit_of w ts place own = end_of w.events (met_move w) (suc (length ts)) ts (open_at place own)

-- from where the own packet goes on: a place, the packet, and the steps left
pub record Origin (T P H : Type 0) : Type 0 where
  pub left : List T
  pub place : P
  pub own : H

abbrev pub origin_behind : {T N P H : Type 0} → H → End T N P → Origin T P H
origin_behind own e = record { left = e.left; place = e.result; own = own }

-- behind an execution: the place that it leads to, or the place behind the header that it pushed, where that walks alone
abbrev pub origin_of : {L E T N P H X : Type 0} → World L E T N P H X → List T → Met P H X → Option (Origin T P H)
origin_of w ts (Onward place own) = Some (record { left = ts; place = place; own = own })
origin_of w ts (Under place new own) = option_map (origin_behind own) (tunnel_of w ts place new)
origin_of w ts (Bare place inside) = None

-- a path: the SIDs that were executed on the own packet, and where it was bared of what
pub record Path (N P X : Type 0) : Type 0 where
  pub sids : List N
  pub bared : Bared P X

abbrev pub path_after : {N P X : Type 0} → List N → Path N P X → Path N P X
path_after sids path = record { sids = sids ++ path.sids; bared = path.bared }

-- the own packet is bared with no step left
abbrev pub finish_of : {T N P X : Type 0} → List N → P → X → List T → Option (Path N P X)
finish_of sids place inside [] = Some (record { sids = sids; bared = record { place = place; inside = inside } })
finish_of sids place inside (t ∷ ts) = None

abbrev pub legs_from : {T N P H X : Type 0} → (List T → P → H → Option (Path N P X)) → Option (Origin T P H) → Option (Path N P X)
legs_from legs origin = option_and_then (λ s. legs s.left s.place s.own) origin

-- a leg, and the legs behind it; or a finish
abbrev pub legs_by : {L E T N P H X : Type 0} → World L E T N P H X → (List T → P → H → Option (Path N P X)) → List T → List N → Met P H X
    → Option (Path N P X)
legs_by w legs left sids (Onward place own) = option_map (path_after sids) (legs_from legs (origin_of w left (Onward place own)))
legs_by w legs left sids (Under place new own) = option_map (path_after sids) (legs_from legs (origin_of w left (Under place new own)))
legs_by w legs left sids (Bare place inside) = finish_of sids place inside left

-- so many legs, the last of them a finish, along all of the steps
unfoldable pub legs_of : {L E T N P H X : Type 0} → World L E T N P H X → ℕ → List T → P → H → Option (Path N P X)
legs_of w zero ts place own = None
legs_of w (suc more) ts place own = option_and_then (λ e. legs_by w (legs_of w more) e.left e.sids e.result) (transit_of w ts place own)

-- under a row of choices the own packet is bared with no step left; and under every list of choices
pub record Hands {L E T N P H X : Type 0} (w : World L E T N P H X) (ts : List T) (place : P) (own : H) (pick : ℕ → ℕ) : Type 0 where
  pub reaches : Reaches w.events (own_move w) ts (open_at place own) pick
  pub all : reaches.left ≡ []

abbrev pub AlwaysHands : {L E T N P H X : Type 0} → World L E T N P H X → List T → P → H → Type 0
AlwaysHands w ts place own = (choices : List ℕ) → 0 < length choices → Hands w ts place own (choice_at choices)

-- there is a path
abbrev pub HasPath : {L E T N P H X : Type 0} → World L E T N P H X → List T → P → H → Path N P X → Type 0
HasPath w ts place own path = (count : ℕ) × (legs_of w count ts place own ≡ Some path)

-- a packet right below a header that was just pushed ends so: the header walks alone to a place, and the packet ends so from there
pub record BehindHeader {L E T N P H X R : Type 0} (w : World L E T N P H X) (bottom : P → H → Move L E N (Tunnelled P H) R) (ts : List T)
    (place : P) (new own : H) (e : End T N R) : Type 0 where
  pub origin : End T N P
  pub alone : tunnel_of w ts place new ≡ Some origin
  pub on : EndsWith w.events (tunnel_move w bottom) origin.left (open_at origin.result own) e

-- a leg behind a header: the header walks alone to a place, and the own packet transits from there to its next execution
pub record LegBehind {L E T N P H X : Type 0} (w : World L E T N P H X) (ts : List T) (place : P) (new own : H) : Type 0 where
  pub origin : End T N P
  pub alone : tunnel_of w ts place new ≡ Some origin
  pub end : End T N (Met P H X)
  pub transit : transit_of w origin.left origin.result own ≡ Some end
