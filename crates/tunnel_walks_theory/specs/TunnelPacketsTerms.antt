-- Need not be believed: helps proofs and other laws.
-- Terms beside those of `binding_spec/specs/TunnelPackets.antt`.
use Rattle.std.specs.Prelude.{◌≡◌, ℕ, suc, ◌-◌, nat_le, if◌then◌else◌, IsTrue, List, [], ◌∷◌}
use Rattle.std.specs.List.{AllByRecursion}
use Rattle.binding_spec.specs.Machines.{Events, Move, Fork, Go, Done, Fail, is_in}
use Rattle.binding_spec.specs.TunnelPackets.{Look, Crosses, Executes, Pushes, Exposes, Loses, World, arrives}

-- ---- whole packets

-- a place, the packet on top there, those below it, from the top down, and the stages since the own packet, the last of all, was pushed
-- under a header, the push among them; where no packet is below, the one on top is the own one, and no stage is counted
pub record Tunnelled (P H : Type 0) : Type 0 where
  pub place : P
  pub head : H
  pub below : List H
  pub used : ℕ

abbrev pub tunnel_at : {P H : Type 0} → H → List H → ℕ → P → Tunnelled P H
tunnel_at head below used place = record { place = place; head = head; below = below; used = used }

-- the own packet on top
abbrev pub open_at : {P H : Type 0} → P → H → Tunnelled P H
open_at place own = tunnel_at own [] 0 place

-- the own packet right below a header, which was just pushed
abbrev pub pushed_at : {P H : Type 0} → P → H → H → Tunnelled P H
pushed_at place new own = tunnel_at new (own ∷ []) 1 place

-- where a header is taken off, the next packet is on top; none is counted behind the last header
abbrev pub taken_off : {P H : Type 0} → P → H → List H → ℕ → Tunnelled P H
taken_off place next [] used = open_at place next
taken_off place next (b ∷ bs) used = tunnel_at next (b ∷ bs) (suc used) place

-- what is done with the header on top of others
abbrev pub under_by : {L E T N P H X R : Type 0} → World L E T N P H X → H → List H → ℕ → Look L N P H X → Move L E N (Tunnelled P H) R
under_by w b bs used (Crosses first rest to head) = Fork first rest (arrives to (tunnel_at head (b ∷ bs) (suc used)))
under_by w b bs used (Executes sid place head) = Go (w.executed sid) [] (tunnel_at head (b ∷ bs) (suc used) place)
under_by w b bs used (Pushes sid place new head) = Go (w.executed sid) [] (tunnel_at new (head ∷ b ∷ bs) (suc used) place)
under_by w b bs used (Exposes sid place inside) = Go (w.executed sid) [] (taken_off place b bs used)
under_by w b bs used Loses = Fail

abbrev pub tunnel_by : {L E T N P H X R : Type 0} → World L E T N P H X → (P → H → Move L E N (Tunnelled P H) R) → P → H → ℕ → List H
    → Move L E N (Tunnelled P H) R
tunnel_by w bottom place head used [] = bottom place head
tunnel_by w bottom place head used (b ∷ bs) = if nat_le w.limit used then Fail else under_by w b bs used (w.look place head)

-- a walk under headers: what is done with the own packet on top is told by a word of its own; behind the last stage that the limit allows
-- the walk is lost
abbrev pub tunnel_move : {L E T N P H X R : Type 0} → World L E T N P H X → (P → H → Move L E N (Tunnelled P H) R) → Tunnelled P H
    → Move L E N (Tunnelled P H) R
tunnel_move w bottom d = tunnel_by w bottom d.place d.head d.used d.below

-- ---- up to where the own packet is exposed

-- where the own packet's header was taken off, and what was inside
pub record Bared (P X : Type 0) : Type 0 where
  pub place : P
  pub inside : X

-- a SID that is executed on the own packet is noted; those that are executed on pushed headers are not
abbrev pub own_by : {L E T N P H X : Type 0} → World L E T N P H X → Look L N P H X → Move L E N (Tunnelled P H) (Bared P X)
own_by w (Crosses first rest to own) = Fork first rest (arrives to (λ place. open_at place own))
own_by w (Executes sid place own) = Go (w.executed sid) (sid ∷ []) (open_at place own)
own_by w (Pushes sid place new own) = Go (w.executed sid) (sid ∷ []) (pushed_at place new own)
own_by w (Exposes sid place inside) = Done (w.executed sid) (sid ∷ []) (record { place = place; inside = inside })
own_by w Loses = Fail

abbrev pub own_bottom : {L E T N P H X : Type 0} → World L E T N P H X → P → H → Move L E N (Tunnelled P H) (Bared P X)
own_bottom w place own = own_by w (w.look place own)

abbrev pub own_move : {L E T N P H X : Type 0} → World L E T N P H X → Tunnelled P H → Move L E N (Tunnelled P H) (Bared P X)
own_move w = tunnel_move w (own_bottom w)

-- ---- up to the first execution on the own packet

-- what came of the own packet at its execution: it goes on from a place; or under a header, the first of the two; or it is bared
pub data Met (P H X : Type 0) : Type 0 where
  Onward : P → H → Met P H X
  Under : P → H → H → Met P H X
  Bare : P → X → Met P H X

abbrev pub met_by : {L E T N P H X : Type 0} → World L E T N P H X → Look L N P H X → Move L E N (Tunnelled P H) (Met P H X)
met_by w (Crosses first rest to own) = Fork first rest (arrives to (λ place. open_at place own))
met_by w (Executes sid place own) = Done (w.executed sid) (sid ∷ []) (Onward place own)
met_by w (Pushes sid place new own) = Done (w.executed sid) (sid ∷ []) (Under place new own)
met_by w (Exposes sid place inside) = Done (w.executed sid) (sid ∷ []) (Bare place inside)
met_by w Loses = Fail

abbrev pub met_bottom : {L E T N P H X : Type 0} → World L E T N P H X → P → H → Move L E N (Tunnelled P H) (Met P H X)
met_bottom w place own = met_by w (w.look place own)

abbrev pub met_move : {L E T N P H X : Type 0} → World L E T N P H X → Tunnelled P H → Move L E N (Tunnelled P H) (Met P H X)
met_move w = tunnel_move w (met_bottom w)

-- ---- joined links

-- the links of a set that lie in a step lead to one place
abbrev pub LooksOn : {L E T N P H X : Type 0} → Events L E T → T → Look L N P H X → Type 0
LooksOn events t (Crosses first rest to head) = (k l : _) → IsTrue (is_in events t k) → IsTrue (is_in events t l) → to k ≡ to l
LooksOn events t (Executes sid place head) = Unit {0}
LooksOn events t (Pushes sid place new head) = Unit {0}
LooksOn events t (Exposes sid place inside) = Unit {0}
LooksOn events t Loses = Unit {0}

abbrev pub IsJoined : {L E T N P H X : Type 0} → World L E T N P H X → T → Type 0
IsJoined w t = (place : _) (head : _) → LooksOn w.events t (w.look place head)

abbrev pub AreJoined : {L E T N P H X : Type 0} → World L E T N P H X → List T → Type 0
AreJoined w ts = AllByRecursion (IsJoined w) ts
