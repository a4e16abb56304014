-- Need not be believed: helps proofs and other laws.
-- What is left of a walk up to the own hand_over behind the first execution on the own packet.
use Rattle.std.specs.Prelude.{◌≡◌, ℕ, suc, List, [], Option, Some}
use Rattle.std.specs.Option.{option_map}
use Rattle.binding_spec.specs.Machines.{Move, Done, End, end_after, end_with}
use Rattle.tunnel_walks_theory.specs.MachinesTerms.{Got, got_after, got_of}
use Rattle.tunnel_walks_theory.specs.TunnelChoices.{EndsWith}
use Rattle.binding_spec.specs.TunnelPackets.{World}
use Rattle.tunnel_walks_theory.specs.TunnelPacketsTerms.{Tunnelled, Bared, Met, Onward, Under, Bare, open_at, pushed_at, tunnel_move, own_move}

abbrev pub bared_at : {P X : Type 0} → P → X → Bared P X
bared_at place inside = record { place = place; inside = inside }

-- under choices: what these events and SIDs, and the walk of so many moves from where the own packet goes on, come to
abbrev pub rest_of : {L E T N P H X : Type 0} → World L E T N P H X → ℕ → (ℕ → ℕ) → ℕ → List E → List N → Met P H X
    → Option (Got E N (Bared P X))
rest_of w more pick taken told sids (Onward place own) =
    option_map (got_after told sids) (got_of w.events (own_move w) more (open_at place own) pick taken)
rest_of w more pick taken told sids (Under place new own) =
    option_map (got_after told sids) (got_of w.events (own_move w) more (pushed_at place new own) pick taken)
rest_of w more pick taken told sids (Bare place inside) =
    Some (record { trace = told; sids = sids; result = bared_at place inside })

-- along steps: the walk from where the own packet goes on ends so
abbrev pub RestEnds : {L E T N P H X : Type 0} → World L E T N P H X → List T → List N → Met P H X → End T N (Bared P X) → Type 0
RestEnds w left sids (Onward place own) e =
    (later : End _ _ (Bared _ _)) × EndsWith w.events (own_move w) left (open_at place own) later × (end_after sids later ≡ e)
RestEnds w left sids (Under place new own) e =
    (later : End _ _ (Bared _ _)) × EndsWith w.events (own_move w) left (pushed_at place new own) later × (end_after sids later ≡ e)
RestEnds w left sids (Bare place inside) e = end_with sids (bared_at place inside) left ≡ e

-- ---- up to where the own packet is on top

pub record Opened (P H : Type 0) : Type 0 where
  pub place : P
  pub own : H

abbrev pub opened_at : {P H : Type 0} → P → H → Opened P H
opened_at place own = record { place = place; own = own }

abbrev pub open_bottom : {L E N P H : Type 0} → P → H → Move L E N (Tunnelled P H) (Opened P H)
open_bottom place own = Done [] [] (opened_at place own)

abbrev pub open_move : {L E T N P H X : Type 0} → World L E T N P H X → Tunnelled P H → Move L E N (Tunnelled P H) (Opened P H)
open_move w = tunnel_move w open_bottom

-- what these events and SIDs, and the walk of so many moves and one from there, come to
abbrev pub rest_open : {L E T N P H X : Type 0} → World L E T N P H X → ℕ → (ℕ → ℕ) → ℕ → List E → List N → Opened P H
    → Option (Got E N (Bared P X))
rest_open w more pick taken told sids o =
    option_map (got_after told sids) (got_of w.events (own_move w) (suc more) (open_at o.place o.own) pick taken)
