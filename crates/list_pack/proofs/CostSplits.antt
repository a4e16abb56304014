-- The cost of a path by rooms and legs apart.
use Rattle.std.proofs.Common.{◌≡◌, ℕ, suc, ◌+◌, ◌*◌, Bool, true, false, if◌then◌else◌, List, [], ◌∷◌, length, Option, Some, None, refl, sym, ◌∙◌, ap, arith}
use Rattle.std.specs.Option.{option_map, option_and_then}
use Rattle.std.proofs.Math.Nat.{mul-suc}
use Rattle.list_pack.specs.declared.types.Cost.{Cost}
use Rattle.list_pack.specs.declared.types.State.{State}
use Rattle.list_pack.specs.declared.types.Leg.{Leg}
use Rattle.list_pack.specs.LegsValue.{LegsValue}
use Rattle.list_pack.specs.Costs.{Move, plus, move_cost, edge_by, behind, cost_of, room_of}
use Rattle.list_pack.specs.Paths.{cost_with}
use Rattle.list_pack.specs.PathsTerms.{with_hops, hops_of, sids_of_moves, with_room, may_move, opened, split_cost}

-- nothing comes of no leg, whether the rooms suffice or not
no_leg : (b : Bool) (k s : ℕ) → None ≡ (if b then option_map (cost_with k s) None else None)
no_leg true k s = refl
no_leg false k s = refl

more_hops : (b : Bool) (o : Option ℕ) (k n s t hops : ℕ)
    → option_map (plus (cost_with k s hops)) (if b then option_map (cost_with n t) o else None)
    ≡ (if b then option_map (cost_with (k + n) (s + t)) (option_map (λ m. hops + m) o) else None)
more_hops true None k n s t hops = refl
more_hops true (Some x) k n s t hops = refl
more_hops false o k n s t hops = refl

split_last : (o : Option ℕ) (l : Option ℕ) (sid_cost : ℕ) (stays : Bool) (k s : ℕ) → (if stays then 0 else 1) ≡ k → sid_cost ≡ s
    → option_and_then (λ (room : ℕ). option_map (move_cost sid_cost stays) l) o
    ≡ (if with_room o (λ left. true) then option_map (cost_with k s) l else None)
split_last None l sid_cost stays k s e f = refl
split_last (Some room) l sid_cost stays k s e f =
    ap (λ (n : ℕ). option_map (cost_with n sid_cost) l) e ∙ ap (λ (n : ℕ). option_map (cost_with k n) l) f

split_step : (v : LegsValue) (o : Option ℕ) (l : Option Leg) (m : Move) (n s t : ℕ) (later : State → Option Cost) (may : ℕ → Bool)
    (hops : ℕ → Option ℕ)
    → v.sid_cost + s ≡ t
    → ((room : ℕ) (leg : Leg)
    → later (edge_by v m room leg).to ≡ (if may room then option_map (cost_with n s) (hops leg.to) else None))
    → behind (option_and_then (λ (room : ℕ). option_map (edge_by v m room) l) o) later
    ≡ (if with_room o may then option_map (cost_with ((if m.stays then 0 else 1) + n) t) (with_hops l hops) else None)
split_step v None l m n s t later may hops e h = refl
split_step v (Some room) None m n s t later may hops e h = no_leg (may room) ((if m.stays then 0 else 1) + n) t
split_step v (Some room) (Some leg) m n s t later may hops e h =
    ap (λ (o : Option Cost). option_map (plus (move_cost v.sid_cost m.stays leg.hops)) o) (h room leg)
    ∙ more_hops (may room) (hops leg.to) (if m.stays then 0 else 1) n v.sid_cost s leg.hops
    ∙ ap (λ (k : ℕ). if may room then option_map (cost_with ((if m.stays then 0 else 1) + n) k) (with_hops (Some leg) hops) else None) e

plus_none : (n : ℕ) → n ≡ n + 0
plus_none n = omega arith

times_one : (n : ℕ) → n ≡ n * 1
times_one n = omega arith

times_more : (n k : ℕ) → n + n * k ≡ n * suc k
times_more n k = omega (arith, mul-suc n k)

pub cost_splits : (v : LegsValue) (s : State) (moves : List Move) → cost_of v s moves ≡ split_cost v s.position s.via s.room moves
cost_splits v s [] = refl
cost_splits v s (m ∷ []) =
    split_last (room_of v s m) (v.finish s.position s.via m.sid) v.sid_cost m.stays ((if m.stays then 0 else 1) + 0) (v.sid_cost * 1)
    (plus_none (if m.stays then 0 else 1)) (times_one v.sid_cost)
cost_splits v s (m ∷ n ∷ more) =
    split_step v (room_of v s m) (v.leg s.position s.via m.sid) m (opened (n ∷ more)) (v.sid_cost * length (n ∷ more))
    (v.sid_cost * length (m ∷ n ∷ more)) (λ t. cost_of v t (n ∷ more)) (λ left. may_move v (Some m.sid) left (n ∷ more))
    (λ to. hops_of v to (Some m.sid) (sids_of_moves (n ∷ more))) (times_more v.sid_cost (length (n ∷ more)))
    (λ room leg. cost_splits v (edge_by v m room leg).to (n ∷ more))

-- ---- the two ways

pub record Split (v : LegsValue) (position : ℕ) (via : Option ℕ) (room : ℕ) (moves : List Move) (c : Cost) : Type 0 where
  pub may : may_move v via room moves ≡ true
  pub hops : hops_of v position via (sids_of_moves moves) ≡ Some c.hops
  pub containers : c.containers ≡ opened moves
  pub sids : c.sids ≡ v.sid_cost * length moves

split_in : (b : Bool) (o : Option ℕ) (k s : ℕ) (c : Cost) → (if b then option_map (cost_with k s) o else None) ≡ Some c
    → (b ≡ true) × (o ≡ Some c.hops) × (c.containers ≡ k) × (c.sids ≡ s)
split_in true None k s c e = absurd (cc)
split_in true (Some x) k s c e =
    let same : cost_with k s x ≡ c = cc in (
      refl,
      ap (λ (d : Cost). Some d.hops) same,
      sym (ap (λ (d : Cost). d.containers) same),
      sym (ap (λ (d : Cost). d.sids) same),
    )
split_in false o k s c e = absurd (cc)

pub split_of : (v : LegsValue) (s : State) (moves : List Move) (c : Cost) → cost_of v s moves ≡ Some c
    → Split v s.position s.via s.room moves c
split_of v s moves c e =
    let parts = split_in (may_move v s.via s.room moves) (hops_of v s.position s.via (sids_of_moves moves)) (opened moves)
    (v.sid_cost * length moves) c (sym (cost_splits v s moves) ∙ e) in
    record { may = parts.0; hops = parts.1; containers = parts.2; sids = parts.3 }

pub cost_made : (v : LegsValue) (s : State) (moves : List Move) (hops : ℕ) → may_move v s.via s.room moves ≡ true
    → hops_of v s.position s.via (sids_of_moves moves) ≡ Some hops
    → cost_of v s moves ≡ Some (cost_with (opened moves) (v.sid_cost * length moves) hops)
cost_made v s moves hops may h =
    cost_splits v s moves
    ∙ ap (λ (b : Bool). if b
    then option_map (cost_with (opened moves) (v.sid_cost * length moves)) (hops_of v s.position s.via (sids_of_moves moves))
    else None) may
    ∙ ap (λ (o : Option ℕ). option_map (cost_with (opened moves) (v.sid_cost * length moves)) o) h
