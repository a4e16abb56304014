-- Paths and legal lists are the same, in a network.
use Rattle.std.proofs.Common.{◌≡◌, ℕ, ◌*◌, ◌<◌, true, false, List, [], ◌∷◌, length, map, take, All, Option, Some, None, refl, sym, ◌∙◌, ap, subst}
use Rattle.std.proofs.lemmas.List.{length-map}
use Rattle.v6_addr.specs.Address.{PrefixValue}
use Rattle.net_model.specs.Network.{Network}
use Rattle.net_flatness.specs.Nests.{MayFollow}
use Rattle.sid_list_spec.specs.SegmentLists.{ListSid, IsLegal}
use Rattle.sid_list_spec.specs.SegmentLists as lists
use Rattle.list_pack.specs.declared.types.Cost.{Cost}
use Rattle.list_pack.specs.declared.types.PathStep.{PathStep}
use Rattle.list_pack.specs.declared.types.Container.{Container}
use Rattle.list_pack.specs.declared.types.Container.TheVariants.{Full, Packed}
use Rattle.list_pack.specs.LegsValue.{LegsValue}
use Rattle.list_pack.specs.LegsValueTerms.{KeepsLaws}
use Rattle.list_pack.specs.Costs.{Move, cost_of, start}
use Rattle.list_pack.specs.Least.{step_of}
use Rattle.list_pack.specs.Paths.{cost_with}
use Rattle.list_pack.specs.PathsTerms.{hops_of, sids_of_moves, may_move, SuitsLists}
use Rattle.list_pack.specs.PathLists.{container_by, list_from, IsListOfPath, before_last, moves_by, IsPathAlong}
use Rattle.list_pack.specs.SidLists.{list_sid, container_in, list_in, prefixes_in, steps_in, KeepsNests}
use Rattle.list_pack.proofs.CostSplits.{split_of, cost_made}
use Rattle.list_pack.proofs.Hops.{HopsFrom}
use Rattle.list_pack.proofs.Nesting.{packed_follow, path_keeps}
use Rattle.list_pack.proofs.PathsToLists.{by_stays, steps_by, path_legal}
use Rattle.list_pack.proofs.ListsToPaths.{prefixes_by, list_may}
use Rattle.list_pack.proofs.ListSteps.{steps_back, list_length, steps_prefixes, moves_sids, moves_steps, list_opened}

container_same : (net : Network) (c : Container) → container_in net c ≡ container_by (list_sid net) c
container_same net (Full p ps) = refl
container_same net (Packed p ps) = refl

pub list_same : (net : Network) (cs : List Container) → list_in net cs ≡ map (container_by (list_sid net)) cs
list_same net [] = refl
list_same net (c ∷ cs) =
    ap (λ (x : lists.Container). x ∷ list_in net cs) (container_same net c)
    ∙ ap (λ (xs : List lists.Container). container_by (list_sid net) c ∷ xs) (list_same net cs)

-- ---- path to list

hops_there : (v : LegsValue) (position : ℕ) (via : Option ℕ) (ns : List ℕ) (h : ℕ) → hops_of v position via ns ≡ Some h
    → HopsFrom v position via ns
hops_there v position via [] h e = tt
hops_there v position via (n ∷ ns) h e = (h, e)

abbrev BackFrom : LegsValue → (PrefixValue → ListSid) → List Move → Type 0
BackFrom v sid_on moves = may_move v None 0 moves ≡ true → steps_in (list_from sid_on None (steps_by v moves)) ≡ steps_by v moves

no_stay : (v : LegsValue) (sid_on : PrefixValue → ListSid) (moves : List Move) (m : ℕ)
    → BackFrom v sid_on (record { stays = true; sid = m } ∷ moves)
no_stay v sid_on moves m may = absurd (let one : false ≡ true = may in cc)

back_open : (v : LegsValue) (sid_on : PrefixValue → ListSid) (moves : List Move) (m : ℕ)
    → BackFrom v sid_on (record { stays = false; sid = m } ∷ moves)
back_open v sid_on moves m may = steps_back sid_on None (v.shape m).prefix (steps_by v moves)

back_from : (v : LegsValue) (sid_on : PrefixValue → ListSid) (moves : List Move) → BackFrom v sid_on moves
back_from v sid_on [] may = refl
back_from v sid_on (m ∷ ms) may =
    by_stays (λ (x : Move). BackFrom v sid_on (x ∷ ms)) (no_stay v sid_on ms) (back_open v sid_on ms) m may

pub path_list : (v : LegsValue) (net : Network) (moves : List Move) (c : Cost) → KeepsLaws v
    → SuitsLists v (list_sid net) (MayFollow net) → cost_of v start moves ≡ Some c → IsListOfPath net (map (step_of v) moves) c.containers
path_list v net moves c laws suits e =
    let parts = split_of v start moves c e in
    let g = list_sid net in
    record {
      legal = subst IsLegal (sym (list_same net (list_from g None (steps_by v moves))))
          (path_legal v g laws suits moves c.hops parts.may parts.hops);
      nests = path_keeps v net laws suits moves None 0 None 0 parts.may (hops_there v 0 None (sids_of_moves moves) c.hops parts.hops);
      steps = back_from v g moves parts.may;
      count = list_length g v moves None ∙ sym parts.containers;
    }

-- ---- list to path

pub list_path : (v : LegsValue) (net : Network) (list : List Container) (sids : List ℕ) (hops : ℕ) → KeepsLaws v
    → SuitsLists v (list_sid net) (MayFollow net) → IsLegal (list_in net list) → All (KeepsNests net) list
    → hops_of v 0 None sids ≡ Some hops
    → map (λ (n : ℕ). (v.shape n).prefix) sids ≡ take (length sids) (prefixes_in list) → before_last list < length sids
    → IsPathAlong v list sids hops
list_path v net list sids hops laws suits legal nests e same reach =
    let g = list_sid net in
    let moves = moves_by sids (steps_in list) in
    let named : prefixes_by v sids ≡ take (length sids) (map (λ (p : PathStep). p.prefix) (steps_in list)) =
    same ∙ ap (λ (ps : List PrefixValue). take (length sids) ps) (sym (steps_prefixes list)) in
    let own = moves_sids v sids (steps_in list) named in
    let may = list_may v g (MayFollow net) laws suits (packed_follow net) sids list hops (subst IsLegal (list_same net list) legal) nests
    same e in
    let hops_are : hops_of v 0 None (sids_of_moves moves) ≡ Some hops = ap (λ (ns : List ℕ). hops_of v 0 None ns) own ∙ e in
    let many : length moves ≡ length sids =
    sym (length-map moves (λ (m : Move). m.sid)) ∙ ap (λ (ns : List ℕ). length ns) own in
    record {
      moves = moves;
      sids_of = own;
      cost = cost_made v start moves hops may hops_are
          ∙ ap (λ (n : ℕ). Some (cost_with n (v.sid_cost * length moves) hops)) (list_opened sids list reach)
          ∙ ap (λ (n : ℕ). Some (cost_with (length list) (v.sid_cost * n) hops)) many;
      steps = moves_steps v sids (steps_in list) named;
    }
