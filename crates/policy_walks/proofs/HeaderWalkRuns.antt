-- Walks of pushed headers stage by stage, and the steps that are done.
use Rattle.std.proofs.Common.{◌≡◌, ℕ, suc, ◌+◌, ◌-◌, ◌<◌, ◌≤◌, Bool, true, if◌then◌else◌, List, [], length, drop, slice_get, get_or, Option, Some, None, inl, inr, ◌⊎◌, refl, sym, ap, subst, ◌∙◌, arith}
use Rattle.std.specs.Prelude.{Result, Ok, Err, IfOk, IfSome}
use Rattle.std.specs.Option.{option_map}
use Rattle.std.proofs.lemmas.List.{length-drop}
use Rattle.std.proofs.lemmas.Option.{slice_get_cases}
use Rattle.srv6_rules.specs.declared.sid.Behaviour.{Behaviour}
use Rattle.srv6_rules.specs.declared.family.Family.TheVariants as families
use Rattle.srv6_rules.specs.declared.sid.SidEntry.{SidEntry}
use Rattle.srv6_rules.specs.Behaviours.{behaviour_policy, behaviour_reduces, goes_on}
use Rattle.srv6_rules.specs.Packet.{Packet}
use Rattle.srv6_rules.specs.Policies.{outer_by}
use Rattle.net_model.specs.declared.parts.NamedPolicy.{NamedPolicy}
use Rattle.net_model.specs.Network.{Network}
use Rattle.walk_rules.specs.declared.place.Place.{Place}
use Rattle.intent_reader.specs.declared.intent.Intent.{Intent}
use Rattle.intent_reader.specs.declared.intent.Step.{Step}
use Rattle.leg_table.specs.StrictLegs.{place_behind}
use Rattle.binding_spec.specs.Machines.{End, end_by, end_of}
use Rattle.binding_spec.specs.TunnelPackets.{Inside, inside_at, inside_move, tunnel_of}
use Rattle.binding_spec.specs.NetworkWorld.{step_events}
use Rattle.binding_spec.specs.declared.origin.Origin.{Origin}
use Rattle.binding_spec.specs.Origins.{origin_after, origin_behind, origin_onward, origin_pushed}
use Rattle.walk_rules.specs.Relation.{IsPlace}
use Rattle.policy_walks.specs.declared.header_stage.Headers.{Headers}
use Rattle.policy_walks.specs.declared.header_stage.Stage.{Stage}
use Rattle.policy_walks.specs.declared.header_stage.Stage.TheVariants as stages
use Rattle.policy_walks.specs.HeaderWalks.{StandsThere, Walking, end_at, end_stage, inside_end, inside_of, world_of}

-- ---- whole walks

module _ (net : Network) where
  pub end_suc : (k : ℕ) (ts : List Step) (i : Inside Place Packet)
      → inside_end net (suc k) ts i ≡ end_by step_events (inside_end net k) (inside_move (world_of net) i) ts
  unfolding end_of
  end_suc k ts i = refl

  pub end_zero : (ts : List Step) (i : Inside Place Packet) → inside_end net 0 ts i ≡ None
  unfolding end_of
  end_zero ts i = refl

-- the origin that a walk came to, by its end
pub origin_end : (steps : List Step) (origin : Option Origin) (e : Option (End Step ℕ Place))
    → ((s : Origin) → origin ≡ Some s → s.done ≤ length steps)
    → option_map (end_at steps) origin ≡ e → origin ≡ option_map (origin_after (length steps)) e
origin_end steps None e few is = ap (option_map (origin_after (length steps))) is
origin_end steps (Some s) e few is =
    let len = length-drop s.done steps in
    let within = few s refl in
    let same : length steps - length (drop s.done steps) ≡ s.done = omega (arith, len, within) in
    ap (λ (n : ℕ). Some (record { place = s.place; done = n })) (sym same) ∙ ap (option_map (origin_after (length steps))) is

-- headers that stand there after so many stages behind the push, and walk on to the same end
pub record IsWalking (net : Network) (steps : List Step) (done : ℕ) (headers : Headers) (used first : ℕ) (from : Headers) : Type 0 where
  pub place : IsPlace net headers.place
  pub within : done ≤ length steps
  pub ends : inside_end net (999 - used) (drop done steps) (inside_of headers) ≡ inside_end net 999 (drop first steps) (inside_of from)

module _ (net : Network) (steps : List Step) (done : ℕ) (headers : Headers) (used first : ℕ) (from : Headers)
    (w : IsWalking net steps done headers used first from) where
  pub walking_out : 999 ≤ used → None ≡ inside_end net 999 (drop first steps) (inside_of from)
  walking_out all =
      let e : 999 - used ≡ 0 = omega (arith, all) in
      sym (end_zero net (drop done steps) (inside_of headers))
      ∙ ap (λ (k : ℕ). inside_end net k (drop done steps) (inside_of headers)) (sym e) ∙ w.ends

  module _ (more : used < 999) (stage : Stage)
      (comes : (go : Walking) → end_by step_events go (inside_move (world_of net) (inside_of headers)) (drop done steps)
      ≡ end_stage go steps stage) where
    pub stage_ends : end_stage (inside_end net (999 - (used + 1))) steps stage ≡ inside_end net 999 (drop first steps) (inside_of from)
    stage_ends =
        let e : 999 - used ≡ suc (999 - (used + 1)) = omega (arith, more) in
        sym (comes (inside_end net (999 - (used + 1)))) ∙ sym (end_suc net (999 - (used + 1)) (drop done steps) (inside_of headers))
        ∙ ap (λ (n : ℕ). inside_end net n (drop done steps) (inside_of headers)) (sym e) ∙ w.ends

    -- the last header is taken off, or the one on top is lost
    pub walked_off : (place : Place) (d : ℕ) → stage ≡ stages.Off place d
        → Some (end_at steps (record { place = place; done = d })) ≡ inside_end net 999 (drop first steps) (inside_of from)
    walked_off place d is = sym (ap (end_stage (inside_end net (999 - (used + 1))) steps) is) ∙ stage_ends

    pub walked_lost : stage ≡ stages.Lost → None ≡ inside_end net 999 (drop first steps) (inside_of from)
    walked_lost is = sym (ap (end_stage (inside_end net (999 - (used + 1))) steps) is) ∙ stage_ends

    -- headers go on
    pub walked_on : (next : Headers) (d count : ℕ) → stage ≡ stages.On next d → StandsThere net steps stage → count ≡ used + 1
        → IsWalking net steps d next count first from
    walked_on next d count is there more_is =
        let stands : StandsThere net steps (stages.On next d) = subst (StandsThere net steps) is there in
        let ends : inside_end net (999 - (used + 1)) (drop d steps) (inside_of next) ≡ inside_end net 999 (drop first steps)
        (inside_of from) =
        sym (ap (end_stage (inside_end net (999 - (used + 1))) steps) is) ∙ stage_ends in
        record {
          place = stands.0;
          within = stands.1;
          ends = ap (λ (n : ℕ). inside_end net (999 - n) (drop d steps) (inside_of next)) more_is ∙ ends;
        }

-- ---- origins

-- a policy that a behaviour binds is there
pub bound_there : (net : Network) (b : Behaviour) (number : ℕ) → IfSome (behaviour_policy b) (λ (n : ℕ). n < length net.policies)
    → behaviour_policy b ≡ Some number → number < length net.policies
bound_there net b number there binds =
    let P : Option ℕ → Type 0 = λ o. IfSome o (λ (n : ℕ). n < length net.policies) in
    subst P binds there

pub named_there : (net : Network) (number : ℕ) → number < length net.policies
    → (named : NamedPolicy) × (slice_get net.policies number ≡ Some named)
named_there net number within = by_cases (slice_get_cases net.policies number).1
  where
    by_cases : ((x : _) × (number < length net.policies) × (slice_get net.policies number ≡ Some x) × (get_or net.policies number x ≡ x))
        ⊎ ((length net.policies ≤ number) × (slice_get net.policies number ≡ None))
        → (named : _) × (slice_get net.policies number ≡ Some named)
    by_cases (inl found) = (found.0, found.2)
    by_cases (inr none) = let few = none.0 in absurd (omega arith)

module _ (net : Network) (intent : Intent) (position v : ℕ) (s : SidEntry) (there : slice_get net.sids v ≡ Some s) where
  started : origin_behind net intent position v (slice_get net.sids v) ≡ origin_behind net intent position v (Some s)
  started = ap (origin_behind net intent position v) there

  -- behind the walk of the header that the SID pushes
  module _ (goes : goes_on s ≡ true) (number : ℕ) (named : NamedPolicy) (binds : behaviour_policy s.behaviour ≡ Some number)
      (found : slice_get net.policies number ≡ Some named) (place : Place) (top : Packet) (behind : place ≡ place_behind v s)
      (is : top ≡ outer_by named.policy (behaviour_reduces s.behaviour) families.V6 []) (above : List Packet) (none : above ≡ [])
      (steps : List Step) (same : steps ≡ intent.steps) where
    tunnel_end : option_map (origin_after (length steps)) (inside_end net 999 (drop position steps) (inside_at top [] place))
        ≡ origin_behind net intent position v (slice_get net.sids v)
    unfolding tunnel_of
    tunnel_end =
        ap (λ (ts : List Step). option_map (origin_after (length ts)) (inside_end net 999 (drop position ts) (inside_at top [] place))) same
        ∙ ap (λ (p : Place). option_map (origin_after (length intent.steps))
        (inside_end net 999 (drop position intent.steps) (inside_at top [] p))) behind
        ∙ ap (λ (h : Packet). option_map (origin_after (length intent.steps))
        (inside_end net 999 (drop position intent.steps) (inside_at h [] (place_behind v s)))) is
        ∙ ap (origin_pushed net intent position v s) (sym found)
        ∙ ap (origin_onward net intent position v s) (sym binds)
        ∙ ap (λ (b : Bool). if b then origin_onward net intent position v s (behaviour_policy s.behaviour) else None) (sym goes)
        ∙ sym started

    pub origin_walked : {E : Type 0} (answer : Result (Option Origin) E)
        → IfOk answer (λ origin. option_map (end_at steps) origin ≡ inside_end net 999 (drop position steps) (inside_at top above place))
        → IfOk answer (λ origin. IfSome origin (λ (s : Origin). s.done ≤ length steps))
        → IfOk answer (λ origin. origin ≡ origin_behind net intent position v (slice_get net.sids v))
    origin_walked (Ok origin) value within =
        origin_end steps origin _ few (value ∙ ap (λ l. inside_end net 999 (drop position steps) (inside_at top l place)) none) ∙ tunnel_end
      where
        few : (f : Origin) → origin ≡ Some f → f.done ≤ length steps
        few f is = let P : Option Origin → Type 0 = λ o. IfSome o (λ (x : Origin). x.done ≤ length steps) in subst P is within
    origin_walked (Err e) value within = tt
