-- What the machine does at a SID: a packet that goes on does so from behind the SID, below the header of its policy; the steps that are
-- left then.
use Rattle.std.proofs.Common.{◌≡◌, ℕ, zero, suc, ◌-◌, ◌<◌, ◌≤◌, ◌⊎◌, inl, inr, Bool, true, false, ◌==◌, if◌then◌else◌, List, [], ◌∷◌, length, drop, Option, Some, None, slice_get, get_or, refl, sym, ap, ◌∙◌, subst, arith}
use Rattle.std.specs.Prelude.{IfSome}
use Rattle.std.specs.Option.{option_map, option_and_then}
use Rattle.std.proofs.lemmas.Option.{same_Some, slice_get_cases}
use Rattle.srv6_rules.specs.declared.family.Family.TheVariants as families
use Rattle.srv6_rules.specs.declared.sid.SidEntry.{SidEntry}
use Rattle.srv6_rules.specs.Behaviours.{behaviour_policy, behaviour_reduces}
use Rattle.srv6_rules.specs.Packet.{Packet, Content}
use Rattle.srv6_rules.specs.Policies.{outer_by}
use Rattle.srv6_rules.specs.Endpoint.{at_sid}
use Rattle.net_model.specs.declared.parts.NamedPolicy.{NamedPolicy}
use Rattle.net_model.specs.Network.{Network}
use Rattle.net_model.specs.NetworkKeeps.{Keeps}
use Rattle.walk_rules.specs.declared.place.Place.{Place}
use Rattle.walk_rules.specs.Treatment.{allow_of, onward_from}
use Rattle.walk_rules.specs.Way.{Way, Into, way_of}
use Rattle.intent_reader.specs.declared.intent.Step.{Step}
use Rattle.intent_reader.specs.declared.intent.Step.TheVariants.{Links, Function, Reach}
use Rattle.intent_reader.specs.declared.intent.Intent.{Intent}
use Rattle.leg_table.specs.StrictLegs.{place_behind}
use Rattle.leg_table.specs.StepMatching.{left_after, left_after_function}
use Rattle.leg_table.specs.WalkTrace.{TraceEvent, Executed, executed, is_titled}
use Rattle.binding_spec.specs.Machines.{Done, End, left_by, end_after}
use Rattle.tunnel_walks_theory.specs.MachinesTerms.{Got, got_after, got_by, got_of}
use Rattle.tunnel_walks_theory.specs.TunnelChoices.{EndsWith}
use Rattle.binding_spec.specs.TunnelPackets.{Look, Executes, Pushes}
use Rattle.tunnel_walks_theory.specs.TunnelPacketsTerms.{Tunnelled, Bared, Met, Onward, Under, open_at, pushed_at, own_by, own_move, met_by}
use Rattle.tunnel_walks_theory.specs.WalkRests.{rest_of, RestEnds}
use Rattle.tunnel_walks_theory.proofs.PublicLaws.{if_parts}
use Rattle.binding_spec.specs.NetworkWorld.{at_how, look_bound, look_onward, look_at_sid, look_in, look_by, look_at, step_events}
use Rattle.tunnel_network_theory.specs.FirstExecutions.{met_below, met_content}
use Rattle.binding_legs_theory.specs.BindingKind.{under_policy, onward_by, onward_at, onward_of, own_limit}
use Rattle.binding_legs_theory.proofs.BindingMeaningMachine.{network_world, own_got, GoesOnAs, Alone, Below}

-- what the machine does at a place from where a packet comes into a SID
pub look_into : (net : Network) (place : Place) (q : Packet) (n : ℕ) (s : SidEntry) → way_of net place q.destination ≡ Into n
    → slice_get net.sids n ≡ Some s
    → look_at net place q ≡ look_at_sid net place n s.behaviour (at_sid s (allow_of (slice_get net.nodes place.node)) q)
look_into net place q n s into there =
    ap (λ (w : Way). look_by net place w q) into ∙ ap (λ (o : Option SidEntry). look_in net place n o q) there

-- the first move of a walk that comes to the own hand_over
pub first_move : (net : Network) (fuel : ℕ) (place : Place) (q : Packet) (pick : ℕ → ℕ) (taken : ℕ) (g : Got TraceEvent ℕ (Bared Place Content))
    → own_got net fuel (open_at place q) pick taken ≡ Some g
    → (m : ℕ) × (got_by step_events (own_got net m) (own_by (network_world net) (look_at net place q)) pick taken ≡ Some g)
unfolding got_of
first_move net zero place q pick taken g h = cc
first_move net (suc m) place q pick taken g h = (m, h)

pub none_left : (us : List Step) → length us ≡ 0 → us ≡ []
none_left [] h = refl
none_left (u ∷ us) h = absurd (omega arith)

-- a policy that a SID binds is there
policy_there : {X : Type 0} (xs : List X) (i : ℕ) → i < length xs → (x : X) × (slice_get xs i ≡ Some x)
policy_there xs i within = by_cases (slice_get_cases xs i).1
  where
    by_cases : ((x : _) × (i < length xs) × (slice_get xs i ≡ Some x) × (get_or xs i x ≡ x)) ⊎ ((length xs ≤ i) × (slice_get xs i ≡ None))
        → (x : _) × (slice_get xs i ≡ Some x)
    by_cases (inl found) = (found.0, found.2)
    by_cases (inr none) = let few = none.0 in absurd (omega arith)

module _ (net : Network) (intent : Intent) where
  abbrev OwnEnd : Type 0
  OwnEnd = End Step ℕ (Bared Place Content)

  -- the packet goes on from SID n
  pub record GoesOnFrom (n : ℕ) (r : Packet) (look : Look ℕ ℕ Place Packet Content) : Type 0 where
    pub deep : Tunnelled Place Packet
    pub from : onward_of net intent (Some n) r ≡ Some deep
    pub goes : GoesOnAs r deep
    pub met : Met Place Packet Content
    pub looks : met_by (network_world net) look ≡ Done (executed net n) (n ∷ []) met
    pub rest : (more : ℕ) (pick : ℕ → ℕ) (chosen : ℕ) (told : List TraceEvent) (sids : List ℕ)
        → rest_of (network_world net) more pick chosen told sids met ≡ option_map (got_after told sids) (own_got net more deep pick chosen)
    pub gives : (fuel : ℕ) (pick : ℕ → ℕ) (taken : ℕ) → got_by step_events (own_got net fuel) (own_by (network_world net) look) pick taken
        ≡ option_map (got_after (executed net n) (n ∷ [])) (own_got net fuel deep pick taken)
    pub limit : own_limit (met_content met) (met_below met) ≡ Some r.hop_limit
    pub ends : (left : List Step) (sids : List ℕ) (e : OwnEnd) → RestEnds (network_world net) left sids met e
        → (later : OwnEnd) × EndsWith step_events (own_move (network_world net)) left deep later × (end_after sids later ≡ e)

  goes_alone : (n : ℕ) (at : Place) (r : Packet) → onward_of net intent (Some n) r ≡ Some (open_at at r) → GoesOnFrom n r (Executes n at r)
  goes_alone n at r from =
      record {
        deep = open_at at r;
        from = from;
        goes = Alone at refl;
        met = Onward at r;
        looks = refl;
        rest = λ more pick chosen told sids. refl;
        gives = λ fuel pick taken. refl;
        limit = refl;
        ends = λ left sids e h. h;
      }

  goes_below : (n : ℕ) (at : Place) (new r : Packet) → onward_of net intent (Some n) r ≡ Some (pushed_at at new r)
      → GoesOnFrom n r (Pushes n at new r)
  goes_below n at new r from =
      record {
        deep = pushed_at at new r;
        from = from;
        goes = Below at new refl;
        met = Under at new r;
        looks = refl;
        rest = λ more pick chosen told sids. refl;
        gives = λ fuel pick taken. refl;
        limit = refl;
        ends = λ left sids e h. h;
      }

  -- the place behind a SID of the node, for a packet of IPv6
  pub behind_how : (place : Place) (n : ℕ) (s : SidEntry) → s.node ≡ place.node → place.family ≡ families.V6
      → place_behind n s ≡ at_how place (onward_from n s.behaviour)
  behind_how place n s node v6 =
      ap (λ (m : ℕ). record { node = m; how = onward_from n s.behaviour; family = families.V6 }) node
      ∙ ap (λ f. record { node = place.node; how = onward_from n s.behaviour; family = f }) (sym v6)

  pub goes_on_from : Keeps net → (place : Place) (n : ℕ) (s : SidEntry) (r : Packet) → slice_get net.sids n ≡ Some s → s.node ≡ place.node
      → place.family ≡ families.V6 → GoesOnFrom n r (look_onward net place n s.behaviour r (behaviour_policy s.behaviour))
  goes_on_from keeps place n s r there node v6 = by_policy (behaviour_policy s.behaviour) refl (keeps.sid n s there).behaviour.policy
    where
      at : Place
      at = at_how place (onward_from n s.behaviour)

      is_at : place_behind n s ≡ at
      is_at = behind_how place n s node v6

      from_by : (o : Option ℕ) → behaviour_policy s.behaviour ≡ o → onward_of net intent (Some n) r ≡ onward_by net n s r o
      from_by o e = ap (onward_at net n r) there ∙ ap (onward_by net n s r) e

      named_by : (number : ℕ) → behaviour_policy s.behaviour ≡ Some number → (o : Option NamedPolicy) → slice_get net.policies number ≡ o
          → (x : NamedPolicy) × (o ≡ Some x) → GoesOnFrom n r (look_bound net place n s.behaviour r o)
      named_by number e None is some = cc
      named_by number e (Some named) is some =
          goes_below n at (outer_by named.policy (behaviour_reduces s.behaviour) families.V6 []) r
          (from_by (Some number) e ∙ ap (under_policy n s r) is
          ∙ ap (λ (x : Place). Some (pushed_at x (outer_by named.policy (behaviour_reduces s.behaviour) families.V6 []) r)) is_at)

      by_policy : (o : Option ℕ) → behaviour_policy s.behaviour ≡ o → IfSome o (λ number. number < length net.policies)
          → GoesOnFrom n r (look_onward net place n s.behaviour r o)
      by_policy None e within = goes_alone n at r (from_by None e ∙ ap (λ (x : Place). Some (open_at x r)) is_at)
      by_policy (Some number) e within =
          named_by number e (slice_get net.policies number) refl (policy_there net.policies number within)

-- ---- the steps that are left after an execution

module _ (net : Network) (n : ℕ) where
  -- those behind the execution, as the last of the steps before it
  pub record LeftBy (ts us : List Step) : Type 0 where
    pub left : left_by step_events ts (executed net n) ≡ Some us
    pub rest : us ≡ drop (length ts - length us) ts
    pub few : length us ≤ length ts

  left_out : is_titled net n ≡ false → (ts : List Step) → LeftBy ts ts
  left_out e ts =
      record {
        left = ap (λ (t : Bool). left_by step_events ts (if t then Executed n ∷ [] else [])) e;
        rest = let z : length ts - length ts ≡ 0 = omega arith in ap (λ (k : ℕ). drop k ts) (sym z);
        few = omega arith;
      }

  left_in : is_titled net n ≡ true → (sid : ℕ) (ts : List Step) → (sid == n) ≡ true → LeftBy (Function sid ∷ ts) ts
  left_in e sid ts same =
      record {
        left =
            ap (λ (t : Bool). left_by step_events (Function sid ∷ ts) (if t then Executed n ∷ [] else [])) e
            ∙ ap (λ (t : Bool). option_and_then (λ us. left_by step_events us []) (if t then Some ts else None)) same;
        rest = let z : suc (length ts) - length ts ≡ 1 = omega arith in ap (λ (k : ℕ). drop k (Function sid ∷ ts)) (sym z);
        few = omega arith;
      }

  -- so many steps are left
  pub left_executed : (ts : List Step) (left : ℕ) → left_after net n ts ≡ Some left → (us : List Step) × LeftBy ts us × (length us ≡ left)
  left_executed ts left h = by_title (is_titled net n) refl ts h
    where
      by_title : (t : Bool) → is_titled net n ≡ t → (ts : List Step)
          → (if t then left_after_function n ts else Some (length ts)) ≡ Some left
          → (us : List Step) × LeftBy ts us × (length us ≡ left)
      by_title false e ts h = (ts, left_out e ts, same_Some _ _ h)
      by_title true e [] h = cc
      by_title true e (Links set ∷ ts) h = cc
      by_title true e (Reach node ∷ ts) h = cc
      by_title true e (Function sid ∷ ts) h =
          let got = if_parts (sid == n) (Some (length ts)) left h in
          (ts, left_in e sid ts got.0, same_Some _ _ got.1)

  -- and the other way round
  pub executed_left : (ts us : List Step) → left_by step_events ts (executed net n) ≡ Some us
      → LeftBy ts us × (left_after net n ts ≡ Some (length us))
  executed_left ts us h = by_title (is_titled net n) refl ts h
    where
      by_title : (t : Bool) → is_titled net n ≡ t → (ts : List Step)
          → left_by step_events ts (if t then Executed n ∷ [] else []) ≡ Some us
          → LeftBy ts us × (left_after net n ts ≡ Some (length us))
      by_title false e ts h =
          let same : ts ≡ us = same_Some _ _ h in (
            subst (LeftBy ts) same (left_out e ts),
            ap (λ (t : Bool). if t then left_after_function n ts else Some (length ts)) e ∙ ap (λ (vs : List Step). Some (length vs)) same,
          )
      by_title true e [] h = cc
      by_title true e (Links set ∷ ts) h = cc
      by_title true e (Reach node ∷ ts) h = cc
      by_title true e (Function sid ∷ ts) h =
          let got = function_parts sid ts (sid == n) refl h in (
            subst (LeftBy (Function sid ∷ ts)) got.1 (left_in e sid ts got.0),
            ap (λ (t : Bool). if t then left_after_function n (Function sid ∷ ts) else Some (suc (length ts))) e
                ∙ ap (λ (t : Bool). if t then Some (length ts) else None) got.0 ∙ ap (λ (vs : List Step). Some (length vs)) got.1,
          )
        where
          function_parts : (sid : ℕ) (ts : List Step) (b : Bool) → (sid == n) ≡ b
              → option_and_then (λ us. left_by step_events us []) (if b then Some ts else None) ≡ Some us → ((sid == n) ≡ true) × (ts ≡ us)
          function_parts sid ts true e h = (e, same_Some _ _ h)
          function_parts sid ts false e h = cc
