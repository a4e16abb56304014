-- Packets at the places of a list: the stage of the SID that is active there, and the steps left after it.
use Rattle.std.proofs.Common.{◌≡◌, ℕ, suc, ◌-◌, ◌<◌, ◌≤◌, Bool, true, false, ◌==◌, ◌&&◌, if◌then◌else◌, List, [], ◌∷◌, ◌++◌, length, drop, Some, None, slice_get, refl, sym, ◌∙◌, ap, subst, arith, eqb-true, append-nil}
use Rattle.std.proofs.lemmas.Bool.{false≢true, and_parts, eq-eqb}
use Rattle.srv6_rules.specs.declared.family.Family.{Family}
use Rattle.srv6_rules.specs.declared.family.Family.TheVariants as families
use Rattle.srv6_rules.specs.declared.reason.Reason.TheVariants as reasons
use Rattle.srv6_rules.specs.declared.sid.SidEntry.{SidEntry}
use Rattle.srv6_rules.specs.Packet.{Packet, V6, read_as}
use Rattle.srv6_rules.specs.Endpoint.{Endpoint, at_sid}
use Rattle.net_model.specs.declared.net.Hit.{Hit}
use Rattle.net_model.specs.declared.net.Hit.TheVariants as hits
use Rattle.net_model.specs.Network.{Network}
use Rattle.net_model.specs.NetworkRulesTerms.{IsNetwork}
use Rattle.net_flatness.specs.Flat.{IsFlat}
use Rattle.net_flatness.specs.NestsTerms.{IsOwn}
use Rattle.net_model.specs.Best.{lookup_of}
use Rattle.net_model.proofs.PublicLaws.{matched_sid_holds}
use Rattle.net_flatness.proofs.PublicLaws.{one_sid_prefix}
use Rattle.walk_rules.specs.declared.place.How.{How}
use Rattle.walk_rules.specs.declared.place.How.TheVariants.{Arrived, Submitted, Through}
use Rattle.walk_rules.specs.declared.place.Place.{Place}
use Rattle.walk_rules.specs.declared.place.Outcome.TheVariants as outcomes
use Rattle.walk_rules.specs.Walk.{next_place}
use Rattle.walk_rules.specs.Way.{NoWay, Into, is_multicast_of, way_of, way_by, way_by_hit}
use Rattle.walk_rules.specs.Treatment.{Gave, goes, treated_at_sid, allow_of, free_step_of as step_of, onward_from, exposed_from, dropped}
use Rattle.intent_reader.specs.declared.intent.Step.{Step}
use Rattle.intent_reader.specs.declared.intent.Step.TheVariants.{Links, Function, Reach}
use Rattle.sid_list_theory.specs.ListPlaces as lists
use Rattle.sid_list_theory.specs.ListPlaces.{Tunnel, form, active, next_of, stays_routed, StandsOn, Along}
use Rattle.sid_list_theory.proofs.PublicLaws.{along_onward, along_tired, along_next, along_exposed}
use Rattle.leg_table.specs.WalkTrace.{TraceEvent, Executed, is_titled, executed}
use Rattle.leg_table.specs.StepMatching.{matches, left_after, left_after_function}
use Rattle.leg_table.specs.StrictLegs.{place_behind}
use Rattle.leg_table.specs.PositionSids.{takes_step, hands_over}
use Rattle.leg_table.proofs.StrictOptions.{if_some, some_same}
use Rattle.leg_table.proofs.StrictExecutions.{step_parts, stage_into, taken_onward}

-- after an execution of an IPv6 packet the packet stands at the SID's node, and goes on in the SID's way
pub behind_again : (net : Network) (at : Place) (n : ℕ) (s : SidEntry) → s.node ≡ at.node → at.family ≡ families.V6
    → next_place net at (outcomes.Again n (onward_from n s.behaviour)) ≡ Some (place_behind n s)
behind_again net at n s stands v6 =
    ap (λ (x : ℕ). Some (record { node = x; how = onward_from n s.behaviour; family = at.family })) (sym stands)
    ∙ ap (λ x. Some (record { node = s.node; how = onward_from n s.behaviour; family = x })) v6

-- the way into a SID is by a look-up
into_lookup : (net : Network) (place : Place) (a n : ℕ) → way_of net place a ≡ Into n
    → (table : ℕ) × (lookup_of net place.node table place.family a ≡ hits.Sid n)
unfolding way_of
into_lookup net place a n e = by_how place.how e
  where
    by_hit : (lower : Bool) (h : Hit) → way_by_hit net lower h ≡ Into n → h ≡ hits.Sid n
    by_hit lower (hits.Sid m) e = cc
    by_hit lower hits.Address e = absurd (cc)
    by_hit lower (hits.Route m) e = absurd (cc)
    by_hit lower hits.Nothing e = absurd (cc)

    by_table : (table : ℕ) (lower t : Bool)
        → (if t then NoWay reasons.Multicast else way_by_hit net lower (lookup_of net place.node table place.family a)) ≡ Into n
        → (table : ℕ) × (lookup_of net place.node table place.family a ≡ hits.Sid n)
    by_table table lower true e = absurd (cc)
    by_table table lower false e = (table, by_hit lower (lookup_of net place.node table place.family a) e)

    by_how : (how : How) → way_by net place.node how place.family a ≡ Into n
        → (table : ℕ) × (lookup_of net place.node table place.family a ≡ hits.Sid n)
    by_how (Arrived table) e = by_table table true (is_multicast_of place.family a) e
    by_how (Submitted table) e = by_table table false (is_multicast_of place.family a) e
    by_how (Through sid lower) e = absurd (cc)

-- in a flat network a packet to an own address of a SID comes into SIDs of that SID's prefix alone
pub into_prefix : (net : Network) → IsNetwork net → IsFlat net → (place : Place) (m n a : ℕ) (s t : SidEntry)
    → slice_get net.sids m ≡ Some s
    → slice_get net.sids n ≡ Some t → IsOwn net s a → way_of net place a ≡ Into n → s.prefix ≡ t.prefix
into_prefix net network flat place m n a s t hm hn own e =
    let found = into_lookup net place a n e in
    let v6 = (matched_sid_holds net n t place.node found.0 place.family a found.1 hn).2 in
    let hit = subst (λ (f : Family). lookup_of net place.node found.0 f a ≡ hits.Sid n) v6 found.1 in
    one_sid_prefix net m n s t place.node found.0 a network flat hm own hit hn

-- the stage at a place of a list from which a packet comes into a SID of the place's prefix
module _ (net : Network) (tunnel : Tunnel) (x : lists.ListPlace) (hop : ℕ) (q : Packet) (along : Along tunnel x hop q) (place : Place)
    (n choice : ℕ) (s : SidEntry) (into : way_of net place q.destination ≡ Into n) (there : slice_get net.sids n ≡ Some s)
    (on : StandsOn s (active x)) where
  abbrev pub stage : Gave
  stage = step_of net place (V6 q) choice

  abbrev pub allow : List ℕ
  allow = allow_of (slice_get net.nodes place.node)

  abbrev given : Endpoint → Gave
  given e = treated_at_sid net place.node n s.behaviour q e

  pub stage_is : stage ≡ given (at_sid s allow q)
  stage_is = stage_into net place q n s choice into there

  -- at a SID that is not the last
  pub mid_onward : takes_step s ≡ true → (y : lists.ListPlace) → next_of x ≡ Some y → 1 < hop
      → (r : Packet) × (stage ≡ goes (outcomes.Again n (onward_from n s.behaviour)) (V6 r)) × Along tunnel y (hop - 1) r
  mid_onward takes y to high = (
    form tunnel y (stays_routed s.psp x y along.routed) (hop - 1),
    stage_is ∙ ap given (along_onward s allow tunnel x y hop q along on (step_parts s takes).0 to high)
        ∙ taken_onward net place.node n s q _ takes,
    along_next tunnel x y hop (hop - 1) q s.psp along to,
  )

  pub mid_low : takes_step s ≡ true → (y : lists.ListPlace) → next_of x ≡ Some y → hop ≤ 1
      → stage ≡ dropped net place.node reasons.HopLimit 0 (V6 q)
  mid_low takes y to low = stage_is ∙ ap given (along_tired s allow tunnel x y hop q along on (step_parts s takes).0 to low)

  -- at the last SID
  pub last_exposes : next_of x ≡ None → hands_over tunnel.inner s ≡ true
      → stage ≡ goes (outcomes.Hand n (exposed_from n s.behaviour) tunnel.inner) (read_as tunnel.inner tunnel.bytes)
  last_exposes last shows = stage_is ∙ ap given (along_exposed s allow tunnel x hop q along on last shows)

-- the steps left after an execution that meets the steps
module _ (net : Network) (n : ℕ) where
  pub record LeftBehind (ts us : List Step) : Type 0 where
    pub left : left_after net n ts ≡ Some (length us)
    pub rest : us ≡ drop (length ts - length us) ts
    pub few : length us ≤ length ts
    pub same : (es : List TraceEvent) → matches ts (executed net n ++ es) ≡ matches us es

  title_out : is_titled net n ≡ false → (ts : List Step) → LeftBehind ts ts
  title_out e ts =
      record {
        left = ap (λ (t : Bool). if t then left_after_function n ts else Some (length ts)) e;
        rest = let z : length ts - length ts ≡ 0 = omega arith in ap (λ (k : ℕ). drop k ts) (sym z);
        few = omega arith;
        same = λ es. ap (λ (t : Bool). matches ts ((if t then Executed n ∷ [] else []) ++ es)) e;
      }

  title_in : is_titled net n ≡ true → (sid : ℕ) (ts : List Step) → sid ≡ n → LeftBehind (Function sid ∷ ts) ts
  title_in e sid ts same =
      record {
        left =
            ap (λ (t : Bool). if t then left_after_function n (Function sid ∷ ts) else Some (suc (length ts))) e
            ∙ ap (λ (t : Bool). if t then Some (length ts) else None) (eq-eqb sid n same);
        rest = let z : suc (length ts) - length ts ≡ 1 = omega arith in ap (λ (k : ℕ). drop k (Function sid ∷ ts)) (sym z);
        few = omega arith;
        same = λ es.
            ap (λ (t : Bool). matches (Function sid ∷ ts) ((if t then Executed n ∷ [] else []) ++ es)) e
            ∙ ap (λ (t : Bool). t && matches ts es) (eq-eqb sid n same);
      }

  -- so many steps are left
  pub left_behind : (ts : List Step) (left : ℕ) → left_after net n ts ≡ Some left → (us : List Step) × LeftBehind ts us × (length us ≡ left)
  left_behind ts left h = by_title (is_titled net n) refl ts h
    where
      by_title : (t : Bool) → is_titled net n ≡ t → (ts : List Step)
          → (if t then left_after_function n ts else Some (length ts)) ≡ Some left
          → (us : List Step) × LeftBehind ts us × (length us ≡ left)
      by_title false e ts h = (ts, title_out e ts, some_same (length ts) left h)
      by_title true e [] h = absurd (cc)
      by_title true e (Links set ∷ ts) h = absurd (cc)
      by_title true e (Reach node ∷ ts) h = absurd (cc)
      by_title true e (Function sid ∷ ts) h =
          let got = if_some (sid == n) (Some (length ts)) left h in
          (ts, title_in e sid ts (eqb-true sid n got.0), some_same (length ts) left got.1)

  -- and so it is where the events meet the steps
  pub meets_behind : (ts : List Step) (es : List TraceEvent) → matches ts (executed net n ++ es) ≡ true → (us : List Step) × LeftBehind ts us
  meets_behind ts es h = by_title (is_titled net n) refl ts h
    where
      by_title : (t : Bool) → is_titled net n ≡ t → (ts : List Step) → matches ts ((if t then Executed n ∷ [] else []) ++ es) ≡ true
          → (us : List Step) × LeftBehind ts us
      by_title false e ts h = (ts, title_out e ts)
      by_title true e [] h = absurd (false≢true h)
      by_title true e (Links set ∷ ts) h = absurd (false≢true h)
      by_title true e (Reach node ∷ ts) h = absurd (false≢true h)
      by_title true e (Function sid ∷ ts) h = (ts, title_in e sid ts (eqb-true sid n (and_parts (sid == n) (matches ts es) h).0))

  pub behind_alone : (ts us : List Step) → LeftBehind ts us → matches ts (executed net n) ≡ matches us []
  behind_alone ts us b = ap (matches ts) (sym (append-nil (executed net n))) ∙ b.same []
