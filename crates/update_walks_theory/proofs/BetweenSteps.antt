-- A stage in one of two networks that look up to equal entries is the stage in the other.
use Rattle.std.proofs.Common.{◌≡◌, ℕ, Bool, true, false, List, Option, None, Some, slice_get, refl, sym, ap, ◌∙◌, subst}
use Rattle.std.specs.Prelude.{◌-◌, ◌&&◌, nat_le, if◌then◌else◌, is_some}
use Rattle.std.specs.Option.{option_map}
use Rattle.srv6_rules.specs.declared.policy.Policy.{Policy}
use Rattle.srv6_rules.specs.declared.sid.Behaviour.{Behaviour}
use Rattle.srv6_rules.specs.declared.family.Family.{Family}
use Rattle.srv6_rules.specs.declared.family.Family.TheVariants as families
use Rattle.srv6_rules.specs.declared.reason.Reason.{Reason}
use Rattle.srv6_rules.specs.declared.reason.Reason.TheVariants as reasons
use Rattle.srv6_rules.specs.declared.sid.SidEntry.{SidEntry}
use Rattle.srv6_rules.specs.Behaviours.{behaviour_policy, behaviour_reduces, behaviour_table, behaviour_takes_links}
use Rattle.srv6_rules.specs.Endpoint.{Endpoint, Onward, Exposed, Delivered, Refused, at_address, at_sid}
use Rattle.srv6_rules.specs.Packet.{Content, Packet, V6, V4, Unreadable, spelling}
use Rattle.srv6_rules.specs.Packet4.{Packet4, destination4, ttl}
use Rattle.srv6_rules.specs.Policies.{Encapsulating, Outer, TooBig, InnerHop, pushed_by}
use Rattle.net_model.specs.declared.net.Hit.{Hit}
use Rattle.net_model.specs.declared.net.Hit.TheVariants as hits
use Rattle.net_model.specs.declared.parts.Link.{Link}
use Rattle.net_model.specs.declared.parts.NamedPolicy.{NamedPolicy}
use Rattle.net_model.specs.declared.parts.Node.{Node}
use Rattle.net_model.specs.Network.{Network}
use Rattle.net_model.specs.Best.{lookup_of}
use Rattle.walk_rules.specs.declared.place.How.{How}
use Rattle.walk_rules.specs.declared.place.How.TheVariants.{Arrived, Submitted, Through}
use Rattle.walk_rules.specs.declared.place.Outcome.TheVariants as outcomes
use Rattle.walk_rules.specs.Way.{Way, NoWay, Over, Own, Into, is_multicast_of, route_links, sid_links, way_by, way_by_hit, way_by_table, way_of}
use Rattle.walk_rules.specs.Treatment.{Gave, address_of, allow_of, bound_at_sid, dropped, error_from, error_of, free_step_of, goes, judged, judged_by, mtu_at, mtu_of, onward_at_sid, over_link, own_len, pushed_at_sid, sent, sent4, step_of, treated, treated4, treated_at_address, treated_at_sid, treated_in, way_on}
use Rattle.update_spec.specs.Lookups.{SameHit, SameSid}
use Rattle.update_spec.specs.Alike.{SameGave, SameHow, SameSidAt}
use Rattle.update_walks_theory.specs.AlikeTerms.{LooksAs}
use Rattle.update_walks_theory.proofs.BetweenCases.{same_each}

-- ---- SIDs that are equal do the same with a packet

sid_same : (a b : Network) (s t : SidEntry) → SameSid a b s t → s ≡ record t { title = s.title }
sid_same a b s t h = λ i. record t {
  node = h.node i;
  prefix = h.prefix i;
  behaviour = h.behaviour i;
  csid = h.csid i;
  block_len = h.block_len i;
  psp = h.psp i;
  usp = h.usp i;
  usd = h.usd i;
  links = h.links i;
  title = s.title;
}

endpoint_same : (a b : Network) (s t : SidEntry) (allow : List ℕ) (p : Packet) → SameSid a b s t → at_sid s allow p ≡ at_sid t allow p
endpoint_same a b s t allow p h = ap (λ (x : SidEntry). at_sid x allow p) (sid_same a b s t h)

module _ (a b : Network) (looks : LooksAs a b) where
  -- ---- ways

  abbrev SameWay : Way → Way → Type 0
  SameWay (NoWay r) (NoWay s) = r ≡ s
  SameWay (NoWay r) (Over set lower) = ⊥
  SameWay (NoWay r) Own = ⊥
  SameWay (NoWay r) (Into n) = ⊥
  SameWay (Over set lower) (NoWay s) = ⊥
  SameWay (Over set lower) (Over other low) = (set ≡ other) × (lower ≡ low)
  SameWay (Over set lower) Own = ⊥
  SameWay (Over set lower) (Into n) = ⊥
  SameWay Own (NoWay s) = ⊥
  SameWay Own (Over set lower) = ⊥
  SameWay Own Own = Unit {0}
  SameWay Own (Into n) = ⊥
  SameWay (Into m) (NoWay s) = ⊥
  SameWay (Into m) (Over set lower) = ⊥
  SameWay (Into m) Own = ⊥
  SameWay (Into m) (Into n) = SameSidAt a b m n

  way_hit : (lower : Bool) (h g : Hit) → SameHit a b h g → SameWay (way_by_hit a lower h) (way_by_hit b lower g)
  way_hit lower (hits.Sid m) (hits.Sid n) same = same
  way_hit lower (hits.Sid m) hits.Address same = absurd same
  way_hit lower (hits.Sid m) (hits.Route n) same = absurd same
  way_hit lower (hits.Sid m) hits.Nothing same = absurd same
  way_hit lower hits.Address (hits.Sid n) same = absurd same
  way_hit lower hits.Address hits.Address same = tt
  way_hit lower hits.Address (hits.Route n) same = absurd same
  way_hit lower hits.Address hits.Nothing same = absurd same
  way_hit lower (hits.Route m) (hits.Sid n) same = absurd same
  way_hit lower (hits.Route m) hits.Address same = absurd same
  way_hit lower (hits.Route m) (hits.Route n) same = (ap route_links same.1 ∙ sym (ap route_links same.2), refl)
  way_hit lower (hits.Route m) hits.Nothing same = absurd same
  way_hit lower hits.Nothing (hits.Sid n) same = absurd same
  way_hit lower hits.Nothing hits.Address same = absurd same
  way_hit lower hits.Nothing (hits.Route n) same = absurd same
  way_hit lower hits.Nothing hits.Nothing same = refl

  way_unless : (multicast lower : Bool) (h g : Hit) → SameHit a b h g
      → SameWay (if multicast then NoWay reasons.Multicast else way_by_hit a lower h)
      (if multicast then NoWay reasons.Multicast else way_by_hit b lower g)
  way_unless true lower h g same = refl
  way_unless false lower h g same = way_hit lower h g same

  way_table : (node table : ℕ) (family : Family) (lower : Bool) (d : ℕ)
      → SameWay (way_by_table a node table family lower d) (way_by_table b node table family lower d)
  way_table node table family lower d =
      way_unless (is_multicast_of family d) lower (lookup_of a node table family d) (lookup_of b node table family d)
      (looks.finds node table family d)

  way_how : (node : ℕ) (h k : How) (family : Family) (d : ℕ) → SameHow a b h k
      → SameWay (way_by a node h family d) (way_by b node k family d)
  way_how node (Arrived table) (Arrived other) family d same =
      subst (λ (t : ℕ). SameWay (way_by_table a node table family true d) (way_by_table b node t family true d)) same
      (way_table node table family true d)
  way_how node (Arrived table) (Submitted other) family d same = absurd same
  way_how node (Arrived table) (Through n lower) family d same = absurd same
  way_how node (Submitted table) (Arrived other) family d same = absurd same
  way_how node (Submitted table) (Submitted other) family d same =
      subst (λ (t : ℕ). SameWay (way_by_table a node table family false d) (way_by_table b node t family false d)) same
      (way_table node table family false d)
  way_how node (Submitted table) (Through n lower) family d same = absurd same
  way_how node (Through m lower) (Arrived other) family d same = absurd same
  way_how node (Through m lower) (Submitted other) family d same = absurd same
  way_how node (Through m lower) (Through n low) family d same =
      let sid = same.0 in
      (ap sid_links sid.2 ∙ (sid.4.links ∙ sym (ap sid_links sid.3)), same.1)

  -- ---- what is dropped, and what is sent

  error_same : (node : ℕ) (reason : Reason) (detail : ℕ) (content : Content)
      → error_of a node reason detail content ≡ error_of b node reason detail content
  unfolding error_of
  error_same node reason detail content =
      ap (λ (ns : List Node). error_from (address_of (slice_get ns node)) reason detail content) looks.nodes

  drop_same : (node : ℕ) (reason : Reason) (detail : ℕ) (content : Content)
      → SameGave a b (dropped a node reason detail content) (dropped b node reason detail content)
  drop_same node reason detail content =
      let same = error_same node reason detail content in
      record { outcome = (refl, ap (λ (e : Option Packet). is_some e) same); after = refl; error = same }

  one_or_other : (t : Bool) (x y z w : Gave) → SameGave a b x y → SameGave a b z w → SameGave a b (if t then x else z) (if t then y else w)
  one_or_other true x y z w one other = one
  one_or_other false x y z w one other = other

  send_same : (node : ℕ) (set : List ℕ) (lower : Bool) (p : Packet) (choice : ℕ)
      → SameGave a b (sent a node set lower p choice) (sent b node set lower p choice)
  send_same node set lower p choice = one_or_other (lower && nat_le p.hop_limit 1) _ _ _ _ (drop_same node reasons.HopLimit 0 (V6 p))
      (record { outcome = refl; after = refl; error = refl })

  send4_same : (node : ℕ) (set : List ℕ) (lower : Bool) (p : Packet4) (choice : ℕ)
      → SameGave a b (sent4 a node set lower p choice) (sent4 b node set lower p choice)
  send4_same node set lower p choice = one_or_other (lower && nat_le (ttl p) 1) _ _ _ _ (drop_same node reasons.Ttl 0 (V4 p))
      (record { outcome = refl; after = refl; error = refl })

  over_same : (node : ℕ) (set other : List ℕ) (lower low : Bool) (p : Packet) (choice : ℕ) → set ≡ other → lower ≡ low
      → SameGave a b (sent a node set lower p choice) (sent b node other low p choice)
  over_same node set other lower low p choice e f =
      subst (λ (l : Bool). SameGave a b (sent a node set lower p choice) (sent b node other l p choice)) f
      (subst (λ (xs : List ℕ). SameGave a b (sent a node set lower p choice) (sent b node xs lower p choice)) e
      (send_same node set lower p choice))

  over4_same : (node : ℕ) (set other : List ℕ) (lower low : Bool) (p : Packet4) (choice : ℕ) → set ≡ other → lower ≡ low
      → SameGave a b (sent4 a node set lower p choice) (sent4 b node other low p choice)
  over4_same node set other lower low p choice e f =
      subst (λ (l : Bool). SameGave a b (sent4 a node set lower p choice) (sent4 b node other l p choice)) f
      (subst (λ (xs : List ℕ). SameGave a b (sent4 a node set lower p choice) (sent4 b node xs lower p choice)) e
      (send4_same node set lower p choice))

  -- ---- at an address, and at a SID

  address_same : (node : ℕ) (p : Packet) (e : Endpoint) → SameGave a b (treated_at_address a node p e) (treated_at_address b node p e)
  address_same node p (Onward q) = drop_same node reasons.NoRoute 0 (V6 p)
  address_same node p (Exposed family bytes) = drop_same node reasons.NoRoute 0 (V6 p)
  address_same node p (Delivered q) = record { outcome = tt; after = refl; error = refl }
  address_same node p (Refused reason at) = drop_same node reason at (V6 p)

  module _ (m n : ℕ) (sid : SameSidAt a b m n) where
    way_on_law : (over_links goes_on : Bool) (table : Option ℕ)
        → SameHow a b (way_on m over_links goes_on table) (way_on n over_links goes_on table)
    way_on_law true goes_on table = (sid, refl)
    way_on_law false true table = refl
    way_on_law false false table = refl

    again_same : (h : Behaviour) (q : Packet)
        → SameGave a b (goes (outcomes.Again m (way_on m (behaviour_takes_links h) true (behaviour_table h))) (V6 q))
        (goes (outcomes.Again n (way_on n (behaviour_takes_links h) true (behaviour_table h))) (V6 q))
    again_same h q = record { outcome = (sid, way_on_law (behaviour_takes_links h) true (behaviour_table h)); after = refl; error = refl }

    pushed_same : (node : ℕ) (h : Behaviour) (p : Packet) (made : Encapsulating)
        → SameGave a b (pushed_at_sid a node m h p made) (pushed_at_sid b node n h p made)
    pushed_same node h p (Outer outer) = again_same h outer
    pushed_same node h p (TooBig length) = drop_same node reasons.TooBig 0 (V6 p)
    pushed_same node h p InnerHop = drop_same node reasons.InnerHop 0 (V6 p)

    bound_same : (node : ℕ) (h : Behaviour) (p q : Packet) (o r : Option NamedPolicy)
        → option_map (λ (x : NamedPolicy). x.policy) o ≡ option_map (λ (x : NamedPolicy). x.policy) r
        → SameGave a b (bound_at_sid a node m h p q o) (bound_at_sid b node n h p q r)
    bound_same node h p q None None e = drop_same node reasons.NoRoute 0 (V6 p)
    bound_same node h p q None (Some y) e = absurd (cc)
    bound_same node h p q (Some x) None e = absurd (cc)
    bound_same node h p q (Some x) (Some y) e =
        let same : x.policy ≡ y.policy = cc in
        subst (λ (policy : Policy). SameGave a b (bound_at_sid a node m h p q (Some x))
        (pushed_at_sid b node n h p (pushed_by policy (behaviour_reduces h) families.V6 (spelling q)))) same
        (pushed_same node h p (pushed_by x.policy (behaviour_reduces h) families.V6 (spelling q)))

    onward_same : (node : ℕ) (h : Behaviour) (p q : Packet) (o : Option ℕ)
        → SameGave a b (onward_at_sid a node m h p q o) (onward_at_sid b node n h p q o)
    onward_same node h p q None = again_same h q
    onward_same node h p q (Some number) =
        bound_same node h p q (slice_get a.policies number) (slice_get b.policies number) (looks.policies number)

    sid_treated : (node : ℕ) (h : Behaviour) (p : Packet) (e : Endpoint)
        → SameGave a b (treated_at_sid a node m h p e) (treated_at_sid b node n h p e)
    sid_treated node h p (Onward q) = onward_same node h p q (behaviour_policy h)
    sid_treated node h p (Exposed family bytes) =
        record { outcome = (sid, way_on_law (behaviour_takes_links h) false (behaviour_table h), refl); after = refl; error = refl }
    sid_treated node h p (Delivered q) = record { outcome = tt; after = refl; error = refl }
    sid_treated node h p (Refused reason at) = drop_same node reason at (V6 p)

    into_same : (node : ℕ) (p : Packet)
        → SameGave a b (treated_in a node m (slice_get a.sids m) p) (treated_in b node n (slice_get b.sids n) p)
    into_same node p =
        let s = sid.0 in
        let t = sid.1 in
        subst (λ (o : Option SidEntry). SameGave a b (treated_in a node m o p) (treated_in b node n (slice_get b.sids n) p)) (sym sid.2)
        (subst (λ (o : Option SidEntry). SameGave a b (treated_in a node m (Some s) p) (treated_in b node n o p)) (sym sid.3)
        (subst (λ (h : Behaviour). SameGave a b (treated_in a node m (Some s) p)
        (treated_at_sid b node n h p (at_sid t (allow_of (slice_get b.nodes node)) p))) sid.4.behaviour
        (subst (λ (e : Endpoint). SameGave a b (treated_in a node m (Some s) p) (treated_at_sid b node n s.behaviour p e))
        (ap (λ (ns : List Node). at_sid s (allow_of (slice_get ns node)) p) looks.nodes
        ∙ endpoint_same a b s t (allow_of (slice_get b.nodes node)) p sid.4)
        (sid_treated node s.behaviour p (at_sid s (allow_of (slice_get a.nodes node)) p)))))

  -- ---- a stage

  treated_same : (node : ℕ) (v w : Way) (p : Packet) (choice : ℕ) → SameWay v w
      → SameGave a b (treated a node v p choice) (treated b node w p choice)
  treated_same node (NoWay r) (NoWay s) p choice same =
      subst (λ (x : Reason). SameGave a b (dropped a node r 0 (V6 p)) (dropped b node x 0 (V6 p))) same (drop_same node r 0 (V6 p))
  treated_same node (NoWay r) (Over set lower) p choice same = absurd same
  treated_same node (NoWay r) Own p choice same = absurd same
  treated_same node (NoWay r) (Into n) p choice same = absurd same
  treated_same node (Over set lower) (NoWay s) p choice same = absurd same
  treated_same node (Over set lower) (Over other low) p choice same = over_same node set other lower low p choice same.0 same.1
  treated_same node (Over set lower) Own p choice same = absurd same
  treated_same node (Over set lower) (Into n) p choice same = absurd same
  treated_same node Own (NoWay s) p choice same = absurd same
  treated_same node Own (Over set lower) p choice same = absurd same
  treated_same node Own Own p choice same = address_same node p (at_address p)
  treated_same node Own (Into n) p choice same = absurd same
  treated_same node (Into m) (NoWay s) p choice same = absurd same
  treated_same node (Into m) (Over set lower) p choice same = absurd same
  treated_same node (Into m) Own p choice same = absurd same
  treated_same node (Into m) (Into n) p choice same = into_same m n same node p

  treated4_same : (node : ℕ) (v w : Way) (p : Packet4) (choice : ℕ) → SameWay v w
      → SameGave a b (treated4 a node v p choice) (treated4 b node w p choice)
  treated4_same node (NoWay r) (NoWay s) p choice same =
      subst (λ (x : Reason). SameGave a b (dropped a node r 0 (V4 p)) (dropped b node x 0 (V4 p))) same (drop_same node r 0 (V4 p))
  treated4_same node (NoWay r) (Over set lower) p choice same = absurd same
  treated4_same node (NoWay r) Own p choice same = absurd same
  treated4_same node (NoWay r) (Into n) p choice same = absurd same
  treated4_same node (Over set lower) (NoWay s) p choice same = absurd same
  treated4_same node (Over set lower) (Over other low) p choice same = over4_same node set other lower low p choice same.0 same.1
  treated4_same node (Over set lower) Own p choice same = absurd same
  treated4_same node (Over set lower) (Into n) p choice same = absurd same
  treated4_same node Own (NoWay s) p choice same = absurd same
  treated4_same node Own (Over set lower) p choice same = absurd same
  treated4_same node Own Own p choice same = drop_same node reasons.NoRoute 0 (V4 p)
  treated4_same node Own (Into n) p choice same = absurd same
  treated4_same node (Into m) (NoWay s) p choice same = absurd same
  treated4_same node (Into m) (Over set lower) p choice same = absurd same
  treated4_same node (Into m) Own p choice same = absurd same
  treated4_same node (Into m) (Into n) p choice same = drop_same node reasons.NoRoute 0 (V4 p)

  way_same : (node : ℕ) (h k : How) (family : Family) (d : ℕ) → SameHow a b h k
      → SameWay (way_of a (record { node = node; how = h; family = family }) d)
      (way_of b (record { node = node; how = k; family = family }) d)
  unfolding way_of
  way_same node h k family d same = way_how node h k family d same

  -- the MTU of a link that is taken

  link_same : (node : ℕ) (content : Content) (x y : Gave) (link : ℕ) → SameGave a b x y
      → SameGave a b (over_link a node content x link) (over_link b node content y link)
  link_same node content x y link same =
      let mtu : mtu_at a link ≡ mtu_at b link = ap (λ (ls : List Link). mtu_of (slice_get ls link)) looks.links in
      subst (λ (most : ℕ). SameGave a b (over_link a node content x link)
      (if nat_le (own_len content) most then y else dropped b node reasons.MtuExceeded most content)) mtu
      (one_or_other (nat_le (own_len content) (mtu_at a link)) _ _ _ _ same (drop_same node reasons.MtuExceeded (mtu_at a link) content))

  judged_same : (node : ℕ) (content : Content) (x y : Gave) → SameGave a b x y
      → SameGave a b (judged a node content x) (judged b node content y)
  judged_same node content x y same =
      same_each a b (λ o p. SameGave a b (judged_by a node content x o) (judged_by b node content y p))
      (record {
        again = λ m n how on sid goes. same;
        hand = λ m n how on family sid goes. same;
        send = λ link. link_same node content x y link same;
        local_ = same;
        drop_ = λ reason told. same;
      })
      x.outcome y.outcome same.outcome

  free_same : (node : ℕ) (h k : How) (family : Family) (content : Content) (choice : ℕ) → SameHow a b h k
      → SameGave a b (free_step_of a (record { node = node; how = h; family = family }) content choice)
      (free_step_of b (record { node = node; how = k; family = family }) content choice)
  free_same node h k family (Unreadable bytes reason) choice same = drop_same node reason 0 (Unreadable bytes reason)
  free_same node h k family (V6 p) choice same =
      treated_same node _ _ p choice (way_same node h k family p.destination same)
  free_same node h k family (V4 p) choice same =
      treated4_same node _ _ p choice (way_same node h k family (destination4 p) same)

  pub step_same : (node : ℕ) (h k : How) (family : Family) (content : Content) (choice : ℕ) → SameHow a b h k
      → SameGave a b (step_of a (record { node = node; how = h; family = family }) content choice)
      (step_of b (record { node = node; how = k; family = family }) content choice)
  step_same node h k family content choice same = judged_same node content _ _ (free_same node h k family content choice same)
