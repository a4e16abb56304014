-- What holds of each outcome of a stage: what its ends leave, the error that it tells of, and the link that it names.
use Rattle.std.proofs.Common.{◌≡◌, ℕ, ◌⊎◌, inl, inr, Bool, true, false, List, Option, Some, None, slice_get, Contains, refl, sym, ◌∙◌, ap, subst}
use Rattle.srv6_rules.specs.declared.sid.Behaviour.{Behaviour}
use Rattle.srv6_rules.specs.declared.reason.Reason.{Reason}
use Rattle.srv6_rules.specs.declared.reason.Reason.TheVariants as reasons
use Rattle.srv6_rules.specs.declared.sid.SidEntry.{SidEntry}
use Rattle.srv6_rules.specs.Packet.{Packet, Content, V6, V4, Unreadable}
use Rattle.srv6_rules.specs.Packet4.{Packet4, ttl, destination4}
use Rattle.srv6_rules.specs.Endpoint.{Endpoint, Onward, Exposed, Delivered, Refused, at_sid, at_address}
use Rattle.srv6_rules.proofs.PublicLaws.{at_sid_delivered, at_sid_delivered_fields, at_address_delivered}
use Rattle.net_model.specs.Network.{Network}
use Rattle.walk_rules.specs.declared.place.Place.{Place}
use Rattle.walk_rules.specs.declared.place.Outcome.{Outcome}
use Rattle.walk_rules.specs.declared.place.Outcome.TheVariants as outcomes
use Rattle.walk_rules.specs.Way.{Way, NoWay, Over, Own, Into, way_of}
use Rattle.walk_rules.specs.Treatment.{Gave, dropped, goes, member_of, lowered, ttl_lowered, treated_at_address, treated_at_sid, treated_in, treated, treated4, free_step_of, allow_of}
use Rattle.walk_rules.specs.Relation.{Treats, Treats4, IsFreeStage}
use Rattle.walk_rules.specs.WalkLaws.{set_of, hops_at}
use Rattle.walk_rules.specs.WalkLawsTerms.{IsDeliveredBehindUsp, TellsOfError}
use Rattle.walk_rules.proofs.Binding.{onward_each}
use Rattle.walk_rules.proofs.Sending.{sends_by, sends4_by, sent_by_either, sends_by_member, sends_by_each}

-- what is given at SID n of a node, whose entry is this one
abbrev pub at_entry : Network → ℕ → ℕ → SidEntry → Packet → Gave
at_entry net node n s p = treated_at_sid net node n s.behaviour p (at_sid s (allow_of (slice_get net.nodes node)) p)

-- what is to be shown of each thing that a node may do with a packet, so that it holds of what the node does
pub record EachWay (P : Gave → Type 0) (net : Network) (node : ℕ) (w : Way) (p : Packet) (choice : ℕ) : Type 0 where
  pub drop : (reason : Reason) (at : ℕ) → P (dropped net node reason at (V6 p))
  pub send : (set : List ℕ) (lower : Bool) → w ≡ Over set lower
      → P (goes (outcomes.Send (member_of set choice)) (V6 (lowered lower p)))
  pub own : P (treated_at_address net node p (at_address p))
  pub sid : (n : ℕ) (s : SidEntry) → w ≡ Into n → slice_get net.sids n ≡ Some s → P (at_entry net node n s p)

pub treated_each : (P : Gave → Type 0) (net : Network) (node : ℕ) (w : Way) (p : Packet) (choice : ℕ) → EachWay P net node w p choice
    → P (treated net node w p choice)
treated_each P net node w p choice each = by_way w refl
  where
    by_sid : (n : ℕ) (o : Option SidEntry) → w ≡ Into n → slice_get net.sids n ≡ o → P (treated_in net node n o p)
    by_sid n None e there = each.drop reasons.NoRoute 0
    by_sid n (Some s) e there = each.sid n s e there

    by_way : (v : Way) → w ≡ v → P (treated net node v p choice)
    by_way (NoWay reason) e = each.drop reason 0
    by_way (Over set lower) e =
        sent_by_either net node set p.hop_limit reasons.HopLimit (V6 p) (V6 (lowered lower p)) P lower choice
        (each.drop reasons.HopLimit 0) (each.send set lower e)
    by_way Own e = each.own
    by_way (Into n) e = by_sid n (slice_get net.sids n) e refl

-- so of each thing that a node may do with an IPv4 packet
pub record EachWay4 (P : Gave → Type 0) (net : Network) (node : ℕ) (w : Way) (p : Packet4) (choice : ℕ) : Type 0 where
  pub drop : (reason : Reason) → P (dropped net node reason 0 (V4 p))
  pub send : (set : List ℕ) (lower : Bool) → w ≡ Over set lower
      → P (goes (outcomes.Send (member_of set choice)) (V4 (ttl_lowered lower p)))

pub treated4_each : (P : Gave → Type 0) (net : Network) (node : ℕ) (w : Way) (p : Packet4) (choice : ℕ) → EachWay4 P net node w p choice
    → P (treated4 net node w p choice)
treated4_each P net node w p choice each = by_way w refl
  where
    by_way : (v : Way) → w ≡ v → P (treated4 net node v p choice)
    by_way (NoWay reason) e = each.drop reason
    by_way (Over set lower) e =
        sent_by_either net node set (ttl p) reasons.Ttl (V4 p) (V4 (ttl_lowered lower p)) P lower choice (each.drop reasons.Ttl)
        (each.send set lower e)
    by_way Own e = each.drop reasons.NoRoute
    by_way (Into n) e = each.drop reasons.NoRoute

-- what stands after an outcome that ends a packet here is what stood before, but for headers that a SID with USP took out
abbrev Leaves : Network → Place → Content → Outcome → Content → Type 0
Leaves net place content (outcomes.Send link) after = Unit {0}
Leaves net place content (outcomes.Again n how) after = Unit {0}
Leaves net place content (outcomes.Hand n how family) after = Unit {0}
Leaves net place content outcomes.Local after = (after ≡ content) ⊎ IsDeliveredBehindUsp net place content after
Leaves net place content (outcomes.Drop reason error) after = after ≡ content

abbrev GaveLeaves : Network → Place → Content → Gave → Type 0
GaveLeaves net place content gave = Leaves net place content gave.outcome gave.after

address_leaves : (net : Network) (place : Place) (p : Packet) (e : Endpoint) → at_address p ≡ e
    → GaveLeaves net place (V6 p) (treated_at_address net place.node p e)
address_leaves net place p (Onward q) same = refl
address_leaves net place p (Exposed family bytes) same = refl
address_leaves net place p (Delivered q) same = inl (ap V6 (at_address_delivered p q same))
address_leaves net place p (Refused reason at) same = refl

-- a SID hands a packet over as it was, or has USP
delivered_leaves : (net : Network) (place : Place) (n : ℕ) (s : SidEntry) (allow : List ℕ) (p q : Packet) (usp : Bool)
    → way_of net place p.destination ≡ Into n → slice_get net.sids n ≡ Some s → s.usp ≡ usp → at_sid s allow p ≡ Delivered q
    → (V6 q ≡ V6 p) ⊎ IsDeliveredBehindUsp net place (V6 p) (V6 q)
delivered_leaves net place n s allow p q false into there usp same = inl (ap V6 (at_sid_delivered s allow p q usp same))
delivered_leaves net place n s allow p q true into there usp same =
    inr (record {
      before = p;
      left = q;
      was = refl;
      is = refl;
      n = n;
      sid = s;
      way = into;
      is_there = there;
      usp = usp;
      others = at_sid_delivered_fields s allow p q same;
    })

endpoint_leaves : (net : Network) (place : Place) (n : ℕ) (s : SidEntry) (allow : List ℕ) (p : Packet) (e : Endpoint)
    → way_of net place p.destination ≡ Into n → slice_get net.sids n ≡ Some s → at_sid s allow p ≡ e
    → GaveLeaves net place (V6 p) (treated_at_sid net place.node n s.behaviour p e)
endpoint_leaves net place n s allow p (Onward q) into there same =
    onward_each net place.node n s.behaviour p q (GaveLeaves net place (V6 p)) (λ plain. tt) (λ number named binds is fits. tt)
    (λ reason. refl)
endpoint_leaves net place n s allow p (Exposed family bytes) into there same = tt
endpoint_leaves net place n s allow p (Delivered q) into there same = delivered_leaves net place n s allow p q s.usp into there refl same
endpoint_leaves net place n s allow p (Refused reason at) into there same = refl

free_leaves : (net : Network) (place : Place) (content : Content) (choice : ℕ)
    → GaveLeaves net place content (free_step_of net place content choice)
free_leaves net place (Unreadable bytes reason) choice = refl
free_leaves net place (V6 p) choice =
    treated_each (GaveLeaves net place (V6 p)) net place.node (way_of net place p.destination) p choice
    (record {
      drop = λ reason at. refl;
      send = λ set lower e. tt;
      own = address_leaves net place p (at_address p) refl;
      sid = λ n s into there.
          let allow = allow_of (slice_get net.nodes place.node) in
          endpoint_leaves net place n s allow p (at_sid s allow p) into there refl;
    })
free_leaves net place (V4 p) choice =
    treated4_each (GaveLeaves net place (V4 p)) net place.node (way_of net place (destination4 p)) p choice
    (record { drop = λ reason. refl; send = λ set lower e. tt })

pub free_drop : (net : Network) (place : Place) (content : Content) (choice : ℕ) (reason : Reason) (error : Bool)
    → (free_step_of net place content choice).outcome ≡ outcomes.Drop reason error → (free_step_of net place content choice).after ≡ content
free_drop net place content choice reason error e =
    subst (λ (o : Outcome). Leaves net place content o (free_step_of net place content choice).after) e
    (free_leaves net place content choice)

pub free_local : (net : Network) (place : Place) (content : Content) (choice : ℕ)
    → let gave = free_step_of net place content choice in gave.outcome ≡ outcomes.Local
    → (gave.after ≡ content) ⊎ IsDeliveredBehindUsp net place content gave.after
free_local net place content choice e =
    subst (λ (o : Outcome). Leaves net place content o (free_step_of net place content choice).after) e
    (free_leaves net place content choice)

-- a drop tells whether an error is sent, and with another outcome none is
abbrev GaveTells : Gave → Type 0
GaveTells gave = TellsOfError gave.outcome gave.error

address_tells : (net : Network) (node : ℕ) (p : Packet) (e : Endpoint) → GaveTells (treated_at_address net node p e)
address_tells net node p (Onward q) = refl
address_tells net node p (Exposed family bytes) = refl
address_tells net node p (Delivered q) = refl
address_tells net node p (Refused reason at) = refl

endpoint_tells : (net : Network) (node n : ℕ) (b : Behaviour) (p : Packet) (e : Endpoint) → GaveTells (treated_at_sid net node n b p e)
endpoint_tells net node n b p (Onward q) =
    onward_each net node n b p q GaveTells (λ plain. refl) (λ number named binds is fits. refl) (λ reason. refl)
endpoint_tells net node n b p (Exposed family bytes) = refl
endpoint_tells net node n b p (Delivered q) = refl
endpoint_tells net node n b p (Refused reason at) = refl

pub free_tells : (net : Network) (place : Place) (content : Content) (choice : ℕ) → GaveTells (free_step_of net place content choice)
free_tells net place (Unreadable bytes reason) choice = refl
free_tells net place (V6 p) choice =
    treated_each GaveTells net place.node (way_of net place p.destination) p choice
    (record {
      drop = λ reason at. refl;
      send = λ set lower e. refl;
      own = address_tells net place.node p (at_address p);
      sid = λ n s e there. endpoint_tells net place.node n s.behaviour p (at_sid s (allow_of (slice_get net.nodes place.node)) p);
    })
free_tells net place (V4 p) choice =
    treated4_each GaveTells net place.node (way_of net place (destination4 p)) p choice
    (record { drop = λ reason. refl; send = λ set lower e. refl })

-- a choice sends on the member that it names, and else nothing is sent
abbrev Names : List ℕ → ℕ → Gave → Type 0
Names set choice gave = (link : ℕ) → outcomes.Send link ≡ gave.outcome → link ≡ member_of set choice

-- a SID or an address sends nothing
pub address_quiet : (net : Network) (node : ℕ) (p : Packet) (x : Endpoint) (link : ℕ)
    → outcomes.Send link ≡ (treated_at_address net node p x).outcome → ⊥
address_quiet net node p (Onward q) link e = cc
address_quiet net node p (Exposed family bytes) link e = cc
address_quiet net node p (Delivered q) link e = cc
address_quiet net node p (Refused reason at) link e = cc

endpoint_quiet : (net : Network) (node n : ℕ) (b : Behaviour) (p : Packet) (x : Endpoint) (link : ℕ)
    → outcomes.Send link ≡ (treated_at_sid net node n b p x).outcome → ⊥
endpoint_quiet net node n b p (Onward q) link e =
    onward_each net node n b p q (λ gave. outcomes.Send link ≡ gave.outcome → ⊥) (λ plain same. cc)
    (λ number named binds is fits same. cc) (λ reason same. cc) e
endpoint_quiet net node n b p (Exposed family bytes) link e = cc
endpoint_quiet net node n b p (Delivered q) link e = cc
endpoint_quiet net node n b p (Refused reason at) link e = cc

drop_quiet : (reason : Reason) (error : Bool) (link : ℕ) → outcomes.Send link ≡ outcomes.Drop reason error → ⊥
drop_quiet reason error link e = cc

pub sid_quiet : (net : Network) (node n : ℕ) (o : Option SidEntry) (p : Packet) (link : ℕ)
    → outcomes.Send link ≡ (treated_in net node n o p).outcome → ⊥
sid_quiet net node n None p link = λ e. cc
sid_quiet net node n (Some s) p link =
    endpoint_quiet net node n s.behaviour p (at_sid s (allow_of (slice_get net.nodes node)) p) link

module _ (net : Network) (node : ℕ) where
  treats_member : (w : Way) (p : Packet) (link : ℕ) (after : Content) (error : Option Packet)
      → Treats net node w p (outcomes.Send link) after error → Contains (set_of w) link
  treats_member (NoWay reason) p link after error h = absurd (drop_quiet reason _ link h.0)
  treats_member (Over set lower) p link after error h =
      sends_by_member net node set p.hop_limit reasons.HopLimit (V6 p) (V6 (lowered lower p)) lower link after error
      ((sends_by net node set lower p (outcomes.Send link) after error).0 h)
  treats_member Own p link after error h = absurd (address_quiet net node p (at_address p) link h.0)
  treats_member (Into n) p link after error h = absurd (sid_quiet net node n (slice_get net.sids n) p link h.0)

  treats_each : (w : Way) (p : Packet) (link other : ℕ) (after : Content) (error : Option Packet)
      → Treats net node w p (outcomes.Send link) after error → Contains (set_of w) other
      → Treats net node w p (outcomes.Send other) after error
  treats_each (NoWay reason) p link other after error h there = absurd (drop_quiet reason _ link h.0)
  treats_each (Over set lower) p link other after error h there =
      (sends_by net node set lower p (outcomes.Send other) after error).1
      (sends_by_each net node set p.hop_limit reasons.HopLimit (V6 p) (V6 (lowered lower p)) lower link other after error
      ((sends_by net node set lower p (outcomes.Send link) after error).0 h) there)
  treats_each Own p link other after error h there = absurd (address_quiet net node p (at_address p) link h.0)
  treats_each (Into n) p link other after error h there = absurd (sid_quiet net node n (slice_get net.sids n) p link h.0)

  treats4_member : (w : Way) (p : Packet4) (link : ℕ) (after : Content) (error : Option Packet)
      → Treats4 net node w p (outcomes.Send link) after error → Contains (set_of w) link
  treats4_member (NoWay reason) p link after error h = absurd (drop_quiet reason _ link h.0)
  treats4_member (Over set lower) p link after error h =
      sends_by_member net node set (ttl p) reasons.Ttl (V4 p) (V4 (ttl_lowered lower p)) lower link after error
      ((sends4_by net node set lower p (outcomes.Send link) after error).0 h)
  treats4_member Own p link after error h = absurd (drop_quiet reasons.NoRoute _ link h.0)
  treats4_member (Into n) p link after error h = absurd (drop_quiet reasons.NoRoute _ link h.0)

  treats4_each : (w : Way) (p : Packet4) (link other : ℕ) (after : Content) (error : Option Packet)
      → Treats4 net node w p (outcomes.Send link) after error → Contains (set_of w) other
      → Treats4 net node w p (outcomes.Send other) after error
  treats4_each (NoWay reason) p link other after error h there = absurd (drop_quiet reason _ link h.0)
  treats4_each (Over set lower) p link other after error h there =
      (sends4_by net node set lower p (outcomes.Send other) after error).1
      (sends_by_each net node set (ttl p) reasons.Ttl (V4 p) (V4 (ttl_lowered lower p)) lower link other after error
      ((sends4_by net node set lower p (outcomes.Send link) after error).0 h) there)
  treats4_each Own p link other after error h there = absurd (drop_quiet reasons.NoRoute _ link h.0)
  treats4_each (Into n) p link other after error h there = absurd (drop_quiet reasons.NoRoute _ link h.0)

-- a stage sends on members of its set of equal next hops alone, and on each of them where it sends on one
pub free_member : (net : Network) (place : Place) (content : Content) (link : ℕ) (after : Content) (error : Option Packet)
    → IsFreeStage net place content (outcomes.Send link) after error → Contains (hops_at net place content) link
free_member net place (Unreadable bytes reason) link after error h = absurd (drop_quiet reason _ link h.0)
free_member net place (V6 p) link after error h =
    treats_member net place.node (way_of net place p.destination) p link after error h
free_member net place (V4 p) link after error h =
    treats4_member net place.node (way_of net place (destination4 p)) p link after error h

pub free_each : (net : Network) (place : Place) (content : Content) (link other : ℕ) (after : Content) (error : Option Packet)
    → IsFreeStage net place content (outcomes.Send link) after error → Contains (hops_at net place content) other
    → IsFreeStage net place content (outcomes.Send other) after error
free_each net place (Unreadable bytes reason) link other after error h there = absurd (drop_quiet reason _ link h.0)
free_each net place (V6 p) link other after error h there =
    treats_each net place.node (way_of net place p.destination) p link other after error h there
free_each net place (V4 p) link other after error h there =
    treats4_each net place.node (way_of net place (destination4 p)) p link other after error h there

-- a choice sends on the member that it names
named : (set other : List ℕ) (choice link : ℕ) → set ≡ other → outcomes.Send link ≡ outcomes.Send (member_of set choice)
    → link ≡ member_of other choice
named set other choice link same e =
    let here : link ≡ member_of set choice = cc in here ∙ ap (λ (links : List ℕ). member_of links choice) same

free_naming : (net : Network) (place : Place) (content : Content) (choice : ℕ)
    → Names (hops_at net place content) choice (free_step_of net place content choice)
free_naming net place (Unreadable bytes reason) choice = λ link e. absurd (drop_quiet reason _ link e)
free_naming net place (V6 p) choice =
    let node = place.node in
    let w = way_of net place p.destination in
    treated_each (Names (set_of w) choice) net node w p choice
    (record {
      drop = λ reason at link e. absurd (drop_quiet reason _ link e);
      send = λ set lower over link e. named set (set_of w) choice link (ap set_of (sym over)) e;
      own = λ link e. absurd (address_quiet net node p (at_address p) link e);
      sid = λ n s into there link e. absurd (endpoint_quiet net node n s.behaviour p _ link e);
    })
free_naming net place (V4 p) choice =
    let w = way_of net place (destination4 p) in
    treated4_each (Names (set_of w) choice) net place.node w p choice
    (record {
      drop = λ reason link e. absurd (drop_quiet reason _ link e);
      send = λ set lower over link e. named set (set_of w) choice link (ap set_of (sym over)) e;
    })

pub free_names : (net : Network) (place : Place) (content : Content) (choice link : ℕ)
    → (free_step_of net place content choice).outcome ≡ outcomes.Send link → link ≡ member_of (hops_at net place content) choice
free_names net place content choice link e = free_naming net place content choice link (sym e)
