-- A legal list is a path.
use Rattle.std.proofs.Common.{◌≡◌, ℕ, ◌+◌, true, false, List, [], ◌∷◌, ◌++◌, length, map, take, All, Option, Some, None, refl, sym, ◌∙◌, ap, subst}
use Rattle.std.proofs.lemmas.List.Elements.{All-head, All-tail}
use Rattle.v6_addr.specs.Address.{PrefixValue}
use Rattle.srv6_rules.specs.declared.sid.Csid.TheVariants.{Replace}
use Rattle.sid_list_spec.specs.SegmentLists as lists
use Rattle.sid_list_spec.specs.SegmentLists.{ListSid, SidBlock, Follow, IsLegal}
use Rattle.list_pack.specs.declared.types.Container.{Container}
use Rattle.list_pack.specs.declared.types.Container.TheVariants.{Full, Packed}
use Rattle.list_pack.specs.LegsValue.{LegsValue}
use Rattle.list_pack.specs.LegsValueTerms.{KeepsLaws}
use Rattle.list_pack.specs.Rooms.{new_room, full_room}
use Rattle.list_pack.specs.Costs.{room_to}
use Rattle.list_pack.specs.PathsTerms.{hops_of, may_move, SuitsLists}
use Rattle.list_pack.specs.PathLists.{container_by, moves_by}
use Rattle.list_pack.specs.SidLists.{prefixes_in, steps_in, stays, FollowOn, FollowIn}
use Rattle.list_pack.specs.OpenContainers.{taken, first_taken, asked_at, StaysIn, Open, first_in, more_in}
use Rattle.list_pack.proofs.ListContainers.{Opened, opened_full, opened_packed}
use Rattle.list_pack.proofs.StepContainers.{Stands, stayed}
use Rattle.list_pack.proofs.OpeningMoves.{entered, entered_full, may_stay, may_open}
use Rattle.list_pack.proofs.Barring.{room_stays}
use Rattle.list_pack.proofs.Hops.{HopsFrom, hops_here, hops_first, hops_next, pair_of, room_made}

abbrev pub prefixes_by : LegsValue → List ℕ → List PrefixValue
prefixes_by v ns = map (λ (n : ℕ). (v.shape n).prefix) ns

-- SIDs of an open container may follow one another, as far as its kind asks for it
abbrev FollowAs : (PrefixValue → PrefixValue → Type 0) → Option SidBlock → PrefixValue → List PrefixValue → Type 0
FollowAs Follows None p ps = FollowOn Follows p ps
FollowAs Follows (Some b) p ps = Unit {0}

-- all may follow a REPLACE SID
abbrev pub PackedFollow : (PrefixValue → ListSid) → (PrefixValue → PrefixValue → Type 0) → Type 0
PackedFollow sid_on Follows = (p q : PrefixValue) → (sid_on p).csid ≡ Replace → Follows p q

-- the first of prefixes, and the others
pub heads : (p q : PrefixValue) (ps qs : List PrefixValue) → p ∷ ps ≡ q ∷ qs → p ≡ q
heads p q ps qs e = cc

pub tails : (p q : PrefixValue) (ps qs : List PrefixValue) → p ∷ ps ≡ q ∷ qs → ps ≡ qs
tails p q ps qs e = cc

follow_first : (sid_on : PrefixValue → ListSid) (Follows : PrefixValue → PrefixValue → Type 0) → PackedFollow sid_on Follows
    → (k : Option SidBlock) (u : ℕ) (p q : PrefixValue) (t : ListSid) (ps : List PrefixValue) → StaysIn k u (sid_on p) t
    → FollowAs Follows k p (q ∷ ps) → Follows p q
follow_first sid_on Follows packed None u p q t ps stays next = next.0
follow_first sid_on Follows packed (Some b) u p q t ps stays next = packed p q stays.kind

follow_rest : (Follows : PrefixValue → PrefixValue → Type 0) (k : Option SidBlock) (p q : PrefixValue) (ps : List PrefixValue)
    → FollowAs Follows k p (q ∷ ps) → FollowAs Follows k q ps
follow_rest Follows None p q ps next = next.1
follow_rest Follows (Some b) p q ps next = tt

-- in a container that opens
follow_here : (Follows : PrefixValue → PrefixValue → Type 0) (k : Option SidBlock) (c : Container) (cs : List lists.Container)
    (sid_on : PrefixValue → ListSid) → Follow k (container_by sid_on c ∷ cs) → FollowIn Follows c
    → FollowAs Follows k (first_in c) (more_in c)
follow_here Follows None (Full p ps) cs sid_on so next = next
follow_here Follows None (Packed p ps) cs sid_on so next = absurd so
follow_here Follows (Some b) (Full p ps) cs sid_on so next = absurd so
follow_here Follows (Some b) (Packed p ps) cs sid_on so next = tt

module _ (v : LegsValue) (sid_on : PrefixValue → ListSid) (Follows : PrefixValue → PrefixValue → Type 0) (laws : KeepsLaws v)
    (suits : SuitsLists v sid_on Follows) (packed : PackedFollow sid_on Follows) where
  abbrev prefix_at : ℕ → PrefixValue
  prefix_at n = (v.shape n).prefix

  -- SIDs go along a legal list from an open container on
  abbrev MayMove : List ℕ → Type 0
  MayMove ns = (k : Option SidBlock) (u position n room : ℕ) (ps : List PrefixValue) (cs : List Container)
      → ((v.shape n).middle ≡ true → Stands k u room (sid_on (prefix_at n)))
      → Open k u (sid_on (prefix_at n)) (map sid_on ps) (map (container_by sid_on) cs)
      → FollowAs Follows k (prefix_at n) ps → All (FollowIn Follows) cs
      → prefixes_by v ns ≡ take (length ns) (ps ++ prefixes_in cs) → HopsFrom v position (Some n) ns
      → may_move v (Some n) room (moves_by ns (map stays ps ++ steps_in cs)) ≡ true

  stay_on : (m : ℕ) (ns : List ℕ) → MayMove ns → (k : Option SidBlock) (u position n room : ℕ) (ps : List PrefixValue)
      (cs : List Container) → ((v.shape n).middle ≡ true → Stands k u room (sid_on (prefix_at n)))
      → Open k u (sid_on (prefix_at n)) (map sid_on (prefix_at m ∷ ps)) (map (container_by sid_on) cs)
      → FollowAs Follows k (prefix_at n) (prefix_at m ∷ ps) → All (FollowIn Follows) cs
      → prefixes_by v ns ≡ take (length ns) (ps ++ prefixes_in cs) → HopsFrom v position (Some n) (m ∷ ns)
      → may_move v (Some n) room (record { stays = true; sid = m } ∷ moves_by ns (map stays ps ++ steps_in cs)) ≡ true
  stay_on m ns rest k u position n room ps cs at so next keep same hops =
      let here = hops_here v laws position n m ns hops in
      let pair = pair_of v sid_on laws suits n m here in
      let on = hops_next v position (Some n) m ns hops in
      let s = sid_on (prefix_at n) in
      let t = sid_on (prefix_at m) in
      let stands = at here.middle in
      let may = may_stay k (v.shape n) (v.shape m) s t u room pair stands so.0 in
      let is = stayed k (v.shape n) (v.shape m) s t u room may.0 pair stands may.1 in
      let more = rest k (u + taken k t) on.0 m may.0 ps cs (λ mid. is.stands (suits.middle m here.next_sid mid)) so.1
      (follow_rest Follows k (prefix_at n) (prefix_at m) ps next) keep same on.1 in
      let follows = follow_first sid_on Follows packed k u (prefix_at n) (prefix_at m) t ps so.0 next in
      let free : v.stays n m ≡ true = (suits.stays n m here.via_sid here.next_sid).1 follows in
      room_made (room_to v (Some n) room (record { stays = true; sid = m }))
      (λ left. may_move v (Some m) left (moves_by ns (map stays ps ++ steps_in cs))) may.0 (room_stays v n m room free ∙ may.1) more

  open_on : (m : ℕ) (ns : List ℕ) → MayMove ns → (k : Option SidBlock) (u position n room : ℕ) (ps : List PrefixValue)
      (cs : List Container) → ((v.shape n).middle ≡ true → Stands k u room (sid_on (prefix_at n)))
      → Opened (asked_at k u (sid_on (prefix_at n))) (sid_on (prefix_at m)) (map sid_on ps) (map (container_by sid_on) cs)
      → FollowAs Follows (asked_at k u (sid_on (prefix_at n))) (prefix_at m) ps → All (FollowIn Follows) cs
      → prefixes_by v ns ≡ take (length ns) (ps ++ prefixes_in cs) → HopsFrom v position (Some n) (m ∷ ns)
      → may_move v (Some n) room (record { stays = false; sid = m } ∷ moves_by ns (map stays ps ++ steps_in cs)) ≡ true
  open_on m ns rest k u position n room ps cs at so next keep same hops =
      let here = hops_here v laws position n m ns hops in
      let pair = pair_of v sid_on laws suits n m here in
      let on = hops_next v position (Some n) m ns hops in
      let s = sid_on (prefix_at n) in
      let t = sid_on (prefix_at m) in
      let stands = at here.middle in
      let may = may_open k (v.shape n) (v.shape m) s t u room pair stands so.first in
      let is = entered k (v.shape n) (v.shape m) s t u room may.0 pair stands may.1 in
      let more = rest (asked_at k u s) (first_taken (asked_at k u s) t) on.0 m may.0 ps cs
      (λ mid. is.stands (suits.middle m here.next_sid mid)) so.open_here next keep same on.1 in
      room_made (new_room (v.shape n) room (v.shape m)) (λ left. may_move v (Some m) left (moves_by ns (map stays ps ++ steps_in cs)))
      may.0 may.1 more

  -- the same, where the list names the prefix
  first_as : (p q : PrefixValue) (k : Option SidBlock) (ss : List ListSid) (cs : List lists.Container)
      → p ≡ q → Opened k (sid_on q) ss cs → Opened k (sid_on p) ss cs
  first_as p q k ss cs e so = subst (λ (x : PrefixValue). Opened k (sid_on x) ss cs) (sym e) so

  follow_at : (p q : PrefixValue) (k : Option SidBlock) (ps : List PrefixValue) → p ≡ q → FollowAs Follows k q ps
      → FollowAs Follows k p ps
  follow_at p q k ps e next = subst (λ (x : PrefixValue). FollowAs Follows k x ps) (sym e) next

  go_on : (m : ℕ) (ns : List ℕ) → MayMove ns → MayMove (m ∷ ns)
  go_on m ns rest k u position n room (p ∷ ps) cs at so next keep same hops =
      let e = heads (prefix_at m) p _ _ same in
      let moved = subst (λ (x : PrefixValue). Open k u (sid_on (prefix_at n)) (map sid_on (x ∷ ps)) (map (container_by sid_on) cs))
      (sym e) so in
      let follow = subst (λ (x : PrefixValue). FollowAs Follows k (prefix_at n) (x ∷ ps)) (sym e) next in
      stay_on m ns rest k u position n room ps cs at moved follow keep (tails (prefix_at m) p _ _ same) hops
  go_on m ns rest k u position n room [] [] at so next keep same hops = absurd (cc)
  go_on m ns rest k u position n room [] (Full p ps ∷ cs) at so next keep same hops =
      let e = heads (prefix_at m) p _ _ same in
      let k1 = asked_at k u (sid_on (prefix_at n)) in
      let follow = follow_here Follows k1 (Full p ps) (map (container_by sid_on) cs) sid_on so
      (All-head (FollowIn Follows) (Full p ps) cs keep) in
      open_on m ns rest k u position n room ps cs at (first_as (prefix_at m) p _ _ _ e (opened_full _ _ _ _ so))
      (follow_at (prefix_at m) p k1 ps e follow) (All-tail (FollowIn Follows) (Full p ps) cs keep) (tails (prefix_at m) p _ _ same) hops
  go_on m ns rest k u position n room [] (Packed p ps ∷ cs) at so next keep same hops =
      let e = heads (prefix_at m) p _ _ same in
      let k1 = asked_at k u (sid_on (prefix_at n)) in
      let follow = follow_here Follows k1 (Packed p ps) (map (container_by sid_on) cs) sid_on so
      (All-head (FollowIn Follows) (Packed p ps) cs keep) in
      open_on m ns rest k u position n room ps cs at (first_as (prefix_at m) p _ _ _ e (opened_packed _ _ _ _ so))
      (follow_at (prefix_at m) p k1 ps e follow) (All-tail (FollowIn Follows) (Packed p ps) cs keep) (tails (prefix_at m) p _ _ same) hops

  list_moves : (ns : List ℕ) → MayMove ns
  list_moves [] = λ k u position n room ps cs at so next keep same hops. refl
  list_moves (m ∷ ns) = go_on m ns (list_moves ns)

  -- from the start
  begin : (m : ℕ) (ns : List ℕ) (ps : List PrefixValue) (cs : List Container)
      → Opened None (sid_on (prefix_at m)) (map sid_on ps) (map (container_by sid_on) cs)
      → FollowAs Follows None (prefix_at m) ps → All (FollowIn Follows) cs
      → prefixes_by v ns ≡ take (length ns) (ps ++ prefixes_in cs) → HopsFrom v 0 None (m ∷ ns)
      → may_move v None 0 (record { stays = false; sid = m } ∷ moves_by ns (map stays ps ++ steps_in cs)) ≡ true
  begin m ns ps cs so next keep same hops =
      let is_sid = hops_first v laws 0 None m ns hops in
      let on = hops_next v 0 None m ns hops in
      let t = sid_on (prefix_at m) in
      let is = entered_full (v.shape m) t (full_room (v.shape m)) (ap (λ (p : PrefixValue). p.len) (suits.prefix (prefix_at m)))
      (suits.fits m is_sid) refl in
      list_moves ns None (first_taken None t) on.0 m (full_room (v.shape m)) ps cs
      (λ mid. is.stands (suits.middle m is_sid mid)) so.open_here next keep same on.1

  pub list_may : (ns : List ℕ) (cs : List Container) (h : ℕ) → IsLegal (map (container_by sid_on) cs) → All (FollowIn Follows) cs
      → prefixes_by v ns ≡ take (length ns) (prefixes_in cs) → hops_of v 0 None ns ≡ Some h
      → may_move v None 0 (moves_by ns (steps_in cs)) ≡ true
  list_may [] cs h legal keep same hops = absurd (cc)
  list_may (m ∷ ns) [] h legal keep same hops = absurd legal
  list_may (m ∷ ns) (Full p ps ∷ cs) h legal keep same hops =
      let e = heads (prefix_at m) p _ _ same in
      begin m ns ps cs (first_as (prefix_at m) p _ _ _ e (opened_full _ _ _ _ legal))
      (follow_at (prefix_at m) p None ps e (All-head (FollowIn Follows) (Full p ps) cs keep))
      (All-tail (FollowIn Follows) (Full p ps) cs keep) (tails (prefix_at m) p _ _ same) (h, hops)
  list_may (m ∷ ns) (Packed p ps ∷ cs) h legal keep same hops = absurd legal
