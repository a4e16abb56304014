-- Each packet of an update that is to come takes the walk of one description; an inner packet is to come, and keeps to the intent there.
use Rattle.std.proofs.Common.{◌≡◌, ℕ, zero, suc, ◌+◌, ◌≤◌, nat_eq, Bool, true, false, if◌then◌else◌, List, [], ◌∷◌, ◌++◌, length, map, replicate, slice_get, All, Option, Some, None, option_map, Ok, refl, sym, ap, ◌∙◌, subst, arith}
use Rattle.std.specs.List.{flat_map}
use Rattle.std.proofs.lemmas.Bool.{eqb-false, le-leb}
use Rattle.std.proofs.lemmas.Option.{slice_get-map}
use Rattle.pcap_io.specs.declared.frame.Body.{Body}
use Rattle.pcap_io.specs.declared.frame.Body.TheVariants as bodies
use Rattle.pcap_io.specs.declared.frame.Frame.{Frame}
use Rattle.srv6_rules.specs.declared.family.Family.{Family}
use Rattle.srv6_rules.specs.declared.family.Family.TheVariants as families
use Rattle.srv6_rules.specs.Packet.{Content}
use Rattle.net_model.specs.declared.net.Hit.{Hit}
use Rattle.net_model.specs.Network.{Network, hit_of_entry}
use Rattle.net_model.specs.NetworkRulesTerms.{IsNetwork}
use Rattle.walk_rules.specs.declared.limits.TheConstants.{MAX_STAGES}
use Rattle.walk_rules.specs.Walk.{Stage}
use Rattle.intent_reader.specs.declared.intent.Intent.{Intent}
use Rattle.list_pack.specs.SidLists.{list_values}
use Rattle.leg_table.specs.Realizes.{IsInner}
use Rattle.path_compiler.specs.declared.compiled.Compiled.{Compiled}
use Rattle.update_spec.specs.Changes.{added_entries, removed_entries}
use Rattle.update_spec.specs.Joined.{joined_of}
use Rattle.update_spec.specs.Planning.{planning}
use Rattle.update_theory.proofs.PublicLaws.{no_fault}
use Rattle.update_flight.specs.Interleaving.{PassOver}
use Rattle.packet_walk.specs.Rest.{rest_of}
use Rattle.update_flight.specs.Planned.{hidden_after}
use Rattle.update_flight.specs.MomentTables.{HasRoute}
use Rattle.update_flight.specs.Transition.{edits}
use Rattle.update_flight.proofs.PublicLaws.{kept_start}
use Rattle.update_plan.specs.UpdateState.{plan_of}
use Rattle.update_plan.specs.UpdateStateTerms.{tables_between}
use Rattle.update_plan.proofs.PublicLaws.{between_pass}
use Rattle.update_walks_theory.proofs.PublicLaws.{first_looks, last_looks}
use Rattle.command_inputs.specs.declared.file_judge.BothIntents.{BothIntents}
use Rattle.run_commands.specs.declared.enters.Entrant.{Entrant}
use Rattle.run_commands.specs.declared.enters.EarlyEnd.{EarlyEnd}
use Rattle.run_commands.specs.Admission.{Admission, EndsEarly, Admitted}
use Rattle.walk_commands.specs.WalkLists.{IsCompiledFor, IsSmallFor}
use Rattle.walk_commands.specs.WalkCommand.{AtHeadend, NotRead, Dropped, Enters, at_headend, admission_of, headend_of, of_content, policy_of, submitted_at, walk_at_headend}
use Rattle.walk_commands.proofs.WalkKeeping.{small_keeps}
use Rattle.update_driver.specs.declared.seat.Seat.{Seat}
use Rattle.update_driver.specs.declared.seat.Seat.TheVariants as seats
use Rattle.update_driver.specs.Arriving.{early_at, seat_of, seat_unless}
use Rattle.update_driver.specs.Events.{edits_left, events_and_rest, numbers_behind, starting}
use Rattle.update_driver.specs.Moving.{Happening, Moving, Sides, as_in_flight, first_member}
use Rattle.update_commands.specs.WholeUpdate.{HasInner, HappensAs, KeepsToOwn, Own, PacketsKeep, all_of, comes_early, own_by, own_entry, own_of, sides_of, stages_to_hand, happened_to}
use Rattle.update_commands.proofs.WholeComing.{headend_comes}
use Rattle.update_commands.proofs.Entered.{times}
use Rattle.update_commands.proofs.Hands.{hand_front, hand_routes}
use Rattle.update_commands.proofs.Owning.{IsOwn, early_own}
use Rattle.update_commands.proofs.WholeTaking.{TellsFront, takes_walk}
use Rattle.update_commands.proofs.Tracking.{IsThrough}
use Rattle.update_commands.proofs.PacketsToCome.{ToldBy, own_tables}

-- ---- each packet has as many turns as a walk has stages

module _ (n : ℕ) where
  times_append : (xs ys : List ℕ) → times n (xs ++ ys) ≡ times n xs + times n ys
  times_append [] ys = omega arith
  times_append (x ∷ xs) ys = by (times_append xs ys) (nat_eq x n)
    where
      by : times n (xs ++ ys) ≡ times n xs + times n ys → (b : Bool)
          → (if b then suc (times n (xs ++ ys)) else times n (xs ++ ys)) ≡ (if b then suc (times n xs) else times n xs) + times n ys
      by e true = omega (arith, e)
      by e false = e

  same_times : nat_eq n n ≡ true
  same_times = by (nat_eq n n) refl
    where
      by : (b : Bool) → nat_eq n n ≡ b → b ≡ true
      by true e = refl
      by false e = absurd (eqb-false n n e refl)

  times_all : (c : ℕ) → times n (replicate c n) ≡ c
  times_all zero = refl
  times_all (suc c) = ap (λ (b : Bool). if b then suc (times n (replicate c n)) else times n (replicate c n)) same_times
      ∙ ap suc (times_all c)

  times_chunk : {X : Type 0} (c b j : ℕ) (xs : List X) (x : X) → slice_get xs j ≡ Some x → n ≡ suc (b + j)
      → c ≤ times n (flat_map (λ k. replicate c k) (numbers_behind b xs))
  times_chunk c b j [] x there is = absurd (cc)
  times_chunk c b zero (y ∷ xs) x there is =
      let mine : suc b ≡ n = omega (arith, is) in
      let all : times n (replicate c (suc b)) ≡ c = ap (λ (k : ℕ). times n (replicate c k)) mine ∙ times_all c in
      let whole = times_append (replicate c (suc b)) (flat_map (λ k. replicate c k) (numbers_behind (suc b) xs)) in
      omega (arith, all, whole)
  times_chunk c b (suc j) (y ∷ xs) x there is =
      let later = times_chunk c (suc b) j xs x there (omega (arith, is)) in
      let whole = times_append (replicate c (suc b)) (flat_map (λ k. replicate c k) (numbers_behind (suc b) xs)) in
      omega (arith, later, whole)

-- whatever is asked for before and behind that
enough_of : (c at : ℕ) (frames : List Frame) (events left : List ℕ) (frame : Frame) → slice_get frames at ≡ Some frame
    → c ≤ times (suc at) (events ++ (flat_map (λ k. replicate c k) (numbers_behind 0 frames) ++ left))
enough_of c at frames events left frame there =
    let turns : List ℕ = flat_map (λ k. replicate c k) (numbers_behind 0 frames) in
    let one = times_append (suc at) events (turns ++ left) in
    let two = times_append (suc at) turns left in
    let chunk = times_chunk (suc at) c 0 at frames frame there (omega arith) in
    omega (arith, one, two, chunk)

enough_turns : (start : Moving) (frames : List Frame) (events : List ℕ) (at : ℕ) (frame : Frame) → slice_get frames at ≡ Some frame
    → MAX_STAGES ≤ times (suc at) (events_and_rest start frames events)
enough_turns start frames events at frame there = enough_of MAX_STAGES at frames events (edits_left start) frame there

-- ---- what a headend makes of a packet stands at its place

enters_at : (node : ℕ) (at : AtHeadend) (comes : Entrant) → admission_of node at ≡ Admitted comes → comes.place ≡ submitted_at node
enters_at node (NotRead cause) comes e = absurd (cc)
enters_at node (Dropped reason) comes e = absurd (cc)
enters_at node (Enters content) comes e = cc

-- an inner packet of the family is that which is encapsulated
inner_at : (net : Network) (intent : Intent) (list : Compiled) (family : Family) (body : Body) (inner : Content) → intent.inner ≡ family
    → HasInner family body inner → at_headend (policy_of net intent list) intent.inner body ≡ of_content (policy_of net intent list) inner
inner_at net intent list families.V6 (bodies.V6 bytes) inner is has =
    ap (λ (f : Family). at_headend (policy_of net intent list) f (bodies.V6 bytes)) is ∙ ap (of_content (policy_of net intent list)) has
inner_at net intent list families.V6 (bodies.V4 bytes) inner is has = absurd has
inner_at net intent list families.V6 bodies.ShortFrame inner is has = absurd has
inner_at net intent list families.V6 bodies.NotIp inner is has = absurd has
inner_at net intent list families.V4 (bodies.V6 bytes) inner is has = absurd has
inner_at net intent list families.V4 (bodies.V4 bytes) inner is has =
    ap (λ (f : Family). at_headend (policy_of net intent list) f (bodies.V4 bytes)) is ∙ ap (of_content (policy_of net intent list)) has
inner_at net intent list families.V4 bodies.ShortFrame inner is has = absurd has
inner_at net intent list families.V4 bodies.NotIp inner is has = absurd has

-- ---- the seats at the start

none_entered : (entry : Body → Admission) (frames : List Frame) (at packet : ℕ)
    → slice_get (map (seat_of entry) frames) at ≡ Some (seats.Entered packet) → ⊥
none_entered entry [] at packet h = cc
none_entered entry (frame ∷ more) zero packet h = by (early_at entry frame.body) h
  where
    by : (o : Option EarlyEnd) → Path (Option Seat) (Some (seat_unless frame.body o)) (Some (seats.Entered packet)) → ⊥
    by None e = cc
    by (Some stays) e = cc
none_entered entry (frame ∷ more) (suc at) packet h = none_entered entry more at packet h

pub start_through : (old new : Network) (sides : Sides) (frames : List Frame) → IsThrough old new (starting sides (plan_of old new) frames)
start_through old new sides frames = record {
  joined = refl;
  added = refl;
  removed = refl;
  is = kept_start (added_entries old new) (removed_entries old new);
  counts = refl;
  each = λ at packet there. absurd (none_entered sides.old frames at packet there);
}

start_seat : (entry : Body → Admission) (frames : List Frame) (at : ℕ) (frame : Frame) → slice_get frames at ≡ Some frame
    → early_at entry frame.body ≡ None → slice_get (map (seat_of entry) frames) at ≡ Some (seats.ToCome frame.body)
start_seat entry frames at frame there none =
    slice_get-map (seat_of entry) frames at
    ∙ (ap (option_map (seat_of entry)) there ∙ ap (λ (o : Option EarlyEnd). Some (seat_unless frame.body o)) none)

-- ---- all packets that are to come

module _ (old new : Network) (both : BothIntents) (before after : Compiled) (rules : IsNetwork old) (new_rules : IsNetwork new)
    (whole : old.hidden ≡ []) (new_whole : new.hidden ≡ []) (accepted : planning old new ≡ Ok tt)
    (compiled_before : IsCompiledFor old both.before before) (compiled_after : IsCompiledFor new both.after after) where
  abbrev one : Own
  one = own_of old both.before before

  abbrev two : Own
  two = own_of new both.after after

  abbrev sides : Sides
  sides = sides_of old new both before after

  pass : PassOver (tables_between old new) (added_entries old new) (removed_entries old new)
  pass = between_pass old new rules accepted

  abbrev hidden : ℕ → List Hit
  hidden done = map hit_of_entry (hidden_after (added_entries old new) (removed_entries old new) done)

  abbrev last : ℕ
  last = length (edits (added_entries old new) (removed_entries old new))

  module _ (at : ℕ) (body : Body) (told : List Happening) where
    front_of : (early : Bool) (comes : Entrant) → ToldBy old new pass sides at early told (Admitted comes) → (first more : List Stage)
        → first ++ more ≡ rest_of (own_tables old new pass sides at early) (as_in_flight comes) → All HasRoute first
        → TellsFront (own_tables old new pass sides at early) (suc at) told (as_in_flight comes) first more
    front_of early comes h first more is routes =
        let t = h first more is routes in record { behind = t.1.behind; is = t.1.is; over = t.1.over }

    told_before : (e : Admission) → own_entry one body ≡ e → ToldBy old new pass sides at true told e
        → HappensAs (joined_of old new) old old (suc at) told e
    told_before (EndsEarly stays) is h = h
    told_before (Admitted comes) is h =
        takes_walk (joined_of old new) old old (hidden 0) (first_looks old new rules whole) refl refl (suc at) told comes
        both.before.headend (enters_at both.before.headend (at_headend (policy_of old both.before before) both.before.inner body) comes is)
        (front_of true comes h)

    told_after : (e : Admission) → own_entry two body ≡ e → ToldBy old new pass sides at false told e
        → HappensAs (joined_of old new) old new (suc at) told e
    told_after (EndsEarly stays) is h = h
    told_after (Admitted comes) is h =
        let parts = no_fault old new accepted in
        takes_walk (joined_of old new) old new (hidden last) (last_looks old new rules new_rules new_whole accepted) parts.nodes parts.links
        (suc at) told comes both.after.headend
        (enters_at both.after.headend (at_headend (policy_of new both.after after) both.after.inner body) comes is) (front_of false comes h)

    told_own : (early : Bool) → IsOwn old new pass sides at body early told
        → HappensAs (joined_of old new) old (own_by one two early).net (suc at) told (own_entry (own_by one two early) body)
    told_own true h = told_before (own_entry one body) refl h
    told_own false h = told_after (own_entry two body) refl h

    keeps_own : (own : Own) → IsNetwork own.net → IsCompiledFor own.net own.intent own.list
        → HappensAs (joined_of old new) old own.net (suc at) told (own_entry own body) → (inner : Content)
        → HasInner own.intent.inner body inner → IsInner own.intent.inner inner
        → IsSmallFor own.net own.intent (list_values own.net own.list.list) inner own.intent.hop_limit
        → KeepsToOwn (joined_of old new) own told inner
    keeps_own own network compiled as_told inner has is small =
        let keeps = small_keeps own.net own.intent own.list first_member inner network compiled (omega arith) is small in
        let enters : own_entry own body ≡ Admitted (record { place = submitted_at own.intent.headend; content = keeps.outer }) =
        ap (admission_of own.intent.headend) (inner_at own.net own.intent own.list own.intent.inner body inner refl has ∙ keeps.enters) in
        let takes = subst (λ (e : Admission). HappensAs (joined_of old new) old own.net (suc at) told e) enters as_told in
        let walk : List Stage = walk_at_headend own.net own.intent first_member keeps.outer in
        let front = hand_front own.net 0 walk in
        record {
          keeps = keeps;
          takes = takes.fronts (stages_to_hand own.net 0 walk) front.more front.is (hand_routes own.net walk 0 keeps.handed keeps.own);
        }

    keeps_by : (early : Bool) → IsOwn old new pass sides at body early told → (inner : Content) → let own = own_by one two early in
        HasInner own.intent.inner body inner → IsInner own.intent.inner inner
        → IsSmallFor own.net own.intent (list_values own.net own.list.list) inner own.intent.hop_limit
        → KeepsToOwn (joined_of old new) own told inner
    keeps_by true h = keeps_own one rules compiled_before (told_own true h)
    keeps_by false h = keeps_own two new_rules compiled_after (told_own false h)

  module _ (family : both.before.inner ≡ both.after.inner) where
    old_family : (early : Bool) → (own_by one two early).intent.inner ≡ both.before.inner
    old_family true = refl
    old_family false = sym family

    -- an inner packet of the intent's family in one description is to come, also where that is the new one
    is_to_come : (early : Bool) (body : Body) (inner : Content) → HasInner (own_by one two early).intent.inner body inner
        → IsInner (own_by one two early).intent.inner inner → early_at sides.old body ≡ None
    is_to_come early body inner has is =
        headend_comes (headend_of old both.before before) body inner
        (subst (λ (f : Family). HasInner f body inner) (old_family early) has)
        (subst (λ (f : Family). IsInner f inner) (old_family early) is)

    pub packets_keep : PacketsKeep old new both before after
    packets_keep frames events at frame there =
        let start : Moving = starting sides (plan_of old new) frames in
        let all : List Happening = all_of old new sides frames events in
        let early : Bool = comes_early (suc at) all in
        let told : List Happening = happened_to (suc at) all in
        let own : early_at sides.old frame.body ≡ None → IsOwn old new pass sides at frame.body early told =
        λ none. early_own old new pass sides at frame.body (events_and_rest start frames events) start
        (start_through old new sides frames, start_seat sides.old frames at frame there none)
        (le-leb 0 (length (added_entries old new)) (omega arith)) (enough_turns start frames events at frame there) in
        record {
          takes = λ none. told_own at frame.body told early (own none);
          keeps = λ inner has is small.
              keeps_by at frame.body told early (own (is_to_come early frame.body inner has is)) inner has is small;
        }
