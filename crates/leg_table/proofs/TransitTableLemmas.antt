-- The ways to all SIDs from a node, by those from where the first step ends.
use Rattle.std.proofs.Common.{◌≡◌, ℕ, ◌+◌, ◌-◌, ◌<◌, ◌≤◌, ◌⊎◌, inl, inr, Bool, true, false, ◌==◌, if◌then◌else◌, List, [], ◌∷◌, ◌++◌, length, Option, Some, None, slice_get, refl, sym, ◌∙◌, ap, subst, arith, length-append}
use Rattle.std.specs.Prelude.{is_some, IfSome}
use Rattle.std.specs.List.{list_all}
use Rattle.std.specs.Option.{option_map}
use Rattle.std.proofs.lemmas.Bool.{cases_order}
use Rattle.std.proofs.lemmas.List.{length-drop}
use Rattle.std.proofs.lemmas.Option.{slice_get_within}
use Rattle.srv6_rules.specs.declared.family.Family.{Family}
use Rattle.srv6_rules.specs.declared.family.Family.TheVariants as families
use Rattle.srv6_rules.specs.declared.sid.SidEntry.{SidEntry}
use Rattle.net_model.specs.Network.{Network}
use Rattle.net_model.specs.NetworkKeeps.{Keeps}
use Rattle.net_model.specs.LookupTables.{TableOf}
use Rattle.walk_rules.specs.declared.place.How.TheVariants.{Arrived}
use Rattle.walk_rules.specs.declared.place.Place.{Place}
use Rattle.walk_rules.specs.Way.{Way, NoWay, Over, Own, Into, way_of, way_by_table}
use Rattle.walk_rules.specs.WayTerms.{IsWayFrom}
use Rattle.walk_rules.specs.Relation.{IsHow}
use Rattle.walk_rules.specs.Walk.{arrival}
use Rattle.walk_rules.proofs.PublicLaws.{way_from}
use Rattle.intent_reader.specs.IntentRules.{first_end, stand_after}
use Rattle.intent_reader.specs.declared.intent.Step.{Step}
use Rattle.intent_reader.specs.declared.intent.Step.TheVariants.{Links, Function, Reach}
use Rattle.leg_table.specs.declared.step_links.Behind.{Behind}
use Rattle.leg_table.specs.StepMatching.{has_link, left_after}
use Rattle.leg_table.specs.Transits.{Transit, more_lowered, transit_on, transit_by, transit_end, transit_of}
use Rattle.leg_table.specs.PositionSids.{sid_address}
use Rattle.leg_table.specs.StrictLegs.{left_behind}
use Rattle.leg_table.specs.Courses.{behind_with, behind_of}
use Rattle.leg_table.specs.TransitTables.{way_along, stand, AreWays, AreLater, way_or_none, way_at, lowered_more, way_by}
use Rattle.leg_table.proofs.StrictLinks.{first_end_is, step_opens}
use Rattle.leg_table.proofs.StrictOptions.{map_some, if_some, some_same, get_pushed, get_before}
use Rattle.leg_table.proofs.NextTransits.{left_after_le}
use Rattle.leg_table.proofs.TransitFacts.{transit_facts_law}
use Rattle.leg_table.proofs.StrictWays.{address_is}

-- the way of a packet that is looked up in table 0
pub way_looked : (net : Network) (node : ℕ) (lower : Bool) (destination : ℕ)
    → way_of net (stand node lower) destination ≡ way_by_table net node 0 families.V6 lower destination
unfolding way_of
way_looked net node true destination = refl
way_looked net node false destination = refl

pub table_way : (net : Network) (node : ℕ) (lower : Bool) (d : ℕ) (table : TableOf) (w : Way)
    → table ≡ record { net = net; node = node; table = 0; family = families.V6 }
    → w ≡ way_by_table table.net table.node table.table table.family lower d
    → w ≡ way_of net (stand node lower) d
table_way net node lower d table w is e =
    e ∙ ap (λ (t : TableOf). way_by_table t.net t.node t.table t.family lower d) is ∙ sym (way_looked net node lower d)

-- one lowering more before an execution
behind_more : (net : Network) (n : ℕ) (lower : Bool) (o : Option Transit)
    → option_map (lowered_more lower) (behind_of net n o) ≡ behind_of net n (option_map (more_lowered lower) o)
behind_more net n lower None = refl
behind_more net n lower (Some r) = by_left (left_behind net n r)
  where
    by_left : (o : Option ℕ)
        → option_map (lowered_more lower) (option_map (behind_with r.lowered) o)
        ≡ option_map (behind_with (more_lowered lower r).lowered) o
    by_left None = refl
    by_left (Some left) = refl

pub how_looked : (net : Network) (node : ℕ) (lower : Bool) → IsHow net node (stand node lower).how
how_looked net node true = tt
how_looked net node false = tt

module _ (net : Network) (keeps : Keeps net) where
  -- the way over links that lie in the first step goes on from where that step ends
  over_step : (step set : List ℕ) (ts : List Step) (place : Place) (n : ℕ) (lower : Bool) (later : List (Option Behind))
      → place.family ≡ families.V6 → 0 < length set → is_some (stand_after net place.node (Links step ∷ ts)) ≡ true
      → n < length net.sids → AreLater net place.node (Links step ∷ ts) later → list_all (has_link step) set ≡ true
      → option_map (lowered_more lower) (way_at later n)
      ≡ behind_of net n
      (option_map (more_lowered lower) (transit_on (arrival (first_end net set) place) (transit_of net (sid_address net n) ts)))
  over_step step set ts place n lower later family some stands there is all =
      let opened = step_opens net place.node step ts stands in
      let at : first_end net set ≡ Some opened.0 = first_end_is net opened.0 step set opened.1 all some in
      let next : arrival (first_end net set) place ≡ Some (stand opened.0 true)
      = ap (λ (o : Option ℕ). arrival o place) at
      ∙ ap (λ (f : Family). Some (record { node = opened.0; how = Arrived 0; family = f })) family in
      let row : way_at later n ≡ way_along net ts (stand opened.0 true) n = ap way_or_none ((is opened.0 opened.3).each n there) in
      ap (option_map (lowered_more lower)) row
      ∙ behind_more net n lower (transit_of net (sid_address net n) ts (stand opened.0 true))
      ∙ ap (λ (o : Option Place). behind_of net n (option_map (more_lowered lower) (transit_on o (transit_of net (sid_address net n) ts))))
      (sym next)

  pub way_steps : (steps : List Step) (place : Place) (n : ℕ) (later : List (Option Behind)) → IsHow net place.node place.how
      → place.family ≡ families.V6 → is_some (stand_after net place.node steps) ≡ true → n < length net.sids
      → AreLater net place.node steps later
      → way_by net n steps (way_at later n) (way_of net place (sid_address net n)) ≡ way_along net steps place n
  way_steps [] place n later how family stands there is = by_way (way_of net place (sid_address net n))
    where
      by_way : (w : Way) → way_by net n [] (way_at later n) w ≡ behind_of net n (transit_end place w)
      by_way (NoWay reason) = refl
      by_way Own = refl
      by_way (Over set lower) = refl
      by_way (Into m) = refl
  way_steps (t ∷ ts) place n later how family stands there is =
      by_way t (way_of net place (sid_address net n)) (way_from net place (sid_address net n) keeps how) stands is
    where
      by_way : (t : Step) (w : Way) → IsWayFrom net place.node w → is_some (stand_after net place.node (t ∷ ts)) ≡ true
          → AreLater net place.node (t ∷ ts) later
          → way_by net n (t ∷ ts) (way_at later n) w
          ≡ behind_of net n (transit_by net place (t ∷ ts) t (transit_of net (sid_address net n) ts) w)
      by_way t (NoWay reason) links stands is = refl
      by_way t Own links stands is = refl
      by_way t (Into m) links stands is = refl
      by_way (Function sid) (Over set lower) links stands is = refl
      by_way (Reach node) (Over set lower) links stands is = refl
      by_way (Links step) (Over set lower) links stands is = by_test (list_all (has_link step) set) refl
        where
          by_test : (b : Bool) → list_all (has_link step) set ≡ b
              → (if b then option_map (lowered_more lower) (way_at later n) else None)
              ≡ behind_of net n
              (if b then option_map (more_lowered lower) (transit_on (arrival (first_end net set) place) (transit_of net (sid_address net n) ts))
              else None)
          by_test false e = refl
          by_test true e = over_step step set ts place n lower later family links.some stands there is e

  -- a way leaves no more steps than there are, and lowers the hop limit at most once at each
  pub way_few : (steps : List Step) (place : Place) (n : ℕ) (b : Behind) → IsHow net place.node place.how
      → is_some (stand_after net place.node steps) ≡ true → way_along net steps place n ≡ Some b
      → (b.left ≤ length steps) × (b.lowered ≤ length steps)
  way_few steps place n b how stands h = by_transit (transit_of net (sid_address net n) steps place) refl h
    where
      by_transit : (o : Option Transit) → transit_of net (sid_address net n) steps place ≡ o → behind_of net n o ≡ Some b
          → (b.left ≤ length steps) × (b.lowered ≤ length steps)
      by_transit None e h = absurd (cc)
      by_transit (Some r) e h =
          let f = transit_facts_law net keeps (sid_address net n) steps place r how stands e in
          let got = map_some (behind_with r.lowered) (left_behind net n r) b h in
          let at = if_some (r.sid == n) (left_after net n r.left) got.0 got.1 in
          let le = left_after_le net n r.left got.0 at.1 in
          let len : length r.left ≡ length steps - f.count = ap length f.left ∙ length-drop f.count steps in
          let is_left : got.0 ≡ b.left = ap (λ (x : Behind). x.left) got.2 in
          let is_lowered : r.lowered ≡ b.lowered = ap (λ (x : Behind). x.lowered) got.2 in
          (omega (arith, le, len, is_left), omega (arith, f.lowered, f.within, is_lowered))

  pub ways_few : (steps : List Step) (node : ℕ) (ways : List (Option Behind)) (lower : Bool) → AreWays net steps (stand node lower) ways
      → is_some (stand_after net node steps) ≡ true → length steps ≤ 48
      → (n : ℕ) → IfSome (way_at ways n) (λ b. b.lowered ≤ 48)
  ways_few steps node ways lower is stands few n = by_item (slice_get ways n) refl
    where
      by_way : (w : Option Behind) → way_along net steps (stand node lower) n ≡ w → IfSome w (λ b. b.lowered ≤ 48)
      by_way None e = tt
      by_way (Some b) e = let at = way_few steps (stand node lower) n b (how_looked net node lower) stands e in omega (arith, at.1)

      by_item : (o : Option (Option Behind)) → slice_get ways n ≡ o → IfSome (way_or_none o) (λ b. b.lowered ≤ 48)
      by_item None e = tt
      by_item (Some w) e =
          let within = slice_get_within ways n w e in
          by_way w (some_same _ w (sym (is.each n (omega (arith, is.count))) ∙ e))

  -- a way as the code finds it, by the way that the place gives and by the way from where the first step ends
  pub way_item : (steps : List Step) (place : Place) (n : ℕ) (later : List (Option Behind)) (s : SidEntry) (d : ℕ) (w : Way)
      (on way : Option Behind) → IsHow net place.node place.how → place.family ≡ families.V6
      → is_some (stand_after net place.node steps) ≡ true → AreLater net place.node steps later → slice_get net.sids n ≡ Some s
      → d ≡ s.prefix.value → w ≡ way_of net place d → on ≡ way_at later n → way ≡ way_by net n steps on w
      → way ≡ way_along net steps place n
  way_item steps place n later s d w on way how family stands is there e f g h =
      let address : d ≡ sid_address net n = e ∙ address_is net n s there in
      h ∙ ap (λ (o : Option Behind). way_by net n steps o w) g
      ∙ ap (way_by net n steps (way_at later n)) (f ∙ ap (way_of net place) address)
      ∙ way_steps steps place n later how family stands (slice_get_within net.sids n s there) is

-- the ways to SIDs of lower numbers
pub record AreWaysBelow (net : Network) (steps : List Step) (place : Place) (count : ℕ) (ways : List (Option Behind)) : Type 0 where
  pub count_is : length ways ≡ count
  pub each : (n : ℕ) → n < count → slice_get ways n ≡ Some (way_along net steps place n)

pub ways_more : (net : Network) (steps : List Step) (place : Place) (count : ℕ) (ways more : List (Option Behind)) (way : Option Behind)
    → AreWaysBelow net steps place count ways → way ≡ way_along net steps place count → more ≡ ways ++ way ∷ []
    → AreWaysBelow net steps place (count + 1) more
ways_more net steps place count ways more way is e f =
    subst (AreWaysBelow net steps place (count + 1)) (sym f)
    (record {
      count_is = let len = length-append ways (way ∷ []) in omega (arith, is.count_is, len);
      each = λ n h. by_order n (cases_order n count) h;
    })
  where
    by_order : (n : ℕ) → ((n ≡ count) ⊎ ((n < count) ⊎ (count < n))) → n < count + 1
        → slice_get (ways ++ way ∷ []) n ≡ Some (way_along net steps place n)
    by_order n (inl same) h =
        get_pushed ways way n (same ∙ sym is.count_is) ∙ ap Some (e ∙ ap (way_along net steps place) (sym same))
    by_order n (inr (inl below)) h = get_before ways way n (omega (arith, is.count_is)) ∙ is.each n below
    by_order n (inr (inr above)) h = absurd (omega arith)
