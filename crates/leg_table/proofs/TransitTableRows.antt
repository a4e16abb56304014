-- The ways from the nodes of all positions, one after another.
use Rattle.std.proofs.Common.{◌≡◌, ℕ, zero, suc, ◌+◌, ◌-◌, ◌<◌, ◌≤◌, true, ◌&&◌, List, [], ◌∷◌, ◌++◌, length, take, drop, Option, Some, None, slice_get, refl, sym, ◌∙◌, ap, subst, arith, length-append}
use Rattle.std.specs.Prelude.{is_some, not, nat_lt, ◌==◌}
use Rattle.std.proofs.lemmas.Bool.{and_parts, ltb-true}
use Rattle.std.specs.List.{list_all}
use Rattle.std.specs.Option.{option_and_then}
use Rattle.srv6_rules.specs.declared.sid.SidEntry.{SidEntry}
use Rattle.net_model.specs.Network.{Network}
use Rattle.net_model.specs.NetworkRules.{is_link_set}
use Rattle.net_model.specs.NetworkKeeps.{Keeps}
use Rattle.intent_reader.specs.IntentRules.{first_end, far_node, function_node, stand_after, node_after, ends_at}
use Rattle.intent_reader.specs.declared.intent.Step.{Step}
use Rattle.intent_reader.specs.declared.intent.Step.TheVariants.{Links, Function}
use Rattle.intent_reader.specs.declared.intent.Step.TheVariants as kinds
use Rattle.leg_table.specs.declared.transit_table.TransitTable.{TransitTable}
use Rattle.leg_table.specs.declared.step_links.Behind.{Behind}
use Rattle.leg_table.specs.TransitTables.{stand, AreWays, IsReach, AreReaches, AreLater}
use Rattle.leg_table.proofs.StrictCourses.{end_within}
use Rattle.leg_table.proofs.StrictLinks.{far_end_is}
use Rattle.leg_table.proofs.StrictOptions.{if_some, some_same, get_pushed, get_before}

-- a step that starts at a node ends at one
pub after_opens : (net : Network) (node : ℕ) (t : Step) (ts : List Step) → is_some (stand_after net node (t ∷ ts)) ≡ true
    → is_some (node_after net node t) ≡ true
after_opens net node t ts h = opens (node_after net node t) h
  where
    opens : (o : Option ℕ) → is_some (option_and_then (λ next. stand_after net next ts) o) ≡ true → is_some o ≡ true
    opens None h = h
    opens (Some n) h = refl

pub after_stands : (net : Network) (node to : ℕ) (t : Step) (ts : List Step) → is_some (stand_after net node (t ∷ ts)) ≡ true
    → node_after net node t ≡ Some to → is_some (stand_after net to ts) ≡ true
after_stands net node to t ts h e = ap (λ (o : Option ℕ). is_some (option_and_then (λ next. stand_after net next ts) o)) (sym e) ∙ h

first_within : (net : Network) → Keeps net → (set : List ℕ) (to : ℕ) → first_end net set ≡ Some to → to < length net.nodes
first_within net keeps [] to e = absurd (cc)
first_within net keeps (link ∷ links) to e =
    end_within net keeps link (Some to) (sym e ∙ sym (far_end_is (slice_get net.links link)))

pub after_within : (net : Network) → Keeps net → (node to : ℕ) (t : Step) → node < length net.nodes → node_after net node t ≡ Some to
    → to < length net.nodes
after_within net keeps node to (Links set) here e = by_end (first_end net set) refl e
  where
    by_end : (o : Option ℕ) → first_end net set ≡ o → far_node net node set o ≡ Some to → to < length net.nodes
    by_end None f h = absurd (cc)
    by_end (Some end) f h =
        let got = if_some (is_link_set net.links node set && list_all (ends_at net end) set) (Some end) to h in
        first_within net keeps set to (f ∙ got.1)
after_within net keeps node to (Function sid) here e = by_sid (slice_get net.sids sid) e
  where
    by_sid : (o : Option SidEntry) → function_node node o ≡ Some to → to < length net.nodes
    by_sid None h = absurd (cc)
    by_sid (Some s) h =
        let got = if_some _ (Some node) to h in
        let same : node ≡ to = some_same node to got.1 in
        omega arith
after_within net keeps node to (kinds.Reach reached) here e =
    let got = if_some (nat_lt reached (length net.nodes) && not (node == reached)) (Some reached) to e in
    let there : reached < length net.nodes = ltb-true _ _ (and_parts _ _ got.0).0 in
    let same : reached ≡ to = some_same reached to got.1 in
    omega arith

-- one step more before the others
more_reaches : (net : Network) (node to : ℕ) (t : Step) (ts : List Step) (reach : TransitTable) (reaches : List TransitTable)
    → AreReaches net to ts reaches → IsReach net (t ∷ ts) node reach → node_after net node t ≡ Some to
    → AreReaches net node (t ∷ ts) (reaches ++ reach ∷ [])
more_reaches net node to t ts reach reaches are is after =
    record {
      count = let len = length-append reaches (reach ∷ []) in omega (arith, are.count, len);
      each = λ position at r within stands there. each position at r within stands there;
    }
  where
    each : (position at : ℕ) (r : TransitTable) → position ≤ length (t ∷ ts) → stand_after net node (take position (t ∷ ts)) ≡ Some at
        → slice_get (reaches ++ reach ∷ []) (length (t ∷ ts) - position) ≡ Some r → IsReach net (drop position (t ∷ ts)) at r
    each zero at r within stands there =
        let same : node ≡ at = some_same node at stands in
        let it : reach ≡ r = some_same reach r
        (sym (get_pushed reaches reach (length (t ∷ ts) - 0) (omega (arith, are.count))) ∙ there) in
        subst (λ (q : TransitTable). IsReach net (t ∷ ts) at q) it (subst (λ (n : ℕ). IsReach net (t ∷ ts) n reach) same is)
    each (suc k) at r within stands there =
        let place : length (t ∷ ts) - suc k ≡ length ts - k = omega arith in
        let below : length ts - k < length reaches = omega (arith, are.count) in
        let front : slice_get reaches (length ts - k) ≡ Some r
        = sym (get_before reaches reach (length ts - k) below)
        ∙ ap (slice_get (reaches ++ reach ∷ [])) (sym place) ∙ there in
        let on : stand_after net to (take k ts) ≡ Some at
        = ap (option_and_then (λ next. stand_after net next (take k ts))) (sym after) ∙ stands in
        are.each k at r (omega arith) on front

pub reaches_more : (net : Network) (node to : ℕ) (steps : List Step) (t : Step) (ts : List Step) (reach : TransitTable)
    (reaches more : List TransitTable) → steps ≡ t ∷ ts → AreReaches net to ts reaches → IsReach net steps node reach
    → node_after net node t ≡ Some to → more ≡ reaches ++ reach ∷ [] → AreReaches net node steps more
reaches_more net node to steps t ts reach reaches more e are is after f =
    subst (λ (l : List Step). AreReaches net node l more) (sym e)
    (subst (AreReaches net node (t ∷ ts)) (sym f)
    (more_reaches net node to t ts reach reaches are (subst (λ (l : List Step). IsReach net l node reach) e is) after))

-- the last of the ways from the other nodes are those from where the first step ends
pub last_ways : (net : Network) (to : ℕ) (ts : List Step) (reaches : List TransitTable) (reach : TransitTable) (i : ℕ) (ways : List (Option Behind))
    → AreReaches net to ts reaches → i + 1 ≡ length reaches → slice_get reaches i ≡ Some reach → ways ≡ reach.arrived.items
    → AreWays net ts (stand to true) ways
last_ways net to ts reaches reach i ways are last e f =
    let place : length ts - 0 ≡ i = omega (arith, are.count) in
    let there = are.each 0 to reach (omega arith) refl (ap (slice_get reaches) place ∙ e) in
    subst (AreWays net ts (stand to true)) (sym f) there.arrived

pub ways_later : (net : Network) (node to : ℕ) (steps : List Step) (t : Step) (ts : List Step) (ways : List (Option Behind))
    → steps ≡ t ∷ ts → node_after net node t ≡ Some to → AreWays net ts (stand to true) ways → AreLater net node steps ways
ways_later net node to steps t ts ways e after are =
    subst (λ (l : List Step). AreLater net node l ways) (sym e)
    (λ at h. subst (λ (n : ℕ). AreWays net ts (stand n true) ways) (some_same to at (sym after ∙ h)) are)
