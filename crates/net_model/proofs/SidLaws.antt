-- SIDs have no fault exactly where they keep their rules, where they are in range, and so has a whole network.
use Rattle.std.proofs.Common.{◌≡◌, ◌↔◌, ℕ, ◌+◌, Bool, true, false, ◌==◌, ◌&&◌, ◌||◌, not, List, [], ◌∷◌, ◌++◌, length, Option, Some, None, refl, sym, ap, ◌∙◌}
use Rattle.std.proofs.lemmas.Bool.{and_parts, and_from, and_right, eqb-true}
use Rattle.std.proofs.lemmas.List.{nil_from_length}
use Rattle.std.specs.Prelude.{nat_lt, nat_le, if◌then◌else◌, is_some, Result, Ok, Err}
use Rattle.std.specs.List.{list_any, list_all, slice_get, filter_map}
use Rattle.std.specs.Result.{is_ok}
use Rattle.srv6_rules.specs.declared.sid.SidEntry.{SidEntry}
use Rattle.srv6_rules.specs.Behaviours.{behaviour_takes_links, behaviour_table, behaviour_policy, behaviour_takes_flavours}
use Rattle.net_model.specs.declared.limits.TheConstants.{MAX_LINKS_OF_SET}
use Rattle.text_faults.specs.declared.text_place.TableKind.{TableKind}
use Rattle.text_faults.specs.declared.text_place.TableKind.TheVariants as tables
use Rattle.text_faults.specs.declared.text_place.FaultPlace.{FaultPlace}
use Rattle.text_faults.specs.declared.fault.TextFault.{TextFault}
use Rattle.text_faults.specs.declared.fault_kind.FaultKind.TheVariants as kinds
use Rattle.text_faults.specs.TextFaults.{fault_at}
use Rattle.net_model.specs.declared.parts.Block.{Block}
use Rattle.net_model.specs.declared.parts.Link.{Link}
use Rattle.net_model.specs.declared.standing.Standing.{Standing}
use Rattle.net_model.specs.Network.{Network}
use Rattle.net_model.specs.NetworkRules.{are_distinct, same_bytes, suits_flavours, block_of, block_len_of, same_number, same_sid, has_room}
use Rattle.net_model.specs.NetworkRulesTerms.{is_prefix, suits_links, suits_table, suits_policy, keeps_behaviour, keeps_compression, is_title, keeps_sid, title_of, keeps_sids, keeps_titles, is_network, IsNetwork}
use Rattle.net_model.specs.NetworkJudging.{first_of, and_then, judged, stands_before, is_unknown, is_set_of, same_answer, fitting, standing_or, suits_keys, is_unknown_policy, same_title_text, is_full, suits_compression, judge_joins, judge_flavours, judge_apart, judge_standing, judge_sid, judge_block, judge_node, judge_link, judge_route, judge_policy, judging}
use Rattle.net_model.specs.NetworkJudgingTerms.{sid_in_range, InRange}
use Rattle.net_model.proofs.PassesLemmas.{passes, and_then_ok, then_ok, judged_passes_within, passes_both, passes_all, passes_distinct, list_all_within, left_out, left_out_behind}
use Rattle.net_model.proofs.TableLaws.{set_known, set_law, blocks_law, nodes_law, links_law, routes_law, policies_law}
use Rattle.net_model.proofs.RoomLaws.{room_law, titles_numbered, numbers_distinct, titles_law}

-- ---- a SID

compression_law : (block : Option Block) (s : SidEntry)
    → keeps_compression block s ≡ ((s.block_len == block_len_of block) && suits_compression block s)
compression_law None s = refl
compression_law (Some b) s = refl

-- what a SID in range must pass
abbrev sid_test : Network → SidEntry → Bool
sid_test net s =
    nat_lt s.node (length net.nodes) && ((suits_policy (length net.policies) (behaviour_policy s.behaviour)
    && (suits_links net.links s.node (behaviour_takes_links s.behaviour) s.links
    && suits_flavours (behaviour_takes_flavours s.behaviour) s.psp s.usp s.usd)) && suits_compression (block_of net.blocks s.prefix) s)

sid_within : (net : Network) (s : SidEntry) → sid_in_range net.blocks (length net.titles) s ≡ true → keeps_sid net s ≡ sid_test net s
sid_within net s h =
    let len = and_parts _ _ h in
    let prefix = and_parts _ _ len.1 in
    let table = and_parts _ _ prefix.1 in
    let count = and_parts _ _ table.1 in
    let block = and_parts _ _ count.1 in
    let compressed = compression_law (block_of net.blocks s.prefix) s ∙ left_out _ _ block.0 in
    ap (λ b. nat_lt s.node (length net.nodes) && b) (left_out _ _ len.0 ∙ (left_out _ _ prefix.0
    ∙ (ap (λ b. keeps_behaviour net s && b) (left_out_behind _ _ block.1 ∙ compressed)
    ∙ ap (λ b. b && suits_compression (block_of net.blocks s.prefix) s) (left_out _ _ table.0))))

rows_of_joins : (a k u v t : Bool) (f g h i j : TextFault)
    → is_ok (first_of ((not a, f) ∷ (not k, g) ∷ (u, h) ∷ (v, i) ∷ (t, j) ∷ [])) ≡ (a && (k && (not u && (not v && not t))))
rows_of_joins false k u v t f g h i j = refl
rows_of_joins true false u v t f g h i j = refl
rows_of_joins true true true v t f g h i j = refl
rows_of_joins true true false true t f g h i j = refl
rows_of_joins true true false false true f g h i j = refl
rows_of_joins true true false false false f g h i j = refl

rows_of_flavours : (fl c : Bool) (f g h : TextFault) → is_ok (first_of ((false, f) ∷ (not fl, g) ∷ (not c, h) ∷ [])) ≡ (fl && c)
rows_of_flavours false c f g h = refl
rows_of_flavours true false f g h = refl
rows_of_flavours true true f g h = refl

rows_of_apart : (t d e : Bool) (f g h : TextFault) → is_ok (first_of ((t, f) ∷ (d, g) ∷ (e, h) ∷ [])) ≡ (not t && (not d && not e))
rows_of_apart true d e f g h = refl
rows_of_apart false true e f g h = refl
rows_of_apart false false true f g h = refl
rows_of_apart false false false f g h = refl

self_answer : (b : Bool) → same_answer b b ≡ true
self_answer true = refl
self_answer false = refl

fitting_keys : (s : SidEntry) → suits_keys (fitting s) s ≡ (behaviour_takes_links s.behaviour || (length s.links == 0))
fitting_keys s =
    left_out _ _ (self_answer (behaviour_takes_links s.behaviour))
    ∙ (left_out _ _ (self_answer (is_some (behaviour_table s.behaviour)))
    ∙ left_out _ _ (self_answer (is_some (behaviour_policy s.behaviour))))

policy_law : (count : ℕ) (o : Option ℕ) → not (is_unknown_policy count o) ≡ suits_policy count o
policy_law count None = refl
policy_law count (Some n) = twice (nat_lt n count)
  where
    twice : (b : Bool) → not (not b) ≡ b
    twice true = refl
    twice false = refl

joins_by : (takes z u pol set : Bool) → (set ≡ true → u ≡ false) → (z ≡ true → u ≡ false)
    → ((takes || z) && (not u && (pol && not (takes && not set)))) ≡ (pol && (if takes then set else z))
joins_by true z true pol true f g = absurd (cc (f refl))
joins_by true z false pol true f g = refl
joins_by true z true pol false f g = sym (and_right pol false refl)
joins_by true z false pol false f g = refl
joins_by false true true pol set f g = absurd (cc (g refl))
joins_by false true false pol set f g = refl
joins_by false false u pol set f g = sym (and_right pol false refl)

none_unknown : (count : ℕ) (set : List ℕ) → (length set == 0) ≡ true → list_any (is_unknown count) set ≡ false
none_unknown count set h = ap (list_any (is_unknown count)) (nil_from_length set (eqb-true _ _ h))

links_by : (links : List Link) (node : ℕ) (takes : Bool) (set : List ℕ) → nat_le (length set) MAX_LINKS_OF_SET ≡ true
    → (if takes then is_set_of links node set else (length set == 0)) ≡ suits_links links node takes set
links_by links node true set h = sym (set_law links node set h)
links_by links node false set h = refl

joins_law : (net : Network) (p : FaultPlace) (s : SidEntry) → nat_le (length s.links) MAX_LINKS_OF_SET ≡ true
    → is_ok (judge_joins net (fitting s) p s) ≡ (nat_lt s.node (length net.nodes)
    && (suits_policy (length net.policies) (behaviour_policy s.behaviour)
    && suits_links net.links s.node (behaviour_takes_links s.behaviour) s.links))
joins_law net p s few_links =
    let takes = behaviour_takes_links s.behaviour in
    let unknown = list_any (is_unknown (length net.links)) s.links in
    let set = is_set_of net.links s.node s.links in
    let pol = suits_policy (length net.policies) (behaviour_policy s.behaviour) in
    rows_of_joins (nat_lt s.node (length net.nodes)) (suits_keys (fitting s) s) unknown
    (is_unknown_policy (length net.policies) (behaviour_policy s.behaviour)) (takes && not set) _ _ _ _ _
    ∙ ap (λ b. nat_lt s.node (length net.nodes) && b)
    (ap (λ b. b && (not unknown && (not (is_unknown_policy (length net.policies) (behaviour_policy s.behaviour))
    && not (takes && not set)))) (fitting_keys s)
    ∙ (ap (λ b. (takes || (length s.links == 0)) && (not unknown && (b && not (takes && not set))))
    (policy_law (length net.policies) (behaviour_policy s.behaviour))
    ∙ (joins_by takes (length s.links == 0) unknown pol set (set_known net.links s.node s.links)
    (none_unknown (length net.links) s.links)
    ∙ ap (λ b. pol && b) (links_by net.links s.node takes s.links few_links))))

regroup : (a pol lk fl c r : Bool) → ((a && (pol && lk)) && ((fl && c) && r)) ≡ ((a && ((pol && (lk && fl)) && c)) && r)
regroup false pol lk fl c r = refl
regroup true false lk fl c r = refl
regroup true true false fl c r = refl
regroup true true true fl c r = refl

-- what a SID must have beside earlier ones
abbrev apart_test : List (List ℕ) → List SidEntry → SidEntry → Bool
apart_test titles before s =
    not (stands_before (same_title_text titles) before s) && (not (stands_before same_sid before s) && not (is_full before s))

sid_law : (net : Network) (before : List SidEntry) (p : FaultPlace) (s : SidEntry) → nat_le (length s.links) MAX_LINKS_OF_SET ≡ true
    → is_ok (judge_standing net (fitting s) before p s) ≡ (sid_test net s && apart_test net.titles before s)
sid_law net before p s few_links =
    let joins = judge_joins net (fitting s) p s in
    let flavours = judge_flavours net (fitting s) p s in
    let apart = judge_apart net.titles before p s in
    let fl = suits_flavours (behaviour_takes_flavours s.behaviour) s.psp s.usp s.usd in
    let c = suits_compression (block_of net.blocks s.prefix) s in
    then_ok joins (and_then flavours apart) _ _ (joins_law net p s few_links)
    (then_ok flavours apart (fl && c) (apart_test net.titles before s) (rows_of_flavours fl c (fault_at p kinds.BadFlavour) _ _)
    (rows_of_apart (stands_before (same_title_text net.titles) before s) (stands_before same_sid before s) (is_full before s)
    _ _ _))
    ∙ regroup (nat_lt s.node (length net.nodes)) (suits_policy (length net.policies) (behaviour_policy s.behaviour))
    (suits_links net.links s.node (behaviour_takes_links s.behaviour) s.links) fl c (apart_test net.titles before s)

-- ---- all SIDs, and the whole

fourth : (a b c d e : Bool) → (a && (b && (c && (d && e)))) ≡ true → d ≡ true
fourth a b c d e h =
    let first = and_parts a (b && (c && (d && e))) h in
    let second = and_parts b (c && (d && e)) first.1 in
    let third = and_parts c (d && e) second.1 in
    (and_parts d e third.1).0

links_within : (net : Network) (s : SidEntry) → sid_in_range net.blocks (length net.titles) s ≡ true
    → nat_le (length s.links) MAX_LINKS_OF_SET ≡ true
links_within net s h =
    fourth (nat_le 1 s.prefix.len) (is_prefix s.prefix) (suits_table (behaviour_table s.behaviour))
    (nat_le (length s.links) MAX_LINKS_OF_SET)
    ((s.block_len == block_len_of (block_of net.blocks s.prefix)) && is_title (length net.titles) s.title) h

judged_sids : (net : Network) → list_all (sid_in_range net.blocks (length net.titles)) net.sids ≡ true
    → is_ok (judged tables.Sid (judge_sid net []) [] net.sids)
    ≡ (list_all (sid_test net) net.sids && passes (apart_test net.titles) [] net.sids)
judged_sids net range =
    judged_passes_within tables.Sid (judge_sid net []) (sid_in_range net.blocks (length net.titles))
    (λ before s. sid_test net s && apart_test net.titles before s)
    (λ before p s h. sid_law net before p s (links_within net s h)) [] net.sids range
    ∙ (passes_both (λ before s. sid_test net s) (apart_test net.titles) [] net.sids
    ∙ ap (λ b. b && passes (apart_test net.titles) [] net.sids) (passes_all (sid_test net) [] net.sids))

apart_law : (net : Network) → InRange net
    → passes (apart_test net.titles) [] net.sids
    ≡ (are_distinct same_bytes net.titles && (are_distinct same_sid net.sids && list_all (has_room net.sids) net.sids))
apart_law net range =
    let titles : List SidEntry → SidEntry → Bool = λ before s. not (stands_before (same_title_text net.titles) before s) in
    let prefixes : List SidEntry → SidEntry → Bool = λ before s. not (stands_before same_sid before s) in
    let room : List SidEntry → SidEntry → Bool = λ before s. not (is_full before s) in
    passes_both titles (λ before s. prefixes before s && room before s) [] net.sids
    ∙ (ap (λ b. passes titles [] net.sids && b) (passes_both prefixes room [] net.sids)
    ∙ (ap (λ b. b && (passes prefixes [] net.sids && passes room [] net.sids)) (titles_law net range)
    ∙ (ap (λ b. are_distinct same_bytes net.titles && (b && passes room [] net.sids)) (passes_distinct same_sid net.sids)
    ∙ ap (λ b. are_distinct same_bytes net.titles && (are_distinct same_sid net.sids && b)) (room_law net.sids))))

in_front : (t k d : Bool) → (k && (t && d)) ≡ (t && (k && d))
in_front true true d = refl
in_front true false d = refl
in_front false true d = refl
in_front false false d = refl

sids_law : (net : Network) → InRange net
    → is_ok (judged tables.Sid (judge_sid net []) [] net.sids) ≡ (keeps_titles net.titles && keeps_sids net)
sids_law net range =
    let sids = and_parts _ _ range.sids in
    let titles = are_distinct same_bytes net.titles in
    let apart = are_distinct same_sid net.sids in
    let room = list_all (has_room net.sids) net.sids in
    let numbered : are_distinct same_number (filter_map title_of net.sids) ≡ true =
    ap (are_distinct same_number) (titles_numbered net range) ∙ numbers_distinct 0 net.titles in
    let in_range = sid_in_range net.blocks (length net.titles) in
    let each = list_all_within in_range (keeps_sid net) (sid_test net) (sid_within net) net.sids sids.1 in
    judged_sids net sids.1
    ∙ (ap (λ b. list_all (sid_test net) net.sids && b) (apart_law net range)
    ∙ (in_front titles (list_all (sid_test net) net.sids) (apart && room)
    ∙ sym (ap (λ b. b && keeps_sids net) (left_out _ _ range.titles)
    ∙ ap (λ b. titles && b) (left_out _ _ sids.0
    ∙ (ap (λ b. b && (apart && (room && are_distinct same_number (filter_map title_of net.sids)))) each
    ∙ ap (λ b. list_all (sid_test net) net.sids && (apart && b)) (left_out_behind room _ numbered))))))

-- parts in range have no fault exactly where the network keeps its rules
pub judging_law : (net : Network) → InRange net → is_ok (judging net []) ≡ is_network net
unfolding judging is_network
judging_law net range =
    let nodes = length net.nodes in
    then_ok (judged tables.Block judge_block [] net.blocks) _ _ _ (blocks_law net.blocks range.blocks)
    (then_ok (judged tables.Node judge_node [] net.nodes) _ _ _ (nodes_law net.nodes range.nodes)
    (then_ok (judged tables.Link (judge_link nodes) [] net.links) _ _ _ (links_law nodes net.links range.links)
    (then_ok (judged tables.Route (judge_route nodes net.links) [] net.routes) _ _ _ (routes_law nodes net.links net.routes range.routes)
    (then_ok (judged tables.Policy judge_policy [] net.policies) _ _ _ (policies_law net.policies range.policies)
    (sids_law net range)))))

-- ---- other keys or flavours than a SID's own

keys_fit : (k : Standing) (s : SidEntry) → suits_keys k s ≡ true → suits_keys (fitting s) s ≡ true
keys_fit k s h =
    let policy = same_answer k.policy (is_some (behaviour_policy s.behaviour)) in
    let links = same_answer k.links (behaviour_takes_links s.behaviour) in
    let table = same_answer k.table (is_some (behaviour_table s.behaviour)) in
    let none = behaviour_takes_links s.behaviour || (length s.links == 0) in
    let rest = and_parts links (table && (policy && none)) h in
    fitting_keys s ∙ (and_parts policy none (and_parts table (policy && none) rest.1).1).1

keys_weaker : (a k j r : Bool) → (k ≡ true → j ≡ true) → (a && (k && r)) ≡ true → (a && (j && r)) ≡ true
keys_weaker a k j r f h =
    let parts = and_parts _ _ h in
    let rest = and_parts _ _ parts.1 in
    and_from _ _ parts.0 (and_from _ _ (f rest.0) rest.1)

joins_weaker : (net : Network) (k : Standing) (p : FaultPlace) (s : SidEntry) → is_ok (judge_joins net k p s) ≡ true
    → is_ok (judge_joins net (fitting s) p s) ≡ true
joins_weaker net k p s h =
    let a = nat_lt s.node (length net.nodes) in
    let u = list_any (is_unknown (length net.links)) s.links in
    let v = is_unknown_policy (length net.policies) (behaviour_policy s.behaviour) in
    let t = behaviour_takes_links s.behaviour && not (is_set_of net.links s.node s.links) in
    rows_of_joins a (suits_keys (fitting s) s) u v t _ _ _ _ _
    ∙ keys_weaker a (suits_keys k s) (suits_keys (fitting s) s) (not u && (not v && not t)) (keys_fit k s)
    (sym (rows_of_joins a (suits_keys k s) u v t _ _ _ _ _) ∙ h)

flavours_weaker : (twice : Bool) (f : TextFault) (rows : List (Bool × TextFault)) → is_ok (first_of ((twice, f) ∷ rows)) ≡ true
    → is_ok (first_of rows) ≡ true
flavours_weaker true f rows h = cc
flavours_weaker false f rows h = h

then_weaker : (r s next more : Result (Unit {0}) TextFault) → (is_ok r ≡ true → is_ok s ≡ true) → (is_ok next ≡ true → is_ok more ≡ true)
    → is_ok (and_then r next) ≡ true → is_ok (and_then s more) ≡ true
then_weaker r s next more f g h =
    let parts = and_parts _ _ (sym (and_then_ok r next) ∙ h) in
    and_then_ok s more ∙ and_from _ _ (f parts.0) (g parts.1)

sid_weaker : (net : Network) (k : Standing) (before : List SidEntry) (p : FaultPlace) (s : SidEntry)
    → is_ok (judge_standing net k before p s) ≡ true → is_ok (judge_standing net (fitting s) before p s) ≡ true
sid_weaker net k before p s =
    let bad = fault_at p kinds.BadFlavour in
    let rows : List (Bool × TextFault) = (not (suits_flavours (behaviour_takes_flavours s.behaviour) s.psp s.usp s.usd), bad)
    ∷ (not (suits_compression (block_of net.blocks s.prefix) s), bad) ∷ [] in
    then_weaker (judge_joins net k p s) (judge_joins net (fitting s) p s) _ _ (joins_weaker net k p s)
    (then_weaker (judge_flavours net k p s) (judge_flavours net (fitting s) p s) (judge_apart net.titles before p s)
    (judge_apart net.titles before p s) (flavours_weaker k.double_flavour bad rows) (λ h. h))

judged_weaker : {X : Type 0} (table : TableKind) (judge other : List X → FaultPlace → X → Result (Unit {0}) TextFault)
    → ((before : List X) (p : FaultPlace) (x : X) → is_ok (judge before p x) ≡ true → is_ok (other before p x) ≡ true)
    → (before xs : List X) → is_ok (judged table judge before xs) ≡ true → is_ok (judged table other before xs) ≡ true
judged_weaker table judge other each before [] h = refl
judged_weaker table judge other each before (x ∷ xs) h =
    let p : FaultPlace = record { table = table; item = length before + 1 } in
    then_weaker (judge before p x) (other before p x) (judged table judge (before ++ x ∷ []) xs) (judged table other (before ++ x ∷ []) xs)
    (each before p x) (judged_weaker table judge other each (before ++ x ∷ []) xs) h

rest_weaker : (r next more : Result (Unit {0}) TextFault) → (is_ok next ≡ true → is_ok more ≡ true)
    → is_ok (and_then r next) ≡ true → is_ok (and_then r more) ≡ true
rest_weaker r next more g = then_weaker r r next more (λ h. h) g

judging_weaker : (net : Network) (standings : List Standing) → is_ok (judging net standings) ≡ true → is_ok (judging net []) ≡ true
unfolding judging
judging_weaker net standings =
    let nodes = length net.nodes in
    let sids : List Standing → Result (Unit {0}) TextFault = λ ks. judged tables.Sid (judge_sid net ks) [] net.sids in
    let policies : List Standing → Result (Unit {0}) TextFault =
    λ ks. and_then (judged tables.Policy judge_policy [] net.policies) (sids ks) in
    let routes : List Standing → Result (Unit {0}) TextFault =
    λ ks. and_then (judged tables.Route (judge_route nodes net.links) [] net.routes) (policies ks) in
    let links : List Standing → Result (Unit {0}) TextFault =
    λ ks. and_then (judged tables.Link (judge_link nodes) [] net.links) (routes ks) in
    let others : List Standing → Result (Unit {0}) TextFault = λ ks. and_then (judged tables.Node judge_node [] net.nodes) (links ks) in
    rest_weaker (judged tables.Block judge_block [] net.blocks) (others standings) (others [])
    (rest_weaker (judged tables.Node judge_node [] net.nodes) (links standings) (links [])
    (rest_weaker (judged tables.Link (judge_link nodes) [] net.links) (routes standings) (routes [])
    (rest_weaker (judged tables.Route (judge_route nodes net.links) [] net.routes) (policies standings) (policies [])
    (rest_weaker (judged tables.Policy judge_policy [] net.policies) (sids standings) (sids [])
    (judged_weaker tables.Sid (judge_sid net standings) (judge_sid net [])
    (λ before p s. sid_weaker net (standing_or s (slice_get standings (length before))) before p s) [] net.sids)))))

-- ---- the law

ok_from : (r : Result (Unit {0}) TextFault) → is_ok r ≡ true → r ≡ Ok tt
ok_from (Ok u) h = refl
ok_from (Err fault) h = cc

pub exact_law : (net : Network) → InRange net → (judging net [] ≡ Ok tt) ↔ IsNetwork net
exact_law net range = (
  (λ e. sym (judging_law net range) ∙ ap is_ok e),
  (λ h. ok_from (judging net []) (judging_law net range ∙ h)),
)

pub enough_law : (net : Network) (standings : List Standing) → InRange net → judging net standings ≡ Ok tt → IsNetwork net
enough_law net standings range e = sym (judging_law net range) ∙ judging_weaker net standings (ap is_ok e)
