-- The routes of a plan are in their ranges, and what a network becomes by them.
use Rattle.std.proofs.Common.{◌≡◌, ℕ, ◌+◌, ◌≤◌, Bool, true, false, ◌&&◌, ◌||◌, nat_le, List, [], ◌∷◌, ◌++◌, length, get_or, Contains, refl, sym, ap, ◌∙◌, subst}
use Rattle.std.specs.Prelude.{All, Result, Ok, Err, if◌then◌else◌, IfOk}
use Rattle.std.specs.List.{list_all}
use Rattle.std.proofs.lemmas.Bool.{and_from, and_parts, le-leb}
use Rattle.std.proofs.lemmas.List.Elements.{All-head, All-tail, All-contains, Contains-get_or}
use Rattle.text_faults.specs.declared.text_place.TableKind.TheVariants as tables
use Rattle.text_faults.specs.declared.text_place.Key.TheVariants as keys
use Rattle.text_faults.specs.declared.fault.TextFault.{TextFault}
use Rattle.text_faults.specs.declared.fault.OrNoMemory.{OrNoMemory}
use Rattle.text_faults.specs.TextReading.{Gives}
use Rattle.net_model.specs.declared.limits.TheConstants.{MAX_ROUTES, MAX_LINKS_OF_SET}
use Rattle.net_model.specs.declared.parts.Route.{Route}
use Rattle.net_model.specs.Network.{Network}
use Rattle.net_model.specs.declared.net.Hit.{Hit}
use Rattle.net_model.specs.NetworkRules.{same_route}
use Rattle.net_model.specs.NetworkRulesTerms.{is_table, is_prefix_of}
use Rattle.net_model.specs.NetworkJudging.{judging, stands_before}
use Rattle.net_model.specs.NetworkJudgingTerms.{route_in_range, InRange}
use Rattle.net_model.specs.NetworkKeeps.{Keeps}
use Rattle.toml_reader.specs.TomlReading.{◌>>=◌}
use Rattle.toml_reader.specs.Tree.{few}
use Rattle.plan_syntax.specs.declared.plan_table.DescribedPlan.{DescribedPlan}
use Rattle.shortest_paths.specs.declared.links.Link as path
use Rattle.shortest_paths.specs.LeastWalks.{IsWalk}
use Rattle.planned_routes.specs.declared.owners.Owner.{Owner}
use Rattle.planned_routes.specs.PlannedRoutes.{IsPlanned as IsRoutePlanned, ArePlanned, weighed_links}
use Rattle.net_plan.specs.declared.exits.Exit.{Exit}
use Rattle.net_plan.specs.LinkMetrics.{metrics_of}
use Rattle.net_plan.specs.PlanOwners.{exits_of, owners_of}
use Rattle.net_plan.specs.ExitRoutes.{same_exit, exit_route, routes_out}
use Rattle.net_plan.specs.PlannedNetwork.{judge_vias, with_routes, routes_there, HasPlanned, IsPlanned, Answers}
use Rattle.net_plan.specs.PlanRanges.{route_fits, IsPlan}
use Rattle.net_plan.proofs.LinksFit.{all_joined}
use Rattle.net_plan.proofs.OwnersMet.{OwnerFits, exits_fit, owners_fit}

-- ---- routes along shortest paths

walk_ends : (links : List path.Link) (targets : List ℕ) (node : ℕ) (walk : List path.Link) → IsWalk links targets node walk
    → (t : ℕ) × Contains targets t
walk_ends links targets node [] is = (node, is)
walk_ends links targets node (l ∷ walk) is = walk_ends links targets is.2 walk is.4

planned_fits : (count : ℕ) (links : List path.Link) (owners : List Owner) → All (OwnerFits count) owners → (r : Route)
    → IsRoutePlanned links owners r → route_fits r ≡ true
planned_fits count links owners all r is =
    let n : ℕ = get_or r.via 0 0 in
    let first = (is.exact n).0 (Contains-get_or r.via 0 0 is.some) in
    let begins = first.2 in
    let ends = walk_ends links is.targets r.node (first.0 ∷ begins.rest) begins.is in
    let owns = (is.are ends.0).0 ends.1 in
    let o : Owner = owns.0 in
    let fits = (All-contains (OwnerFits count) owners o all owns.1).0 in
    let has = owns.2 in
    rw (← has.table, ← has.family, ← has.prefix) fits

all_fit : (P : Route → Type 0) → ((r : Route) → P r → route_fits r ≡ true) → (rs : List Route) → All P rs → list_all route_fits rs ≡ true
all_fit P each [] all = refl
all_fit P each (r ∷ rs) all = and_from _ _ (each r (All-head P r rs all)) (all_fit P each rs (All-tail P r rs all))

-- ---- routes out of the network

out_fit : (count : ℕ) (exits : List Exit) (there : List Route) (before es : List Exit) → All (λ (e : Exit). OwnerFits count e.at) es
    → list_all route_fits (routes_out exits there before es) ≡ true
out_fit count exits there before [] all = refl
out_fit count exits there before (e ∷ es) all =
    let P : Exit → Type 0 = λ e. OwnerFits count e.at in
    let rest = out_fit count exits there (before ++ e ∷ []) es (All-tail P e es all) in
    by_test (stands_before same_exit before e || stands_before same_route there (exit_route exits e)) (All-head P e es all).0 rest
  where
    by_test : (b : Bool) → (is_table e.at.table && is_prefix_of e.at.family e.at.prefix) ≡ true
        → list_all route_fits (routes_out exits there (before ++ e ∷ []) es) ≡ true
        → list_all route_fits (if b then routes_out exits there (before ++ e ∷ []) es
        else exit_route exits e ∷ routes_out exits there (before ++ e ∷ []) es) ≡ true
    by_test true fits rest = rest
    by_test false fits rest = and_from _ _ fits rest

-- ---- all routes

own_fit : (rs : List Route) → list_all route_in_range rs ≡ true → list_all route_fits rs ≡ true
own_fit [] all = refl
own_fit (r ∷ rs) all =
    let parts = and_parts (route_in_range r) (list_all route_in_range rs) all in
    let short = nat_le (length r.via) MAX_LINKS_OF_SET in
    let table = and_parts (is_table r.table) (is_prefix_of r.family r.prefix && short) parts.0 in
    let prefix = and_parts (is_prefix_of r.family r.prefix) short table.1 in
    and_from (route_fits r) (list_all route_fits rs) (and_from (is_table r.table) (is_prefix_of r.family r.prefix) table.0 prefix.0)
    (own_fit rs parts.1)

pub planned_in_range : (plan : DescribedPlan) (down nodes : List ℕ) (net : Network) (all : List Route) → IsPlan plan → Keeps net → InRange net
    → HasPlanned plan down nodes net all → list_all route_fits all ≡ true
planned_in_range plan down nodes net all is keeps range has =
    let exits = exits_of plan down nodes net in
    let count = length net.nodes in
    let out = out_fit count exits net.routes [] exits (exits_fit net keeps range plan down nodes is) in
    let there = all_joined route_fits net.routes (routes_out exits net.routes [] exits) (own_fit net.routes (and_parts _ _ range.routes).1) out in
    let links = weighed_links (metrics_of plan down nodes net.links) net.links in
    let owners = owners_of plan net exits in
    let new = all_fit (IsRoutePlanned links owners)
    (planned_fits count links owners (owners_fit net keeps range plan down nodes is)) has.0 has.1.each in
    rw has.2 (all_joined route_fits (routes_there plan down nodes net) has.0 there new)

-- ---- what is built

no_fault : {X F : Type 0} (fault : F) (x : X) → Err fault ≡ Ok x → ⊥
no_fault fault x e = cc

-- what follows a test is fine where all is
test_passes : {X F : Type 0} (b : Bool) (n : ℕ) (xs : List X) (fault : F) (r : Result (Unit {0}) F)
    → ◌>>=◌ (◌>>=◌ (if b then Ok n else Err fault) (λ count. Ok xs)) (λ via. r) ≡ Ok tt → (b ≡ true) × (r ≡ Ok tt)
test_passes true n xs fault r e = (refl, e)
test_passes false n xs fault r e = absurd (no_fault fault tt e)

vias_short : (n : ℕ) (rs : List Route) → judge_vias n rs ≡ Ok tt → list_all (λ (r : Route). nat_le (length r.via) MAX_LINKS_OF_SET) rs ≡ true
vias_short n [] e = refl
vias_short n (r ∷ rs) e =
    let passes = test_passes (nat_le (length r.via) MAX_LINKS_OF_SET) (length r.via) r.via _ (judge_vias (n + 1) rs) e in
    and_from _ _ passes.0 (vias_short (n + 1) rs passes.1)

both_in_range : (rs : List Route) → list_all route_fits rs ≡ true
    → list_all (λ (r : Route). nat_le (length r.via) MAX_LINKS_OF_SET) rs ≡ true → list_all route_in_range rs ≡ true
both_in_range [] fits short = refl
both_in_range (r ∷ rs) fits short =
    let f = and_parts _ _ fits in
    let s = and_parts _ _ short in
    let parts = and_parts _ _ f.0 in
    and_from _ _ (and_from _ _ parts.0 (and_from _ _ parts.1 s.0)) (both_in_range rs f.1 s.1)

pub routed_in_range : (net : Network) → InRange (record net { routes = [] }) → list_all route_fits net.routes ≡ true
    → length net.routes ≤ MAX_ROUTES → judge_vias 1 net.routes ≡ Ok tt → InRange net
routed_in_range net range fits count vias = record {
  blocks = range.blocks;
  nodes = range.nodes;
  links = range.links;
  routes = and_from _ _ (le-leb _ _ count) (both_in_range net.routes fits (vias_short 1 net.routes vias));
  policies = range.policies;
  titles = range.titles;
  title_numbers = range.title_numbers;
  sids = range.sids;
}

routes_few : (rs : List Route) → length rs ≤ MAX_ROUTES
    → few (record { table = tables.Route; item = 0 }) keys.Route MAX_ROUTES rs ≡ Ok rs
routes_few rs short = rw (le-leb (length rs) MAX_ROUTES short) refl

-- the parts of a network as they are judged
abbrev judged_parts : Network → Result Network TextFault
judged_parts net = ◌>>=◌ (judging net []) (λ fine. Ok net)

with_few : (net : Network) → length net.routes ≤ MAX_ROUTES → judge_vias 1 net.routes ≡ Ok tt
    → with_routes net net.routes ≡ judged_parts (record net { hidden = [] })
with_few net count vias = rw (routes_few net.routes count, vias) refl

pub built_gives : (net : Network) (r : Result Network (OrNoMemory TextFault)) → net.hidden ≡ [] → length net.routes ≤ MAX_ROUTES
    → judge_vias 1 net.routes ≡ Ok tt → Gives (λ _. tt) r (judging net []) → IfOk r (λ built. built ≡ net)
    → Gives (λ built. built) r (with_routes net net.routes)
built_gives net (Ok built) whole count vias fine same =
    let hidden : record net { hidden = [] } ≡ net = ap (λ (h : List Hit). record net { hidden = h }) (sym whole) in
    with_few net count vias ∙ (ap judged_parts hidden ∙ (ap (λ u. ◌>>=◌ u (λ fine. Ok net)) fine ∙ ap Ok (sym same)))
built_gives net (Err why) whole count vias first same = λ fault other.
    let hidden : record net { hidden = [] } ≡ net = ap (λ (h : List Hit). record net { hidden = h }) (sym whole) in
    with_few net count vias ∙ (ap judged_parts hidden ∙ ap (λ u. ◌>>=◌ u (λ fine. Ok net)) (first fault other))

pub vias_refused : (net : Network) (fault : TextFault) → length net.routes ≤ MAX_ROUTES → judge_vias 1 net.routes ≡ Err fault
    → with_routes net net.routes ≡ Err fault
vias_refused net fault count refused = rw (routes_few net.routes count, refused) refl

pub many_refused : (net : Network) (fault : TextFault)
    → few (record { table = tables.Route; item = 0 }) keys.Route MAX_ROUTES net.routes ≡ Err fault → with_routes net net.routes ≡ Err fault
many_refused net fault refused = rw refused refl

-- ---- routes that are there, and the plan's behind them

pub has_planned : (plan : DescribedPlan) (down nodes : List ℕ) (net : Network) (exits own : List Exit) (there known routes all : List Route)
    → exits ≡ exits_of plan down nodes net → own ≡ exits → there ≡ net.routes ++ routes_out exits net.routes [] exits → known ≡ there
    → ArePlanned (weighed_links (metrics_of plan down nodes net.links) net.links) (owners_of plan net own) known routes
    → all ≡ there ++ routes → HasPlanned plan down nodes net all
has_planned plan down nodes net exits own there known routes all is same has_there same_there planned ends =
    let links = weighed_links (metrics_of plan down nodes net.links) net.links in
    let first : there ≡ routes_there plan down nodes net =
    has_there ∙ ap (λ (es : List Exit). net.routes ++ routes_out es net.routes [] es) is in
    let beside : ArePlanned links (owners_of plan net own) (routes_there plan down nodes net) routes =
    subst (λ (rs : List Route). ArePlanned links (owners_of plan net own) rs routes) (same_there ∙ first) planned in (
      routes,
      subst (λ (es : List Exit). ArePlanned links (owners_of plan net es) (routes_there plan down nodes net) routes) (same ∙ is) beside,
      ends ∙ ap (λ (rs : List Route). rs ++ routes) first,
    )

-- ---- the network with its planned routes

-- parts that are a network's but for their routes
abbrev pub with_these : Network → List Route → Network
with_these net routes = record net { routes = routes; hidden = [] }

same_with : (net : Network) (all : List Route) → with_routes (with_these net all) all ≡ with_routes net all
same_with net all = refl

pub answers_by : (plan : DescribedPlan) (down nodes : List ℕ) (net : Network) (all : List Route) (r : Result Network (OrNoMemory TextFault))
    → HasPlanned plan down nodes net all → Gives (λ built. built) r (with_routes (with_these net all) all)
    → Answers (λ built. built) r (IsPlanned plan down nodes net)
answers_by plan down nodes net all (Ok built) has gives = (all, has, sym gives ∙ same_with net all)
answers_by plan down nodes net all (Err why) has gives = λ fault other. (all, has, sym (gives fault other) ∙ same_with net all)

-- ---- parts that are copied

pub emptied : (net : Network) → InRange net → InRange (record net { routes = []; hidden = [] })
emptied net range = record {
  blocks = range.blocks;
  nodes = range.nodes;
  links = range.links;
  routes = refl;
  policies = range.policies;
  titles = range.titles;
  title_numbers = range.title_numbers;
  sids = range.sids;
}

-- the parts of a network once more, with other routes
pub copied_with : (copy net : Network) (all : List Route) → record copy { hidden = net.hidden } ≡ net
    → with_these net all ≡ with_these copy all
copied_with copy net all e = ap (λ (n : Network). with_these n all) (sym e)

pub copied_range : (copy net : Network) → record copy { hidden = net.hidden } ≡ net → InRange net
    → InRange (record copy { routes = []; hidden = [] })
copied_range copy net e range =
    subst InRange (ap (λ (n : Network). record n { routes = []; hidden = [] }) (sym e)) (emptied net range)
