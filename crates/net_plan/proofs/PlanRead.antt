-- What a plan's text says is in its ranges.
use Rattle.std.proofs.Common.{◌≡◌, ℕ, Bool, true, false, ◌&&◌, nat_le, List, [], ◌∷◌, length, Option, Some, None, refl}
use Rattle.std.specs.Prelude.{Result, Ok, Err}
use Rattle.std.proofs.lemmas.Bool.{and_from, and_parts}
use Rattle.toml.specs.Data.{Data, Items, Members, as_array}
use Rattle.net_model.specs.declared.limits.TheConstants.{MAX_NODES, LAST_TABLE, MIN_LINK_MTU, MAX_LINK_MTU}
use Rattle.net_model.specs.NetworkRulesTerms.{is_mtu, is_table}
use Rattle.toml_reader.specs.TomlReading.{or_fault, document_of}
use Rattle.toml_reader.specs.Tree.{data_of}
use Rattle.net_syntax.specs.declared.family_prefix.FamilyPrefix.{FamilyPrefix}
use Rattle.plan_syntax.specs.declared.limits.TheConstants.{MAX_CABLES, MAX_METRICS, MAX_LOCATORS, MAX_SITES, MAX_SITE_PREFIXES, MAX_METRIC, DEFAULT_METRIC}
use Rattle.plan_syntax.specs.declared.plan_places.PlanTable.TheVariants as tables
use Rattle.plan_syntax.specs.declared.plan_places.PlanKey.{PlanKey}
use Rattle.plan_syntax.specs.declared.plan_places.PlanKey.TheVariants as keys
use Rattle.plan_syntax.specs.declared.plan_places.PlanPlace.{PlanPlace}
use Rattle.plan_syntax.specs.declared.plan_faults.PlanFaultKind.TheVariants as kinds
use Rattle.plan_syntax.specs.declared.both_ways.BothWays.{BothWays}
use Rattle.plan_syntax.specs.declared.cable_table.DescribedCable.{DescribedCable}
use Rattle.plan_syntax.specs.declared.metric_table.DescribedMetric.{DescribedMetric}
use Rattle.plan_syntax.specs.declared.locator_table.DescribedLocator.{DescribedLocator}
use Rattle.plan_syntax.specs.declared.site_table.DescribedSite.{DescribedSite}
use Rattle.plan_syntax.specs.declared.plan_table.DescribedPlan.{DescribedPlan}
use Rattle.plan_syntax.specs.PlanFaults.{plan_fault_at}
use Rattle.plan_syntax.specs.PlanTree.{name_in, prefix_in, number_in, flag_in, given, list_in, needed, optional, only, items_at}
use Rattle.plan_syntax.specs.PlanText.{no_numbers, two_numbers, one_number, both_of, both_in, two_at, two_if_given, some_names, some_prefixes, cable_of, metric_of, locator_of, site_of, plan_place, plan_of, plan_in}
use Rattle.net_plan.specs.PlanRanges.{metric_fits, given_fits, both_fit, cable_fits, link_metric_fits, prefix_fits, locator_fits, site_fits, IsPlan}
use Rattle.net_plan.proofs.PlanYields.{Yields, yielded, AreFew, IfGiven, yields_next, yields_behind, yields_number, yields_prefix, yields_given, yields_list, yields_length, yields_some, yields_needed, yields_optional, yields_items}

-- ---- numbers of both links

abbrev Within : ℕ → ℕ → ℕ → Bool
Within least most n = nat_le least n && nat_le n most

abbrev BothFit : ℕ → ℕ → BothWays → Type 0
BothFit least most numbers = both_fit (Within least most) numbers ≡ true

two_fit : (least most : ℕ) (p : PlanPlace) (k : PlanKey) (ds : List Data) → Yields (BothFit least most) (two_numbers least most p k ds)
two_fit least most p k [] = tt
two_fit least most p k (d ∷ []) = tt
two_fit least most p k (d ∷ e ∷ []) =
    let P = BothFit least most in
    let N : ℕ → Type 0 = λ n. Within least most n ≡ true in
    yields_next N P (number_in least most p k d) _ (yields_number least most p k d) (λ there t.
    yields_next N P (number_in least most p k e) _ (yields_number least most p k e) (λ back b. and_from _ _ t b))
two_fit least most p k (d ∷ e ∷ f ∷ ds) = tt

one_fits : (least most : ℕ) (p : PlanPlace) (k : PlanKey) (d : Data) → Yields (BothFit least most) (one_number least most p k d)
one_fits least most p k d =
    yields_next (λ n. Within least most n ≡ true) (BothFit least most) (number_in least most p k d) _ (yields_number least most p k d)
    (λ n fits. and_from _ _ fits fits)

both_fit_of : (least most : ℕ) (p : PlanPlace) (k : PlanKey) (d : Data) (o : Option Items) → Yields (BothFit least most) (both_of least most p k d o)
both_fit_of least most p k d None = one_fits least most p k d
both_fit_of least most p k d (Some items) = two_fit least most p k (data_of items)

both_fit_in : (least most : ℕ) (p : PlanPlace) (k : PlanKey) (d : Data) → Yields (BothFit least most) (both_in least most p k d)
both_fit_in least most p k d = both_fit_of least most p k d (as_array d)

-- ---- items

cable_yields : (p : PlanPlace) (t : Members) → Yields (λ c. cable_fits c ≡ true) (cable_of p t)
cable_yields p t =
    let P : DescribedCable → Type 0 = λ c. cable_fits c ≡ true in
    yields_behind P (only (keys.Nodes ∷ keys.Metric ∷ keys.Mtu ∷ keys.Links ∷ []) p t) _ (λ known.
    yields_behind P (two_at p known keys.Nodes) _ (λ nodes.
    yields_next (BothFit 1 MAX_METRIC) P (optional (both_in 1 MAX_METRIC) no_numbers p known keys.Metric) _
    (yields_optional (BothFit 1 MAX_METRIC) (both_in 1 MAX_METRIC) no_numbers (both_fit_in 1 MAX_METRIC) refl p known keys.Metric) (λ metrics m.
    yields_next (BothFit MIN_LINK_MTU MAX_LINK_MTU) P (optional (both_in MIN_LINK_MTU MAX_LINK_MTU) no_numbers p known keys.Mtu) _
    (yields_optional (BothFit MIN_LINK_MTU MAX_LINK_MTU) (both_in MIN_LINK_MTU MAX_LINK_MTU) no_numbers
    (both_fit_in MIN_LINK_MTU MAX_LINK_MTU) refl p known keys.Mtu) (λ mtus u.
    yields_behind P (two_if_given p known keys.Links) _ (λ links. and_from _ _ m u)))))

metric_yields : (p : PlanPlace) (t : Members) → Yields (λ m. link_metric_fits m ≡ true) (metric_of p t)
metric_yields p t =
    let P : DescribedMetric → Type 0 = λ m. link_metric_fits m ≡ true in
    let N : ℕ → Type 0 = λ n. metric_fits n ≡ true in
    yields_behind P (only (keys.Name ∷ keys.Metric ∷ []) p t) _ (λ known.
    yields_behind P (needed name_in p known keys.Name) _ (λ name.
    yields_next N P (needed (number_in 1 MAX_METRIC) p known keys.Metric) _
    (yields_needed N (number_in 1 MAX_METRIC) (yields_number 1 MAX_METRIC) p known keys.Metric) (λ metric fits. fits)))

table_yields : (p : PlanPlace) (t : Members) → Yields (λ n. is_table n ≡ true) (optional (number_in 0 LAST_TABLE) 0 p t keys.Table)
table_yields p t =
    yields_optional (λ n. is_table n ≡ true) (number_in 0 LAST_TABLE) 0
    (λ p k d. low (number_in 0 LAST_TABLE p k d) (yields_number 0 LAST_TABLE p k d)) refl p t keys.Table
  where
    low : {F : Type 0} (r : Result ℕ F) → Yields (λ n. Within 0 LAST_TABLE n ≡ true) r → Yields (λ n. is_table n ≡ true) r
    low (Ok n) h = (and_parts _ _ h).1
    low (Err fault) h = tt

names_yield : (p : PlanPlace) (t : Members) → Yields (λ ns. nat_le (length ns) MAX_NODES ≡ true) (some_names p t)
names_yield p t =
    let Q : List (List ℕ) → Type 0 = λ ns. AreFew MAX_NODES (λ (n : List ℕ). true) ns in
    let P : List (List ℕ) → Type 0 = λ ns. nat_le (length ns) MAX_NODES ≡ true in
    yields_next Q P (needed (list_in MAX_NODES name_in) p t keys.Nodes) _
    (yields_needed Q (list_in MAX_NODES name_in) (yields_length MAX_NODES name_in) p t keys.Nodes)
    (λ ns few. yields_some P p keys.Nodes ns (and_parts _ _ few).0)

locator_yields : (p : PlanPlace) (t : Members) → Yields (λ l. locator_fits l ≡ true) (locator_of p t)
locator_yields p t =
    let P : DescribedLocator → Type 0 = λ l. locator_fits l ≡ true in
    yields_behind P (only (keys.Prefix ∷ keys.Nodes ∷ keys.Table ∷ []) p t) _ (λ known.
    yields_next (λ q. prefix_fits q ≡ true) P (needed prefix_in p known keys.Prefix) _
    (yields_needed (λ q. prefix_fits q ≡ true) prefix_in yields_prefix p known keys.Prefix) (λ prefix q.
    yields_next (λ ns. nat_le (length ns) MAX_NODES ≡ true) P (some_names p known) _ (names_yield p known) (λ nodes few.
    yields_next (λ n. is_table n ≡ true) P (optional (number_in 0 LAST_TABLE) 0 p known keys.Table) _ (table_yields p known)
    (λ table low. and_from _ _ low (and_from _ _ q few)))))

prefixes_yield : (p : PlanPlace) (t : Members) → Yields (AreFew MAX_SITE_PREFIXES prefix_fits) (some_prefixes p t)
prefixes_yield p t =
    let P : List FamilyPrefix → Type 0 = λ qs. AreFew MAX_SITE_PREFIXES prefix_fits qs in
    yields_next P P (needed (list_in MAX_SITE_PREFIXES prefix_in) p t keys.Prefixes) _
    (yields_needed P (list_in MAX_SITE_PREFIXES prefix_in) (yields_list MAX_SITE_PREFIXES prefix_fits prefix_in yields_prefix) p t keys.Prefixes)
    (λ qs few. yields_some P p keys.Prefixes qs few)

site_yields : (p : PlanPlace) (t : Members) → Yields (λ s. site_fits s ≡ true) (site_of p t)
site_yields p t =
    let P : DescribedSite → Type 0 = λ s. site_fits s ≡ true in
    yields_behind P (only (keys.Node ∷ keys.Link ∷ keys.Table ∷ keys.Prefixes ∷ []) p t) _ (λ known.
    yields_behind P (needed name_in p known keys.Node) _ (λ node.
    yields_behind P (needed name_in p known keys.Link) _ (λ link.
    yields_next (λ n. is_table n ≡ true) P (optional (number_in 0 LAST_TABLE) 0 p known keys.Table) _ (table_yields p known) (λ table low.
    yields_next (AreFew MAX_SITE_PREFIXES prefix_fits) P (some_prefixes p known) _ (prefixes_yield p known)
    (λ prefixes few. and_from _ _ low few)))))

-- ---- the whole

mtu_given : (o : Option ℕ) → IfGiven (λ n. Within MIN_LINK_MTU MAX_LINK_MTU n ≡ true) o → given_fits is_mtu o ≡ true
mtu_given None h = refl
mtu_given (Some mtu) h = h

plan_yields : (root : Members) → Yields IsPlan (plan_of root)
plan_yields root =
    let N : ℕ → Type 0 = λ n. metric_fits n ≡ true in
    let M : ℕ → Type 0 = λ n. Within MIN_LINK_MTU MAX_LINK_MTU n ≡ true in
    let mtus = number_in MIN_LINK_MTU MAX_LINK_MTU in
    yields_behind IsPlan (only (
    keys.Metric ∷ keys.Mtu ∷ keys.Ends ∷ keys.Addresses ∷ keys.Cable ∷ keys.Link ∷ keys.Locator ∷ keys.Site ∷ []) plan_place root) _ (λ known.
    yields_next N IsPlan (optional (number_in 1 MAX_METRIC) DEFAULT_METRIC plan_place known keys.Metric) _
    (yields_optional N (number_in 1 MAX_METRIC) DEFAULT_METRIC (yields_number 1 MAX_METRIC) refl plan_place known keys.Metric) (λ metric m.
    yields_next (IfGiven M) IsPlan (optional (given mtus) None plan_place known keys.Mtu) _
    (yields_optional (IfGiven M) (given mtus) None (yields_given M mtus (yields_number MIN_LINK_MTU MAX_LINK_MTU)) tt plan_place known keys.Mtu)
    (λ mtu u.
    yields_behind IsPlan (optional flag_in true plan_place known keys.Ends) _ (λ ends.
    yields_behind IsPlan (optional flag_in false plan_place known keys.Addresses) _ (λ addresses.
    yields_next (AreFew MAX_CABLES cable_fits) IsPlan (items_at tables.Cable keys.Cable MAX_CABLES cable_of known) _
    (yields_items tables.Cable keys.Cable MAX_CABLES cable_fits cable_of cable_yields known) (λ cables c.
    yields_next (AreFew MAX_METRICS link_metric_fits) IsPlan (items_at tables.Link keys.Link MAX_METRICS metric_of known) _
    (yields_items tables.Link keys.Link MAX_METRICS link_metric_fits metric_of metric_yields known) (λ links l.
    yields_next (AreFew MAX_LOCATORS locator_fits) IsPlan (items_at tables.Locator keys.Locator MAX_LOCATORS locator_of known) _
    (yields_items tables.Locator keys.Locator MAX_LOCATORS locator_fits locator_of locator_yields known) (λ locators o.
    yields_next (AreFew MAX_SITES site_fits) IsPlan (items_at tables.Site keys.Site MAX_SITES site_of known) _
    (yields_items tables.Site keys.Site MAX_SITES site_fits site_of site_yields known) (λ sites s.
    record { metric = m; mtu = mtu_given mtu u; cables = c; links = l; locators = o; sites = s })))))))))

pub plan_fits : (text : List ℕ) (said : DescribedPlan) → plan_in text ≡ Ok said → IsPlan said
plan_fits text said is =
    yielded IsPlan (plan_in text) said
    (yields_behind IsPlan (or_fault (plan_fault_at plan_place kinds.NotToml) (document_of text)) _ plan_yields) is
