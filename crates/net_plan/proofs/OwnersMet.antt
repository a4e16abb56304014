-- The owners of a plan are nodes of the network, with tables and prefixes in their ranges, and not too many.
use Rattle.std.proofs.Common.{◌≡◌, ℕ, suc, ◌+◌, ◌*◌, ◌<◌, ◌≤◌, ◌^◌, ◌%◌, ◌==◌, Bool, true, false, ◌&&◌, nat_le, List, [], ◌∷◌, ◌++◌, length, map, Option, Some, None, refl, ap, arith, length-append}
use Rattle.std.specs.Prelude.{All, if◌then◌else◌, option_map, bytes_eq, slice_get}
use Rattle.std.specs.List.{list_all, filter_map, cons_option, flat_map}
use Rattle.std.proofs.lemmas.Bool.{and_from, and_parts, leb-true, eq-eqb}
use Rattle.std.proofs.lemmas.List.{length-map}
use Rattle.std.proofs.lemmas.List.Elements.{All-nil, All-cons, All-append, All-head, All-tail}
use Rattle.std.proofs.lemmas.List.Quantifiers.{position-Some}
use Rattle.srv6_rules.specs.declared.family.Family.TheVariants.{V6}
use Rattle.srv6_rules.specs.declared.sid.SidEntry.{SidEntry}
use Rattle.net_model.specs.declared.limits.TheConstants.{MAX_NODES, MAX_SIDS}
use Rattle.net_model.specs.declared.parts.Node.{Node}
use Rattle.net_model.specs.Network.{Network}
use Rattle.net_model.specs.NetworkRulesTerms.{is_address, is_prefix, is_prefix_of, is_table, keeps_node}
use Rattle.net_model.specs.NetworkJudgingTerms.{InRange}
use Rattle.net_model.specs.NetworkKeeps.{Keeps, KeepsSid}
use Rattle.net_model.specs.Named.{node_numbered, link_numbered}
use Rattle.net_syntax.specs.declared.family_prefix.FamilyPrefix.{FamilyPrefix}
use Rattle.net_reader.proofs.DescribedLemmas.{is_prefix_from}
use Rattle.net_without.specs.Without.{is_up}
use Rattle.plan_syntax.specs.declared.limits.TheConstants.{MAX_LOCATORS, MAX_SITES, MAX_SITE_PREFIXES}
use Rattle.plan_syntax.specs.declared.locator_table.DescribedLocator.{DescribedLocator}
use Rattle.plan_syntax.specs.declared.site_table.DescribedSite.{DescribedSite}
use Rattle.plan_syntax.specs.declared.plan_table.DescribedPlan.{DescribedPlan}
use Rattle.planned_routes.specs.declared.owners.Owner.{Owner}
use Rattle.net_plan.specs.declared.exits.Exit.{Exit}
use Rattle.net_plan.specs.PlanOwners.{owner_of, locator_owner, locator_owners, is_locator, sid_owner, address_owners, exit_of, exits_over, site_exits, exits_of, exit_owner, end_owners, node_owners, owners_of}
use Rattle.net_plan.specs.PlanRanges.{prefix_fits, locator_fits, site_fits, IsPlan}

-- ---- what holds of an owner

abbrev pub OwnerFits : ℕ → Owner → Type 0
OwnerFits count o = ((is_table o.table && is_prefix_of o.family o.prefix) ≡ true) × (o.node < count)

-- of what may be given
abbrev IfThere : {X : Type 0} → (X → Type 0) → Option X → Type 0
IfThere P None = Unit {0}
IfThere P (Some x) = P x

all_given : {X Y : Type 0} (P : Y → Type 0) (f : X → Option Y) (ok : X → Bool) → ((x : X) → ok x ≡ true → IfThere P (f x)) → (xs : List X)
    → list_all ok xs ≡ true → All P (filter_map f xs)
all_given P f ok each [] all = All-nil P
all_given {Y = Y} P f ok each (x ∷ xs) all =
    let parts = and_parts _ _ all in
    put (f x) (filter_map f xs) (each x parts.0) (all_given P f ok each xs parts.1)
  where
    put : (o : Option Y) (ys : List Y) → IfThere P o → All P ys → All P (cons_option o ys)
    put None ys holds rest = rest
    put (Some y) ys holds rest = All-cons P y ys holds rest

all_flat : {X Y : Type 0} (P : Y → Type 0) (f : X → List Y) (ok : X → Bool) → ((x : X) → ok x ≡ true → All P (f x)) → (xs : List X)
    → list_all ok xs ≡ true → All P (flat_map f xs)
all_flat P f ok each [] all = All-nil P
all_flat P f ok each (x ∷ xs) all =
    let parts = and_parts _ _ all in
    All-append P (f x) (flat_map f xs) (each x parts.0) (all_flat P f ok each xs parts.1)

any_true : {X : Type 0} (xs : List X) → list_all (λ (x : X). true) xs ≡ true
any_true [] = refl
any_true (x ∷ xs) = any_true xs

number_low : (name : List ℕ) (nodes : List Node) (n : ℕ) → node_numbered name nodes ≡ Some n → n < length nodes
number_low name [] n e = absurd (cc)
number_low name (d ∷ nodes) n e = (position-Some (λ (m : Node). bytes_eq m.name name) (d ∷ nodes) n d e).0

-- ---- locators

placed : (l : DescribedLocator) → locator_fits l ≡ true → (is_table l.table && prefix_fits l.prefix) ≡ true
placed l fits =
    let parts = and_parts (is_table l.table) (prefix_fits l.prefix && nat_le (length l.nodes) MAX_NODES) fits in
    let more = and_parts (prefix_fits l.prefix) (nat_le (length l.nodes) MAX_NODES) parts.1 in
    and_from (is_table l.table) (prefix_fits l.prefix) parts.0 more.0

module _ (net : Network) (keeps : Keeps net) (range : InRange net) where
  abbrev Fits : Owner → Type 0
  Fits o = OwnerFits (length net.nodes) o

  locator_fit : (l : DescribedLocator) (name : List ℕ) → locator_fits l ≡ true → IfThere Fits (locator_owner net.nodes l name)
  locator_fit l name fits =
      by_number (node_numbered name net.nodes) refl
    where
      by_number : (o : Option ℕ) → node_numbered name net.nodes ≡ o → IfThere Fits (option_map (owner_of l.table l.prefix) o)
      by_number None e = tt
      by_number (Some n) e = (placed l fits, number_low name net.nodes n e)

  locators_fit : (ls : List DescribedLocator) → list_all locator_fits ls ≡ true → All Fits (flat_map (locator_owners net.nodes) ls)
  locators_fit ls all =
      all_flat Fits (locator_owners net.nodes) locator_fits
      (λ l fits. all_given Fits (locator_owner net.nodes l) (λ (name : List ℕ). true) (λ name t. locator_fit l name fits) l.nodes (any_true l.nodes))
      ls all

  -- ---- SIDs of End

  sid_fits : (locators : List DescribedLocator) (s : SidEntry) → KeepsSid net s → IfThere Fits (sid_owner net.nodes net.sids locators s)
  sid_fits locators s keeps_s =
      by_test (is_locator net.nodes net.sids locators s)
    where
      by_test : (b : Bool) → IfThere Fits (if b then Some (record { table = 0; family = V6; prefix = s.prefix; node = s.node }) else None)
      by_test true = (and_from _ _ refl (is_prefix_from s.prefix keeps_s.prefix), keeps_s.node)
      by_test false = tt

  sids_fit_in : (locators : List DescribedLocator) (ss : List SidEntry) → ((i : ℕ) (s : SidEntry) → slice_get ss i ≡ Some s → KeepsSid net s)
      → All Fits (filter_map (sid_owner net.nodes net.sids locators) ss)
  sids_fit_in locators [] each = All-nil Fits
  sids_fit_in locators (s ∷ ss) each =
      put (sid_owner net.nodes net.sids locators s) (filter_map (sid_owner net.nodes net.sids locators) ss)
      (sid_fits locators s (each 0 s refl)) (sids_fit_in locators ss (λ i t e. each (suc i) t e))
    where
      put : (o : Option Owner) (os : List Owner) → IfThere Fits o → All Fits os → All Fits (cons_option o os)
      put None os holds rest = rest
      put (Some o) os holds rest = All-cons Fits o os holds rest

  ends_fit : (plan : DescribedPlan) → All Fits (end_owners plan net)
  ends_fit plan =
      by_test plan.ends
    where
      by_test : (b : Bool) → All Fits (if b then filter_map (sid_owner net.nodes net.sids plan.locators) net.sids else [])
      by_test true = sids_fit_in plan.locators net.sids keeps.sid
      by_test false = All-nil Fits

  -- ---- addresses

  whole_prefix : (a : ℕ) → is_address a ≡ true → is_prefix (record { value = a; len = 128 }) ≡ true
  unfolding is_prefix is_address
  whole_prefix a low = let last : a % 1 ≡ 0 = omega arith in and_from _ _ refl (and_from _ _ low (eq-eqb (a % 1) 0 last))

  addresses_fit : (n : ℕ) (nodes : List Node) → n + length nodes ≤ length net.nodes → list_all keeps_node nodes ≡ true
      → All Fits (address_owners n nodes)
  addresses_fit n [] low all = All-nil Fits
  addresses_fit n (node ∷ nodes) low all =
      let parts = and_parts _ _ all in
      let address = (and_parts _ _ (and_parts _ _ parts.0).1).0 in
      All-cons Fits _ (address_owners (n + 1) nodes)
      (and_from _ _ refl (whole_prefix node.address.value address), omega (arith, low))
      (addresses_fit (n + 1) nodes (omega (arith, low)) parts.1)

  nodes_fit : (plan : DescribedPlan) → All Fits (node_owners plan net)
  nodes_fit plan =
      by_test plan.addresses
    where
      by_test : (b : Bool) → All Fits (if b then address_owners 0 net.nodes else [])
      by_test true = addresses_fit 0 net.nodes (omega arith) (and_parts _ _ range.nodes).1
      by_test false = All-nil Fits

  -- ---- sites

  abbrev ExitFits : Exit → Type 0
  ExitFits e = Fits e.at

  over_fit : (s : DescribedSite) (node link : ℕ) → node < length net.nodes → is_table s.table ≡ true → (qs : List FamilyPrefix)
      → list_all prefix_fits qs ≡ true → All ExitFits (map (exit_of s node link) qs)
  over_fit s node link low table [] all = All-nil ExitFits
  over_fit s node link low table (q ∷ qs) all =
      let parts = and_parts _ _ all in
      All-cons ExitFits (exit_of s node link q) (map (exit_of s node link) qs) (and_from _ _ table parts.0, low)
      (over_fit s node link low table qs parts.1)

  site_fit : (up : ℕ → Bool) (s : DescribedSite) → site_fits s ≡ true → All ExitFits (site_exits up net s)
  site_fit up s fits =
      by_numbers (node_numbered s.node net.nodes) refl (link_numbered s.link net.links)
    where
      by_up : (node link : ℕ) → node < length net.nodes → (b : Bool) → All ExitFits (if b then map (exit_of s node link) s.prefixes else [])
      by_up node link low true =
          let parts = and_parts _ _ fits in
          over_fit s node link low parts.0 s.prefixes (and_parts _ _ parts.1).1
      by_up node link low false = All-nil ExitFits

      by_numbers : (node : Option ℕ) → node_numbered s.node net.nodes ≡ node → (link : Option ℕ) → All ExitFits (exits_over up s node link)
      by_numbers None e link = All-nil ExitFits
      by_numbers (Some node) e None = All-nil ExitFits
      by_numbers (Some node) e (Some link) = by_up node link (number_low s.node net.nodes node e) (up link)

  pub exits_fit : (plan : DescribedPlan) (down nodes : List ℕ) → IsPlan plan → All ExitFits (exits_of plan down nodes net)
  exits_fit plan down nodes is =
      all_flat ExitFits (site_exits (is_up net down nodes) net) site_fits (site_fit (is_up net down nodes)) plan.sites (and_parts _ _ is.sites).1

  exit_owners_fit : (es : List Exit) → All ExitFits es → All Fits (filter_map exit_owner es)
  exit_owners_fit [] all = All-nil Fits
  exit_owners_fit (e ∷ es) all =
      put (e.at.table == 0) (exit_owners_fit es (All-tail ExitFits e es all))
    where
      put : (b : Bool) → All Fits (filter_map exit_owner es) → All Fits (cons_option (if b then Some e.at else None) (filter_map exit_owner es))
      put true rest = All-cons Fits e.at (filter_map exit_owner es) (All-head ExitFits e es all) rest
      put false rest = rest

  pub owners_fit : (plan : DescribedPlan) (down nodes : List ℕ) → IsPlan plan
      → All Fits (owners_of plan net (exits_of plan down nodes net))
  owners_fit plan down nodes is =
      All-append Fits _ _ (locators_fit plan.locators (and_parts _ _ is.locators).1)
      (All-append Fits _ _ (ends_fit plan)
      (All-append Fits _ _ (nodes_fit plan) (exit_owners_fit (exits_of plan down nodes net) (exits_fit plan down nodes is))))

  -- ---- how many

  pub exits_few : (plan : DescribedPlan) (down nodes : List ℕ) → IsPlan plan → length (exits_of plan down nodes net) ≤ 268435456
  exits_few plan down nodes is =
      let each = sites_short (is_up net down nodes) plan.sites (and_parts _ _ is.sites).1 in
      let few : length plan.sites ≤ MAX_SITES = leb-true _ _ (and_parts _ _ is.sites).0 in
      omega (arith, each, few)
    where
      over_short : (up : ℕ → Bool) (s : DescribedSite) → length s.prefixes ≤ 65536 → (node link : Option ℕ) → length (exits_over up s node link) ≤ 65536
      over_short up s short None link = omega arith
      over_short up s short (Some node) None = omega arith
      over_short up s short (Some node) (Some link) = by_up (up link)
        where
          by_up : (b : Bool) → length (if b then map (exit_of s node link) s.prefixes else []) ≤ 65536
          by_up true = let e = length-map s.prefixes (exit_of s node link) in omega (arith, e, short)
          by_up false = omega arith

      sites_short : (up : ℕ → Bool) (ss : List DescribedSite) → list_all site_fits ss ≡ true
          → length (flat_map (site_exits up net) ss) ≤ length ss * 65536
      sites_short up [] all = omega arith
      sites_short up (s ∷ ss) all =
          let parts = and_parts _ _ all in
          let short : length s.prefixes ≤ MAX_SITE_PREFIXES = leb-true _ _ (and_parts _ _ (and_parts _ _ parts.0).1).0 in
          let here = over_short up s (omega (arith, short)) (node_numbered s.node net.nodes) (link_numbered s.link net.links) in
          let rest = sites_short up ss parts.1 in
          let long = length-append (site_exits up net s) (flat_map (site_exits up net) ss) in
          omega (arith, here, rest, long)

  given_short : {X Y : Type 0} (f : X → Option Y) (xs : List X) → length (filter_map f xs) ≤ length xs
  given_short f [] = omega arith
  given_short {Y = Y} f (x ∷ xs) =
      by_given (f x) (given_short f xs)
    where
      by_given : (o : Option Y) → length (filter_map f xs) ≤ length xs → length (cons_option o (filter_map f xs)) ≤ suc (length xs)
      by_given None short = omega (arith, short)
      by_given (Some y) short = omega (arith, short)

  locators_short : (ls : List DescribedLocator) → list_all locator_fits ls ≡ true
      → length (flat_map (locator_owners net.nodes) ls) ≤ length ls * 256
  locators_short [] all = omega arith
  locators_short (l ∷ ls) all =
      let parts = and_parts _ _ all in
      let few : length l.nodes ≤ MAX_NODES = leb-true _ _ (and_parts _ _ (and_parts _ _ parts.0).1).1 in
      let here = given_short (locator_owner net.nodes l) l.nodes in
      let rest = locators_short ls parts.1 in
      let long = length-append (locator_owners net.nodes l) (flat_map (locator_owners net.nodes) ls) in
      omega (arith, few, here, rest, long)

  ends_short : (plan : DescribedPlan) → length (end_owners plan net) ≤ MAX_SIDS
  ends_short plan =
      by_test plan.ends
    where
      by_test : (b : Bool) → length (if b then filter_map (sid_owner net.nodes net.sids plan.locators) net.sids else []) ≤ MAX_SIDS
      by_test true =
          let short = given_short (sid_owner net.nodes net.sids plan.locators) net.sids in
          let few = keeps.sid_count in
          omega (arith, short, few)
      by_test false = omega arith

  as_many : (n : ℕ) (nodes : List Node) → length (address_owners n nodes) ≡ length nodes
  as_many n [] = refl
  as_many n (node ∷ nodes) = ap suc (as_many (n + 1) nodes)

  nodes_short : (plan : DescribedPlan) → length (node_owners plan net) ≤ MAX_NODES
  nodes_short plan =
      by_test plan.addresses
    where
      by_test : (b : Bool) → length (if b then address_owners 0 net.nodes else []) ≤ MAX_NODES
      by_test true = let same = as_many 0 net.nodes in let few = keeps.node_count in omega (arith, same, few)
      by_test false = omega arith

  pub owners_few : (plan : DescribedPlan) (down nodes : List ℕ) → IsPlan plan
      → length (owners_of plan net (exits_of plan down nodes net)) < 2 ^ 32
  owners_few plan down nodes is =
      let exits = exits_of plan down nodes net in
      let a = flat_map (locator_owners net.nodes) plan.locators in
      let b = end_owners plan net in
      let c = node_owners plan net in
      let d = filter_map exit_owner exits in
      let first = length-append a (b ++ (c ++ d)) in
      let second = length-append b (c ++ d) in
      let third = length-append c d in
      let locators = locators_short plan.locators (and_parts _ _ is.locators).1 in
      let few : length plan.locators ≤ MAX_LOCATORS = leb-true _ _ (and_parts _ _ is.locators).0 in
      let ends = ends_short plan in
      let addresses = nodes_short plan in
      let sites = given_short exit_owner exits in
      let most = exits_few plan down nodes is in
      omega (arith, first, second, third, locators, few, ends, addresses, sites, most)
