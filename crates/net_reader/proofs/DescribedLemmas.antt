-- What the items of a description are, whatever tree they are read from.
use Rattle.std.proofs.Common.{◌≡◌, ℕ, Bool, true, false, ◌&&◌, nat_le, List, [], ◌∷◌, length, Option, Some, None, option_map, refl}
use Rattle.std.specs.Prelude.{ℤ, pos, negsuc, Result, Ok, Err, if◌then◌else◌}
use Rattle.std.proofs.lemmas.Bool.{and_from, and_parts, le-leb, lt-ltb, eq-eqb}
use Rattle.toml.specs.Data.{Data, Members}
use Rattle.v6_addr.specs.Address.{PrefixValue}
use Rattle.v6_addr.specs.AddressTerms.{IsPrefix}
use Rattle.v6_addr.specs.Text.{address_of_text, prefix_of_text}
use Rattle.v6_addr.specs.Scan4.{prefix4_of_text}
use Rattle.v6_addr.specs.Text4Terms.{IsPrefix4Text}
use Rattle.v6_addr.specs.AddressGrammar.{IsPrefixText}
use Rattle.v6_addr.specs.declared.address.Addr.{Addr}
use Rattle.v6_addr.proofs.PublicLaws.{address_text_is, address_below, prefix_text_is, prefix4_text_is}
use Rattle.srv6_rules.specs.declared.family.Family.TheVariants.{V6, V4}
use Rattle.srv6_rules.specs.declared.sid.Csid.TheVariants.{Plain}
use Rattle.text_faults.specs.declared.text_place.FaultPlace.{FaultPlace}
use Rattle.text_faults.specs.declared.text_place.Key.{Key}
use Rattle.text_faults.specs.declared.text_place.Key.TheVariants as keys
use Rattle.text_faults.specs.declared.text_place.TableKind.TheVariants as tables
use Rattle.text_faults.specs.declared.fault.TextFault.{TextFault}
use Rattle.text_faults.specs.declared.fault_kind.FaultKind.TheVariants as kinds
use Rattle.text_faults.specs.TextFaults.{fault_at}
use Rattle.net_model.specs.declared.limits.TheConstants.{MAX_BLOCKS, MAX_NODES, MAX_LINKS, MAX_ROUTES, MAX_POLICIES, MAX_SIDS, MAX_ALLOWED_TYPES, MAX_LINKS_OF_SET, LAST_TABLE, LAST_OCTET, LAST_FLOW_LABEL, DEFAULT_HOP_LIMIT, MIN_LINK_MTU, MAX_LINK_MTU}
use Rattle.srv6_rules.specs.declared.numbers.TheConstants.{MAX_SEGMENTS}
use Rattle.net_model.specs.NetworkRules.{is_name}
use Rattle.net_model.specs.NetworkRulesTerms.{is_address, is_prefix, is_prefix_of, is_csid_len, is_segment, is_mtu, is_table, keeps_node}
use Rattle.net_model.specs.NetworkJudgingTerms.{block_in_range, policy_in_range}
use Rattle.toml_reader.specs.Tree.{text_in, name_in, addr_of_value, addr_in, prefix_in, word_in, integer_in, number_in, given, array_of, list_in, needed, optional, only, items_at}
use Rattle.net_syntax.specs.declared.block_table.DescribedBlock.{DescribedBlock}
use Rattle.net_syntax.specs.declared.node_table.DescribedNode.{DescribedNode}
use Rattle.net_syntax.specs.declared.link_table.DescribedLink.{DescribedLink}
use Rattle.net_syntax.specs.declared.route_table.DescribedRoute.{DescribedRoute}
use Rattle.net_syntax.specs.declared.policy_table.DescribedPolicy.{DescribedPolicy}
use Rattle.net_syntax.specs.declared.sid_table.DescribedSid.{DescribedSid}
use Rattle.net_syntax.specs.declared.family_prefix.FamilyPrefix.{FamilyPrefix}
use Rattle.net_syntax.specs.declared.description.Description.{Description}
use Rattle.net_syntax.specs.Prefixes.{of_family, or_else, family_prefix_of, family_prefix_in}
use Rattle.net_syntax.specs.TextWords.{block_kind_of, csid_bits_of, behaviour_of, csid_of, flavour_of}
use Rattle.net_syntax.specs.DescriptionText.{csid_bits_in, block_of, node_of, link_of, route_of, policy_of, sid_prefix_in, sid_of, description_of}
use Rattle.net_reader.specs.Joining.{joined_block, joined_node, joined_policy}
use Rattle.net_reader.proofs.YieldLemmas.{Yields, AreFew, IfGiven, IsWithin, yields_next, yields_behind, yields_or_fault, yields_if, yields_number, yields_given, yields_list, yields_needed, yields_optional, yields_items}

-- ---- values

is_address_from : (text : List ℕ) (a : ℕ) → address_of_text text ≡ Some a → is_address a ≡ true
unfolding is_address
is_address_from text a e = lt-ltb _ _ (address_below text a ((address_text_is text a).0 e))

pub is_prefix_from : (p : PrefixValue) → IsPrefix p → is_prefix p ≡ true
unfolding is_prefix is_address
is_prefix_from p h = and_from _ _ (le-leb _ _ h.0) (and_from _ _ (lt-ltb _ _ h.1) (eq-eqb _ _ h.2))

prefix_text : (text : List ℕ) (p : PrefixValue) → prefix_of_text text ≡ Some p → is_prefix p ≡ true
prefix_text text p e = let written : IsPrefixText text p = (prefix_text_is text p).0 e in is_prefix_from p written.is_prefix

yields_name : (p : FaultPlace) (k : Key) (d : Data) → Yields (λ n. is_name n ≡ true) (name_in p k d)
yields_name p k d =
    yields_behind (λ n. is_name n ≡ true) (text_in p d) _
    (λ text. yields_if (λ n. is_name n ≡ true) (is_name text) text (fault_at p kinds.BadName) (λ e. e))

addr_given : (text : List ℕ) (o : Option ℕ) → address_of_text text ≡ o → (x : Addr) → option_map addr_of_value o ≡ Some x
    → is_address x.value ≡ true
addr_given text None is x e = absurd (none≢some x e)
  where
    none≢some : (y : Addr) → None ≡ Some y → ⊥
    none≢some y e = cc
addr_given text (Some a) is x e =
    let same : a ≡ x.value = cc in
    rw (← same) (is_address_from text a is)

yields_addr : (p : FaultPlace) (k : Key) (d : Data) → Yields (λ (a : Addr). is_address a.value ≡ true) (addr_in p k d)
yields_addr p k d =
    yields_behind (λ (a : Addr). is_address a.value ≡ true) (text_in p d) _
    (λ text. yields_or_fault (λ (a : Addr). is_address a.value ≡ true) (fault_at p kinds.BadAddress)
    (option_map addr_of_value (address_of_text text)) (addr_given text (address_of_text text) refl))

yields_prefix : (p : FaultPlace) (k : Key) (d : Data) → Yields (λ q. is_prefix q ≡ true) (prefix_in p k d)
yields_prefix p k d =
    yields_behind (λ q. is_prefix q ≡ true) (text_in p d) _
    (λ text. yields_or_fault (λ q. is_prefix q ≡ true) (fault_at p kinds.BadAddress) (prefix_of_text text) (prefix_text text))

abbrev pub IsOfFamily : FamilyPrefix → Type 0
IsOfFamily q = is_prefix_of q.family q.prefix ≡ true

family_given : (text : List ℕ) (six four : Option PrefixValue) → prefix_of_text text ≡ six → prefix4_of_text text ≡ four
    → (q : FamilyPrefix) → or_else (option_map (of_family V6) six) (option_map (of_family V4) four) ≡ Some q → IsOfFamily q
family_given text (Some p) four is other q e =
    let same : of_family V6 p ≡ q = cc in
    rw (← same) (prefix_text text p is)
family_given text None (Some p) other is q e =
    let same : of_family V4 p ≡ q = cc in
    let written : IsPrefix4Text text p = (prefix4_text_is text p).0 is in
    rw (← same) (and_from _ _ (is_prefix_from p written.is_prefix) (le-leb _ _ written.short))
family_given text None None other is q e = absurd (none≢some q e)
  where
    none≢some : (y : FamilyPrefix) → None ≡ Some y → ⊥
    none≢some y e = cc

pub yields_family : (p : FaultPlace) (k : Key) (d : Data) → Yields IsOfFamily (family_prefix_in p k d)
yields_family p k d =
    yields_behind IsOfFamily (text_in p d) _
    (λ text. yields_or_fault IsOfFamily (fault_at p kinds.BadAddress) (family_prefix_of text)
    (family_given text (prefix_of_text text) (prefix4_of_text text) refl refl))

csid_given : (z : ℤ) (c : ℕ) → csid_bits_of z ≡ Some c → is_csid_len c ≡ true
csid_given (pos n) c e = by_test (is_csid_len n) refl e
  where
    by_test : (b : Bool) → is_csid_len n ≡ b → (if b then Some n else None) ≡ Some c → is_csid_len c ≡ true
    by_test true is e = let same : n ≡ c = cc in rw (← same) is
    by_test false is e = absurd (none≢some e)
      where
        none≢some : None ≡ Some c → ⊥
        none≢some e = cc
csid_given (negsuc n) c e = absurd (none≢some e)
  where
    none≢some : None ≡ Some c → ⊥
    none≢some e = cc

yields_csid : (p : FaultPlace) (k : Key) (d : Data) → Yields (λ c. is_csid_len c ≡ true) (csid_bits_in p k d)
yields_csid p k d =
    yields_behind (λ c. is_csid_len c ≡ true) (integer_in p d) _
    (λ z. yields_or_fault (λ c. is_csid_len c ≡ true) (fault_at p kinds.BadFlavour) (csid_bits_of z) (csid_given z))

-- ---- items

abbrev pub block_fits : DescribedBlock → Bool
block_fits b = block_in_range (joined_block b)

abbrev pub node_fits : DescribedNode → Bool
node_fits n = keeps_node (joined_node n)

abbrev pub link_fits : DescribedLink → Bool
link_fits l = is_name l.name && is_mtu l.mtu

abbrev pub route_fits : DescribedRoute → Bool
route_fits r = is_table r.table && (is_prefix_of r.prefix.family r.prefix.prefix && nat_le (length r.via) MAX_LINKS_OF_SET)

abbrev pub policy_fits : DescribedPolicy → Bool
policy_fits p = policy_in_range (joined_policy p)

yields_block : (p : FaultPlace) (t : Members) → Yields (λ b. block_fits b ≡ true) (block_of p t)
yields_block p t =
    let P : DescribedBlock → Type 0 = λ b. block_fits b ≡ true in
    yields_behind P (only (keys.Prefix ∷ keys.Kind ∷ keys.Csid ∷ []) p t) _ (λ known.
    yields_next (λ q. is_prefix q ≡ true) P (needed prefix_in p known keys.Prefix) _
    (yields_needed (λ q. is_prefix q ≡ true) prefix_in yields_prefix p known keys.Prefix) (λ prefix is.
    yields_behind P (needed (word_in block_kind_of) p known keys.Kind) _ (λ kind.
    yields_next (λ c. is_csid_len c ≡ true) P (needed csid_bits_in p known keys.Csid) _
    (yields_needed (λ c. is_csid_len c ≡ true) csid_bits_in yields_csid p known keys.Csid) (λ csid bits.
    and_from _ _ is bits))))

yields_node : (p : FaultPlace) (t : Members) → Yields (λ n. node_fits n ≡ true) (node_of p t)
yields_node p t =
    let P : DescribedNode → Type 0 = λ n. node_fits n ≡ true in
    let octets = list_in MAX_ALLOWED_TYPES (number_in 0 LAST_OCTET) in
    let Allowed : List ℕ → Type 0 = λ ns. AreFew MAX_ALLOWED_TYPES (λ n. true) ns in
    yields_behind P (only (keys.Name ∷ keys.Address ∷ keys.Allow ∷ []) p t) _ (λ known.
    yields_next (λ n. is_name n ≡ true) P (needed name_in p known keys.Name) _
    (yields_needed (λ n. is_name n ≡ true) name_in yields_name p known keys.Name) (λ name named.
    yields_next (λ (a : Addr). is_address a.value ≡ true) P (needed addr_in p known keys.Address) _
    (yields_needed (λ (a : Addr). is_address a.value ≡ true) addr_in yields_addr p known keys.Address) (λ address is.
    yields_next Allowed P (optional octets [] p known keys.Allow) _
    (yields_optional Allowed octets [] (yields_list MAX_ALLOWED_TYPES (λ n. true) (number_in 0 LAST_OCTET) any_number) refl p known
    keys.Allow) (λ allow short.
    and_from _ _ named (and_from _ _ is (and_parts _ _ short).0)))))
  where
    true_any : {X : Type 0} (r : Result X TextFault) → Yields (λ x. true ≡ true) r
    true_any (Ok x) = refl
    true_any (Err fault) = tt

    any_number : (p : FaultPlace) (k : Key) (d : Data) → Yields (λ n. true ≡ true) (number_in 0 LAST_OCTET p k d)
    any_number p k d = true_any (number_in 0 LAST_OCTET p k d)

yields_link : (p : FaultPlace) (t : Members) → Yields (λ l. link_fits l ≡ true) (link_of p t)
yields_link p t =
    let P : DescribedLink → Type 0 = λ l. link_fits l ≡ true in
    yields_behind P (only (keys.Name ∷ keys.From ∷ keys.To ∷ keys.Mtu ∷ []) p t) _ (λ known.
    yields_next (λ n. is_name n ≡ true) P (needed name_in p known keys.Name) _
    (yields_needed (λ n. is_name n ≡ true) name_in yields_name p known keys.Name) (λ name named.
    yields_behind P (needed name_in p known keys.From) _ (λ from.
    yields_behind P (optional (given name_in) None p known keys.To) _ (λ to.
    yields_next (IsWithin MIN_LINK_MTU MAX_LINK_MTU) P (optional (number_in MIN_LINK_MTU MAX_LINK_MTU) MAX_LINK_MTU p known keys.Mtu) _
    (yields_optional (IsWithin MIN_LINK_MTU MAX_LINK_MTU) (number_in MIN_LINK_MTU MAX_LINK_MTU) MAX_LINK_MTU
    (yields_number MIN_LINK_MTU MAX_LINK_MTU) refl p known keys.Mtu)
    (λ mtu within. and_from _ _ named within)))))

yields_route : (p : FaultPlace) (t : Members) → Yields (λ r. route_fits r ≡ true) (route_of p t)
yields_route p t =
    let P : DescribedRoute → Type 0 = λ r. route_fits r ≡ true in
    let Names : List (List ℕ) → Type 0 = λ ns. AreFew MAX_LINKS_OF_SET is_name ns in
    yields_behind P (only (keys.Node ∷ keys.Table ∷ keys.Prefix ∷ keys.Via ∷ []) p t) _ (λ known.
    yields_behind P (needed name_in p known keys.Node) _ (λ node.
    yields_next (IsWithin 0 LAST_TABLE) P (optional (number_in 0 LAST_TABLE) 0 p known keys.Table) _
    (yields_optional (IsWithin 0 LAST_TABLE) (number_in 0 LAST_TABLE) 0 (yields_number 0 LAST_TABLE) refl p known keys.Table)
    (λ table low.
    yields_next IsOfFamily P (needed family_prefix_in p known keys.Prefix) _
    (yields_needed IsOfFamily family_prefix_in yields_family p known keys.Prefix) (λ prefix is.
    yields_next Names P (needed (list_in MAX_LINKS_OF_SET name_in) p known keys.Via) _
    (yields_needed Names (list_in MAX_LINKS_OF_SET name_in) (yields_list MAX_LINKS_OF_SET is_name name_in yields_name) p known keys.Via)
    (λ via short. and_from _ _ (and_parts _ _ low).1 (and_from _ _ is (and_parts _ _ short).0))))))

yields_policy : (p : FaultPlace) (t : Members) → Yields (λ q. policy_fits q ≡ true) (policy_of p t)
yields_policy p t =
    let P : DescribedPolicy → Type 0 = λ q. policy_fits q ≡ true in
    let Segments : List Addr → Type 0 = λ ss. AreFew MAX_SEGMENTS is_segment ss in
    let Octet = IsWithin 0 LAST_OCTET in
    let Label = IsWithin 0 LAST_FLOW_LABEL in
    let Hops = IsWithin 1 LAST_OCTET in
    yields_behind P
    (only (keys.Name ∷ keys.Source ∷ keys.Segments ∷ keys.TrafficClass ∷ keys.FlowLabel ∷ keys.HopLimit ∷ []) p t) _ (λ known.
    yields_next (λ n. is_name n ≡ true) P (needed name_in p known keys.Name) _
    (yields_needed (λ n. is_name n ≡ true) name_in yields_name p known keys.Name) (λ name named.
    yields_next (λ (a : Addr). is_address a.value ≡ true) P (needed addr_in p known keys.Source) _
    (yields_needed (λ (a : Addr). is_address a.value ≡ true) addr_in yields_addr p known keys.Source) (λ source is.
    yields_next Segments P (needed (list_in MAX_SEGMENTS addr_in) p known keys.Segments) _
    (yields_needed Segments (list_in MAX_SEGMENTS addr_in) (yields_list MAX_SEGMENTS is_segment addr_in yields_addr) p known keys.Segments)
    (λ segments short.
    yields_next Octet P (optional (number_in 0 LAST_OCTET) 0 p known keys.TrafficClass) _
    (yields_optional Octet (number_in 0 LAST_OCTET) 0 (yields_number 0 LAST_OCTET) refl p known keys.TrafficClass) (λ class octet.
    yields_next Label P (optional (number_in 0 LAST_FLOW_LABEL) 0 p known keys.FlowLabel) _
    (yields_optional Label (number_in 0 LAST_FLOW_LABEL) 0 (yields_number 0 LAST_FLOW_LABEL) refl p known keys.FlowLabel) (λ label low.
    yields_next Hops P (optional (number_in 1 LAST_OCTET) DEFAULT_HOP_LIMIT p known keys.HopLimit) _
    (yields_optional Hops (number_in 1 LAST_OCTET) DEFAULT_HOP_LIMIT (yields_number 1 LAST_OCTET) refl p known keys.HopLimit) (λ limit hops.
    and_from _ _ named (and_from _ _ is (and_from _ _ short
    (and_from _ _ (and_parts _ _ octet).1 (and_from _ _ (and_parts _ _ low).1 hops)))))))))))

-- ---- SIDs

abbrev pub table_fits : Option ℕ → Bool
table_fits None = true
table_fits (Some table) = is_table table

abbrev pub links_fit : Option (List (List ℕ)) → Bool
links_fit None = true
links_fit (Some links) = nat_le (length links) MAX_LINKS_OF_SET

abbrev pub title_fits : Option (List ℕ) → Bool
title_fits None = true
title_fits (Some title) = is_name title

abbrev pub sid_fits : DescribedSid → Bool
sid_fits s = nat_le 1 s.prefix.len && (is_prefix s.prefix && (table_fits s.table && (links_fit s.links && title_fits s.title)))

abbrev IsSidPrefix : PrefixValue → Type 0
IsSidPrefix q = (nat_le 1 q.len ≡ true) × (is_prefix q ≡ true)

yields_sid_prefix : (p : FaultPlace) (k : Key) (d : Data) → Yields IsSidPrefix (sid_prefix_in p k d)
yields_sid_prefix p k d =
    yields_next (λ q. is_prefix q ≡ true) IsSidPrefix (prefix_in p k d) _ (yields_prefix p k d)
    (λ q is. yields_if IsSidPrefix (nat_le 1 q.len) q _ (λ long. (long, is)))

title_given : (o : Option (List ℕ)) → IfGiven (λ n. is_name n ≡ true) o → title_fits o ≡ true
title_given None h = refl
title_given (Some title) h = h

links_given : (o : Option (List (List ℕ))) → IfGiven (λ ns. AreFew MAX_LINKS_OF_SET is_name ns) o → links_fit o ≡ true
links_given None h = refl
links_given (Some links) h = (and_parts _ _ h).0

table_given : (o : Option ℕ) → IfGiven (IsWithin 0 LAST_TABLE) o → table_fits o ≡ true
table_given None h = refl
table_given (Some table) h = (and_parts _ _ h).1

yields_sid : (p : FaultPlace) (t : Members) → Yields (λ s. sid_fits s ≡ true) (sid_of p t)
yields_sid p t =
    let P : DescribedSid → Type 0 = λ s. sid_fits s ≡ true in
    let Name : List ℕ → Type 0 = λ n. is_name n ≡ true in
    let Names : List (List ℕ) → Type 0 = λ ns. AreFew MAX_LINKS_OF_SET is_name ns in
    let names = list_in MAX_LINKS_OF_SET name_in in
    let numbers = number_in 0 LAST_TABLE in
    let Table = IsWithin 0 LAST_TABLE in
    yields_behind P (only (
    keys.Node ∷ keys.Prefix ∷ keys.Behaviour ∷ keys.Csid ∷ keys.Flavours ∷ keys.Title ∷ keys.Links ∷ keys.Table ∷ keys.Policy ∷ []) p t) _
    (λ known.
    yields_behind P (needed name_in p known keys.Node) _ (λ node.
    yields_next IsSidPrefix P (needed sid_prefix_in p known keys.Prefix) _
    (yields_needed IsSidPrefix sid_prefix_in yields_sid_prefix p known keys.Prefix) (λ prefix is.
    yields_behind P (needed (word_in behaviour_of) p known keys.Behaviour) _ (λ behaviour.
    yields_behind P (optional (word_in csid_of) Plain p known keys.Csid) _ (λ csid.
    yields_behind P (optional (array_of (word_in flavour_of)) [] p known keys.Flavours) _ (λ flavours.
    yields_next (IfGiven Name) P (optional (given name_in) None p known keys.Title) _
    (yields_optional (IfGiven Name) (given name_in) None (yields_given Name name_in yields_name) tt p known keys.Title) (λ title named.
    yields_next (IfGiven Names) P (optional (given names) None p known keys.Links) _
    (yields_optional (IfGiven Names) (given names) None
    (yields_given Names names (yields_list MAX_LINKS_OF_SET is_name name_in yields_name)) tt p known keys.Links) (λ links short.
    yields_next (IfGiven Table) P (optional (given numbers) None p known keys.Table) _
    (yields_optional (IfGiven Table) (given numbers) None (yields_given Table numbers (yields_number 0 LAST_TABLE)) tt p known keys.Table)
    (λ table low.
    yields_behind P (optional (given name_in) None p known keys.Policy) _ (λ policy.
    and_from _ _ is.0 (and_from _ _ is.1 (and_from _ _ (table_given table low)
    (and_from _ _ (links_given links short) (title_given title named))))))))))))))

-- ---- the whole

pub record Fits (said : Description) : Type 0 where
  pub blocks : AreFew MAX_BLOCKS block_fits said.blocks
  pub nodes : AreFew MAX_NODES node_fits said.nodes
  pub links : AreFew MAX_LINKS link_fits said.links
  pub routes : AreFew MAX_ROUTES route_fits said.routes
  pub policies : AreFew MAX_POLICIES policy_fits said.policies
  pub sids : AreFew MAX_SIDS sid_fits said.sids

pub description_fits : (root : Members) → Yields Fits (description_of root)
description_fits root =
    yields_behind Fits (only (keys.Block ∷ keys.Node ∷ keys.Link ∷ keys.Route ∷ keys.Policy ∷ keys.Sid ∷ [])
    (record { table = tables.Net; item = 0 }) root) _ (λ known.
    yields_next (AreFew MAX_BLOCKS block_fits) Fits (items_at tables.Block keys.Block MAX_BLOCKS block_of known) _
    (yields_items tables.Block keys.Block MAX_BLOCKS block_fits block_of yields_block known) (λ blocks b.
    yields_next (AreFew MAX_NODES node_fits) Fits (items_at tables.Node keys.Node MAX_NODES node_of known) _
    (yields_items tables.Node keys.Node MAX_NODES node_fits node_of yields_node known) (λ nodes n.
    yields_next (AreFew MAX_LINKS link_fits) Fits (items_at tables.Link keys.Link MAX_LINKS link_of known) _
    (yields_items tables.Link keys.Link MAX_LINKS link_fits link_of yields_link known) (λ links l.
    yields_next (AreFew MAX_ROUTES route_fits) Fits (items_at tables.Route keys.Route MAX_ROUTES route_of known) _
    (yields_items tables.Route keys.Route MAX_ROUTES route_fits route_of yields_route known) (λ routes r.
    yields_next (AreFew MAX_POLICIES policy_fits) Fits (items_at tables.Policy keys.Policy MAX_POLICIES policy_of known) _
    (yields_items tables.Policy keys.Policy MAX_POLICIES policy_fits policy_of yields_policy known) (λ policies q.
    yields_next (AreFew MAX_SIDS sid_fits) Fits (items_at tables.Sid keys.Sid MAX_SIDS sid_of known) _
    (yields_items tables.Sid keys.Sid MAX_SIDS sid_fits sid_of yields_sid known) (λ sids s.
    record { blocks = b; nodes = n; links = l; routes = r; policies = q; sids = s })))))))
