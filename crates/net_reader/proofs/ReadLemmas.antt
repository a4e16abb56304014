-- From what a text describes to its network, or to its first fault.
use Rattle.std.proofs.Common.{◌≡◌, ◌∙◌, ◌↔◌, ℕ, ◌<◌, ◌≤◌, ◌^◌, List, [], length, map, refl, sym, ap, subst, arith}
use Rattle.std.specs.Prelude.{Result, Ok, Err, IfOk}
use Rattle.std.proofs.lemmas.Bool.{and_parts, leb-true}
use Rattle.std.proofs.lemmas.List.{length-map}
use Rattle.net_model.specs.declared.limits.TheConstants.{MAX_NODES, MAX_LINKS, MAX_POLICIES, MAX_SIDS}
use Rattle.text_faults.specs.declared.fault.TextFault.{TextFault}
use Rattle.text_faults.specs.declared.fault.OrNoMemory.{OrNoMemory}
use Rattle.text_faults.specs.declared.fault_kind.FaultKind.TheVariants as kinds
use Rattle.text_faults.specs.TextFaults.{fault_at}
use Rattle.net_model.specs.Network.{Network}
use Rattle.net_model.specs.NetworkRulesTerms.{IsNetwork}
use Rattle.net_model.specs.NetworkJudging.{judging}
use Rattle.net_model.specs.NetworkJudgingTerms.{InRange}
use Rattle.net_model.proofs.PublicLaws.{exact_law, enough_law}
use Rattle.text_faults.specs.TextReading.{Gives}
use Rattle.toml_reader.specs.TomlReading.{◌>>=◌, or_fault, document_of}
use Rattle.net_syntax.specs.declared.description.Description.{Description}
use Rattle.net_syntax.specs.DescriptionText.{description_in, net_place}
use Rattle.net_reader.specs.Joining.{node_names, link_names, policy_names, joined_block, joined_node, joined_link, joined_policy, joined}
use Rattle.net_reader.specs.Standings.{standing_of, standings_of}
use Rattle.net_reader.specs.StandingsTerms.{HaveTheirKeys}
use Rattle.net_reader.specs.NetworkReading.{judged_network, net_in}
use Rattle.net_reader.proofs.YieldLemmas.{Yields, yielded, yields_behind}
use Rattle.net_reader.proofs.DescribedLemmas.{Fits, description_fits}
use Rattle.net_reader.proofs.ReaderRangeLemmas.{in_range, as_many}
use Rattle.net_reader.proofs.ExactLemmas.{well_from, judging_alike}

-- ---- what a text describes

text_fits : (text : List ℕ) → Yields Fits (description_in text)
text_fits text = yields_behind Fits (or_fault (fault_at net_place kinds.NotToml) (document_of text)) _ description_fits

pub said_fits : (text : List ℕ) (said : Description) → description_in text ≡ Ok said → Fits said
said_fits text said is = yielded Fits (description_in text) said (text_fits text) is

pub said_in_range : (text : List ℕ) (said : Description) → description_in text ≡ Ok said → InRange (joined said)
said_in_range text said is = in_range said (said_fits text said is)

pub few_in_range : (said : Description) → InRange (joined said)
    → (length said.nodes < 2 ^ 32) × (length said.links < 2 ^ 32) × (length said.policies < 2 ^ 32) × (length said.sids < 2 ^ 32)
few_in_range said range =
    let nodes : length (joined said).nodes ≤ MAX_NODES = leb-true _ _ (and_parts _ _ range.nodes).0 in
    let links : length (joined said).links ≤ MAX_LINKS = leb-true _ _ (and_parts _ _ range.links).0 in
    let policies : length (joined said).policies ≤ MAX_POLICIES = leb-true _ _ (and_parts _ _ range.policies).0 in
    let sids : length (joined said).sids ≤ MAX_SIDS = leb-true _ _ (and_parts _ _ range.sids).0 in
    let node_count = length-map said.nodes joined_node in
    let link_count = length-map said.links (joined_link (node_names said)) in
    let policy_count = length-map said.policies joined_policy in
    let sid_count = as_many (node_names said) (link_names said) (policy_names said) (map joined_block said.blocks) 0 said.sids in
    (omega (arith, nodes, node_count), omega (arith, links, link_count), omega (arith, policies, policy_count), omega (arith, sids, sid_count))

-- ---- what is read

pub said_judged : (said : Description) (r : Result Network (OrNoMemory TextFault))
    → Gives (λ _. tt) r (judging (joined said) (standings_of said)) → IfOk r (λ net. net ≡ joined said)
    → Gives (λ net. net) r (judged_network said)
said_judged said (Ok net) fine same = ap (λ u. ◌>>=◌ u (λ v. Ok (joined said))) fine ∙ ap Ok (sym same)
said_judged said (Err why) first same = λ fault other. ap (λ u. ◌>>=◌ u (λ v. Ok (joined said))) (first fault other)

pub read_judged : (text : List ℕ) (said : Description) (r : Result Network (OrNoMemory TextFault)) → description_in text ≡ Ok said
    → Gives (λ net. net) r (judged_network said) → Gives (λ net. net) r (net_in text)
read_judged text said (Ok net) is given = ap (λ d. ◌>>=◌ d judged_network) is ∙ given
read_judged text said (Err why) is given = λ fault other. ap (λ d. ◌>>=◌ d judged_network) is ∙ given fault other

pub read_refused : (text : List ℕ) (fault : TextFault) → description_in text ≡ Err fault → net_in text ≡ Err fault
read_refused text fault is = ap (λ d. ◌>>=◌ d judged_network) is

-- nothing is hidden in a network as it is built
pub built_whole : (built : Network) (r : Result Network (OrNoMemory TextFault)) → built.hidden ≡ [] → IfOk r (λ net. net ≡ built)
    → IfOk r (λ net. net.hidden ≡ [])
built_whole built (Ok net) whole same = ap (λ (n : Network). n.hidden) same ∙ whole
built_whole built (Err why) whole same = tt

pub ruleset reading = (read_judged, read_refused)

pub ruleset judging_said = (said_judged)

-- ---- laws

none_read : {X : Type 0} (fault : TextFault) (x : X) → Err fault ≡ Ok x → ⊥
none_read fault x e = cc

-- as many SIDs stand as there are entries
counted : (said : Description) → length (standings_of said) ≡ length (joined said).sids
counted said =
    length-map said.sids standing_of
    ∙ sym (as_many (node_names said) (link_names said) (policy_names said) (map joined_block said.blocks) 0 said.sids)

by_parts : (text : List ℕ) (net : Network) (d : Result Description TextFault) → description_in text ≡ d → ◌>>=◌ d judged_network ≡ Ok net
    → (said : Description) × (description_in text ≡ Ok said) × (joined said ≡ net) × IsNetwork net × HaveTheirKeys said
by_parts text net (Err fault) is e = absurd (none_read fault net e)
by_parts text net (Ok said) is e = by_judging (judging (joined said) (standings_of said)) refl e
  where
    by_judging : (r : Result (Unit {0}) TextFault) → judging (joined said) (standings_of said) ≡ r
        → ◌>>=◌ r (λ v. Ok (joined said)) ≡ Ok net
        → (said : Description) × (description_in text ≡ Ok said) × (joined said ≡ net) × IsNetwork net × HaveTheirKeys said
    by_judging (Ok u) fine e =
        let same : joined said ≡ net = cc in
        let rules : IsNetwork (joined said) = enough_law (joined said) (standings_of said) (said_in_range text said is) fine in
        let P : Network → Type 0 = λ n. IsNetwork n in
        (said, is, same, subst P same rules, well_from (joined said) (standings_of said) fine (counted said))
    by_judging (Err fault) fine e = absurd (none_read fault net e)

from_parts : (text : List ℕ) (net : Network) (said : Description) → description_in text ≡ Ok said → joined said ≡ net → IsNetwork net
    → HaveTheirKeys said → net_in text ≡ Ok net
from_parts text net said is same rules keys =
    let P : Network → Type 0 = λ n. IsNetwork n in
    let kept : IsNetwork (joined said) = subst P (sym same) rules in
    let fine : judging (joined said) (standings_of said) ≡ Ok tt =
    ap (judging (joined said)) keys ∙ judging_alike (joined said) ∙ (exact_law (joined said) (said_in_range text said is)).1 kept in
    ap (λ d. ◌>>=◌ d judged_network) is ∙ ap (λ u. ◌>>=◌ u (λ v. Ok (joined said))) fine ∙ ap Ok same

pub exact_networks : (text : List ℕ) (net : Network) → (net_in text ≡ Ok net)
    ↔ ((said : Description) × (description_in text ≡ Ok said) × (joined said ≡ net) × IsNetwork net × HaveTheirKeys said)
exact_networks text net =
    (λ e. by_parts text net (description_in text) refl e, λ h. from_parts text net h.0 h.1 h.2 h.3 h.4)
