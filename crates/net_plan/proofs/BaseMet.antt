-- What a description and a plan come to, step by step.
use Rattle.std.proofs.Common.{◌≡◌, ◌∙◌, ℕ, ◌≤◌, nat_le, Bool, true, false, List, [], length, refl, ap, sym, subst}
use Rattle.std.specs.Prelude.{Result, Ok, Err, if◌then◌else◌, IfOk}
use Rattle.std.proofs.lemmas.Bool.{leb-true}
use Rattle.text_faults.specs.declared.text_place.TableKind.TheVariants as tables
use Rattle.text_faults.specs.declared.text_place.Key.TheVariants as keys
use Rattle.text_faults.specs.declared.fault.TextFault.{TextFault}
use Rattle.text_faults.specs.declared.fault.OrNoMemory.{OrNoMemory}
use Rattle.text_faults.specs.TextReading.{Gives}
use Rattle.net_model.specs.declared.limits.TheConstants.{MAX_LINKS}
use Rattle.net_model.specs.Network.{Network}
use Rattle.net_model.specs.NetworkJudging.{judging}
use Rattle.net_model.specs.NetworkJudgingTerms.{InRange}
use Rattle.toml_reader.specs.TomlReading.{◌>>=◌}
use Rattle.toml_reader.specs.Tree.{few}
use Rattle.net_syntax.specs.declared.node_table.DescribedNode.{DescribedNode}
use Rattle.net_syntax.specs.declared.link_table.DescribedLink.{DescribedLink}
use Rattle.net_syntax.specs.declared.description.Description.{Description}
use Rattle.net_reader.specs.Joining.{joined}
use Rattle.net_reader.specs.Standings.{standings_of}
use Rattle.net_reader.specs.NetworkReading.{judged_network}
use Rattle.plan_syntax.specs.declared.plan_faults.PlanFault.{PlanFault}
use Rattle.plan_syntax.specs.declared.plan_table.DescribedPlan.{DescribedPlan}
use Rattle.net_plan.specs.declared.base_fault.BaseFault.{BaseFault}
use Rattle.net_plan.specs.declared.base_fault.BaseFault.TheVariants as faults
use Rattle.net_plan.specs.CableLinks.{links_with}
use Rattle.net_plan.specs.BaseNetwork.{of_plan, of_net}
use Rattle.net_plan.specs.PlanRanges.{IsPlan, IsDescribed}
use Rattle.net_plan.proofs.LinksFit.{base_in_range}

same_ok : {X F : Type 0} (x y : X) (r : Result X F) → r ≡ Ok x → r ≡ Ok y → x ≡ y
same_ok x y r e f = cc

no_fault : {X F : Type 0} (fault : F) (x : X) → Err fault ≡ Ok x → ⊥
no_fault fault x e = cc

-- links of a plan that are given are given by the plan's reading
pub plan_given : {X : Type 0} (r : Result X PlanFault) (x : X) → of_plan r ≡ Ok x → r ≡ Ok x
plan_given (Ok y) x e = ap Ok (same_ok y x (of_plan (Ok y)) refl e)
plan_given (Err fault) x e = absurd (no_fault (faults.Plan fault) x e)

test_passes : {X F : Type 0} (b : Bool) (n : ℕ) (xs ys : List X) (fault : F)
    → ◌>>=◌ (if b then Ok n else Err fault) (λ count. Ok xs) ≡ Ok ys → (b ≡ true) × (xs ≡ ys)
test_passes {X = X} {F = F} true n xs ys fault e = let r : Result (List X) F = Ok xs in (refl, same_ok xs ys r refl e)
test_passes false n xs ys fault e = absurd (no_fault fault ys e)

-- links that aren't refused are few, and stay as they are
pub few_are : (xs ys : List DescribedLink) → few (record { table = tables.Link; item = 0 }) keys.Link MAX_LINKS xs ≡ Ok ys
    → (length xs ≤ MAX_LINKS) × (xs ≡ ys)
few_are xs ys e =
    let passes = test_passes (nat_le (length xs) MAX_LINKS) (length xs) xs ys _ e in
    (leb-true _ _ passes.0, passes.1)

pub net_given : {X : Type 0} (r : Result X TextFault) (x : X) → of_net r ≡ Ok x → r ≡ Ok x
net_given (Ok y) x e = ap Ok (same_ok y x (of_net (Ok y)) refl e)
net_given (Err fault) x e = absurd (no_fault (faults.Net fault) x e)

-- the parts of what is described with the plan's links are in range
pub base_stands : (said : Description) (plan : DescribedPlan) (nodes : List DescribedNode) (there links all : List DescribedLink)
    → IsDescribed said → IsPlan plan → nodes ≡ said.nodes → there ≡ said.links → of_plan (links_with nodes there plan) ≡ Ok links
    → Ok all ≡ few (record { table = tables.Link; item = 0 }) keys.Link MAX_LINKS links → InRange (joined (record said { links = all }))
base_stands said plan nodes there links all described is same_nodes same_links given short =
    let with_all = plan_given (links_with nodes there plan) links given in
    let few_links = few_are links all (sym short) in
    let own : links_with said.nodes said.links plan ≡ Ok links =
    subst (λ (ns : List DescribedNode). links_with ns said.links plan ≡ Ok links) same_nodes
    (subst (λ (ls : List DescribedLink). links_with nodes ls plan ≡ Ok links) same_links with_all) in
    base_in_range said plan all described is (own ∙ ap Ok few_links.1)
    (subst (λ (ls : List DescribedLink). length ls ≤ MAX_LINKS) few_links.1 few_links.0)

-- nothing of a network that is judged is hidden
pub base_whole : (said : Description) (r : Result Network (OrNoMemory BaseFault)) → Gives (λ net. net) r (of_net (judged_network said))
    → IfOk r (λ net. net.hidden ≡ [])
base_whole said (Err why) given = tt
base_whole said (Ok net) given =
    by_judging (judging (joined said) (standings_of said)) given
  where
    by_judging : (u : Result (Unit {0}) TextFault) → of_net (◌>>=◌ u (λ v. Ok (joined said))) ≡ Ok net → net.hidden ≡ []
    by_judging (Ok v) e =
        let r : Result Network BaseFault = Ok (joined said) in
        ap (λ (n : Network). n.hidden) (sym (same_ok (joined said) net r refl e))
    by_judging (Err fault) e = absurd (no_fault (faults.Net fault) net e)
