-- What the least cost of a path says of lists.
use Rattle.std.proofs.Common.{ℕ, List, map, Some, None}
use Rattle.net_model.specs.Network.{Network}
use Rattle.list_pack.specs.declared.types.Container.{Container}
use Rattle.list_pack.specs.declared.types.Cost.{Cost}
use Rattle.list_pack.specs.LegsValue.{LegsValue}
use Rattle.list_pack.specs.LegsValueTerms.{KeepsLaws}
use Rattle.list_pack.specs.Costs.{start}
use Rattle.list_pack.specs.Least.{IsLeast, step_of}
use Rattle.list_pack.specs.Meaning.{Means}
use Rattle.list_pack.specs.Paths.{cost_with}
use Rattle.list_pack.specs.PathLists.{list_of}
use Rattle.list_certificate.specs.declared.certificate_types.Cert.{Cert}
use Rattle.list_certificate.specs.declared.certificate_types.Verdict.{Verdict}
use Rattle.list_certificate.specs.declared.certificate_types.Verdict.TheVariants.{Least, NoList, No}
use Rattle.list_certificate.specs.CertificateLaws.{Shows}
use Rattle.list_certificate.specs.Verdicts.{IsVerdict}
use Rattle.list_certificate.proofs.PublicLaws.{shows}
use Rattle.path_compiler.specs.Checked.{IsLeastCost, Says}
use Rattle.path_compiler.proofs.ListCosting.{list_costs, under_list}

module _ (v : LegsValue) (net : Network) (Realizes Executes Hands : List Container → ℕ → Type 0)
    (means : Means v net Realizes Executes Hands) where
  least_cost : (cost : Cost) → IsLeast v start (Some cost) → IsLeastCost v.sid_cost net Realizes Executes cost
  least_cost cost least =
      let path = least.attains in
      let made = means.lists path.0 cost path.1 in
      record {
        list = list_of net (map (step_of v) path.0);
        whole = record { legal = made.legal; realizes = made.realizes; executes = made.executes };
        costs = list_costs v net path.0 cost path.1 made.of_path;
        least = λ other n legal real. under_list v net Realizes Executes Hands means (Some cost) least.least other n legal real;
      }

  says_by : (verdict : Verdict) → Shows v verdict → Says v.sid_cost net Realizes Executes verdict
  says_by (Least containers sids hops) shown = least_cost (cost_with containers sids hops) shown
  says_by NoList shown = λ list need legal real. under_list v net Realizes Executes Hands means None shown.least list need legal real
  says_by (No line why) shown = tt

  pub says_lists : (cert : Cert) (verdict : Verdict) → KeepsLaws v → IsVerdict v cert verdict
      → Says v.sid_cost net Realizes Executes verdict
  says_lists cert verdict laws is = says_by verdict (shows v cert verdict laws is)
