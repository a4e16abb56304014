-- What a step is by its names, from what its names give.
use Rattle.std.proofs.Common.{◌≡◌, ◌∙◌, ℕ, Bool, true, false, List, Option, Some, None, ap}
use Rattle.std.specs.Prelude.{Result, Ok, Err, if◌then◌else◌}
use Rattle.net_model.specs.Network.{Network}
use Rattle.net_model.specs.Named.{node_numbered}
use Rattle.net_model.specs.NetworkRules.{are_distinct, same_number}
use Rattle.toml_reader.specs.TomlReading.{◌>>=◌, or_fault}
use Rattle.net_syntax.specs.declared.step_table.DescribedStep.TheVariants as described
use Rattle.intent_reader.specs.declared.intent.Step.{Step}
use Rattle.intent_reader.specs.declared.intent.Step.TheVariants.{Links, Function, Reach}
use Rattle.intent_reader.specs.declared.fault.IntentFault.{IntentFault}
use Rattle.intent_reader.specs.declared.fault.IntentFault.TheVariants as faults
use Rattle.intent_reader.specs.declared.fault.StepFault.TheVariants as kinds
use Rattle.intent_reader.specs.Functions.{function_numbered}
use Rattle.intent_reader.specs.IntentReading.{checked, each_of}
use Rattle.intent_reader.specs.IntentJudging.{link_at, step_named}

abbrev once : ℕ → List ℕ → Result Step IntentFault
once k set = checked (faults.AtStep k kinds.DoubleLink) (are_distinct same_number set) (Links set)

pub links_unknown : (net : Network) (k : ℕ) (names : List (List ℕ)) (fault : IntentFault)
    → each_of (link_at net k) names ≡ Err fault → step_named net k (described.Links names) ≡ Err fault
links_unknown net k names fault refused = ap (λ r. ◌>>=◌ r (once k)) refused

links_tested : (net : Network) (k : ℕ) (names : List (List ℕ)) (set : List ℕ) (b : Bool) → each_of (link_at net k) names ≡ Ok set
    → are_distinct same_number set ≡ b
    → step_named net k (described.Links names) ≡ checked (faults.AtStep k kinds.DoubleLink) b (Links set)
links_tested net k names set b given is =
    ap (λ r. ◌>>=◌ r (once k)) given ∙ ap (λ t. checked (faults.AtStep k kinds.DoubleLink) t (Links set)) is

pub links_once : (net : Network) (k : ℕ) (names : List (List ℕ)) (set : List ℕ) → each_of (link_at net k) names ≡ Ok set
    → are_distinct same_number set ≡ true → step_named net k (described.Links names) ≡ Ok (Links set)
links_once net k names set given distinct = links_tested net k names set true given distinct

pub links_double : (net : Network) (k : ℕ) (names : List (List ℕ)) (set : List ℕ) (fault : IntentFault)
    → each_of (link_at net k) names ≡ Ok set → are_distinct same_number set ≡ false → faults.AtStep k kinds.DoubleLink ≡ fault
    → step_named net k (described.Links names) ≡ Err fault
links_double net k names set fault given double is = links_tested net k names set false given double ∙ ap Err is

pub function_there : (net : Network) (k : ℕ) (title : List ℕ) (sid : ℕ) → function_numbered title net ≡ Some sid
    → step_named net k (described.Function title) ≡ Ok (Function sid)
function_there net k title sid found =
    ap (λ o. ◌>>=◌ (or_fault (faults.AtStep k kinds.NoFunction) o) (λ s. Ok (Function s))) found

pub function_absent : (net : Network) (k : ℕ) (title : List ℕ) (fault : IntentFault) → function_numbered title net ≡ None
    → faults.AtStep k kinds.NoFunction ≡ fault → step_named net k (described.Function title) ≡ Err fault
function_absent net k title fault none is =
    ap (λ o. ◌>>=◌ (or_fault (faults.AtStep k kinds.NoFunction) o) (λ s. Ok (Function s))) none ∙ ap Err is

pub reach_is : (net : Network) (k : ℕ) (name : List ℕ) (r : Result ℕ IntentFault)
    → or_fault (faults.AtStep k kinds.UnknownName) (node_numbered name net.nodes) ≡ r
    → step_named net k (described.Reach name) ≡ ◌>>=◌ r (λ n. Ok (Reach n))
reach_is net k name r is = ap (λ o. ◌>>=◌ o (λ n. Ok (Reach n))) is
