-- The command `check`: the verdict on a certificate for the intent of a file in the network that another describes.
use Rattle.std.specs.Prelude.{◌≡◌, ℕ, Bool, true, false, List, [], ◌∷◌, ◌++◌, codes, Option, Result, Ok, Err, IsSomeAnd, is_ok, ⊤, Some, None, if◌then◌else◌}
use Rattle.std.specs.Fmt.{decimal}
use Rattle.net_model.specs.Network.{Network}
use Rattle.net_flatness.specs.Flat.{flatness_of}
use Rattle.net_flatness.specs.declared.not_flat.NotFlat.{NotFlat}
use Rattle.net_syntax.specs.declared.intent_table.Prefer.{Prefer}
use Rattle.net_syntax.specs.declared.intent_table.Prefer.TheVariants as prefers
use Rattle.intent_reader.specs.declared.intent.Intent.{Intent}
use Rattle.list_certificate.specs.declared.certificate_types.Cert.{Cert}
use Rattle.list_certificate.specs.declared.certificate_types.Verdict.{Verdict}
use Rattle.list_certificate.specs.declared.certificate_types.Verdict.TheVariants.{Least, NoList, No}
use Rattle.list_certificate.specs.declared.certificate_types.Why.{Why}
use Rattle.list_certificate.specs.declared.certificate_types.Why.TheVariants as whys
use Rattle.list_certificate.specs.Spelling.{state_text}
use Rattle.list_certificate.specs.Verdicts.{IsVerdict}
use Rattle.intent_compiler.specs.IntentLegs.{intent_legs_value}
use Rattle.intent_compiler.specs.IntentVerdicts.{SaysFor, SaysOfHandingFor}
use Rattle.srx_edge.specs.Edge.{file_named}
use Rattle.command_output.specs.declared.refusal.Refusal.{Refusal}
use Rattle.command_output.specs.declared.status.Status.{Status}
use Rattle.command_output.specs.declared.status.Status.TheVariants as statuses
use Rattle.command_output.specs.Halts.{flat_refusal}
use Rattle.command_output.specs.Outputs.{refused, reported}
use Rattle.command_inputs.specs.Judgements.{network_in, intent_in, cert_in}
use Rattle.command_output.specs.OutputLines.{line}
use Rattle.command_output.specs.OutputPieces.{Output}
use Rattle.command_output.specs.CommandSpec.{CommandSpec}
use Rattle.command_output.specs.Verbs.{TwoWords, is_word, two_words}

-- what its words ask for
pub record CheckWords : Type 0 where
  pub file : List ℕ
  pub intent : List ℕ
  pub cert : List ℕ

abbrev pub check_with : List ℕ → List ℕ → List (List ℕ) → Option CheckWords
check_with file intent [] = None
check_with file intent (cert ∷ []) = if is_word cert then Some (record { file = file; intent = intent; cert = cert }) else None
check_with file intent (cert ∷ next ∷ more) = None

abbrev pub check_by : Option TwoWords → Option CheckWords
check_by None = None
check_by (Some words) = check_with words.first words.second words.more

-- its words: the description, the intent and the certificate
abbrev pub check_words : List (List ℕ) → Option CheckWords
check_words words = check_by (two_words (codes "check") words)

-- the line of a verdict, and its status

-- the number of SIDs stands in it where the intent prefers few of them
unfoldable pub least_line : Prefer → ℕ → ℕ → ℕ → List ℕ
least_line prefers.Need containers sids need = codes "least " ++ (decimal containers ++ 32 ∷ (decimal need ++ 10 ∷ []))
least_line prefers.Sids containers sids need =
    codes "least " ++ (decimal containers ++ 32 ∷ (decimal sids ++ 32 ∷ (decimal need ++ 10 ∷ [])))

unfoldable pub no_list_line : List ℕ
no_list_line = line (codes "none")

unfoldable pub edge_line : ℕ → List ℕ
edge_line number = codes "no " ++ (decimal number ++ (codes " edge" ++ 10 ∷ []))

unfoldable pub unlisted_line : ℕ → List ℕ → List ℕ
unlisted_line number state = codes "no " ++ (decimal number ++ (codes " unlisted " ++ (state ++ 10 ∷ [])))

unfoldable pub path_line : ℕ → List ℕ
path_line number = codes "no " ++ (decimal number ++ (codes " path" ++ 10 ∷ []))

unfoldable pub tight_line : ℕ → List ℕ
tight_line number = codes "no " ++ (decimal number ++ (codes " tight" ++ 10 ∷ []))

abbrev pub bad_line : Network → ℕ → Why → List ℕ
bad_line net number whys.Edge = edge_line number
bad_line net number (whys.Unlisted state) = unlisted_line number (state_text net state)
bad_line net number whys.Path = path_line number
bad_line net number whys.Tight = tight_line number

abbrev pub verdict_line : Network → Prefer → Verdict → List ℕ
verdict_line net prefer (Least containers sids need) = least_line prefer containers sids need
verdict_line net prefer NoList = no_list_line
verdict_line net prefer (No number why) = bad_line net number why

abbrev pub verdict_status : Verdict → Status
verdict_status (Least containers sids need) = statuses.Done
verdict_status NoList = statuses.Done
verdict_status (No number why) = statuses.SaysNo

-- the verdict on a certificate over the legs of the intent, and what it says of lists: with `Least` a legal list of so many containers, and
-- where the intent prefers few SIDs of so many SIDs, realizes the intent with this need, and no legal list that does so has fewer containers,
-- or as many and, where SIDs count, fewer of them, or as many of all that and a smaller need; with `NoList` none does; and so it is of the
-- legal lists that hand over even one inner packet
pub record IsChecked (net : Network) (intent : Intent) (cert : Cert) (verdict : Verdict) : Type 0 where
  pub is : IsVerdict (intent_legs_value net intent) cert verdict
  pub says : SaysFor net intent verdict
  pub handing : SaysOfHandingFor net intent verdict

abbrev pub told_of : Network → Prefer → Verdict → Output
told_of net prefer verdict = reported (verdict_line net prefer verdict) [] (verdict_status verdict)

-- the description is judged, then the intent, then whether the network is flat, and then the certificate

abbrev pub VerdictWants : Network → Intent → Cert → Output → Type 0
VerdictWants net intent cert output = (verdict : Verdict) × IsChecked net intent cert verdict × (output ≡ told_of net intent.prefer verdict)

abbrev pub CertWants : Network → Intent → Result Cert Refusal → Output → Type 0
CertWants net intent (Err refusal) output = output ≡ refused refusal
CertWants net intent (Ok cert) output = VerdictWants net intent cert output

abbrev pub FlatWants : Network → Intent → Result (Unit {0}) NotFlat → Option (List ℕ) → Output → Type 0
FlatWants net intent (Err why) cert output = output ≡ refused (flat_refusal net why)
FlatWants net intent (Ok flat) cert output =
    IsSomeAnd cert (λ text. CertWants net intent (cert_in net (intent_legs_value net intent) text) output)

abbrev pub CheckedIntentWants : Network → Result Intent Refusal → Option (List ℕ) → Output → Type 0
CheckedIntentWants net (Err refusal) cert output = output ≡ refused refusal
CheckedIntentWants net (Ok intent) cert output = FlatWants net intent (flatness_of net) cert output

abbrev pub CheckedNetworkWants : Result Network Refusal → Option (List ℕ) → Option (List ℕ) → Output → Type 0
CheckedNetworkWants (Err refusal) intent cert output = output ≡ refused refusal
CheckedNetworkWants (Ok net) intent cert output = IsSomeAnd intent (λ text. CheckedIntentWants net (intent_in net text) cert output)

-- the intent is asked for where the description gives a network, and the certificate where the intent is one in it and it is flat

abbrev pub goes_on_behind : Network → Result Intent Refusal → Bool
goes_on_behind net (Err refusal) = false
goes_on_behind net (Ok intent) = is_ok (flatness_of net)

abbrev pub asks_for_cert : Result Network Refusal → List ℕ → Bool
asks_for_cert (Err refusal) text = false
asks_for_cert (Ok net) text = goes_on_behind net (intent_in net text)

abbrev pub asks_for_next : List (List ℕ) → Bool
asks_for_next [] = false
asks_for_next (file ∷ []) = is_ok (network_in file)
asks_for_next (file ∷ intent ∷ more) = asks_for_cert (network_in file) intent

abbrev pub check_spec : List ℕ → List ℕ → List ℕ → CommandSpec
check_spec file intent cert = record {
  files = file ∷ intent ∷ cert ∷ [];
  goes_on = asks_for_next;
  reads = false;
  leaves_input = λ held. ⊤;
  lines_last = true;
  statuses = statuses.Done ∷ statuses.Refused ∷ statuses.SaysNo ∷ [];
  wants = λ held input output.
      IsSomeAnd (file_named held file) (λ text. CheckedNetworkWants (network_in text) (file_named held intent)
      (file_named held cert) output);
}
