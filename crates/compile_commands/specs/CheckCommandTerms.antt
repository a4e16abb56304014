-- Need not be believed: helps proofs and other laws.
-- Terms beside those of `specs/CheckCommand.antt`.
use Rattle.std.specs.Prelude.{◌≡◌, [], ◌∷◌, Option, Result, Ok, Err, ⊤, Some, None}
use Rattle.net_model.specs.Network.{Network}
use Rattle.net_flatness.specs.Flat.{flatness_of}
use Rattle.net_flatness.specs.declared.not_flat.NotFlat.{NotFlat}
use Rattle.intent_reader.specs.declared.intent.Intent.{Intent}
use Rattle.list_certificate.specs.declared.certificate_types.Cert.{Cert}
use Rattle.list_certificate.specs.declared.certificate_types.Verdict.{Verdict}
use Rattle.list_certificate.specs.declared.certificate_types.Verdict.TheVariants.{Least, NoList, No}
use Rattle.list_certificate.specs.declared.certificate_types.Why.{Why}
use Rattle.list_certificate.specs.declared.certificate_types.Why.TheVariants as whys
use Rattle.list_certificate.specs.SpellingTerms.{IsKnown}
use Rattle.leg_table.specs.StrictTableTerms.{LegTable}
use Rattle.command_output.specs.declared.conclusion.Judgement.{Judgement}
use Rattle.command_output.specs.declared.halt.Failure.TheVariants as failures
use Rattle.command_output.specs.declared.halt.Halt.{Halt}
use Rattle.command_output.specs.declared.halt.Halt.TheVariants as halts
use Rattle.command_output.specs.declared.refusal.Refusal.{Refusal}
use Rattle.command_output.specs.declared.status.Status.TheVariants as statuses
use Rattle.command_output.specs.Halts.{flat_refusal}
use Rattle.command_output.specs.OutputsTerms.{output_of_judgement}
use Rattle.command_output.specs.CommandSpec.{IsOneOf}
use Rattle.compile_commands.specs.declared.check_command.CheckWords as code
use Rattle.compile_commands.specs.CheckCommand.{CheckWords, VerdictWants}

-- as the code has them
abbrev pub check_words_seen : code.CheckWords → CheckWords
check_words_seen words = record { file = words.file.now; intent = words.intent.now; cert = words.cert.now }

abbrev pub check_asked : Option code.CheckWords → Option CheckWords
check_asked None = None
check_asked (Some words) = Some (check_words_seen words)

-- What `check` has to write, as its steps answer it.

-- the refusal of a network that is not flat
abbrev pub RefusesFlat : Network → Refusal → Result (Unit {0}) NotFlat → Type 0
RefusesFlat net refusal (Ok flat) = ⊥
RefusesFlat net refusal (Err why) = refusal ≡ flat_refusal net why

-- the legs of an intent in a flat network
abbrev pub LegsOf : Network → Intent → Result LegTable Halt → Type 0
LegsOf net intent (Ok legs) = (legs ≡ record { net = net; intent = intent }) × (flatness_of net ≡ Ok tt)
LegsOf net intent (Err (halts.Refused refusal)) = RefusesFlat net refusal (flatness_of net)
LegsOf net intent (Err (halts.Failed failures.Fault)) = ⊥
LegsOf net intent (Err (halts.Failed failures.NoMemory)) = ⊤

-- the SID of a state that a verdict tells is one of the network
abbrev pub KnowsWhy : Network → Why → Type 0
KnowsWhy net whys.Edge = ⊤
KnowsWhy net (whys.Unlisted state) = IsKnown net state
KnowsWhy net whys.Path = ⊤
KnowsWhy net whys.Tight = ⊤

abbrev pub KnowsState : Network → Verdict → Type 0
KnowsState net (Least containers sids need) = ⊤
KnowsState net NoList = ⊤
KnowsState net (No number why) = KnowsWhy net why

abbrev pub JudgesAs : Network → Intent → Cert → Judgement → Type 0
JudgesAs net intent cert judgement =
    VerdictWants net intent cert (output_of_judgement judgement) × IsOneOf (statuses.Done ∷ statuses.SaysNo ∷ []) judgement.status
