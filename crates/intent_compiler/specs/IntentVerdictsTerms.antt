-- Need not be believed: helps proofs and other laws.
-- Terms beside those of `specs/IntentVerdicts.antt`.
use Rattle.std.specs.Prelude.{Result}
use Rattle.net_model.specs.Network.{Network}
use Rattle.intent_reader.specs.declared.intent.Intent.{Intent}
use Rattle.list_pack.specs.declared.types.Solution.{Solution}
use Rattle.list_certificate.specs.declared.certificate_types.Verdict.{Verdict}
use Rattle.path_compiler.specs.declared.compiled.Compiled.{Compiled}
use Rattle.path_compiler.specs.declared.compiled.CompileFault.{CompileFault}
use Rattle.path_compiler.specs.CheckedTerms.{CertifiesAnswerOver, CertifiesOver}
use Rattle.intent_compiler.specs.IntentLegs.{intent_legs_value}

-- the verdict on the certificate of what the search found over the legs of an intent, wherever its head stands
abbrev pub CertifiesFor : Network → Intent → Solution → Verdict → Type 0
CertifiesFor net intent s verdict = CertifiesOver (intent_legs_value net intent) s verdict

-- with an answer comes a certificate whose verdict is the answer's
abbrev pub CertifiesAnswerFor : Network → Intent → Result Compiled CompileFault → Type 0
CertifiesAnswerFor net intent answer = CertifiesAnswerOver (intent_legs_value net intent) answer
