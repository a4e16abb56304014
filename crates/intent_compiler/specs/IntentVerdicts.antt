-- What the verdict on a certificate says of an intent's lists.
use Rattle.net_model.specs.Network.{Network}
use Rattle.intent_reader.specs.declared.intent.Intent.{Intent}
use Rattle.list_certificate.specs.declared.certificate_types.Verdict.{Verdict}
use Rattle.path_compiler.specs.Checked.{Says, SaysOver}
use Rattle.intent_compiler.specs.IntentLegs.{ListExecutesFor, ListHandsFor, ListRealizesFor, intent_legs_value}

-- the least cost of the legal lists that realize the intent, by its preference, or that there are none
abbrev pub SaysFor : Network → Intent → Verdict → Type 0
SaysFor net intent verdict = Says (intent_legs_value net intent).sid_cost net (ListRealizesFor net intent) (ListExecutesFor net intent) verdict

-- and of those that hand over even one packet
abbrev pub SaysOfHandingFor : Network → Intent → Verdict → Type 0
SaysOfHandingFor net intent verdict = SaysOver (intent_legs_value net intent).sid_cost net (ListHandsFor net intent) verdict
