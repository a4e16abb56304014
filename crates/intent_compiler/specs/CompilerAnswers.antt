-- What an intent is compiled to, and when it is refused.
use Rattle.std.specs.Prelude.{Result}
use Rattle.net_model.specs.Network.{Network}
use Rattle.intent_reader.specs.declared.intent.Intent.{Intent}
use Rattle.path_compiler.specs.declared.compiled.Compiled.{Compiled}
use Rattle.path_compiler.specs.declared.compiled.CompileFault.{CompileFault}
use Rattle.path_compiler.specs.Compiled.{AnswersOver, IsKept, NoneLessOver, IsLeastOver}
use Rattle.intent_compiler.specs.IntentLegs.{ListExecutesFor, ListHandsFor, ListRealizesFor, intent_legs_value}

-- the answer over the legs of an intent and the lists that realize it
abbrev pub IntentAnswers : Network → Intent → Result Compiled CompileFault → Type 0
IntentAnswers net intent answer =
    AnswersOver (intent_legs_value net intent) net (ListRealizesFor net intent) (ListExecutesFor net intent) intent answer

-- a list is found in a flat network, and both bounds are kept
abbrev pub IsCompiledFor : Network → Intent → Compiled → Type 0
IsCompiledFor net intent c =
    IsKept (intent_legs_value net intent) net (ListRealizesFor net intent) (ListExecutesFor net intent) intent c

-- ---- the lists that hand over even one packet of the intent

-- what an answer says of them
abbrev pub NoneLessFor : Network → Intent → Result Compiled CompileFault → Type 0
NoneLessFor net intent answer = NoneLessOver (intent_legs_value net intent).sid_cost net (ListHandsFor net intent) intent.reduced answer

-- ---- the lists that hand over even one packet of the intent

-- the chosen list is the least of these
abbrev pub IsLeastFor : Network → Intent → Compiled → Type 0
IsLeastFor net intent c = IsLeastOver (intent_legs_value net intent).sid_cost net (ListHandsFor net intent) intent.reduced c
