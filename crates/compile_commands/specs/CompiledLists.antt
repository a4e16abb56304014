-- What an intent is compiled to, for the commands that stand on it.
pub use Rattle.intent_compiler.specs.CompilerAnswers.{IntentAnswers, IsCompiledFor, NoneLessFor, IsLeastFor}
pub use Rattle.intent_compiler.specs.LegKinds.{BindsNothing}
pub use Rattle.intent_compiler.specs.LegKindsTerms.{ReachesNothing}
pub use Rattle.intent_compiler.specs.IntentLegs.{ListExecutesFor, ListHandsFor, ListRealizesFor}
pub use Rattle.intent_compiler.specs.KeptSteps.{KeepsIf, KeepsToSteps, trace_steps}
pub use Rattle.intent_compiler.specs.KeptStepsTerms.{IsOfSteps, MayCross, OnCrossed}
pub use Rattle.intent_compiler.specs.IntentSmall.{AllFit, IsSmallFor, IsSmallIf, LooseIsSmall}
