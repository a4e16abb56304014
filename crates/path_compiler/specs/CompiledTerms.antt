-- Need not be believed: helps proofs and other laws.
-- Terms beside those of `specs/Compiled.antt`.
use Rattle.std.specs.Prelude.{◌≡◌, Bool, length, slice_get, Some, Result}
use Rattle.std.specs.Option.{option_map}
use Rattle.srv6_rules.specs.Encapsulation.{header_bytes}
use Rattle.net_model.specs.Network.{Network}
use Rattle.intent_reader.specs.declared.intent.Intent.{Intent}
use Rattle.intent_reader.specs.Preferences.{sid_cost_of}
use Rattle.list_pack.specs.declared.types.Cost.{Cost}
use Rattle.list_pack.specs.declared.types.Potential.{Potential}
use Rattle.list_pack.specs.declared.types.Solution.{Solution}
use Rattle.list_pack.specs.PathLists.{list_of}
use Rattle.leg_table.specs.Realizes.{ListRealizes}
use Rattle.leg_table.specs.RealizesTerms.{ListExecutes, ListHands}
use Rattle.leg_table.specs.StrictLegsValue.{legs_value}
use Rattle.path_compiler.specs.declared.compiled.Compiled.{Compiled}
use Rattle.path_compiler.specs.declared.compiled.CompileFault.{CompileFault}
use Rattle.path_compiler.specs.Compiled.{AnswersOver, NoneLessOver}

abbrev pub cost_in : Potential → Cost
cost_in q = q.cost

-- the list of a path, with its SIDs and header bytes, and the cost of the first state that is listed
pub record IsListIn (net : Network) (reduced : Bool) (s : Solution) (c : Compiled) : Type 0 where
  pub list : c.list ≡ list_of net s.path
  pub sids : c.sids ≡ length s.path
  pub cost : Cost
  pub first : option_map cost_in (slice_get s.potentials 0) ≡ Some cost
  pub containers : c.containers ≡ cost.containers
  pub need : c.need ≡ cost.hops
  pub header : c.header ≡ header_bytes reduced c.containers
  pub solution : c.solution ≡ s

-- Below, a relation says that a list realizes with a need, and another that as many SIDs of a list are executed.

-- over the strict steps of an intent, which the laws of `intent_compiler` compare with
abbrev pub CompileAnswers : Network → Intent → Result Compiled CompileFault → Type 0
CompileAnswers net intent answer =
    AnswersOver (legs_value net intent) net (ListRealizes net intent) (ListExecutes net intent) intent answer

-- ---- the lists that hand over even one packet

-- over the strict steps of an intent
abbrev pub NoLessHandsOver : Network → Intent → Result Compiled CompileFault → Type 0
NoLessHandsOver net intent answer = NoneLessOver (sid_cost_of intent.prefer) net (ListHands net intent) intent.reduced answer
