-- What is said of a legal list that somebody else made, by the lists that `compile` chooses from.
use Rattle.std.specs.Prelude.{◌≡◌, ◌↔◌, ℕ, ◌*◌, ◌<◌, ◌≤◌, Bool, IsTrue, List, length, Result, Ok, Err}
use Rattle.net_model.specs.Network.{Network}
use Rattle.net_flatness.specs.Flat.{flatness_of}
use Rattle.intent_reader.specs.declared.intent.Intent.{Intent}
use Rattle.intent_reader.specs.Preferences.{sid_cost_of}
use Rattle.list_pack.specs.declared.types.Container.{Container}
use Rattle.list_pack.specs.SidLists.{prefixes_in}
use Rattle.path_compiler.specs.Compiled.{IsChosen}
use Rattle.intent_compiler.specs.IntentLegs.{ListExecutesFor, ListRealizesFor}
use Rattle.list_judge.specs.declared.judgement.Judgement.{Judgement}
use Rattle.list_judge.specs.declared.judgement.Judgement.TheVariants.{Realizes, Fails}
use Rattle.list_judge.specs.declared.judgement.JudgeFault.{JudgeFault}
use Rattle.list_judge.specs.declared.judgement.JudgeFault.TheVariants as faults

-- the chosen list of an intent has as many containers as a list and this need, and where few SIDs are preferred as many SIDs
pub record IsAsChosen (net : Network) (intent : Intent) (list : List Container) (need : ℕ) : Type 0 where
  pub chosen : List Container
  pub is_chosen : IsChosen (sid_cost_of intent.prefer) net (ListRealizesFor net intent) (ListExecutesFor net intent) chosen need
  pub containers : length chosen ≡ length list
  pub sids : sid_cost_of intent.prefer * length (prefixes_in chosen) ≡ sid_cost_of intent.prefer * length (prefixes_in list)

-- a list keeps to the bounds of an intent
abbrev pub IsWithin : Intent → List Container → ℕ → Type 0
IsWithin intent list need = (length list ≤ intent.max_containers) × (need < intent.hop_limit)

-- a list realizes an intent, with these numbers
pub record RealizesAs (net : Network) (intent : Intent) (list : List Container) (need containers sids : ℕ) (least within : Bool)
    : Type 0 where
  pub realizes : ListRealizesFor net intent list need
  pub are_containers : containers ≡ length list
  pub are_sids : sids ≡ length (prefixes_in list)
  pub is_least : IsTrue least ↔ IsAsChosen net intent list need
  pub is_within : IsTrue within ↔ IsWithin intent list need

-- it doesn't, with any need; and the SID that is named is one of the list's, counted from 1, or none
pub record FailsAt (net : Network) (intent : Intent) (list : List Container) (sid : ℕ) : Type 0 where
  pub fails : (need : ℕ) → ¬ ListRealizesFor net intent list need
  pub of_list : sid ≤ length (prefixes_in list)

-- what is said of a list
abbrev pub Judges : Network → Intent → List Container → Judgement → Type 0
Judges net intent list (Realizes need containers sids least within) = RealizesAs net intent list need containers sids least within
Judges net intent list (Fails sid cause) = FailsAt net intent list sid

-- a network that isn't flat is refused first
abbrev pub JudgesOrRefuses : Network → Intent → List Container → Result Judgement JudgeFault → Type 0
JudgesOrRefuses net intent list (Ok judgement) = (flatness_of net ≡ Ok tt) × Judges net intent list judgement
JudgesOrRefuses net intent list (Err (faults.NotFlat why)) = flatness_of net ≡ Err why
JudgesOrRefuses net intent list (Err faults.NoMemory) = Unit {0}
