-- With files that are sure and hold what the command comes to, a fault is one of the input or of a sink.
use Rattle.std.proofs.Common.{◌≡◌, inl, inr, ℕ, List, [], ◌∷◌, ◌++◌, Option, None, Some, IfSome, refl, sym, ap, ◌∙◌, subst}
use Rattle.std.specs.Prelude.{IsSome, IsSomeAnd, IsTrue}
use Rattle.srx_edge.specs.Edge.{file_named}
use Rattle.srx_edge.specs.FilesRead.{FilesSeen}
use Rattle.srx_edge.specs.CallSteps.{Fault, Failing, Wanting}
use Rattle.command_output.specs.declared.status.Status.{Status}
use Rattle.command_output.specs.declared.status.Status.TheVariants as statuses
use Rattle.command_output.specs.Endings.{ending_of_status, Takes}
use Rattle.command_output.specs.Outside.{Outside, Asks, AsksAs, FailsAtLast, Reads}
use Rattle.command_output.specs.OutputPieces.{Piece, ToOut, ToErr, Stop, Never, AtFiles, AtInput, At, Elsewhere, Went, ending_by}
use Rattle.command_output.specs.CommandSpec.{Held, CommandSpec, names_of}
use Rattle.srv6_cli.specs.Complete.{AreHeld, FilesAreSure, HadFaultBeside}
use Rattle.srv6_cli.proofs.ServeStops.{count_stop, input_stop}

none_is_some : (o : Option (List ℕ)) → o ≡ None → IsSome o → ⊥
none_is_some None none there = cc
none_is_some (Some bytes) none there = cc

-- sure files don't fail at a name that they hold
held_fails : (held : Held) (name : List ℕ) (files : FilesSeen) → files.told ≡ Some held → IsTrue files.sure
    → IsSome (file_named held name) → FailsAtLast (name ∷ []) files → ⊥
held_fails held name files told sure there fails =
    let none : file_named held name ≡ None = subst (λ (o : Option Held). IfSome o (λ h. file_named h name ≡ None)) told (fails sure) in
    none_is_some (file_named held name) none there

last_fails : (held : Held) (names : List (List ℕ)) (files : FilesSeen) → files.told ≡ Some held → IsTrue files.sure
    → AreHeld held names → FailsAtLast names files → ⊥
last_fails held [] files told sure there fails = fails
last_fails held (name ∷ []) files told sure there fails = held_fails held name files told sure there.0 fails
last_fails held (name ∷ next ∷ names) files told sure there fails = last_fails held (next ∷ names) files told sure there.1 fails

front_held : (held : Held) (names rest : List (List ℕ)) → AreHeld held (names ++ rest) → AreHeld held names
front_held held [] rest there = tt
front_held held (name ∷ names) rest there = (there.0, front_held held names rest there.1)

none_asked : (names rest : List (List ℕ)) (files : FilesSeen) → names ++ rest ≡ [] → FailsAtLast names files → ⊥
none_asked [] rest files e fails = fails
none_asked (name ∷ names) rest files e fails = cc

module _ (spec : CommandSpec) (old new : FilesSeen) (asks : Asks spec AtFiles old new) where
  told_sure : (told : Option Held) → old.told ≡ told → IsTrue old.sure → IsSomeAnd told (λ held. AreHeld held (names_of spec held))
      → IfSome told (λ held. AsksAs AtFiles (names_of spec held) asks.names) → ⊥
  told_sure None e sure there those = there
  told_sure (Some held) e sure there those = last_fails held asks.names old e sure
      (front_held held asks.names those.rest (subst (AreHeld held) (sym those.whole) there)) asks.fails

  no_files_fault : FilesAreSure spec old → ⊥
  no_files_fault (inl none) = none_asked asks.names asks.in_order.rest old (asks.in_order.whole ∙ none) asks.fails
  no_files_fault (inr (sure, there)) = told_sure old.told refl sure there asks.those

completes_by : (spec : CommandSpec) (stop : Stop) (pieces : List Piece) (old new : Outside) → Asks spec stop old.files new.files
    → Reads stop old.input new.input → Went stop pieces old.sinks new.sinks → ending_by stop ≡ Fault
    → FilesAreSure spec old.files → HadFaultBeside old new
completes_by spec Never pieces old new asks reads went is sure = cc
completes_by spec AtFiles pieces old new asks reads went is sure = absurd (no_files_fault spec old.files new.files asks sure)
completes_by spec AtInput pieces old new asks reads went is sure = inl (input_stop AtInput old.input new.input reads)
completes_by spec (At ToOut Failing) pieces old new asks reads went is sure =
    inr (inl (count_stop (At ToOut Failing) ToOut Failing pieces old.sinks new.sinks went))
completes_by spec (At ToOut Wanting) pieces old new asks reads went is sure = cc
completes_by spec (At ToErr Failing) pieces old new asks reads went is sure =
    inr (inr (count_stop (At ToErr Failing) ToErr Failing pieces old.sinks new.sinks went))
completes_by spec (At ToErr Wanting) pieces old new asks reads went is sure = cc
completes_by spec Elsewhere pieces old new asks reads went is sure = cc

pub completes : (spec : CommandSpec) (status : Status) (stop : Stop) (pieces : List Piece) (old new : Outside)
    → ending_by stop ≡ ending_of_status status → Takes spec stop old.files new.files old.input new.input
    → Went stop pieces old.sinks new.sinks → FilesAreSure spec old.files → status ≡ statuses.OutsideFault → HadFaultBeside old new
completes spec status stop pieces old new ending takes went sure is =
    completes_by spec stop pieces old new takes.asks takes.reads went (ending ∙ ap ending_of_status is) sure
