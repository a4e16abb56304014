-- How the program ends.
use Rattle.std.specs.Prelude.{◌≡◌, ℕ, List, [], length, take, codes, Option, Some, String, nat_lt, MatchBool, ◌⊎◌}
use Rattle.std.specs.Process.{exit_status}
use Rattle.std.specs.declared.alloc.Global.{Global}
use Rattle.std.specs.declared.process.ExitCode.{ExitCode}
use Rattle.srx_edge.specs.FilesRead.{FilesSeen}
use Rattle.srx_edge.specs.Sinks.{SinkSeen, sent, failed, wanting}
use Rattle.line_talk.specs.Talk.{Talk, begun}
use Rattle.line_talk.specs.Talked.{Talked, exit_number}
use Rattle.line_talk.specs.declared.serve.Status.{Status}
use Rattle.pce_engine.specs.EngineReplies.{PceState, engine_rules}

abbrev pub usage_line : List ℕ
usage_line = codes "usage: srv6-pce\n"

-- the usage line went to the errors, whole or a front of it
abbrev pub Refuses : ExitCode → SinkSeen → SinkSeen → Type 0
Refuses code old new =
    ((exit_status code ≡ 2) × (new ≡ sent usage_line old))
    ⊎ ((exit_status code ≡ 5) × ((count : ℕ) × (new ≡ failed (sent (take count usage_line) old))))
    ⊎ ((exit_status code ≡ 6) × ((count : ℕ) × (new ≡ wanting (sent (take count usage_line) old))))

-- the lines of the client were answered, first by an engine that holds no network; a client that tells nothing says nothing
pub record Serves (files : FilesSeen) (code : ExitCode) (old new : Option Talk) : Type 0 where
  pub status : Status
  pub number : exit_status code ≡ exit_number status
  pub talked : old ≡ Some begun → (talk : Talk) × (left : PceState) × (new ≡ Some talk)
      × Talked engine_rules (record { held = []; files = files }) status talk left

-- with words behind the program's name nothing is heard or said, but on the errors; without, all is said to the client
abbrev pub Ends : List (String Global) → ExitCode → FilesSeen → Option Talk → Option Talk → SinkSeen → SinkSeen → Type 0
Ends words code files old new err err_new =
    MatchBool (nat_lt 1 (length words))
    (Refuses code err err_new × (new ≡ old))
    (Serves files code old new × (err_new ≡ err))
