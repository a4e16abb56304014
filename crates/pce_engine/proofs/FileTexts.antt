-- A file that gives no text.
use Rattle.std.proofs.Common.{◌≡◌, ℕ, List, Result, Ok, Err, refl, inl, inr}
use mathlib.Core.Logic.{◌⊎◌}
use Rattle.std.specs.Global.{Vec}
use Rattle.srx_edge.specs.FilesRead.{FilesSeen, ReadsFile}
use Rattle.srx_edge.specs.declared.file_access.FileFault.{FileFault}
use Rattle.pce_protocol.specs.declared.request.TextSource.TheVariants as sources
use Rattle.pce_protocol.specs.declared.request.Load.{Load}
use Rattle.pce_protocol.specs.declared.reply.ReplyError.{ReplyError}
use Rattle.pce_protocol.specs.declared.reply.ReplyError.TheVariants as errors
use Rattle.pce_engine.specs.declared.limits.TheConstants.{MAX_TEXT}
use Rattle.pce_engine.specs.declared.networks.Holding.{Holding}
use Rattle.pce_engine.specs.EngineReplies.{file_text, Gives, loaded}

pub no_text : (load : Load) (path : List ℕ) (held : List Holding) (before behind : FilesSeen) (error : ReplyError)
    → load.network ≡ sources.File path
    → (answer : Result (Vec ℕ) FileFault) × ReadsFile path MAX_TEXT answer before behind × (Err error ≡ file_text answer)
    → (x : Result (List ℕ) ReplyError) × Gives load.network before x behind
    × ((loaded load.name held x ≡ Err error) ⊎ (error ≡ errors.NoMemory))
no_text load path held before behind error is read = (Err error, rw is read, inl refl)
