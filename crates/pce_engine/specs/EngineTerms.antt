-- Need not be believed: helps proofs and other laws.
-- Terms beside those of `specs/EngineReplies.antt`.
use Rattle.std.specs.Prelude.{◌≡◌, ℕ, List, ◌++◌, Option, None, Some, Result, Ok, Err, ◌⊎◌}
use Rattle.std.specs.Global.{Vec}
use Rattle.srx_edge.specs.FilesRead.{FilesSeen}
use Rattle.base.specs.declared.no_memory.NoMemory.{NoMemory}
use Rattle.text_faults.specs.declared.fault.OrNoMemory.{OrNoMemory}
use Rattle.text_faults.specs.declared.fault.OrNoMemory.TheVariants as reads
use Rattle.text_faults.specs.declared.fault.TextFault.{TextFault}
use Rattle.net_model.specs.Network.{Network}
use Rattle.net_model.specs.Named.{node_numbered, link_numbered}
use Rattle.command_output.specs.declared.refusal.Refusal.TheVariants as refusals
use Rattle.pce_protocol.specs.declared.field.Field.{Field}
use Rattle.pce_protocol.specs.declared.id.Id.{Id}
use Rattle.pce_protocol.specs.declared.request.Request.{Request}
use Rattle.pce_protocol.specs.declared.request.Request.TheVariants as requests
use Rattle.pce_protocol.specs.declared.request.RequestFault.{RequestFault}
use Rattle.pce_protocol.specs.declared.request.RequestFault.TheVariants as faults
use Rattle.pce_protocol.specs.declared.reply.Answer.{Answer}
use Rattle.pce_protocol.specs.declared.reply.ReplyError.{ReplyError}
use Rattle.pce_protocol.specs.declared.reply.ReplyError.TheVariants as errors
use Rattle.pce_protocol.specs.Replies.{reply_text}
use Rattle.pce_answers.specs.NetAnswers.{why_of}
use Rattle.pce_engine.specs.EngineReplies.{PceState, with_network, without_network, held_as, Holds, IsOf, Does, Replies}
use Rattle.pce_engine.specs.declared.engine.Pce.{Pce}
use Rattle.pce_engine.specs.declared.networks.Holding.{Holding}
use Rattle.pce_engine.specs.declared.done.Change.{Change}
use Rattle.pce_engine.specs.declared.done.Change.TheVariants as changes
use Rattle.pce_engine.specs.declared.done.Done.{Done}
use Rattle.pce_engine.specs.declared.lookups.Part.{Part}
use Rattle.pce_engine.specs.declared.lookups.Part.TheVariants as parts

-- what is held behind a change
abbrev pub changed : Change → List Holding → List Holding
changed changes.Nothing held = held
changed (changes.Hold name net) held = with_network name net held
changed (changes.Release name) held = without_network name held

abbrev pub state_of : List Holding → FilesSeen → PceState
state_of held files = record { held = held; files = files }

-- an error is this one, or memory is wanting
abbrev pub IsUnlessWanting : ReplyError → ReplyError → Type 0
IsUnlessWanting wanted error = (error ≡ wanted) ⊎ (error ≡ errors.NoMemory)

-- a result, as it is seen, is the one that is wanted, or memory is wanting
abbrev pub Makes : {X Y : Type 0} → (X → Y) → Result X ReplyError → Result Y ReplyError → Type 0
Makes see (Ok x) wanted = wanted ≡ Ok (see x)
Makes see (Err error) wanted = (wanted ≡ Err error) ⊎ (error ≡ errors.NoMemory)

-- the bytes of a text that was read
abbrev pub text_items : Result (Vec ℕ) ReplyError → Result (List ℕ) ReplyError
text_items (Ok text) = Ok text.items
text_items (Err error) = Err error

-- the error of a description that gives no network, or memory is wanting
abbrev pub IsErrorOfNet : OrNoMemory TextFault → ReplyError → Type 0
IsErrorOfNet (reads.Fault fault) error = IsUnlessWanting (errors.Refused (why_of (refusals.Net fault))) error
IsErrorOfNet reads.NoMemory error = error ≡ errors.NoMemory

-- nothing is done for a field
abbrev pub IsBad : Field → Done → Type 0
IsBad field done = (done.reply ≡ Err (errors.Request (faults.BadField field))) × (done.change ≡ changes.Nothing)

-- memory is wanting, and all is held as it was
abbrev pub Starves : Done → Type 0
Starves done = (done.reply ≡ Err errors.NoMemory) × (done.change ≡ changes.Nothing)

-- a network comes to be held by a name, whatever was held
abbrev pub ComesToHold : List ℕ → Result Network ReplyError → Done → Type 0
ComesToHold name made done = ((held : List Holding) → Holds name made held done.reply (changed done.change held)) ⊎ Starves done

-- a request is done so, by what it gives, what it changes and what it leaves of the files
abbrev pub IsDone : Request → List Holding → FilesSeen → Done → FilesSeen → Type 0
IsDone request held before done behind =
    Does request (state_of held before) done.reply (state_of (changed done.change held) behind) ⊎ Starves done

-- so is what a line asks for
abbrev pub IsReplied : Result Request RequestFault → List Holding → FilesSeen → Done → FilesSeen → Type 0
IsReplied asked held before done behind =
    Replies asked (state_of held before) done.reply (state_of (changed done.change held) behind) ⊎ Starves done

-- the number of a part by its name
abbrev pub numbered : Network → Part → List ℕ → Option ℕ
numbered net parts.Link name = link_numbered name net.links
numbered net parts.Node name = node_numbered name net.nodes

-- what is asked of a network that is held is answered so, or memory is wanting
abbrev pub IsAsked : List ℕ → List Holding → (Network → Result Answer ReplyError → Type 0) → Result Answer ReplyError → Type 0
IsAsked name held IsReply reply = IsOf (held_as name held) IsReply reply ⊎ (reply ≡ Err errors.NoMemory)

-- numbers in front of those that follow, if these come
abbrev pub behind_front : List ℕ → Result (List ℕ) ReplyError → Result (List ℕ) ReplyError
behind_front front (Ok numbers) = Ok (front ++ numbers)
behind_front front (Err error) = Err error

-- ---- laws

-- the name by which a request may change what is held
abbrev pub changed_name : Request → Option (List ℕ)
changed_name requests.Version = None
changed_name (requests.Load load) = Some load.name
changed_name (requests.Without without) = Some without.name
changed_name (requests.Drop name) = Some name
changed_name (requests.Compile compile) = None
changed_name (requests.Judge judge) = None
changed_name (requests.Trace trace) = None

-- ---- the engine

-- the state of an engine by its parts
abbrev pub pce_seen : {F : Type 0} → (F → FilesSeen) → Pce F → PceState
pce_seen seen pce = state_of pce.networks (seen pce.files)

-- the reply to a line is there, or memory is wanting and all is held as it was
abbrev pub AnswersOr : PceState → Id → Result Request RequestFault → Result (Vec ℕ) NoMemory → PceState → Type 0
AnswersOr before id asked (Ok text) behind =
    ((reply : Result Answer ReplyError) × (text.items ≡ reply_text id reply) × Replies asked before reply behind)
    ⊎ ((text.items ≡ reply_text id (Err errors.NoMemory)) × (behind.held ≡ before.held))
AnswersOr before id asked (Err fault) behind = behind.held ≡ before.held

-- memory was wanting for the line itself
abbrev pub WantsOr : PceState → Id → Result (Vec ℕ) NoMemory → PceState → Type 0
WantsOr before id (Ok text) behind = (text.items ≡ reply_text id (Err errors.NoMemory)) × (behind.held ≡ before.held)
WantsOr before id (Err fault) behind = behind.held ≡ before.held
