-- What each request gives, by the networks that are held and by the files, and what it leaves of both: own rules.
use Rattle.std.specs.Prelude.{◌≡◌, ℕ, Bool, ◌||◌, not, nat_lt, nat_le, if◌then◌else◌, List, [], ◌∷◌, length, filter, Option, None, Some, is_some, Result, Ok, Err, bytes_eq, ◌⊎◌}
use Rattle.std.specs.Global.{Vec}
use Rattle.srx_edge.specs.FilesRead.{FilesSeen, ReadsFile}
use Rattle.srx_edge.specs.declared.file_access.FileFault.{FileFault}
use Rattle.srx_edge.specs.declared.file_access.FileFault.TheVariants as reads
use Rattle.text_faults.specs.declared.fault.TextFault.{TextFault}
use Rattle.net_model.specs.Network.{Network}
use Rattle.net_model.specs.Named.{node_numbered, link_numbered}
use Rattle.net_reader.specs.NetworkReading.{net_in}
use Rattle.net_without.specs.Without.{without_of}
use Rattle.line_talk.specs.Replies.{Rules}
use Rattle.line_talk.specs.declared.engine.TheConstants.{MAX_LINE}
use Rattle.command_output.specs.declared.refusal.Refusal.TheVariants as refusals
use Rattle.pce_protocol.specs.declared.field.Field.{Field}
use Rattle.pce_protocol.specs.declared.field.Field.TheVariants as fields
use Rattle.pce_protocol.specs.declared.id.Id.TheVariants as ids
use Rattle.pce_protocol.specs.declared.request.TextSource.{TextSource}
use Rattle.pce_protocol.specs.declared.request.TextSource.TheVariants as sources
use Rattle.pce_protocol.specs.declared.request.Routes.{Routes}
use Rattle.pce_protocol.specs.declared.request.Routes.TheVariants as routes
use Rattle.pce_protocol.specs.declared.request.Load.{Load}
use Rattle.pce_protocol.specs.declared.request.Without.{Without}
use Rattle.pce_protocol.specs.declared.request.Request.{Request}
use Rattle.pce_protocol.specs.declared.request.Request.TheVariants as requests
use Rattle.pce_protocol.specs.declared.request.RequestFault.{RequestFault}
use Rattle.pce_protocol.specs.declared.request.RequestFault.TheVariants as faults
use Rattle.pce_protocol.specs.declared.reply.Answer.{Answer}
use Rattle.pce_protocol.specs.declared.reply.Answer.TheVariants as answers
use Rattle.pce_protocol.specs.declared.reply.ReplyError.{ReplyError}
use Rattle.pce_protocol.specs.declared.reply.ReplyError.TheVariants as errors
use Rattle.pce_protocol.specs.Requests.{request_of, reply_id_of}
use Rattle.pce_protocol.specs.Replies.{reply_text}
use Rattle.pce_answers.specs.NetAnswers.{why_of, held_of, IsCompileReply, IsTraceReply}
use Rattle.pce_answers.specs.JudgeAnswers.{IsJudgeReply}
use Rattle.pce_engine.specs.declared.limits.TheConstants.{MAX_NETWORKS, MAX_TEXT}
use Rattle.pce_engine.specs.declared.networks.Holding.{Holding}

-- the networks that are held, and the files
pub record PceState : Type 0 where
  pub held : List Holding
  pub files : FilesSeen

-- ---- the networks that are held, each by a name

abbrev pub is_named : List ℕ → Holding → Bool
is_named name holding = bytes_eq holding.name name

abbrev pub network_named : List ℕ → List Holding → Option Network
network_named name [] = None
network_named name (holding ∷ held) = if is_named name holding then Some holding.network else network_named name held

-- with a network by this name: in the place of the one that had the name, else behind the others
abbrev pub with_network : List ℕ → Network → List Holding → List Holding
with_network name net [] = record { name = name; network = net } ∷ []
with_network name net (holding ∷ held) =
    if is_named name holding then record { name = name; network = net } ∷ held else holding ∷ with_network name net held

-- with no network by this name
abbrev pub without_network : List ℕ → List Holding → List Holding
without_network name held = filter (λ holding. not (is_named name holding)) held

-- ---- the first error

-- what follows for a value; an error stays the first
abbrev pub ◌>>=◌ : {X Y : Type 0} → Result X ReplyError → (X → Result Y ReplyError) → Result Y ReplyError
◌>>=◌ (Ok x) next = next x
◌>>=◌ (Err error) next = Err error

abbrev pub or_unknown : {X : Type 0} → List ℕ → Option X → Result X ReplyError
or_unknown name None = Err (errors.UnknownName name)
or_unknown name (Some x) = Ok x

-- the network by this name
abbrev pub held_as : List ℕ → List Holding → Result Network ReplyError
held_as name held = or_unknown name (network_named name held)

-- the numbers of the items with these names
abbrev pub numbers_of : (List ℕ → Option ℕ) → List (List ℕ) → Result (List ℕ) ReplyError
numbers_of numbered [] = Ok []
numbers_of numbered (name ∷ names) = do
  n ← or_unknown name (numbered name)
  ns ← numbers_of numbered names
  Ok (n ∷ ns)

-- a text that isn't too long
abbrev pub short_enough : List ℕ → Result (List ℕ) ReplyError
short_enough text = if nat_le (length text) MAX_TEXT then Ok text else Err (errors.TooBig MAX_TEXT)

-- a name may come to hold a network where it holds one, or fewer than the most are held
abbrev pub has_room : List ℕ → List Holding → Bool
has_room name held = is_some (network_named name held) || nat_lt (length held) MAX_NETWORKS

abbrev pub room_for : List ℕ → List Holding → Result (Unit {0}) ReplyError
room_for name held = if has_room name held then Ok tt else Err (errors.TooBig MAX_NETWORKS)

-- ---- to hold a network

-- a network comes to be held by a name; after an error all is held as it was
abbrev pub Holds : List ℕ → Result Network ReplyError → List Holding → Result Answer ReplyError → List Holding → Type 0
Holds name (Ok net) before reply behind = (reply ≡ Ok (answers.Held (held_of net))) × (behind ≡ with_network name net before)
Holds name (Err error) before reply behind = (reply ≡ Err error) × (behind ≡ before)

-- the text of a file that was read
abbrev pub file_text : Result (Vec ℕ) FileFault → Result (List ℕ) ReplyError
file_text (Ok bytes) = Ok bytes.items
file_text (Err reads.Failed) = Err errors.BadFile
file_text (Err (reads.TooBig limit)) = Err (errors.TooBig limit)
file_text (Err reads.NoMemory) = Err errors.NoMemory

-- the text that a request has, or that of the file that it names; and the files behind that
abbrev pub Gives : TextSource → FilesSeen → Result (List ℕ) ReplyError → FilesSeen → Type 0
Gives (sources.Here text) before given behind = (given ≡ short_enough text) × (behind ≡ before)
Gives (sources.File path) before given behind =
    (answer : Result (Vec ℕ) FileFault) × ReadsFile path MAX_TEXT answer before behind × (given ≡ file_text answer)

-- the network of a description
abbrev pub or_refused : Result Network TextFault → Result Network ReplyError
or_refused (Ok net) = Ok net
or_refused (Err fault) = Err (errors.Refused (why_of (refusals.Net fault)))

abbrev pub loaded : List ℕ → List Holding → Result (List ℕ) ReplyError → Result Network ReplyError
loaded name held given = do
  text ← given
  room ← room_for name held
  or_refused (net_in text)

abbrev pub LoadsText : Load → PceState → Result Answer ReplyError → PceState → Type 0
LoadsText load before reply behind =
    (given : Result (List ℕ) ReplyError) × Gives load.network before.files given behind.files
    × Holds load.name (loaded load.name before.held given) before.held reply behind.held

-- ---- what isn't done: routes aren't found by plans

abbrev pub IsBadField : Field → PceState → Result Answer ReplyError → PceState → Type 0
IsBadField field before reply behind = (reply ≡ Err (errors.Request (faults.BadField field))) × (behind ≡ before)

abbrev pub Loads : Load → Option TextSource → PceState → Result Answer ReplyError → PceState → Type 0
Loads load None before reply behind = LoadsText load before reply behind
Loads load (Some (sources.Here text)) before reply behind = IsBadField fields.Plan before reply behind
Loads load (Some (sources.File path)) before reply behind = IsBadField fields.PlanFile before reply behind

abbrev pub kept : Routes → Result (Unit {0}) ReplyError
kept routes.Keep = Ok tt
kept routes.Again = Err (errors.Request (faults.BadField fields.Routes))

-- ---- the other requests

-- a network without some of its parts
abbrev pub left : Without → List Holding → Result Network ReplyError
left without held = do
  net ← held_as without.from held
  fine ← kept without.routes
  links ← numbers_of (λ name. link_numbered name net.links) without.links
  nodes ← numbers_of (λ name. node_numbered name net.nodes) without.nodes
  room ← room_for without.name held
  Ok (without_of net links nodes)

-- a network is held no longer
abbrev pub Drops : List ℕ → Result Network ReplyError → List Holding → Result Answer ReplyError → List Holding → Type 0
Drops name (Ok net) before reply behind = (reply ≡ Ok answers.Dropped) × (behind ≡ without_network name before)
Drops name (Err error) before reply behind = (reply ≡ Err error) × (behind ≡ before)

-- what is asked of a network that is held
abbrev pub IsOf : Result Network ReplyError → (Network → Result Answer ReplyError → Type 0) → Result Answer ReplyError → Type 0
IsOf (Ok net) IsReply reply = IsReply net reply
IsOf (Err error) IsReply reply = reply ≡ Err error

abbrev pub Does : Request → PceState → Result Answer ReplyError → PceState → Type 0
Does requests.Version before reply behind = (reply ≡ Ok answers.Version) × (behind ≡ before)
Does (requests.Load load) before reply behind = Loads load load.plan before reply behind
Does (requests.Without without) before reply behind =
    Holds without.name (left without before.held) before.held reply behind.held × (behind.files ≡ before.files)
Does (requests.Drop name) before reply behind =
    Drops name (held_as name before.held) before.held reply behind.held × (behind.files ≡ before.files)
Does (requests.Compile compile) before reply behind =
    IsOf (held_as compile.network before.held) (λ net. IsCompileReply net compile.intent compile.certificate) reply × (behind ≡ before)
Does (requests.Judge judge) before reply behind =
    IsOf (held_as judge.network before.held) (λ net. IsJudgeReply net judge.intent judge.list) reply × (behind ≡ before)
Does (requests.Trace trace) before reply behind =
    IsOf (held_as trace.network before.held) (λ net. IsTraceReply net trace.node trace.packet trace.choices) reply × (behind ≡ before)

-- ---- lines

-- what a line asks for is done, or its first fault is told
abbrev pub Replies : Result Request RequestFault → PceState → Result Answer ReplyError → PceState → Type 0
Replies (Ok request) before reply behind = Does request before reply behind
Replies (Err fault) before reply behind = (reply ≡ Err (errors.Request fault)) × (behind ≡ before)

-- memory is wanting, which may come at any time: all networks are held as they were
abbrev pub Wants : List ℕ → PceState → List ℕ → PceState → Type 0
Wants line before text behind =
    ((text ≡ reply_text (reply_id_of line) (Err errors.NoMemory)) ⊎ (text ≡ reply_text ids.Null (Err errors.NoMemory)))
    × (behind.held ≡ before.held)

-- the reply to a line goes by the line's id
abbrev pub RepliesToLine : PceState → List ℕ → List ℕ → PceState → Type 0
RepliesToLine before line text behind =
    ((reply : Result Answer ReplyError) × (text ≡ reply_text (reply_id_of line) reply) × Replies (request_of line) before reply behind)
    ⊎ Wants line before text behind

abbrev pub engine_rules : Rules PceState
engine_rules = record {
  Replies = RepliesToLine;
  IsTooBig = λ text. text ≡ reply_text ids.Null (Err (errors.TooBig MAX_LINE));
  Spares = λ before behind. behind.held ≡ before.held;
}
