-- What a line asks for. A line is a JSON object; its faults are found in one order.
use Rattle.std.specs.Prelude.{ℕ, false, if◌then◌else◌, List, [], ◌∷◌, Option, Some, None, option_and_then, is_some, Result, Ok, Err}
use Rattle.std.specs.Str.{is_utf8}
use Rattle.serde_json.specs.Data.{Data}
use Rattle.serde_json.specs.Read.{read}
use Rattle.serde_json.specs.Find.{get, as_bool, as_str, as_object}
use Rattle.pce_protocol.specs.declared.field.Field.{Field}
use Rattle.pce_protocol.specs.declared.field.Field.TheVariants as fields
use Rattle.pce_protocol.specs.declared.verb.Verb.{Verb}
use Rattle.pce_protocol.specs.declared.verb.Verb.TheVariants as verbs
use Rattle.pce_protocol.specs.declared.id.Id.{Id}
use Rattle.pce_protocol.specs.declared.id.Id.TheVariants as ids
use Rattle.pce_protocol.specs.declared.request.TextSource.{TextSource}
use Rattle.pce_protocol.specs.declared.request.TextSource.TheVariants.{Here, File}
use Rattle.pce_protocol.specs.declared.request.Routes.TheVariants.{Keep}
use Rattle.pce_protocol.specs.declared.request.Load.{Load}
use Rattle.pce_protocol.specs.declared.request.Without.{Without}
use Rattle.pce_protocol.specs.declared.request.Compile.{Compile}
use Rattle.pce_protocol.specs.declared.request.Judge.{Judge}
use Rattle.pce_protocol.specs.declared.request.Trace.{Trace}
use Rattle.pce_protocol.specs.declared.request.Request.{Request}
use Rattle.pce_protocol.specs.declared.request.Request.TheVariants as requests
use Rattle.pce_protocol.specs.declared.request.RequestFault.{RequestFault}
use Rattle.pce_protocol.specs.declared.request.RequestFault.TheVariants.{BadJson, BadField, UnknownField}
use Rattle.pce_protocol.specs.Fields.{field_name, first_unknown}
use Rattle.pce_protocol.specs.Ids.{id_of}
use Rattle.pce_protocol.specs.Kinds.{given, name_of, addr_of, verb_of, routes_of, list_of, choices_of, packet_of}

-- what follows for a value; a fault stays the first
abbrev pub ◌>>=◌ : {X Y : Type 0} → Result X RequestFault → (X → Result Y RequestFault) → Result Y RequestFault
◌>>=◌ (Ok x) next = next x
◌>>=◌ (Err fault) next = Err fault

abbrev pub or_fault : {X : Type 0} → RequestFault → Option X → Result X RequestFault
or_fault fault None = Err fault
or_fault fault (Some x) = Ok x

-- ---- what a field gives

-- a field that has to be there
abbrev pub needed : {X : Type 0} → (Data → Option X) → Data → Field → Result X RequestFault
needed kind d field = or_fault (BadField field) (option_and_then kind (get (field_name field) d))

abbrev pub or_default : {X : Type 0} → (Data → Option X) → X → Field → Option Data → Result X RequestFault
or_default kind default field None = Ok default
or_default kind default field (Some d) = or_fault (BadField field) (kind d)

-- a field that may be absent, with its default
abbrev pub optional : {X : Type 0} → (Data → Option X) → X → Data → Field → Result X RequestFault
optional kind default d field = or_default kind default field (get (field_name field) d)

-- a text that may be absent
abbrev pub given_text : Data → Field → Result (Option (List ℕ)) RequestFault
given_text d field = optional (given as_str) None d field

abbrev pub if_known : {X : Type 0} → X → Option (List ℕ) → Result X RequestFault
if_known x None = Ok x
if_known x (Some name) = Err (UnknownField name)

-- no other fields than these, `id` and `do`
abbrev pub only : List Field → Data → Result Data RequestFault
only known d = if_known d (option_and_then (first_unknown (fields.Id ∷ fields.Do ∷ known)) (as_object d))

-- ---- what each request has

-- one of two fields has to be there: a text, or a path
abbrev pub source_of : Option (List ℕ) → Option (List ℕ) → Result TextSource RequestFault
source_of None None = Err (BadField fields.Network)
source_of (Some text) None = Ok (Here text)
source_of None (Some path) = Ok (File path)
source_of (Some text) (Some path) = Err (BadField fields.File)

-- one of two fields may be there
abbrev pub plan_source_of : Option (List ℕ) → Option (List ℕ) → Result (Option TextSource) RequestFault
plan_source_of None None = Ok None
plan_source_of (Some text) None = Ok (Some (Here text))
plan_source_of None (Some path) = Ok (Some (File path))
plan_source_of (Some text) (Some path) = Err (BadField fields.PlanFile)

abbrev pub version_of : Data → Result Request RequestFault
version_of d = do
  known ← only [] d
  Ok requests.Version

abbrev pub load_of : Data → Result Request RequestFault
load_of d = do
  known ← only (fields.As ∷ fields.Network ∷ fields.File ∷ fields.Plan ∷ fields.PlanFile ∷ []) d
  name ← needed name_of known fields.As
  network ← given_text known fields.Network
  file ← given_text known fields.File
  plan ← given_text known fields.Plan
  plan_file ← given_text known fields.PlanFile
  source ← source_of network file
  plan_source ← plan_source_of plan plan_file
  Ok (requests.Load (record { name = name; network = source; plan = plan_source }))

abbrev pub without_of : Data → Result Request RequestFault
without_of d = do
  known ← only (fields.From ∷ fields.As ∷ fields.Links ∷ fields.Nodes ∷ fields.Routes ∷ []) d
  from ← needed name_of known fields.From
  name ← needed name_of known fields.As
  links ← needed (list_of name_of) known fields.Links
  nodes ← needed (list_of name_of) known fields.Nodes
  routes ← optional routes_of Keep known fields.Routes
  Ok (requests.Without (record { from = from; name = name; links = links; nodes = nodes; routes = routes }))

abbrev pub drop_of : Data → Result Request RequestFault
drop_of d = do
  known ← only (fields.As ∷ []) d
  name ← needed name_of known fields.As
  Ok (requests.Drop name)

abbrev pub compile_of : Data → Result Request RequestFault
compile_of d = do
  known ← only (fields.In ∷ fields.Intent ∷ fields.Certificate ∷ []) d
  network ← needed name_of known fields.In
  intent ← needed as_str known fields.Intent
  certificate ← optional as_bool false known fields.Certificate
  Ok (requests.Compile (record { network = network; intent = intent; certificate = certificate }))

abbrev pub judge_of : Data → Result Request RequestFault
judge_of d = do
  known ← only (fields.In ∷ fields.Intent ∷ fields.List ∷ []) d
  network ← needed name_of known fields.In
  intent ← needed as_str known fields.Intent
  list ← needed (list_of addr_of) known fields.List
  Ok (requests.Judge (record { network = network; intent = intent; list = list }))

abbrev pub trace_of : Data → Result Request RequestFault
trace_of d = do
  known ← only (fields.In ∷ fields.Node ∷ fields.Packet ∷ fields.Choices ∷ []) d
  network ← needed name_of known fields.In
  node ← needed name_of known fields.Node
  packet ← needed packet_of known fields.Packet
  choices ← optional choices_of (0 ∷ []) known fields.Choices
  Ok (requests.Trace (record { network = network; node = node; packet = packet; choices = choices }))

-- ---- what a line asks for

abbrev pub asked_by : Verb → Data → Result Request RequestFault
asked_by verbs.Version d = version_of d
asked_by verbs.Load d = load_of d
asked_by verbs.Without d = without_of d
asked_by verbs.Drop d = drop_of d
asked_by verbs.Compile d = compile_of d
asked_by verbs.Judge d = judge_of d
asked_by verbs.Trace d = trace_of d

-- what an object asks for, beside its id
abbrev pub asked : Data → Result Request RequestFault
asked d = do
  verb ← needed verb_of d fields.Do
  asked_by verb d

-- its id; absent it is null
abbrev pub id_of_object : Data → Result Id RequestFault
id_of_object d = optional id_of ids.Null d fields.Id

-- the JSON that a line is; none where it isn't UTF-8, isn't JSON, or nests deeper than 127
abbrev pub parsed : List ℕ → Option Data
parsed line = if is_utf8 line then read line else None

abbrev pub object_if : Data → Option Data
object_if d = if is_some (as_object d) then Some d else None

-- the object that a line is
abbrev pub object_of : List ℕ → Option Data
object_of line = option_and_then object_if (parsed line)

-- what a line asks for, or its first fault
abbrev pub request_of : List ℕ → Result Request RequestFault
request_of line = do
  d ← or_fault BadJson (object_of line)
  id ← id_of_object d
  asked d

-- the id by which its reply goes; null where it has none that may be one
abbrev pub or_null : Result Id RequestFault → Id
or_null (Ok id) = id
or_null (Err fault) = ids.Null

abbrev pub reply_id_of : List ℕ → Id
reply_id_of line = or_null (◌>>=◌ (or_fault BadJson (object_of line)) id_of_object)
