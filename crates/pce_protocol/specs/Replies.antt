-- The replies, as JSON values. Members stand in ascending order of their names.
use Rattle.std.specs.Prelude.{ℕ, Bool, true, false, List, map, codes, Option, None, Some, Result, Ok, Err}
use Rattle.serde_json.specs.Data.{Data, null, boolean, number, string, array, object, unsigned, Members, no_members, member, put}
use Rattle.serde_json.specs.View.{items_of}
use Rattle.serde_json.specs.Written.{compact_text}
use Rattle.v6_addr.specs.Text.{address_text, prefix_text}
use Rattle.v6_addr.specs.declared.address.Addr.{Addr}
use Rattle.pce_protocol.specs.declared.id.Id.{Id}
use Rattle.pce_protocol.specs.declared.request.RequestFault.{RequestFault}
use Rattle.pce_protocol.specs.declared.request.RequestFault.TheVariants as faults
use Rattle.pce_protocol.specs.declared.reply.Held.{Held}
use Rattle.pce_protocol.specs.declared.reply.PathSid.{PathSid}
use Rattle.pce_protocol.specs.declared.reply.ListReply.{ListReply}
use Rattle.pce_protocol.specs.declared.reply.Compiled.{Compiled}
use Rattle.pce_protocol.specs.declared.reply.Compiled.TheVariants as compiled
use Rattle.pce_protocol.specs.declared.reply.RealizedReply.{RealizedReply}
use Rattle.pce_protocol.specs.declared.reply.Cause.{Cause}
use Rattle.pce_protocol.specs.declared.reply.Cause.TheVariants as causes
use Rattle.pce_protocol.specs.declared.reply.Judged.{Judged}
use Rattle.pce_protocol.specs.declared.reply.Judged.TheVariants as judged
use Rattle.pce_protocol.specs.declared.reply.Answer.{Answer}
use Rattle.pce_protocol.specs.declared.reply.Answer.TheVariants as answers
use Rattle.pce_protocol.specs.declared.reply.ReplyError.{ReplyError}
use Rattle.pce_protocol.specs.declared.reply.ReplyError.TheVariants as errors
use Rattle.pce_protocol.specs.Fields.{field_name}
use Rattle.pce_protocol.specs.Ids.{id_data}

abbrev pub count : ℕ → Data
count n = number (unsigned n)

abbrev pub list_data : {X : Type 0} → (X → Data) → List X → Data
list_data shown xs = array (items_of (map shown xs))

-- ---- what a request gives

-- {"program":"srv6-pce","protocol":1}
abbrev pub version_data : Data
version_data = object (member (codes "program") (string (codes "srv6-pce")) (member (codes "protocol") (count 1) no_members))

-- why a network isn't flat stands last
abbrev pub why_member : Option (List ℕ) → Members
why_member None = no_members
why_member (Some why) = member (codes "why") (string why) no_members

abbrev pub is_flat : Option (List ℕ) → Bool
is_flat None = true
is_flat (Some why) = false

-- {"flat":FLAT,"links":N,"nodes":N,"routes":N,"sids":N}
abbrev pub held_data : Held → Data
held_data held =
    object (member (codes "flat") (boolean (is_flat held.not_flat)) (member (codes "links") (count held.links)
    (member (codes "nodes") (count held.nodes) (member (codes "routes") (count held.routes)
    (member (codes "sids") (count held.sids) (why_member held.not_flat))))))

abbrev pub segment_data : Addr → Data
segment_data a = string (address_text a.value)

-- {"prefix":PREFIX,"stays":STAYS}
abbrev pub path_sid_data : PathSid → Data
path_sid_data sid = object (member (codes "prefix") (string (prefix_text sid.prefix)) (member (codes "stays") (boolean sid.stays) no_members))

-- {"answer":ANSWER,"containers":N,"header":N,"need":N,"path":[..],"segments":[..],"sids":N}
abbrev pub list_members : List ℕ → ListReply → Members
list_members answer list =
    member (codes "answer") (string answer) (member (codes "containers") (count list.containers)
    (member (codes "header") (count list.header) (member (codes "need") (count list.need)
    (member (codes "path") (list_data path_sid_data list.path) (member (codes "segments") (list_data segment_data list.segments)
    (member (codes "sids") (count list.sids) no_members))))))

abbrev pub compiled_members : Compiled → Members
compiled_members (compiled.List list) = list_members (codes "list") list
compiled_members compiled.NoList = member (codes "answer") (string (codes "NoList")) no_members
compiled_members (compiled.TooLong list) = list_members (codes "TooLong") list
compiled_members (compiled.HopLimit list) = list_members (codes "HopLimit") list

-- with "certificate":TEXT in its place, where it was asked for
abbrev pub certified : Option (List ℕ) → Members → Members
certified None members = members
certified (Some text) members = put (codes "certificate") (string text) members

abbrev pub cause_text : Cause → List ℕ
cause_text causes.Lost = codes "lost"
cause_text causes.Astray = codes "astray"
cause_text causes.Apart = codes "apart"
cause_text causes.Early = codes "early"
cause_text causes.Unexecuted = codes "unexecuted"

-- {"answer":"realizes","containers":N,"least":LEAST,"need":N,"sids":N,"within":WITHIN}
abbrev pub realized_data : RealizedReply → Data
realized_data realized =
    object (member (codes "answer") (string (codes "realizes")) (member (codes "containers") (count realized.containers)
    (member (codes "least") (boolean realized.least) (member (codes "need") (count realized.need)
    (member (codes "sids") (count realized.sids) (member (codes "within") (boolean realized.within) no_members))))))

abbrev pub judged_data : Judged → Data
judged_data (judged.Realizes realized) = realized_data realized
judged_data judged.NotLegal = object (member (codes "answer") (string (codes "not legal")) no_members)
judged_data (judged.No cause sid) =
    object (member (codes "answer") (string (codes "no")) (member (codes "cause") (string (cause_text cause))
    (member (codes "sid") (count sid) no_members)))

abbrev pub answer_data : Answer → Data
answer_data answers.Version = version_data
answer_data (answers.Held held) = held_data held
answer_data answers.Dropped = object no_members
answer_data (answers.Compiled found certificate) = object (certified certificate (compiled_members found))
answer_data (answers.Judged found) = judged_data found
answer_data (answers.Traced text) = object (member (codes "trace") (string text) no_members)

-- ---- why it gives nothing

-- {"name":NAME}
abbrev pub plain_error : List ℕ → Data
plain_error name = object (member (codes "name") (string name) no_members)

-- {"field":FIELD,"name":"BadRequest"}
abbrev pub bad_request : List ℕ → Data
bad_request field = object (member (codes "field") (string field) (member (codes "name") (string (codes "BadRequest")) no_members))

-- {"name":NAME,"why":WHY}
abbrev pub refused : List ℕ → List ℕ → Data
refused name why = object (member (codes "name") (string name) (member (codes "why") (string why) no_members))

abbrev pub fault_data : RequestFault → Data
fault_data faults.BadJson = plain_error (codes "BadJson")
fault_data (faults.BadField field) = bad_request (field_name field)
fault_data (faults.UnknownField name) = bad_request name

abbrev pub error_data : ReplyError → Data
error_data (errors.Request fault) = fault_data fault
error_data (errors.TooBig limit) = object (member (codes "limit") (count limit) (member (codes "name") (string (codes "TooBig")) no_members))
error_data (errors.UnknownName name) =
    object (member (codes "name") (string (codes "UnknownName")) (member (codes "unknown") (string name) no_members))
error_data errors.BadFile = plain_error (codes "BadFile")
error_data (errors.Refused why) = refused (codes "Refused") why
error_data (errors.NotFlat why) = refused (codes "NotFlat") why
error_data errors.NoMemory = plain_error (codes "NoMemory")

-- ---- the reply

-- {"id":ID,"ok":{..}} or {"error":{..},"id":ID}
abbrev pub reply_data : Id → Result Answer ReplyError → Data
reply_data id (Ok answer) = object (member (codes "id") (id_data id) (member (codes "ok") (answer_data answer) no_members))
reply_data id (Err error) = object (member (codes "error") (error_data error) (member (codes "id") (id_data id) no_members))

-- without spaces
abbrev pub reply_text : Id → Result Answer ReplyError → List ℕ
reply_text id reply = compact_text (reply_data id reply)
