-- No reply has a float, so its text is known to the byte.
use Rattle.std.proofs.Common.{◌≡◌, ℕ, ℤ, pos, negsuc, codes, Bool, true, false, ◌||◌, List, [], ◌∷◌, map, Option, None, Some, Result, Ok, Err, Ordering, Less, Equal, Greater, nat_cmp, refl}
use Rattle.std.specs.Cmp.Lexicographic.{slice_cmp}
use Rattle.std.specs.Ordering.{match_ordering}
use Rattle.serde_json.specs.Data.{Data, Members, no_members, member, put, string, object}
use Rattle.serde_json.specs.View.{items_of}
use Rattle.serde_json.specs.Written.{has_float, items_have_float, members_have_float}
use Rattle.v6_addr.specs.declared.address.Addr.{Addr}
use Rattle.pce_protocol.specs.declared.id.Id.{Id}
use Rattle.pce_protocol.specs.declared.id.Id.TheVariants as ids
use Rattle.pce_protocol.specs.declared.request.RequestFault.{RequestFault}
use Rattle.pce_protocol.specs.declared.request.RequestFault.TheVariants as faults
use Rattle.pce_protocol.specs.declared.reply.PathSid.{PathSid}
use Rattle.pce_protocol.specs.declared.reply.ListReply.{ListReply}
use Rattle.pce_protocol.specs.declared.reply.Compiled.{Compiled}
use Rattle.pce_protocol.specs.declared.reply.Compiled.TheVariants as compiled
use Rattle.pce_protocol.specs.declared.reply.Judged.{Judged}
use Rattle.pce_protocol.specs.declared.reply.Judged.TheVariants as judged
use Rattle.pce_protocol.specs.declared.reply.Answer.{Answer}
use Rattle.pce_protocol.specs.declared.reply.Answer.TheVariants as answers
use Rattle.pce_protocol.specs.declared.reply.ReplyError.{ReplyError}
use Rattle.pce_protocol.specs.declared.reply.ReplyError.TheVariants as errors
use Rattle.pce_protocol.specs.Ids.{id_data}
use Rattle.pce_protocol.specs.Replies.{segment_data, path_sid_data, list_members, compiled_members, certified, why_member, judged_data, answer_data, fault_data, error_data, reply_data}

pub id_no_float : (id : Id) → has_float (id_data id) ≡ false
id_no_float ids.Null = refl
id_no_float (ids.Bool b) = refl
id_no_float (ids.Unsigned n) = refl
id_no_float (ids.Signed (pos n)) = refl
id_no_float (ids.Signed (negsuc n)) = refl
id_no_float (ids.Text s) = refl

-- ---- either of two

or_false : (a b : Bool) → a ≡ false → b ≡ false → (a || b) ≡ false
or_false true b a_false b_false = a_false
or_false false b a_false b_false = b_false

or_left : (a b : Bool) → (a || b) ≡ false → a ≡ false
or_left true b neither = neither
or_left false b neither = refl

or_right : (a b : Bool) → (a || b) ≡ false → b ≡ false
or_right true b neither = cc
or_right false b neither = neither

-- ---- lists and members

items_no_float : {X : Type 0} (shown : X → Data) → ((x : X) → has_float (shown x) ≡ false) → (xs : List X)
    → items_have_float (items_of (map shown xs)) ≡ false
items_no_float shown none [] = refl
items_no_float shown none (x ∷ xs) = or_false _ _ (none x) (items_no_float shown none xs)

put_by : (o : Ordering) (k : List ℕ) (d : Data) (l : List ℕ) (e : Data) (ms more : Members) → has_float d ≡ false
    → has_float e ≡ false → members_have_float ms ≡ false → members_have_float more ≡ false
    → members_have_float (match_ordering o (member k d (member l e ms)) (member l d ms) (member l e more)) ≡ false
put_by Less k d l e ms more d_none e_none ms_none more_none = or_false _ _ d_none (or_false _ _ e_none ms_none)
put_by Equal k d l e ms more d_none e_none ms_none more_none = or_false _ _ d_none ms_none
put_by Greater k d l e ms more d_none e_none ms_none more_none = or_false _ _ e_none more_none

put_no_float : (k : List ℕ) (d : Data) (ms : Members) → has_float d ≡ false → members_have_float ms ≡ false
    → members_have_float (put k d ms) ≡ false
put_no_float k d no_members d_none ms_none = or_false _ _ d_none refl
put_no_float k d (member l e ms) d_none ms_none =
    let e_none = or_left (has_float e) (members_have_float ms) ms_none in
    let rest_none = or_right (has_float e) (members_have_float ms) ms_none in
    put_by (slice_cmp nat_cmp k l) k d l e ms (put k d ms) d_none e_none rest_none (put_no_float k d ms d_none rest_none)

-- ---- replies

segment_no_float : (a : Addr) → has_float (segment_data a) ≡ false
segment_no_float a = refl

path_sid_no_float : (sid : PathSid) → has_float (path_sid_data sid) ≡ false
path_sid_no_float sid = refl

list_no_float : (answer : List ℕ) (list : ListReply) → members_have_float (list_members answer list) ≡ false
list_no_float answer list =
    or_false _ _ (items_no_float path_sid_data path_sid_no_float list.path)
    (or_false _ _ (items_no_float segment_data segment_no_float list.segments) refl)

compiled_no_float : (found : Compiled) → members_have_float (compiled_members found) ≡ false
compiled_no_float (compiled.List list) = list_no_float (codes "list") list
compiled_no_float compiled.NoList = refl
compiled_no_float (compiled.TooLong list) = list_no_float (codes "TooLong") list
compiled_no_float (compiled.HopLimit list) = list_no_float (codes "HopLimit") list

certified_no_float : (certificate : Option (List ℕ)) (ms : Members) → members_have_float ms ≡ false
    → members_have_float (certified certificate ms) ≡ false
certified_no_float None ms none = none
certified_no_float (Some text) ms none = put_no_float (codes "certificate") (string text) ms refl none

why_no_float : (why : Option (List ℕ)) → members_have_float (why_member why) ≡ false
why_no_float None = refl
why_no_float (Some why) = refl

judged_no_float : (found : Judged) → has_float (judged_data found) ≡ false
judged_no_float (judged.Realizes realized) = refl
judged_no_float judged.NotLegal = refl
judged_no_float (judged.No cause sid) = refl

answer_no_float : (answer : Answer) → has_float (answer_data answer) ≡ false
answer_no_float answers.Version = refl
answer_no_float (answers.Held held) = why_no_float held.not_flat
answer_no_float answers.Dropped = refl
answer_no_float (answers.Compiled found certificate) = certified_no_float certificate (compiled_members found) (compiled_no_float found)
answer_no_float (answers.Judged found) = judged_no_float found
answer_no_float (answers.Traced text) = refl

fault_no_float : (fault : RequestFault) → has_float (fault_data fault) ≡ false
fault_no_float faults.BadJson = refl
fault_no_float (faults.BadField field) = refl
fault_no_float (faults.UnknownField name) = refl

error_no_float : (error : ReplyError) → has_float (error_data error) ≡ false
error_no_float (errors.Request fault) = fault_no_float fault
error_no_float (errors.TooBig limit) = refl
error_no_float (errors.UnknownName name) = refl
error_no_float errors.BadFile = refl
error_no_float (errors.Refused why) = refl
error_no_float (errors.NotFlat why) = refl
error_no_float errors.NoMemory = refl

pub reply_no_float : (id : Id) (reply : Result Answer ReplyError) → has_float (reply_data id reply) ≡ false
reply_no_float id (Ok answer) = or_false _ _ (id_no_float id) (or_false _ _ (answer_no_float answer) refl)
reply_no_float id (Err error) = or_false _ _ (error_no_float error) (or_false _ _ (id_no_float id) refl)
