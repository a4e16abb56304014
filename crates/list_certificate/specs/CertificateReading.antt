-- What a text of a certificate says. Its lines end with line feeds, 10; 32 is the space, 35 is `#`, 45 is `-`, 64 is `@`.
use Rattle.std.specs.Prelude.{ℕ, ◌+◌, ◌-◌, ◌*◌, ◌^◌, Bool, true, false, ◌==◌, ◌&&◌, ◌||◌, nat_lt, nat_le, if◌then◌else◌, List, [], ◌∷◌, ◌++◌, length, take, drop, find, codes, slice_get, slice_index, position, bytes_eq, Option, Some, None, Result, Ok, Err}
use Rattle.std.specs.Option.{option_and_then}
use Rattle.std.specs.Char.{is_ascii_digit}
use Rattle.std.specs.List.{slice_split}
use Rattle.v6_addr.specs.Address.{PrefixValue}
use Rattle.v6_addr.specs.Text.{prefix_of_text}
use Rattle.srv6_rules.specs.declared.sid.SidEntry.{SidEntry}
use Rattle.net_model.specs.Network.{Network}
use Rattle.net_model.specs.NetworkRules.{same_prefix}
use Rattle.list_pack.specs.declared.types.Cost.{Cost}
use Rattle.list_pack.specs.declared.types.State.{State}
use Rattle.list_pack.specs.declared.types.PathStep.{PathStep}
use Rattle.list_pack.specs.declared.types.Potential.{Potential}
use Rattle.list_pack.specs.ListOrder.{lex_before}
use Rattle.list_pack.specs.LegsValue.{LegsValue}
use Rattle.list_pack.specs.Rooms.{top_room}
use Rattle.list_pack.specs.Least.{state_key}
use Rattle.list_certificate.specs.declared.certificate_types.PotentialLine.{PotentialLine}
use Rattle.list_certificate.specs.declared.certificate_types.PathLine.{PathLine}
use Rattle.list_certificate.specs.declared.certificate_types.Cert.{Cert}
use Rattle.list_certificate.specs.declared.item.Item.{Item}
use Rattle.list_certificate.specs.declared.item.Item.TheVariants as items
use Rattle.list_certificate.specs.declared.draft.Progress.{Progress}
use Rattle.list_certificate.specs.declared.draft.Progress.TheVariants as stages
use Rattle.list_certificate.specs.declared.certificate_types.Form.{Form}
use Rattle.list_certificate.specs.declared.certificate_types.Form.TheVariants.{First, Second}
use Rattle.list_certificate.specs.Spelling.{form_of, is_shared, name_by, head_words}

infixl 10 ◌>>=◌
abbrev pub ◌>>=◌ : {A B : Type 0} → Option A → (A → Option B) → Option B
o >>= f = option_and_then f o

-- what stands before the first mark and after it; none where there is no mark
pub record Cut : Type 0 where
  pub front : List ℕ
  pub rest : List ℕ

abbrev pub cut_by : List ℕ → Option ℕ → Option Cut
cut_by text None = None
cut_by text (Some i) = Some (record { front = take i text; rest = drop (i + 1) text })

unfoldable pub cut_at : ℕ → List ℕ → Option Cut
cut_at mark text = cut_by text (position (λ b. b == mark) text)

-- a number of 32 bits in decimal digits without leading zeros
abbrev pub digit_after : ℕ → ℕ → Option ℕ
digit_after n b = if is_ascii_digit b && nat_lt (10 * n + (b - 48)) (2 ^ 32) then Some (10 * n + (b - 48)) else None

abbrev pub digits_from : ℕ → List ℕ → Option ℕ
digits_from n [] = Some n
digits_from n (b ∷ bs) = option_and_then (λ m. digits_from m bs) (digit_after n b)

unfoldable pub number_in : List ℕ → Option ℕ
number_in word =
    if (length word == 0) || (nat_lt 1 (length word) && (slice_index word 0 == 48)) then None else digits_from 0 word

-- a cost: its containers, in the second form its SIDs, and its hops
unfoldable pub first_cost_in : List ℕ → Option Cost
first_cost_in text = do
  a ← cut_at 32 text
  containers ← number_in a.front
  hops ← number_in a.rest
  Some (record { containers = containers; sids = 0; hops = hops })

unfoldable pub second_cost_in : List ℕ → Option Cost
second_cost_in text = do
  a ← cut_at 32 text
  b ← cut_at 32 a.rest
  containers ← number_in a.front
  sids ← number_in b.front
  hops ← number_in b.rest
  Some (record { containers = containers; sids = sids; hops = hops })

abbrev pub cost_in : Form → List ℕ → Option Cost
cost_in First text = first_cost_in text
cost_in Second text = second_cost_in text

-- words of a line: a position, a SID, a room and a cost
pub record RowValue : Type 0 where
  pub position : ℕ
  pub sid : List ℕ
  pub room : ℕ
  pub cost : Cost

unfoldable pub row_in : Form → List ℕ → Option RowValue
row_in form text = do
  a ← cut_at 32 text
  b ← cut_at 32 a.rest
  c ← cut_at 32 b.rest
  position ← number_in a.front
  room ← number_in c.front
  cost ← cost_in form c.rest
  Some (record { position = position; sid = b.front; room = room; cost = cost })

-- a SID of a position by its prefix, and by its node's name after `@` exactly where another SID of the network has the prefix
abbrev pub node_of : Network → Option SidEntry → List ℕ
node_of net None = []
node_of net (Some s) = name_by (slice_get net.nodes s.node)

abbrev pub has_name : Network → List ℕ → ℕ → Bool
has_name net name n = bytes_eq (node_of net (slice_get net.sids n)) name

abbrev pub is_unnamed : LegsValue → PrefixValue → ℕ → Bool
is_unnamed v prefix n = same_prefix (v.shape n).prefix prefix && (v.shape n).middle

abbrev pub is_named : Network → LegsValue → PrefixValue → List ℕ → ℕ → Bool
is_named net v prefix name n = is_unnamed v prefix n && has_name net name n

abbrev pub sid_by : Network → LegsValue → ℕ → List ℕ → Option Cut → Option ℕ
sid_by net v position text None = do
  prefix ← prefix_of_text text
  if is_shared net prefix then None else find (is_unnamed v prefix) (v.sids_at position)
sid_by net v position text (Some parts) = do
  prefix ← prefix_of_text parts.front
  if is_shared net prefix then find (is_named net v prefix parts.rest) (v.sids_at position) else None

unfoldable pub sid_in : Network → LegsValue → ℕ → List ℕ → Option ℕ
sid_in net v position text = sid_by net v position text (cut_at 64 text)

-- a state: the start as `0 - 0`, or a SID of a position with a room that there may be after it
abbrev pub start_in : ℕ → ℕ → Option State
start_in position room =
    if (position == 0) && (room == 0) then Some (record { position = 0; via = None; room = 0 }) else None

abbrev pub placed_in : LegsValue → ℕ → ℕ → ℕ → Option State
placed_in v position room n =
    if nat_le room (top_room (v.shape n)) then Some (record { position = position; via = Some n; room = room }) else None

abbrev pub placed_state : Network → LegsValue → RowValue → Option State
placed_state net v row =
    if nat_lt v.steps row.position then None
    else option_and_then (placed_in v row.position row.room) (sid_in net v row.position row.sid)

unfoldable pub state_in : Network → LegsValue → RowValue → Option State
state_in net v row =
    if bytes_eq row.sid (codes "-") then start_in row.position row.room else placed_state net v row

unfoldable pub potential_in : Network → LegsValue → List ℕ → Option Potential
potential_in net v text = do
  row ← row_in (form_of v.sid_cost) text
  state ← state_in net v row
  Some (record { state = state; cost = row.cost })

abbrev pub step_by : List ℕ → PrefixValue → Option PathStep
step_by word prefix =
    if bytes_eq word (codes "stay") then Some (record { stays = true; prefix = prefix })
    else if bytes_eq word (codes "new") then Some (record { stays = false; prefix = prefix })
    else None

unfoldable pub step_in : List ℕ → Option PathStep
step_in text = do
  parts ← cut_at 32 text
  prefix ← prefix_of_text parts.rest
  step_by parts.front prefix

-- what a line is, in a certificate of the form that the legs ask for
abbrev pub listed_item : Option Potential → Item
listed_item None = items.Other
listed_item (Some q) = items.Listed q

abbrev pub step_item : Option PathStep → Item
step_item None = items.Other
step_item (Some p) = items.Step p

abbrev pub item_by : Network → LegsValue → Option Cut → Item
item_by net v None = items.Other
item_by net v (Some parts) =
    if bytes_eq parts.front (codes "potential") then listed_item (potential_in net v parts.rest)
    else if bytes_eq parts.front (codes "path") then step_item (step_in parts.rest)
    else items.Other

unfoldable pub item_in : Network → LegsValue → List ℕ → Item
item_in net v line =
    if slice_index line 0 == 35 then items.Comment
    else if bytes_eq line (head_words (form_of v.sid_cost)) then items.Head
    else if bytes_eq line (codes "none") then items.NoPath
    else if bytes_eq line (codes "end") then items.End
    else item_by net v (cut_at 32 line)

-- what was read so far: the next line may be one before the head, a potential, a step, or the end, or nothing may follow
pub record Read : Type 0 where
  pub stage : Progress
  pub head : ℕ
  pub potentials : List PotentialLine
  pub path : List PathLine
  pub none : Option ℕ
  pub end : ℕ

abbrev pub nothing_read : Read
nothing_read = record { stage = stages.BeforeHead; head = 0; potentials = []; path = []; none = None; end = 0 }

-- potentials stand in the order of their states
abbrev pub is_behind : LegsValue → Option PotentialLine → State → Bool
is_behind v None s = true
is_behind v (Some l) s = lex_before (state_key v l.potential.state) (state_key v s)

abbrev pub is_next : LegsValue → List PotentialLine → State → Bool
is_next v lines s = is_behind v (slice_get lines (length lines - 1)) s

abbrev pub with_potential : Read → ℕ → Potential → Read
with_potential r line q = record r { potentials = r.potentials ++ record { potential = q; line = line } ∷ [] }

abbrev pub with_step : Read → ℕ → PathStep → Read
with_step r line p = record r { stage = stages.InPath; path = r.path ++ record { step = p; line = line } ∷ [] }

-- a line more, none where it may not stand there
abbrev pub after_head : LegsValue → Read → ℕ → Item → Option Read
after_head v r line (items.Listed q) =
    if is_next v r.potentials q.state then Some (with_potential r line q) else None
after_head v r line (items.Step p) = Some (with_step r line p)
after_head v r line items.NoPath = Some (record r { stage = stages.BeforeEnd; none = Some line })
after_head v r line items.Comment = None
after_head v r line items.Head = None
after_head v r line items.End = None
after_head v r line items.Other = None

abbrev pub in_path : Read → ℕ → Item → Option Read
in_path r line (items.Step p) = Some (with_step r line p)
in_path r line items.End = Some (record r { stage = stages.AtEnd; end = line })
in_path r line (items.Listed q) = None
in_path r line items.NoPath = None
in_path r line items.Comment = None
in_path r line items.Head = None
in_path r line items.Other = None

abbrev pub before_end : Read → ℕ → Item → Option Read
before_end r line items.End = Some (record r { stage = stages.AtEnd; end = line })
before_end r line (items.Step p) = None
before_end r line (items.Listed q) = None
before_end r line items.NoPath = None
before_end r line items.Comment = None
before_end r line items.Head = None
before_end r line items.Other = None

abbrev pub before_head : Read → ℕ → Item → Option Read
before_head r line items.Comment = Some r
before_head r line items.Head = Some (record r { stage = stages.AfterHead; head = line })
before_head r line items.End = None
before_head r line (items.Step p) = None
before_head r line (items.Listed q) = None
before_head r line items.NoPath = None
before_head r line items.Other = None

abbrev pub with_line_at : LegsValue → Progress → Read → ℕ → Item → Option Read
with_line_at v stages.BeforeHead r line item = before_head r line item
with_line_at v stages.AfterHead r line item = after_head v r line item
with_line_at v stages.InPath r line item = in_path r line item
with_line_at v stages.BeforeEnd r line item = before_end r line item
with_line_at v stages.AtEnd r line item = None

unfoldable pub with_line : LegsValue → Read → ℕ → Item → Option Read
with_line v r line item = with_line_at v r.stage r line item

-- the certificate that the lines from a number on complete, or the first line that is outside the grammar, or names no state; where the
-- text ends too early that is the line after the last one, and a last line without a line feed is itself outside the grammar
abbrev pub cert_of : Read → Cert
cert_of r = record { head = r.head; potentials = r.potentials; path = r.path; none = r.none; end = r.end }

abbrev pub ended_by : Progress → Read → ℕ → List ℕ → Result Cert ℕ
ended_by stages.AtEnd r line [] = Ok (cert_of r)
ended_by stages.AtEnd r line (b ∷ bs) = Err line
ended_by stages.BeforeHead r line last = Err line
ended_by stages.AfterHead r line last = Err line
ended_by stages.InPath r line last = Err line
ended_by stages.BeforeEnd r line last = Err line

abbrev pub ended : Read → ℕ → List ℕ → Result Cert ℕ
ended r line last = ended_by r.stage r line last

abbrev pub go_on : Option Read → ℕ → (Read → Result Cert ℕ) → Result Cert ℕ
go_on None line rest = Err line
go_on (Some r) line rest = rest r

abbrev pub reads : Network → LegsValue → List (List ℕ) → ℕ → Read → Result Cert ℕ
reads net v [] line r = Err line
reads net v (last ∷ []) line r = ended r line last
reads net v (bytes ∷ more ∷ parts) line r =
    go_on (with_line v r line (item_in net v bytes)) line (reads net v (more ∷ parts) (line + 1))

-- the certificate that a text spells, or the line that is wrong
unfoldable pub read_of : Network → LegsValue → List ℕ → Result Cert ℕ
read_of net v text = reads net v (slice_split (λ b. b == 10) text) 1 nothing_read
