-- Need not be believed: helps proofs and other laws.
-- Steps of a talk, below the loop over the whole of it.
use Rattle.std.specs.Prelude.{◌≡◌, ℕ, ◌<◌, ◌≤◌, ◌==◌, true, false, List, [], ◌++◌, length, take, get_or, Option, None, Some, option_map, Result, Ok, Err, ◌⊎◌}
use Rattle.std.specs.Global.{Vec}
use Rattle.srx_edge.specs.declared.input.Failed.{Failed}
use Rattle.line_talk.specs.Lines.{line_feed, whole_lines_from, last_line_from}
use Rattle.base.specs.declared.no_memory.NoMemory.{NoMemory as NoRoom}
use Rattle.line_talk.specs.Replies.{Rules, RepliesTo, AllReply, text_of}
use Rattle.line_talk.specs.Talk.{Talk, heard_more, heard_none, said_more, said_none}
use Rattle.line_talk.specs.declared.engine.TheConstants.{MAX_LINE}
use Rattle.line_talk.specs.declared.stop.Stop.{Stop}
use Rattle.line_talk.specs.declared.stop.Stop.TheVariants.{WriteFailed, NoMemory}
use Rattle.line_talk.specs.declared.serve.Status.{Status}
use Rattle.line_talk.specs.declared.serve.Status.TheVariants as statuses
use Rattle.line_talk.specs.declared.desk.Turn.{Turn}
use Rattle.line_talk.specs.declared.desk.Turn.TheVariants as turns

-- what is kept of a line: all of it, or nothing once it is too long
abbrev pub Keeps : List ℕ → Option (List ℕ) → Type 0
Keeps line (Some kept) = (kept ≡ line) × (length line ≤ MAX_LINE)
Keeps line None = MAX_LINE < length line

-- the first line feed, or there is none
abbrev pub IsLineEnd : List ℕ → Option ℕ → Type 0
IsLineEnd bytes (Some at) =
    (at < length bytes) × ((get_or bytes at 0 == line_feed) ≡ true) × ((k : ℕ) → k < at → (get_or bytes k 0 == line_feed) ≡ false)
IsLineEnd bytes None = (k : ℕ) → k < length bytes → (get_or bytes k 0 == line_feed) ≡ false

-- all the bytes were said, or the first of them
abbrev pub SaysAll : List ℕ → Result (Unit {0}) Failed → Option Talk → Option Talk → Type 0
SaysAll bytes (Ok unit) old new = new ≡ option_map (said_more bytes) old
SaysAll bytes (Err fault) old new = (count : ℕ) × (new ≡ option_map (λ t. said_none (said_more (take count bytes) t)) old)

-- the talk behind a step that stopped
abbrev pub stopped_by : Stop → Talk → Talk
stopped_by WriteFailed talk = said_none talk
stopped_by NoMemory talk = talk

-- behind what waited come these bytes; the first of all of them were said, and the others wait
abbrev pub SaysOn : List ℕ → Result (Unit {0}) Stop → List ℕ → List ℕ → Option Talk → Option Talk → Type 0
SaysOn bytes (Ok unit) waiting waiting_new old new =
    (out : List ℕ) × (out ++ waiting_new ≡ waiting ++ bytes) × (new ≡ option_map (said_more out) old)
SaysOn bytes (Err stop) waiting waiting_new old new =
    (out : List ℕ) × (unsaid : List ℕ) × (out ++ unsaid ≡ waiting ++ bytes)
    × (new ≡ option_map (λ t. stopped_by stop (said_more out t)) old)

-- how a talk ended that stopped
abbrev pub status_by : Stop → Status
status_by WriteFailed = statuses.WriteFailed
status_by NoMemory = statuses.NoMemory

-- these lines are answered; of what waited to be said and of the replies the first bytes were said, and the others wait
pub record Goes {State : Type 0} (rules : Rules State) (lines : List (List ℕ)) (before behind : State)
    (waiting waiting_new : List ℕ) (old new : Option Talk) : Type 0 where
  pub replies : List (List ℕ)
  pub threaded : AllReply rules before lines replies behind
  pub out : List ℕ
  pub split : out ++ waiting_new ≡ waiting ++ text_of replies
  pub told : new ≡ option_map (said_more out) old

-- the state that a step which stopped leaves of the one behind the replies
abbrev pub LeftBy : {State : Type 0} → Rules State → Stop → State → State → Type 0
LeftBy rules WriteFailed behind left = left ≡ behind
LeftBy rules NoMemory behind left = (left ≡ behind) ⊎ rules.Spares behind left

-- the first of these lines are answered, and the first bytes of what waited and of the replies were said
pub record Stops {State : Type 0} (rules : Rules State) (stop : Stop) (lines : List (List ℕ)) (before left : State)
    (waiting : List ℕ) (old new : Option Talk) : Type 0 where
  pub answered : List (List ℕ)
  pub unanswered : List (List ℕ)
  pub whole : answered ++ unanswered ≡ lines
  pub replies : List (List ℕ)
  pub behind : State
  pub threaded : AllReply rules before answered replies behind
  pub out : List ℕ
  pub unsaid : List ℕ
  pub split : out ++ unsaid ≡ waiting ++ text_of replies
  pub told : new ≡ option_map (λ t. stopped_by stop (said_more out t)) old
  pub leaves : LeftBy rules stop behind left

abbrev pub Steps : {State : Type 0} → Rules State → Result (Unit {0}) Stop → List (List ℕ) → State → State
    → List ℕ → List ℕ → Option Talk → Option Talk → Type 0
Steps rules (Ok unit) lines before behind waiting waiting_new old new = Goes rules lines before behind waiting waiting_new old new
Steps rules (Err stop) lines before behind waiting waiting_new old new = Stops rules stop lines before behind waiting old new

-- the reply to a line as far as it is kept
abbrev pub RepliesOr : {State : Type 0} → Rules State → State → List ℕ → Result (Vec ℕ) NoRoom → State → Type 0
RepliesOr rules before line (Ok reply) behind = RepliesTo rules before line reply.items behind
RepliesOr rules before line (Err fault) behind = (behind ≡ before) ⊎ rules.Spares before behind

-- by how a turn ended, what was heard and said in it; nothing waits before it
abbrev pub Turned : {State : Type 0} → Rules State → Turn → List ℕ → Option (List ℕ) → State → State → List ℕ → Option Talk → Option Talk → Type 0
Turned rules turns.More line kept before behind waiting old new =
    (piece : List ℕ) × (0 < length piece) × Keeps (last_line_from line piece) kept × (waiting ≡ [])
    × Goes rules (whole_lines_from line piece) before behind [] [] (option_map (heard_more piece) old) new
Turned rules turns.End line kept before behind waiting old new =
    Keeps line kept × (waiting ≡ []) × (behind ≡ before) × (new ≡ option_map (heard_more []) old)
Turned rules turns.ReadFailed line kept before behind waiting old new = (behind ≡ before) × (new ≡ option_map heard_none old)
Turned rules (turns.Stopped stop) line kept before behind waiting old new =
    (piece : List ℕ) × (0 < length piece)
    × Stops rules stop (whole_lines_from line piece) before behind [] (option_map (heard_more piece) old) new
