-- What becomes of a talk in which an engine answers each line before the program asks for more.
use Rattle.std.specs.Prelude.{◌≡◌, ℕ, ◌-◌, ◌^◌, ◌≤◌, true, false, List, [], ◌++◌, length, take, ◌⊎◌, if◌then◌else◌}
use Rattle.std.specs.List.{AllByRecursion}
use Rattle.line_talk.specs.Lines.{whole_lines, lines}
use Rattle.line_talk.specs.Replies.{Rules, AllReply, text_of}
use Rattle.line_talk.specs.Talk.{Ask, Talk}
use Rattle.line_talk.specs.declared.serve.Status.{Status}
use Rattle.line_talk.specs.declared.serve.Status.TheVariants.{Done, ReadFailed, WriteFailed, NoMemory, Endless}

-- the lines that were heard: once the input ended the last one too
abbrev pub heard_lines : Talk → List (List ℕ)
heard_lines talk = if talk.ended then lines talk.heard else whole_lines talk.heard

-- when the read came, the lines that had been heard whole were answered by the first of these replies, one for each, and
-- nothing else was said
abbrev pub IsPrompt : List (List ℕ) → Ask → Type 0
IsPrompt replies ask =
    let count = length (whole_lines ask.heard) in
    (count ≤ length replies) × (ask.said ≡ text_of (take count replies))

-- by the status: which lines have no reply, which bytes of the replies weren't said, and the state that is left of the one
-- behind the replies
abbrev pub EndedBy : {State : Type 0} → Rules State → Status → Talk → List (List ℕ) → List ℕ → State → State → Type 0
EndedBy rules Done talk unanswered unsaid behind left =
    (talk.ended ≡ true) × (talk.read_failed ≡ false) × (talk.write_failed ≡ false)
    × (unanswered ≡ []) × (unsaid ≡ []) × (left ≡ behind)
EndedBy rules ReadFailed talk unanswered unsaid behind left =
    (talk.ended ≡ false) × (talk.read_failed ≡ true) × (talk.write_failed ≡ false)
    × (unanswered ≡ []) × (unsaid ≡ []) × (left ≡ behind)
EndedBy rules WriteFailed talk unanswered unsaid behind left =
    (talk.read_failed ≡ false) × (talk.write_failed ≡ true) × (left ≡ behind)
EndedBy rules NoMemory talk unanswered unsaid behind left =
    (talk.read_failed ≡ false) × (talk.write_failed ≡ false) × ((left ≡ behind) ⊎ rules.Spares behind left)
EndedBy rules Endless talk unanswered unsaid behind left =
    (2 ^ 64 - 1 ≤ length talk.heard)
    × (talk.ended ≡ false) × (talk.read_failed ≡ false) × (talk.write_failed ≡ false)
    × (unanswered ≡ []) × (unsaid ≡ []) × (left ≡ behind)

-- the first of the lines that were heard have replies, threaded from this state on, and of their text the first bytes were
-- said; each read came once all before it was answered
pub record Talked {State : Type 0} (rules : Rules State) (first : State) (status : Status) (talk : Talk) (left : State) : Type 0 where
  pub answered : List (List ℕ)
  pub unanswered : List (List ℕ)
  pub heard : answered ++ unanswered ≡ heard_lines talk
  pub replies : List (List ℕ)
  pub behind : State
  pub threaded : AllReply rules first answered replies behind
  pub unsaid : List ℕ
  pub said : talk.said ++ unsaid ≡ text_of replies
  pub prompt : AllByRecursion (IsPrompt replies) talk.asks
  pub ended : EndedBy rules status talk unanswered unsaid behind left

-- the exit status of a program whose talk ended so
abbrev pub exit_number : Status → ℕ
exit_number Done = 0
exit_number ReadFailed = 5
exit_number WriteFailed = 5
exit_number NoMemory = 6
exit_number Endless = 5
