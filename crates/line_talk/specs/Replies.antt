-- Lines that are answered one after another, by replies that depend on a state.
use Rattle.std.specs.Prelude.{◌≡◌, ℕ, ◌<◌, ◌≤◌, List, [], ◌∷◌, ◌++◌, length}
use Rattle.line_talk.specs.Lines.{line_feed}
use Rattle.line_talk.specs.declared.engine.TheConstants.{MAX_LINE}

-- what an engine may do, by its state
pub record Rules (State : Type 0) : Type 1 where
  -- the state before a line of at most MAX_LINE bytes, the line, its reply without a line feed, and the state behind it
  pub Replies : State → List ℕ → List ℕ → State → Type 0
  -- the reply to a longer line, which leaves the state as it was
  pub IsTooBig : List ℕ → Type 0
  -- the state before a line, and that behind it where memory was wanting even for a reply
  pub Spares : State → State → Type 0

-- this reply to a line, of whatever length
abbrev pub RepliesTo : {State : Type 0} → Rules State → State → List ℕ → List ℕ → State → Type 0
RepliesTo rules before line reply behind =
    (length line ≤ MAX_LINE → rules.Replies before line reply behind)
    × (MAX_LINE < length line → rules.IsTooBig reply × (behind ≡ before))

-- these replies to these lines, one for each, in order; each goes by the state behind the one before it
abbrev pub AllReply : {State : Type 0} → Rules State → State → List (List ℕ) → List (List ℕ) → State → Type 0
AllReply rules before [] [] behind = behind ≡ before
AllReply rules before [] (reply ∷ replies) behind = ⊥
AllReply rules before (line ∷ lines) [] behind = ⊥
AllReply {State} rules before (line ∷ lines) (reply ∷ replies) behind =
    (between : State) × RepliesTo rules before line reply between × AllReply rules between lines replies behind

-- replies as they are said, each with a line feed behind it
abbrev pub text_of : List (List ℕ) → List ℕ
text_of [] = []
text_of (reply ∷ replies) = reply ++ line_feed ∷ text_of replies
