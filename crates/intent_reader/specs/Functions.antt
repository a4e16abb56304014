-- Functions, the SIDs with a title, by their titles' texts.
use Rattle.std.specs.Prelude.{ℕ, Bool, false, List, slice_get, Option, Some, None, bytes_eq, position}
use Rattle.srv6_rules.specs.declared.sid.SidEntry.{SidEntry}
use Rattle.net_model.specs.Network.{Network}

-- the text of the title with a number
abbrev pub title_text : List (List ℕ) → Option ℕ → Option (List ℕ)
title_text titles None = None
title_text titles (Some title) = slice_get titles title

abbrev pub is_text : List ℕ → Option (List ℕ) → Bool
is_text text None = false
is_text text (Some title) = bytes_eq title text

-- the SID has the title that the text writes
abbrev pub has_title : List (List ℕ) → List ℕ → SidEntry → Bool
has_title titles text s = is_text text (title_text titles s.title)

-- the number of the first SID with the title
abbrev pub function_numbered : List ℕ → Network → Option ℕ
function_numbered text net = position (has_title net.titles text) net.sids
