-- Need not be believed: helps proofs and other laws.
-- Terms beside those of `specs/Functions.antt`.
use Rattle.std.specs.Prelude.{◌≡◌, ◌≢◌, ℕ, List, slice_get, Option, Some, None}
use Rattle.srv6_rules.specs.declared.sid.SidEntry.{SidEntry}
use Rattle.net_model.specs.Network.{Network}
use Rattle.intent_reader.specs.Functions.{title_text}

-- the number is that of a SID with the title; with none no SID has it
abbrev pub IsFunctionNumbered : List ℕ → Network → Option ℕ → Type 0
IsFunctionNumbered text net None = (i : ℕ) (s : SidEntry) → slice_get net.sids i ≡ Some s → title_text net.titles s.title ≢ Some text
IsFunctionNumbered text net (Some i) = (s : SidEntry) × (slice_get net.sids i ≡ Some s) × (title_text net.titles s.title ≡ Some text)
