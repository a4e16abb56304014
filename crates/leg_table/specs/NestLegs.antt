-- SIDs nested in another by the 16 bits after it, along lists: which SIDs may follow one directly in its container, and what is kept of
-- that at the places of a list (RFC 9800 section 4.1; which lists are legal is an own rule).
use Rattle.std.specs.Prelude.{ℕ, ◌+◌, Bool, true, ◌==◌, ◌&&◌, not, slice_get, Option, Some, None}
use Rattle.std.specs.List.{list_any}
use Rattle.srv6_rules.specs.declared.sid.SidEntry.{SidEntry}
use Rattle.net_model.specs.Network.{Network}
use Rattle.net_flatness.specs.Nests.{unit_at}
use Rattle.net_flatness.specs.NestTests.{is_nest}

-- ---- two SIDs

-- with the next SID directly after it in a container, a SID has the 16 bits of one that is nested in it
abbrev pub spells : Network → SidEntry → SidEntry → SidEntry → Bool
spells net s next inner = is_nest net s inner && (unit_at next.prefix s.block_len == unit_at inner.prefix (s.block_len + 16))

-- a SID may come directly after another in its container, as far as the SIDs nested in that one go
abbrev pub stays_by : Network → Option SidEntry → Option SidEntry → Bool
stays_by net None next = true
stays_by net (Some s) None = true
stays_by net (Some s) (Some next) = not (list_any (spells net s next) net.sids)

abbrev pub stays_of : Network → ℕ → ℕ → Bool
stays_of net n next = stays_by net (slice_get net.sids n) (slice_get net.sids next)
