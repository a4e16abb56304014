-- Need not be believed: helps proofs and other laws.
-- Containers that are open: what SIDs take in them, and what may follow their last SID (RFC 9800 sections 6.2 to 6.4, and own rules).
use Rattle.std.specs.Prelude.{◌≡◌, ℕ, ◌+◌, ◌≤◌, ◌==◌, Bool, true, false, ◌&&◌, nat_le, List, [], ◌∷◌, map, Option, Some, None}
use Rattle.v6_addr.specs.Address.{PrefixValue}
use Rattle.srv6_rules.specs.declared.sid.Csid.{Csid}
use Rattle.srv6_rules.specs.declared.sid.Csid.TheVariants.{Plain, Next, Replace}
use Rattle.srv6_rules.specs.Compressed.{csid_count}
use Rattle.net_model.specs.NetworkRules.{same_prefix}
use Rattle.sid_list_spec.specs.SegmentLists.{SidBlock, ListSid, Container, csid_len, csid_len_in, asked_behind, asked_behind_packed, Follow}
use Rattle.list_pack.specs.declared.types.Container as packs
use Rattle.list_pack.specs.declared.types.Container.TheVariants.{Full, Packed}
use Rattle.list_pack.specs.PathLists.{asked_after}

-- a container that is open is a REPLACE container of a block, or a full one where there is none: the flavour of its SIDs that have others
-- after them; what a further SID takes, and the first one; and what there is: bits of a full container, CSIDs of a REPLACE container
abbrev pub flavour : Option SidBlock → Csid
flavour None = Next
flavour (Some b) = Replace

abbrev pub taken : Option SidBlock → ListSid → ℕ
taken None t = csid_len t
taken (Some b) t = 1

abbrev pub first_taken : Option SidBlock → ListSid → ℕ
first_taken None s = s.prefix.len
first_taken (Some b) s = 1

abbrev pub limit : Option SidBlock → ℕ
limit None = 128
limit (Some b) = csid_count (csid_len_in (Some b))

-- the block asked for after a SID of an open container where so much is taken
abbrev pub asked_at : Option SidBlock → ℕ → ListSid → Option SidBlock
asked_at None u last = asked_behind last
asked_at (Some b) u last = asked_behind_packed (Some b) u last

-- a SID stays in an open container after another one
pub record StaysIn (k : Option SidBlock) (u : ℕ) (s t : ListSid) : Type 0 where
  pub kind : s.csid ≡ flavour k
  pub block : t.block ≡ s.block
  pub fits : u + taken k t ≤ limit k

-- SIDs may follow in an open container whose last SID so far is known, and containers after them
abbrev pub Open : Option SidBlock → ℕ → ListSid → List ListSid → List Container → Type 0
Open k u s [] cs = Follow (asked_at k u s) cs
Open k u s (t ∷ ts) cs = StaysIn k u s t × Open k (u + taken k t) t ts cs

-- a SID may be the first of a container
abbrev pub Opens : Option SidBlock → ListSid → Type 0
Opens None s = s.prefix.len ≤ 128
Opens (Some b) s = (s.block ≡ Some b) × (1 ≤ limit (Some b))

-- ---- the same as tests

abbrev pub same_csid : Csid → Csid → Bool
same_csid Plain Plain = true
same_csid Plain Next = false
same_csid Plain Replace = false
same_csid Next Plain = false
same_csid Next Next = true
same_csid Next Replace = false
same_csid Replace Plain = false
same_csid Replace Next = false
same_csid Replace Replace = true

abbrev pub same_sid_block : Option SidBlock → Option SidBlock → Bool
same_sid_block None None = true
same_sid_block None (Some b) = false
same_sid_block (Some a) None = false
same_sid_block (Some a) (Some b) = same_prefix a.prefix b.prefix && (same_csid a.kind b.kind && (a.csid_len == b.csid_len))

abbrev pub stays_test : Option SidBlock → ℕ → ListSid → ListSid → Bool
stays_test k u s t = same_csid s.csid (flavour k) && (same_sid_block t.block s.block && nat_le (u + taken k t) (limit k))

abbrev pub open_test : Option SidBlock → ℕ → ListSid → List ListSid → Bool
open_test k u s [] = true
open_test k u s (t ∷ ts) = stays_test k u s t && open_test k (u + taken k t) t ts

abbrev pub opens_test : Option SidBlock → ListSid → Bool
opens_test None s = nat_le s.prefix.len 128
opens_test (Some b) s = same_sid_block s.block (Some b) && nat_le 1 (limit (Some b))

abbrev pub keeps_test : Option SidBlock → ListSid → List ListSid → Bool
keeps_test k s ss = opens_test k s && open_test k (first_taken k s) s ss

-- a container is of the kind that has to come
abbrev pub is_due : Option SidBlock → packs.Container → Bool
is_due None (Full p ps) = true
is_due None (Packed p ps) = false
is_due (Some b) (Full p ps) = false
is_due (Some b) (Packed p ps) = true

abbrev pub first_in : packs.Container → PrefixValue
first_in (Full p ps) = p
first_in (Packed p ps) = p

abbrev pub more_in : packs.Container → List PrefixValue
more_in (Full p ps) = ps
more_in (Packed p ps) = ps

abbrev pub follow_test : (PrefixValue → ListSid) → Option SidBlock → List packs.Container → Bool
follow_test sid_on k [] = true
follow_test sid_on k (c ∷ cs) =
    (is_due k c && keeps_test k (sid_on (first_in c)) (map sid_on (more_in c)))
    && follow_test sid_on (asked_after k (sid_on (first_in c)) (map sid_on (more_in c))) cs
