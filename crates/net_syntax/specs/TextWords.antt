-- The words of descriptions and intents, by what they stand for.
use Rattle.std.specs.Prelude.{ℕ, ℤ, pos, negsuc, ◌==◌, ◌||◌, if◌then◌else◌, List, [], ◌∷◌, Option, Some, None, bytes_eq, codes}
use Rattle.srv6_rules.specs.declared.sid.Csid.{Csid}
use Rattle.srv6_rules.specs.declared.sid.Csid.TheVariants as csids
use Rattle.net_model.specs.declared.limits.TheConstants.{SHORT_CSID, LONG_CSID}
use Rattle.net_model.specs.declared.parts.BlockKind.{BlockKind}
use Rattle.net_model.specs.declared.parts.BlockKind.TheVariants as blocks
use Rattle.srv6_rules.specs.declared.family.Family.{Family}
use Rattle.srv6_rules.specs.declared.family.Family.TheVariants.{V6, V4}
use Rattle.net_syntax.specs.declared.sid_table.BehaviourWord.{BehaviourWord}
use Rattle.net_syntax.specs.declared.sid_table.BehaviourWord.TheVariants as behaviours
use Rattle.net_syntax.specs.declared.sid_table.Flavour.{Flavour}
use Rattle.net_syntax.specs.declared.sid_table.Flavour.TheVariants as flavours
use Rattle.net_syntax.specs.declared.intent_table.Mode.{Mode}
use Rattle.net_syntax.specs.declared.intent_table.Mode.TheVariants as modes
use Rattle.net_syntax.specs.declared.intent_table.Prefer.{Prefer}
use Rattle.net_syntax.specs.declared.intent_table.Prefer.TheVariants as prefers

-- a word, and what it stands for
abbrev pub Row : Type 0 → Type 0
Row X = List ℕ × X

-- what a word stands for in a list of words; none where it isn't there
abbrev pub among : {X : Type 0} → List (Row X) → List ℕ → Option X
among [] word = None
among (row ∷ rows) word = if bytes_eq word row.0 then Some row.1 else among rows word

-- the kind of a block (RFC 9800 sections 4.1 and 4.2)
unfoldable pub block_kind_of : List ℕ → Option BlockKind
block_kind_of = among ((codes "next", blocks.Next) ∷ (codes "replace", blocks.Replace) ∷ [])

-- how a SID's part of a segment list is compressed (RFC 9800 sections 4.1 and 4.2)
unfoldable pub csid_of : List ℕ → Option Csid
csid_of = among ((codes "plain", csids.Plain) ∷ (codes "next", csids.Next) ∷ (codes "replace", csids.Replace) ∷ [])

-- a behaviour (RFC 8986 section 4)
unfoldable pub behaviour_of : List ℕ → Option BehaviourWord
behaviour_of = among (
    (codes "End", behaviours.End) ∷ (codes "End.X", behaviours.EndX) ∷ (codes "End.T", behaviours.EndT)
    ∷ (codes "End.DX6", behaviours.Dx6) ∷ (codes "End.DX4", behaviours.Dx4) ∷ (codes "End.DT6", behaviours.Dt6)
    ∷ (codes "End.DT4", behaviours.Dt4) ∷ (codes "End.DT46", behaviours.Dt46)
    ∷ (codes "End.B6.Encaps", behaviours.B6) ∷ (codes "End.B6.Encaps.Red", behaviours.B6Red) ∷ [])

-- a flavour (RFC 8986 section 4.16)
unfoldable pub flavour_of : List ℕ → Option Flavour
flavour_of = among ((codes "psp", flavours.Psp) ∷ (codes "usp", flavours.Usp) ∷ (codes "usd", flavours.Usd) ∷ [])

-- the family of an intent's packets
unfoldable pub family_of : List ℕ → Option Family
family_of = among ((codes "ipv6", V6) ∷ (codes "ipv4", V4) ∷ [])

-- the form of a headend's header (RFC 8986 sections 5.1 and 5.2)
unfoldable pub mode_of : List ℕ → Option Mode
mode_of = among ((codes "full", modes.Full) ∷ (codes "reduced", modes.Reduced) ∷ [])

-- which of the shortest lists an intent prefers
unfoldable pub prefer_of : List ℕ → Option Prefer
prefer_of = among ((codes "need", prefers.Need) ∷ (codes "sids", prefers.Sids) ∷ [])

-- the bits of a block's compressed SIDs: 16 or 32
abbrev pub csid_bits_of : ℤ → Option ℕ
csid_bits_of (pos n) = if (n == SHORT_CSID) || (n == LONG_CSID) then Some n else None
csid_bits_of (negsuc n) = None
