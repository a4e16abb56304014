-- Need not be believed: helps proofs and other laws.
-- Terms beside those of `specs/Chain.antt`.
use Rattle.std.specs.Prelude.{◌≡◌, ◌⊎◌, ℕ, ◌+◌, ◌-◌, ◌<◌, ◌≤◌, true, false, List, [], ◌∷◌, ◌++◌, length, take, slice_index, slice_set}
use Rattle.srv6_rules.specs.declared.numbers.TheConstants.{EXTENSION_UNIT, NEXT_HEADER_AT}
use Rattle.srv6_rules.specs.Packet.{Packet, header_len, spelling}
use Rattle.srv6_rules.specs.Chain.{ChainPlace, Header, ChainEnd, Upper, Cut, Chain, is_extension, extension_bytes, is_whole, behind, chain_from, from_place}

-- the chain of a packet from a place on
unfoldable pub chain_at : Packet → ChainPlace → Chain
chain_at p place = chain_from 0 place (from_place p place.at)

-- the place where a chain ends
abbrev pub place_of : ChainEnd → ChainPlace
place_of (Upper place) = place
place_of (Cut place) = place

-- where a chain goes on after a header: at its end, and its first byte names what stands there
abbrev pub place_behind : Header → ChainPlace
place_behind h = record { at = h.place.at + length h.bytes; kind = slice_index h.bytes 0; named_at = h.place.at }

-- headers follow one another from a place up to another: each stands where the chain goes on after the one before it
abbrev pub Follow : ChainPlace → List Header → ChainPlace → Type 0
Follow place [] last = place ≡ last
Follow place (h ∷ hs) last = (h.place ≡ place) × Follow (place_behind h) hs last

-- a place of a chain stands after the IPv6 header, in the packet or at its end, and an earlier byte of the packet names
-- it: the next header of the IPv6 header, or one after that header
pub record StandsIn (p : Packet) (place : ChainPlace) : Type 0 where
  pub behind_header : header_len ≤ place.at
  pub within : place.at ≤ header_len + length p.payload
  pub earlier : place.named_at < place.at
  pub field : (place.named_at ≡ NEXT_HEADER_AT) ⊎ (header_len ≤ place.named_at)
  pub named : slice_index (spelling p) place.named_at ≡ place.kind

-- an upper layer is what no extension header's value names; an extension header that is cut lacks bytes of its length
abbrev pub EndsIn : Packet → ChainEnd → Type 0
EndsIn p (Upper place) = is_extension place.kind ≡ false
EndsIn p (Cut place) = (is_extension place.kind ≡ true) × (is_whole place.kind (from_place p place.at) ≡ false)

-- a header lies whole in a packet, after the IPv6 header, with the length that it states
pub record LiesIn (p : Packet) (h : Header) : Type 0 where
  pub extension : is_extension h.place.kind ≡ true
  pub behind_header : header_len ≤ h.place.at
  pub within : h.place.at + length h.bytes ≤ header_len + length p.payload
  pub bytes : h.bytes ≡ take (length h.bytes) (from_place p h.place.at)
  pub least : EXTENSION_UNIT ≤ length h.bytes
  pub stated : length h.bytes ≡ extension_bytes h.place.kind h.bytes

-- a place so many bytes lower, which the field at a place names
abbrev pub lowered_to : ℕ → ℕ → ChainPlace → ChainPlace
lowered_to n named place = record { at = place.at - n; kind = place.kind; named_at = named }

abbrev pub lowered_end : ℕ → ℕ → ChainEnd → ChainEnd
lowered_end n named (Upper place) = Upper (lowered_to n named place)
lowered_end n named (Cut place) = Cut (lowered_to n named place)

-- headers and their end so many bytes lower: the field at a place names the first, and each header what stands after it
abbrev pub lowered : ℕ → ℕ → List Header → ChainEnd → Chain
lowered n named [] end = record { headers = []; end = lowered_end n named end }
lowered n named (h ∷ hs) end = behind (record { place = lowered_to n named h.place; bytes = h.bytes }) (lowered n (h.place.at - n) hs end)

-- a header that names something else
abbrev pub renamed : ℕ → Header → Header
renamed next h = record { place = h.place; bytes = slice_set h.bytes 0 next }

-- headers in front of a chain
abbrev pub in_front : List Header → Chain → Chain
in_front hs c = record { headers = hs ++ c.headers; end = c.end }
