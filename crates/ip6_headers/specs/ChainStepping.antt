-- Need not be believed: helps proofs and other laws.
-- What stands at a place of a chain of extension headers, and the step from there (RFC 8200 section 4).
use Rattle.std.specs.Prelude.{◌≡◌, ℕ, ◌≤◌, true, false, List, [], take, length, Result, Ok, Err}
use Rattle.srv6_rules.specs.declared.numbers.TheConstants.{NEXT_HEADER_AT, EXTENSION_UNIT}
use Rattle.srv6_rules.specs.Packet.{Packet, header_len}
use Rattle.srv6_rules.specs.Chain as chains
use Rattle.srv6_rules.specs.Chain.{is_extension, is_whole, extension_bytes, behind, behind_in, from_place}
use Rattle.srv6_rules.specs.ChainTerms.{chain_at}
use Rattle.ip6_headers.specs.declared.chain.ChainPlace.{ChainPlace}
use Rattle.ip6_headers.specs.declared.chain.Stands.{Stands}
use Rattle.ip6_headers.specs.declared.chain.Stands.TheVariants as standing
use Rattle.ip6_headers.specs.declared.chain.ChainStep.{ChainStep}
use Rattle.ip6_headers.specs.declared.chain.ChainStep.TheVariants as steps
use Rattle.ip6_headers.specs.declared.chain.BadChain.{BadChain}

abbrev pub place_view : ChainPlace → chains.ChainPlace
place_view place = record { at = place.at; kind = place.kind; named_at = place.named_at }

-- the header of these bytes at a place
abbrev pub header_at : ChainPlace → List ℕ → chains.Header
header_at place bytes = record { place = place_view place; bytes = bytes }

-- where a chain starts that the IPv6 header names by a value
abbrev pub first_place : ℕ → chains.ChainPlace
first_place next_header = record { at = header_len; kind = next_header; named_at = NEXT_HEADER_AT }

-- these bytes, which a value names, begin with a whole header of a length
pub record IsHeader (kind : ℕ) (bytes : List ℕ) (len : ℕ) : Type 0 where
  pub extension : is_extension kind ≡ true
  pub whole : is_whole kind bytes ≡ true
  pub stated : len ≡ extension_bytes kind bytes
  pub least : EXTENSION_UNIT ≤ len
  pub within : len ≤ length bytes

-- these bytes, which a value names, begin with a header that is cut
abbrev pub IsCut : ℕ → List ℕ → Type 0
IsCut kind bytes = (is_extension kind ≡ true) × (is_whole kind bytes ≡ false)

abbrev pub IsStanding : ℕ → List ℕ → Stands → Type 0
IsStanding kind bytes (standing.Header len) = IsHeader kind bytes len
IsStanding kind bytes standing.Upper = is_extension kind ≡ false
IsStanding kind bytes standing.Cut = IsCut kind bytes

-- the step from a place, where these bytes stand: over a whole header to the place after it, or none
abbrev pub IsStep : chains.ChainPlace → List ℕ → Result ChainStep BadChain → Type 0
IsStep place bytes (Ok (steps.Header len next)) = IsHeader place.kind bytes len × (place_view next ≡ behind_in place bytes)
IsStep place bytes (Ok steps.Upper) = is_extension place.kind ≡ false
IsStep place bytes (Err bad) = IsCut place.kind bytes

-- the chain of a packet from a place on that a step begins: the header that was stepped over, and the chain after it
abbrev pub begun : Packet → chains.ChainPlace → Result ChainStep BadChain → chains.Chain
begun p place (Ok (steps.Header len next)) =
    behind (record { place = place; bytes = take len (from_place p place.at) }) (chain_at p (place_view next))
begun p place (Ok steps.Upper) = record { headers = []; end = chains.Upper place }
begun p place (Err bad) = record { headers = []; end = chains.Cut place }
