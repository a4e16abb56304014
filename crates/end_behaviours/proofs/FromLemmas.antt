-- What comes of a packet from a place of its chain on.
use Rattle.std.proofs.Common.{◌≡◌, ℕ, ◌+◌, ◌-◌, ◌≤◌, true, false, List, length, take, drop, refl, sym, ap, subst, ◌∙◌, arith}
use Rattle.std.proofs.lemmas.List.{length-drop}
use Rattle.srv6_rules.specs.declared.numbers.TheConstants.{MAX_PACKET_LEN}
use Rattle.srv6_rules.specs.declared.reason.Reason.TheVariants.{BadChain}
use Rattle.srv6_rules.specs.declared.sid.SidEntry.{SidEntry}
use Rattle.srv6_rules.specs.Packet.{Packet, header_len, packet_at}
use Rattle.srv6_rules.specs.Chain.{ChainPlace, Header, extension_bytes, from_place, is_extension, is_whole}
use Rattle.srv6_rules.specs.ChainTerms.{LiesIn, StandsIn, place_behind}
use Rattle.srv6_rules.specs.Endpoint.{Endpoint, Refused, at_end, at_header}
use Rattle.srv6_rules.proofs.PublicLaws.{header_in_lies}
use Rattle.ip6_headers.specs.Ip6Reading.{HoldsPacket}
use Rattle.ip6_headers.specs.ChainStepping.{IsHeader}
use Rattle.ip6_headers.proofs.PublicLaws.{holds_spellable}
use Rattle.endpoint_chain.specs.Outcomes.{HoldsAlone}
use Rattle.endpoint_chain.proofs.PublicLaws.{ComesTo, alone_length, comes_behind, comes_cut, comes_header}
use Rattle.end_behaviours.specs.HeaderFinding.{IsWithin, at_sid_from}
use Rattle.end_behaviours.proofs.AloneLemmas.{alone_from}
use Rattle.end_behaviours.proofs.FoundLemmas.{stands_behind}

abbrev pub From : SidEntry → List ℕ → Packet → ChainPlace → ChainPlace → List ℕ → Type 0
From s allow p start place rest = ComesTo (at_header s p) (at_end s allow p) p (at_sid_from s allow p start) place rest

-- a header that stands there
pub from_lies : (p : Packet) (place : ChainPlace) (rest header : List ℕ) (len : ℕ) → rest ≡ from_place p place.at
    → header_len ≤ place.at → IsHeader place.kind rest len → header ≡ take len rest
    → LiesIn p (record { place = place; bytes = header })
from_lies p place rest header len bytes behind is taken =
    let P : List ℕ → Type 0 = λ xs. IsHeader place.kind xs len in
    let there = subst P bytes is in
    let same : header ≡ take (extension_bytes place.kind (from_place p place.at)) (from_place p place.at) =
    taken ∙ ap (take len) bytes ∙ ap (λ n. take n (from_place p place.at)) there.stated in
    let Q : List ℕ → Type 0 = λ xs. LiesIn p (record { place = place; bytes = xs }) in
    subst Q (sym same) (header_in_lies p place behind there.extension there.whole)

-- a place that is reached from another, and what stands there
pub record Reached (s : SidEntry) (allow : List ℕ) (p : Packet) (start place : ChainPlace) (rest : List ℕ) : Type 0 where
  pub comes : From s allow p start place rest
  pub stands : StandsIn p place
  pub later : start.at ≤ place.at

-- where it begins
pub from_start : (s : SidEntry) (allow bytes : List ℕ) (place : ChainPlace) (rest : List ℕ) → HoldsAlone bytes
    → StandsIn (packet_at bytes) place → rest ≡ drop place.at bytes → Reached s allow (packet_at bytes) place place rest
from_start s allow bytes place rest alone stands is =
    let behind = stands.behind_header in
    let within = stands.within in
    let all = alone_length bytes alone in
    let long : length rest ≡ length bytes - place.at = ap length is ∙ length-drop place.at bytes in
    record {
      comes = record {
        same = refl;
        bytes = is ∙ sym (alone_from bytes place.at alone behind);
        behind = behind;
        ends = omega arith;
      };
      stands = stands;
      later = omega arith;
    }

module _ (s : SidEntry) (allow : List ℕ) (p : Packet) (start place : ChainPlace) (rest header : List ℕ) (len : ℕ)
    (r : Reached s allow p start place rest) (is : IsHeader place.kind rest len) (taken : header ≡ take len rest) where
  abbrev h : Header
  h = record { place = place; bytes = header }

  -- the header that stands there
  pub reached_lies : LiesIn p h
  reached_lies = from_lies p place rest header len r.comes.bytes r.comes.behind is taken

  -- what comes of it
  pub reached_comes : at_sid_from s allow p start ≡ at_header s p h (at_sid_from s allow p (place_behind h))
  reached_comes = comes_header (at_header s p) (at_end s allow p) p (at_sid_from s allow p start) place rest r.comes len is header taken

  -- after it, where it is passed over
  pub reached_behind : (more : List ℕ) (next : ChainPlace) → more ≡ drop len rest → next ≡ place_behind h
      → ((x : Endpoint) → at_header s p h x ≡ x) → Reached s allow p start next more
  reached_behind more next left goes passed =
      let later = r.later in
      let at : next.at ≡ place.at + length header = ap (λ k. k.at) goes in
      let P : ChainPlace → Type 0 = λ k. StandsIn p k in
      record {
        comes = comes_behind (at_header s p) (at_end s allow p) p (at_sid_from s allow p start) place rest r.comes len is header taken more
            next left goes passed;
        stands = subst P (sym goes) (stands_behind p h reached_lies);
        later = omega arith;
      }

pub from_within : (p : Packet) (first : ℕ) (place : ChainPlace) → StandsIn p place → first ≤ place.at → IsWithin p first place.at
from_within p first place stands later = record { behind = stands.behind_header; within = stands.within; later = later }

-- places are below the longest packet's length
pub place_most : (bytes : List ℕ) (at : ℕ) → HoldsPacket bytes → at ≤ header_len + length (packet_at bytes).payload → at ≤ MAX_PACKET_LEN
place_most bytes at holds within =
    let short = (holds_spellable bytes holds).payload_len in
    omega arith

-- a chain that is cut there
pub cut_found : (s : SidEntry) (allow bytes : List ℕ) (start place : ChainPlace) (rest : List ℕ) → HoldsAlone bytes
    → Reached s allow (packet_at bytes) start place rest → is_extension place.kind ≡ true → is_whole place.kind rest ≡ false
    → (at_sid_from s allow (packet_at bytes) start ≡ Refused BadChain place.at) × (place.at ≤ MAX_PACKET_LEN)
cut_found s allow bytes start place rest alone r is cut =
    let p : Packet = packet_at bytes in (
      comes_cut (at_header s p) (at_end s allow p) p (at_sid_from s allow p start) place rest r.comes is cut,
      place_most bytes place.at alone.holds r.stands.within,
    )
