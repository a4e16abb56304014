-- What the step over a header keeps of a packet, whichever flavours a SID has.
use Rattle.std.proofs.Common.{◌≡◌, ℕ, ◌+◌, ◌-◌, ◌^◌, ◌<◌, ◌≤◌, length, refl, sym, ap, ◌∙◌, arith, length-drop}
use Rattle.std.proofs.lemmas.List.{length-set, length-take-le}
use Rattle.std.proofs.lemmas.List.Elements.{All-drop, All-set, All-take}
use Rattle.srv6_rules.specs.declared.sid.SidEntry.{SidEntry}
use Rattle.srv6_rules.specs.CompressedStepsTerms.{SuitsCompression}
use Rattle.srv6_rules.specs.Packet.{Packet, IsSpellable, header_len}
use Rattle.srv6_rules.specs.Srh.{srh_of, segments_left_at}
use Rattle.srv6_rules.specs.Chain.{Header, without, segments_left, from_place}
use Rattle.srv6_rules.specs.ChainTerms.{LiesIn}
use Rattle.srv6_rules.specs.Endpoint.{Endpoint, Onward, Exposed, Delivered, Refused, as_in, outcome_without, advanced}
use Rattle.srv6_rules.proofs.Bytes.{byte_below}
use Rattle.srv6_rules.proofs.Chains.{lies_bytes}
use Rattle.srv6_rules.proofs.HeaderTakenOut.{without_others, without_room, without_bytes}
use Rattle.srv6_rules.proofs.EndpointSteps.{entry_of_below}

-- ---- what is kept of a packet that goes on or is handed over: what stands in front of a place is there still, it is no longer, the
-- hop limit is so many lower, the fields that no endpoint changes are as they were, and bytes can spell it

-- where something suits
pub record Kept (Suits : Type 0) (p : Packet) (at lower : ℕ) (q : Packet) : Type 0 where
  pub room : at ≤ header_len + length q.payload
  pub shorter : length q.payload ≤ length p.payload
  pub hop_limit : p.hop_limit ≡ q.hop_limit + lower
  pub traffic_class : q.traffic_class ≡ p.traffic_class
  pub flow_label : q.flow_label ≡ p.flow_label
  pub source : q.source ≡ p.source
  pub spellable : Suits → IsSpellable p → IsSpellable q

abbrev pub Sound : SidEntry → Packet → ℕ → Endpoint → Type 0
Sound s p at (Onward q) = Kept (SuitsCompression s) p at 1 q × (1 < p.hop_limit)
Sound s p at (Exposed family bytes) = Unit {0}
Sound s p at (Delivered q) = Kept (Unit {0}) p at 0 q × (q.destination ≡ p.destination)
Sound s p at (Refused reason place) = Unit {0}

kept_nearer : (Suits : Type 0) (p : Packet) (at near lower : ℕ) (q : Packet) → near ≤ at → Kept Suits p at lower q
    → Kept Suits p near lower q
kept_nearer Suits p at near lower q le k =
    let room = k.room in
    record {
      room = omega arith;
      shorter = k.shorter;
      hop_limit = k.hop_limit;
      traffic_class = k.traffic_class;
      flow_label = k.flow_label;
      source = k.source;
      spellable = k.spellable;
    }

pub sound_nearer : (s : SidEntry) (p : Packet) (at near : ℕ) (x : Endpoint) → near ≤ at → Sound s p at x → Sound s p near x
sound_nearer s p at near (Onward q) le k = (kept_nearer (SuitsCompression s) p at near 1 q le k.0, k.1)
sound_nearer s p at near (Exposed family bytes) le k = tt
sound_nearer s p at near (Delivered q) le k = (kept_nearer (Unit {0}) p at near 0 q le k.0, k.1)
sound_nearer s p at near (Refused reason place) le k = tt

-- ---- a header taken out

-- a header that lies in a packet is the one that stands at its place there
pub as_in_lies : (p : Packet) (h : Header) → LiesIn p h → as_in p h ≡ h
as_in_lies p h lies = ap (λ xs. record { place = h.place; bytes = xs }) (sym lies.bytes)

module _ (Suits : Type 0) (p : Packet) (h : Header) (start : header_len ≤ h.place.at) (lower : ℕ) (q : Packet)
    (k : Kept Suits p (h.place.at + length h.bytes) lower q) where
  as_in_length : length (as_in q h).bytes ≡ length h.bytes
  as_in_length =
      let room = k.room in
      length-take-le (length h.bytes) (from_place q h.place.at) (omega (arith, length-drop (h.place.at - header_len) q.payload))

  out_length : length (without q (as_in q h)).payload + length h.bytes ≡ length q.payload
  out_length =
      let room = k.room in
      let len = as_in_length in
      ap (λ n. length (without q (as_in q h)).payload + n) (sym len) ∙ without_room q (as_in q h) start (omega arith)

  out_spellable : Suits → IsSpellable p → IsSpellable (without q (as_in q h))
  out_spellable suits ok =
      let P : ℕ → Type 0 = λ b. b < 2 ^ 8 in
      let room = k.room in
      let len = as_in_length in
      let good = k.spellable suits ok in
      without_bytes q (as_in q h) good start (omega arith)
      (All-take P (length h.bytes) (from_place q h.place.at) (All-drop P (h.place.at - header_len) q.payload good.payload))

  kept_out : Kept Suits p h.place.at lower (without q (as_in q h))
  kept_out =
      let room = k.room in
      let len = out_length in
      let shorter = k.shorter in
      let same = without_others q (as_in q h) in
      record {
        room = omega arith;
        shorter = omega arith;
        hop_limit = k.hop_limit ∙ ap (λ n. n + lower) (sym (ap (λ (x : Packet). x.hop_limit) same));
        traffic_class = ap (λ (x : Packet). x.traffic_class) same ∙ k.traffic_class;
        flow_label = ap (λ (x : Packet). x.flow_label) same ∙ k.flow_label;
        source = ap (λ (x : Packet). x.source) same ∙ k.source;
        spellable = out_spellable;
      }

pub sound_out : (s : SidEntry) (p : Packet) (h : Header) → header_len ≤ h.place.at → (x : Endpoint)
    → Sound s p (h.place.at + length h.bytes) x
    → Sound s p h.place.at (outcome_without h x)
sound_out s p h start (Onward q) k = (kept_out (SuitsCompression s) p h start 1 q k.0, k.1)
sound_out s p h start (Exposed family bytes) k = tt
sound_out s p h start (Delivered q) k =
    (kept_out (Unit {0}) p h start 0 q k.0, ap (λ (x : Packet). x.destination) (without_others q (as_in q h)) ∙ k.1)
sound_out s p h start (Refused reason place) k = tt

-- ---- the step over a header

advanced_spellable : (p : Packet) (h : Header) → LiesIn p h → IsSpellable p → IsSpellable (advanced p h.place.at (srh_of h.bytes))
advanced_spellable p h lies ok =
    let P : ℕ → Type 0 = λ b. b < 2 ^ 8 in
    let bytes = lies_bytes p h lies ok.payload in
    let was = byte_below h.bytes 3 bytes in
    let at : ℕ = h.place.at + segments_left_at - header_len in
    let v : ℕ = segments_left h - 1 in
    let len = length-set p.payload at v in
    let hop : p.hop_limit < 2 ^ 8 = ok.hop_limit in
    let short : length p.payload < 2 ^ 16 = ok.payload_len in
    record {
      traffic_class = ok.traffic_class;
      flow_label = ok.flow_label;
      next_header = ok.next_header;
      hop_limit = omega arith;
      source = ok.source;
      destination = entry_of_below h v bytes;
      payload_len = omega arith;
      payload = All-set P p.payload at v (omega arith) ok.payload;
    }

pub kept_advanced : (Suits : Type 0) (p : Packet) (h : Header) → LiesIn p h → 1 < p.hop_limit
    → Kept Suits p (h.place.at + length h.bytes) 1 (advanced p h.place.at (srh_of h.bytes))
kept_advanced Suits p h lies above =
    let within = lies.within in
    let len = length-set p.payload (h.place.at + segments_left_at - header_len) (segments_left h - 1) in
    record {
      room = omega arith;
      shorter = omega (arith, len);
      hop_limit = omega arith;
      traffic_class = refl;
      flow_label = refl;
      source = refl;
      spellable = λ suits. advanced_spellable p h lies;
    }
