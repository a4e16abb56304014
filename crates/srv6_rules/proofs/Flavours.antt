-- What an endpoint keeps of a packet, whichever flavours a SID has: its other fields, and that bytes can spell it.
use Rattle.std.proofs.Common.{◌≡◌, ℕ, ◌+◌, ◌-◌, ◌^◌, ◌<◌, ◌≤◌, ◌==◌, ◌&&◌, Bool, true, not, nat_le, List, [], ◌∷◌, length, drop, slice_index, ◌*◌, All, refl, sym, ap, subst, ◌∙◌, arith, inl, inr, le_refl}
use Rattle.std.proofs.lemmas.Bool.{cases_Bool, leb-false}
use Rattle.std.proofs.lemmas.List.{length-set}
use Rattle.std.proofs.lemmas.List.Elements.{All-drop, All-head, All-tail, All-take}
use Rattle.srv6_rules.specs.declared.compression.Compression.{Compression}
use Rattle.srv6_rules.specs.declared.sid.Csid.{Csid}
use Rattle.srv6_rules.specs.declared.sid.Csid.TheVariants as csids
use Rattle.srv6_rules.specs.declared.sid.SidEntry.{SidEntry}
use Rattle.srv6_rules.specs.Compressed.{argument_of}
use Rattle.srv6_rules.specs.CompressedSteps.{ReplaceStep, Moved, AtEnd, Dropped, compression_of, is_next, is_replace, is_at_end, shifted, move_of, moved, replace_step}
use Rattle.srv6_rules.specs.CompressedStepsTerms.{IsNext, IsReplace, SuitsKind, SuitsCompression}
use Rattle.srv6_rules.specs.Behaviours.{goes_on, exposes}
use Rattle.srv6_rules.specs.Packet.{Packet, IsSpellable, header_len}
use Rattle.srv6_rules.specs.Srh.{srh_of, segments_left_at}
use Rattle.srv6_rules.specs.Chain.{ChainPlace, Header, ChainEnd, Upper, Cut, segments_left, is_segment_routing, start_of, chain_of}
use Rattle.srv6_rules.specs.ChainTerms.{LiesIn, StandsIn, Follow, place_of, place_behind, chain_at}
use Rattle.srv6_rules.specs.Endpoint.{Endpoint, Onward, Delivered, Refused, is_allowed, leaves_none, after_step, after_last, advanced, next_segment, next_csid, shifts_at, by_replace_step, at_whole_segments, at_packed_segments, at_segment_routing, over_headers, at_sid_routing, at_header, at_end, at_sid}
use Rattle.srv6_rules.proofs.Bytes.{byte_below}
use Rattle.srv6_rules.proofs.Chains.{start_stands, chain_at_stand, chain_at_lies, chain_at_follow, lies_bytes}
use Rattle.srv6_rules.proofs.SteppedPackets.{shifted_spellable, step_spellable, step_hop_limit, StepMoves, step_moves}
use Rattle.srv6_rules.proofs.Treatments.{sid_known, known_whole, known_packed, whole_last, whole_steps, whole_refuses, packed_steps, packed_last, packed_refuses, last_stays, last_out}
use Rattle.srv6_rules.proofs.HeadersAtSids.{header_by}
use Rattle.srv6_rules.proofs.Endpoints.{end_stands, next_segment_cases}
use Rattle.srv6_rules.proofs.FlavourSteps.{Kept, Sound, sound_nearer, sound_out, kept_advanced}

-- ---- the steps of compressed SIDs

suits_next : (k : Csid) (c : Compression) (b : Bool) → (is_next k && b) ≡ true → SuitsKind k c → IsNext c
suits_next csids.Plain c b e suits = cc
suits_next csids.Next c b e suits = suits
suits_next csids.Replace c b e suits = cc

suits_replace : (k : Csid) (c : Compression) → is_replace k ≡ true → SuitsKind k c → IsReplace c
suits_replace csids.Plain c e suits = cc
suits_replace csids.Next c e suits = cc
suits_replace csids.Replace c e suits = suits

kept_shifted : (s : SidEntry) (p : Packet) (at : ℕ) → at ≤ header_len + length p.payload → shifts_at s p ≡ true → 1 < p.hop_limit
    → Kept (SuitsCompression s) p at 1 (shifted (compression_of s) p)
kept_shifted s p at within shifts above =
    record {
      room = within;
      shorter = le_refl (length p.payload);
      hop_limit = omega arith;
      traffic_class = refl;
      flow_label = refl;
      source = refl;
      spellable = λ suits ok. shifted_spellable (compression_of s) p
          (suits_next s.csid (compression_of s) (not (argument_of p.destination s.prefix.len == 0)) shifts suits) ok;
    }

sound_next_csid : (s : SidEntry) (p : Packet) (at : ℕ) → at ≤ header_len + length p.payload → shifts_at s p ≡ true
    → Sound s p at (next_csid s p)
sound_next_csid s p at within shifts = elim (cases_Bool (nat_le p.hop_limit 1)) [
  | inl low ↦ rw low tt
  | inr high ↦
      let above = leb-false p.hop_limit 1 high in
      rw high (kept_shifted s p at within shifts above, above)
]

module _ (s : SidEntry) (p : Packet) (h : Header) (lies : LiesIn p h) (packed : is_replace s.csid ≡ true) (q : Packet) (ended : Bool)
    (e : replace_step (compression_of s) p h.place.at (srh_of h.bytes) ≡ Moved q ended) where
  moves : StepMoves (compression_of s) p h.place.at (srh_of h.bytes) q ended
  moves = step_moves (compression_of s) p h.place.at (srh_of h.bytes) q ended e

  same_field : {A : Type 0} (f : Packet → A) → f (moved p h.place.at (move_of (compression_of s) (srh_of h.bytes) p.destination)) ≡ f q
  same_field f = ap f moves.packet

  moved_room : length q.payload ≡ length p.payload
  moved_room =
      sym (same_field (λ x. length x.payload))
      ∙ length-set p.payload (h.place.at + segments_left_at - header_len)
      (move_of (compression_of s) (srh_of h.bytes) p.destination).segments_left

  moved_spelled : SuitsCompression s → IsSpellable p → IsSpellable q
  moved_spelled suits ok =
      let P : ℕ → Type 0 = λ b. b < 2 ^ 8 in
      let n : ℕ = 8 * slice_index h.bytes 1 in
      let bytes = lies_bytes p h lies ok.payload in
      step_spellable (compression_of s) p q h.place.at (srh_of h.bytes) ended (suits_replace s.csid (compression_of s) packed suits) ok
      (byte_below h.bytes 3 bytes) (All-take P n (drop 8 h.bytes) (All-drop P 8 h.bytes bytes)) e

  kept_moved : Kept (SuitsCompression s) p (h.place.at + length h.bytes) 1 q
  kept_moved =
      let within = lies.within in
      let room = moved_room in
      record {
        room = omega arith;
        shorter = omega arith;
        hop_limit = step_hop_limit (compression_of s) p q h.place.at (srh_of h.bytes) ended e;
        traffic_class = sym (same_field (λ x. x.traffic_class));
        flow_label = sym (same_field (λ x. x.flow_label));
        source = sym (same_field (λ x. x.source));
        spellable = moved_spelled;
      }

  moved_above : 1 < p.hop_limit
  moved_above = leb-false p.hop_limit 1 moves.low

  sound_moved : Sound s p h.place.at (by_replace_step s h (Onward q) (Moved q ended))
  sound_moved = elim (cases_Bool (s.psp && ended)) [
    | inl pops ↦ rw pops (sound_out s p h lies.behind_header (Onward q) (kept_moved, moved_above))
    | inr stays ↦ rw stays (sound_nearer s p (h.place.at + length h.bytes) h.place.at (Onward q) (omega arith) (kept_moved, moved_above))
  ]

module _ (s : SidEntry) (p : Packet) (h : Header) (lies : LiesIn p h) where
  abbrev Behind : Endpoint → Type 0
  Behind x = Sound s p (h.place.at + length h.bytes) x

  abbrev Here : Endpoint → Type 0
  Here x = Sound s p h.place.at x

  sound_near : (x : Endpoint) → Behind x → Here x
  sound_near x is = sound_nearer s p (h.place.at + length h.bytes) h.place.at x (omega arith) is

  sound_step : (x : Endpoint) → Behind x → Here (after_step s h x)
  sound_step x is = elim (cases_Bool (s.psp && leaves_none (srh_of h.bytes))) [
    | inl pops ↦ rw pops (sound_out s p h lies.behind_header x is)
    | inr stays ↦ rw stays (sound_near x is)
  ]

  sound_next : Here (after_step s h (next_segment p h.place.at (srh_of h.bytes)))
  sound_next =
      let P : Endpoint → Type 0 = λ x. Here (after_step s h x) in
      elim (next_segment_cases p h lies) [
        | inl (reason, at, within, e) ↦ subst P (sym e) (sound_step (Refused reason at) tt)
        | inr (above, (good, e)) ↦ subst P (sym e) (sound_step (Onward (advanced p h.place.at (srh_of h.bytes)))
            (kept_advanced (SuitsCompression s) p h lies above, above))
      ]

  sound_last : (x : Endpoint) → Behind x → Here (after_last s h x)
  sound_last x is =
      let P : Endpoint → Type 0 = λ y. Here y in
      elim (cases_Bool s.usp) [
        | inl usp ↦ subst P (sym (last_out s p h x usp)) (sound_out s p h lies.behind_header x is)
        | inr no_usp ↦ subst P (sym (last_stays s p h x no_usp)) (sound_near x is)
      ]

  sound_whole : (x : Endpoint) → Behind x → Here (at_whole_segments s p h x)
  sound_whole x is =
      let P : Endpoint → Type 0 = λ y. Here y in
      elim (cases_Bool (segments_left h == 0)) [
        | inl none ↦ subst P (sym (whole_last s p h x none)) (sound_last x is)
        | inr some ↦ elim (cases_Bool (goes_on s)) [
          | inl goes ↦ subst P (sym (whole_steps s p h x some goes)) sound_next
          | inr stays ↦ subst P (sym (whole_refuses s p h x some stays)) tt
        ]
      ]

  sound_replace : is_replace s.csid ≡ true → (x : Endpoint) → Behind x
      → (r : ReplaceStep) → replace_step (compression_of s) p h.place.at (srh_of h.bytes) ≡ r → Here (by_replace_step s h x r)
  sound_replace packed x is (Moved q ended) e = sound_moved s p h lies packed q ended e
  sound_replace packed x is AtEnd e = sound_last x is
  sound_replace packed x is (Dropped fault) e = tt

  sound_packed : is_replace s.csid ≡ true → (x : Endpoint) → Behind x → Here (at_packed_segments s p h x)
  sound_packed packed x is =
      let P : Endpoint → Type 0 = λ y. Here y in
      let c = compression_of s in
      elim (cases_Bool (goes_on s)) [
        | inl goes ↦ subst P (sym (packed_steps s p h x goes))
            (sound_replace packed x is (replace_step c p h.place.at (srh_of h.bytes)) refl)
        | inr ends ↦ elim (cases_Bool (is_at_end c (srh_of h.bytes) p.destination)) [
          | inl end ↦ subst P (sym (packed_last s p h x ends end)) (sound_last x is)
          | inr some ↦ subst P (sym (packed_refuses s p h x ends some)) tt
        ]
      ]

  sound_known : (x : Endpoint) → Behind x → Here (at_segment_routing s p h x)
  sound_known x is =
      let P : Endpoint → Type 0 = λ y. Here y in
      elim (cases_Bool (is_replace s.csid)) [
        | inl packed ↦ subst P (sym (known_packed s p h x packed)) (sound_packed packed x is)
        | inr whole ↦ subst P (sym (known_whole s p h x whole)) (sound_whole x is)
      ]

  sound_routing : (x : Endpoint) → Behind x → Here (at_sid_routing s p h x)
  sound_routing x is =
      let P : Endpoint → Type 0 = λ y. Here y in
      elim (cases_Bool (is_segment_routing h)) [
        | inl known ↦ subst P (sym (sid_known s p h x known)) (sound_known x is)
        | inr other ↦ rw other (elim (cases_Bool (segments_left h == 0)) [
          | inl none ↦ rw none (sound_near x is)
          | inr some ↦ rw some tt
        ])
      ]

  sound_header : StandsIn p h.place → (x : Endpoint) → Behind x → Here (at_header s p h x)
  sound_header stands x is =
      let within = lies.within in
      header_by s p h (λ y. Here y) x lies stands (λ shifts. sound_next_csid s p h.place.at (omega arith) shifts)
      (λ passed. sound_near x is) (λ reason at below. tt) (λ stays same. sound_routing x is)

-- ---- a whole chain

module _ (s : SidEntry) (allow : List ℕ) (p : Packet) where
  sound_headers : (place : ChainPlace) (hs : List Header) (last : ChainPlace) → Follow place hs last → All (LiesIn p) hs
      → All (λ h. StandsIn p h.place) hs → (x : Endpoint) → Sound s p last.at x → Sound s p place.at (over_headers (at_header s p) hs x)
  sound_headers place [] last f lies stands x is =
      let Q : ChainPlace → Type 0 = λ k. Sound s p k.at x in
      subst Q (sym f) is
  sound_headers place (h ∷ hs) last f lies stands x is =
      let Q : ChainPlace → Type 0 = λ k. Sound s p k.at (over_headers (at_header s p) (h ∷ hs) x) in
      subst Q f.0
      (sound_header s p h (All-head (LiesIn p) h hs lies) (All-head (λ y. StandsIn p y.place) h hs stands)
      (over_headers (at_header s p) hs x)
      (sound_headers (place_behind h) hs last f.1 (All-tail (LiesIn p) h hs lies) (All-tail (λ y. StandsIn p y.place) h hs stands) x is))

  kept_all : (at : ℕ) → at ≤ header_len + length p.payload → Kept (Unit {0}) p at 0 p
  kept_all at room =
      record {
        room = room;
        shorter = le_refl (length p.payload);
        hop_limit = omega arith;
        traffic_class = refl;
        flow_label = refl;
        source = refl;
        spellable = λ suits ok. ok;
      }

  sound_end : (end : ChainEnd) → StandsIn p (place_of end) → Sound s p (place_of end).at (at_end s allow p end)
  sound_end (Upper place) stands = elim (cases_Bool (shifts_at s p)) [
    | inl shifts ↦ rw shifts (sound_next_csid s p place.at stands.within shifts)
    | inr stays ↦ rw stays (elim (cases_Bool (exposes s place.kind)) [
      | inl shows ↦ rw shows tt
      | inr hides ↦ rw hides (elim (cases_Bool (is_allowed allow place.kind)) [
        | inl takes ↦ rw takes (kept_all place.at stands.within, refl)
        | inr others ↦ rw others tt
      ])
    ])
  ]
  sound_end (Cut place) stands = tt

  sound_sid : Sound s p header_len (at_sid s allow p)
  unfolding chain_at
  sound_sid =
      sound_headers (start_of p) (chain_of p).headers (place_of (chain_of p).end) (chain_at_follow p (start_of p) (omega arith))
      (chain_at_lies p (start_of p) (omega arith)) (chain_at_stand p (start_of p) (start_stands p)).0
      (at_end s allow p (chain_of p).end) (sound_end (chain_of p).end (end_stands p))

-- a packet that goes on has its hop limit lower by one
onward_kept : (s : SidEntry) (allow : List ℕ) (p q : Packet) → at_sid s allow p ≡ Onward q
    → Kept (SuitsCompression s) p header_len 1 q × (1 < p.hop_limit)
onward_kept s allow p q e = let P : Endpoint → Type 0 = λ x. Sound s p header_len x in subst P e (sound_sid s allow p)

pub at_sid_lowers : (s : SidEntry) (allow : List ℕ) (p q : Packet) → at_sid s allow p ≡ Onward q
    → (1 < p.hop_limit) × (p.hop_limit ≡ q.hop_limit + 1)
at_sid_lowers s allow p q e = let k = onward_kept s allow p q e in (k.1, k.0.hop_limit)

pub at_sid_shorter : (s : SidEntry) (allow : List ℕ) (p q : Packet) → at_sid s allow p ≡ Onward q
    → length q.payload ≤ length p.payload
at_sid_shorter s allow p q e = (onward_kept s allow p q e).0.shorter

pub at_sid_fields : (s : SidEntry) (allow : List ℕ) (p q : Packet) → at_sid s allow p ≡ Onward q
    → (q.traffic_class ≡ p.traffic_class) × ((q.flow_label ≡ p.flow_label) × (q.source ≡ p.source))
at_sid_fields s allow p q e =
    let k = onward_kept s allow p q e in
    (k.0.traffic_class, (k.0.flow_label, k.0.source))

pub at_sid_spellable : (s : SidEntry) (allow : List ℕ) (p q : Packet) → SuitsCompression s → IsSpellable p → at_sid s allow p ≡ Onward q
    → IsSpellable q
at_sid_spellable s allow p q suits ok e = (onward_kept s allow p q e).0.spellable suits ok

-- a packet that is handed over has its other fields as they were
delivered_kept : (s : SidEntry) (allow : List ℕ) (p q : Packet) → at_sid s allow p ≡ Delivered q
    → Kept (Unit {0}) p header_len 0 q × (q.destination ≡ p.destination)
delivered_kept s allow p q e = let P : Endpoint → Type 0 = λ x. Sound s p header_len x in subst P e (sound_sid s allow p)

pub at_sid_delivered_fields : (s : SidEntry) (allow : List ℕ) (p q : Packet) → at_sid s allow p ≡ Delivered q
    → q ≡ record p { next_header = q.next_header; payload = q.payload }
at_sid_delivered_fields s allow p q e =
    let k = delivered_kept s allow p q e in
    let class = k.0.traffic_class in
    let label = k.0.flow_label in
    let source = k.0.source in
    let destination = k.1 in
    let hop : q.hop_limit ≡ p.hop_limit = let h = k.0.hop_limit in omega arith in
    same q p class label hop source destination
  where
    same : (q p : Packet) → q.traffic_class ≡ p.traffic_class → q.flow_label ≡ p.flow_label → q.hop_limit ≡ p.hop_limit
        → q.source ≡ p.source → q.destination ≡ p.destination → q ≡ record p { next_header = q.next_header; payload = q.payload }
    same q p a b c d e = rw (sym a, sym b, sym c, sym d, sym e) refl

pub at_sid_delivered_spellable : (s : SidEntry) (allow : List ℕ) (p q : Packet) → IsSpellable p → at_sid s allow p ≡ Delivered q
    → IsSpellable q
at_sid_delivered_spellable s allow p q ok e = (delivered_kept s allow p q e).0.spellable tt ok
