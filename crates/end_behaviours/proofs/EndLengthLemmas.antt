-- How long a packet would be after the step of a SID that goes on.
use Rattle.std.proofs.Common.{◌≡◌, ◌≢◌, ◌⊎◌, inl, inr, ℕ, ◌+◌, ◌-◌, ◌≤◌, Bool, true, false, ◌==◌, ◌&&◌, not, if◌then◌else◌, List, length, refl, sym, ap, subst, ◌∙◌, arith, length-drop}
use Rattle.std.specs.Prelude.{Option, Some, None, IfSome}
use Rattle.std.proofs.lemmas.List.{length-set, length-take-le}
use Rattle.srv6_rules.specs.declared.sid.Csid.{Csid}
use Rattle.srv6_rules.specs.declared.sid.Csid.TheVariants as csids
use Rattle.srv6_rules.specs.declared.reason.Reason.{Reason}
use Rattle.srv6_rules.specs.declared.reason.Reason.TheVariants as reasons
use Rattle.srv6_rules.specs.declared.sid.SidEntry.{SidEntry}
use Rattle.srv6_rules.specs.Packet.{Packet, header_len, packet_at}
use Rattle.srv6_rules.specs.Srh.{srh_of}
use Rattle.srv6_rules.specs.Behaviours.{goes_on}
use Rattle.srv6_rules.specs.Chain.{ChainPlace, Header, from_place, segments_left, without}
use Rattle.srv6_rules.specs.ChainTerms.{StandsIn}
use Rattle.srv6_rules.proofs.PublicLaws.{known_whole, whole_steps}
use Rattle.srv6_rules.specs.CompressedSteps.{ReplaceStep, Moved, AtEnd, Dropped, compression_of, is_replace, moved, replace_step, shifted}
use Rattle.srv6_rules.specs.CompressedStepsTerms.{SuitsCompression}
use Rattle.srv6_rules.specs.Endpoint.{Endpoint, Onward, Exposed, Delivered, Refused, after_step, as_in, at_segment_routing, by_replace_step, leaves_none, next_segment, outcome_without}
use Rattle.replace_csid.specs.Replacing.{WouldMove, step_at}
use Rattle.endpoint_chain.specs.Outcomes.{HoldsAlone}
use Rattle.end_behaviours.specs.HeaderFinding.{IsLast, LiesAt, at_sid_from, header_of, is_last}
use Rattle.end_behaviours.specs.Onward.{GoesOn, IsEnd, IsLengthFrom, less_by}
use Rattle.end_behaviours.specs.SrhStepping.{move_to}
use Rattle.end_behaviours.proofs.EndRemovalLemmas.{without_long}
use Rattle.end_behaviours.proofs.EndStepLemmas.{none_is, packed_never_ends, step_here}
use Rattle.end_behaviours.proofs.TreatmentLemmas.{last_ends}

-- from an earlier place on, of an outcome that is the same
pub length_earlier : (first at : ℕ) (e f : Endpoint) (len : Option ℕ) → first ≤ at → e ≡ f → IsLengthFrom at f len
    → IsLengthFrom first e len
length_earlier first at e f (Some len) early same goes =
    let reaches = goes.reaches in
    record { packet = goes.packet; is = same ∙ goes.is; long = goes.long; reaches = omega arith }
length_earlier first at e f None early same away = λ q on. away q (sym same ∙ on)

-- ---- a header taken out

outcome_away : (h : Header) (e : Endpoint) → ((q : Packet) → e ≢ Onward q) → (q : Packet) → outcome_without h e ≢ Onward q
outcome_away h (Onward p) away = absurd (away p refl)
outcome_away h (Exposed family bytes) away = λ q on. cc
outcome_away h (Delivered p) away = λ q on. cc
outcome_away h (Refused reason at) away = λ q on. cc

pub length_without : (h : Header) (e : Endpoint) (next : ℕ) (len : Option ℕ) → header_len ≤ h.place.at
    → h.place.at + length h.bytes ≡ next → IsLengthFrom next e len
    → IsLengthFrom h.place.at (outcome_without h e) (less_by (length h.bytes) len)
length_without h e next (Some len) start ends goes =
    let q : Packet = goes.packet in
    let taken : Header = as_in q h in
    let long = goes.long in
    let reaches = goes.reaches in
    let there : length (from_place q h.place.at) ≡ length q.payload - (h.place.at - 40) = length-drop (h.place.at - 40) q.payload in
    let same : length taken.bytes ≡ length h.bytes = length-take-le (length h.bytes) (from_place q h.place.at)
    (omega (arith, length-drop (h.place.at - 40) q.payload)) in
    let rest : length (without q taken).payload + length taken.bytes ≡ length q.payload =
    without_long q taken start (omega arith) in
    record {
      packet = without q taken;
      is = ap (outcome_without h) goes.is;
      long = omega arith;
      reaches = omega arith;
    }
length_without h e next None start ends away = outcome_away h e away

-- ---- the shift

pub length_shifted : (s : SidEntry) (p : Packet) (first len : ℕ) (low : Bool) → len ≡ header_len + length p.payload → first ≤ len
    → IsLengthFrom first (if low then Refused reasons.HopLimit 0 else Onward (shifted (compression_of s) p))
    (if not low then Some len else None)
length_shifted s p first len true long reaches = λ q on. cc
length_shifted s p first len false long reaches =
    record { packet = shifted (compression_of s) p; is = refl; long = long; reaches = reaches }

-- ---- the step over a header

refused_away : (pops : Bool) (h : Header) (reason : Reason) (at : ℕ) (q : Packet)
    → (if pops then outcome_without h (Refused reason at) else Refused reason at) ≢ Onward q
refused_away true h reason at q = λ on. cc
refused_away false h reason at q = λ on. cc

pub whole_refused : (s : SidEntry) (h : Header) (e : Endpoint) (reason : Reason) (at : ℕ) → e ≡ Refused reason at → (q : Packet)
    → after_step s h e ≢ Onward q
whole_refused s h e reason at is q = λ on.
    refused_away (s.psp && leaves_none (srh_of h.bytes)) h reason at q (sym (ap (after_step s h) is) ∙ on)

pub whole_advances : (s : SidEntry) (p : Packet) (h : Header) (at left destination : ℕ)
    → next_segment p at (srh_of h.bytes) ≡ Onward (moved p at (move_to left destination))
    → (srh_of h.bytes).segments_left ≡ left + 1
    → IsEnd s p h (after_step s h (next_segment p at (srh_of h.bytes))) (Some (left == 0))
whole_advances s p h at left destination is one =
    let q : Packet = moved p at (move_to left destination) in
    let none : (left == 0) ≡ leaves_none (srh_of h.bytes) = none_is left (srh_of h.bytes).segments_left one in (
      q,
      (
        length-set p.payload (at + 3 - 40) left,
        ap (after_step s h) is ∙ ap (λ b. if s.psp && b then outcome_without h (Onward q) else Onward q) (sym none),
      ),
    )

stays : (s : SidEntry) (h : Header) (behind : Endpoint) (r : ReplaceStep) → (r ≢ AtEnd)
    → ((q : Packet) (ended : Bool) → r ≢ Moved q ended) → (q : Packet) → by_replace_step s h behind r ≢ Onward q
stays s h behind (Moved p ended) more away = absurd (away p ended refl)
stays s h behind AtEnd more away = absurd (more refl)
stays s h behind (Dropped fault) more away = λ q on. cc

pub packed_end_law : (s : SidEntry) (old : List ℕ) (place : ChainPlace) (len : ℕ) → SuitsCompression s → HoldsAlone old
    → is_replace s.csid ≡ true → LiesAt (packet_at old) place.at place len
    → is_last s (packet_at old) (header_of (packet_at old) place len) ≡ false
    → (behind : Endpoint) (ended : Option Bool) → WouldMove (packet_at old) place.at (step_at (compression_of s) old place.at) ended
    → let h = header_of (packet_at old) place len in
    IsEnd s (packet_at old) h
    (by_replace_step s h behind (replace_step (compression_of s) (packet_at old) place.at (srh_of h.bytes))) ended
packed_end_law s old place len suits alone packed header more behind (Some ended) would =
    let p : Packet = packet_at old in
    let h : Header = header_of p place len in
    let here = step_here s old old place len suits alone packed header in (
      moved p place.at would.0,
      (length-set p.payload (place.at + 3 - 40) would.0.segments_left, ap (by_replace_step s h behind) (here ∙ would.1)),
    )
packed_end_law s old place len suits alone packed header more behind None away =
    let p : Packet = packet_at old in
    let h : Header = header_of p place len in
    let here = step_here s old old place len suits alone packed header in
    stays s h behind (replace_step (compression_of s) p place.at (srh_of h.bytes))
    (λ end. packed_never_ends s old old place len suits alone packed header more (sym here ∙ end))
    (λ q ended is. away q ended (sym here ∙ is))

-- the length after it
stepped_by : (pops : Bool) (p q : Packet) (h : Header) (e : Endpoint) (all len : ℕ) → length h.bytes ≡ len → header_len ≤ h.place.at
    → h.place.at + len ≤ all → all ≡ header_len + length p.payload → length q.payload ≡ length p.payload
    → e ≡ (if pops then outcome_without h (Onward q) else Onward q)
    → IsLengthFrom h.place.at e (Some (if pops then all - len else all))
stepped_by true p q h e all len long start within whole same is =
    let there : GoesOn (h.place.at + length h.bytes) (Onward q) all =
    record { packet = q; is = refl; long = omega arith; reaches = omega arith } in
    let out : GoesOn h.place.at (outcome_without h (Onward q)) (all - length h.bytes) =
    length_without h (Onward q) (h.place.at + length h.bytes) (Some all) start refl there in
    subst (λ n. GoesOn h.place.at e (all - n)) long (length_earlier h.place.at h.place.at e _ (Some _) (omega arith) is out)
stepped_by false p q h e all len long start within whole same is =
    record { packet = q; is = is; long = omega arith; reaches = omega arith }

pub length_stepped : (s : SidEntry) (p : Packet) (h : Header) (e : Endpoint) (ended : Bool) (all len n : ℕ) → length h.bytes ≡ len
    → header_len ≤ h.place.at → h.place.at + len ≤ all → all ≡ header_len + length p.payload → IsEnd s p h e (Some ended)
    → n ≡ (if s.psp && ended then all - len else all) → IsLengthFrom h.place.at e (Some n)
length_stepped s p h e ended all len n long start within whole is after =
    let out = stepped_by (s.psp && ended) p is.0 h e all len long start within whole is.1.0 is.1.1 in
    subst (λ (k : ℕ). GoesOn h.place.at e k) (sym after) out

-- a packet that reaches to where a header ends has the header's bytes
pub length_room : (next by : ℕ) (e : Endpoint) (len : Option ℕ) → by ≤ next → IsLengthFrom next e len → IfSome len (λ n. by ≤ n)
length_room next by e (Some len) early goes = let reaches = goes.reaches in omega arith
length_room next by e None early away = tt

-- ---- a header whose segments are whole

pub plain_or_next : (k : Csid) → (k ≡ csids.Plain) ⊎ (k ≡ csids.Next) → is_replace k ≡ false
plain_or_next k (inl is) = ap is_replace is
plain_or_next k (inr is) = ap is_replace is

last_whole : (s : SidEntry) (p : Packet) (h : Header) → is_replace s.csid ≡ false → is_last s p h ≡ (segments_left h == 0)
last_whole s p h whole = rw whole refl

pub whole_known : (s : SidEntry) (p : Packet) (h : Header) (behind : Endpoint) → is_replace s.csid ≡ false → is_last s p h ≡ false
    → goes_on s ≡ true → at_segment_routing s p h behind ≡ after_step s h (next_segment p h.place.at (srh_of h.bytes))
whole_known s p h behind whole more goes =
    known_whole s p h behind whole ∙ whole_steps s p h behind (sym (last_whole s p h whole) ∙ more) goes

-- ---- headers that are taken out, one behind the other

less_none : (len : Option ℕ) → less_by 0 len ≡ len
less_none (Some len) = ap Some (omega arith)
less_none None = refl

less_twice : (n m all : ℕ) (len : Option ℕ) → n + m ≡ all → less_by n (less_by m len) ≡ less_by all len
less_twice n m all (Some len) sum = ap Some (omega arith)
less_twice n m all None sum = refl

-- so many bytes of headers are taken out up to a place
pub record Counted (s : SidEntry) (allow : List ℕ) (p : Packet) (start place : ChainPlace) (taken : ℕ) : Type 0 where
  pub stands : StandsIn p place
  pub room : start.at + taken ≤ place.at
  pub without : (len : Option ℕ) → IsLengthFrom place.at (at_sid_from s allow p place) len
      → IsLengthFrom start.at (at_sid_from s allow p start) (less_by taken len)

pub counted_start : (s : SidEntry) (allow : List ℕ) (p : Packet) (place : ChainPlace) → StandsIn p place
    → Counted s allow p place place 0
counted_start s allow p place stands =
    let P : Option ℕ → Type 0 = λ o. IsLengthFrom place.at (at_sid_from s allow p place) o in
    record { stands = stands; room = omega arith; without = λ len goes. subst P (sym (less_none len)) goes }

pub counted_more : (s : SidEntry) (allow bytes : List ℕ) (start from place next : ChainPlace) (taken all : ℕ) → HoldsAlone bytes
    → Counted s allow (packet_at bytes) start from taken
    → IsLast (packet_at bytes) from.at (at_sid_from s allow (packet_at bytes)) (at_sid_from s allow (packet_at bytes) from) place next
    → all ≡ taken + (next.at - place.at) → Counted s allow (packet_at bytes) start next all
counted_more s allow bytes start from place next taken all alone so is count =
    let p : Packet = packet_at bytes in
    let h : Header = header_of p place (next.at - place.at) in
    let ends = last_ends bytes from.at _ _ place next alone is in
    let sum = ends.sum in
    let later = is.header.later in
    let room = so.room in
    let long : length h.bytes ≡ next.at - place.at = is.header.long in
    let end : place.at + length h.bytes ≡ next.at = ap (λ n. place.at + n) long ∙ sum in
    let both : taken + length h.bytes ≡ all = ap (λ n. taken + n) long ∙ sym count in
    let P : Option ℕ → Type 0 = λ o. IsLengthFrom start.at (at_sid_from s allow p start) o in
    record {
      stands = is.stands;
      room = omega arith;
      without = λ len goes. subst P (less_twice taken (length h.bytes) all len both)
          (so.without (less_by (length h.bytes) len)
          (length_earlier from.at place.at _ _ (less_by (length h.bytes) len) later is.is
          (length_without h (at_sid_from s allow p next) next.at len is.header.stands.behind_header end goes)));
    }
