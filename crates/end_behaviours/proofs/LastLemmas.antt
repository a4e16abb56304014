-- The headers that a SID takes out, one behind the other.
use Rattle.std.proofs.Common.{◌≡◌, ◌⊎◌, ℕ, ◌+◌, ◌-◌, ◌*◌, ◌^◌, ◌<◌, ◌≤◌, true, ◌==◌, List, [], ◌∷◌, ◌++◌, length, refl, sym, ap, subst, ◌∙◌, arith, length-append}
use Rattle.std.specs.Prelude.{Option, Some, None, IsSome}
use Rattle.std.proofs.lemmas.Bool.{and_parts, eqb-true}
use Rattle.srv6_rules.specs.declared.numbers.TheConstants.{EXTENSION_UNIT, NEXT_HEADER_AT}
use Rattle.srv6_rules.specs.declared.sid.SidEntry.{SidEntry}
use Rattle.srv6_rules.specs.Packet.{Packet, header_len, packet_at}
use Rattle.srv6_rules.specs.Chain.{ChainPlace, Header, is_segment_routing, routing, routing_type}
use Rattle.srv6_rules.specs.ChainTerms.{StandsIn}
use Rattle.srv6_rules.specs.Endpoint.{Endpoint, outcome_without}
use Rattle.srv6_rules.specs.Srh.{segment_routing}
use Rattle.ip6_headers.proofs.PublicLaws.{holds_spellable}
use Rattle.pkt_buf.specs.BufferView.{Buffer}
use Rattle.endpoint_chain.specs.ChainFronts.{FrontAfter}
use Rattle.endpoint_chain.specs.Outcomes.{ComesOf, HoldsAlone}
use Rattle.endpoint_chain.specs.declared.outcome.EndOutcome.{EndOutcome}
use Rattle.endpoint_chain.specs.declared.outcome.EndOutcome.TheVariants.{On, Hand, Local, Drop}
use Rattle.endpoint_chain.proofs.PublicLaws.{alone_length}
use Rattle.end_behaviours.specs.declared.end_headers.Decision.{Decision}
use Rattle.end_behaviours.specs.declared.last_headers.LastHeader.{LastHeader}
use Rattle.end_behaviours.specs.HeaderFinding.{IsDecided, IsLast, LiesAt, at_sid_from, header_of}
use Rattle.end_behaviours.specs.LastHeaders.{CanTakeOut, DecidedBehind, EndsBefore, TakenOut, TakesFrom, first_at, last_header, last_place}
use Rattle.end_behaviours.specs.SrhStepping.{Reaches, Remains}
use Rattle.end_behaviours.proofs.EndRemovalLemmas.{left_remains}
use Rattle.end_behaviours.proofs.TreatmentLemmas.{last_ends}

first_behind : (lasts : List LastHeader) (last : LastHeader) (at : ℕ) → first_at (lasts ++ last ∷ []) at ≡ first_at lasts last.at
first_behind [] last at = refl
first_behind (x ∷ xs) last at = refl

-- one more behind them
pub taken_more : (p : Packet) (lasts : List LastHeader) (last : LastHeader) (at : ℕ) (behind e : Endpoint) → EndsBefore p last at
    → TakenOut p lasts last.at (outcome_without (last_header p last) behind) e → TakenOut p (lasts ++ last ∷ []) at behind e
taken_more p [] last at behind e there is = (there, (behind, (refl, is)))
taken_more p (x ∷ xs) last at behind e there taken =
    let P : ℕ → Type 0 = λ n. EndsBefore p x n in (
      subst P (sym (first_behind xs last at)) taken.0,
      (taken.1.0, (taken_more p xs last at behind taken.1.0 there taken.1.1.0, taken.1.1.1)),
    )

-- the last of them, and those in front of it
pub taken_less : (p : Packet) (lasts : List LastHeader) (last : LastHeader) (at : ℕ) (behind e : Endpoint)
    → TakenOut p (lasts ++ last ∷ []) at behind e
    → EndsBefore p last at × TakenOut p lasts last.at (outcome_without (last_header p last) behind) e
taken_less p [] last at behind e taken = (taken.0, taken.1.1.1 ∙ ap (outcome_without (last_header p last)) taken.1.1.0)
taken_less p (x ∷ xs) last at behind e taken =
    let P : ℕ → Type 0 = λ n. EndsBefore p x n in
    let rest = taken_less p xs last at behind taken.1.0 taken.1.1.0 in (
      rest.0,
      (subst P (first_behind xs last at) taken.0, (taken.1.0, (rest.1, taken.1.1.1))),
    )

-- up to a later place
ends_later : (p : Packet) (last : LastHeader) (lasts : List LastHeader) (at later : ℕ) → at ≤ later
    → EndsBefore p last (first_at lasts at) → EndsBefore p last (first_at lasts later)
ends_later p last [] at later before there = let ends = there.ends in record { header = there.header; ends = omega arith }
ends_later p last (x ∷ xs) at later before there = there

pub taken_later : (p : Packet) (lasts : List LastHeader) (at later : ℕ) (behind same e : Endpoint) → at ≤ later → behind ≡ same
    → TakenOut p lasts at behind e → TakenOut p lasts later same e
taken_later p [] at later behind same e before is taken = taken ∙ is
taken_later p (x ∷ xs) at later behind same e before is taken = (
  ends_later p x xs at later before taken.0,
  (taken.1.0, (taken_later p xs at later behind same taken.1.0 before is taken.1.1.0, taken.1.1.1)),
)

-- ---- headers that are found

-- the headers that were found up to a place are taken out of what comes of the packet from there on
pub record Deciding (s : SidEntry) (allow : List ℕ) (p : Packet) (first : List LastHeader) (start : ChainPlace) (lasts : List LastHeader)
    (place : ChainPlace) : Type 0 where
  pub stands : StandsIn p place
  pub room : header_len + EXTENSION_UNIT * length lasts ≤ place.at
  pub taken : (e : Endpoint) → TakenOut p first start.at (at_sid_from s allow p start) e
      → TakenOut p lasts place.at (at_sid_from s allow p place) e

pub deciding_start : (s : SidEntry) (allow : List ℕ) (p : Packet) (lasts : List LastHeader) (place : ChainPlace) → StandsIn p place
    → header_len + EXTENSION_UNIT * length lasts ≤ place.at → Deciding s allow p lasts place lasts place
deciding_start s allow p lasts place stands room = record { stands = stands; room = room; taken = λ e taken. taken }

-- a segment routing header is one of the kind that routing headers have
pub routing_kind : (h : Header) → is_segment_routing h ≡ true → h.place.kind ≡ routing
routing_kind h known =
    eqb-true h.place.kind routing (and_parts (h.place.kind == routing) (routing_type h == segment_routing) known).0

-- so many headers have room
pub last_fits : (bytes : List ℕ) (first n : ℕ) (rest : ChainPlace → Endpoint) (e : Endpoint) (place next : ChainPlace) → HoldsAlone bytes
    → header_len + EXTENSION_UNIT * n ≤ first → IsLast (packet_at bytes) first rest e place next
    → (n < 8191) × (place.at + (next.at - place.at) < 2 ^ 32)
last_fits bytes first n rest e place next alone room last =
    let least = last.header.lies.least in
    let within = last.header.lies.within in
    let long = last.header.long in
    let later = last.header.later in
    let short = (holds_spellable bytes alone.holds).payload_len in
    (omega arith, omega arith)

-- one that is found
pub deciding_more : (s : SidEntry) (allow bytes : List ℕ) (first : List LastHeader) (start : ChainPlace) (lasts more : List LastHeader)
    (from place next : ChainPlace) (last : LastHeader) → HoldsAlone bytes
    → Deciding s allow (packet_at bytes) first start lasts from
    → IsLast (packet_at bytes) from.at (at_sid_from s allow (packet_at bytes)) (at_sid_from s allow (packet_at bytes) from) place next
    → last_place last ≡ place → last.len ≡ next.at - place.at → more ≡ lasts ++ last ∷ []
    → Deciding s allow (packet_at bytes) first start more next
deciding_more s allow bytes first start lasts more from place next last alone so is at len all =
    let p : Packet = packet_at bytes in
    let ends = last_ends bytes from.at _ _ place next alone is in
    let sum = ends.sum in
    let least = is.header.lies.least in
    let long = is.header.long in
    let later = is.header.later in
    let room = so.room in
    let stood : last.at ≡ place.at = ap (λ k. k.at) at in
    let P : ChainPlace → Type 0 = λ k. LiesAt p from.at k (next.at - place.at) in
    let Q : ℕ → Type 0 = λ n. LiesAt p from.at (last_place last) n in
    let lies : LiesAt p from.at (last_place last) last.len = subst Q (sym len) (subst P (sym at) is.header) in
    let there : EndsBefore p last next.at = record {
      header = record { lies = lies.lies; long = lies.long; stands = lies.stands; later = omega arith; routing = lies.routing };
      ends = omega arith;
    } in
    let same : header_of p place (next.at - place.at) ≡ last_header p last =
    ap (λ k. header_of p k (next.at - place.at)) (sym at) ∙ ap (header_of p (last_place last)) (sym len) in
    let behind : at_sid_from s allow p from ≡ outcome_without (last_header p last) (at_sid_from s allow p next) =
    is.is ∙ ap (λ h. outcome_without h (at_sid_from s allow p next)) same in
    let count : length more ≡ length lasts + 1 = ap length all ∙ length-append lasts (last ∷ []) in
    let R : Endpoint → List LastHeader → Type 0 = λ e xs. TakenOut p xs next.at (at_sid_from s allow p next) e in
    record {
      stands = is.stands;
      room = omega arith;
      taken = λ e taken. subst (R e) (sym all) (taken_more p lasts last next.at (at_sid_from s allow p next) e there
          (taken_later p lasts from.at last.at _ _ e (omega arith) behind (so.taken e taken)));
    }

-- the first of them, where it is taken out of what comes of the packet after it
pub decided_without : (s : SidEntry) (allow seen old : List ℕ) (place next : ChainPlace) (last : LastHeader)
    (none one lasts : List LastHeader) (decision : Decision) → HoldsAlone old → LiesAt (packet_at old) place.at place (next.at - place.at)
    → last_place last ≡ place → last.len ≡ next.at - place.at → none ≡ [] → one ≡ none ++ last ∷ [] → seen ≡ old
    → ((e : Endpoint) → TakenOut (packet_at seen) one next.at (at_sid_from s allow (packet_at seen) next) e
    → DecidedBehind s (packet_at seen) lasts e decision)
    → DecidedBehind s (packet_at old) lasts (outcome_without (header_of (packet_at old) place (next.at - place.at))
    (at_sid_from s allow (packet_at old) next)) decision
decided_without s allow seen old place next last none one lasts decision alone is at len no_one all same decided =
    let p : Packet = packet_at old in
    let behind : Endpoint = at_sid_from s allow p next in
    let least = is.lies.least in
    let long = is.long in
    let stood : last.at ≡ place.at = ap (λ k. k.at) at in
    let P : ChainPlace → Type 0 = λ k. LiesAt p place.at k (next.at - place.at) in
    let Q : ℕ → Type 0 = λ n. LiesAt p place.at (last_place last) n in
    let lies : LiesAt p place.at (last_place last) last.len = subst Q (sym len) (subst P (sym at) is) in
    let there : EndsBefore p last next.at = record {
      header = record { lies = lies.lies; long = lies.long; stands = lies.stands; later = omega arith; routing = lies.routing };
      ends = omega arith;
    } in
    let header : header_of p place (next.at - place.at) ≡ last_header p last =
    ap (λ k. header_of p k (next.at - place.at)) (sym at) ∙ ap (header_of p (last_place last)) (sym len) in
    let e : Endpoint = outcome_without (header_of p place (next.at - place.at)) behind in
    let one_is : one ≡ last ∷ [] = all ∙ ap (λ xs. xs ++ last ∷ []) no_one in
    let R : List LastHeader → Type 0 = λ xs. TakenOut p xs next.at behind e in
    let S : List ℕ → Type 0 = λ xs. (x : Endpoint) → TakenOut (packet_at xs) one next.at (at_sid_from s allow (packet_at xs) next) x
    → DecidedBehind s (packet_at xs) lasts x decision in
    subst S same decided e (subst R (sym one_is) (there, (behind, (refl, ap (λ h. outcome_without h behind) header))))

-- ---- headers that are taken out

-- where what was decided is done
pub decided_takes : (s : SidEntry) (old new : List ℕ) (lasts : List LastHeader) (e : Endpoint) (decision : Decision) (outcome : EndOutcome)
    → HoldsAlone old
    → ((first : ℕ) (x : Endpoint) → IsDecided s (packet_at old) first x decision → ComesOf x old new outcome)
    → ((first : ℕ) (x : Endpoint) → IsDecided s (packet_at old) first x decision → first ≤ length old → Reaches first new outcome)
    → DecidedBehind s (packet_at old) lasts e decision → TakesFrom lasts new outcome e old
decided_takes s old new lasts e decision outcome alone comes reaches decided =
    let within = decided.within in
    let all = alone_length old alone in
    record {
      packet = packet_at old;
      at = decided.at;
      behind = decided.behind;
      taken = decided.taken;
      comes = comes decided.at decided.behind decided.is;
      reaches = reaches decided.at decided.behind decided.is (omega arith);
    }

reaches_earlier : (n at : ℕ) (bytes : List ℕ) (outcome : EndOutcome) → n ≤ at → Reaches at bytes outcome → Reaches n bytes outcome
reaches_earlier n at bytes On before reaches = omega arith
reaches_earlier n at bytes (Hand family) before reaches = tt
reaches_earlier n at bytes Local before reaches = omega arith
reaches_earlier n at bytes (Drop reason place) before reaches = tt

-- the last of them can be taken out
pub record CanTakeLast (last : LastHeader) (bytes : List ℕ) (outcome : EndOutcome) : Type 0 where
  pub remains : Remains (last.at + last.len) bytes outcome
  pub behind : header_len ≤ last.at
  pub earlier : last.named_at < last.at
  pub field : (last.named_at ≡ NEXT_HEADER_AT) ⊎ (header_len ≤ last.named_at)
  pub some : 1 ≤ last.len

pub can_take_last : (lasts rest : List LastHeader) (last : LastHeader) (bytes : List ℕ) (outcome : EndOutcome)
    → lasts ≡ rest ++ last ∷ [] → CanTakeOut lasts bytes outcome → CanTakeLast last bytes outcome
can_take_last lasts rest last bytes outcome is can =
    let takes = can.1.1 in
    let P : List LastHeader → Type 0 = λ xs. TakenOut takes.packet xs takes.at takes.behind can.0 in
    let there = (taken_less takes.packet rest last takes.at takes.behind can.0 (subst P is takes.taken)).0 in
    let header = there.header in
    let least = header.lies.least in
    let long = header.long in
    record {
      remains = left_remains takes.behind (last.at + last.len) can.1.0 bytes outcome takes.comes
          (reaches_earlier (last.at + last.len) takes.at bytes outcome there.ends takes.reaches);
      behind = header.stands.behind_header;
      earlier = header.stands.earlier;
      field = header.stands.field;
      some = omega arith;
    }

-- what comes of a packet without a header of a place and a length
abbrev pub OutOf : ChainPlace → ℕ → List ℕ → List ℕ → EndOutcome → Type 0
OutOf place len bytes new outcome =
    (e : Endpoint) (first : List ℕ) (h : Header) → h.place ≡ place → length h.bytes ≡ len → ComesOf e first bytes outcome
    → ComesOf (outcome_without h e) first new outcome

pub take_last : (lasts rest : List LastHeader) (last : LastHeader) (bytes new : List ℕ) (outcome : EndOutcome)
    → lasts ≡ rest ++ last ∷ [] → OutOf (last_place last) last.len bytes new outcome → Reaches last.at new outcome
    → (e : Endpoint) (first : List ℕ) → TakesFrom lasts bytes outcome e first → TakesFrom rest new outcome e first
take_last lasts rest last bytes new outcome is out reaches e first takes =
    let p : Packet = takes.packet in
    let P : List LastHeader → Type 0 = λ xs. TakenOut p xs takes.at takes.behind e in
    let less = taken_less p rest last takes.at takes.behind e (subst P is takes.taken) in
    record {
      packet = p;
      at = last.at;
      behind = outcome_without (last_header p last) takes.behind;
      taken = less.1;
      comes = out takes.behind first (last_header p last) refl less.0.header.long takes.comes;
      reaches = reaches;
    }

-- some of them are taken out, the last ones first
pub record Taking (outcome : EndOutcome) (first : List LastHeader) (old : Buffer) (lasts : List LastHeader) (new : Buffer) : Type 0 where
  pub can : CanTakeOut lasts new.bytes outcome
  pub takes : (e : Endpoint) (bytes : List ℕ) → TakesFrom first old.bytes outcome e bytes → TakesFrom lasts new.bytes outcome e bytes
  pub front : (before : Buffer) → FrontAfter before old outcome → FrontAfter before new outcome

pub taking_start : (outcome : EndOutcome) (lasts : List LastHeader) (old : Buffer) → CanTakeOut lasts old.bytes outcome
    → Taking outcome lasts old lasts old
taking_start outcome lasts old can = record { can = can; takes = λ e bytes takes. takes; front = λ before front. front }

pub taking_more : (outcome : EndOutcome) (first : List LastHeader) (old : Buffer) (lasts rest : List LastHeader) (last : LastHeader)
    (now new : Buffer) → Taking outcome first old lasts now → lasts ≡ rest ++ last ∷ []
    → OutOf (last_place last) last.len now.bytes new.bytes outcome → Reaches last.at new.bytes outcome
    → ((before : Buffer) → FrontAfter before now outcome → FrontAfter before new outcome) → Taking outcome first old rest new
taking_more outcome first old lasts rest last now new so is out reaches front =
    let can = so.can in
    record {
      can = (can.0, (can.1.0, take_last lasts rest last now.bytes new.bytes outcome is out reaches can.0 can.1.0 can.1.1));
      takes = λ e bytes takes. take_last lasts rest last now.bytes new.bytes outcome is out reaches e bytes (so.takes e bytes takes);
      front = λ before held. front before (so.front before held);
    }

none_left : (lasts : List LastHeader) → (0 < length lasts → ⊥) → lasts ≡ []
none_left [] none = refl
none_left (x ∷ xs) none = absurd (none (omega arith))

-- nothing is left where none comes
pub none_comes : (lasts : List LastHeader) (last : Option LastHeader) → ((x : LastHeader) → last ≡ Some x → ⊥)
    → (0 < length lasts → IsSome last) → 0 < length lasts → ⊥
none_comes lasts None none is left = let bad = is left in cc
none_comes lasts (Some x) none is left = none x refl

-- all are taken out
pub taking_ends : (outcome : EndOutcome) (first : List LastHeader) (old : Buffer) (lasts : List LastHeader) (new : Buffer)
    → Taking outcome first old lasts new → (0 < length lasts → ⊥) → (e : Endpoint) (bytes : List ℕ)
    → TakesFrom first old.bytes outcome e bytes → ComesOf e bytes new.bytes outcome
taking_ends outcome first old lasts new so none e bytes takes =
    let all = so.takes e bytes takes in
    let P : List LastHeader → Type 0 = λ xs. TakenOut all.packet xs all.at all.behind e in
    let is : e ≡ all.behind = subst P (none_left lasts none) all.taken in
    let Q : Endpoint → Type 0 = λ x. ComesOf x bytes new.bytes outcome in
    subst Q (sym is) all.comes
