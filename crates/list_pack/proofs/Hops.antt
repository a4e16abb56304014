-- What the hops of a path say of its SIDs.
use Rattle.std.proofs.Common.{◌≡◌, ℕ, ◌+◌, Bool, true, List, [], ◌∷◌, Option, Some, None, refl, ◌∙◌, ap, arith}
use Rattle.std.specs.Option.{option_map}
use Rattle.std.proofs.lemmas.Option.{none-some}
use Rattle.std.proofs.lemmas.Bool.{false≢true}
use Rattle.v6_addr.specs.Address.{PrefixValue}
use Rattle.sid_list_spec.specs.SegmentLists.{ListSid}
use Rattle.list_pack.specs.declared.types.Leg.{Leg}
use Rattle.list_pack.specs.LegsValue.{LegsValue}
use Rattle.list_pack.specs.LegsValueTerms.{KeepsLaws, IsSid}
use Rattle.list_pack.specs.PathsTerms.{with_hops, hops_of, with_room, SuitsLists}
use Rattle.list_pack.proofs.StepContainers.{Pair}

-- the hops of SIDs are there, if there are SIDs
abbrev pub HopsFrom : LegsValue → ℕ → Option ℕ → List ℕ → Type 0
HopsFrom v position via [] = Unit {0}
HopsFrom v position via (n ∷ ns) = (h : ℕ) × (hops_of v position via (n ∷ ns) ≡ Some h)

hops_parts : (o : Option Leg) (later : ℕ → Option ℕ) (h : ℕ) → with_hops o later ≡ Some h
    → (leg : Leg) × (o ≡ Some leg) × (rest : ℕ) × (later leg.to ≡ Some rest)
hops_parts None later h e = absurd (none-some h e)
hops_parts (Some leg) later h e = by (later leg.to) refl e
  where
    by : (o : Option ℕ) → later leg.to ≡ o → option_map (λ n. leg.hops + n) o ≡ Some h
        → (l : Leg) × (Some leg ≡ Some l) × (rest : ℕ) × (later l.to ≡ Some rest)
    by None same f = absurd (none-some h f)
    by (Some rest) same f = (leg, refl, rest, same)

-- two SIDs of a search, one after the other, of which the first is a middle one
pub record Here (v : LegsValue) (via n : ℕ) : Type 0 where
  pub via_sid : IsSid v via
  pub middle : (v.shape via).middle ≡ true
  pub next_sid : IsSid v n

pub hops_here : (v : LegsValue) → KeepsLaws v → (position via n : ℕ) (ns : List ℕ) → HopsFrom v position (Some via) (n ∷ ns)
    → Here v via n
hops_here v laws position via n [] (h, e) =
    let is = laws.finish position (Some via) n h e in
    record { via_sid = (position, is.start, is.from_via.0); middle = is.from_via.1; next_sid = (v.steps, omega arith, is.is_next) }
hops_here v laws position via n (m ∷ ms) (h, e) =
    let parts = hops_parts (v.leg position (Some via) n) (λ to. hops_of v to (Some n) (m ∷ ms)) h e in
    let is = laws.leg position (Some via) n parts.0 parts.1 in
    record { via_sid = (position, is.start, is.from_via.0); middle = is.from_via.1; next_sid = (parts.0.to, is.within, is.is_next) }

pub hops_first : (v : LegsValue) → KeepsLaws v → (position : ℕ) (via : Option ℕ) (n : ℕ) (ns : List ℕ) → HopsFrom v position via (n ∷ ns)
    → IsSid v n
hops_first v laws position via n [] (h, e) =
    let is = laws.finish position via n h e in
    (v.steps, omega arith, is.is_next)
hops_first v laws position via n (m ∷ ms) (h, e) =
    let parts = hops_parts (v.leg position via n) (λ to. hops_of v to (Some n) (m ∷ ms)) h e in
    let is = laws.leg position via n parts.0 parts.1 in
    (parts.0.to, is.within, is.is_next)

pub hops_next : (v : LegsValue) (position : ℕ) (via : Option ℕ) (n : ℕ) (ns : List ℕ) → HopsFrom v position via (n ∷ ns)
    → (to : ℕ) × HopsFrom v to (Some n) ns
hops_next v position via n [] (h, e) = (0, tt)
hops_next v position via n (m ∷ ms) (h, e) =
    let parts = hops_parts (v.leg position via n) (λ to. hops_of v to (Some n) (m ∷ ms)) h e in
    (parts.0.to, (parts.2, parts.3))

-- such SIDs as a search and as lists know them
pub pair_of : {Follows : PrefixValue → PrefixValue → Type 0} (v : LegsValue) (sid_on : PrefixValue → ListSid) → KeepsLaws v
    → SuitsLists v sid_on Follows → (via n : ℕ) → Here v via n
    → Pair (v.shape via) (v.shape n) (sid_on (v.shape via).prefix) (sid_on (v.shape n).prefix)
pair_of v sid_on laws suits via n here =
    record {
      here = laws.shapes via here.via_sid;
      next = laws.shapes n here.next_sid;
      share = laws.blocks via n here.via_sid here.next_sid;
      flavour = suits.middle via here.via_sid here.middle;
      in_block = (suits.in_block via here.via_sid).0;
      same = λ some. (suits.one_block via n here.via_sid here.next_sid some).0;
      back = λ some. (suits.one_block via n here.via_sid here.next_sid some).1;
      len = ap (λ (p : PrefixValue). p.len) (suits.prefix (v.shape n).prefix);
      fits = suits.fits n here.next_sid;
      lbl = suits.block_len n here.next_sid;
      csids = suits.replace via here.via_sid;
      next_csids = suits.replace n here.next_sid;
    }

-- ---- rooms

pub room_parts : (o : Option ℕ) (later : ℕ → Bool) → with_room o later ≡ true → (q : ℕ) × (o ≡ Some q) × (later q ≡ true)
room_parts None later e = absurd (false≢true e)
room_parts (Some q) later e = (q, refl, e)

pub room_made : (o : Option ℕ) (later : ℕ → Bool) (q : ℕ) → o ≡ Some q → later q ≡ true → with_room o later ≡ true
room_made o later q e h = ap (λ (x : Option ℕ). with_room x later) e ∙ h
