-- What comes of a packet at a SID does not depend on the hop limit, but that what goes on is refused where that is at most 1.
use Rattle.std.proofs.Common.{◌≡◌, ℕ, ◌+◌, ◌-◌, ◌<◌, ◌≤◌, ◌⊎◌, inl, inr, Bool, true, false, ◌==◌, ◌&&◌, not, nat_le, if◌then◌else◌, List, [], ◌∷◌, Option, Some, None, refl, sym, ◌∙◌, ap}
use Rattle.std.proofs.lemmas.Bool.{false≢true, le-leb, lt-leb, leb-true, leb-false, and_parts}
use Rattle.srv6_rules.specs.declared.family.Family.{Family}
use Rattle.srv6_rules.specs.declared.reason.Reason.{Reason}
use Rattle.srv6_rules.specs.declared.reason.Reason.TheVariants as reasons
use Rattle.srv6_rules.specs.declared.sid.SidEntry.{SidEntry}
use Rattle.srv6_rules.specs.Behaviours.{goes_on, exposes, family_inside}
use Rattle.srv6_rules.specs.CompressedSteps.{compression_of, is_replace, shifted, is_at_end, lacks_entry, is_ended, has_bad_list, Move, move_of, moved, ReplaceStep, Moved, AtEnd, Dropped, unless_dropped, hop_limit_fault, replace_step, segments_fault}
use Rattle.srv6_rules.specs.Packet.{Packet}
use Rattle.srv6_rules.specs.Srh.{Srh, srh_of, segments_left_at, routing_type_at}
use Rattle.srv6_rules.specs.Areas.{Fault, options_fault, tlvs_fault}
use Rattle.srv6_rules.specs.Chain.{Header, ChainPlace, ChainEnd, Upper, Cut, hop_by_hop, fragment, destination_options, is_first, segments_left, is_segment_routing, from_place, chain_of, without}
use Rattle.srv6_rules.specs.Endpoint.{Endpoint, Onward, Exposed, Delivered, Refused, at_sid, at_header, at_sid_routing, at_whole_segments, at_packed_segments, by_replace_step, at_end, over_headers, upper_layer, unless_fault, next_segment, next_csid, has_bad_segments, advanced, as_in, outcome_without, leaves_none, is_allowed, shifts_at, is_options}
use Rattle.srv6_rules.proofs.PublicLaws.{without_others}
use Rattle.leg_table.specs.TransitsTerms.{with_hop_limit}
use Rattle.leg_table.specs.StrictLegsTerms.{is_onward, is_exposed}

-- what comes of packets by the upper layers that are taken and by the hop limit
abbrev By : Type 0
By = List ℕ → ℕ → Endpoint

-- the packet goes on where the hop limit is above 1, one lower, and is refused for its hop limit where it isn't; something is so of the SID
-- then
pub record GoesOn (Moves : Type 0) (f : By) : Type 0 where
  pub moves : Moves
  pub high : (allow : List ℕ) (limit : ℕ) → 1 < limit → (q : Packet) × (f allow limit ≡ Onward q) × (q.hop_limit ≡ limit - 1)
  pub low : (allow : List ℕ) (limit : ℕ) → limit ≤ 1 → f allow limit ≡ Refused reasons.HopLimit 0

-- the packet inside is exposed, whatever the hop limit is
pub record Shows (f : By) : Type 0 where
  pub family : Family
  pub bytes : List ℕ
  pub shown : (allow : List ℕ) (limit : ℕ) → f allow limit ≡ Exposed family bytes

-- neither is so
pub record Ends (f : By) : Type 0 where
  pub stays : (allow : List ℕ) (limit : ℕ) → is_onward (f allow limit) ≡ false
  pub hides : (allow : List ℕ) (limit : ℕ) → is_exposed (f allow limit) ≡ false

-- one of the three
pub data Alike (Moves : Type 0) (f : By) : Type 0 where
  Goes : GoesOn Moves f → Alike Moves f
  Exposes : Shows f → Alike Moves f
  Neither : Ends f → Alike Moves f

alike_if : {M : Type 0} (b : Bool) (f g : By) → (b ≡ true → Alike M f) → (b ≡ false → Alike M g)
    → Alike M (λ allow limit. if b then f allow limit else g allow limit)
alike_if true f g one other = one refl
alike_if false f g one other = other refl

alike_same : {M : Type 0} (f g : By) → ((allow : List ℕ) (limit : ℕ) → f allow limit ≡ g allow limit) → Alike M g → Alike M f
alike_same f g same (Goes r) =
    Goes (record {
      moves = r.moves;
      high = λ allow limit above. let got = r.high allow limit above in (got.0, same allow limit ∙ got.1, got.2);
      low = λ allow limit below. same allow limit ∙ r.low allow limit below;
    })
alike_same f g same (Exposes x) =
    Exposes (record { family = x.family; bytes = x.bytes; shown = λ allow limit. same allow limit ∙ x.shown allow limit })
alike_same f g same (Neither n) =
    Neither (record {
      stays = λ allow limit. ap is_onward (same allow limit) ∙ n.stays allow limit;
      hides = λ allow limit. ap is_exposed (same allow limit) ∙ n.hides allow limit;
    })

alike_refused : {M : Type 0} (reason : Reason) (at : ℕ) → Alike M (λ allow limit. Refused reason at)
alike_refused reason at = Neither (record { stays = λ allow limit. refl; hides = λ allow limit. refl })

alike_unless : {M : Type 0} (o : Option Fault) (f : By) → Alike M f → Alike M (λ allow limit. unless_fault o (f allow limit))
alike_unless None f same = same
alike_unless (Some fault) f same = alike_refused fault.reason fault.at

-- a header that is taken out of what came of those after it makes no difference
onward_out : (h : Header) (x : Endpoint) → is_onward (outcome_without h x) ≡ is_onward x
onward_out h (Onward q) = refl
onward_out h (Exposed family bytes) = refl
onward_out h (Delivered q) = refl
onward_out h (Refused reason at) = refl

exposed_out : (h : Header) (x : Endpoint) → is_exposed (outcome_without h x) ≡ is_exposed x
exposed_out h (Onward q) = refl
exposed_out h (Exposed family bytes) = refl
exposed_out h (Delivered q) = refl
exposed_out h (Refused reason at) = refl

alike_out : {M : Type 0} (h : Header) (f : By) → Alike M f → Alike M (λ allow limit. outcome_without h (f allow limit))
alike_out h f (Goes g) =
    Goes (record {
      moves = g.moves;
      high = λ allow limit above. let r = g.high allow limit above in (
        without r.0 (as_in r.0 h),
        ap (outcome_without h) r.1,
        ap (λ (x : Packet). x.hop_limit) (without_others r.0 (as_in r.0 h)) ∙ r.2,
      );
      low = λ allow limit below. ap (outcome_without h) (g.low allow limit below);
    })
alike_out h f (Exposes s) =
    Exposes (record { family = s.family; bytes = s.bytes; shown = λ allow limit. ap (outcome_without h) (s.shown allow limit) })
alike_out h f (Neither n) =
    Neither (record {
      stays = λ allow limit. onward_out h (f allow limit) ∙ n.stays allow limit;
      hides = λ allow limit. exposed_out h (f allow limit) ∙ n.hides allow limit;
    })

alike_out_if : {M : Type 0} (b : Bool) (h : Header) (f : By) → Alike M f
    → Alike M (λ allow limit. if b then outcome_without h (f allow limit) else f allow limit)
alike_out_if true h f same = alike_out h f same
alike_out_if false h f same = same

-- where a hop limit above 1 goes on, one lower
alike_above : {M : Type 0} → M → (q : ℕ → Packet) → ((limit : ℕ) → (q limit).hop_limit ≡ limit - 1)
    → Alike M (λ allow limit. if nat_le limit 1 then Refused reasons.HopLimit 0 else Onward (q limit))
alike_above moves q lower =
    Goes (record {
      moves = moves;
      high = λ allow limit above. (q limit, rw (lt-leb limit 1 above) refl, lower limit);
      low = λ allow limit below. rw (le-leb limit 1 below) refl;
    })

-- where one is refused for another reason
alike_low : {M : Type 0} (reason : Reason) (at : ℕ) → Alike M (λ allow limit. if nat_le limit 1 then Refused reasons.HopLimit 0 else
    Refused reason at)
alike_low reason at =
    Neither (record { stays = λ allow limit. on (nat_le limit 1); hides = λ allow limit. out (nat_le limit 1) })
  where
    on : (b : Bool) → is_onward (if b then Refused reasons.HopLimit 0 else Refused reason at) ≡ false
    on true = refl
    on false = refl

    out : (b : Bool) → is_exposed (if b then Refused reasons.HopLimit 0 else Refused reason at) ≡ false
    out true = refl
    out false = refl

module _ (s : SidEntry) (p : Packet) where
  -- a SID from which packets go on, or that shifts this one
  abbrev pub Moves : Type 0
  Moves = (goes_on s ≡ true) ⊎ (shifts_at s p ≡ true)

  -- the step over whole segments
  alike_segment : Moves → (at : ℕ) (srh : Srh) → Alike Moves (λ allow limit. next_segment (with_hop_limit limit p) at srh)
  alike_segment moves at srh = by_tests (has_bad_segments srh) (tlvs_fault at srh)
    where
      by_tests : (bad : Bool) (fault : Option Fault)
          → Alike Moves (λ allow limit. if nat_le limit 1 then Refused reasons.HopLimit 0
          else if bad then Refused reasons.BadSegments (at + segments_left_at)
          else unless_fault fault (Onward (advanced (with_hop_limit limit p) at srh)))
      by_tests true fault = alike_low reasons.BadSegments (at + segments_left_at)
      by_tests false (Some x) = alike_low x.reason x.at
      by_tests false None = alike_above moves (λ limit. advanced (with_hop_limit limit p) at srh) (λ limit. refl)

  alike_csid : shifts_at s p ≡ true → Alike Moves (λ allow limit. next_csid s (with_hop_limit limit p))
  alike_csid shifts = alike_above (inr shifts) (λ limit. shifted (compression_of s) (with_hop_limit limit p)) (λ limit. refl)

  alike_whole : (h : Header) (rest : By) → Alike Moves rest → Alike Moves (λ allow limit. at_whole_segments s (with_hop_limit limit p) h
      (rest allow limit))
  alike_whole h rest same =
      alike_if (segments_left h == 0) _ _ (λ none. alike_out_if s.usp h rest same)
      (λ some. alike_if (goes_on s) _ _
      (λ goes. alike_out_if (s.psp && leaves_none (srh_of h.bytes)) h _ (alike_segment (inl goes) h.place.at (srh_of h.bytes)))
      (λ stays. alike_refused reasons.BadSegments (h.place.at + segments_left_at)))

  -- the step over packed segments
  abbrev step_by : Bool → Bool → Bool → Option Fault → Header → ℕ → ReplaceStep
  step_by lacks end bad fault h limit =
      let q = with_hop_limit limit p in
      let m = move_of (compression_of s) (srh_of h.bytes) p.destination in
      if lacks then Dropped (segments_fault h.place.at)
      else if end then AtEnd
      else unless_dropped (hop_limit_fault q)
      (if bad then Dropped (segments_fault h.place.at) else unless_dropped fault (Moved (moved q h.place.at m) m.ended))

  alike_step : goes_on s ≡ true → (h : Header) (rest : By) → Alike Moves rest
      → Alike Moves (λ allow limit. by_replace_step s h (rest allow limit)
      (replace_step (compression_of s) (with_hop_limit limit p) h.place.at (srh_of h.bytes)))
  alike_step goes h rest same =
      by_tests (lacks_entry (compression_of s) (srh_of h.bytes) p.destination)
      (is_ended (compression_of s) (srh_of h.bytes) (srh_of h.bytes).segments_left p.destination)
      (has_bad_list (compression_of s) (srh_of h.bytes) p.destination) (tlvs_fault h.place.at (srh_of h.bytes))
    where
      m : Move
      m = move_of (compression_of s) (srh_of h.bytes) p.destination

      low_dropped : (fault : Fault) (limit : ℕ) (b : Bool) (x : Endpoint)
          → by_replace_step s h x (unless_dropped (if b then Some (record { reason = reasons.HopLimit; at = 0 }) else None) (Dropped fault))
          ≡ (if b then Refused reasons.HopLimit 0 else Refused fault.reason fault.at)
      low_dropped fault limit true x = refl
      low_dropped fault limit false x = refl

      low_moved : (limit : ℕ) (b pops : Bool) (x : Endpoint) (q : Packet) → (s.psp && m.ended) ≡ pops
          → by_replace_step s h x (unless_dropped (if b then Some (record { reason = reasons.HopLimit; at = 0 }) else None)
          (Moved q m.ended))
          ≡ (if pops then outcome_without h (if b then Refused reasons.HopLimit 0 else Onward q)
          else (if b then Refused reasons.HopLimit 0 else Onward q))
      low_moved limit true true x q e = refl
      low_moved limit true false x q e = refl
      low_moved limit false true x q e = rw e refl
      low_moved limit false false x q e = rw e refl

      by_tests : (lacks end bad : Bool) (fault : Option Fault)
          → Alike Moves (λ allow limit. by_replace_step s h (rest allow limit) (step_by lacks end bad fault h limit))
      by_tests true end bad fault = alike_refused reasons.BadSegments (h.place.at + segments_left_at)
      by_tests false true bad fault = alike_out_if s.usp h rest same
      by_tests false false true fault =
          alike_same _ _ (λ allow limit. low_dropped (segments_fault h.place.at) limit (nat_le limit 1) (rest allow limit))
          (alike_low reasons.BadSegments (h.place.at + segments_left_at))
      by_tests false false false (Some x) =
          alike_same _ _ (λ allow limit. low_dropped x limit (nat_le limit 1) (rest allow limit)) (alike_low x.reason x.at)
      by_tests false false false None =
          alike_same _ _ (λ allow limit. low_moved limit (nat_le limit 1) (s.psp && m.ended) (rest allow limit)
          (moved (with_hop_limit limit p) h.place.at m) refl)
          (alike_out_if (s.psp && m.ended) h _ (alike_above (inl goes) (λ limit. moved (with_hop_limit limit p) h.place.at m)
          (λ limit. refl)))

  alike_packed : (h : Header) (rest : By) → Alike Moves rest
      → Alike Moves (λ allow limit. at_packed_segments s (with_hop_limit limit p) h (rest allow limit))
  alike_packed h rest same =
      alike_if (goes_on s) _ _ (λ goes. alike_step goes h rest same)
      (λ stays. alike_if (is_at_end (compression_of s) (srh_of h.bytes) p.destination) _ _ (λ end. alike_out_if s.usp h rest same)
      (λ more. alike_refused reasons.BadSegments (h.place.at + segments_left_at)))

  alike_routing : (h : Header) (rest : By) → Alike Moves rest
      → Alike Moves (λ allow limit. at_sid_routing s (with_hop_limit limit p) h (rest allow limit))
  alike_routing h rest same =
      alike_if (is_segment_routing h) _ _
      (λ known. alike_if (is_replace s.csid) _ _ (λ packed. alike_packed h rest same) (λ whole. alike_whole h rest same))
      (λ other. alike_if (segments_left h == 0) _ _ (λ none. same)
      (λ some. alike_refused reasons.UnknownRouting (h.place.at + routing_type_at)))

  alike_header : (h : Header) (rest : By) → Alike Moves rest
      → Alike Moves (λ allow limit. at_header s (with_hop_limit limit p) h (rest allow limit))
  alike_header h rest same =
      alike_if (shifts_at s p && not (is_options h)) _ _ (λ both. alike_csid (and_parts (shifts_at s p) (not (is_options h)) both).0)
      (λ stays. alike_if (h.place.kind == hop_by_hop) _ _
      (λ hop. alike_if (is_first h.place) _ _ (λ first. same) (λ late. alike_refused reasons.LateHopByHop h.place.named_at))
      (λ other. alike_if (h.place.kind == destination_options) _ _ (λ options. alike_unless (options_fault h) rest same)
      (λ other. alike_if (h.place.kind == fragment) _ _ (λ part. alike_refused reasons.Fragment h.place.at)
      (λ other. alike_routing h rest same))))

  alike_headers : (hs : List Header) (end : By) → Alike Moves end
      → Alike Moves (λ allow limit. over_headers (at_header s (with_hop_limit limit p)) hs (end allow limit))
  alike_headers [] end same = same
  alike_headers (h ∷ hs) end same = alike_header h _ (alike_headers hs end same)

  alike_upper : (place : ChainPlace) → Alike Moves (λ allow limit. upper_layer allow (with_hop_limit limit p) place)
  alike_upper place =
      Neither (record {
        stays = λ allow limit. on allow limit (is_allowed allow place.kind);
        hides = λ allow limit. out allow limit (is_allowed allow place.kind);
      })
    where
      on : (allow : List ℕ) (limit : ℕ) (b : Bool)
          → is_onward (if b then Delivered (with_hop_limit limit p) else Refused reasons.UpperLayer place.at) ≡ false
      on allow limit true = refl
      on allow limit false = refl

      out : (allow : List ℕ) (limit : ℕ) (b : Bool)
          → is_exposed (if b then Delivered (with_hop_limit limit p) else Refused reasons.UpperLayer place.at) ≡ false
      out allow limit true = refl
      out allow limit false = refl

  alike_end : (end : ChainEnd) → Alike Moves (λ allow limit. at_end s allow (with_hop_limit limit p) end)
  alike_end (Cut place) = alike_refused reasons.BadChain place.at
  alike_end (Upper place) =
      alike_if (shifts_at s p) _ _ (λ shifts. alike_csid shifts)
      (λ stays. alike_if (exposes s place.kind) _ _
      (λ shows. Exposes (record {
        family = family_inside place.kind;
        bytes = from_place p place.at;
        shown = λ allow limit. refl;
      }))
      (λ keeps. alike_upper place))

  -- what comes of a packet at a SID is one of the three
  alike_sid : Alike Moves (λ allow limit. at_sid s allow (with_hop_limit limit p))
  alike_sid = alike_headers (chain_of p).headers _ (alike_end (chain_of p).end)

  -- a packet that the SID takes on to a next segment goes on where its hop limit is above 1, else is refused
  pub steps_on : is_onward (at_sid s [] (with_hop_limit 2 p)) ≡ true → GoesOn Moves (λ allow limit. at_sid s allow (with_hop_limit limit p))
  steps_on on = by_alike alike_sid
    where
      by_alike : Alike Moves (λ allow limit. at_sid s allow (with_hop_limit limit p))
          → GoesOn Moves (λ allow limit. at_sid s allow (with_hop_limit limit p))
      by_alike (Goes g) = g
      by_alike (Exposes x) = absurd (false≢true (ap is_onward (sym (x.shown [] 2)) ∙ on))
      by_alike (Neither n) = absurd (false≢true (sym (n.stays [] 2) ∙ on))

  -- a packet inside is exposed whatever the hop limit is
  pub shows_inside : is_exposed (at_sid s [] p) ≡ true → Shows (λ allow limit. at_sid s allow (with_hop_limit limit p))
  shows_inside on = by_alike alike_sid
    where
      low : (b : Bool) (g : GoesOn Moves (λ allow limit. at_sid s allow (with_hop_limit limit p))) → nat_le p.hop_limit 1 ≡ b
          → is_exposed (at_sid s [] p) ≡ true → ⊥
      low true g e on = absurd (false≢true (ap is_exposed (sym (g.low [] p.hop_limit (leb-true p.hop_limit 1 e))) ∙ on))
      low false g e on = absurd (false≢true (ap is_exposed (sym (g.high [] p.hop_limit (leb-false p.hop_limit 1 e)).1) ∙ on))

      by_alike : Alike Moves (λ allow limit. at_sid s allow (with_hop_limit limit p))
          → Shows (λ allow limit. at_sid s allow (with_hop_limit limit p))
      by_alike (Goes g) = absurd (low (nat_le p.hop_limit 1) g refl on)
      by_alike (Exposes x) = x
      by_alike (Neither n) = absurd (false≢true (sym (n.hides [] p.hop_limit) ∙ on))

  -- a packet goes on from a SID that goes on, or that shifts it
  pub onward_moves : (allow : List ℕ) (q : Packet) → at_sid s allow (with_hop_limit p.hop_limit p) ≡ Onward q → Moves
  onward_moves allow q is = by_alike alike_sid
    where
      by_alike : Alike Moves (λ allow limit. at_sid s allow (with_hop_limit limit p)) → Moves
      by_alike (Goes g) = g.moves
      by_alike (Exposes x) = absurd (false≢true (sym (ap is_onward (x.shown allow p.hop_limit)) ∙ ap is_onward is))
      by_alike (Neither n) = absurd (false≢true (sym (n.stays allow p.hop_limit) ∙ ap is_onward is))
