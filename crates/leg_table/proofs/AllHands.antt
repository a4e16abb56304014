-- Walks that hand over under every row of choices, without a binding SID.
use Rattle.std.proofs.Common.{◌≡◌, ℕ, ◌+◌, ◌-◌, ◌⊎◌, inl, inr, true, false, List, [], ◌∷◌, length, Some, refl, sym, ◌∙◌, ap, subst, arith}
use Rattle.std.specs.List.{All}
use Rattle.std.proofs.lemmas.Bool.{false≢true, and_parts}
use Rattle.srv6_rules.specs.declared.sid.Csid.{Csid}
use Rattle.srv6_rules.specs.declared.sid.Csid.TheVariants as csids
use Rattle.srv6_rules.specs.declared.sid.SidEntry.{SidEntry}
use Rattle.srv6_rules.specs.Behaviours.{goes_on}
use Rattle.srv6_rules.specs.CompressedSteps.{is_next}
use Rattle.srv6_rules.specs.Packet.{Packet, Content, V6}
use Rattle.srv6_rules.specs.Endpoint.{shifts_at}
use Rattle.net_model.specs.Network.{Network}
use Rattle.walk_rules.specs.declared.place.Place.{Place}
use Rattle.walk_rules.specs.Treatment.{goes}
use Rattle.intent_reader.specs.declared.intent.Step.{Step}
use Rattle.sid_list_theory.specs.ListPlaces as lists
use Rattle.sid_list_theory.specs.ListPlaces.{active, StandsOn}
use Rattle.leg_table.specs.WalkTrace.{Handed, handed_over}
use Rattle.leg_table.specs.StepMatching.{matches}
use Rattle.leg_table.specs.Transits.{Transit}
use Rattle.leg_table.specs.TransitsTerms.{with_hop_limit}
use Rattle.leg_table.specs.PositionSids.{is_binding}
use Rattle.leg_table.proofs.AllWays as ways
use Rattle.leg_table.proofs.StrictHanding.{walk_same, TransitWalk}
use Rattle.leg_table.proofs.LegsOver.{Hands_over, transit_over}

module _ (net : Network) where
  -- no SID of these binds a policy
  abbrev pub Unbound : List ℕ → Type 0
  Unbound ns = All (λ n. is_binding net n ≡ false) ns

  -- under every row of choices a walk hands over, its trace meets the steps, and no binding SID is executed
  abbrev pub Hands : Place → Content → List Step → Type 0
  Hands place content ts =
      (pick : ℕ → ℕ) → (h : Handed) × Hands_over net place content pick 0 h × (matches ts h.trace ≡ true) × Unbound h.sids

  pub hands_ways : (ts : List Step) (place : Place) (content : Content) → Hands place content ts → ways.Hands net place content ts
  hands_ways ts place content hands = λ pick. let got = hands pick in (got.1.0, got.0, got.1.1, got.2)

  -- and goes on so where a transit ends
  pub hands_along : (ts : List Step) (place : Place) (p : Packet) (r : Transit) → TransitWalk net ts place p r → Hands place (V6 p) ts
      → Hands r.place (V6 (with_hop_limit (p.hop_limit - r.lowered) p)) r.left
  hands_along ts place p r w hands =
      λ pick.
      let back : ℕ → ℕ = λ d. pick (d - w.count) in
      let got = hands back in
      let q = with_hop_limit (p.hop_limit - r.lowered) p in
      let over = transit_over net ts place p r back 0 got.0 w got.1 in (
        over.0,
        (
          over.1.0,
          ap (handed_over net) (sym (walk_same net over.1.0 (Some r.place) (V6 q) back pick (0 + w.count) 0 (λ d. shift pick w.count d)))
              ∙ over.1.1,
        ),
        sym (w.meets_them back 0 over.0.trace) ∙ ap (λ (h : Handed). matches ts h.trace) over.2 ∙ got.2,
        subst Unbound (sym (ap (λ (h : Handed). h.sids) over.2)) got.3,
      )
    where
      shift : (pick : ℕ → ℕ) (c d : ℕ) → pick (0 + c + d - c) ≡ pick (0 + d)
      shift pick c d = ap pick (omega arith)

-- a SID of NEXT-CSID goes on
pub moved_goes : (s : SidEntry) (t : lists.ListPlace) → StandsOn s (active t) → (p : Packet)
    → (goes_on s ≡ true) ⊎ (shifts_at s p ≡ true) → goes_on s ≡ true
moved_goes s t on p (inl goes) = goes
moved_goes s t on p (inr shifts) = on.next (next_is s.csid (and_parts (is_next s.csid) _ shifts).0)
  where
    next_is : (k : Csid) → is_next k ≡ true → k ≡ csids.Next
    next_is csids.Plain e = absurd (false≢true e)
    next_is csids.Next e = refl
    next_is csids.Replace e = absurd (false≢true e)

pub no_steps : (us : List Step) → matches us [] ≡ true → length us ≡ 0
no_steps [] h = refl
no_steps (u ∷ us) h = absurd (false≢true h)
