-- A packet inside is exposed at a place of a list whichever upper layers the node takes and whatever the hop limit is.
use Rattle.std.proofs.Common.{◌≡◌, inl, inr, ℕ, ◌+◌, ◌⊎◌, true, List, Option, Some, None, refl, sym, ◌∙◌}
use Rattle.std.proofs.lemmas.Bool.{cases_Bool, cases_lt}
use Rattle.srv6_rules.specs.declared.sid.Csid.{Csid}
use Rattle.srv6_rules.specs.declared.sid.Csid.TheVariants.{Plain, Next, Replace}
use Rattle.srv6_rules.specs.declared.family.Family.{Family}
use Rattle.srv6_rules.specs.declared.reason.Reason.{Reason}
use Rattle.srv6_rules.specs.declared.reason.Reason.TheVariants as reasons
use Rattle.srv6_rules.specs.declared.sid.SidEntry.{SidEntry}
use Rattle.srv6_rules.specs.Behaviours.{goes_on}
use Rattle.srv6_rules.specs.Endpoint.{Onward, Exposed, Refused, at_sid}
use Rattle.srv6_rules.specs.Packet.{Packet, header_len}
use Rattle.srv6_rules.specs.Srh.{segments_left_at}
use Rattle.sid_list_theory.specs.ListPlaces.{ListPlace, Tunnel, Along, StandsOn, active, may_lack, next_of}
use Rattle.sid_list_theory.proofs.PublicLaws.{along_exposed, along_exposed_plain, along_exposes, along_onward, along_packed, along_tired, last_replace}

module _ (e : SidEntry) (allow : List ℕ) (t : Tunnel) (x : ListPlace) (hop : ℕ) (p : Packet) (family : Family) (bytes : List ℕ)
    (along : Along t x hop p) (on : StandsOn e (active x)) (shows : at_sid e allow p ≡ Exposed family bytes) where
  refused : (reason : Reason) (at : ℕ) → Refused reason at ≡ Exposed family bytes → ⊥
  refused reason at e = cc

  onward : (q : Packet) → Onward q ≡ Exposed family bytes → ⊥
  onward q e = cc

  -- where it is exposed no SID follows, or the SID is not compressed
  shown_last : (next_of x ≡ None) ⊎ (e.csid ≡ Plain)
  shown_last = by e.csid refl
    where
      goes : goes_on e ≡ true → (o : Option ListPlace) → next_of x ≡ o → (next_of x ≡ None) ⊎ (e.csid ≡ Plain)
      goes is None last = inl last
      goes is (Some y) to = absurd (elim (cases_lt 1 hop) [
        | inl high ↦ onward _ (sym (along_onward e allow t x y hop p along on is to high) ∙ shows)
        | inr low ↦ refused reasons.HopLimit 0 (sym (along_tired e allow t x y hop p along on is to low) ∙ shows)
      ])

      by : (k : Csid) → e.csid ≡ k → (next_of x ≡ None) ⊎ (e.csid ≡ Plain)
      by Plain kind = inr kind
      by Next kind = goes (on.next kind) (next_of x) refl
      by Replace kind = elim (cases_Bool (goes_on e)) [
        | inl is ↦ goes is (next_of x) refl
        | inr stays ↦ elim (cases_Bool (may_lack x)) [
          | inl lacks ↦ inl (last_replace e x along.place on kind lacks)
          | inr needs ↦ absurd (refused reasons.BadSegments (header_len + segments_left_at)
              (sym (along_packed e allow t x hop p along on stays kind needs) ∙ shows))
        ]
      ]

  -- so it is exposed whatever is allowed, and with any hop limit
  pub shown_each : (other : List ℕ) (limit : ℕ) (q : Packet) → Along t x limit q → at_sid e other q ≡ Exposed t.inner t.bytes
  shown_each other limit q at =
      let parts = along_exposes e allow t x hop p family bytes along on shows in
      elim shown_last [
        | inl last ↦ along_exposed e other t x limit q at on last parts.1
        | inr plain ↦ along_exposed_plain e other t x limit q at plain parts.0 parts.1
      ]
