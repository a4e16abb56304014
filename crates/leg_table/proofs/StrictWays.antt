-- SIDs as the code finds them: their addresses, and whether a position has them.
use Rattle.std.proofs.Common.{◌≡◌, ℕ, ◌≤◌, false, ◌==◌, List, [], ◌∷◌, length, Some, slice_get, get_or, Contains, refl, sym, ap, subst, arith}
use Rattle.std.proofs.lemmas.Bool.{false≢true, false_from_ne_true}
use Rattle.std.proofs.lemmas.Option.{slice_get_within}
use Rattle.srv6_rules.specs.declared.sid.SidEntry.{SidEntry}
use Rattle.net_model.specs.Network.{Network}
use Rattle.net_model.specs.NetworkKeeps.{Keeps}
use Rattle.intent_reader.specs.declared.intent.Intent.{Intent}
use Rattle.leg_table.specs.PositionSids.{is_sid_at, sids_of, first_address, sid_address, node_at}
use Rattle.leg_table.proofs.StrictPositions.{are_sids}
use Rattle.leg_table.proofs.TransitFacts.{sid_at}

pub address_is : (net : Network) (n : ℕ) (s : SidEntry) → slice_get net.sids n ≡ Some s → s.prefix.value ≡ sid_address net n
address_is net n s e = sym (ap first_address e)

-- the first of a list that has one
first_in : (numbers : List ℕ) → (length numbers == 0) ≡ false → Contains numbers (get_or numbers 0 0)
first_in [] e = absurd (false≢true (sym e))
first_in (x ∷ xs) e = (0, omega arith, refl)

module _ (net : Network) (keeps : Keeps net) (intent : Intent) (position : ℕ) (numbers : List ℕ)
    (is : numbers ≡ sids_of net intent position) where
  -- the first SID of a position is there, and stands where the walk does
  pub first_stands : (length numbers == 0) ≡ false
      → (s : SidEntry) × (slice_get net.sids (get_or numbers 0 0) ≡ Some s) × (node_at net intent position ≡ Some s.node)
  first_stands some =
      let h = subst (λ (xs : List ℕ). Contains xs (get_or numbers 0 0)) is (first_in numbers some) in
      let s = sid_at net intent position (get_or numbers 0 0) (((are_sids net keeps intent position).each (get_or numbers 0 0)).0 h) in
      (s.0, s.1, s.2)

  -- where there are none no SID is one of the position
  pub none_of_none : (n : ℕ) → length numbers ≡ 0 → is_sid_at net intent position n ≡ false
  none_of_none n empty =
      false_from_ne_true (is_sid_at net intent position n) (λ at.
      let h = subst (λ (xs : List ℕ). Contains xs n) (sym is) (((are_sids net keeps intent position).each n).1 at) in
      omega (arith, h.1, empty))

  -- and none that the network doesn't have
  pub none_above : (n : ℕ) → length net.sids ≤ n → is_sid_at net intent position n ≡ false
  none_above n above =
      false_from_ne_true (is_sid_at net intent position n) (λ at.
      let s = sid_at net intent position n at in
      let within = slice_get_within net.sids n s.0 s.1 in
      omega (arith, within, above))
