-- For each SID that goes on, with or without a policy, a packet that it takes further.
use Rattle.std.proofs.Common.{◌≡◌, ℕ, true, List, [], ◌∷◌, refl, ap, ◌∙◌}
use Rattle.std.proofs.lemmas.Bool.{and_parts}
use Rattle.srv6_rules.specs.declared.sid.Behaviour.{Behaviour}
use Rattle.srv6_rules.specs.declared.sid.Behaviour.TheVariants as behaviours
use Rattle.srv6_rules.specs.declared.sid.SidEntry.{SidEntry}
use Rattle.srv6_rules.specs.Behaviours.{behaviour_goes_on, goes_on}
use Rattle.srv6_rules.specs.Packet.{Packet}
use Rattle.srv6_rules.specs.Endpoint.{at_sid}
use Rattle.net_model.specs.Network.{Network}
use Rattle.leg_table.specs.StrictLegsTerms.{is_onward}
use Rattle.leg_table.specs.TransitsTerms.{with_hop_limit}
use Rattle.leg_table.specs.PositionSids.{takes_step}
use Rattle.leg_table.proofs.StrictWitnesses.{some_packet, some_packet_has}

-- the same SID, but that its behaviour is End
abbrev as_end : SidEntry → SidEntry
as_end s = record s { behaviour = behaviours.End }

-- a packet comes to a SID that goes on as it does to one of End
goes_as_end : (s : SidEntry) (b : Behaviour) → behaviour_goes_on b ≡ true → (allow : List ℕ) (p : Packet)
    → at_sid (record s { behaviour = b }) allow p ≡ at_sid (as_end s) allow p
goes_as_end s behaviours.End goes allow p = refl
goes_as_end s behaviours.EndX goes allow p = refl
goes_as_end s (behaviours.EndT table) goes allow p = refl
goes_as_end s behaviours.Dx6 goes allow p = cc
goes_as_end s behaviours.Dx4 goes allow p = cc
goes_as_end s (behaviours.Dt6 table) goes allow p = cc
goes_as_end s (behaviours.Dt4 table) goes allow p = cc
goes_as_end s (behaviours.Dt46 table) goes allow p = cc
goes_as_end s (behaviours.B6 policy) goes allow p = refl
goes_as_end s (behaviours.B6Red policy) goes allow p = refl

pub some_further : (net : Network) (s : SidEntry) → goes_on s ≡ true → (address limit : ℕ)
    → (p : Packet) × (p.destination ≡ address) × (p.hop_limit ≡ limit) × (is_onward (at_sid s [] (with_hop_limit 2 p)) ≡ true)
some_further net s goes address limit =
    let p : Packet = some_packet address limit in
    let has = some_packet_has (record net { sids = as_end s ∷ [] }) 0 (as_end s) address limit refl refl in (
      p,
      has.1,
      has.2,
      ap is_onward (goes_as_end s s.behaviour goes [] (with_hop_limit 2 p))
          ∙ (and_parts (takes_step (as_end s)) (is_onward (at_sid (as_end s) [] (with_hop_limit 2 p))) has.0).1,
    )
