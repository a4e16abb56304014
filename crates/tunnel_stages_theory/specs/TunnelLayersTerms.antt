-- Need not be believed: helps proofs and other laws.
-- Terms beside those of `binding_spec/specs/TunnelLayers.antt`.
use Rattle.std.specs.Prelude.{◌≡◌, Bool, true, false, List, [], ◌∷◌, Option}
use Rattle.srv6_rules.specs.Packet.{Packet, Content, V6, V4, Unreadable, IsSpellable}
use Rattle.srv6_rules.specs.Srh.{Srh}
use Rattle.walk_rules.specs.declared.place.Outcome.{Outcome}
use Rattle.walk_rules.specs.declared.place.Outcome.TheVariants as outcomes
use Rattle.walk_rules.specs.Treatment.{goes}
use Rattle.walk_rules.specs.Walk.{Stage}
use Rattle.outer_header_theory.specs.HeaderFronts.{AreFront, filled}
use Rattle.binding_spec.specs.TunnelWalks.{TunnelStage}
use Rattle.binding_spec.specs.TunnelLayers.{spelled, spelled_content, PushFits}

-- a header in front of an IPv6 packet, with or without a segment routing header, round no bytes
pub record IsHeader (p : Packet) : Type 0 where
  pub front : Option Srh
  pub is_front : AreFront front
  pub is : p ≡ filled p front []

-- each but the last is such a header, and what is below it can be spelled with all that it carries itself
abbrev pub AreLayers : Packet → List Packet → Type 0
AreLayers p [] = Unit {0}
AreLayers p (q ∷ below) = IsHeader p × IsSpellable (spelled q below) × AreLayers q below

abbrev pub AreLayersOf : Content → List Packet → Type 0
AreLayersOf (V6 p) below = AreLayers p below
AreLayersOf (V4 p) below = below ≡ []
AreLayersOf (Unreadable bytes reason) below = below ≡ []

-- what stands there is not taken away
abbrev pub goes_further : Outcome → Bool
goes_further (outcomes.Again n how) = true
goes_further (outcomes.Hand n how family) = true
goes_further (outcomes.Send link) = true
goes_further outcomes.Local = false
goes_further (outcomes.Drop reason error) = false

-- in these stages nothing is taken away, and the payload of each header that is pushed fits
abbrev pub AreSmall : List TunnelStage → Type 0
AreSmall [] = Unit {0}
AreSmall (s ∷ more) = (goes_further s.gave.outcome ≡ true) × PushFits s.under s.gave × AreSmall more

-- a stage that takes nothing away, over bytes
abbrev pub in_bytes : TunnelStage → Stage
in_bytes s =
    record {
      place = s.place;
      before = spelled_content s.before s.under;
      gave = goes s.gave.outcome (spelled_content s.gave.after s.gave.below);
    }
