-- Same stages send the same frames, and the stages that are told are those that a packet takes.
use Rattle.std.proofs.Common.{◌≡◌, ℕ, ◌+◌, List, [], ◌∷◌, ◌++◌, refl, ap, ap₂}
use Rattle.pcap_io.specs.Capture.{written_frame_bytes}
use Rattle.srv6_rules.specs.Packet.{Content, bytes_of}
use Rattle.net_model.specs.declared.parts.Link.{Link}
use Rattle.net_model.specs.declared.parts.Node.{Node}
use Rattle.net_model.specs.Network.{Network}
use Rattle.walk_rules.specs.declared.place.Ended.{Ended}
use Rattle.walk_rules.specs.declared.place.Ended.TheVariants as ends
use Rattle.walk_rules.specs.Treatment.{Gave}
use Rattle.walk_rules.specs.Walk.{Stage}
use Rattle.packet_walk.specs.Flight.{InFlight, staged}
use Rattle.update_spec.specs.Alike.{SameGave, SameStages}
use Rattle.update_walks_theory.proofs.PublicLaws.{same_each}
use Rattle.command_output.specs.OutputLines.{packet_line}
use Rattle.run_commands.specs.WrittenCapture.{frame_by, frame_of_error, frame_of_gave, frames_of}
use Rattle.update_driver.specs.Moving.{Happening}
use Rattle.update_commands.specs.WholeUpdate.{stages_happened}
use Rattle.update_commands.proofs.Entered.{tellings}

module _ (a b : Network) (number : ℕ) where
  frame_same : (x y : Gave) → SameGave a b x y → frame_of_gave number x ≡ frame_of_gave number y
  frame_same x y same =
      same_each a b (λ o p. frame_by number o x.after x.error ≡ frame_by number p y.after y.error)
      (record {
        again = λ m n how on sid goes. refl;
        hand = λ m n how on family sid goes. refl;
        send = λ link. ap (λ (c : Content). written_frame_bytes number (link + 1) (bytes_of c)) same.after;
        local_ = refl;
        drop_ = λ reason told. ap (frame_of_error number) same.error;
      })
      x.outcome y.outcome same.outcome

  pub frames_same : (ss ts : List Stage) → SameStages a b ss ts → frames_of number ss ≡ frames_of number ts
  frames_same [] [] same = refl
  frames_same [] (t ∷ ts) same = absurd same
  frames_same (s ∷ ss) [] same = absurd same
  frames_same (s ∷ ss) (t ∷ ts) same =
      ap₂ (λ (xs ys : List ℕ). xs ++ ys) (frame_same s.gave t.gave same.0.gave) (frames_same ss ts same.1)

-- a line is the same with the same names
pub line_same : (a b : Network) (number : ℕ) (end : Ended) → a.nodes ≡ b.nodes → a.links ≡ b.links
    → packet_line a number end ≡ packet_line b number end
line_same a b number (ends.Left link) nodes links =
    ap (λ (ls : List Link). packet_line (record a { links = ls }) number (ends.Left link)) links
line_same a b number (ends.Delivered node) nodes links =
    ap (λ (ns : List Node). packet_line (record a { nodes = ns }) number (ends.Delivered node)) nodes
line_same a b number (ends.Dropped node reason) nodes links =
    ap (λ (ns : List Node). packet_line (record a { nodes = ns }) number (ends.Dropped node reason)) nodes
line_same a b number ends.Stages nodes links = refl

-- the stages that are told
pub stages_tellings : (number : ℕ) (net : Network) (p : InFlight) (steps : List Stage) (behind : List Happening)
    → stages_happened (tellings number net p steps ++ behind) ≡ steps ++ stages_happened behind
stages_tellings number net p [] behind = refl
stages_tellings number net p (s ∷ more) behind = ap (λ (ss : List Stage). s ∷ ss) (stages_tellings number net (staged net p) more behind)
