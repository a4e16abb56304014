-- Lists that hand over even one packet through binding SIDs.
use Rattle.std.specs.Prelude.{ℕ, ◌<◌, List}
use Rattle.srv6_rules.specs.Packet.{Content}
use Rattle.net_model.specs.Network.{Network}
use Rattle.intent_reader.specs.declared.intent.Intent.{Intent}
use Rattle.list_pack.specs.declared.types.Container.{Container}
use Rattle.list_pack.specs.SidLists.{list_values}
use Rattle.binding_spec.specs.BindingRealizes.{AlwaysHands, OwnHandsOver}
pub use Rattle.binding_spec.specs.BindingRealizes.{OwnListExecutes, OwnListRealizes}

-- one inner packet at one outer hop limit above 0, for every list of choices
pub record OwnHandsSome (net : Network) (intent : Intent) (segments : List ℕ) (hop : ℕ) : Type 0 where
  pub positive : 0 < hop
  pub inner : Content
  pub always : AlwaysHands (OwnHandsOver net intent segments) inner hop

abbrev pub OwnListHands : Network → Intent → List Container → ℕ → Type 0
OwnListHands net intent list hop = OwnHandsSome net intent (list_values net list) hop
