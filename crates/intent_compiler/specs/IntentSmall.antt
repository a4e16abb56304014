-- Inner packets that are small on the walk of an intent's list (RFC 8200 sections 3 and 5).
use Rattle.std.specs.Prelude.{ℕ, Bool, true, false, List}
use Rattle.srv6_rules.specs.Packet.{Content}
use Rattle.net_model.specs.Network.{Network}
use Rattle.intent_reader.specs.declared.intent.Intent.{Intent}
use Rattle.intent_reader.specs.IntentRules.{has_reach}
use Rattle.binding_spec.specs.BindingSmall.{IsSmall}
pub use Rattle.loose_spec.specs.LooseSmall.{AllFit, LooseIsSmall}

abbrev pub IsSmallIf : Bool → Network → Intent → List ℕ → Content → ℕ → Type 0
IsSmallIf true net intent = LooseIsSmall net intent
IsSmallIf false net intent = IsSmall net intent

-- up to the first hand_over where a step is loose, and else up to the packet's own
abbrev pub IsSmallFor : Network → Intent → List ℕ → Content → ℕ → Type 0
IsSmallFor net intent = IsSmallIf (has_reach intent.steps) net intent
