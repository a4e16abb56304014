-- Need not be believed: helps proofs and other laws.
-- Terms beside those of `specs/IntentRules.antt`.
use Rattle.std.specs.Prelude.{◌^◌, Bool, ◌&&◌, nat_lt, nat_le, length, is_some, IsTrue}
use Rattle.net_model.specs.Network.{Network}
use Rattle.net_syntax.specs.declared.limits.TheConstants.{MAX_STEPS, MAX_CONTAINERS}
use Rattle.intent_reader.specs.declared.intent.Intent.{Intent}
use Rattle.intent_reader.specs.IntentRules.{stand_after, ends_in_function, is_within_loose_limit}

-- the intent keeps all rules in the network
unfoldable pub is_intent : Network → Intent → Bool
is_intent net i =
    nat_lt i.headend (length net.nodes) && (nat_le 1 i.hop_limit && (nat_le 1 i.max_containers && (nat_le i.max_containers MAX_CONTAINERS
    && (nat_lt i.flow_label (2 ^ 20) && (nat_le 1 (length i.steps) && (nat_le (length i.steps) MAX_STEPS
    && (is_some (stand_after net i.headend i.steps) && (ends_in_function i.steps && is_within_loose_limit net i.steps))))))))

abbrev pub IsIntent : Network → Intent → Type 0
IsIntent net i = IsTrue (is_intent net i)
