-- What the legs along steps of which some may be loose are to a search.
use Rattle.std.specs.Prelude.{ℕ, zero, suc, Bool, if◌then◌else◌, List, [], ◌∷◌, length}
use Rattle.net_model.specs.Network.{Network}
use Rattle.intent_reader.specs.declared.intent.Intent.{Intent}
use Rattle.intent_reader.specs.Preferences.{sid_cost_of}
use Rattle.list_pack.specs.ListOrder.{lex_before}
use Rattle.list_pack.specs.LegsValue.{LegsValue}
use Rattle.intent_traces.specs.declared.trace_steps.TraceStep.{TraceStep}
use Rattle.leg_table.specs.NestLegs.{stays_of}
use Rattle.leg_table.specs.StrictTable.{node_of, shape_of}
use Rattle.loose_spec.specs.LooseLegs.{finish_of, leg_of}
use Rattle.loose_spec.specs.LooseSids.{is_sid_at}

-- the order of SIDs: by prefix value, prefix length and node; before a node is reached the SIDs of a position stand at several nodes, where
-- one prefix may stand at each
abbrev pub key_of : Network → ℕ → List ℕ
key_of net n = (shape_of net n).prefix.value ∷ (shape_of net n).prefix.len ∷ node_of net n ∷ []

abbrev pub comes_before : Network → ℕ → ℕ → Bool
comes_before net n m = lex_before (key_of net n) (key_of net m)

-- the number of a SID put into its place among others in order
abbrev pub placed : Network → ℕ → List ℕ → List ℕ
placed net n [] = n ∷ []
placed net n (m ∷ ms) = if comes_before net n m then n ∷ m ∷ ms else m ∷ placed net n ms

-- the SIDs of a position among those of lower numbers, in order
unfoldable pub sids_below : Network → Intent → List TraceStep → ℕ → ℕ → List ℕ
sids_below net intent steps position zero = []
sids_below net intent steps position (suc k) =
    if is_sid_at net intent steps position k
    then placed net k (sids_below net intent steps position k)
    else sids_below net intent steps position k

-- the SIDs of a position, in order
abbrev pub sids_of : Network → Intent → List TraceStep → ℕ → List ℕ
sids_of net intent steps position = sids_below net intent steps position (length net.sids)

abbrev pub loose_legs_value : Network → Intent → List TraceStep → LegsValue
loose_legs_value net intent steps =
    record {
      steps = length steps;
      sids_at = sids_of net intent steps;
      shape = shape_of net;
      node = node_of net;
      leg = leg_of net intent steps;
      finish = finish_of net intent steps;
      stays = stays_of net;
      sid_cost = sid_cost_of intent.prefer;
    }
