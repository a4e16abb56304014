-- The SIDs that may be executed at a position of an intent: after so many of its steps.
use Rattle.std.specs.Prelude.{ℕ, zero, suc, Bool, true, false, ◌==◌, ◌&&◌, ◌||◌, not, nat_lt, is_some, if◌then◌else◌, List, [], ◌∷◌, take, length, slice_get, Option, Some, None}
use Rattle.v6_addr.specs.Address.{PrefixValue}
use Rattle.srv6_rules.specs.declared.sid.SidEntry.{SidEntry}
use Rattle.srv6_rules.specs.declared.family.Family.{Family}
use Rattle.srv6_rules.specs.Behaviours.{behaviour_policy, goes_on, exposes}
use Rattle.srv6_rules.specs.Policies.{inner_kind}
use Rattle.net_model.specs.Network.{Network}
use Rattle.intent_reader.specs.IntentRules.{stand_after, is_at}
use Rattle.intent_reader.specs.declared.intent.Step.{Step}
use Rattle.intent_reader.specs.declared.intent.Step.TheVariants.{Links, Function, Reach}
use Rattle.intent_reader.specs.declared.intent.Intent.{Intent}

-- a binding SID puts another header in front; lists take none
abbrev pub binds : SidEntry → Bool
binds s = is_some (behaviour_policy s.behaviour)

-- the packet goes on from the SID to a next segment, after no further header
abbrev pub takes_step : SidEntry → Bool
takes_step s = goes_on s && not (binds s)

-- the SID exposes a packet of a family inside
abbrev pub hands_over : Family → SidEntry → Bool
hands_over family s = exposes s (inner_kind family)

abbrev pub sid_binds : Option SidEntry → Bool
sid_binds None = false
sid_binds (Some s) = binds s

abbrev pub is_binding : Network → ℕ → Bool
is_binding net n = sid_binds (slice_get net.sids n)

-- from a SID that is middle the packet goes on to a next segment
abbrev pub sid_goes_on : Option SidEntry → Bool
sid_goes_on None = false
sid_goes_on (Some s) = takes_step s

abbrev pub is_middle : Network → ℕ → Bool
is_middle net n = sid_goes_on (slice_get net.sids n)

-- a SID that exposes a packet of a family inside
abbrev pub sid_exposes : Family → Option SidEntry → Bool
sid_exposes family None = false
sid_exposes family (Some s) = hands_over family s

abbrev pub is_last : Network → Family → ℕ → Bool
is_last net family n = sid_exposes family (slice_get net.sids n)

-- the prefix of a SID; a number that no SID has has none, and ::/0 stands for it
abbrev pub prefix_by : Option SidEntry → PrefixValue
prefix_by None = record { value = 0; len = 0 }
prefix_by (Some s) = s.prefix

abbrev pub prefix_at : Network → ℕ → PrefixValue
prefix_at net n = prefix_by (slice_get net.sids n)

-- the address that a SID's prefix begins with
abbrev pub first_address : Option SidEntry → ℕ
first_address None = 0
first_address (Some s) = s.prefix.value

abbrev pub sid_address : Network → ℕ → ℕ
sid_address net n = first_address (slice_get net.sids n)

-- where the walk stands after so many steps
abbrev pub node_at : Network → Intent → ℕ → Option ℕ
node_at net intent position = stand_after net intent.headend (take position intent.steps)

-- the step that ends at a position, if one does
abbrev pub step_before : List Step → ℕ → Option Step
step_before steps zero = None
step_before steps (suc i) = slice_get steps i

-- the function of a step
abbrev pub is_function_of : ℕ → Option Step → Bool
is_function_of n None = false
is_function_of n (Some (Links set)) = false
is_function_of n (Some (Function sid)) = sid == n
is_function_of n (Some (Reach node)) = false

-- a SID without a title, or one whose title is that of the step's function
abbrev pub title_suits : ℕ → Option Step → Option ℕ → Bool
title_suits n step None = true
title_suits n step (Some title) = is_function_of n step

abbrev pub sid_suits : ℕ → Option ℕ → Option Step → Option SidEntry → Bool
sid_suits n stands step None = false
sid_suits n stands step (Some s) = is_at s.node stands && title_suits n step s.title

-- SID n stands at the node where the walk is after so many steps, and has no title or is the function of the last of them
abbrev pub is_sid_at : Network → Intent → ℕ → ℕ → Bool
is_sid_at net intent position n =
    sid_suits n (node_at net intent position) (step_before intent.steps position) (slice_get net.sids n)

-- the order of prefixes: by value, then by length
abbrev pub comes_before : PrefixValue → PrefixValue → Bool
comes_before p q = nat_lt p.value q.value || ((p.value == q.value) && nat_lt p.len q.len)

abbrev pub sid_before : Option SidEntry → Option SidEntry → Bool
sid_before None t = false
sid_before (Some s) None = false
sid_before (Some s) (Some t) = comes_before s.prefix t.prefix

-- the number of a SID put into its place among others in order
abbrev pub placed : Network → ℕ → List ℕ → List ℕ
placed net n [] = n ∷ []
placed net n (m ∷ ms) = if sid_before (slice_get net.sids n) (slice_get net.sids m) then n ∷ m ∷ ms else m ∷ placed net n ms

-- the SIDs of a position among those of lower numbers, in order
unfoldable pub sids_below : Network → Intent → ℕ → ℕ → List ℕ
sids_below net intent position zero = []
sids_below net intent position (suc k) =
    if is_sid_at net intent position k then placed net k (sids_below net intent position k) else sids_below net intent position k

-- the SIDs of a position, in order
abbrev pub sids_of : Network → Intent → ℕ → List ℕ
sids_of net intent position = sids_below net intent position (length net.sids)
