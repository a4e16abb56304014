-- Need not be believed: helps proofs and other laws.
-- Terms beside those of `specs/LegKinds.antt`.
use Rattle.std.specs.Prelude.{◌≡◌, ℕ, true, false}
use Rattle.intent_reader.specs.declared.intent.Intent.{Intent}
use Rattle.intent_reader.specs.IntentRules.{has_reach}
use Rattle.net_model.specs.Network.{Network}
use Rattle.leg_table.specs.PositionSids.{is_binding}
use Rattle.leg_table.specs.StrictTableTerms.{LegTable}
use Rattle.intent_compiler.specs.declared.intent_legs.Kind.{Kind}
use Rattle.intent_compiler.specs.declared.intent_legs.Kind.TheVariants as kinds
use Rattle.intent_compiler.specs.LegKinds.{BindsNothing}

-- a SID of the network is a binding SID
abbrev pub BindsSomething : Network → Type 0
BindsSomething net = (n : ℕ) × (is_binding net n ≡ true)

-- no step of the intent is loose
abbrev pub ReachesNothing : Intent → Type 0
ReachesNothing intent = has_reach intent.steps ≡ false

abbrev pub table_of : Kind → LegTable
table_of (kinds.Strict t) = t
table_of (kinds.Binding t) = t
table_of (kinds.Loose t) = t

-- loose legs are exactly those of an intent with a loose step; of the others strict ones are exactly those of a network without
-- binding SIDs, where they are the same as the legs through binding SIDs
abbrev pub SuitsKind : Kind → Type 0
SuitsKind (kinds.Strict t) = ReachesNothing t.intent × BindsNothing t.net
SuitsKind (kinds.Binding t) = ReachesNothing t.intent × BindsSomething t.net
SuitsKind (kinds.Loose t) = has_reach t.intent.steps ≡ true
