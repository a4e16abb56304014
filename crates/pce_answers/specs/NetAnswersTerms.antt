-- Need not be believed: helps proofs and other laws.
-- Terms beside those of `specs/NetAnswers.antt`.
use Rattle.std.specs.Prelude.{◌≡◌, ◌⊎◌, ℕ, Bool, List, Result, Err}
use Rattle.srv6_rules.specs.declared.family.Family.{Family}
use Rattle.srv6_rules.specs.declared.family.Family.TheVariants as families
use Rattle.pcap_io.specs.declared.frame.Body.{Body}
use Rattle.pcap_io.specs.declared.frame.Body.TheVariants as bodies
use Rattle.pce_protocol.specs.declared.reply.ReplyError.TheVariants as errors
use Rattle.net_model.specs.Network.{Network}
use Rattle.intent_reader.specs.declared.intent.Intent.{Intent}
use Rattle.intent_reader.specs.declared.fault.IntentFault.{IntentFault}
use Rattle.pce_answers.specs.NetAnswers.{IsIntentReply, Reply}

-- a reply is the one that is wanted, or memory was wanting
abbrev pub IsOr : Reply → Reply → Type 0
IsOr wanted reply = (reply ≡ Err errors.NoMemory) ⊎ (reply ≡ wanted)

-- so of an intent that was read, or of its first fault
abbrev pub IsReplyTo : Network → Bool → Result Intent IntentFault → Reply → Type 0
IsReplyTo net asked read reply = (reply ≡ Err errors.NoMemory) ⊎ IsIntentReply net asked read reply

-- a packet of a family
abbrev pub body_as : Family → List ℕ → Body
body_as families.V6 packet = bodies.V6 packet
body_as families.V4 packet = bodies.V4 packet
