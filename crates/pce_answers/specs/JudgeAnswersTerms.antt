-- Need not be believed: helps proofs and other laws.
-- Terms beside those of `specs/JudgeAnswers.antt`.
use Rattle.std.specs.Prelude.{◌≡◌, ◌⊎◌, List, Result, Err}
use Rattle.v6_addr.specs.declared.address.Addr.{Addr}
use Rattle.net_model.specs.Network.{Network}
use Rattle.net_flatness.specs.Flat.{flatness_of}
use Rattle.intent_reader.specs.declared.intent.Intent.{Intent}
use Rattle.pce_protocol.specs.declared.reply.ReplyError.TheVariants as errors
use Rattle.pce_answers.specs.NetAnswers.{Reply}
use Rattle.pce_answers.specs.JudgeAnswers.{IsSegmentsReply}

-- of an intent that was read
abbrev pub IsReplyToList : Network → Intent → List Addr → Reply → Type 0
IsReplyToList net intent segments reply =
    (reply ≡ Err errors.NoMemory) ⊎ IsSegmentsReply net intent segments (flatness_of net) reply
