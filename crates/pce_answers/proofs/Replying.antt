-- The reply to an intent, by the compiler's answer, and by what its text gives.
use Rattle.std.proofs.Common.{◌≡◌, inl, inr, ℕ, Bool, List, Result, Ok, Err, refl, sym, subst}
use Rattle.net_model.specs.Network.{Network}
use Rattle.intent_reader.specs.declared.intent.Intent.{Intent}
use Rattle.intent_reader.specs.declared.fault.IntentFault.{IntentFault}
use Rattle.intent_reader.specs.IntentJudging.{intent_of_text}
use Rattle.path_compiler.specs.declared.compiled.Compiled.{Compiled}
use Rattle.path_compiler.specs.declared.compiled.CompileFault.{CompileFault}
use Rattle.command_output.specs.declared.refusal.Refusal.TheVariants as refusals
use Rattle.intent_compiler.specs.CompilerAnswers.{IntentAnswers, NoneLessFor}
use Rattle.pce_protocol.specs.declared.reply.ReplyError.TheVariants as errors
use Rattle.pce_answers.specs.NetAnswers.{IsCompileReply, Reply, compiled_reply_of, why_of}
use Rattle.pce_answers.specs.NetAnswersTerms.{IsOr, IsReplyTo}

pub replied : (net : Network) (intent : Intent) (asked : Bool) (answer : Result Compiled CompileFault) (reply : Reply)
    → IntentAnswers net intent answer → NoneLessFor net intent answer → reply ≡ compiled_reply_of net intent asked answer
    → IsReplyTo net asked (Ok intent) reply
replied net intent asked answer reply is none e = inr (answer, is, none, e)

pub wanting : (net : Network) (asked : Bool) (read : Result Intent IntentFault) → IsReplyTo net asked read (Err errors.NoMemory)
wanting net asked read = inl refl

pub of_intent : (net : Network) (text : List ℕ) (asked : Bool) (intent : Intent) (reply : Reply) → intent_of_text net text ≡ Ok intent
    → IsReplyTo net asked (Ok intent) reply → IsCompileReply net text asked reply
of_intent net text asked intent reply e is =
    subst (λ (read : Result Intent IntentFault). IsReplyTo net asked read reply) (sym e) is

pub of_fault : (net : Network) (text : List ℕ) (asked : Bool) (fault : IntentFault) (reply : Reply) → intent_of_text net text ≡ Err fault
    → IsOr (Err (errors.Refused (why_of (refusals.Intent fault)))) reply → IsCompileReply net text asked reply
of_fault net text asked fault reply e is =
    subst (λ (read : Result Intent IntentFault). IsReplyTo net asked read reply) (sym e) is

pub of_want : (net : Network) (text : List ℕ) (asked : Bool) → IsCompileReply net text asked (Err errors.NoMemory)
of_want net text asked = inl refl

pub ruleset replying = (replied, wanting)

pub ruleset reading = (of_intent, of_fault, of_want)
