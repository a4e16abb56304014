-- The reply to a line, by that to what was read of it.
use Rattle.std.proofs.Common.{◌≡◌, ℕ, List, Result, Ok, Err, IfOk, ap, ◌∙◌, inl, inr}
use mathlib.Core.Logic.{◌⊎◌}
use Rattle.std.specs.Global.{Vec}
use Rattle.base.specs.declared.no_memory.NoMemory.{NoMemory as NoRoom}
use Rattle.text_faults.specs.declared.fault.OrNoMemory.{OrNoMemory}
use Rattle.text_faults.specs.declared.fault.OrNoMemory.TheVariants as reads
use Rattle.line_talk.specs.EngineAnswers.{Answers}
use Rattle.pce_protocol.specs.declared.id.Id.{Id}
use Rattle.pce_protocol.specs.declared.id.Id.TheVariants as ids
use Rattle.pce_protocol.specs.declared.request.Request.{Request}
use Rattle.pce_protocol.specs.declared.request.RequestFault.{RequestFault}
use Rattle.pce_protocol.specs.declared.reply.Answer.{Answer}
use Rattle.pce_protocol.specs.declared.reply.ReplyError.{ReplyError}
use Rattle.pce_protocol.specs.declared.reply.ReplyError.TheVariants as errors
use Rattle.pce_protocol.specs.Requests.{request_of, reply_id_of}
use Rattle.pce_protocol.specs.Replies.{reply_text}
use Rattle.pce_engine.specs.EngineReplies.{PceState, Replies, RepliesToLine, engine_rules}

-- the id is the line's, or memory was wanting for the line itself
abbrev IsIdOf : List ℕ → Id → Result Request (OrNoMemory RequestFault) → Type 0
IsIdOf line id request = (id ≡ reply_id_of line) ⊎ ((id ≡ ids.Null) × (request ≡ Err reads.NoMemory))

abbrev IsWanting : PceState → Id → List ℕ → PceState → Type 0
IsWanting before id text behind = (text ≡ reply_text id (Err errors.NoMemory)) × (behind.held ≡ before.held)

pub answered : (before behind : PceState) (line text : List ℕ) (id : Id) (request : Result Request (OrNoMemory RequestFault))
    → IsIdOf line id request
    → ((reply : Result Answer ReplyError) × (text ≡ reply_text id reply) × Replies (request_of line) before reply behind) ⊎ IsWanting before id text behind
    → (request ≡ Err reads.NoMemory → IsWanting before id text behind)
    → RepliesToLine before line text behind
answered before behind line text id request (inl same) (inl w) wanting = inl (w.0, w.1 ∙ ap (λ i. reply_text i w.0) same, w.2)
answered before behind line text id request (inl same) (inr w) wanting = inr (inl (w.0 ∙ ap (λ i. reply_text i (Err errors.NoMemory)) same), w.1)
answered before behind line text id request (inr none) given wanting =
    let w = wanting none.1 in inr (inr (w.0 ∙ ap (λ i. reply_text i (Err errors.NoMemory)) none.0), w.1)

pub starved : (before behind : PceState) (line : List ℕ) (id : Id) (request : Result Request (OrNoMemory RequestFault)) (result : Result (Vec ℕ) NoRoom)
    → IsIdOf line id request → IfOk result (λ text. text.items ≡ reply_text id (Err errors.NoMemory)) → behind.held ≡ before.held
    → Answers engine_rules before line result behind
starved before behind line id request (Ok text) (inl same) is held = inr (inl (is ∙ ap (λ i. reply_text i (Err errors.NoMemory)) same), held)
starved before behind line id request (Ok text) (inr none) is held = inr (inr (is ∙ ap (λ i. reply_text i (Err errors.NoMemory)) none.0), held)
starved before behind line id request (Err fault) whose is held = held
