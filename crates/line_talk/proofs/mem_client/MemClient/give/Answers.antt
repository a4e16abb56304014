use Rattle.std.proofs.Common.{◌≡◌, ℕ, List, length, take, drop, ap, subst, ◌∙◌, arith}
use Rattle.std.proofs.lemmas.List.{length-take-le}
use Rattle.line_talk.specs.MemTalk.{given}
use Rattle.line_talk.proofs.Asks.{given_more}
use Rattle.line_talk.proofs.mem_client.MemClient.give.Goals as goal

pub returns-clause-given : goal.returns-clause-given
returns-clause-given c =
    let v = c.self.inside in
    let count = c.min-count.result in
    let left = c.split_at.result.1.now in
    let rest : left ≡ drop v.given v.bytes.items = c.split_at.ensures.back ∙ ap (drop v.given) c.deref.ensures.value in
    let size0 = length-take-le count left (omega (arith, c.min.ensures, c.min-count.ensures)) in
    let size = subst (λ (l : List ℕ). length (take count l) ≡ count) rest size0 in
    given_more v.bytes.items v.taken.items v.given count v.asks.items v.most v.passes v.ended v.read_failed v.write_failed size ∙ ap (given count) c.self.view_is
