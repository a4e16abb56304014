use Rattle.std.proofs.Common.{◌≡◌, ◌<◌, length, is_ok, refl, arith}
use Rattle.line_talk.specs.declared.mem_client.Asked.{Asked}
use Rattle.line_talk.proofs.Asks.{begins}
use Rattle.line_talk.proofs.mem_client.MemClient.begin_read.Goals as goal

pub returns : goal.returns
returns c =
    let v = c.self.inside in
    let a : Asked = record { given = v.given; taken = c.len.result } in
    let all : c.len.result ≡ length v.taken.items = omega (arith, c.len.ensures, v.taken.ok.0) in
    let some : 0 < v.passes = omega (arith, c.if-self-eq0.false) in
    begins v.bytes.items v.taken.items v.given v.asks.items c.push.new.self.items a v.most v.passes v.ended v.read_failed v.write_failed (is_ok c.push.result) c.is_ok.result
    c.args.self.now c.self.view_is c.push.ensures.items refl all some c.is_ok.ensures.value
