use Rattle.std.proofs.Common.{Ok, Err}
use Rattle.srv6_rules.specs.Packet4.{packet4_at}
use Rattle.ip6_headers.proofs.PacketBytes4.{holds4_spellable, read4_back}
use Rattle.ip6_headers.proofs.ip4.Ip4View.read.Goals as goal

pub returns-in-Some-clause-back : goal.returns-in-Some-clause-back
returns-in-Some-clause-back c = read4_back c.args.bytes.now (Err c.in-Some.fault) c.in-Some.ensures

pub returns-in-None-clause-spellable : goal.returns-in-None-clause-spellable
returns-in-None-clause-spellable c = holds4_spellable c.args.bytes.now c.in-None.ensures

pub returns-in-None-clause-back : goal.returns-in-None-clause-back
returns-in-None-clause-back c = read4_back c.args.bytes.now (Ok (packet4_at c.args.bytes.now)) c.in-None.ensures.reads
