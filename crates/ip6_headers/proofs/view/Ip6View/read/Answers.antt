use Rattle.std.proofs.Common.{Ok, Err}
use Rattle.srv6_rules.specs.Packet.{packet_at}
use Rattle.ip6_headers.proofs.PacketBytes.{read_back}
use Rattle.ip6_headers.proofs.view.Ip6View.read.Goals as goal

pub returns-in-Some-clause-back : goal.returns-in-Some-clause-back
returns-in-Some-clause-back c = read_back c.args.bytes.now (Err c.in-Some.fault) c.in-Some.ensures

pub returns-in-None-clause-back : goal.returns-in-None-clause-back
returns-in-None-clause-back c = read_back c.args.bytes.now (Ok (packet_at c.args.bytes.now)) c.in-None.ensures.reads
