use Rattle.walk_commands.proofs.inner_packets.inner_packet.Goals as goal

pub returns-in-V6 : goal.returns-in-V6
returns-in-V6 c = rw c.in-V6.is c.inner6.ensures

pub returns-in-V4 : goal.returns-in-V4
returns-in-V4 c = rw c.in-V4.is c.inner4.ensures
