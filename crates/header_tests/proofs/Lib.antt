pub mod PacketLengths
