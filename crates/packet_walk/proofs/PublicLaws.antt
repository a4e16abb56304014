-- The lemmas that crates above may cite.
pub use Rattle.packet_walk.proofs.FlightNumbers.{packet_same, packet_other, packet_behind, packet_within, given_packet, turned_going, turned_ended, turned_staged, turned_net, turned_other}
pub use Rattle.packet_walk.proofs.FlightRests.{rest_going, rest_ended, end_going, end_ended, end_of_cons, entering_counted, goes_on, staged_counted}
pub use Rattle.packet_walk.proofs.Moves.{given_to_law, turned_times_suc}
pub use Rattle.packet_walk.proofs.FlightWalking.{Walking, stages_of, walking_from, walking_starts, walking_on, walking_less, walking_going}
pub use Rattle.packet_walk.proofs.Schedules.{stages_scheduled, steps_scheduled, count_scheduled}
pub use Rattle.packet_walk.proofs.FlightComings.{rising_distinct, numbers_of, packet_stages, rest_over, over_ended}
pub use Rattle.packet_walk.proofs.Due.{length_turned, of_turned, rising_push}
