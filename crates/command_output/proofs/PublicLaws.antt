-- The lemmas that crates above may cite.
pub use Rattle.command_output.proofs.Asking.{asks_all, asks_fault, asks_front, each, each_map, each_told, is_at_input, reads_its_early, reads_its_none, reads_its_whole, reads_nothing, front_after, front_longer, front_whole, some_map}
pub use Rattle.command_output.proofs.Commanding.{files_fault, input_fault, memory_first, memory_wants, pieces_cut, pieces_refused, pieces_whole, refused_commands, written_cut, written_whole}
pub use Rattle.command_output.proofs.Endings.{judgement_status}
pub use Rattle.command_output.proofs.OutputPieceLemmas.{bytes_in_order_append, ending_by_stop_at, gone_append, marked, seen_of, went_cut}
pub use Rattle.command_output.proofs.PieceSteps.{all_both, all_longer, all_on_err, all_then, all_wanting, cut_at_line, cut_at_out, line_behind_out}
pub use Rattle.command_output.proofs.OutputWriting.{poured_cut, writing, wrote_after, wrote_longer}
pub use Rattle.command_output.proofs.Gathering.{groups_whole, in_groups}
pub use Rattle.command_output.proofs.Pooling.{cut_short, cut_then, goes_behind, goes_both, goes_err_none, goes_kept, goes_longer, goes_nowhere, goes_out_both, goes_out_longer, goes_out_none, goes_same, goes_then, goes_wanting, going, none_went, poured_last, unpoured_last}
