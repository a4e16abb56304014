use Rattle.std.proofs.Common.{[], sym, ◌∙◌}
use Rattle.trace_replay.specs.TraceLines.{local_text}
use Rattle.trace_replay.proofs.WordLemmas.{many_words, one_word, six_words, two_words}
use Rattle.trace_replay.proofs.stage_words.is_stage.Goals as goal

pub returns-in-len1 : goal.returns-in-len1
unfolding local_text
returns-in-len1 c =
    c.eq.ensures ∙ sym (one_word (record { ref_ptr = (0, 0); now = [] }) c.args.words.now c.in-len1.len_at_least c.in-len1.len_below)

pub returns-in-len6 : goal.returns-in-len6
returns-in-len6 c = c.is_of_six.ensures ∙ sym (six_words _ c.args.words.now c.in-len6.len_at_least c.in-len6.len_below)

pub returns-in_default-2 : goal.returns-in_default-2
returns-in_default-2 c = sym (two_words c.args.words.now c.in_default.len_at_least c.in_default.len_below)

pub returns-in_default-3 : goal.returns-in_default-3
returns-in_default-3 c = sym (many_words c.args.words.now c.in_default.len_at_least)
