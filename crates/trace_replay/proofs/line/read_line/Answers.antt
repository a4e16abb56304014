use Rattle.std.proofs.Common.{◌≡◌, Option, ◌∙◌, ap}
use Rattle.std.proofs.lemmas.Result.{IfOk-weaker}
use Rattle.trace_replay.specs.declared.line.Line.{Line}
use Rattle.trace_replay.specs.TraceGrammar.{line_read, words_of, words_read}
use Rattle.trace_replay.proofs.WordLemmas.{no_text, some_text, texts_of}
use Rattle.trace_replay.proofs.line.read_line.Goals as goal

pub returns-in_default-clause-line : goal.returns-in_default-clause-line
returns-in_default-clause-line c = no_text c.args.net.now c.args.line.now c.in_default.ensures.cases.0

pub returns-clause-line : goal.returns-clause-line
returns-clause-line c =
    let net = c.args.net.now in
    let line = c.args.line.now in
    let words : words_read net (texts_of c.as_slice.result.now) ≡ line_read net line =
    ap (λ xs. words_read net (texts_of xs)) c.as_slice.ensures.value
    ∙ (ap (words_read net) c.in_ok-words.ensures
    ∙ (ap (λ xs. words_read net (words_of xs)) c.in-Ok.ensures.cases.0
    ∙ some_text net line c.in-Ok.ensures.cases.1)) in
    IfOk-weaker c.read_words.result _ _ (λ (x : Option Line) (e : x ≡ words_read net (texts_of c.as_slice.result.now)). e ∙ words)
    c.read_words.ensures.line
