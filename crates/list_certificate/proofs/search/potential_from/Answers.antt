use Rattle.std.proofs.Common.{◌≡◌, ℕ, ◌+◌, ◌-◌, ◌<◌, ◌≤◌, true, List, Some, length, slice_get, get_or, drop, length-drop, sym, ◌∙◌, ap, arith}
use Rattle.std.proofs.lemmas.Bool.{false≢true}
use Rattle.std.proofs.lemmas.Option.{slice_get_within}
use Rattle.list_pack.specs.ListOrder.{lex_before}
use Rattle.list_certificate.specs.declared.certificate_types.PotentialLine.{PotentialLine}
use Rattle.list_certificate.specs.Tests.{place_key, key_of}
use Rattle.list_certificate.proofs.Listed.{no_line, rest_at, state_same, same_state_law, first_listed, none_listed, scanned_more, scanned_up, before_place}
use Rattle.list_certificate.proofs.search.potential_from.Goals as goal

pub loop-line-init : goal.loop-line-init
loop-line-init g c =
    λ j m e h is.
    before_place (g.L.Legs.seen c.args.legs.now) c.args.lines.now c.args.state (key_of c.args.place) c.args.first
    c.requires.place
    c.requires.splits j m e (omega (arith, h)) is

pub returns-then-is_same : goal.returns-then-is_same
returns-then-is_same g c =
    let rest : c.split_at.result.1.now ≡ drop c.args.first c.args.lines.now = cc in
    let l = get_or c.split_at.result.1.now c.loop-line.line-index no_line in
    let here = rest_at c.args.lines.now c.split_at.result.1.now c.args.first c.loop-line.line-index rest c.loop-line-test.true in
    sym (first_listed c.args.lines.now c.args.state (c.args.first + c.loop-line.line-index) l here
    (state_same l.potential.state c.args.state (sym c.is_same.ensures ∙ c.if-is_same.true)) c.loop-line.invariant)

pub returns-then-is_before : goal.returns-then-is_before
returns-then-is_before g c =
    let v = g.L.Legs.seen c.args.legs.now in
    let rest : c.split_at.result.1.now ≡ drop c.args.first c.args.lines.now = cc in
    let l = get_or c.split_at.result.1.now c.loop-line.line-index no_line in
    let here = rest_at c.args.lines.now c.split_at.result.1.now c.args.first c.loop-line.line-index rest c.loop-line-test.true in
    let higher : lex_before (place_key v c.args.state) (place_key v l.potential.state) ≡ true =
    ap (λ (k : List ℕ). lex_before k (place_key v l.potential.state)) (sym c.requires.place)
    ∙ ap (lex_before (key_of c.args.place)) (sym c.place_of.ensures) ∙ sym c.is_before.ensures ∙ c.if-is_before.true in
    sym (scanned_up v c.args.lines.now c.args.state (c.args.first + c.loop-line.line-index) l c.requires.sorted here higher
    c.loop-line.invariant)

pub loop-line-preserved : goal.loop-line-preserved
loop-line-preserved g c =
    let rest : c.split_at.result.1.now ≡ drop c.args.first c.args.lines.now = cc in
    let l = get_or c.split_at.result.1.now c.loop-line.line-index no_line in
    let here = rest_at c.args.lines.now c.split_at.result.1.now c.args.first c.loop-line.line-index rest c.loop-line-test.true in
    λ j m e h is.
    scanned_more c.args.lines.now c.args.state (c.args.first + c.loop-line.line-index) l here
    (λ same. false≢true (sym c.if-is_same.false ∙ c.is_same.ensures ∙ same_state_law l.potential.state c.args.state same))
    c.loop-line.invariant
    j m e (omega (arith, h)) is

pub returns : goal.returns
returns g c =
    let rest : c.split_at.result.1.now ≡ drop c.args.first c.args.lines.now = cc in
    let size : length c.split_at.result.1.now ≡ length (drop c.args.first c.args.lines.now) =
    ap (λ (xs : List PotentialLine). length xs) rest in
    sym (none_listed c.args.lines.now c.args.state (λ j m e is.
    c.loop-line.invariant j m e (within c.args.lines.now c.args.first j m c.loop-line.line-index e
    (omega (arith, size, c.loop-line-test.false))) is))
  where
    within : (lines : List PotentialLine) (n j : ℕ) (m : PotentialLine) (k : ℕ) → slice_get lines j ≡ Some m
        → length (drop n lines) ≤ k → j < n + k
    within lines n j m k e h =
        let size = slice_get_within lines j m e in
        let rest : length (drop n lines) ≡ length lines - n = length-drop n lines in
        omega (arith, size, rest, h)
