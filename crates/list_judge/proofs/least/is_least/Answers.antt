use Rattle.std.proofs.Common.{◌≡◌, subst}
use Rattle.std.specs.Prelude.{Ok}
use Rattle.net_flatness.specs.Flat.{IsFlat, flatness_of}
use Rattle.leg_table.specs.StrictTableTerms.{LegTable}
use Rattle.list_judge.proofs.ChosenNumbers.{accepted, as_found, found_at, hop_limit_found, no_list_none, not_flat_never, too_long_found}
use Rattle.list_judge.proofs.least.is_least.Goals as goal

pub compile_over-requires-clause-flat : goal.compile_over-requires-clause-flat
compile_over-requires-clause-flat c =
    let flat : IsFlat c.args.net.now = subst (λ (t : LegTable). IsFlat t.net) c.requires.legs c.keeps_rules.ensures.flat in
    accepted (flatness_of c.args.net.now)
    ((c.flat_networks_are_refused_for_nothing.ensures c.args.net.now c.requires.whole).1 flat)

pub returns-in-Ok : goal.returns-in-Ok
returns-in-Ok c =
    let net = c.args.net.now in
    let intent = c.args.intent.now in
    let numbers = c.args.numbers.now in
    let found = c.in-Ok.chosen in
    let is = found_at c.args.legs.now net intent intent.reduced found c.requires.legs c.in-Ok.ensures.answer.found in
    λ list legal containers sids realizes.
    as_found net intent intent.reduced found list numbers.containers numbers.sids numbers.need c.equals.result is containers sids
    c.equals.ensures

pub returns-in-Err-TooLong : goal.returns-in-Err-TooLong
returns-in-Err-TooLong c =
    let net = c.args.net.now in
    let intent = c.args.intent.now in
    let numbers = c.args.numbers.now in
    let found = c.in-Err-TooLong.found in
    let is = too_long_found c.args.legs.now net intent c.requires.legs c.in-Err-TooLong.field-0 c.in-Err-TooLong.ensures.answer found
    c.in-Err-TooLong.field-0-is in
    λ list legal containers sids realizes.
    as_found net intent intent.reduced found list numbers.containers numbers.sids numbers.need c.equals-in-Err-TooLong.result is
    containers sids c.equals-in-Err-TooLong.ensures

pub returns-in-Err-HopLimit : goal.returns-in-Err-HopLimit
returns-in-Err-HopLimit c =
    let net = c.args.net.now in
    let intent = c.args.intent.now in
    let numbers = c.args.numbers.now in
    let found = c.in-Err-HopLimit.found in
    let is = hop_limit_found c.args.legs.now net intent c.requires.legs c.in-Err-HopLimit.field-0 c.in-Err-HopLimit.ensures.answer found
    c.in-Err-HopLimit.field-0-is in
    λ list legal containers sids realizes.
    as_found net intent intent.reduced found list numbers.containers numbers.sids numbers.need c.equals-in-Err-HopLimit.result is
    containers sids c.equals-in-Err-HopLimit.ensures

pub returns-in-Err-NoList : goal.returns-in-Err-NoList
returns-in-Err-NoList c =
    λ list legal containers sids realizes.
    absurd (no_list_none c.args.legs.now c.args.net.now c.args.intent.now c.requires.legs c.in-Err-NoList.field-0
    c.in-Err-NoList.ensures.answer c.in-Err-NoList.field-0-0 c.in-Err-NoList.field-0-is list c.args.numbers.now.need legal realizes)

pub returns-in-Err-NotFlat : goal.returns-in-Err-NotFlat
returns-in-Err-NotFlat c =
    let flat : IsFlat c.args.net.now = subst (λ (t : LegTable). IsFlat t.net) c.requires.legs c.keeps_rules.ensures.flat in
    let ok : flatness_of c.args.net.now ≡ Ok tt = accepted (flatness_of c.args.net.now)
    ((c.flat_networks_are_refused_for_nothing.ensures c.args.net.now c.requires.whole).1 flat) in
    let never = not_flat_never c.args.legs.now c.args.net.now c.args.intent.now c.requires.legs c.in-Err-NotFlat.field-0
    c.in-Err-NotFlat.ensures.answer c.in-Err-NotFlat.field-0-0 c.in-Err-NotFlat.field-0-is ok in
    λ list legal containers sids realizes. absurd never
