use Rattle.std.proofs.Common.{◌≡◌, ◌⊎◌, ℕ, ◌+◌, ◌≤◌, ap, sym, subst, arith}
use Rattle.srv6_rules.specs.declared.numbers.TheConstants.{NEXT_HEADER_AT}
use Rattle.srv6_rules.specs.Packet.{header_len}
use Rattle.srv6_rules.specs.Chain.{ChainPlace}
use Rattle.end_behaviours.specs.LastHeaders.{last_place}
use Rattle.end_behaviours.specs.SrhStepping.{Reaches}
use Rattle.end_behaviours.proofs.LastLemmas.{OutOf, can_take_last, none_comes, taking_ends, taking_more, taking_start}
use Rattle.end_behaviours.proofs.TreatmentLemmas.{remains_at}
use Rattle.end_behaviours.proofs.writing.take_out_all.Goals as goal

pub lasts-init : goal.lasts-init
lasts-init c = taking_start c.args.outcome c.args.lasts.now.items c.args.buf.now c.requires.can

pub returns-in_default-clause-outcome : goal.returns-in_default-clause-outcome
returns-in_default-clause-outcome c =
    taking_ends c.args.outcome c.args.lasts.now.items c.args.buf.now c.lasts.lasts.items c.lasts.buf c.lasts.invariant
    (none_comes c.lasts.lasts.items c.pop.result c.in_default.not-Some c.pop.ensures.variant.1)

pub take_out_of-requires-clause-remains : goal.take_out_of-requires-clause-remains
take_out_of-requires-clause-remains c =
    let can = can_take_last _ _ c.in-Some.last _ _ c.in-Some.ensures.items c.lasts.invariant.can in
    let at : c.place.result.at ≡ c.in-Some.last.at = ap (λ (k : ChainPlace). k.at) c.place.ensures in
    let sum : c.place.result.at + c.len.result ≡ c.in-Some.last.at + c.in-Some.last.len = omega (arith, at, c.len.ensures) in
    remains_at _ _ c.lasts.buf.bytes c.args.outcome (sym sum) can.remains

pub take_out_of-requires-clause-behind : goal.take_out_of-requires-clause-behind
take_out_of-requires-clause-behind c =
    let can = can_take_last _ _ c.in-Some.last _ _ c.in-Some.ensures.items c.lasts.invariant.can in
    let at : c.place.result.at ≡ c.in-Some.last.at = ap (λ (k : ChainPlace). k.at) c.place.ensures in
    let behind = can.behind in
    omega arith

pub take_out_of-requires-clause-earlier : goal.take_out_of-requires-clause-earlier
take_out_of-requires-clause-earlier c =
    let can = can_take_last _ _ c.in-Some.last _ _ c.in-Some.ensures.items c.lasts.invariant.can in
    let at : c.place.result.at ≡ c.in-Some.last.at = ap (λ (k : ChainPlace). k.at) c.place.ensures in
    let named : c.place.result.named_at ≡ c.in-Some.last.named_at = ap (λ (k : ChainPlace). k.named_at) c.place.ensures in
    let earlier = can.earlier in
    omega arith

pub take_out_of-requires-clause-field : goal.take_out_of-requires-clause-field
take_out_of-requires-clause-field c =
    let can = can_take_last _ _ c.in-Some.last _ _ c.in-Some.ensures.items c.lasts.invariant.can in
    let named : c.place.result.named_at ≡ c.in-Some.last.named_at = ap (λ (k : ChainPlace). k.named_at) c.place.ensures in
    let P : ℕ → Type 0 = λ n. (n ≡ NEXT_HEADER_AT) ⊎ (header_len ≤ n) in
    subst P (sym named) can.field

pub take_out_of-requires-clause-some : goal.take_out_of-requires-clause-some
take_out_of-requires-clause-some c =
    let can = can_take_last _ _ c.in-Some.last _ _ c.in-Some.ensures.items c.lasts.invariant.can in
    let some = can.some in
    let len = c.len.ensures in
    omega arith

pub lasts-preserved : goal.lasts-preserved
lasts-preserved c =
    let last = c.in-Some.last in
    let at : c.place.result.at ≡ last.at = ap (λ (k : ChainPlace). k.at) c.place.ensures in
    let P : ChainPlace → Type 0 = λ k. OutOf k c.len.result c.lasts.buf.bytes c.take_out_of.new.buf.bytes c.args.outcome in
    let Q : ℕ → Type 0 = λ n. OutOf (last_place last) n c.lasts.buf.bytes c.take_out_of.new.buf.bytes c.args.outcome in
    let R : ℕ → Type 0 = λ n. Reaches n c.take_out_of.new.buf.bytes c.args.outcome in
    taking_more c.args.outcome c.args.lasts.now.items c.args.buf.now c.lasts.lasts.items c.pop.new.self.items last c.lasts.buf
    c.take_out_of.new.buf c.lasts.invariant c.in-Some.ensures.items
    (subst Q c.len.ensures (subst P c.place.ensures c.take_out_of.ensures.outcome)) (subst R at c.take_out_of.ensures.reaches)
    c.take_out_of.ensures.front
