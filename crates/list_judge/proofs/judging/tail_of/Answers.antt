use Rattle.std.proofs.Common.{◌≡◌, ◌++◌, List, length, sym, ◌∙◌, ap, arith}
use Rattle.v6_addr.specs.Address.{PrefixValue}
use Rattle.list_pack.specs.SidLists.{prefixes_of}
use Rattle.list_judge.proofs.ListTails.{last_tail}
use Rattle.list_judge.proofs.judging.tail_of.Goals as goal

pub returns-in_ok-push_prefixes-in-Some : goal.returns-in_ok-push_prefixes-in-Some
returns-in_ok-push_prefixes-in-Some c =
    let last = c.in-Some.container.now in
    let prefixes = c.push_prefixes.new.prefixes in
    let count : c.len.result ≡ length prefixes.items = omega (arith, c.len.ensures, prefixes.ok.0) in
    last_tail c.args.each c.args.list.now last prefixes.items c.len.result c.if-each.false (sym c.in-Some.ensures.value)
    (c.in_ok-push_prefixes-in-Some.ensures
    ∙ ap (λ (xs : List PrefixValue). xs ++ prefixes_of last) c.new-prefixes.ensures.items) count
