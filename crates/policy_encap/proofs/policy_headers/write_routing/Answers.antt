use Rattle.std.proofs.Common.{◌≡◌, ◌∙◌, ◌++◌, List, ℕ, drop, reverse, ap}
use Rattle.v6_addr.specs.declared.address.Addr.{Addr}
use Rattle.srv6_rules.specs.Srh.{srh_spelling}
use Rattle.srh_codec.specs.Writing.{numbers_of, header_over}
use Rattle.policy_encap.proofs.RoundLemmas.{numbers_reverse}
use Rattle.policy_encap.proofs.policy_headers.write_routing.Goals as goal

pub returns : goal.returns
returns c =
    let list : List Addr = c.args.listed.now in
    let srh : List ℕ → List ℕ = λ xs. srh_spelling (header_over c.args.next_header c.args.segments_left xs) in
    let entries : c.reverse.new.self ≡ reverse list = c.reverse.ensures.after ∙ ap reverse c.copy_from_slice.ensures.after in
    let written : c.write_srh.new.out ≡ srh (reverse (numbers_of list)) =
    c.write_srh.ensures ∙ ap (λ xs. srh (numbers_of xs)) entries ∙ ap srh (numbers_reverse list) in
    ap (λ xs. xs ++ c.split_at_mut-header.result.1.now) written
    ∙ ap (λ xs. srh (reverse (numbers_of list)) ++ xs) (c.split_at_mut-header.ensures.back
    ∙ ap (λ n. drop n c.args.out.now) c.routing_len.ensures)
