use Rattle.std.proofs.Common.{◌++◌, ◌∙◌, List, ℕ, take, drop, ap}
use Rattle.std.proofs.lemmas.List.{drop-drop}
use Rattle.srv6_rules.specs.Packet.{address_bytes}
use Rattle.ip6_headers.proofs.numbers.put_address.Goals as goal

pub returns : goal.returns
unfolding address_bytes
returns c =
    let at : ℕ = c.args.at in
    let bytes : List ℕ = c.args.bytes.now in
    let cut = c.split_at_mut-part.ensures in
    ap (λ ys. ys ++ c.write_u128.new.buf) cut.front
    ∙ ap (λ ys. take at bytes ++ ys)
    (c.write_u128.ensures ∙ ap (λ ys. address_bytes c.args.a.value ++ ys) (ap (drop 16) cut.back ∙ drop-drop 16 at bytes))
