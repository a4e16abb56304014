use Rattle.std.proofs.Common.{ℕ, nat_le, if◌then◌else◌, sym, ap, subst, ◌∙◌, length}
use Rattle.std.specs.Prelude.{Option, Some, None}
use Rattle.srv6_rules.specs.Endpoint.{next_csid}
use Rattle.srv6_rules.specs.Packet.{packet_at}
use Rattle.endpoint_chain.proofs.PublicLaws.{alone_length}
use Rattle.end_behaviours.specs.Onward.{IsLengthFrom}
use Rattle.end_behaviours.proofs.EndLengthLemmas.{length_shifted}
use Rattle.end_behaviours.proofs.lengths.shifted_len.Goals as goal

pub returns : goal.returns
returns c = λ s first within.
    let bytes = c.args.bytes.now in
    let p = packet_at bytes in
    let len : ℕ = length bytes in
    let P : Option ℕ → Type 0 = λ o. IsLengthFrom first (next_csid s p) o in
    subst P (sym (c.len_where.ensures ∙ ap (λ b. if b then Some len else None) c.can_lower.ensures))
    (length_shifted s p first len (nat_le p.hop_limit 1) (alone_length bytes c.requires) within)
