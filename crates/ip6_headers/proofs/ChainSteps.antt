-- Steps along a chain over a packet's bytes: the chain of the definition is what they give.
use Rattle.std.proofs.Common.{◌≡◌, ℕ, ◌+◌, ◌-◌, ◌≤◌, true, List, length, take, drop, slice_index, sym, ap, ◌∙◌, arith}
use Rattle.std.proofs.lemmas.List.{drop-drop, get_or-take, length-take-le}
use Rattle.std.specs.Prelude.{Result, Ok, Err}
use Rattle.srv6_rules.specs.Packet.{Packet, header_len}
use Rattle.srv6_rules.specs.Chain.{ChainPlace, Header, is_whole, extension_bytes, behind, behind_in, from_place}
use Rattle.srv6_rules.specs.ChainTerms.{place_behind, chain_at}
use Rattle.srv6_rules.proofs.PublicLaws.{chain_at_header, chain_at_upper, chain_at_cut}
use Rattle.ip6_headers.specs.declared.chain.ChainStep.{ChainStep}
use Rattle.ip6_headers.specs.declared.chain.ChainStep.TheVariants as steps
use Rattle.ip6_headers.specs.declared.chain.BadChain.{BadChain}
use Rattle.ip6_headers.specs.ChainStepping.{IsHeader, IsStep, begun, place_view}

-- where the chain goes on after a whole header
pub behind_whole : (q : ChainPlace) (bytes : List ℕ) (len : ℕ) → IsHeader q.kind bytes len
    → place_behind (record { place = q; bytes = take len bytes }) ≡ behind_in q bytes
behind_whole q bytes len is =
    let least = is.least in
    let taken : length (take len bytes) ≡ len = length-take-le len bytes is.within in
    let first : slice_index (take len bytes) 0 ≡ slice_index bytes 0 = get_or-take len bytes 0 0 (omega arith) in
    let n : length (take len bytes) ≡ extension_bytes q.kind bytes = taken ∙ is.stated in
    let one : ChainPlace = record { at = q.at + extension_bytes q.kind bytes; kind = slice_index bytes 0; named_at = q.at } in
    let two : ChainPlace = record { at = q.at + length (take len bytes); kind = slice_index bytes 0; named_at = q.at } in
    let three : ChainPlace = record { at = q.at + length (take len bytes); kind = slice_index (take len bytes) 0; named_at = q.at } in
    let e : two ≡ one = ap (λ k. record { at = q.at + k; kind = slice_index bytes 0; named_at = q.at }) n in
    let f : three ≡ two = ap (λ k. record { at = q.at + length (take len bytes); kind = k; named_at = q.at }) first in
    f ∙ e

module _ (p : Packet) (bytes : List ℕ) (q : ChainPlace) (start : header_len ≤ q.at) (payload : drop header_len bytes ≡ p.payload) where
  -- a packet's bytes from a place on are those of its payload
  there : from_place p q.at ≡ drop q.at bytes
  there =
      let sum : header_len + (q.at - header_len) ≡ q.at = omega arith in
      ap (drop (q.at - header_len)) (sym payload) ∙ drop-drop (q.at - header_len) header_len bytes ∙ ap (λ n. drop n bytes) sum

  -- the chain from a place on is what a step begins
  pub step_begun : (r : Result ChainStep BadChain) → IsStep q (drop q.at bytes) r → chain_at p q ≡ begun p q r
  step_begun (Ok (steps.Header len next)) is =
      let xs : List ℕ = from_place p q.at in
      let header : IsHeader q.kind (drop q.at bytes) len = is.0 in
      let whole : is_whole q.kind xs ≡ true = ap (is_whole q.kind) there ∙ header.whole in
      let n : extension_bytes q.kind xs ≡ len = ap (extension_bytes q.kind) there ∙ sym header.stated in
      let on : behind_in q xs ≡ place_view next = ap (behind_in q) there ∙ sym is.1 in
      let h : ℕ → Header = λ k. record { place = q; bytes = take k xs } in
      chain_at_header p q start header.extension whole
      ∙ ap (λ k. behind (h k) (chain_at p (behind_in q xs))) n
      ∙ ap (λ k. behind (h len) (chain_at p k)) on
  step_begun (Ok steps.Upper) is = chain_at_upper p q start is
  step_begun (Err bad) is = chain_at_cut p q start is.0 (ap (is_whole q.kind) there ∙ is.1)
