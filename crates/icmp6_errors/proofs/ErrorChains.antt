-- Whether a packet is itself an error, from each place of its chain on.
use Rattle.std.proofs.Common.{◌≡◌, ℕ, ◌+◌, ◌≤◌, true, false, not, ◌&&◌, ◌==◌, List, [], length, take, drop, slice_get, sym, ap, ◌∙◌, arith}
use Rattle.std.proofs.lemmas.List.{length-drop}
use Rattle.srv6_rules.specs.Packet.{Packet, header_len, spelling}
use Rattle.srv6_rules.specs.Chain as chains
use Rattle.srv6_rules.specs.Chain.{extension_bytes, behind_in, start_of, from_place}
use Rattle.srv6_rules.specs.ChainTerms.{chain_at}
use Rattle.srv6_rules.specs.Errors.{is_error_message, is_error_type, is_later_fragment, leads_to_error}
use Rattle.srv6_rules.proofs.PublicLaws.{length_spelling, spelled_from, error_start, error_behind}
use Rattle.ip6_headers.specs.ChainStepping.{IsHeader}

-- the question of a packet's bytes is that of its chain from a place on
pub record IsAsked (p : Packet) (bytes : List ℕ) (q : chains.ChainPlace) : Type 0 where
  pub same : is_error_message p ≡ leads_to_error p (chain_at p q)
  pub behind : header_len ≤ q.at
  pub within : q.at ≤ length bytes

pub asked_start : (p : Packet) (bytes : List ℕ) (q : chains.ChainPlace) → bytes ≡ spelling p → q ≡ start_of p → IsAsked p bytes q
asked_start p bytes q spelled start =
    let at : q.at ≡ 40 = ap (λ k. k.at) start in
    let long : length bytes ≡ 40 + length p.payload = ap length spelled ∙ length_spelling p in
    record {
      same = error_start p ∙ ap (λ k. leads_to_error p (chain_at p k)) (sym start);
      behind = omega arith;
      within = omega arith;
    }

module _ (p : Packet) (bytes : List ℕ) (q : chains.ChainPlace) (spelled : bytes ≡ spelling p) (asked : IsAsked p bytes q) where
  pub asked_upper : chain_at p q ≡ record { headers = []; end = chains.Upper q }
      → is_error_message p ≡ ((q.kind == 58) && is_error_type (slice_get (drop q.at bytes) 0))
  asked_upper is =
      asked.same ∙ ap (leads_to_error p) is
      ∙ ap (λ xs. (q.kind == 58) && is_error_type (slice_get xs 0)) (sym (spelled_from p bytes q.at spelled asked.behind))

  pub asked_cut : chain_at p q ≡ record { headers = []; end = chains.Cut q } → is_error_message p ≡ false
  asked_cut is = asked.same ∙ ap (leads_to_error p) is

  module _ (len : ℕ) (next : chains.ChainPlace)
      (is : chain_at p q
      ≡ chains.behind (record { place = q; bytes = take len (from_place p q.at) }) (chain_at p next)) where
    pub asked_header : is_error_message p
        ≡ (not (is_later_fragment (record { place = q; bytes = take len (drop q.at bytes) })) && leads_to_error p (chain_at p next))
    asked_header =
        asked.same ∙ ap (leads_to_error p) is
        ∙ error_behind p (record { place = q; bytes = take len (from_place p q.at) }) (chain_at p next)
        ∙ ap (λ xs. not (is_later_fragment (record { place = q; bytes = take len xs })) && leads_to_error p (chain_at p next))
        (sym (spelled_from p bytes q.at spelled asked.behind))

    pub asked_later : is_later_fragment (record { place = q; bytes = take len (drop q.at bytes) }) ≡ true → is_error_message p ≡ false
    asked_later later = asked_header ∙ ap (λ b. not b && leads_to_error p (chain_at p next)) later

    pub asked_behind : is_later_fragment (record { place = q; bytes = take len (drop q.at bytes) }) ≡ false
        → IsHeader q.kind (drop q.at bytes) len → next ≡ behind_in q (drop q.at bytes) → IsAsked p bytes next
    asked_behind earlier header goes =
        let at : next.at ≡ q.at + extension_bytes q.kind (drop q.at bytes) = ap (λ k. k.at) goes in
        let stated = header.stated in
        let within = header.within in
        let before = asked.behind in
        let room = length-drop q.at bytes in
        let inside = asked.within in
        record {
          same = asked_header ∙ ap (λ b. not b && leads_to_error p (chain_at p next)) earlier;
          behind = omega arith;
          within = omega arith;
        }
