-- The lines of a packet's chain, from each place of it on.
use Rattle.std.proofs.Common.{◌≡◌, ℕ, ◌+◌, ◌-◌, ◌≤◌, Bool, true, false, ◌==◌, List, [], ◌++◌, length, take, drop, sym, ap, ◌∙◌, arith, append_assoc, append-nil}
use Rattle.std.specs.Prelude.{if◌then◌else◌}
use Rattle.std.proofs.lemmas.List.{length-drop}
use Rattle.srv6_rules.specs.Packet.{Packet, header_len, spelling}
use Rattle.srv6_rules.specs.Chain as chains
use Rattle.srv6_rules.specs.Chain.{extension_bytes, behind_in, start_of, chain_of, from_place}
use Rattle.srv6_rules.specs.ChainTerms.{chain_at}
use Rattle.srv6_rules.proofs.PublicLaws.{chain_of_start, length_spelling, spelled_from}
use Rattle.ip6_headers.specs.ChainStepping.{IsHeader}
use Rattle.header_lines.specs.HeaderLines.{bad_chain_line, chain_lines, header_lines, upper_line}

-- what is shown so far, and the lines of the chain from a place on, are all that is to be shown
pub record IsShown (p : Packet) (bytes first now : List ℕ) (q : chains.ChainPlace) : Type 0 where
  pub same : now ++ chain_lines p (chain_at p q) ≡ first ++ chain_lines p (chain_of p)
  pub behind : header_len ≤ q.at
  pub within : q.at ≤ length bytes

pub shown_start : (p : Packet) (bytes first : List ℕ) (q : chains.ChainPlace) → bytes ≡ spelling p → q ≡ start_of p
    → IsShown p bytes first first q
shown_start p bytes first q spelled start =
    let at : q.at ≡ 40 = ap (λ k. k.at) start in
    let long : length bytes ≡ 40 + length p.payload = ap length spelled ∙ length_spelling p in
    record {
      same = ap (λ k. first ++ chain_lines p (chain_at p k)) start ∙ ap (λ c. first ++ chain_lines p c) (sym (chain_of_start p));
      behind = omega arith;
      within = omega arith;
    }

module _ (p : Packet) (bytes first now new : List ℕ) (q : chains.ChainPlace) (spelled : bytes ≡ spelling p)
    (shown : IsShown p bytes first now q) where
  pub shown_upper : chain_at p q ≡ record { headers = []; end = chains.Upper q }
      → new ≡ now ++ upper_line q.kind q.at (length (drop q.at bytes)) → new ≡ first ++ chain_lines p (chain_of p)
  shown_upper is added =
      let long : length bytes ≡ 40 + length p.payload = ap length spelled ∙ length_spelling p in
      let left : length (drop q.at bytes) ≡ (40 + length p.payload) - q.at = length-drop q.at bytes ∙ ap (λ n. n - q.at) long in
      added ∙ ap (λ n. now ++ upper_line q.kind q.at n) left
      ∙ (ap (λ c. now ++ chain_lines p c) (sym is) ∙ shown.same)

  pub shown_cut : chain_at p q ≡ record { headers = []; end = chains.Cut q } → new ≡ now ++ bad_chain_line q.at
      → new ≡ first ++ chain_lines p (chain_of p)
  shown_cut is added = added ∙ (ap (λ c. now ++ chain_lines p c) (sym is) ∙ shown.same)

  module _ (len : ℕ) (next : chains.ChainPlace)
      (is : chain_at p q
      ≡ chains.behind (record { place = q; bytes = take len (from_place p q.at) }) (chain_at p next))
      (added : new ≡ now ++ header_lines (record { place = q; bytes = take len (drop q.at bytes) })) where
    shown_header : now ++ (header_lines (record { place = q; bytes = take len (drop q.at bytes) })
        ++ (if q.kind == 44 then [] else chain_lines p (chain_at p next)))
        ≡ first ++ chain_lines p (chain_of p)
    shown_header =
        ap (λ xs. now ++ (header_lines (record { place = q; bytes = take len xs })
        ++ (if q.kind == 44 then [] else chain_lines p (chain_at p next)))) (spelled_from p bytes q.at spelled shown.behind)
        ∙ (ap (λ c. now ++ chain_lines p c) (sym is) ∙ shown.same)

    shown_by : (last : Bool) → (q.kind == 44) ≡ last
        → new ++ (if last then [] else chain_lines p (chain_at p next)) ≡ first ++ chain_lines p (chain_of p)
    shown_by last kind =
        ap (λ xs. xs ++ (if last then [] else chain_lines p (chain_at p next))) added
        ∙ append_assoc now (header_lines (record { place = q; bytes = take len (drop q.at bytes) }))
        (if last then [] else chain_lines p (chain_at p next))
        ∙ ap (λ b. now ++ (header_lines (record { place = q; bytes = take len (drop q.at bytes) })
        ++ (if b then [] else chain_lines p (chain_at p next)))) (sym kind)
        ∙ shown_header

    -- nothing is shown after a fragment header
    pub shown_fragment : (q.kind == 44) ≡ true → new ≡ first ++ chain_lines p (chain_of p)
    shown_fragment kind = sym (append-nil new) ∙ shown_by true kind

    pub shown_behind : (q.kind == 44) ≡ false → IsHeader q.kind (drop q.at bytes) len → next ≡ behind_in q (drop q.at bytes)
        → IsShown p bytes first new next
    shown_behind kind header goes =
        let at : next.at ≡ q.at + extension_bytes q.kind (drop q.at bytes) = ap (λ k. k.at) goes in
        let stated = header.stated in
        let within = header.within in
        let before = shown.behind in
        let room = length-drop q.at bytes in
        let inside = shown.within in
        record {
          same = shown_by false kind;
          behind = omega arith;
          within = omega arith;
        }
