-- What comes of a chain from each place on, header by header.
use Rattle.std.proofs.Common.{◌≡◌, ℕ, ◌+◌, ◌-◌, ◌≤◌, true, false, List, length, take, drop, refl, sym, ap, subst, ◌∙◌, arith, length-drop}
use Rattle.std.proofs.lemmas.List.{drop-drop, length-take-le}
use Rattle.srv6_rules.specs.Packet.{Packet, header_len}
use Rattle.srv6_rules.specs.Chain.{ChainPlace, Header, ChainEnd, Upper, Cut, is_extension, is_whole, behind_in, from_place, start_of, chain_of}
use Rattle.srv6_rules.specs.ChainTerms.{place_behind, chain_at}
use Rattle.srv6_rules.specs.Endpoint.{Endpoint}
use Rattle.srv6_rules.specs.EndpointTerms.{over_chain}
use Rattle.srv6_rules.proofs.PublicLaws.{chain_of_start, over_goes_on}
use Rattle.ip6_headers.specs.ChainStepping.{IsHeader, first_place}
use Rattle.ip6_headers.proofs.PublicLaws.{behind_whole}

-- what comes of a packet is what comes of its chain from a place on, where these bytes stand
pub record ComesTo (treat : Header → Endpoint → Endpoint) (end : ChainEnd → Endpoint) (p : Packet) (e : Endpoint) (q : ChainPlace)
    (rest : List ℕ) : Type 0 where
  pub same : e ≡ over_chain treat end (chain_at p q)
  pub bytes : rest ≡ from_place p q.at
  pub behind : header_len ≤ q.at
  pub ends : q.at + length rest ≡ header_len + length p.payload

module _ (treat : Header → Endpoint → Endpoint) (end : ChainEnd → Endpoint) (p : Packet) where
  pub comes_start : (q : ChainPlace) (rest : List ℕ) (kind : ℕ) → q ≡ first_place kind → kind ≡ p.next_header → rest ≡ p.payload
      → ComesTo treat end p (over_chain treat end (chain_of p)) q rest
  comes_start q rest kind is named all =
      let first : q ≡ start_of p = is ∙ ap first_place named in
      let at : q.at ≡ header_len = ap (λ k. k.at) first in
      let long : length rest ≡ length p.payload = ap length all in
      let none : q.at - header_len ≡ 0 = omega arith in
      record {
        same = ap (over_chain treat end) (chain_of_start p ∙ ap (chain_at p) (sym first));
        bytes = all ∙ ap (λ n. drop n p.payload) (sym none);
        behind = omega arith;
        ends = omega arith;
      }

  module _ (e : Endpoint) (q : ChainPlace) (rest : List ℕ) (c : ComesTo treat end p e q rest) where
    pub comes_upper : is_extension q.kind ≡ false → e ≡ end (Upper q)
    comes_upper upper = c.same ∙ over_goes_on treat end p q c.behind ∙ rw upper refl

    pub comes_cut : is_extension q.kind ≡ true → is_whole q.kind rest ≡ false → e ≡ end (Cut q)
    comes_cut is cut =
        let there : is_whole q.kind (from_place p q.at) ≡ false = ap (is_whole q.kind) (sym c.bytes) ∙ cut in
        c.same ∙ over_goes_on treat end p q c.behind ∙ rw (is, there) refl

    module _ (len : ℕ) (is : IsHeader q.kind rest len) where
      there : IsHeader q.kind (from_place p q.at) len
      there = let P : List ℕ → Type 0 = λ xs. IsHeader q.kind xs len in subst P c.bytes is

      went_on : e ≡ treat (record { place = q; bytes = take len (from_place p q.at) })
          (over_chain treat end (chain_at p (place_behind (record { place = q; bytes = take len (from_place p q.at) }))))
      went_on =
          let bytes : List ℕ = from_place p q.at in
          let extension = is.extension in
          let whole : is_whole q.kind bytes ≡ true = there.whole in
          c.same ∙ over_goes_on treat end p q c.behind ∙ rw (extension, whole) refl
          ∙ ap (λ n. treat (record { place = q; bytes = take n bytes }) (over_chain treat end (chain_at p (behind_in q bytes))))
          (sym there.stated)
          ∙ ap (λ k. treat (record { place = q; bytes = take len bytes }) (over_chain treat end (chain_at p k)))
          (sym (behind_whole q bytes len there))

      module _ (header : List ℕ) (taken : header ≡ take len rest) where
        taken_there : header ≡ take len (from_place p q.at)
        taken_there = taken ∙ ap (take len) c.bytes

        pub comes_header : e ≡ treat (record { place = q; bytes = header })
            (over_chain treat end (chain_at p (place_behind (record { place = q; bytes = header }))))
        comes_header =
            let P : List ℕ → Type 0 = λ xs. e ≡ treat (record { place = q; bytes = xs })
            (over_chain treat end (chain_at p (place_behind (record { place = q; bytes = xs })))) in
            subst P (sym taken_there) went_on

        -- a header that decides
        pub comes_decided : (P : Endpoint → Type 0) → ((x : Endpoint) → P (treat (record { place = q; bytes = header }) x)) → P e
        comes_decided P is_so =
            subst P (sym comes_header)
            (is_so (over_chain treat end (chain_at p (place_behind (record { place = q; bytes = header })))))

        -- a header that is passed over
        pub comes_behind : (more : List ℕ) (next : ChainPlace) → more ≡ drop len rest
            → next ≡ place_behind (record { place = q; bytes = header })
            → ((x : Endpoint) → treat (record { place = q; bytes = header }) x ≡ x)
            → ComesTo treat end p e next more
        comes_behind more next left goes passed =
            let least = is.least in
            let within = is.within in
            let ends = c.ends in
            let behind = c.behind in
            let long : length header ≡ len = ap length taken ∙ length-take-le len rest is.within in
            let at : next.at ≡ q.at + length header = ap (λ k. k.at) goes in
            let gone : length more ≡ length rest - len = ap length left ∙ length-drop len rest in
            let sum : q.at - header_len + len ≡ next.at - header_len = omega arith in
            record {
              same = comes_header ∙ passed (over_chain treat end (chain_at p (place_behind (record { place = q; bytes = header }))))
                  ∙ ap (λ k. over_chain treat end (chain_at p k)) (sym goes);
              bytes = left ∙ ap (drop len) c.bytes ∙ drop-drop len (q.at - header_len) p.payload ∙ ap (λ k. drop k p.payload) sum;
              behind = omega arith;
              ends = omega arith;
            }
