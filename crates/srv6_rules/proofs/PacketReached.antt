-- Headers one by one: what comes of them is decided by the first that is not passed over, or by the chain's end.
use Rattle.std.proofs.Common.{◌≡◌, ◌≤◌, Bool, true, false, if◌then◌else◌, List, [], ◌∷◌, ◌++◌, All, Contains, refl, sym, ap, subst, ◌∙◌, ◌⊎◌, arith, inl, inr}
use Rattle.std.proofs.lemmas.List.{append-nil}
use Rattle.std.proofs.lemmas.List.Elements.{All-nil, All-cons, All-head, All-tail, All-contains, Contains-get_or, Contains-append_right}
use Rattle.srv6_rules.specs.Packet.{Packet, header_len}
use Rattle.srv6_rules.specs.Chain.{ChainPlace, Header, ChainEnd, Upper, Cut, Chain, is_extension, is_whole, header_in, behind_in, behind, from_place}
use Rattle.srv6_rules.specs.ChainTerms.{LiesIn, StandsIn, chain_at}
use Rattle.srv6_rules.specs.Endpoint.{Endpoint, over_headers}
use Rattle.srv6_rules.specs.EndpointTerms.{over_chain, IsPassed, IsReached, Decides}
use Rattle.srv6_rules.proofs.Chains.{chain_at_goes_on, chain_at_lies, chain_at_stand}

-- ---- headers that are reached

module _ (K : Header → Type 0) where
  reached_first : (h : Header) (hs : List Header) → IsReached K (h ∷ hs) h
  reached_first h hs = record { before = []; after = hs; split = refl; passed = All-nil K }

  reached_behind : (x : Header) (hs : List Header) (h : Header) → K x → IsReached K hs h → IsReached K (x ∷ hs) h
  reached_behind x hs h is r =
      record {
        before = x ∷ r.before;
        after = r.after;
        split = ap (λ xs. x ∷ xs) r.split;
        passed = All-cons K x r.before is r.passed;
      }

  -- a header that is reached is one of the headers
  pub reached_contained : (hs : List Header) (h : Header) → IsReached K hs h → Contains hs h
  reached_contained hs h r =
      let here : Contains (h ∷ r.after) h = Contains-get_or (h ∷ r.after) 0 h (omega arith) in
      let Q : List Header → Type 0 = λ xs. Contains xs h in
      subst Q (sym r.split) (Contains-append_right r.before (h ∷ r.after) h here)

  -- a header that is reached in a packet's chain lies in the packet
  pub reached_lies : (p : Packet) (q : ChainPlace) (h : Header) → header_len ≤ q.at → IsReached K (chain_at p q).headers h → LiesIn p h
  reached_lies p q h start r =
      All-contains (LiesIn p) (chain_at p q).headers h (chain_at_lies p q start) (reached_contained (chain_at p q).headers h r)

  -- and stands at a place of the packet
  pub reached_stands : (p : Packet) (q : ChainPlace) (h : Header) → StandsIn p q → IsReached K (chain_at p q).headers h
      → StandsIn p h.place
  reached_stands p q h s r =
      All-contains (λ x. StandsIn p x.place) (chain_at p q).headers h (chain_at_stand p q s).0
      (reached_contained (chain_at p q).headers h r)

module _ (treat : Header → Endpoint → Endpoint) where
  -- ---- what comes of headers

  -- what holds at the end where all headers are of a kind, and at a header that is reached if it holds of what
  -- comes of those after it where it is of that kind, holds of what comes of the headers
  pub over_reached : (K : Header → Type 0) (P : Endpoint → Type 0) (hs : List Header) (end : Endpoint)
      → (All K hs → P end)
      → ((h : Header) (rest : Endpoint) → IsReached K hs h → (K h → P rest) → P (treat h rest))
      → P (over_headers treat hs end)
  over_reached K P [] end last each = last (All-nil K)
  over_reached K P (h ∷ hs) end last each =
      each h (over_headers treat hs end) (reached_first K h hs)
      (λ is. over_reached K P hs end
      (λ all. last (All-cons K h hs is all))
      (λ k rest r more. each k rest (reached_behind K h hs k is r) more))

  -- after headers that are passed over what comes of headers is what comes of those after
  pub over_passed : (before after : List Header) (end : Endpoint) → All (IsPassed treat) before
      → over_headers treat (before ++ after) end ≡ over_headers treat after end
  over_passed [] after end all = refl
  over_passed (h ∷ before) after end all =
      All-head (IsPassed treat) h before all (over_headers treat (before ++ after) end)
      ∙ over_passed before after end (All-tail (IsPassed treat) h before all)

  pub over_all_passed : (headers : List Header) (end : Endpoint) → All (IsPassed treat) headers → over_headers treat headers end ≡ end
  over_all_passed headers end all =
      ap (λ hs. over_headers treat hs end) (sym (append-nil headers)) ∙ over_passed headers [] end all

  -- a header that decides and is reached decides what comes of the headers
  pub over_decides : (headers : List Header) (h : Header) (end behind : Endpoint) → IsReached (IsPassed treat) headers h → Decides treat h
      → over_headers treat headers end ≡ treat h behind
  over_decides headers h end behind r decides =
      ap (λ hs. over_headers treat hs end) r.split
      ∙ over_passed r.before (h ∷ r.after) end r.passed
      ∙ decides (over_headers treat r.after end) behind

-- ---- the first header that is not of a kind

module _ (K D : Header → Type 0) where
  first_behind : (x : Header) (hs : List Header) → K x
      → All K hs ⊎ ((h : Header) × IsReached K hs h × D h)
      → All K (x ∷ hs) ⊎ ((h : Header) × IsReached K (x ∷ hs) h × D h)
  first_behind x hs is (inl all) = inl (All-cons K x hs is all)
  first_behind x hs is (inr (h, reached, decides)) = inr (h, reached_behind K x hs h is reached, decides)

  -- where each header is of one kind or another, all are of the one, or there is a first of the other
  pub first_there : (hs : List Header) → ((h : Header) → K h ⊎ D h)
      → All K hs ⊎ ((h : Header) × IsReached K hs h × D h)
  first_there [] each = inl (All-nil K)
  first_there (x ∷ hs) each = elim (each x) [
    | inl is ↦ first_behind x hs is (first_there hs each)
    | inr decides ↦ inr (x, reached_first K x hs, decides)
  ]

over_went_on : (treat : Header → Endpoint → Endpoint) (end : ChainEnd → Endpoint) (ext whole : Bool) (h : Header) (q : ChainPlace)
    (tail : Chain)
    → over_chain treat end
    (if ext then (if whole then behind h tail else record { headers = []; end = Cut q }) else record { headers = []; end = Upper q })
    ≡ (if ext then (if whole then treat h (over_chain treat end tail) else end (Cut q)) else end (Upper q))
over_went_on treat end true true h q tail = refl
over_went_on treat end true false h q tail = refl
over_went_on treat end false whole h q tail = refl

-- how the outcome goes on from each place of a packet
pub over_goes_on : (treat : Header → Endpoint → Endpoint) (end : ChainEnd → Endpoint) (p : Packet) (q : ChainPlace) → header_len ≤ q.at
    → over_chain treat end (chain_at p q)
    ≡ (if is_extension q.kind
    then (if is_whole q.kind (from_place p q.at)
    then treat (header_in q (from_place p q.at)) (over_chain treat end (chain_at p (behind_in q (from_place p q.at))))
    else end (Cut q))
    else end (Upper q))
over_goes_on treat end p q start =
    ap (λ c. over_chain treat end c) (chain_at_goes_on p q start)
    ∙ over_went_on treat end (is_extension q.kind) (is_whole q.kind (from_place p q.at)) (header_in q (from_place p q.at)) q
    (chain_at p (behind_in q (from_place p q.at)))
