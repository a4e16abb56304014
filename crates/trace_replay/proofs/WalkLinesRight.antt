-- The lines of walks are right.
use Rattle.std.proofs.Common.{◌≡◌, ℕ, zero, suc, ◌+◌, ◌%◌, ◌<◌, ◌≤◌, ◌↔◌, ◌⊎◌, inl, inr, nat_le, Bool, true, false, cond, List, [], ◌∷◌, ◌++◌, length, Option, Some, None, IsSome, Ok, refl, sym, ap, ◌∙◌, subst, arith, mod-lt, mod-eq_of_lt}
use Rattle.std.specs.Prelude.{codes, slice_get, slice_index}
use Rattle.std.specs.List.{find, range_with_len}
use Rattle.std.proofs.lemmas.List.{append_cancel_left, append_cancel_right}
use Rattle.std.proofs.lemmas.Slice.Eq.{bytes_eq-Decides}
use Rattle.std.proofs.lemmas.Bool.Decides.{leb_tells}
use Rattle.srv6_rules.specs.declared.reason.Reason.{Reason}
use Rattle.srv6_rules.specs.declared.reason.Reason.TheVariants as reasons
use Rattle.srv6_rules.specs.Packet.{Packet, Content, bytes_of}
use Rattle.icmp6_errors.specs.Answer.{error_bytes}
use Rattle.net_model.specs.Network.{Network}
use Rattle.net_model.specs.NetworkKeeps.{Keeps, StartsAt}
use Rattle.walk_rules.specs.declared.place.Place.{Place}
use Rattle.walk_rules.specs.declared.place.Outcome.{Outcome}
use Rattle.walk_rules.specs.declared.place.Outcome.TheVariants as outcomes
use Rattle.walk_rules.specs.WalkLaws.{hops_at}
use Rattle.walk_rules.specs.WalkLawsTerms.{Takes, TakenApart}
use Rattle.walk_rules.specs.Relation.{IsPlace}
use Rattle.walk_rules.specs.Treatment.{Gave, goes, member_of, mtu_at, own_len, step_of}
use Rattle.walk_rules.specs.Walk.{next_place}
use Rattle.walk_rules.proofs.PublicLaws.{free_unique, hops_start, over_link_fits, over_link_long, stage_choice, stage_step, stage_unique, step_named}
use Rattle.trace_replay.specs.declared.state.ReplayState.{ReplayState}
use Rattle.trace_replay.specs.TraceLawsTerms.{IsChoiceLine, IsOutcomeLine}
use Rattle.trace_replay.specs.TraceLines.{name_of_link, drop_text, outcome_text, send_text, stage_text, hex_text}
use Rattle.trace_replay.specs.Replays.{by_choice, choice_given, choices_at, going, is_given}

-- the first number of a range that passes a test passes it, and there is one where a number of the range passes

passes_by : (p : ℕ → Bool) (a k : ℕ) (rest : Option ℕ) (b : Bool) → p a ≡ b → (rest ≡ Some k → p k ≡ true)
    → cond b (Some a) rest ≡ Some k → p k ≡ true
passes_by p a k rest true e on h = let same : a ≡ k = cc in ap p (sym same) ∙ e
passes_by p a k rest false e on h = on h

find_passes : (p : ℕ → Bool) (a n k : ℕ) → find p (range_with_len a n) ≡ Some k → p k ≡ true
find_passes p a zero k h = cc
find_passes p a (suc n) k h = passes_by p a k (find p (range_with_len (a + 1) n)) (p a) refl (find_passes p (a + 1) n k) h

abbrev Found : Option ℕ → Type 0
Found o = (k : ℕ) × (o ≡ Some k)

found_by : (p : ℕ → Bool) (a n k : ℕ) (rest : Option ℕ) (b : Bool) → p a ≡ b → p k ≡ true → a ≤ k → k < a + suc n
    → (a + 1 ≤ k → k < (a + 1) + n → Found rest) → Found (cond b (Some a) rest)
found_by p a n k rest true e passes from below on = (a, refl)
found_by p a n k rest false e passes from below on = by_place (λ (same : a ≡ k). absurd (cc))
  where
    by_place : (a ≡ k → ⊥) → Found rest
    by_place other = on (omega (arith, other, from)) (omega (arith, below))

find_some : (p : ℕ → Bool) (a n k : ℕ) → p k ≡ true → a ≤ k → k < a + n → Found (find p (range_with_len a n))
find_some p a zero k passes from below = absurd (omega (arith, from, below))
find_some p a (suc n) k passes from below =
    found_by p a n k (find p (range_with_len (a + 1) n)) (p a) refl passes from below (find_some p (a + 1) n k passes)

-- each choice gives what one of as many choices as equal next hops gives

module _ (net : Network) (place : Place) (content : Content) (keeps : Keeps net) (is : IsPlace net place) where
  abbrev hops : List ℕ
  hops = hops_at net place content

  within_by : (choice : ℕ) (set : List ℕ) → hops ≡ set
      → (k : ℕ) × (k < choices_at net place content) × (step_of net place content k ≡ step_of net place content choice)
  within_by choice [] e =
      let none : member_of hops 0 ≡ member_of hops choice = rw e refl in (0, omega arith, step_named net place content 0 choice none)
  within_by choice (x ∷ xs) e =
      let n : ℕ = length (x ∷ xs) in
      let below : choice % n < n = mod-lt choice (omega arith) in
      let same : member_of (x ∷ xs) (choice % n) ≡ member_of (x ∷ xs) choice = ap (slice_index (x ∷ xs)) (mod-eq_of_lt below) in
      let named : member_of hops (choice % n) ≡ member_of hops choice =
      subst (λ (set : List ℕ). member_of set (choice % n) ≡ member_of set choice) (sym e) same in
      (choice % n, omega (arith, below, ap length e), step_named net place content (choice % n) choice named)

  -- the line of what a choice gives is given by a choice
  given_found : (line : List ℕ) (choice : ℕ) → line ≡ stage_text net (step_of net place content choice)
      → Found (choice_given net place content line)
  unfolding choice_given
  given_found line choice e =
      let k = within_by choice hops refl in
      let passes : is_given net place content line k.0 ≡ true =
      (bytes_eq-Decides line (stage_text net (step_of net place content k.0))).1 (e ∙ ap (stage_text net) (sym k.2)) in
      find_some (is_given net place content line) 0 (choices_at net place content) k.0 passes (omega arith) (omega (arith, k.1))

  given_line : (line : List ℕ) (choice : ℕ) → choice_given net place content line ≡ Some choice
      → line ≡ stage_text net (step_of net place content choice)
  unfolding choice_given
  given_line line choice h =
      (bytes_eq-Decides line (stage_text net (step_of net place content choice))).0
      (find_passes (is_given net place content line) 0 (choices_at net place content) choice h)

  -- two choices that give one line give one outcome

  send_names : (a b hex : List ℕ) → send_text a hex ≡ send_text b hex → a ≡ b
  unfolding send_text
  send_names a b hex h =
      append_cancel_right a b (32 ∷ hex) (append_cancel_left (codes "send ") (a ++ 32 ∷ hex) (b ++ 32 ∷ hex) h)

  name_there : (link : ℕ) (there : StartsAt net.links place.node link) → name_of_link (slice_get net.links link) ≡ there.0.name
  name_there link there = ap name_of_link there.1

  -- the lines of a Send and of a drop differ
  heads : (a b : ℕ) (xs ys : List ℕ) → a ∷ xs ≡ b ∷ ys → a ≡ b
  heads a b xs ys e = cc

  send_drop : (name one : List ℕ) (reason : Reason) (other : List ℕ) → send_text name one ≡ drop_text reason other → ⊥
  unfolding send_text drop_text
  send_drop name one reason other e = let same = heads 115 100 _ _ e in omega (arith, same)

  -- what a member's outcome leaves is what is left of the packet, or the packet is dropped
  abbrev SentOrDropped : ℕ → Outcome → Content → Content → Type 0
  SentOrDropped link outcome after left =
      ((outcome ≡ outcomes.Send link) × (after ≡ left)) ⊎ ((told : Bool) × (outcome ≡ outcomes.Drop reasons.MtuExceeded told))

  taken_gives : (link : ℕ) (outcome : Outcome) (after : Content) (error : Option Packet)
      (t : Takes net place content link outcome after error)
      → SentOrDropped link outcome after t.left
  taken_gives link outcome after error t = by_test (leb_tells (own_len content) (mtu_at net link))
    where
      sent : Gave
      sent = goes (outcomes.Send link) t.left

      by_test : ((nat_le (own_len content) (mtu_at net link) ≡ true) × (own_len content ≤ mtu_at net link))
          ⊎ ((nat_le (own_len content) (mtu_at net link) ≡ false) × (mtu_at net link < own_len content))
          → SentOrDropped link outcome after t.left
      by_test (inl fits) =
          let same = over_link_fits net place.node content sent link fits.1 in
          inl (t.gives.0 ∙ ap (λ (g : Gave). g.outcome) same, t.gives.1 ∙ ap (λ (g : Gave). g.after) same)
      by_test (inr long) =
          let same = over_link_long net place.node content sent link long.1 in
          inr (_, t.gives.0 ∙ ap (λ (g : Gave). g.outcome) same)

  -- two outcomes with one line lead on alike

  abbrev text_of : Outcome → Content → Option Packet → List ℕ
  text_of outcome after error = outcome_text net outcome (bytes_of after) (error_bytes error)

  abbrev leads : ℕ → Outcome → Content → ReplayState
  leads left outcome after = going (next_place net place outcome) after left

  module _ (left : ℕ) (one : Outcome) (after : Content) (error : Option Packet) (other : Outcome) (later : Content)
      (told : Option Packet) (texts : text_of one after error ≡ text_of other later told)
      (t : TakenApart net place content one after error other later told) where
    links_differ : one ≡ outcomes.Send t.one_link → other ≡ outcomes.Send t.other_link → after ≡ later → ⊥
    links_differ a b same =
        let here = hops_start net place content t.one_link keeps is t.one_member in
        let there = hops_start net place content t.other_link keeps is t.other_member in
        let hex = hex_text (bytes_of after) in
        let lines : send_text (name_of_link (slice_get net.links t.one_link)) hex
        ≡ send_text (name_of_link (slice_get net.links t.other_link)) hex =
        ap (λ (o : Outcome). text_of o after error) (sym a)
        ∙ (texts ∙ (ap (λ (o : Outcome). text_of o later told) b
        ∙ ap (λ (c : Content). send_text (name_of_link (slice_get net.links t.other_link)) (hex_text (bytes_of c))) (sym same))) in
        let names : here.0.name ≡ there.0.name =
        sym (name_there t.one_link here) ∙ (send_names _ _ hex lines ∙ name_there t.other_link there) in
        t.apart (keeps.link_name t.one_link t.other_link here.0 there.0 here.1 there.1 names)

    lefts : t.one_taken.left ≡ t.other_taken.left
    lefts =
        (free_unique net place content (outcomes.Send t.one_link) t.one_taken.left None (outcomes.Send t.other_link) t.other_taken.left
        None t.one_taken.would t.other_taken.would).0

    apart_leads : leads left other later ≡ leads left one after
    apart_leads = by_cases (taken_gives t.one_link one after error t.one_taken) (taken_gives t.other_link other later told t.other_taken)
      where
        by_cases : SentOrDropped t.one_link one after t.one_taken.left → SentOrDropped t.other_link other later t.other_taken.left
            → leads left other later ≡ leads left one after
        by_cases (inl a) (inl b) = absurd (links_differ a.0 b.0 (a.1 ∙ lefts ∙ sym b.1))
        by_cases (inl a) (inr b) =
            absurd (send_drop _ _ reasons.MtuExceeded _
            (ap (λ (o : Outcome). text_of o after error) (sym a.0) ∙ (texts ∙ ap (λ (o : Outcome). text_of o later told) b.1)))
        by_cases (inr a) (inl b) =
            absurd (send_drop _ _ reasons.MtuExceeded _
            (ap (λ (o : Outcome). text_of o later told) (sym b.0) ∙ (sym texts ∙ ap (λ (o : Outcome). text_of o after error) a.1)))
        by_cases (inr a) (inr b) =
            ap (λ (o : Outcome). leads left o later) b.1 ∙ sym (ap (λ (o : Outcome). leads left o after) a.1)

  same_leads : (left choice other : ℕ)
      → stage_text net (step_of net place content choice) ≡ stage_text net (step_of net place content other)
      → let gave = step_of net place content choice in let again = step_of net place content other in
      leads left again.outcome again.after ≡ leads left gave.outcome gave.after
  same_leads left choice other texts = by_unique (
      stage_unique net place content gave.outcome gave.after gave.error again.outcome again.after again.error
      (stage_step net place content choice keeps is) (stage_step net place content other keeps is))
    where
      gave : Gave
      gave = step_of net place content choice

      again : Gave
      again = step_of net place content other

      by_unique : ((gave.outcome ≡ again.outcome) × ((gave.after ≡ again.after) × (gave.error ≡ again.error)))
          ⊎ TakenApart net place content gave.outcome gave.after gave.error again.outcome again.after again.error
          → leads left again.outcome again.after ≡ leads left gave.outcome gave.after
      by_unique (inl same) =
          ap (λ (o : Outcome). leads left o again.after) (sym same.0) ∙ ap (leads left gave.outcome) (sym same.1.0)
      by_unique (inr apart) =
          apart_leads left gave.outcome gave.after gave.error again.outcome again.after again.error texts apart

  -- so the line of what a choice gives leads on as that does
  pub line_leads : (choice left : ℕ) → let gave = step_of net place content choice in
      by_choice net place content left (choice_given net place content (stage_text net gave))
      ≡ Ok (going (next_place net place gave.outcome) gave.after left)
  line_leads choice left =
      let gave = step_of net place content choice in
      let found = given_found (stage_text net gave) choice refl in
      let texts = given_line (stage_text net gave) found.0 found.1 in
      ap (by_choice net place content left) found.1 ∙ ap Ok (same_leads left choice found.0 texts)

  -- a choice gives a line exactly where the line is that of an outcome, and of what a choice gives

  some_found : (o : Option ℕ) → IsSome o → Found o
  some_found None h = cc
  some_found (Some k) h = (k, refl)

  found_some : (o : Option ℕ) → Found o → IsSome o
  found_some o h = subst IsSome (sym h.1) refl

  pub given_choice : (line : List ℕ) → IsSome (choice_given net place content line) ↔ IsChoiceLine net place content line
  given_choice line = (
    λ some. let found = some_found _ some in record { choice = found.0; is_line = given_line line found.0 found.1 },
    λ (h : IsChoiceLine net place content line). found_some _ (given_found line h.choice h.is_line),
  )

  pub given_outcome : (line : List ℕ) → IsSome (choice_given net place content line) ↔ IsOutcomeLine net place content line
  given_outcome line = (
    λ some.
        let found = some_found _ some in
        let gave = step_of net place content found.0 in
        record {
          outcome = gave.outcome;
          after = gave.after;
          error = gave.error;
          there = stage_step net place content found.0 keeps is;
          is_line = given_line line found.0 found.1;
        },
    λ (h : IsOutcomeLine net place content line).
        let x = stage_choice net place content h.outcome h.after h.error h.there in
        found_some _ (given_found line x.0 (h.is_line ∙ ap (stage_text net) (sym x.1))),
  )
