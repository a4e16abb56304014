-- What is sent over links, for packets of both families at once: a limit, the hop limit or the TTL, is lowered or not.
use Rattle.std.proofs.Common.{◌≡◌, ◌≢◌, ℕ, ◌%◌, ◌<◌, ◌≤◌, ◌⊎◌, inl, inr, ◌↔◌, Bool, true, false, is_some, nat_le, eqb, ◌&&◌, if◌then◌else◌, List, length, Option, None, Contains, refl, sym, ◌∙◌, subst, ap, arith, mod-eq_of_lt, mod-lt}
use Rattle.std.proofs.lemmas.Bool.Decides.{leb_tells, eqb_tells}
use Rattle.std.proofs.lemmas.Grind.{get_or_default_zero}
use borrow.Author.Tests.{le-leb, lt-leb}
use Rattle.srv6_rules.specs.declared.reason.Reason.{Reason}
use Rattle.srv6_rules.specs.declared.reason.Reason.TheVariants as reasons
use Rattle.srv6_rules.specs.Packet.{Packet, Content, V6, V4}
use Rattle.srv6_rules.specs.Packet4.{Packet4, ttl}
use Rattle.net_model.specs.Network.{Network}
use Rattle.walk_rules.specs.declared.place.Outcome.{Outcome}
use Rattle.walk_rules.specs.declared.place.Outcome.TheVariants as outcomes
use Rattle.walk_rules.specs.Treatment.{Gave, dropped, goes, member_of, lowered, ttl_lowered, sent, sent4}
use Rattle.walk_rules.specs.Relation.{GivesOutcome, Drops, Sends, Sends4}
use Rattle.walk_rules.specs.WalkLawsTerms.{SendsApart}

-- what is given over links, and each outcome that there is: a drop of the content, or a send of what is left of it
abbrev pub sent_by : Network → ℕ → List ℕ → Bool → ℕ → Reason → Content → Content → ℕ → Gave
sent_by net node set lower limit reason content left choice =
    if lower && nat_le limit 1 then dropped net node reason 0 content else goes (outcomes.Send (member_of set choice)) left

abbrev pub SendsBy : Network → ℕ → List ℕ → Bool → ℕ → Reason → Content → Content → Outcome → Content → Option Packet → Type 0
SendsBy net node set true limit reason content left (outcomes.Send link) after error =
    Contains set link × (1 < limit) × (after ≡ left) × (error ≡ None)
SendsBy net node set false limit reason content left (outcomes.Send link) after error =
    Contains set link × (after ≡ left) × (error ≡ None)
SendsBy net node set true limit reason content left (outcomes.Drop why told) after error =
    (limit ≤ 1) × Drops net node reason 0 content (outcomes.Drop why told) after error
SendsBy net node set false limit reason content left (outcomes.Drop why told) after error = ⊥
SendsBy net node set lower limit reason content left (outcomes.Again sid how) after error = ⊥
SendsBy net node set lower limit reason content left (outcomes.Hand sid how family) after error = ⊥
SendsBy net node set lower limit reason content left outcomes.Local after error = ⊥

itself : {X : Type 0} → X ↔ X
itself = (λ x. x, λ x. x)

module _ (net : Network) (node : ℕ) (set : List ℕ) where
  -- of IPv6 the limit is the hop limit
  pub sends_by : (lower : Bool) (p : Packet) (outcome : Outcome) (after : Content) (error : Option Packet)
      → Sends net node set lower p outcome after error
      ↔ SendsBy net node set lower p.hop_limit reasons.HopLimit (V6 p) (V6 (lowered lower p)) outcome after error
  sends_by true p (outcomes.Send link) after error = itself
  sends_by false p (outcomes.Send link) after error = itself
  sends_by true p (outcomes.Drop why told) after error = itself
  sends_by false p (outcomes.Drop why told) after error = itself
  sends_by true p (outcomes.Again sid how) after error = itself
  sends_by false p (outcomes.Again sid how) after error = itself
  sends_by true p (outcomes.Hand sid how family) after error = itself
  sends_by false p (outcomes.Hand sid how family) after error = itself
  sends_by true p outcomes.Local after error = itself
  sends_by false p outcomes.Local after error = itself

  -- and of IPv4 the TTL
  pub sends4_by : (lower : Bool) (p : Packet4) (outcome : Outcome) (after : Content) (error : Option Packet)
      → Sends4 net node set lower p outcome after error
      ↔ SendsBy net node set lower (ttl p) reasons.Ttl (V4 p) (V4 (ttl_lowered lower p)) outcome after error
  sends4_by true p (outcomes.Send link) after error = itself
  sends4_by false p (outcomes.Send link) after error = itself
  sends4_by true p (outcomes.Drop why told) after error = itself
  sends4_by false p (outcomes.Drop why told) after error = itself
  sends4_by true p (outcomes.Again sid how) after error = itself
  sends4_by false p (outcomes.Again sid how) after error = itself
  sends4_by true p (outcomes.Hand sid how family) after error = itself
  sends4_by false p (outcomes.Hand sid how family) after error = itself
  sends4_by true p outcomes.Local after error = itself
  sends4_by false p outcomes.Local after error = itself

-- ---- outcomes of the relation are the function's

-- an answer by its parts
abbrev pub given : Outcome → Content → Option Packet → Gave
given outcome after error = record { outcome = outcome; after = after; error = error }

-- two answers with equal parts are equal
same_gave : (o p : Outcome) (a b : Content) (e f : Option Packet) → o ≡ p → a ≡ b → e ≡ f → given o a e ≡ given p b f
same_gave o p a b e f x y z = cc

pub gives_gave : (gave : Gave) (outcome : Outcome) (after : Content) (error : Option Packet) → GivesOutcome gave outcome after error
    → gave ≡ given outcome after error
gives_gave gave outcome after error h =
    same_gave gave.outcome outcome gave.after after gave.error error (sym h.0) (sym h.1) (sym h.2)

pub drops_gave : (net : Network) (node : ℕ) (reason : Reason) (at : ℕ) (content : Content) (outcome : Outcome) (after : Content)
    → (error : Option Packet) → Drops net node reason at content outcome after error
    → dropped net node reason at content ≡ given outcome after error
drops_gave net node reason at content outcome after error h =
    gives_gave (dropped net node reason at content) outcome after error
    (h.0 ∙ ap (λ (e : Option Packet). outcomes.Drop reason (is_some e)) h.2, h.1, h.2)

-- each member is named by its place
member_of_place : (set : List ℕ) (link : ℕ) (there : Contains set link) → member_of set there.0 ≡ link
member_of_place set link there =
    let inside : there.0 < length set = there.1 in
    rw (mod-eq_of_lt inside) (sym (get_or_default_zero set there.0 link inside) ∙ there.2)

member_of_there : (set : List ℕ) (choice : ℕ) → 0 < length set → Contains set (member_of set choice)
member_of_there set choice some =
    let inside : choice % length set < length set = mod-lt choice some in
    (choice % length set, inside, get_or_default_zero set (choice % length set) (member_of set choice) inside)

-- a send on a member is what the choice of its place gives
goes_gave : (set : List ℕ) (link : ℕ) (there : Contains set link) (left after : Content) (error : Option Packet)
    → after ≡ left → error ≡ None → goes (outcomes.Send (member_of set there.0)) left ≡ given (outcomes.Send link) after error
goes_gave set link there left after error same none =
    same_gave (outcomes.Send (member_of set there.0)) (outcomes.Send link) left after None error
    (ap outcomes.Send (member_of_place set link there)) (sym same) (sym none)

-- two sends on members of a set
sends_agree : (set : List ℕ) (k m : ℕ) → Contains set k → Contains set m
    → (outcomes.Send k ≡ outcomes.Send m) ⊎ SendsApart set (outcomes.Send k) (outcomes.Send m)
sends_agree set k m here there = by_test (eqb_tells k m)
  where
    by_test : ((eqb k m ≡ true) × (k ≡ m)) ⊎ ((eqb k m ≡ false) × (k ≢ m))
        → (outcomes.Send k ≡ outcomes.Send m) ⊎ SendsApart set (outcomes.Send k) (outcomes.Send m)
    by_test (inl same) = inl (ap outcomes.Send same.1)
    by_test (inr differ) =
        inr (record {
          one_link = k;
          other_link = m;
          one_sends = refl;
          other_sends = refl;
          one_member = here;
          other_member = there;
          apart = differ.1;
        })

-- what comes of one stage: the same packet and error after it, and the same outcome or sends on different members of a set
pub record Agree (set : List ℕ) (one : Outcome) (after : Content) (error : Option Packet) (other : Outcome) (later : Content)
    (told : Option Packet) : Type 0 where
  pub same_after : after ≡ later
  pub same_error : error ≡ told
  pub apart : (one ≡ other) ⊎ SendsApart set one other

pub drops_agree : (net : Network) (node : ℕ) (set : List ℕ) (reason : Reason) (at : ℕ) (content : Content) (one : Outcome)
    → (after : Content) (error : Option Packet) (other : Outcome) (later : Content) (told : Option Packet)
    → Drops net node reason at content one after error → Drops net node reason at content other later told
    → Agree set one after error other later told
drops_agree net node set reason at content one after error other later told h g =
    let same : error ≡ told = h.2 ∙ sym g.2 in
    record {
      same_after = h.1 ∙ sym g.1;
      same_error = same;
      apart = inl (h.0 ∙ ap (λ (e : Option Packet). outcomes.Drop reason (is_some e)) same ∙ sym g.0);
    }

-- what holds of outcomes over links: one lowering word, limit, reason, content and what is left of it
module _ (net : Network) (node : ℕ) (set : List ℕ) (limit : ℕ) (reason : Reason) (content left : Content) where
  -- a limit of at most 1 is not lowered, another is
  pub sent_by_low : (choice : ℕ) → limit ≤ 1
      → sent_by net node set true limit reason content left choice ≡ dropped net node reason 0 content
  sent_by_low choice h = rw (le-leb limit 1 h)

  pub sent_by_high : (choice : ℕ) → 1 < limit
      → sent_by net node set true limit reason content left choice ≡ goes (outcomes.Send (member_of set choice)) left
  sent_by_high choice h = rw (lt-leb limit 1 h)

  pub sends_by_choice : (lower : Bool) (outcome : Outcome) (after : Content) (error : Option Packet)
      → SendsBy net node set lower limit reason content left outcome after error
      → (choice : ℕ) × (sent_by net node set lower limit reason content left choice ≡ given outcome after error)
  sends_by_choice true (outcomes.Send link) after error (there, high, same, none) =
      (there.0, sent_by_high there.0 high ∙ goes_gave set link there left after error same none)
  sends_by_choice false (outcomes.Send link) after error (there, same, none) =
      (there.0, goes_gave set link there left after error same none)
  sends_by_choice true (outcomes.Drop why told) after error (low, drops) =
      (0, sent_by_low 0 low ∙ drops_gave net node reason 0 content (outcomes.Drop why told) after error drops)
  sends_by_choice false (outcomes.Drop why told) after error h = absurd h
  sends_by_choice lower (outcomes.Again sid how) after error h = absurd h
  sends_by_choice lower (outcomes.Hand sid how family) after error h = absurd h
  sends_by_choice lower outcomes.Local after error h = absurd h

  -- over links there is one drop, or a send for each choice
  abbrev DropsAll : Bool → Type 0
  DropsAll lower = (choice : ℕ) → sent_by net node set lower limit reason content left choice ≡ dropped net node reason 0 content

  abbrev SendsEach : Bool → Type 0
  SendsEach lower = (choice : ℕ)
      → sent_by net node set lower limit reason content left choice ≡ goes (outcomes.Send (member_of set choice)) left

  sent_by_cases : (lower : Bool) → DropsAll lower ⊎ SendsEach lower
  sent_by_cases false = inr (λ choice. refl)
  sent_by_cases true = by_test (leb_tells limit 1)
    where
      by_test : ((nat_le limit 1 ≡ true) × (limit ≤ 1)) ⊎ ((nat_le limit 1 ≡ false) × (1 < limit))
          → DropsAll true ⊎ SendsEach true
      by_test (inl low) = inl (λ choice. sent_by_low choice low.1)
      by_test (inr high) = inr (λ choice. sent_by_high choice high.1)

  -- what holds of the drop, and of each send, holds of what is given over links
  pub sent_by_either : (P : Gave → Type 0) (lower : Bool) (choice : ℕ) → P (dropped net node reason 0 content)
      → P (goes (outcomes.Send (member_of set choice)) left) → P (sent_by net node set lower limit reason content left choice)
  sent_by_either P lower choice drop send = by_case (sent_by_cases lower)
    where
      by_case : DropsAll lower ⊎ SendsEach lower → P (sent_by net node set lower limit reason content left choice)
      by_case (inl drops) = subst P (sym (drops choice)) drop
      by_case (inr sends) = subst P (sym (sends choice)) send

  sends_by_lowered : (one : Outcome) (after : Content) (error : Option Packet) (other : Outcome) (later : Content)
      → (told : Option Packet) → SendsBy net node set true limit reason content left one after error
      → SendsBy net node set true limit reason content left other later told → Agree set one after error other later told
  sends_by_lowered (outcomes.Send k) after error (outcomes.Send m) later told h g =
      record { same_after = h.2 ∙ sym g.2; same_error = h.3 ∙ sym g.3; apart = sends_agree set k m h.0 g.0 }
  sends_by_lowered (outcomes.Send k) after error (outcomes.Drop why error_told) later told h g = absurd (omega (arith, h.1, g.0))
  sends_by_lowered (outcomes.Send k) after error (outcomes.Again n how) later told h g = absurd g
  sends_by_lowered (outcomes.Send k) after error (outcomes.Hand n how family) later told h g = absurd g
  sends_by_lowered (outcomes.Send k) after error outcomes.Local later told h g = absurd g
  sends_by_lowered (outcomes.Drop why error_told) after error (outcomes.Send m) later told h g = absurd (omega (arith, h.0, g.1))
  sends_by_lowered (outcomes.Drop why one_told) after error (outcomes.Drop cause other_told) later told h g =
      drops_agree net node set reason 0 content (outcomes.Drop why one_told) after error (outcomes.Drop cause other_told) later told
      h.1 g.1
  sends_by_lowered (outcomes.Drop why error_told) after error (outcomes.Again n how) later told h g = absurd g
  sends_by_lowered (outcomes.Drop why error_told) after error (outcomes.Hand n how family) later told h g = absurd g
  sends_by_lowered (outcomes.Drop why error_told) after error outcomes.Local later told h g = absurd g
  sends_by_lowered (outcomes.Again n how) after error other later told h g = absurd h
  sends_by_lowered (outcomes.Hand n how family) after error other later told h g = absurd h
  sends_by_lowered outcomes.Local after error other later told h g = absurd h

  sends_by_kept : (one : Outcome) (after : Content) (error : Option Packet) (other : Outcome) (later : Content)
      → (told : Option Packet) → SendsBy net node set false limit reason content left one after error
      → SendsBy net node set false limit reason content left other later told → Agree set one after error other later told
  sends_by_kept (outcomes.Send k) after error (outcomes.Send m) later told h g =
      record { same_after = h.1 ∙ sym g.1; same_error = h.2 ∙ sym g.2; apart = sends_agree set k m h.0 g.0 }
  sends_by_kept (outcomes.Send k) after error (outcomes.Drop why error_told) later told h g = absurd g
  sends_by_kept (outcomes.Send k) after error (outcomes.Again n how) later told h g = absurd g
  sends_by_kept (outcomes.Send k) after error (outcomes.Hand n how family) later told h g = absurd g
  sends_by_kept (outcomes.Send k) after error outcomes.Local later told h g = absurd g
  sends_by_kept (outcomes.Drop why error_told) after error other later told h g = absurd h
  sends_by_kept (outcomes.Again n how) after error other later told h g = absurd h
  sends_by_kept (outcomes.Hand n how family) after error other later told h g = absurd h
  sends_by_kept outcomes.Local after error other later told h g = absurd h

  pub sends_by_unique : (lower : Bool) (one : Outcome) (after : Content) (error : Option Packet) (other : Outcome) (later : Content)
      → (told : Option Packet) → SendsBy net node set lower limit reason content left one after error
      → SendsBy net node set lower limit reason content left other later told → Agree set one after error other later told
  sends_by_unique true one after error other later told h g = sends_by_lowered one after error other later told h g
  sends_by_unique false one after error other later told h g = sends_by_kept one after error other later told h g

  -- sends are on members of the set alone, and on each of them where there is one
  pub sends_by_member : (lower : Bool) (link : ℕ) (after : Content) (error : Option Packet)
      → SendsBy net node set lower limit reason content left (outcomes.Send link) after error → Contains set link
  sends_by_member true link after error h = h.0
  sends_by_member false link after error h = h.0

  pub sends_by_each : (lower : Bool) (link other : ℕ) (after : Content) (error : Option Packet)
      → SendsBy net node set lower limit reason content left (outcomes.Send link) after error → Contains set other
      → SendsBy net node set lower limit reason content left (outcomes.Send other) after error
  sends_by_each true link other after error h there = (there, h.1, h.2, h.3)
  sends_by_each false link other after error h there = (there, h.1, h.2)

  -- what is given over some links is one of the outcomes
  pub sent_by_sends : (lower : Bool) (choice : ℕ) → 0 < length set
      → let gave = sent_by net node set lower limit reason content left choice in
      SendsBy net node set lower limit reason content left gave.outcome gave.after gave.error
  sent_by_sends false choice some = (member_of_there set choice some, refl, refl)
  sent_by_sends true choice some = by_limit (leb_tells limit 1)
    where
      by_limit : ((nat_le limit 1 ≡ true) × (limit ≤ 1)) ⊎ ((nat_le limit 1 ≡ false) × (1 < limit))
          → let gave = sent_by net node set true limit reason content left choice in
          SendsBy net node set true limit reason content left gave.outcome gave.after gave.error
      by_limit (inl low) = rw (sent_by_low choice low.1) (low.1, (refl, refl, refl))
      by_limit (inr high) = rw (sent_by_high choice high.1) (member_of_there set choice some, high.1, refl, refl)

-- ---- the same of both families

-- a hop limit of at most 1 is not lowered, another is
pub sent_low : (net : Network) (node : ℕ) (set : List ℕ) (p : Packet) (choice : ℕ) → p.hop_limit ≤ 1
    → sent net node set true p choice ≡ dropped net node reasons.HopLimit 0 (V6 p)
sent_low net node set p choice h = sent_by_low net node set p.hop_limit reasons.HopLimit (V6 p) (V6 (lowered true p)) choice h

pub sent_high : (net : Network) (node : ℕ) (set : List ℕ) (p : Packet) (choice : ℕ) → 1 < p.hop_limit
    → sent net node set true p choice ≡ goes (outcomes.Send (member_of set choice)) (V6 (lowered true p))
sent_high net node set p choice h = sent_by_high net node set p.hop_limit reasons.HopLimit (V6 p) (V6 (lowered true p)) choice h

-- so it is with a TTL
pub sent4_low : (net : Network) (node : ℕ) (set : List ℕ) (p : Packet4) (choice : ℕ) → ttl p ≤ 1
    → sent4 net node set true p choice ≡ dropped net node reasons.Ttl 0 (V4 p)
sent4_low net node set p choice h = sent_by_low net node set (ttl p) reasons.Ttl (V4 p) (V4 (ttl_lowered true p)) choice h

pub sent4_high : (net : Network) (node : ℕ) (set : List ℕ) (p : Packet4) (choice : ℕ) → 1 < ttl p
    → sent4 net node set true p choice ≡ goes (outcomes.Send (member_of set choice)) (V4 (ttl_lowered true p))
sent4_high net node set p choice h = sent_by_high net node set (ttl p) reasons.Ttl (V4 p) (V4 (ttl_lowered true p)) choice h
