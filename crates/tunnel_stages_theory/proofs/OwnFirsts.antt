-- A packet's own hand_over is the first one without a header in front.
use Rattle.std.proofs.Common.{◌≡◌, ◌↔◌, ◌⊎◌, inl, inr, ℕ, ◌+◌, ◌≤◌, false, nat_le, List, [], ◌∷◌, ◌++◌, Option, Some, None, refl, sym, ◌∙◌, ap, append-nil}
use Rattle.std.proofs.lemmas.Bool.{cases_Bool, le-leb, leb-true}
use Rattle.srv6_rules.specs.declared.family.Family.{Family}
use Rattle.srv6_rules.specs.Packet.{Packet, Content}
use Rattle.net_model.specs.Network.{Network}
use Rattle.walk_rules.specs.declared.place.How.{How}
use Rattle.walk_rules.specs.declared.place.Outcome.{Outcome}
use Rattle.walk_rules.specs.declared.place.Outcome.TheVariants as outcomes
use Rattle.leg_table.specs.WalkTrace.{Handed, events_of, executed}
use Rattle.binding_spec.specs.TunnelWalks.{TunnelStage}
use Rattle.binding_spec.specs.OwnHands.{most_stages, behind_push, handed_by, handed_own}
use Rattle.tunnel_stages_theory.specs.OwnHandSentence.{IsOnTheWay, AreOnTheWay, IsOwnHand, own_sid, own_sids, tunnel_trace}
use Rattle.tunnel_stages_theory.proofs.Shorts.{ShortFrom, short_down, short_up}

-- ---- one stage

-- a stage in front of what its later stages hand over
abbrev in_front : Network → List Packet → Outcome → Handed → Handed
in_front net under o h = record { trace = events_of net o ++ h.trace; sids = own_sid under o ++ h.sids; content = h.content }

-- a stage that hands over
abbrev alone_there : Network → List Packet → Outcome → Content → Handed
alone_there net under o after = record { trace = events_of net o ++ []; sids = own_sid under o ++ []; content = after }

pub none_hands : (A : Type 0) (h : Handed) → None ≡ Some h → A
none_hands A h e = cc

-- within the limit the stage counts
within_limit : (net : Network) (n : ℕ) (s : TunnelStage) (ss : List TunnelStage) → behind_push n s.under + 1 ≤ 1000
    → handed_own net n (s ∷ ss) ≡ handed_by net s.gave.after s.under s.gave.outcome (handed_own net (behind_push n s.under) ss)
within_limit net n s ss few = rw (le-leb (behind_push n s.under + 1) 1000 few) refl

past_limit : (net : Network) (n : ℕ) (s : TunnelStage) (ss : List TunnelStage) → nat_le (behind_push n s.under + 1) most_stages ≡ false
    → handed_own net n (s ∷ ss) ≡ None
past_limit net n s ss long = rw long refl

-- what is handed over was within the limit
pub some_within : (net : Network) (n : ℕ) (s : TunnelStage) (ss : List TunnelStage) (h : Handed) → handed_own net n (s ∷ ss) ≡ Some h
    → handed_by net s.gave.after s.under s.gave.outcome (handed_own net (behind_push n s.under) ss) ≡ Some h
some_within net n s ss h e = elim (cases_Bool (nat_le (behind_push n s.under + 1) most_stages)) [
  | inl within ↦ sym (within_limit net n s ss (leb-true (behind_push n s.under + 1) 1000 within)) ∙ e
  | inr long ↦ none_hands _ h (sym (past_limit net n s ss long) ∙ e)
]

stage_last : (net : Network) (after : Content) (under : List Packet) (o : Outcome) (later : Option Handed) (n : ℕ) (how : How)
    (family : Family) → under ≡ [] → o ≡ outcomes.Hand n how family
    → handed_by net after under o later ≡ Some (alone_there net under o after)
stage_last net after under o later n how family bare hands =
    rw (bare, hands) (ap (λ t. Some (record { trace = t; sids = n ∷ []; content = after })) (sym (append-nil (executed net n))))

stage_passes : (net : Network) (after : Content) (under : List Packet) (o : Outcome) (h : Handed) → IsOnTheWay under o
    → handed_by net after under o (Some h) ≡ Some (in_front net under o h)
stage_passes net after [] (outcomes.Hand n how family) h way = absurd way
stage_passes net after (q ∷ under) (outcomes.Hand n how family) h way = refl
stage_passes net after [] (outcomes.Again n how) h way = refl
stage_passes net after (q ∷ under) (outcomes.Again n how) h way = refl
stage_passes net after [] (outcomes.Send link) h way = refl
stage_passes net after (q ∷ under) (outcomes.Send link) h way = refl
stage_passes net after under outcomes.Local h way = absurd way
stage_passes net after under (outcomes.Drop reason error) h way = absurd way

record HandsThere (net : Network) (after : Content) (under : List Packet) (o : Outcome) (h : Handed) : Type 0 where
  bare : under ≡ []
  sid : ℕ
  how : How
  family : Family
  hands : o ≡ outcomes.Hand sid how family
  is : h ≡ alone_there net under o after

record HandsLater (net : Network) (under : List Packet) (o : Outcome) (later : Option Handed) (h : Handed) : Type 0 where
  next : Handed
  there : later ≡ Some next
  way : IsOnTheWay under o
  is : h ≡ in_front net under o next

stage_either : (net : Network) (after : Content) (under : List Packet) (o : Outcome) (later : Option Handed) (h : Handed)
    → handed_by net after under o later ≡ Some h → HandsThere net after under o h ⊎ HandsLater net under o later h
stage_either net after [] (outcomes.Hand n how family) later h e =
    inl (record {
      bare = refl;
      sid = n;
      how = how;
      family = family;
      hands = refl;
      is = let same : record { trace = executed net n; sids = n ∷ []; content = after } ≡ h = cc in
          sym same ∙ ap (λ t. record { trace = t; sids = n ∷ []; content = after }) (sym (append-nil (executed net n)));
    })
stage_either net after (q ∷ under) (outcomes.Hand n how family) None h e = none_hands _ h e
stage_either net after (q ∷ under) (outcomes.Hand n how family) (Some g) h e = inr (record { next = g; there = refl; way = tt; is = cc })
stage_either net after [] (outcomes.Again n how) None h e = none_hands _ h e
stage_either net after [] (outcomes.Again n how) (Some g) h e = inr (record { next = g; there = refl; way = tt; is = cc })
stage_either net after (q ∷ under) (outcomes.Again n how) None h e = none_hands _ h e
stage_either net after (q ∷ under) (outcomes.Again n how) (Some g) h e = inr (record { next = g; there = refl; way = tt; is = cc })
stage_either net after [] (outcomes.Send link) None h e = none_hands _ h e
stage_either net after [] (outcomes.Send link) (Some g) h e = inr (record { next = g; there = refl; way = tt; is = cc })
stage_either net after (q ∷ under) (outcomes.Send link) None h e = none_hands _ h e
stage_either net after (q ∷ under) (outcomes.Send link) (Some g) h e = inr (record { next = g; there = refl; way = tt; is = cc })
stage_either net after under outcomes.Local later h e = none_hands _ h e
stage_either net after under (outcomes.Drop reason error) later h e = none_hands _ h e

-- ---- all stages

-- what stages hand over where the own hand_over is the last of these
abbrev handed_at : Network → List TunnelStage → Content → Handed
handed_at net stages after = record { trace = tunnel_trace net stages; sids = own_sids stages; content = after }

record OwnFrom (net : Network) (n : ℕ) (stages : List TunnelStage) (h : Handed) : Type 0 where
  before : List TunnelStage
  own : TunnelStage
  rest : List TunnelStage
  split : stages ≡ before ++ own ∷ rest
  way : AreOnTheWay before
  bare : own.under ≡ []
  sid : ℕ
  how : How
  family : Family
  hands : own.gave.outcome ≡ outcomes.Hand sid how family
  is : h ≡ handed_at net (before ++ own ∷ []) own.gave.after
  short : ShortFrom n (before ++ own ∷ [])

own_back : (net : Network) (n : ℕ) (before : List TunnelStage) (own : TunnelStage) (rest : List TunnelStage) (sid : ℕ) (how : How)
    (family : Family) → own.under ≡ [] → own.gave.outcome ≡ outcomes.Hand sid how family → AreOnTheWay before
    → ShortFrom n (before ++ own ∷ [])
    → handed_own net n (before ++ own ∷ rest) ≡ Some (handed_at net (before ++ own ∷ []) own.gave.after)
own_back net n [] own rest sid how family bare hands way short =
    within_limit net n own rest short.0
    ∙ stage_last net own.gave.after own.under own.gave.outcome (handed_own net (behind_push n own.under) rest) sid how family bare hands
own_back net n (s ∷ before) own rest sid how family bare hands way short =
    let h : Handed = handed_at net (before ++ own ∷ []) own.gave.after in
    within_limit net n s (before ++ own ∷ rest) short.0
    ∙ ap (handed_by net s.gave.after s.under s.gave.outcome)
    (own_back net (behind_push n s.under) before own rest sid how family bare hands way.1 short.1)
    ∙ stage_passes net s.gave.after s.under s.gave.outcome h way.0

own_here_law : (net : Network) (n : ℕ) (s : TunnelStage) (ss : List TunnelStage) (h : Handed) → behind_push n s.under + 1 ≤ 1000
    → HandsThere net s.gave.after s.under s.gave.outcome h → OwnFrom net n (s ∷ ss) h
own_here_law net n s ss h few there =
    record {
      before = [];
      own = s;
      rest = ss;
      split = refl;
      way = tt;
      bare = there.bare;
      sid = there.sid;
      how = there.how;
      family = there.family;
      hands = there.hands;
      is = there.is;
      short = (few, tt);
    }

own_behind : (net : Network) (n : ℕ) (s : TunnelStage) (ss : List TunnelStage) (h g : Handed) → behind_push n s.under + 1 ≤ 1000
    → IsOnTheWay s.under s.gave.outcome → h ≡ in_front net s.under s.gave.outcome g → OwnFrom net (behind_push n s.under) ss g
    → OwnFrom net n (s ∷ ss) h
own_behind net n s ss h g few way is r =
    record {
      before = s ∷ r.before;
      own = r.own;
      rest = r.rest;
      split = ap (λ xs. s ∷ xs) r.split;
      way = (way, r.way);
      bare = r.bare;
      sid = r.sid;
      how = r.how;
      family = r.family;
      hands = r.hands;
      is = is ∙ ap (in_front net s.under s.gave.outcome) r.is;
      short = (few, r.short);
    }

own_forth : (net : Network) (n : ℕ) (stages : List TunnelStage) (h : Handed) → handed_own net n stages ≡ Some h → OwnFrom net n stages h
own_forth net n [] h e = none_hands _ h e
own_forth net n (s ∷ ss) h e = elim (cases_Bool (nat_le (behind_push n s.under + 1) most_stages)) [
  | inr long ↦ none_hands _ h (sym (past_limit net n s ss long) ∙ e)
  | inl within ↦
      let few : behind_push n s.under + 1 ≤ 1000 = leb-true (behind_push n s.under + 1) 1000 within in
      let later : Option Handed = handed_own net (behind_push n s.under) ss in
      elim (stage_either net s.gave.after s.under s.gave.outcome later h (sym (within_limit net n s ss few) ∙ e)) [
        | inl there ↦ own_here_law net n s ss h few there
        | inr later ↦ own_behind net n s ss h later.next few later.way later.is
            (own_forth net (behind_push n s.under) ss later.next later.there)
      ]
]

is_own : (net : Network) (stages : List TunnelStage) (h : Handed) → OwnFrom net 0 stages h → IsOwnHand net stages h
is_own net stages h r =
    record {
      before = r.before;
      own = r.own;
      rest = r.rest;
      split = r.split;
      on_the_way = r.way;
      bare = r.bare;
      sid = r.sid;
      how = r.how;
      family = r.family;
      hands = r.hands;
      trace = ap (λ (x : Handed). x.trace) r.is;
      sids = ap (λ (x : Handed). x.sids) r.is;
      content = ap (λ (x : Handed). x.content) r.is;
      short = λ front mid back split headers. short_down (r.before ++ r.own ∷ []) front mid back r.short split headers;
    }

has_own : (net : Network) (stages : List TunnelStage) (h : Handed) → IsOwnHand net stages h → handed_own net 0 stages ≡ Some h
has_own net stages h r =
    let up_to : List TunnelStage = r.before ++ r.own ∷ [] in
    ap (handed_own net 0) r.split
    ∙ own_back net 0 r.before r.own r.rest r.sid r.how r.family r.bare r.hands r.on_the_way (short_up up_to r.short)
    ∙ ap (λ t. Some (record { trace = t; sids = own_sids up_to; content = r.own.gave.after })) (sym r.trace)
    ∙ ap (λ t. Some (record { trace = h.trace; sids = t; content = r.own.gave.after })) (sym r.sids)
    ∙ ap (λ t. Some (record { trace = h.trace; sids = h.sids; content = t })) (sym r.content)

pub own_either : (net : Network) (stages : List TunnelStage) (h : Handed) → (handed_own net 0 stages ≡ Some h) ↔ IsOwnHand net stages h
own_either net stages h = (λ e. is_own net stages h (own_forth net 0 stages h e), has_own net stages h)
