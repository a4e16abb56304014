-- A header that was pushed walks alone, whatever is below it.
use Rattle.std.proofs.Common.{◌≡◌, ℕ, zero, suc, ◌+◌, ◌-◌, ◌<◌, ◌≤◌, nat_le, Bool, true, false, if◌then◌else◌, List, [], ◌∷◌, ◌++◌, Option, Some, refl, sym, ap, ◌∙◌, subst, arith}
use Rattle.std.specs.Prelude.{◌↔◌}
use Rattle.std.specs.Option.{option_map, option_and_then}
use Rattle.std.proofs.lemmas.Bool.{leb-false, lt-leb}
use Rattle.binding_spec.specs.Machines.{Events, Move, Fork, Go, Fail, End, all_in, left_by, end_after, end_with, end_by, end_of}
use Rattle.tunnel_walks_theory.specs.MachinesTerms.{LeadsOn, AllJoined}
use Rattle.tunnel_walks_theory.specs.TunnelChoices.{EndsWith}
use Rattle.binding_spec.specs.TunnelPackets.{World, Look, Crosses, Executes, Pushes, Exposes, Loses, arrives, Inside, inside_at, inside_by, inside_move, tunnel_of}
use Rattle.tunnel_walks_theory.specs.TunnelPacketsTerms.{Tunnelled, tunnel_at, open_at, pushed_at, taken_off, under_by, tunnel_by, tunnel_move, LooksOn, IsJoined, AreJoined, own_by, own_bottom, own_move, met_by, met_bottom, met_move}
use Rattle.tunnel_walks_theory.specs.TunnelLegs.{BehindHeader}
use Rattle.tunnel_walks_theory.proofs.TunnelOptions.{then_parts, then_from, map_parts, map_from, if_parts, if_from, arrives_parts, arrives_from}
use Rattle.tunnel_walks_theory.proofs.TunnelWalks.{end_later}

-- ---- a move that notes no SID

module _ {L E N T S R : Type 0} (events : Events L E T) (go : List T → S → Option (End T N R)) where
  pub quiet_parts : (told : List E) (next : S) (ts : List T) (e : End T N R)
      → option_map (end_after []) (option_and_then (λ us. go us next) (left_by events ts told)) ≡ Some e
      → (us : List T) × (left_by events ts told ≡ Some us) × (go us next ≡ Some e)
  quiet_parts told next ts e h =
      let a = map_parts (end_after []) (option_and_then (λ us. go us next) (left_by events ts told)) e h in
      let b = then_parts (λ us. go us next) (left_by events ts told) a.0 a.1 in
      (b.0, b.1, b.2 ∙ ap Some a.2)

  pub quiet_from : (told : List E) (next : S) (ts us : List T) (e : End T N R) → left_by events ts told ≡ Some us → go us next ≡ Some e
      → option_map (end_after []) (option_and_then (λ us. go us next) (left_by events ts told)) ≡ Some e
  quiet_from told next ts us e h k = map_from (end_after []) (then_from (λ us. go us next) h k) refl

  pub fail_parts : (b : Bool) (m : Move L E N S R) (ts : List T) (e : End T N R)
      → end_by events go (if b then Fail else m) ts ≡ Some e → (b ≡ false) × (end_by events go m ts ≡ Some e)
  fail_parts true m ts e h = cc
  fail_parts false m ts e h = (refl, h)

  pub fail_from : (b : Bool) (m : Move L E N S R) (ts : List T) (e : End T N R) → b ≡ false → end_by events go m ts ≡ Some e
      → end_by events go (if b then Fail else m) ts ≡ Some e
  fail_from b m ts e off h = subst (λ c. end_by events go (if c then Fail else m) ts ≡ Some e) (sym off) h

some_fuel : {L E N T S R : Type 0} (events : Events L E T) (move : S → Move L E N S R) (n : ℕ) (ts : List T) (s : S) (e : End T N R)
    → end_of events move n ts s ≡ Some e → 0 < n
unfolding end_of
some_fuel events move zero ts s e h = cc
some_fuel events move (suc n) ts s e h = omega arith

module _ {L E T N P H X R : Type 0} (w : World L E T N P H X) (bottom : P → H → Move L E N (Tunnelled P H) R) where
  abbrev inside_end : ℕ → List T → Inside P H → Option (End T N P)
  inside_end = end_of w.events (inside_move w)

  abbrev tunnel_end : ℕ → List T → Tunnelled P H → Option (End T N R)
  tunnel_end = end_of w.events (tunnel_move w bottom)

  -- the move under headers above the own packet, which is below them all
  abbrev taken_above : List H → H → ℕ → P → Tunnelled P H
  taken_above [] own used place = open_at place own
  taken_above (a ∷ above) own used place = tunnel_at a (above ++ own ∷ []) (suc used) place

  abbrev above_by : List H → H → ℕ → Look L N P H X → Move L E N (Tunnelled P H) R
  above_by above own used (Crosses first rest to head) = Fork first rest (arrives to (tunnel_at head (above ++ own ∷ []) (suc used)))
  above_by above own used (Executes sid place head) = Go (w.executed sid) [] (tunnel_at head (above ++ own ∷ []) (suc used) place)
  above_by above own used (Pushes sid place new head) = Go (w.executed sid) [] (tunnel_at new (head ∷ (above ++ own ∷ [])) (suc used) place)
  above_by above own used (Exposes sid place inside) = Go (w.executed sid) [] (taken_above above own used place)
  above_by above own used Loses = Fail

  under_last : (own : H) (used : ℕ) (look : Look L N P H X) → under_by {R = R} w own [] used look ≡ above_by [] own used look
  under_last own used (Crosses first rest to head) = refl
  under_last own used (Executes sid place head) = refl
  under_last own used (Pushes sid place new head) = refl
  under_last own used (Exposes sid place inside) = refl
  under_last own used Loses = refl

  off_next : (a : H) (above : List H) (own : H) (used : ℕ) (place : P)
      → taken_off place a (above ++ own ∷ []) used ≡ taken_above (a ∷ above) own used place
  off_next a [] own used place = refl
  off_next a (b ∷ above) own used place = refl

  under_next : (a : H) (above : List H) (own : H) (used : ℕ) (look : Look L N P H X)
      → under_by {R = R} w a (above ++ own ∷ []) used look ≡ above_by (a ∷ above) own used look
  under_next a above own used (Crosses first rest to head) = refl
  under_next a above own used (Executes sid place head) = refl
  under_next a above own used (Pushes sid place new head) = refl
  under_next a above own used (Exposes sid place inside) = ap (Go (w.executed sid) []) (off_next a above own used place)
  under_next a above own used Loses = refl

  tunnel_is : (place : P) (head : H) (above : List H) (own : H) (used : ℕ)
      → tunnel_by w bottom place head used (above ++ own ∷ [])
      ≡ (if nat_le w.limit used then Fail else above_by above own used (w.look place head))
  tunnel_is place head [] own used = ap (λ m. if nat_le w.limit used then Fail else m) (under_last own used (w.look place head))
  tunnel_is place head (a ∷ above) own used =
      ap (λ m. if nat_le w.limit used then Fail else m) (under_next a above own used (w.look place head))

  -- ---- the walk of headers that are above the own packet goes on as its own walk does alone

  abbrev On : List T → P → H → List H → H → ℕ → End T N R → Type 0
  On ts place head above own used e = (fuel : ℕ) × (tunnel_end fuel ts (tunnel_at head (above ++ own ∷ []) used place) ≡ Some e)

  abbrev OnBy : List T → List H → H → ℕ → Look L N P H X → End T N R → Type 0
  OnBy ts above own used look e = (fuel : ℕ) × (end_by w.events (tunnel_end fuel) (above_by above own used look) ts ≡ Some e)

  on_from : (ts : List T) (place : P) (head : H) (above : List H) (own : H) (used : ℕ) (e : End T N R) → used < w.limit
      → OnBy ts above own used (w.look place head) e → On ts place head above own used e
  unfolding end_of
  on_from ts place head above own used e few by =
      let off : nat_le w.limit used ≡ false = lt-leb _ _ few in (
        suc by.0,
        subst (λ m. end_by w.events (tunnel_end by.0) m ts ≡ Some e) (sym (tunnel_is place head above own used))
            (fail_from w.events (tunnel_end by.0) (nat_le w.limit used) (above_by above own used (w.look place head)) ts e off by.1),
      )

  join_by : (k : ℕ) (look : Look L N P H X) (above : List H) (own : H) (used : ℕ) (ts : List T) (end : End T N P) (e : End T N R)
      → ((ts : List T) (place : P) (head : H) (above : List H) (used : ℕ) → inside_end k ts (inside_at head above place) ≡ Some end
      → k + used ≤ w.limit → On ts place head above own used e)
      → end_by w.events (inside_end k) (inside_by w above look) ts ≡ Some end → suc k + used ≤ w.limit
      → EndsWith w.events (tunnel_move w bottom) end.left (open_at end.result own) e → OnBy ts above own used look e
  join_by k (Crosses first rest to head) above own used [] end e ih h few on = cc
  join_by k (Crosses first rest to head) above own used (t ∷ ts) end e ih h few on =
      let a = if_parts (all_in w.events t (first ∷ rest)) (option_and_then (inside_end k ts)
      (arrives to (inside_at head above) first)) end h in
      let b = arrives_parts (inside_end k ts) to (inside_at head above) first end a.1 in
      let r = ih ts b.0 head above (suc used) b.2 (omega (arith, few)) in
      (r.0, if_from a.0 (arrives_from (tunnel_end r.0 ts) to (tunnel_at head (above ++ own ∷ []) (suc used)) b.1 r.1))
  join_by k (Executes sid place head) above own used ts end e ih h few on =
      let a = quiet_parts w.events (inside_end k) (w.executed sid) (inside_at head above place) ts end h in
      let r = ih a.0 place head above (suc used) a.2 (omega (arith, few)) in
      (r.0, quiet_from w.events (tunnel_end r.0) (w.executed sid) (tunnel_at head (above ++ own ∷ []) (suc used) place) ts a.0 e a.1 r.1)
  join_by k (Pushes sid place new head) above own used ts end e ih h few on =
      let a = quiet_parts w.events (inside_end k) (w.executed sid) (inside_at new (head ∷ above) place) ts end h in
      let r = ih a.0 place new (head ∷ above) (suc used) a.2 (omega (arith, few)) in (
        r.0,
        quiet_from w.events (tunnel_end r.0) (w.executed sid) (tunnel_at new (head ∷ (above ++ own ∷ []))
            (suc used) place) ts a.0 e a.1 r.1,
      )
  join_by k (Exposes sid place inside) [] own used ts end e ih h few on =
      let a = map_parts (end_with [] place) (left_by w.events ts (w.executed sid)) end h in
      let back : tunnel_end on.0 a.0 (open_at place own) ≡ Some e =
      subst (λ (x : End T N P). tunnel_end on.0 x.left (open_at x.result own) ≡ Some e) (sym a.2) on.1 in
      (on.0, quiet_from w.events (tunnel_end on.0) (w.executed sid) (open_at place own) ts a.0 e a.1 back)
  join_by k (Exposes sid place inside) (b ∷ above) own used ts end e ih h few on =
      let a = quiet_parts w.events (inside_end k) (w.executed sid) (inside_at b above place) ts end h in
      let r = ih a.0 place b above (suc used) a.2 (omega (arith, few)) in
      (r.0, quiet_from w.events (tunnel_end r.0) (w.executed sid) (tunnel_at b (above ++ own ∷ []) (suc used) place) ts a.0 e a.1 r.1)
  join_by k Loses above own used ts end e ih h few on = cc

  pub join : (k : ℕ) (ts : List T) (place : P) (head : H) (above : List H) (own : H) (used : ℕ) (end : End T N P) (e : End T N R)
      → inside_end k ts (inside_at head above place) ≡ Some end → k + used ≤ w.limit
      → EndsWith w.events (tunnel_move w bottom) end.left (open_at end.result own) e → On ts place head above own used e
  unfolding end_of
  join zero ts place head above own used end e h few on = cc
  join (suc k) ts place head above own used end e h few on =
      on_from ts place head above own used e (omega (arith, few))
      (join_by k (w.look place head) above own used ts end e
      (λ ts place head above used g less. join k ts place head above own used end e g less on) h few on)

  -- ---- and the other way round

  record SplitsBy (n : ℕ) (ts : List T) (above : List H) (own : H) (used : ℕ) (look : Look L N P H X) (e : End T N R) : Type 0 where
    k : ℕ
    m : ℕ
    end : End T N P
    alone : end_by w.events (inside_end k) (inside_by w above look) ts ≡ Some end
    few : suc k + used ≤ w.limit
    on : tunnel_end m end.left (open_at end.result own) ≡ Some e
    fewer : m ≤ n

  -- the headers' walk alone, within the limit, and the walk of the own packet behind it, of fewer moves
  pub record Splits (n : ℕ) (ts : List T) (place : P) (head : H) (above : List H) (own : H) (used : ℕ) (e : End T N R) : Type 0 where
    pub k : ℕ
    pub m : ℕ
    pub end : End T N P
    pub alone : inside_end k ts (inside_at head above place) ≡ Some end
    pub few : k + used ≤ w.limit
    pub on : tunnel_end m end.left (open_at end.result own) ≡ Some e
    pub fewer : m < n

  apart_by : (n : ℕ) (look : Look L N P H X) (above : List H) (own : H) (used : ℕ) (ts : List T) (e : End T N R) → used < w.limit
      → ((ts : List T) (place : P) (head : H) (above : List H) (used : ℕ)
      → tunnel_end n ts (tunnel_at head (above ++ own ∷ []) used place) ≡ Some e → Splits n ts place head above own used e)
      → end_by w.events (tunnel_end n) (above_by above own used look) ts ≡ Some e → SplitsBy n ts above own used look e
  apart_by n (Crosses first rest to head) above own used [] e room ih h = cc
  apart_by n (Crosses first rest to head) above own used (t ∷ ts) e room ih h =
      let at = tunnel_at head (above ++ own ∷ []) (suc used) in
      let a = if_parts (all_in w.events t (first ∷ rest)) (option_and_then (tunnel_end n ts) (arrives to at first)) e h in
      let b = arrives_parts (tunnel_end n ts) to at first e a.1 in
      let s = ih ts b.0 head above (suc used) b.2 in
      record {
        k = s.k;
        m = s.m;
        end = s.end;
        alone = if_from a.0 (arrives_from (inside_end s.k ts) to (inside_at head above) b.1 s.alone);
        few = omega (arith, s.few);
        on = s.on;
        fewer = omega (arith, s.fewer);
      }
  apart_by n (Executes sid place head) above own used ts e room ih h =
      let a = quiet_parts w.events (tunnel_end n) (w.executed sid) (tunnel_at head (above ++ own ∷ []) (suc used) place) ts e h in
      let s = ih a.0 place head above (suc used) a.2 in
      record {
        k = s.k;
        m = s.m;
        end = s.end;
        alone = quiet_from w.events (inside_end s.k) (w.executed sid) (inside_at head above place) ts a.0 s.end a.1 s.alone;
        few = omega (arith, s.few);
        on = s.on;
        fewer = omega (arith, s.fewer);
      }
  apart_by n (Pushes sid place new head) above own used ts e room ih h =
      let a = quiet_parts w.events (tunnel_end n) (w.executed sid) (tunnel_at new (head ∷ (above ++ own ∷ [])) (suc used) place) ts e h in
      let s = ih a.0 place new (head ∷ above) (suc used) a.2 in
      record {
        k = s.k;
        m = s.m;
        end = s.end;
        alone = quiet_from w.events (inside_end s.k) (w.executed sid) (inside_at new (head ∷ above) place) ts a.0 s.end a.1 s.alone;
        few = omega (arith, s.few);
        on = s.on;
        fewer = omega (arith, s.fewer);
      }
  apart_by n (Exposes sid place inside) [] own used ts e room ih h =
      let a = quiet_parts w.events (tunnel_end n) (w.executed sid) (open_at place own) ts e h in
      record {
        k = 0;
        m = n;
        end = end_with [] place a.0;
        alone = map_from (end_with [] place) a.1 refl;
        few = omega (arith, room);
        on = a.2;
        fewer = omega arith;
      }
  apart_by n (Exposes sid place inside) (b ∷ above) own used ts e room ih h =
      let a = quiet_parts w.events (tunnel_end n) (w.executed sid) (tunnel_at b (above ++ own ∷ []) (suc used) place) ts e h in
      let s = ih a.0 place b above (suc used) a.2 in
      record {
        k = s.k;
        m = s.m;
        end = s.end;
        alone = quiet_from w.events (inside_end s.k) (w.executed sid) (inside_at b above place) ts a.0 s.end a.1 s.alone;
        few = omega (arith, s.few);
        on = s.on;
        fewer = omega (arith, s.fewer);
      }
  apart_by n Loses above own used ts e room ih h = cc

  pub apart : (n : ℕ) (ts : List T) (place : P) (head : H) (above : List H) (own : H) (used : ℕ) (e : End T N R)
      → tunnel_end n ts (tunnel_at head (above ++ own ∷ []) used place) ≡ Some e → Splits n ts place head above own used e
  unfolding end_of
  apart zero ts place head above own used e h = cc
  apart (suc n) ts place head above own used e h =
      let a = fail_parts w.events (tunnel_end n) (nat_le w.limit used) (above_by above own used (w.look place head)) ts e
      (subst (λ m. end_by w.events (tunnel_end n) m ts ≡ Some e) (tunnel_is place head above own used) h) in
      let room : used < w.limit = leb-false _ _ a.0 in
      let s = apart_by n (w.look place head) above own used ts e room
      (λ ts place head above used g. apart n ts place head above own used e g) a.1 in
      record { k = suc s.k; m = s.m; end = s.end; alone = s.alone; few = s.few; on = s.on; fewer = omega (arith, s.fewer) }

  -- ---- right behind a push

  -- the header's walk alone, and the walk of the own packet behind it, of fewer moves
  pub record Fewer (n : ℕ) (ts : List T) (place : P) (new own : H) (e : End T N R) : Type 0 where
    pub origin : End T N P
    pub alone : tunnel_of w ts place new ≡ Some origin
    pub m : ℕ
    pub on : tunnel_end m origin.left (open_at origin.result own) ≡ Some e
    pub fewer : m < n

  pub behind_fewer : (n : ℕ) (ts : List T) (place : P) (new own : H) (e : End T N R)
      → tunnel_end n ts (pushed_at place new own) ≡ Some e → Fewer n ts place new own e
  unfolding tunnel_of
  behind_fewer n ts place new own e h =
      let s = apart n ts place new [] own 1 e h in
      record {
        origin = s.end;
        alone = end_later w.events (inside_move w) s.k (w.limit - 1) ts (inside_at new [] place) s.end (omega (arith, s.few)) s.alone;
        m = s.m;
        on = s.on;
        fewer = s.fewer;
      }

  pub behind_parts : (ts : List T) (place : P) (new own : H) (e : End T N R)
      → EndsWith w.events (tunnel_move w bottom) ts (pushed_at place new own) e → BehindHeader w bottom ts place new own e
  behind_parts ts place new own e on =
      let s = behind_fewer on.0 ts place new own e on.1 in
      record { origin = s.origin; alone = s.alone; on = (s.m, s.on) }

  pub behind_from : (ts : List T) (place : P) (new own : H) (e : End T N R) → BehindHeader w bottom ts place new own e
      → EndsWith w.events (tunnel_move w bottom) ts (pushed_at place new own) e
  unfolding tunnel_of
  behind_from ts place new own e b =
      let some : 0 < w.limit - 1 = some_fuel w.events (inside_move w) (w.limit - 1) ts (inside_at new [] place) b.origin b.alone in
      join (w.limit - 1) ts place new [] own 1 b.origin e b.alone (omega (arith, some)) b.on

  pub behind : (ts : List T) (place : P) (new own : H) (e : End T N R)
      → EndsWith w.events (tunnel_move w bottom) ts (pushed_at place new own) e ↔ BehindHeader w bottom ts place new own e
  behind ts place new own e = (behind_parts ts place new own e, behind_from ts place new own e)

  -- ---- joined links

  abbrev BottomJoined : T → Type 0
  BottomJoined t = (place : P) (own : H) → LooksOn w.events t (w.look place own) → LeadsOn w.events t (bottom place own)

  under_leads : (t : T) (b : H) (bs : List H) (used : ℕ) (look : Look L N P H X) → LooksOn w.events t look
      → LeadsOn w.events t (under_by {R = R} w b bs used look)
  under_leads t b bs used (Crosses first rest to head) joined =
      λ k l mine yours. ap (option_map (tunnel_at head (b ∷ bs) (suc used))) (joined k l mine yours)
  under_leads t b bs used (Executes sid place head) joined = tt
  under_leads t b bs used (Pushes sid place new head) joined = tt
  under_leads t b bs used (Exposes sid place inside) joined = tt
  under_leads t b bs used Loses joined = tt

  if_leads : (t : T) (c : Bool) (m : Move L E N (Tunnelled P H) R) → LeadsOn w.events t m → LeadsOn w.events t (if c then Fail else m)
  if_leads t true m h = tt
  if_leads t false m h = h

  tunnel_leads : (t : T) → BottomJoined t → IsJoined w t → (place : P) (head : H) (used : ℕ) (below : List H)
      → LeadsOn w.events t (tunnel_by w bottom place head used below)
  tunnel_leads t ground joined place head used [] = ground place head (joined place head)
  tunnel_leads t ground joined place head used (b ∷ bs) =
      if_leads t (nat_le w.limit used) (under_by w b bs used (w.look place head))
      (under_leads t b bs used (w.look place head) (joined place head))

  pub tunnel_joined : ((t : T) → BottomJoined t) → (ts : List T) → AreJoined w ts → AllJoined w.events (tunnel_move w bottom) ts
  tunnel_joined ground [] all = tt
  tunnel_joined ground (t ∷ ts) all =
      (λ d. tunnel_leads t (ground t) all.0 d.place d.head d.used d.below, tunnel_joined ground ts all.1)

module _ {L E T N P H X : Type 0} (w : World L E T N P H X) where
  own_leads : (t : T) (look : Look L N P H X) → LooksOn w.events t look → LeadsOn w.events t (own_by w look)
  own_leads t (Crosses first rest to own) joined = λ k l mine yours. ap (option_map (λ place. open_at place own)) (joined k l mine yours)
  own_leads t (Executes sid place own) joined = tt
  own_leads t (Pushes sid place new own) joined = tt
  own_leads t (Exposes sid place inside) joined = tt
  own_leads t Loses joined = tt

  pub own_joined : (ts : List T) → AreJoined w ts → AllJoined w.events (own_move w) ts
  own_joined ts all = tunnel_joined w (own_bottom w) (λ t place own joined. own_leads t (w.look place own) joined) ts all

  met_leads : (t : T) (look : Look L N P H X) → LooksOn w.events t look → LeadsOn w.events t (met_by w look)
  met_leads t (Crosses first rest to own) joined = λ k l mine yours. ap (option_map (λ place. open_at place own)) (joined k l mine yours)
  met_leads t (Executes sid place own) joined = tt
  met_leads t (Pushes sid place new own) joined = tt
  met_leads t (Exposes sid place inside) joined = tt
  met_leads t Loses joined = tt

  pub met_joined : (ts : List T) → AreJoined w ts → AllJoined w.events (met_move w) ts
  met_joined ts all = tunnel_joined w (met_bottom w) (λ t place own joined. met_leads t (w.look place own) joined) ts all
