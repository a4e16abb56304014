-- A walk up to the own hand_over is one to the first execution on the own packet, or to where that is on top, and what is left of it.
use Rattle.std.proofs.Common.{◌≡◌, ℕ, zero, suc, ◌+◌, Bool, true, false, nat_le, if◌then◌else◌, List, [], ◌∷◌, ◌++◌, Option, Some, None, refl, sym, ap, ◌∙◌, arith, append_assoc}
use Rattle.std.specs.Option.{option_map, option_and_then}
use Rattle.binding_spec.specs.Machines.{Move, Fork, Go, Fail, End, all_in, left_by, end_after, end_with, end_by, end_of}
use Rattle.tunnel_walks_theory.specs.MachinesTerms.{Got, link_of, got_after, got_by, got_of, AllJoined}
use Rattle.tunnel_walks_theory.specs.TunnelChoices.{EndsWith}
use Rattle.binding_spec.specs.TunnelPackets.{World, Look, Crosses, Executes, Pushes, Exposes, Loses, arrives, tunnel_of}
use Rattle.tunnel_walks_theory.specs.TunnelPacketsTerms.{Tunnelled, tunnel_at, open_at, pushed_at, under_by, tunnel_by, tunnel_move, AreJoined, Bared, own_by, own_bottom, own_move, Met, Onward, Under, Bare, met_by, met_bottom, met_move}
use Rattle.tunnel_walks_theory.specs.WalkRests.{bared_at, rest_of, RestEnds, Opened, opened_at, open_bottom, open_move, rest_open}
use Rattle.tunnel_walks_theory.proofs.TunnelOptions.{then_parts, map_parts, map_from, if_parts, if_from, arrives_parts, arrives_from}
use Rattle.tunnel_walks_theory.proofs.Tunnels.{quiet_parts, quiet_from, behind_from, tunnel_joined}

-- events and SIDs before others
after_map : {E N R : Type 0} (a c : List E) (b d : List N) (o : Option (Got E N R))
    → option_map (got_after a b) (option_map (got_after c d) o) ≡ option_map (got_after (a ++ c) (b ++ d)) o
after_map a c b d None = refl
after_map a c b d (Some g) =
    ap (λ es. Some (record { trace = es; sids = b ++ (d ++ g.sids); result = g.result })) (sym (append_assoc a c g.trace))
    ∙ ap (λ ns. Some (record { trace = (a ++ c) ++ g.trace; sids = ns; result = g.result })) (sym (append_assoc b d g.sids))

-- two walks under headers that differ in what is done with the own packet on top: where the first is done there, the other goes on as a
-- rest says, before which events and SIDs may stand
module _ {L E T N P H X R Q : Type 0} (w : World L E T N P H X) (bottom : P → H → Move L E N (Tunnelled P H) R)
    (other : P → H → Move L E N (Tunnelled P H) Q) (rest : ℕ → (ℕ → ℕ) → ℕ → List E → List N → R → Option (Got E N Q))
    (before : (more : ℕ) (pick : ℕ → ℕ) (chosen : ℕ) (a c : List E) (b d : List N) (m : R)
    → option_map (got_after a b) (rest more pick chosen c d m) ≡ rest more pick chosen (a ++ c) (b ++ d) m) where
  abbrev first_got : ℕ → Tunnelled P H → (ℕ → ℕ) → ℕ → Option (Got E N R)
  first_got = got_of w.events (tunnel_move w bottom)

  abbrev other_got : ℕ → Tunnelled P H → (ℕ → ℕ) → ℕ → Option (Got E N Q)
  other_got = got_of w.events (tunnel_move w other)

  -- after so many moves and with so many choices taken
  pub record GoesOn (s : Tunnelled P H) (pick : ℕ → ℕ) (taken : ℕ) (g : Got E N R) : Type 0 where
    pub count : ℕ
    pub chosen : ℕ
    pub passes : (more : ℕ) → other_got (count + more) s pick taken ≡ rest more pick chosen g.trace g.sids g.result

  pub record GoesOnBy (m : Move L E N (Tunnelled P H) Q) (pick : ℕ → ℕ) (taken : ℕ) (g : Got E N R) : Type 0 where
    pub count : ℕ
    pub chosen : ℕ
    pub passes : (more : ℕ)
        → got_by w.events (other_got (count + more)) m pick taken ≡ rest more pick chosen g.trace g.sids g.result

  abbrev pub LaterOn : ℕ → (ℕ → ℕ) → Type 0
  LaterOn n pick = (s : Tunnelled P H) (taken : ℕ) (g : Got E N R) → first_got n s pick taken ≡ Some g → GoesOn s pick taken g

  -- so it is with the own packet on top
  abbrev pub Ground : Type 0
  Ground =
      (n : ℕ) (pick : ℕ → ℕ) (taken : ℕ) (g : Got E N R) → LaterOn n pick → (place : P) (own : H)
      → got_by w.events (first_got n) (bottom place own) pick taken ≡ Some g → GoesOnBy (other place own) pick taken g

  pub over_on : (n : ℕ) (pick : ℕ → ℕ) (taken : ℕ) (g : Got E N R) → LaterOn n pick → (first : L) (others : List L) (to : L → Option P)
      → (at : P → Tunnelled P H)
      → got_by w.events (first_got n) (Fork first others (arrives to at)) pick taken ≡ Some g
      → GoesOnBy (Fork first others (arrives to at)) pick taken g
  over_on n pick taken g ih first others to at h =
      let link = link_of first others (pick taken) in
      let a = map_parts (got_after (w.events.crossed link ∷ []) []) _ g h in
      let b = arrives_parts (λ next. first_got n next pick (suc taken)) to at link a.0 a.1 in
      let r = ih (at b.0) (suc taken) a.0 b.2 in
      record {
        count = r.count;
        chosen = r.chosen;
        passes = λ more.
            ap (λ (o : Option P). option_map (got_after (w.events.crossed link ∷ []) [])
            (option_and_then (λ next. other_got (r.count + more) next pick (suc taken)) (option_map at o))) b.1
            ∙ ap (option_map (got_after (w.events.crossed link ∷ []) [])) (r.passes more)
            ∙ before more pick r.chosen (w.events.crossed link ∷ []) a.0.trace [] a.0.sids a.0.result
            ∙ ap (λ (g : Got E N R). rest more pick r.chosen g.trace g.sids g.result) a.2;
      }

  go_on : (n : ℕ) (pick : ℕ → ℕ) (taken : ℕ) (g : Got E N R) → LaterOn n pick → (told : List E) (next : Tunnelled P H)
      → got_by w.events (first_got n) (Go told [] next) pick taken ≡ Some g → GoesOnBy (Go told [] next) pick taken g
  go_on n pick taken g ih told next h =
      let a = map_parts (got_after told []) (first_got n next pick taken) g h in
      let r = ih next taken a.0 a.1 in
      record {
        count = r.count;
        chosen = r.chosen;
        passes = λ more.
            ap (option_map (got_after told [])) (r.passes more)
            ∙ before more pick r.chosen told a.0.trace [] a.0.sids a.0.result
            ∙ ap (λ (g : Got E N R). rest more pick r.chosen g.trace g.sids g.result) a.2;
      }

  under_on : (n : ℕ) (pick : ℕ → ℕ) (taken : ℕ) (g : Got E N R) → LaterOn n pick → (b : H) (bs : List H) (used : ℕ)
      → (look : Look L N P H X) → got_by w.events (first_got n) (under_by w b bs used look) pick taken ≡ Some g
      → GoesOnBy (under_by w b bs used look) pick taken g
  under_on n pick taken g ih b bs used (Crosses first others to head) h =
      over_on n pick taken g ih first others to (tunnel_at head (b ∷ bs) (suc used)) h
  under_on n pick taken g ih b bs used (Executes sid place head) h = go_on n pick taken g ih (w.executed sid) _ h
  under_on n pick taken g ih b bs used (Pushes sid place new head) h = go_on n pick taken g ih (w.executed sid) _ h
  under_on n pick taken g ih b bs used (Exposes sid place inside) h = go_on n pick taken g ih (w.executed sid) _ h
  under_on n pick taken g ih b bs used Loses h = cc

  tunnel_on : Ground → (n : ℕ) (pick : ℕ → ℕ) (taken : ℕ) (g : Got E N R) → LaterOn n pick → (place : P) (head : H) (used : ℕ)
      → (below : List H) → got_by w.events (first_got n) (tunnel_by w bottom place head used below) pick taken ≡ Some g
      → GoesOnBy (tunnel_by w other place head used below) pick taken g
  tunnel_on ground n pick taken g ih place head used [] h = ground n pick taken g ih place head h
  tunnel_on ground n pick taken g ih place head used (b ∷ bs) h = by_limit (nat_le w.limit used) h
    where
      by_limit : (c : Bool)
          → got_by w.events (first_got n) (if c then Fail else under_by w b bs used (w.look place head)) pick taken ≡ Some g
          → GoesOnBy (if c then Fail else under_by w b bs used (w.look place head)) pick taken g
      by_limit true h = cc
      by_limit false h = under_on n pick taken g ih b bs used (w.look place head) h

  pub all_on : Ground → (n : ℕ) (s : Tunnelled P H) (pick : ℕ → ℕ) (taken : ℕ) (g : Got E N R) → first_got n s pick taken ≡ Some g
      → GoesOn s pick taken g
  unfolding got_of
  all_on ground zero s pick taken g h = cc
  all_on ground (suc n) s pick taken g h =
      let r = tunnel_on ground n pick taken g (λ s taken g e. all_on ground n s pick taken g e) s.place s.head s.used s.below h in
      record {
        count = suc r.count;
        chosen = r.chosen;
        passes = λ more. let e : suc r.count + more ≡ suc (r.count + more) = omega arith in rw e (r.passes more);
      }

module _ {L E T N P H X : Type 0} (w : World L E T N P H X) where
  abbrev MetGot : Type 0
  MetGot = Got E N (Met P H X)

  abbrev own_got : ℕ → Tunnelled P H → (ℕ → ℕ) → ℕ → Option (Got E N (Bared P X))
  own_got = got_of w.events (own_move w)

  -- ---- behind the first execution

  pub after_rest : (more : ℕ) (pick : ℕ → ℕ) (chosen : ℕ) (a c : List E) (b d : List N) (m : Met P H X)
      → option_map (got_after a b) (rest_of w more pick chosen c d m) ≡ rest_of w more pick chosen (a ++ c) (b ++ d) m
  after_rest more pick chosen a c b d (Onward place own) = after_map a c b d (own_got more (open_at place own) pick chosen)
  after_rest more pick chosen a c b d (Under place new own) = after_map a c b d (own_got more (pushed_at place new own) pick chosen)
  after_rest more pick chosen a c b d (Bare place inside) = refl

  done_on : (told : List E) (sids : List N) (m : Met P H X) (g : MetGot)
      → Some (record { trace = told; sids = sids; result = m }) ≡ Some g → (more : ℕ) (pick : ℕ → ℕ) (taken : ℕ)
      → rest_of w more pick taken told sids m ≡ rest_of w more pick taken g.trace g.sids g.result
  done_on told sids m g h more pick taken =
      ap (λ (o : Option MetGot). option_and_then (λ (g : MetGot). rest_of w more pick taken g.trace g.sids g.result) o) h

  met_on : (n : ℕ) (pick : ℕ → ℕ) (taken : ℕ) (g : MetGot)
      → LaterOn w (met_bottom w) (own_bottom w) (rest_of w) after_rest n pick → (look : Look L N P H X)
      → got_by w.events (got_of w.events (met_move w) n) (met_by w look) pick taken ≡ Some g
      → GoesOnBy w (met_bottom w) (own_bottom w) (rest_of w) after_rest (own_by w look) pick taken g
  met_on n pick taken g ih (Crosses first others to own) h =
      over_on w (met_bottom w) (own_bottom w) (rest_of w) after_rest n pick taken g ih first others to (λ place. open_at place own) h
  met_on n pick taken g ih (Executes sid place own) h =
      record {
        count = 0;
        chosen = taken;
        passes = λ more. let z : 0 + more ≡ more = omega arith in
            ap (λ (k : ℕ). rest_of w k pick taken (w.executed sid) (sid ∷ []) (Onward place own)) z
            ∙ done_on (w.executed sid) (sid ∷ []) (Onward place own) g h more pick taken;
      }
  met_on n pick taken g ih (Pushes sid place new own) h =
      record {
        count = 0;
        chosen = taken;
        passes = λ more. let z : 0 + more ≡ more = omega arith in
            ap (λ (k : ℕ). rest_of w k pick taken (w.executed sid) (sid ∷ []) (Under place new own)) z
            ∙ done_on (w.executed sid) (sid ∷ []) (Under place new own) g h more pick taken;
      }
  met_on n pick taken g ih (Exposes sid place inside) h =
      record {
        count = 0;
        chosen = taken;
        passes = λ more. done_on (w.executed sid) (sid ∷ []) (Bare place inside) g h more pick taken;
      }
  met_on n pick taken g ih Loses h = cc

  pub goes_on_law : (n : ℕ) (s : Tunnelled P H) (pick : ℕ → ℕ) (taken : ℕ) (g : MetGot) → got_of w.events (met_move w) n s pick taken ≡ Some g
      → GoesOn w (met_bottom w) (own_bottom w) (rest_of w) after_rest s pick taken g
  goes_on_law n s pick taken g h =
      all_on w (met_bottom w) (own_bottom w) (rest_of w) after_rest
      (λ n pick taken g ih place own e. met_on n pick taken g ih (w.look place own) e) n s pick taken g h

  -- ---- from where the own packet is on top

  pub after_open : (more : ℕ) (pick : ℕ → ℕ) (chosen : ℕ) (a c : List E) (b d : List N) (o : Opened P H)
      → option_map (got_after a b) (rest_open w more pick chosen c d o) ≡ rest_open w more pick chosen (a ++ c) (b ++ d) o
  after_open more pick chosen a c b d o = after_map a c b d (own_got (suc more) (open_at o.place o.own) pick chosen)

  none_before : (o : Option (Got E N (Bared P X))) → o ≡ option_map (got_after [] []) o
  none_before None = refl
  none_before (Some g) = refl

  open_on : (pick : ℕ → ℕ) (taken : ℕ) (g : Got E N (Opened P H)) (place : P) (own : H)
      → Some (record { trace = []; sids = []; result = opened_at place own }) ≡ Some g
      → GoesOnBy w open_bottom (own_bottom w) (rest_open w) after_open (own_bottom w place own) pick taken g
  unfolding got_of
  open_on pick taken g place own e =
      record {
        count = 0;
        chosen = taken;
        passes = λ more. let z : 0 + more ≡ more = omega arith in
            ap (λ (k : ℕ). own_got (suc k) (open_at place own) pick taken) z
            ∙ none_before (own_got (suc more) (open_at place own) pick taken)
            ∙ ap (λ (o : Option (Got E N (Opened P H))).
            option_and_then (λ (g : Got E N (Opened P H)). rest_open w more pick taken g.trace g.sids g.result) o) e;
      }

  pub opens_on : (n : ℕ) (s : Tunnelled P H) (pick : ℕ → ℕ) (taken : ℕ) (g : Got E N (Opened P H))
      → got_of w.events (open_move w) n s pick taken ≡ Some g
      → GoesOn w open_bottom (own_bottom w) (rest_open w) after_open s pick taken g
  opens_on n s pick taken g h =
      all_on w open_bottom (own_bottom w) (rest_open w) after_open
      (λ n pick taken g ih place own e. open_on pick taken g place own e) n s pick taken g h

  pub open_joined : (ts : List T) → AreJoined w ts → AllJoined w.events (open_move w) ts
  open_joined ts all = tunnel_joined w open_bottom (λ t place own joined. tt) ts all

  -- a header that walks alone comes to where the own packet is on top
  pub tunnel_opens : (ts : List T) (place : P) (new own : H) (e : End T N P) → tunnel_of w ts place new ≡ Some e
      → EndsWith w.events (open_move w) ts (pushed_at place new own) (end_with [] (opened_at e.result own) e.left)
  unfolding end_of
  tunnel_opens ts place new own e alone =
      behind_from w open_bottom ts place new own (end_with [] (opened_at e.result own) e.left)
      (record { origin = e; alone = alone; on = (1, refl) })

  -- ---- along steps

  abbrev own_end : ℕ → List T → Tunnelled P H → Option (End T N (Bared P X))
  own_end = end_of w.events (own_move w)

  abbrev met_end : ℕ → List T → Tunnelled P H → Option (End T N (Met P H X))
  met_end = end_of w.events (met_move w)

  -- the walk to the first execution, and the rest behind it
  pub record FirstEnd (n : ℕ) (ts : List T) (s : Tunnelled P H) (e : End T N (Bared P X)) : Type 0 where
    pub first : End T N (Met P H X)
    pub gives : met_end n ts s ≡ Some first
    pub rest : RestEnds w first.left first.sids first.result e

  record FirstBy (n : ℕ) (ts : List T) (m : Move L E N (Tunnelled P H) (Met P H X)) (e : End T N (Bared P X)) : Type 0 where
    first : End T N (Met P H X)
    gives : end_by w.events (met_end n) m ts ≡ Some first
    rest : RestEnds w first.left first.sids first.result e

  abbrev LaterFirst : ℕ → Type 0
  LaterFirst n = (ts : List T) (s : Tunnelled P H) (e : End T N (Bared P X)) → own_end n ts s ≡ Some e → FirstEnd n ts s e

  over_first : (n : ℕ) (e : End T N (Bared P X)) → LaterFirst n → (first : L) (rest : List L) (to : L → Option P) (at : P → Tunnelled P H)
      → (ts : List T) → end_by w.events (own_end n) (Fork first rest (arrives to at)) ts ≡ Some e
      → FirstBy n ts (Fork first rest (arrives to at)) e
  over_first n e ih first rest to at [] h = cc
  over_first n e ih first rest to at (t ∷ ts) h =
      let a = if_parts (all_in w.events t (first ∷ rest)) (option_and_then (own_end n ts) (arrives to at first)) e h in
      let b = arrives_parts (own_end n ts) to at first e a.1 in
      let r = ih ts (at b.0) e b.2 in
      record { first = r.first; gives = if_from a.0 (arrives_from (met_end n ts) to at b.1 r.gives); rest = r.rest }

  -- a quiet move notes no SID
  go_first : (n : ℕ) (e : End T N (Bared P X)) → LaterFirst n → (told : List E) (next : Tunnelled P H) (ts : List T)
      → end_by w.events (own_end n) (Go told [] next) ts ≡ Some e → FirstBy n ts (Go told [] next) e
  go_first n e ih told next ts h =
      let a = quiet_parts w.events (own_end n) told next ts e h in
      let r = ih a.0 next e a.2 in
      record { first = r.first; gives = quiet_from w.events (met_end n) told next ts a.0 r.first a.1 r.gives; rest = r.rest }

  own_first : (n : ℕ) (e : End T N (Bared P X)) → LaterFirst n → (look : Look L N P H X) (ts : List T)
      → end_by w.events (own_end n) (own_by w look) ts ≡ Some e → FirstBy n ts (met_by w look) e
  own_first n e ih (Crosses first rest to own) ts h = over_first n e ih first rest to (λ place. open_at place own) ts h
  own_first n e ih (Executes sid place own) ts h =
      let a = map_parts (end_after (sid ∷ [])) (option_and_then (λ us. own_end n us (open_at place own))
      (left_by w.events ts (w.executed sid))) e h in
      let b = then_parts (λ us. own_end n us (open_at place own)) (left_by w.events ts (w.executed sid)) a.0 a.1 in
      record {
        first = end_with (sid ∷ []) (Onward place own) b.0;
        gives = map_from (end_with (sid ∷ []) (Onward place own)) b.1 refl;
        rest = (a.0, (n, b.2), a.2);
      }
  own_first n e ih (Pushes sid place new own) ts h =
      let next = pushed_at place new own in
      let a = map_parts (end_after (sid ∷ [])) (option_and_then (λ us. own_end n us next) (left_by w.events ts (w.executed sid))) e h in
      let b = then_parts (λ us. own_end n us next) (left_by w.events ts (w.executed sid)) a.0 a.1 in
      record {
        first = end_with (sid ∷ []) (Under place new own) b.0;
        gives = map_from (end_with (sid ∷ []) (Under place new own)) b.1 refl;
        rest = (a.0, (n, b.2), a.2);
      }
  own_first n e ih (Exposes sid place inside) ts h =
      let a = map_parts (end_with (sid ∷ []) (bared_at place inside)) (left_by w.events ts (w.executed sid)) e h in
      record {
        first = end_with (sid ∷ []) (Bare place inside) a.0;
        gives = map_from (end_with (sid ∷ []) (Bare place inside)) a.1 refl;
        rest = a.2;
      }
  own_first n e ih Loses ts h = cc

  under_first : (n : ℕ) (e : End T N (Bared P X)) → LaterFirst n → (b : H) (bs : List H) (used : ℕ) (look : Look L N P H X) (ts : List T)
      → end_by w.events (own_end n) (under_by w b bs used look) ts ≡ Some e → FirstBy n ts (under_by w b bs used look) e
  under_first n e ih b bs used (Crosses first rest to head) ts h = over_first n e ih first rest to (tunnel_at head (b ∷ bs) (suc used)) ts h
  under_first n e ih b bs used (Executes sid place head) ts h = go_first n e ih (w.executed sid) _ ts h
  under_first n e ih b bs used (Pushes sid place new head) ts h = go_first n e ih (w.executed sid) _ ts h
  under_first n e ih b bs used (Exposes sid place inside) ts h = go_first n e ih (w.executed sid) _ ts h
  under_first n e ih b bs used Loses ts h = cc

  tunnel_first : (n : ℕ) (e : End T N (Bared P X)) → LaterFirst n → (place : P) (head : H) (used : ℕ) (below : List H) (ts : List T)
      → end_by w.events (own_end n) (tunnel_by w (own_bottom w) place head used below) ts ≡ Some e
      → FirstBy n ts (tunnel_by w (met_bottom w) place head used below) e
  tunnel_first n e ih place head used [] ts h = own_first n e ih (w.look place head) ts h
  tunnel_first n e ih place head used (b ∷ bs) ts h = by_limit (nat_le w.limit used) h
    where
      by_limit : (c : Bool) → end_by w.events (own_end n) (if c then Fail else under_by w b bs used (w.look place head)) ts ≡ Some e
          → FirstBy n ts (if c then Fail else under_by w b bs used (w.look place head)) e
      by_limit true h = cc
      by_limit false h = under_first n e ih b bs used (w.look place head) ts h

  pub first_end : (n : ℕ) (ts : List T) (s : Tunnelled P H) (e : End T N (Bared P X)) → own_end n ts s ≡ Some e → FirstEnd n ts s e
  unfolding end_of
  first_end zero ts s e h = cc
  first_end (suc n) ts s e h =
      let r = tunnel_first n e (λ ts s e g. first_end n ts s e g) s.place s.head s.used s.below ts h in
      record { first = r.first; gives = r.gives; rest = r.rest }
