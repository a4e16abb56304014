-- What holds for all choices is one walk, and the one walk is what each choice comes to.
use Rattle.std.proofs.Common.{◌≡◌, ℕ, zero, suc, ◌+◌, ◌%◌, ◌<◌, ◌≤◌, true, List, [], ◌∷◌, ◌++◌, length, Option, Some, None, refl, sym, ap, ◌∙◌, subst, arith, mod-eq_of_lt}
use Rattle.std.specs.Prelude.{◌↔◌, slice_index}
use Rattle.std.specs.List.{AllByRecursion}
use Rattle.std.specs.Option.{option_map, option_and_then}
use Rattle.std.proofs.lemmas.Option.{same_Some}
use Rattle.binding_spec.specs.Machines.{Events, Move, Fork, Go, Done, Fail, End, is_in, all_in, advance, left_by, end_after, end_with, end_by, end_of}
use Rattle.tunnel_walks_theory.specs.MachinesTerms.{Got, Walking, link_at, link_of, got_after, got_over, got_by, got_of, LeadsOn, Joined, AllJoined}
use Rattle.tunnel_walks_theory.specs.TunnelChoices.{choice_at, Reaches, ForAllRows, ForAllChoices, OneWalk, SameEnd}
use Rattle.tunnel_walks_theory.proofs.TunnelOptions.{then_parts, then_from, map_parts, map_from, if_parts, if_from}
use Rattle.tunnel_walks_theory.proofs.Lefts.{link_passes, links_pass, left_parts, left_from, left_short, left_all}

module _ {L E N T S R : Type 0} (events : Events L E T) (move : S → Move L E N S R) where
  -- ---- more moves change nothing

  got_by_later : (go on : Walking E N S R)
      → ((s : S) (pick : ℕ → ℕ) (taken : ℕ) (g : Got E N R) → go s pick taken ≡ Some g → on s pick taken ≡ Some g)
      → (m : Move L E N S R) (pick : ℕ → ℕ) (taken : ℕ) (g : Got E N R) → got_by events go m pick taken ≡ Some g
      → got_by events on m pick taken ≡ Some g
  got_by_later go on ih (Fork first rest to) pick taken g h =
      let link = link_of first rest (pick taken) in
      let a = map_parts (got_after (events.crossed link ∷ []) []) _ g h in
      let b = then_parts (λ next. go next pick (suc taken)) (to link) a.0 a.1 in
      map_from (got_after (events.crossed link ∷ []) [])
      (then_from (λ next. on next pick (suc taken)) b.1 (ih b.0 pick (suc taken) a.0 b.2)) a.2
  got_by_later go on ih (Go told sids next) pick taken g h =
      let a = map_parts (got_after told sids) (go next pick taken) g h in
      map_from (got_after told sids) (ih next pick taken a.0 a.1) a.2
  got_by_later go on ih (Done told sids result) pick taken g h = h
  got_by_later go on ih Fail pick taken g h = cc

  pub got_later : (f k : ℕ) (s : S) (pick : ℕ → ℕ) (taken : ℕ) (g : Got E N R) → f ≤ k → got_of events move f s pick taken ≡ Some g
      → got_of events move k s pick taken ≡ Some g
  unfolding got_of
  got_later zero k s pick taken g few h = cc
  got_later (suc f) zero s pick taken g few h = absurd (omega arith)
  got_later (suc f) (suc k) s pick taken g few h =
      got_by_later (got_of events move f) (got_of events move k)
      (λ s pick taken g e. got_later f k s pick taken g (omega arith) e) (move s) pick taken g h

  pub got_same : (f k : ℕ) (s : S) (pick : ℕ → ℕ) (taken : ℕ) (a b : Got E N R) → got_of events move f s pick taken ≡ Some a
      → got_of events move k s pick taken ≡ Some b → a ≡ b
  got_same f k s pick taken a b h e =
      same_Some _ _ (sym (got_later f (f + k) s pick taken a (omega arith) h) ∙ got_later k (f + k) s pick taken b (omega arith) e)

  end_by_later : (go on : List T → S → Option (End T N R))
      → ((ts : List T) (s : S) (e : End T N R) → go ts s ≡ Some e → on ts s ≡ Some e)
      → (m : Move L E N S R) (ts : List T) (e : End T N R) → end_by events go m ts ≡ Some e → end_by events on m ts ≡ Some e
  end_by_later go on ih (Fork first rest to) [] e h = cc
  end_by_later go on ih (Fork first rest to) (t ∷ ts) e h =
      let a = if_parts (all_in events t (first ∷ rest)) (option_and_then (go ts) (to first)) e h in
      let b = then_parts (go ts) (to first) e a.1 in
      if_from a.0 (then_from (on ts) b.1 (ih ts b.0 e b.2))
  end_by_later go on ih (Go told sids next) ts e h =
      let a = map_parts (end_after sids) _ e h in
      let b = then_parts (λ us. go us next) (left_by events ts told) a.0 a.1 in
      map_from (end_after sids) (then_from (λ us. on us next) b.1 (ih b.0 next a.0 b.2)) a.2
  end_by_later go on ih (Done told sids result) ts e h = h
  end_by_later go on ih Fail ts e h = cc

  pub end_later : (f k : ℕ) (ts : List T) (s : S) (e : End T N R) → f ≤ k → end_of events move f ts s ≡ Some e
      → end_of events move k ts s ≡ Some e
  unfolding end_of
  end_later zero k ts s e few h = cc
  end_later (suc f) zero ts s e few h = absurd (omega arith)
  end_later (suc f) (suc k) ts s e few h =
      end_by_later (end_of events move f) (end_of events move k) (λ ts s e g. end_later f k ts s e (omega arith) g) (move s) ts e h

  pub end_same : (f k : ℕ) (ts : List T) (s : S) (a b : End T N R) → end_of events move f ts s ≡ Some a
      → end_of events move k ts s ≡ Some b → a ≡ b
  end_same f k ts s a b h e =
      same_Some _ _ (sym (end_later f (f + k) ts s a (omega arith) h) ∙ end_later k (f + k) ts s b (omega arith) e)

  -- ---- from the one walk to each choice

  -- a walk under choices, if it is done, ends as a walk along steps
  pub record Agrees (ts : List T) (o : Option (Got E N R)) (e : End T N R) : Type 0 where
    pub got : Got E N R
    pub gives : o ≡ Some got
    pub along : left_by events ts got.trace ≡ Some e.left
    pub sids : got.sids ≡ e.sids
    pub result : got.result ≡ e.result

  joined_at : (ts : List T) (s : S) → AllJoined events move ts → AllByRecursion (λ t. LeadsOn events t (move s)) ts
  joined_at [] s all = tt
  joined_at (t ∷ ts) s all = (all.0 s, joined_at ts s all.1)

  one_each_by : (more : ℕ) (m : Move L E N S R) (ts : List T) (pick : ℕ → ℕ) (taken : ℕ) (e : End T N R)
      → ((ts : List T) (s : S) (taken : ℕ) (e : End T N R) → AllJoined events move ts → end_of events move more ts s ≡ Some e
      → Agrees ts (got_of events move more s pick taken) e)
      → AllByRecursion (λ t. LeadsOn events t m) ts → AllJoined events move ts → end_by events (end_of events move more) m ts ≡ Some e
      → Agrees ts (got_by events (got_of events move more) m pick taken) e
  one_each_by more (Fork first rest to) [] pick taken e ih here all h = cc
  one_each_by more (Fork first rest to) (t ∷ ts) pick taken e ih here all h =
      let link = link_of first rest (pick taken) in
      let a = if_parts (all_in events t (first ∷ rest)) (option_and_then (end_of events move more ts) (to first)) e h in
      let b = then_parts (end_of events move more ts) (to first) e a.1 in
      let mine : is_in events t link ≡ true = link_passes (is_in events t) first rest (pick taken % suc (length rest)) a.0 in
      let leads : to link ≡ Some b.0 = here.0 link first mine (link_passes (is_in events t) first rest 0 a.0) ∙ b.1 in
      let r = ih ts b.0 (suc taken) e all.1 b.2 in
      record {
        got = got_after (events.crossed link ∷ []) [] r.got;
        gives = map_from (got_after (events.crossed link ∷ []) [])
            (then_from (λ next. got_of events move more next pick (suc taken)) leads r.gives) refl;
        along = then_from (λ us. left_by events us r.got.trace) (if_from mine refl) r.along;
        sids = r.sids;
        result = r.result;
      }
  one_each_by more (Go told sids next) ts pick taken e ih here all h =
      let a = map_parts (end_after sids) _ e h in
      let b = then_parts (λ us. end_of events move more us next) (left_by events ts told) a.0 a.1 in
      let r = ih b.0 next taken a.0 (left_all events (Joined events move) told ts b.0 b.1 all) b.2 in
      record {
        got = got_after told sids r.got;
        gives = map_from (got_after told sids) r.gives refl;
        along = left_from events told r.got.trace ts b.0 e.left b.1 (r.along ∙ ap (λ (x : End T N R). Some x.left) a.2);
        sids = ap (λ xs. sids ++ xs) r.sids ∙ ap (λ (x : End T N R). x.sids) a.2;
        result = r.result ∙ ap (λ (x : End T N R). x.result) a.2;
      }
  one_each_by more (Done told sids result) ts pick taken e ih here all h =
      let a = map_parts (end_with sids result) (left_by events ts told) e h in
      record {
        got = record { trace = told; sids = sids; result = result };
        gives = refl;
        along = a.1 ∙ ap (λ (x : End T N R). Some x.left) a.2;
        sids = ap (λ (x : End T N R). x.sids) a.2;
        result = ap (λ (x : End T N R). x.result) a.2;
      }
  one_each_by more Fail ts pick taken e ih here all h = cc

  pub one_each : (fuel : ℕ) (ts : List T) (s : S) (pick : ℕ → ℕ) (taken : ℕ) (e : End T N R) → AllJoined events move ts
      → end_of events move fuel ts s ≡ Some e → Agrees ts (got_of events move fuel s pick taken) e
  unfolding got_of end_of
  one_each zero ts s pick taken e all h = cc
  one_each (suc more) ts s pick taken e all h =
      one_each_by more (move s) ts pick taken e (λ ts s taken e all h. one_each more ts s pick taken e all h) (joined_at ts s all) all h

  pub one_choices : (ts : List T) (s : S) → AllJoined events move ts → OneWalk events move ts s → ForAllChoices events move ts s
  one_choices ts s all w choices some =
      let r = one_each w.fuel ts s (choice_at choices) 0 w.end all w.gives in
      record { fuel = w.fuel; got = r.got; left = w.end.left; gives = r.gives; along = r.along }

  pub choices_agree : (ts : List T) (s : S) → AllJoined events move ts → (w : OneWalk events move ts s) (pick : ℕ → ℕ)
      → (r : Reaches events move ts s pick) → SameEnd w.end r
  choices_agree ts s all w pick r =
      let a = one_each w.fuel ts s pick 0 w.end all w.gives in
      let same : r.got ≡ a.got = got_same r.fuel w.fuel s pick 0 r.got a.got r.gives a.gives in
      record {
        left = same_Some _ _ (sym r.along ∙ (ap (λ (g : Got E N R). left_by events ts g.trace) same ∙ a.along));
        sids = ap (λ (g : Got E N R). g.sids) same ∙ a.sids;
        result = ap (λ (g : Got E N R). g.result) same ∙ a.result;
      }

  -- ---- the parts of a walk under choices

  record OverParts (go : Walking E N S R) (to : L → Option S) (link : L) (t : T) (ts : List T) (pick : ℕ → ℕ) (taken : ℕ) (got : Got E N R)
      (left : List T) : Type 0 where
    next : S
    leads : to link ≡ Some next
    rest : Got E N R
    gives : go next pick (suc taken) ≡ Some rest
    inside : is_in events t link ≡ true
    along : left_by events ts rest.trace ≡ Some left
    whole : got_after (events.crossed link ∷ []) [] rest ≡ got

  over_parts : (go : Walking E N S R) (to : L → Option S) (link : L) (t : T) (ts : List T) (pick : ℕ → ℕ) (taken : ℕ) (got : Got E N R)
      (left : List T) → got_over events go to link pick taken ≡ Some got → left_by events (t ∷ ts) got.trace ≡ Some left
      → OverParts go to link t ts pick taken got left
  over_parts go to link t ts pick taken got left h along =
      let a = map_parts (got_after (events.crossed link ∷ []) []) _ got h in
      let b = then_parts (λ next. go next pick (suc taken)) (to link) a.0 a.1 in
      let c : left_by events (t ∷ ts) (events.crossed link ∷ a.0.trace) ≡ Some left =
      ap (λ (g : Got E N R). left_by events (t ∷ ts) g.trace) a.2 ∙ along in
      let d = then_parts (λ us. left_by events us a.0.trace) (advance events (t ∷ ts) (events.crossed link)) left c in
      let e = if_parts (is_in events t link) (Some ts) d.0 d.1 in
      record {
        next = b.0;
        leads = b.1;
        rest = a.0;
        gives = b.2;
        inside = e.0;
        along = subst (λ us. left_by events us a.0.trace ≡ Some left) (sym (same_Some _ _ e.1)) d.2;
        whole = a.2;
      }

  -- no link is crossed where no step is left
  over_none : (go : Walking E N S R) (to : L → Option S) (link : L) (pick : ℕ → ℕ) (taken : ℕ) (got : Got E N R) (left : List T)
      → got_over events go to link pick taken ≡ Some got → left_by events [] got.trace ≡ Some left → ⊥
  over_none go to link pick taken got left h along =
      let a = map_parts (got_after (events.crossed link ∷ []) []) _ got h in
      let c : left_by events [] (events.crossed link ∷ a.0.trace) ≡ Some left =
      ap (λ (g : Got E N R). left_by events [] g.trace) a.2 ∙ along in
      none_some left c
    where
      none_some : (left : List T) → None ≡ Some left → ⊥
      none_some left h = cc

  record GoParts (go : Walking E N S R) (told : List E) (sids : List N) (next : S) (ts : List T) (pick : ℕ → ℕ) (taken : ℕ)
      (got : Got E N R)
      (left : List T) : Type 0 where
    rest : Got E N R
    gives : go next pick taken ≡ Some rest
    later : List T
    first : left_by events ts told ≡ Some later
    along : left_by events later rest.trace ≡ Some left
    whole : got_after told sids rest ≡ got

  go_parts : (go : Walking E N S R) (told : List E) (sids : List N) (next : S) (ts : List T) (pick : ℕ → ℕ) (taken : ℕ) (got : Got E N R)
      (left : List T) → option_map (got_after told sids) (go next pick taken) ≡ Some got → left_by events ts got.trace ≡ Some left
      → GoParts go told sids next ts pick taken got left
  go_parts go told sids next ts pick taken got left h along =
      let a = map_parts (got_after told sids) (go next pick taken) got h in
      let c : left_by events ts (told ++ a.0.trace) ≡ Some left = ap (λ (g : Got E N R). left_by events ts g.trace) a.2 ∙ along in
      let d = left_parts events told a.0.trace ts left c in
      record { rest = a.0; gives = a.1; later = d.0; first = d.1; along = d.2; whole = a.2 }

  -- ---- rows that agree for as many decisions as there are steps give the same walk

  -- two rows agree for so many choices, each from a place of its own
  abbrev pub RowsAgree : ℕ → (ℕ → ℕ) → (ℕ → ℕ) → ℕ → ℕ → Type 0
  RowsAgree count pick qick a b = (d : ℕ) → d < count → pick (a + d) ≡ qick (b + d)

  rows_first : (count : ℕ) (pick qick : ℕ → ℕ) (a b : ℕ) → RowsAgree (suc count) pick qick a b → pick a ≡ qick b
  rows_first count pick qick a b same = ap pick (omega arith) ∙ (same 0 (omega arith) ∙ ap qick (omega arith))

  rows_later : (count : ℕ) (pick qick : ℕ → ℕ) (a b : ℕ) → RowsAgree (suc count) pick qick a b → RowsAgree count pick qick (suc a) (suc b)
  rows_later count pick qick a b same d few = ap pick (omega arith) ∙ (same (suc d) (omega arith) ∙ ap qick (omega arith))

  rows_agree_by : (go : Walking E N S R) (m : Move L E N S R) (ts : List T) (pick qick : ℕ → ℕ) (a b : ℕ) (got : Got E N R) (left : List T)
      → ((ts : List T) (s : S) (a b : ℕ) (got : Got E N R) (left : List T) → RowsAgree (length ts) pick qick a b → go s pick a ≡ Some got
      → left_by events ts got.trace ≡ Some left → go s qick b ≡ Some got)
      → RowsAgree (length ts) pick qick a b → got_by events go m pick a ≡ Some got → left_by events ts got.trace ≡ Some left
      → got_by events go m qick b ≡ Some got
  rows_agree_by go (Fork first rest to) [] pick qick a b got left ih same h along =
      absurd (over_none go to (link_of first rest (pick a)) pick a got left h along)
  rows_agree_by go (Fork first rest to) (t ∷ ts) pick qick a b got left ih same h along =
      let p = over_parts go to (link_of first rest (pick a)) t ts pick a got left h along in
      let r = ih ts p.next (suc a) (suc b) p.rest left (rows_later (length ts) pick qick a b same) p.gives p.along in
      subst (λ (c : ℕ). got_over events go to (link_of first rest c) qick b ≡ Some got) (rows_first (length ts) pick qick a b same)
      (map_from (got_after (events.crossed (link_of first rest (pick a)) ∷ []) [])
      (then_from (λ next. go next qick (suc b)) p.leads r) p.whole)
  rows_agree_by go (Go told sids next) ts pick qick a b got left ih same h along =
      let p = go_parts go told sids next ts pick a got left h along in
      let fewer : length p.later ≤ length ts = left_short events told ts p.later p.first in
      map_from (got_after told sids) (ih p.later next a b p.rest left (λ d few. same d (omega (arith, few, fewer))) p.gives p.along) p.whole
  rows_agree_by go (Done told sids result) ts pick qick a b got left ih same h along = h
  rows_agree_by go Fail ts pick qick a b got left ih same h along = cc

  pub rows_agree : (fuel : ℕ) (ts : List T) (s : S) (pick qick : ℕ → ℕ) (a b : ℕ) (got : Got E N R) (left : List T)
      → RowsAgree (length ts) pick qick a b → got_of events move fuel s pick a ≡ Some got → left_by events ts got.trace ≡ Some left
      → got_of events move fuel s qick b ≡ Some got
  unfolding got_of
  rows_agree zero ts s pick qick a b got left same h along = cc
  rows_agree (suc more) ts s pick qick a b got left same h along =
      rows_agree_by (got_of events move more) (move s) ts pick qick a b got left
      (λ ts s a b got left same h along. rows_agree more ts s pick qick a b got left same h along) same h along

  -- so many choices of a row, from one of them on
  abbrev row_from : (ℕ → ℕ) → ℕ → ℕ → List ℕ
  row_from pick i zero = []
  row_from pick i (suc n) = pick i ∷ row_from pick (suc i) n

  length_row : (pick : ℕ → ℕ) (i n : ℕ) → length (row_from pick i n) ≡ n
  length_row pick i zero = refl
  length_row pick i (suc n) = ap suc (length_row pick (suc i) n)

  row_at : (pick : ℕ → ℕ) (i n k : ℕ) → k < n → slice_index (row_from pick i n) k ≡ pick (i + k)
  row_at pick i zero k h = absurd (omega arith)
  row_at pick i (suc n) zero h = ap pick (omega arith)
  row_at pick i (suc n) (suc k) h = row_at pick (suc i) n k (omega arith) ∙ ap pick (omega arith)

  row_agrees : (pick : ℕ → ℕ) (n d : ℕ) → d < n → choice_at (row_from pick 0 n) (0 + d) ≡ pick (0 + d)
  row_agrees pick n d h =
      let len = length_row pick 0 n in
      let z : 0 + d ≡ d = omega arith in
      rw (z, len, mod-eq_of_lt h, row_at pick 0 n d h) (ap pick z)

  lists_rows : (ts : List T) (s : S) → ForAllChoices events move ts s → ForAllRows events move ts s
  lists_rows ts s all pick =
      let count = suc (length ts) in
      let row = row_from pick 0 count in
      let r = all row (omega (arith, length_row pick 0 count)) in
      record {
        fuel = r.fuel;
        got = r.got;
        left = r.left;
        gives = rows_agree r.fuel ts s (choice_at row) pick 0 0 r.got r.left
            (λ d few. row_agrees pick count d (omega arith)) r.gives r.along;
        along = r.along;
      }

  pub choices_rows : (ts : List T) (s : S) → ForAllChoices events move ts s ↔ ForAllRows events move ts s
  choices_rows ts s = (lists_rows ts s, λ all choices some. all (choice_at choices))

  -- ---- from all choices to the one walk

  -- what the rows give of a move
  record ReachesBy (m : Move L E N S R) (ts : List T) (pick : ℕ → ℕ) : Type 0 where
    fuel : ℕ
    got : Got E N R
    left : List T
    gives : got_by events (got_of events move fuel) m pick 0 ≡ Some got
    along : left_by events ts got.trace ≡ Some left

  reached : (ts : List T) (s : S) (pick : ℕ → ℕ) (fuel : ℕ) (got : Got E N R) (left : List T) → got_of events move fuel s pick 0 ≡ Some got
      → left_by events ts got.trace ≡ Some left → ReachesBy (move s) ts pick
  unfolding got_of
  reached ts s pick zero got left h along = cc
  reached ts s pick (suc more) got left h along = record { fuel = more; got = got; left = left; gives = h; along = along }

  abbrev then_row : ℕ → (ℕ → ℕ) → ℕ → ℕ
  then_row x pick zero = x
  then_row x pick (suc d) = pick d

  then_row_later : (x : ℕ) (pick : ℕ → ℕ) (d : ℕ) → then_row x pick (1 + d) ≡ pick (0 + d)
  then_row_later x pick d =
      let e : 1 + d ≡ suc d = omega arith in
      let f : 0 + d ≡ d = omega arith in
      rw (e, f) refl

  zeros : ℕ → ℕ
  zeros d = 0

  abbrev WalkBy : Move L E N S R → List T → Type 0
  WalkBy m ts = (fuel : ℕ) × (end : End T N R) × (end_by events (end_of events move fuel) m ts ≡ Some end)

  first_link : (first : L) (rest : List L) → link_of first rest 0 ≡ first
  first_link first rest =
      let z : 0 % suc (length rest) ≡ 0 = mod-eq_of_lt (omega arith) in
      ap (link_at first rest) z

  down_by : (more : ℕ) (m : Move L E N S R) (ts : List T) (got : Got E N R) (left : List T)
      → ((ts : List T) (s : S) (got : Got E N R) (left : List T) → got_of events move more s zeros 0 ≡ Some got
      → left_by events ts got.trace ≡ Some left → ForAllRows events move ts s → OneWalk events move ts s)
      → got_by events (got_of events move more) m zeros 0 ≡ Some got → left_by events ts got.trace ≡ Some left
      → ((pick : ℕ → ℕ) → ReachesBy m ts pick) → WalkBy m ts
  unfolding zeros
  down_by more (Fork first rest to) [] got left ih h along rows =
      absurd (over_none (got_of events move more) to (link_of first rest 0) zeros 0 got left h along)
  down_by more (Fork first rest to) (t ∷ ts) got left ih h along rows =
      let p = over_parts (got_of events move more) to (link_of first rest 0) t ts zeros 0 got left h along in
      let leads : to first ≡ Some p.next = ap to (sym (first_link first rest)) ∙ p.leads in
      let later = rows_agree more ts p.next zeros zeros 1 0 p.rest left (λ d few. refl) p.gives p.along in
      let each : (n : ℕ) → n ≤ length rest → is_in events t (link_at first rest n) ≡ true = λ n few.
      let r = rows (λ _. n) in
      let q = over_parts (got_of events move r.fuel) to (link_of first rest n) t ts (λ _. n) 0 r.got r.left r.gives r.along in
      let m : n % suc (length rest) ≡ n = mod-eq_of_lt (omega arith) in
      subst (λ (k : ℕ). is_in events t (link_at first rest k) ≡ true) m q.inside in
      let on : ForAllRows events move ts p.next = λ pick.
      let r = rows (then_row 0 pick) in
      let q = over_parts (got_of events move r.fuel) to (link_of first rest 0) t ts (then_row 0 pick) 0 r.got r.left r.gives r.along in
      let same : q.next ≡ p.next = same_Some _ _ (sym q.leads ∙ p.leads) in
      let gives = rows_agree r.fuel ts q.next (then_row 0 pick) pick 1 0 q.rest r.left (λ d few. then_row_later 0 pick d) q.gives q.along in
      record {
        fuel = r.fuel;
        got = q.rest;
        left = r.left;
        gives = subst (λ (s : S). got_of events move r.fuel s pick 0 ≡ Some q.rest) same gives;
        along = q.along;
      } in
      let w = ih ts p.next p.rest left later p.along on in
      (w.fuel, w.end, if_from (links_pass (is_in events t) first rest each) (then_from (end_of events move w.fuel ts) leads w.gives))
  down_by more (Go told sids next) ts got left ih h along rows =
      let p = go_parts (got_of events move more) told sids next ts zeros 0 got left h along in
      let on : ForAllRows events move p.later next = λ pick.
      let r = rows pick in
      let q = go_parts (got_of events move r.fuel) told sids next ts pick 0 r.got r.left r.gives r.along in
      let same : q.later ≡ p.later = same_Some _ _ (sym q.first ∙ p.first) in
      record {
        fuel = r.fuel;
        got = q.rest;
        left = r.left;
        gives = q.gives;
        along = subst (λ us. left_by events us q.rest.trace ≡ Some r.left) same q.along;
      } in
      let w = ih p.later next p.rest left p.gives p.along on in
      (w.fuel, end_after sids w.end, map_from (end_after sids) (then_from (λ us. end_of events move w.fuel us next) p.first w.gives) refl)
  down_by more (Done told sids result) ts got left ih h along rows =
      let same : told ≡ got.trace = ap (λ (g : Got E N R). g.trace) (same_Some _ _ h) in
      (0, end_with sids result left, map_from (end_with sids result) (ap (left_by events ts) same ∙ along) refl)
  down_by more Fail ts got left ih h along rows = cc

  down : (fuel : ℕ) (ts : List T) (s : S) (got : Got E N R) (left : List T) → got_of events move fuel s zeros 0 ≡ Some got
      → left_by events ts got.trace ≡ Some left → ForAllRows events move ts s → OneWalk events move ts s
  unfolding got_of end_of
  down zero ts s got left h along rows = cc
  down (suc more) ts s got left h along rows =
      let w = down_by more (move s) ts got left (λ ts s got left h along rows. down more ts s got left h along rows) h along
      (λ pick. let r = rows pick in reached ts s pick r.fuel r.got r.left r.gives r.along) in
      record { fuel = suc w.0; end = w.1; gives = w.2 }

  pub choices_one : (ts : List T) (s : S) → ForAllChoices events move ts s → OneWalk events move ts s
  choices_one ts s all =
      let rows = lists_rows ts s all in
      let r = rows zeros in
      down r.fuel ts s r.got r.left r.gives r.along rows
