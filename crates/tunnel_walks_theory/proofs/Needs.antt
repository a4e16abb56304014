-- Packets that differ in their hop limit alone are handed over at just the hop limits above a number.
use Rattle.std.proofs.Common.{◌≡◌, ℕ, zero, suc, ◌-◌, ◌<◌, ◌≤◌, nat_le, Bool, true, false, if◌then◌else◌, List, [], ◌∷◌, Option, Some, None, refl, sym, ap, ◌∙◌, subst, arith}
use Rattle.std.specs.Prelude.{◌↔◌}
use Rattle.std.specs.Option.{option_and_then}
use Rattle.std.proofs.lemmas.Bool.{leb-false, lt-leb}
use Rattle.std.proofs.lemmas.Option.{same_Some}
use Rattle.binding_spec.specs.Machines.{Go, End, all_in, left_by, end_after, end_by, end_of}
use Rattle.tunnel_walks_theory.specs.TunnelChoices.{EndsWith}
use Rattle.binding_spec.specs.TunnelPackets.{World, Look, Crosses, Executes, Pushes, Loses, arrives}
use Rattle.tunnel_walks_theory.specs.TunnelPacketsTerms.{Tunnelled, open_at, pushed_at, AreJoined, Bared, own_by, own_bottom, own_move}
use Rattle.tunnel_walks_theory.specs.TunnelLegs.{Path, AlwaysHands, HasPath}
use Rattle.tunnel_walks_theory.specs.HopNeeds.{Kind, Crossing, Executing, Pushing, Exposing, Losing, look_lowered, look_of, Forms}
use Rattle.tunnel_walks_theory.proofs.TunnelOptions.{then_parts, then_from, map_parts, map_from, if_parts, if_from, arrives_parts, arrives_from}
use Rattle.tunnel_walks_theory.proofs.TunnelWalks.{end_same}
use Rattle.tunnel_walks_theory.proofs.Tunnels.{behind_fewer, behind_parts, behind_from}
use Rattle.tunnel_walks_theory.proofs.TunnelPaths.{hands_one, one_hands, path_up, path_end}

module _ {L E T N P H X F : Type 0} (w : World L E T N P H X) (forms : Forms w F) where
  abbrev own_end : ℕ → List T → Tunnelled P H → Option (End T N (Bared P X))
  own_end = end_of w.events (own_move w)

  abbrev End1 : Type 0
  End1 = End T N (Bared P X)

  -- a look ends so
  abbrev OwnBy : List T → Look L N P H X → End1 → Type 0
  OwnBy ts look e = (fuel : ℕ) × (end_by w.events (own_end fuel) (own_by w look) ts ≡ Some e)

  abbrev OwnEnds : List T → P → F → ℕ → End1 → Type 0
  OwnEnds ts place form hop e = EndsWith w.events (own_move w) ts (open_at place (forms.packet form hop)) e

  -- it ends so at just the hop limits above a number
  record NeedFor (Q : ℕ → End1 → Type 0) (e : End1) : Type 0 where
    least : ℕ
    over : (other : ℕ) → least < other → Q other e
    not_under : (other : ℕ) (x : End1) → 0 < other → Q other x → least < other

  -- ---- a hop limit that is lowered

  record Lowered (lower : Bool) (look : ℕ → Look L N P H X) (ts : List T) (hop k : ℕ) (e : End1) : Type 0 where
    left : ℕ
    some : 0 < left
    ends : end_by w.events (own_end k) (own_by w (look left)) ts ≡ Some e

  low_parts : (c : Bool) (look : Look L N P H X) (ts : List T) (k : ℕ) (e : End1)
      → end_by w.events (own_end k) (own_by w (if c then Loses else look)) ts ≡ Some e
      → (c ≡ false) × (end_by w.events (own_end k) (own_by w look) ts ≡ Some e)
  low_parts true look ts k e h = cc
  low_parts false look ts k e h = (refl, h)

  lowered_parts : (lower : Bool) (look : ℕ → Look L N P H X) (ts : List T) (hop k : ℕ) (e : End1) → 0 < hop
      → end_by w.events (own_end k) (own_by w (look_lowered lower look hop)) ts ≡ Some e → Lowered lower look ts hop k e
  lowered_parts true look ts hop k e some h =
      let a = low_parts (nat_le hop 1) (look (hop - 1)) ts k e h in
      let high : 1 < hop = leb-false _ _ a.0 in
      record { left = hop - 1; some = omega (arith, high); ends = a.1 }
  lowered_parts false look ts hop k e some h = record { left = hop; some = some; ends = h }

  lowered_need : (lower : Bool) (look : ℕ → Look L N P H X) (ts : List T) (e : End1) → NeedFor (λ n x. OwnBy ts (look n) x) e
      → NeedFor (λ n x. OwnBy ts (look_lowered lower look n) x) e
  lowered_need true look ts e need =
      record {
        least = suc need.least;
        over = λ other high.
            let off : nat_le other 1 ≡ false = lt-leb _ _ (omega (arith, high)) in
            let r = need.over (other - 1) (omega (arith, high)) in
            (r.0, subst (λ c. end_by w.events (own_end r.0) (own_by w (if c then Loses else look (other - 1))) ts ≡ Some e) (sym off) r.1);
        not_under = λ other x some on.
            let a = low_parts (nat_le other 1) (look (other - 1)) ts on.0 x on.1 in
            let high : 1 < other = leb-false _ _ a.0 in
            let less : need.least < other - 1 = need.not_under (other - 1) x (omega (arith, high)) (on.0, a.1) in
            omega (arith, less);
      }
  lowered_need false look ts e need = need

  -- ---- an execution, after which the packet stays

  record GoParts (next : Tunnelled P H) (sid : N) (ts : List T) (k : ℕ) (e : End1) : Type 0 where
    later : List T
    first : left_by w.events ts (w.executed sid) ≡ Some later
    rest : End1
    ends : own_end k later next ≡ Some rest
    whole : end_after (sid ∷ []) rest ≡ e

  go_parts : (next : Tunnelled P H) (sid : N) (ts : List T) (k : ℕ) (e : End1)
      → end_by w.events (own_end k) (Go (w.executed sid) (sid ∷ []) next) ts ≡ Some e → GoParts next sid ts k e
  go_parts next sid ts k e h =
      let a = map_parts (end_after (sid ∷ [])) (option_and_then (λ us. own_end k us next) (left_by w.events ts (w.executed sid))) e h in
      let b = then_parts (λ us. own_end k us next) (left_by w.events ts (w.executed sid)) a.0 a.1 in
      record { later = b.0; first = b.1; rest = a.0; ends = b.2; whole = a.2 }

  -- what is so of the state behind it is so of the move to it
  go_need : (at : ℕ → Tunnelled P H) (sid : N) (ts later : List T) (e rest : End1) → left_by w.events ts (w.executed sid) ≡ Some later
      → end_after (sid ∷ []) rest ≡ e → (Q : ℕ → End1 → Type 0) → NeedFor Q rest
      → ((i : ℕ) (x : End1) → Q i x → EndsWith w.events (own_move w) later (at i) x)
      → ((i : ℕ) (x : End1) → EndsWith w.events (own_move w) later (at i) x → Q i x)
      → NeedFor (λ i x. (fuel : ℕ) × (end_by w.events (own_end fuel) (Go (w.executed sid) (sid ∷ []) (at i)) ts ≡ Some x)) e
  go_need at sid ts later e rest first whole Q need to from =
      record {
        least = need.least;
        over = λ other high.
            let r = to other rest (need.over other high) in
            (r.0, map_from (end_after (sid ∷ [])) (then_from (λ us. own_end r.0 us (at other)) first r.1) whole);
        not_under = λ other x more on.
            let p = go_parts (at other) sid ts on.0 x on.1 in
            let same : p.later ≡ later = same_Some _ _ (sym p.first ∙ first) in
            need.not_under other p.rest more
            (from other p.rest (on.0, subst (λ us. own_end on.0 us (at other) ≡ Some p.rest) same p.ends));
      }

  -- ---- the need behind each kind of look

  abbrev need_look : List T → Kind L N P H F X → ℕ → End1 → Type 0
  need_look ts kind hop x = OwnBy ts (look_of forms.packet kind hop) x

  abbrev Needs : ℕ → Type 0
  Needs n =
      (k : ℕ) → k ≤ n → (ts : List T) (place : P) (form : F) (hop : ℕ) (e : End1) → 0 < hop
      → own_end k ts (open_at place (forms.packet form hop)) ≡ Some e → NeedFor (OwnEnds ts place form) e

  need_by : (n k : ℕ) (kind : Kind L N P H F X) (ts : List T) (hop : ℕ) (e : End1) → k ≤ n → Needs n → 0 < hop
      → end_by w.events (own_end k) (own_by w (look_of forms.packet kind hop)) ts ≡ Some e → NeedFor (need_look ts kind) e
  need_by n k (Crossing lower first rest to form) [] hop e few ih some h =
      let look : ℕ → Look L N P H X = λ i. Crosses first rest to (forms.packet form i) in
      let low = lowered_parts lower look [] hop k e some h in
      absurd (none low.ends)
    where
      none : None ≡ Some e → ⊥
      none g = cc
  need_by n k (Crossing lower first rest to form) (t ∷ ts) hop e few ih some h =
      let look : ℕ → Look L N P H X = λ i. Crosses first rest to (forms.packet form i) in
      let at : ℕ → P → Tunnelled P H = λ i place. open_at place (forms.packet form i) in
      let low = lowered_parts lower look (t ∷ ts) hop k e some h in
      let a = if_parts (all_in w.events t (first ∷ rest)) (option_and_then (own_end k ts) (arrives to (at low.left) first)) e low.ends in
      let b = arrives_parts (own_end k ts) to (at low.left) first e a.1 in
      let need = ih k few ts b.0 form low.left e low.some b.2 in
      lowered_need lower look (t ∷ ts) e
      (record {
        least = need.least;
        over = λ other high.
            let r = need.over other high in
            (r.0, if_from a.0 (arrives_from (own_end r.0 ts) to (at other) b.1 r.1));
        not_under = λ other x more on.
            let c = if_parts (all_in w.events t (first ∷ rest)) (option_and_then (own_end on.0 ts) (arrives to (at other) first)) x on.1 in
            let d = arrives_parts (own_end on.0 ts) to (at other) first x c.1 in
            let same : d.0 ≡ b.0 = same_Some _ _ (sym d.1 ∙ b.1) in
            need.not_under other x more (on.0, subst (λ (p : P). own_end on.0 ts (at other p) ≡ Some x) same d.2);
      })
  need_by n k (Executing lower sid place form) ts hop e few ih some h =
      let look : ℕ → Look L N P H X = λ i. Executes sid place (forms.packet form i) in
      let at : ℕ → Tunnelled P H = λ i. open_at place (forms.packet form i) in
      let low = lowered_parts lower look ts hop k e some h in
      let p = go_parts (at low.left) sid ts k e low.ends in
      let need = ih k few p.later place form low.left p.rest low.some p.ends in
      lowered_need lower look ts e (go_need at sid ts p.later e p.rest p.first p.whole (λ i x. OwnEnds p.later place form i x) need
      (λ i x on. on) (λ i x on. on))
  need_by n k (Pushing lower sid place new form) ts hop e few ih some h =
      let look : ℕ → Look L N P H X = λ i. Pushes sid place new (forms.packet form i) in
      let at : ℕ → Tunnelled P H = λ i. pushed_at place new (forms.packet form i) in
      let low = lowered_parts lower look ts hop k e some h in
      let p = go_parts (at low.left) sid ts k e low.ends in
      let s = behind_fewer w (own_bottom w) k p.later place new (forms.packet form low.left) p.rest p.ends in
      let need = ih s.m (omega (arith, few, s.fewer)) s.origin.left s.origin.result form low.left p.rest low.some s.on in
      lowered_need lower look ts e
      (go_need at sid ts p.later e p.rest p.first p.whole (λ i x. OwnEnds s.origin.left s.origin.result form i x) need
      (λ i x on. behind_from w (own_bottom w) p.later place new (forms.packet form i) x
      (record { origin = s.origin; alone = s.alone; on = on }))
      (λ i x on. let b = behind_parts w (own_bottom w) p.later place new (forms.packet form i) x on in
      let same : b.origin ≡ s.origin = same_Some _ _ (sym b.alone ∙ s.alone) in
      subst (λ (y : End T N P). OwnEnds y.left y.result form i x) same b.on))
  need_by n k (Exposing sid place inside) ts hop e few ih some h =
      record { least = 0; over = λ other high. (k, h); not_under = λ other x more on. more }
  need_by n k Losing ts hop e few ih some h = cc

  need_of : (n : ℕ) → Needs n
  unfolding end_of
  need_of n zero few ts place form hop e some h = cc
  need_of zero (suc k) few ts place form hop e some h = absurd (omega arith)
  need_of (suc n) (suc k) few ts place form hop e some h =
      let kind = forms.kind place form in
      let shown = forms.shows place form hop some in
      let need = need_by n k kind ts hop e (omega arith)
      (λ k few ts place form hop e some h. need_of n k few ts place form hop e some h) some
      (subst (λ look. end_by w.events (own_end k) (own_by w look) ts ≡ Some e) shown h) in
      record {
        least = need.least;
        over = λ other high.
            let r = need.over other high in (
              suc r.0,
              subst (λ look. end_by w.events (own_end r.0) (own_by w look) ts ≡ Some e)
                  (sym (forms.shows place form other (omega (arith, high)))) r.1,
            );
        not_under = λ other x more on. back ts place form other x more need.least need.not_under on.0 on.1;
      }
    where
      back : (ts : List T) (place : P) (form : F) (other : ℕ) (x : End1) → 0 < other → (least : ℕ)
          → ((other : ℕ) (x : End1) → 0 < other → need_look ts (forms.kind place form) other x → least < other) → (fuel : ℕ)
          → own_end fuel ts (open_at place (forms.packet form other)) ≡ Some x → least < other
      back ts place form other x more least under zero g = cc
      back ts place form other x more least under (suc fuel) g =
          under other x more
          (fuel, subst (λ look. end_by w.events (own_end fuel) (own_by w look) ts ≡ Some x) (forms.shows place form other more) g)

  -- ---- for all choices

  pub need : (ts : List T) (place : P) (form : F) (hop : ℕ) → AreJoined w ts → 0 < hop → AlwaysHands w ts place (forms.packet form hop)
      → (n : ℕ) × ((other : ℕ) → 0 < other → (n < other) ↔ AlwaysHands w ts place (forms.packet form other))
  need ts place form hop joined some all =
      let h = hands_one w ts place (forms.packet form hop) joined all in
      let need = need_of h.one.fuel h.one.fuel (omega arith) ts place form hop h.one.end some h.one.gives in (
        need.least,
        λ other more. (
          λ high. let r = need.over other high in
              one_hands w ts place (forms.packet form other) joined
              (record { one = record { fuel = r.0; end = h.one.end; gives = r.1 }; none = h.none }),
          λ hands. let g = hands_one w ts place (forms.packet form other) joined hands in
              need.not_under other g.one.end more (g.one.fuel, g.one.gives),
        ),
      )

  pub need_path : (ts : List T) (place : P) (form : F) (hop other : ℕ) (one two : Path N P X) → 0 < hop → 0 < other
      → HasPath w ts place (forms.packet form hop) one → HasPath w ts place (forms.packet form other) two → one ≡ two
  need_path ts place form hop other one two some more first second =
      let a = path_up w first.0 ts place (forms.packet form hop) one first.1 in
      let b = path_up w second.0 ts place (forms.packet form other) two second.1 in
      let need = need_of a.0 a.0 (omega arith) ts place form hop (path_end w one) some a.1 in
      let high = need.not_under other (path_end w two) more b in
      let c = need.over other high in
      let same : path_end w one ≡ path_end w two =
      end_same w.events (own_move w) c.0 b.0 ts (open_at place (forms.packet form other)) (path_end w one) (path_end w two) c.1 b.1 in
      ap path_of same
    where
      path_of : End1 → Path N P X
      path_of e = record { sids = e.sids; bared = e.result }
