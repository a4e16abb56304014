-- The states that wait: the first of them is settled, and an entry is lowered.
use Rattle.std.proofs.Common.{◌≡◌, ℕ, zero, suc, ◌+◌, ◌<◌, ◌⊎◌, inl, inr, Bool, true, false, ◌==◌, ◌&&◌, cond, List, [], ◌∷◌, length, set, Option, Some, None, refl, sym, ◌∙◌, ap, subst, arith, get_or-set_same, get_or-set_other}
use Rattle.std.specs.Prelude.{MatchOption, IsSome, replicate}
use Rattle.std.specs.declared.cmp.Ordering.{Ordering}
use Rattle.std.specs.declared.cmp.Ordering.TheVariants.{Less, Equal, Greater}
use Rattle.std.specs.Ordering.{nat_cmp, ordering_then, is_eq, is_gt}
use Rattle.std.specs.BTreeSet.{BTreeSet}
use Rattle.std.specs.BTreeSet as tree
use Rattle.std.proofs.lemmas.Bool.{cases_Bool, cases_eq, both_ways, and_parts, and_from, eqb-true, eq-eqb}
use Rattle.std.proofs.lemmas.Bool.Decides.{nat_tests}
use Rattle.std.proofs.lemmas.List.{length-set, length-replicate}
use Rattle.std.proofs.lemmas.Map.Keys.{le_from_not_gt}
use Rattle.std.proofs.lemmas.Option.{none-some}
use Rattle.list_pack.specs.declared.types.Cost.{Cost}
use Rattle.list_pack.specs.Costs.{AtMost, Under}
use Rattle.list_pack.specs.CostsTerms.{nothing}
use Rattle.list_pack.proofs.PublicLaws.{under_itself, under_trans}
use Rattle.list_encoder.specs.declared.waiting.Waiting.{Waiting}
use Rattle.list_encoder.specs.CellTable.{Costs, at, Improves}
use Rattle.list_encoder.specs.Waiting.{waiting_cmp, waiting_at, cost_of, Waits, is_done, IsOpen, IsFront, AreBefore, IsLoweredAt}
use Rattle.list_encoder.proofs.SearchCelling.{some_same}

-- ---- the order

then_is_eq : (o p : Ordering) → is_eq (ordering_then o p) ≡ (is_eq o && is_eq p)
then_is_eq Less p = refl
then_is_eq Equal p = refl
then_is_eq Greater p = refl

number_is_eq : (m n : ℕ) → is_eq (nat_cmp m n) ≡ (m == n)
number_is_eq m n = grind (arith, nat_tests)

number_then : (m n : ℕ) (p : Ordering) (b : Bool) → is_eq p ≡ b → is_eq (ordering_then (nat_cmp m n) p) ≡ ((m == n) && b)
number_then m n p b h =
    then_is_eq (nat_cmp m n) p ∙ (ap (λ x. x && is_eq p) (number_is_eq m n) ∙ ap (λ x. (m == n) && x) h)

-- the order behind containers, and behind SIDs
abbrev behind_sids : Waiting → Waiting → Ordering
behind_sids k q = ordering_then (nat_cmp k.hops q.hops) (nat_cmp k.place q.place)

abbrev behind_containers : Waiting → Waiting → Ordering
behind_containers k q = ordering_then (nat_cmp k.sids q.sids) (behind_sids k q)

abbrev same_behind : Waiting → Waiting → Bool
same_behind k q = (k.sids == q.sids) && ((k.hops == q.hops) && (k.place == q.place))

waiting_is : (k q : Waiting) → is_eq (waiting_cmp k q) ≡ ((k.containers == q.containers) && same_behind k q)
waiting_is k q =
    number_then k.containers q.containers (behind_containers k q) (same_behind k q)
    (number_then k.sids q.sids (behind_sids k q) ((k.hops == q.hops) && (k.place == q.place))
    (number_then k.hops q.hops (nat_cmp k.place q.place) (k.place == q.place) (number_is_eq k.place q.place)))

waiting_same : (k q : Waiting) → is_eq (waiting_cmp k q) ≡ true → k ≡ q
waiting_same k q is =
    let parts = and_parts (k.containers == q.containers) (same_behind k q) (sym (waiting_is k q) ∙ is) in
    let rest = and_parts (k.sids == q.sids) ((k.hops == q.hops) && (k.place == q.place)) parts.1 in
    let more = and_parts (k.hops == q.hops) (k.place == q.place) rest.1 in
    let containers : k.containers ≡ q.containers = eqb-true k.containers q.containers parts.0 in
    let sids : k.sids ≡ q.sids = eqb-true k.sids q.sids rest.0 in
    let hops : k.hops ≡ q.hops = eqb-true k.hops q.hops more.0 in
    let place : k.place ≡ q.place = eqb-true k.place q.place more.1 in
    λ i. record { containers = containers i; sids = sids i; hops = hops i; place = place i }

waiting_itself : (k q : Waiting) → k ≡ q → is_eq (waiting_cmp k q) ≡ true
waiting_itself k q same =
    waiting_is k q
    ∙ and_from (k.containers == q.containers) (same_behind k q)
    (eq-eqb k.containers q.containers (ap (λ (w : Waiting). w.containers) same))
    (and_from (k.sids == q.sids) ((k.hops == q.hops) && (k.place == q.place))
    (eq-eqb k.sids q.sids (ap (λ (w : Waiting). w.sids) same))
    (and_from (k.hops == q.hops) (k.place == q.place) (eq-eqb k.hops q.hops (ap (λ (w : Waiting). w.hops) same))
    (eq-eqb k.place q.place (ap (λ (w : Waiting). w.place) same))))

then_not_gt : (o p : Ordering) → is_gt (ordering_then o p) ≡ false → (is_gt o ≡ false) × (is_eq o ≡ true → is_gt p ≡ false)
then_not_gt Less p h = (refl, λ e. cc)
then_not_gt Equal p h = (refl, λ e. h)
then_not_gt Greater p h = cc

-- the order of the queue is by costs first
not_above : (k q : Waiting) → is_gt (waiting_cmp k q) ≡ false → AtMost (cost_of k) (cost_of q)
not_above k q h =
    let parts = then_not_gt (nat_cmp k.containers q.containers) (behind_containers k q) h in
    let rest = λ (e : k.containers ≡ q.containers). then_not_gt (nat_cmp k.sids q.sids) (behind_sids k q)
    (parts.1 (number_is_eq k.containers q.containers ∙ eq-eqb k.containers q.containers e)) in
    record {
      containers = le_from_not_gt k.containers q.containers parts.0;
      sids = λ e. le_from_not_gt k.sids q.sids (rest e).0;
      hops = λ e f.
          let same = number_is_eq k.sids q.sids ∙ eq-eqb k.sids q.sids f in
          le_from_not_gt k.hops q.hops (then_not_gt (nat_cmp k.hops q.hops) (nat_cmp k.place q.place) ((rest e).1 same)).0;
    }

cost_same : (k : Waiting) (c : Cost) (i : ℕ) → c ≡ cost_of k → i ≡ k.place → waiting_at c i ≡ k
cost_same k c i same place = λ j. record { containers = (same j).containers; sids = (same j).sids; hops = (same j).hops; place = place j }

-- ---- one that comes and one that goes

waits_put : (old new : BTreeSet Waiting) (k q : Waiting) → tree.Updates waiting_cmp old new k true → Waits new q → (k ≡ q) ⊎ Waits old q
waits_put old new k q update waits =
    let told : tree.contains waiting_cmp new q ≡ cond (is_eq (waiting_cmp k q)) true (tree.contains waiting_cmp old q) = update.0 q in
    elim (cases_Bool (is_eq (waiting_cmp k q))) [
      | inl here ↦ inl (waiting_same k q here)
      | inr apart ↦ let got : tree.contains waiting_cmp new q ≡ tree.contains waiting_cmp old q = rw apart at told in inr (sym got
          ∙ waits)
    ]

waits_kept : (old new : BTreeSet Waiting) (k q : Waiting) → tree.Updates waiting_cmp old new k true → Waits old q → Waits new q
waits_kept old new k q update waits =
    let told : tree.contains waiting_cmp new q ≡ cond (is_eq (waiting_cmp k q)) true (tree.contains waiting_cmp old q) = update.0 q in
    elim (cases_Bool (is_eq (waiting_cmp k q))) [
      | inl here ↦ let got : tree.contains waiting_cmp new q ≡ true = rw here at told in got
      | inr apart ↦ let got : tree.contains waiting_cmp new q ≡ tree.contains waiting_cmp old q = rw apart at told in got ∙ waits
    ]

waits_new : (old new : BTreeSet Waiting) (k q : Waiting) → tree.Updates waiting_cmp old new k true → k ≡ q → Waits new q
waits_new old new k q update same = subst (Waits new) same update.1

waits_left : (old new : BTreeSet Waiting) (k q : Waiting) → tree.Updates waiting_cmp old new k false → Waits new q
    → (¬ (k ≡ q)) × Waits old q
waits_left old new k q update waits =
    let told : tree.contains waiting_cmp new q ≡ cond (is_eq (waiting_cmp k q)) false (tree.contains waiting_cmp old q) = update.0 q in
    elim (cases_Bool (is_eq (waiting_cmp k q))) [
      | inl here ↦ let got : tree.contains waiting_cmp new q ≡ false = rw here at told in absurd (both_ways _ got waits)
      | inr apart ↦ let got : tree.contains waiting_cmp new q ≡ tree.contains waiting_cmp old q = rw apart at told in
          (λ same. both_ways _ apart (waiting_itself k q same), sym got ∙ waits)
    ]

waits_still : (old new : BTreeSet Waiting) (k q : Waiting) → tree.Updates waiting_cmp old new k false → ¬ (k.place ≡ q.place)
    → Waits old q
    → Waits new q
waits_still old new k q update other waits =
    let told : tree.contains waiting_cmp new q ≡ cond (is_eq (waiting_cmp k q)) false (tree.contains waiting_cmp old q) = update.0 q in
    elim (cases_Bool (is_eq (waiting_cmp k q))) [
      | inl here ↦ absurd (other (ap (λ (w : Waiting). w.place) (waiting_same k q here)))
      | inr apart ↦ let got : tree.contains waiting_cmp new q ≡ tree.contains waiting_cmp old q = rw apart at told in got ∙ waits
    ]

-- ---- the table and what is settled

at_same : (t : Costs) (i : ℕ) (o : Option Cost) → i < length t → at (set t i o) i ≡ o
at_same t i o h = get_or-set_same t i o None h

at_other : (t : Costs) (i j : ℕ) (o : Option Cost) → (j ≡ i → ⊥) → at (set t i o) j ≡ at t j
at_other t i j o ne = get_or-set_other t i j o None ne

pub done_same : (done : List Bool) (i : ℕ) → i < length done → is_done (set done i true) i ≡ true
done_same done i h = get_or-set_same done i true false h

pub done_other : (done : List Bool) (i j : ℕ) → (j ≡ i → ⊥) → is_done (set done i true) j ≡ is_done done j
done_other done i j ne = get_or-set_other done i j true false ne

-- ---- the first is settled

module _ (t : Costs) (waiting rest : BTreeSet Waiting) (done : List Bool) (top : Cost) (k : Waiting) (front : IsFront t waiting done top)
    (first : Waits waiting k) (least : tree.IsLowerBound waiting_cmp waiting k) (update : tree.Updates waiting_cmp waiting rest k
    false) where
  pub first_open : IsOpen t done k
  first_open = front.only k first

  unlike : (i : ℕ) → is_done (set done k.place true) i ≡ false → i ≡ k.place → ⊥
  unlike i unset same =
      both_ways _ unset (ap (is_done (set done k.place true)) same ∙ done_same done k.place first_open.early)

  pub front_settled : IsFront t rest (set done k.place true) (cost_of k)
  front_settled = record {
    waits = λ i c within has unset.
        let other = unlike i unset in
        let long = length-set done k.place true in
        let before = front.waits i c (omega (arith, long, within)) has (sym (done_other done k.place i other) ∙ unset) in
        waits_still waiting rest k (waiting_at c i) update (λ e. other (sym e)) before;
    only = λ q waits.
        let left = waits_left waiting rest k q update waits in
        let was = front.only q left.1 in
        let other : q.place ≡ k.place → ⊥ =
        λ same. left.0 (sym (cost_same k (cost_of k) k.place refl refl) ∙
        cost_same q (cost_of k) k.place (some_same (cost_of k) (cost_of q) (sym first_open.has ∙ ap (at t) (sym same)
        ∙ was.has)) (sym same)) in
        let long = length-set done k.place true in
        record {
          early = omega (arith, long, was.early);
          has = was.has;
          unsettled = done_other done k.place q.place other
              ∙ was.unsettled;
        };
    above = λ q waits. not_above k q (least q (waits_left waiting rest k q update waits).1);
    settled = λ i is. elim (cases_eq i k.place) [
      | inl same ↦ subst (λ (o : Option Cost). Under o (Some (cost_of k))) (sym (ap (at t) same
          ∙ first_open.has)) (under_itself (Some (cost_of k)))
      | inr other ↦ under_trans (at t i) (Some top) (Some (cost_of k)) (front.settled i (sym (done_other done k.place i other) ∙ is))
          (front.above k first)
    ];
  }

-- ---- an entry is lowered

-- an entry's old cost no longer waits
abbrev pub IsTakenOut : BTreeSet Waiting → BTreeSet Waiting → Option Cost → ℕ → Type 0
IsTakenOut waiting mid was i =
    MatchOption was (mid ≡ waiting) (λ old. tree.Updates waiting_cmp waiting mid (waiting_at old i) false)

module _ (t : Costs) (waiting mid : BTreeSet Waiting) (done : List Bool) (top : Cost) (i : ℕ) (front : IsFront t waiting done top) where
  out_stays : (o : Option Cost) → IsTakenOut waiting mid o i → (q : Waiting) → ¬ (q.place ≡ i) → Waits waiting q → Waits mid q
  out_stays None out q other waits = subst (λ (s : BTreeSet Waiting). Waits s q) (sym out) waits
  out_stays (Some old) out q other waits = waits_still waiting mid (waiting_at old i) q out (λ e. other (sym e)) waits

  out_gone : (o : Option Cost) → at t i ≡ o → IsTakenOut waiting mid o i → (q : Waiting) → Waits mid q
      → (¬ (q.place ≡ i)) × Waits waiting q
  out_gone None has out q waits =
      let before : Waits waiting q = subst (λ (s : BTreeSet Waiting). Waits s q) out waits in
      (λ same. none-some (cost_of q) (sym has ∙ ap (at t) (sym same) ∙ (front.only q before).has), before)
  out_gone (Some old) has out q waits =
      let left = waits_left waiting mid (waiting_at old i) q out waits in (
        λ same. left.0 (cost_same q old i (some_same old (cost_of q) (sym has ∙ ap (at t) (sym same)
            ∙ (front.only q left.1).has)) (sym same)),
        left.1,
      )

module _ (t : Costs) (waiting mid new : BTreeSet Waiting) (done : List Bool) (top : Cost) (i : ℕ) (c : Cost) (front : IsFront t waiting
    done top)
    (unset : is_done done i ≡ false) (early : i < length done) (within : i < length t) (above : AtMost top c)
    (out : IsTakenOut waiting mid (at t i) i) (update : tree.Updates waiting_cmp mid new (waiting_at c i) true) where
  unsettled_other : (j : ℕ) → is_done done j ≡ true → j ≡ i → ⊥
  unsettled_other j is same = both_ways _ unset (ap (is_done done) (sym same) ∙ is)

  front_lowered : IsFront (set t i (Some c)) new done top
  front_lowered = record {
    waits = λ j d near has unsettled. elim (cases_eq j i) [
      | inl same ↦ let is : c ≡ d = some_same c d (sym (at_same t i (Some c) within) ∙ ap (at (set t i (Some c))) (sym same) ∙ has) in
          waits_new mid new (waiting_at c i) (waiting_at d j) update (cost_same (waiting_at d j) c i is (sym same))
      | inr other ↦
          let before = front.waits j d near (sym (at_other t i j (Some c) other) ∙ has) unsettled in
          waits_kept mid new (waiting_at c i) (waiting_at d j) update
          (out_stays t waiting mid done top i front (at t i) out (waiting_at d j) other before)
    ];
    only = λ q waits. elim (waits_put mid new (waiting_at c i) q update waits) [
      | inl same ↦
          let here : i ≡ q.place = ap (λ (w : Waiting). w.place) same in
          let cost : c ≡ cost_of q = ap cost_of same in
          record {
            early = omega (arith, early, here);
            has = ap (at (set t i (Some c))) (sym here) ∙ (at_same t i (Some c) within ∙ ap Some cost);
            unsettled = ap (is_done done) (sym here) ∙ unset;
          }
      | inr old ↦
          let was = out_gone t waiting mid done top i front (at t i) refl out q old in
          let it = front.only q was.1 in
          record { early = it.early; has = at_other t i q.place (Some c) was.0 ∙ it.has; unsettled = it.unsettled }
    ];
    above = λ q waits. elim (waits_put mid new (waiting_at c i) q update waits) [
      | inl same ↦ subst (AtMost top) (ap cost_of same) above
      | inr old ↦ front.above q (out_gone t waiting mid done top i front (at t i) refl out q old).1
    ];
    settled = λ j is. subst (λ (o : Option Cost). Under o (Some top)) (sym (at_other t i j (Some c) (unsettled_other j is)))
        (front.settled j is);
  }

  pub lowered_at : Improves (at t i) c → IsLoweredAt t (set t i (Some c)) new done top i c true
  lowered_at improves = record {
    lowers = record { is = refl; improves = improves };
    front = front_lowered;
    still = λ j is. at_other t i j (Some c) (unsettled_other j is);
  }

-- ---- none waits

none_is_some : IsSome {T = Waiting} None → ⊥
none_is_some is = cc

none_by : (ks : List Waiting) → (0 < length ks → IsSome {T = Waiting} None) → ks ≡ []
none_by [] h = refl
none_by (k ∷ ks) h = absurd (none_is_some (h (omega arith)))

pub none_left : (waiting : BTreeSet Waiting) → (0 < length waiting.keys → IsSome {T = Waiting} None) → waiting.keys ≡ []
none_left waiting h = none_by waiting.keys h

-- ---- the queue at the start

pub before_more : (t : Costs) (old new : BTreeSet Waiting) (n : ℕ) (c : Cost) → at t n ≡ Some c → AreBefore t n old
    → tree.Updates waiting_cmp old new (waiting_at c n) true → AreBefore t (n + 1) new
before_more t old new n c has are update = record {
  waits = λ i d h is. elim (cases_eq i n) [
    | inl same ↦ waits_new old new (waiting_at c n) (waiting_at d i) update
        (cost_same (waiting_at d i) c n (some_same c d (sym has ∙ ap (at t) (sym same) ∙ is)) (sym same))
    | inr other ↦ waits_kept old new (waiting_at c n) (waiting_at d i) update (are.waits i d (omega (arith, h, other)) is)
  ];
  only = λ k waits. elim (waits_put old new (waiting_at c n) k update waits) [
    | inl same ↦
        let here : n ≡ k.place = ap (λ (w : Waiting). w.place) same in
        (omega (arith, here), ap (at t) (sym here) ∙ (has ∙ ap Some (ap cost_of same)))
    | inr was ↦ let it = are.only k was in (omega (arith, it.0), it.1)
  ];
}

pub before_skip : (t : Costs) (waiting : BTreeSet Waiting) (n : ℕ) → at t n ≡ None → AreBefore t n waiting → AreBefore t (n + 1) waiting
before_skip t waiting n none are = record {
  waits = λ i d h is. elim (cases_eq i n) [
    | inl same ↦ absurd (none-some d (sym none ∙ ap (at t) (sym same) ∙ is))
    | inr other ↦ are.waits i d (omega (arith, h, other)) is
  ];
  only = λ k waits. let it = are.only k waits in (omega (arith, it.0), it.1);
}

pub before_next : (t : Costs) (old new : BTreeSet Waiting) (n : ℕ) (o : Option Cost) → at t n ≡ o
    → MatchOption o (new ≡ old) (λ c. tree.Updates waiting_cmp old new (waiting_at c n) true) → AreBefore t n old
    → AreBefore t (n + 1) new
before_next t old new n None has same are = subst (AreBefore t (n + 1)) (sym same) (before_skip t old n has are)
before_next t old new n (Some c) has update are = before_more t old new n c has are update

pub front_first : (t : Costs) (waiting : BTreeSet Waiting) (done : List Bool) (n : ℕ) → AreBefore t n waiting → done ≡ replicate n false
    → IsFront t waiting done nothing
front_first t waiting done n are none =
    let long : length done ≡ n = ap length none ∙ length-replicate n false in
    let unset : (i : ℕ) → is_done done i ≡ false = λ i. ap (λ (d : List Bool). is_done d i) none ∙ all_open n i in
    record {
      waits = λ i c h is o. are.waits i c (omega (arith, h, long)) is;
      only = λ k waits.
          let it = are.only k waits in
          record { early = omega (arith, it.0, long); has = it.1; unsettled = unset k.place };
      above = λ k waits. record { containers = omega arith; sids = λ e. omega arith; hops = λ e f. omega arith };
      settled = λ i is. absurd (both_ways _ (unset i) is);
    }
  where
    all_open : (n i : ℕ) → is_done (replicate n false) i ≡ false
    all_open zero i = refl
    all_open (suc n) zero = refl
    all_open (suc n) (suc i) = all_open n i
