-- Traces that split, and the steps that they leave.
use Rattle.std.proofs.Common.{◌≡◌, ℕ, ◌==◌, ◌↔◌, Bool, true, false, if◌then◌else◌, List, [], ◌∷◌, ◌++◌, map, Option, Some, None, refl, sym, ◌∙◌, ap, subst, eqb-true, append_assoc}
use Rattle.std.specs.Option.{option_and_then}
use Rattle.std.proofs.lemmas.Bool.{eqb-false}
use Rattle.std.proofs.lemmas.List.{append-nil}
use Rattle.intent_traces.specs.declared.trace_steps.TraceStep.{TraceStep}
use Rattle.intent_traces.specs.declared.trace_steps.TraceStep.TheVariants.{Links, Function, Reach}
use Rattle.intent_traces.specs.Traces.{StepEvent, Crossed, Executed, Ends, LeadsElsewhere, AllLeadElsewhere, has_link, IsPart, Matches, left_by_reach, left_behind, left_by}
use Rattle.intent_traces.specs.TracesTerms.{is_done, follows, IsBegun, Leaves, IsStrict, meet_each}
use Rattle.intent_traces.proofs.TraceParts.{then_some, if_some, some_same, begun_left, matched_left}

-- ---- from left to split

-- one event more in front, where it is a step's part
finish_one : (to : Ends) (t : TraceStep) (ts : List TraceStep) (e : StepEvent) (es : List StepEvent) (us : List TraceStep) → IsPart to t (e ∷ [])
    → Leaves to ts es us → Leaves to (t ∷ ts) (e ∷ es) us
finish_one to t ts e es us is l = record {
  finished = t ∷ l.finished;
  part = e ∷ l.part;
  begun = l.begun;
  steps = ap (λ (xs : List TraceStep). t ∷ xs) l.steps;
  events = ap (λ (xs : List StepEvent). e ∷ xs) l.events;
  matched = (e ∷ [], l.part, refl, is, l.matched);
  is_begun = l.is_begun;
}

-- one link more in front of a reach
go_on : (to : Ends) (node : ℕ) (ts : List TraceStep) (link : ℕ) (es : List StepEvent) (us : List TraceStep) → LeadsElsewhere to node link
    → Leaves to (Reach node ∷ ts) es us → Leaves to (Reach node ∷ ts) (Crossed link ∷ es) us
go_on to node ts link es us away l = by_finished l.finished l.part l.begun l.steps l.events l.matched l.is_begun
  where
    by_finished : (finished : List TraceStep) (part begun : List StepEvent) → Reach node ∷ ts ≡ finished ++ us → es ≡ part ++ begun
        → Matches to finished part → IsBegun to us begun → Leaves to (Reach node ∷ ts) (Crossed link ∷ es) us
    by_finished [] part begun steps events matched is_begun =
        let old : IsBegun to (Reach node ∷ ts) begun = subst (λ (xs : List TraceStep). IsBegun to xs begun) (sym steps) is_begun in
        let new : IsBegun to (Reach node ∷ ts) (Crossed link ∷ begun)
        = (link ∷ old.0, ap (λ (xs : List StepEvent). Crossed link ∷ xs) old.1, (away, old.2)) in
        record {
          finished = [];
          part = [];
          begun = Crossed link ∷ begun;
          steps = steps;
          events = ap (λ (xs : List StepEvent). Crossed link ∷ xs) (events ∙ ap (λ (xs : List StepEvent). xs ++ begun) matched);
          matched = refl;
          is_begun = subst (λ (xs : List TraceStep). IsBegun to xs (Crossed link ∷ begun)) steps new;
        }
    by_finished (d ∷ ds) part begun steps events matched is_begun =
        let first : Reach node ≡ d = cc in
        let old : IsPart to (Reach node) matched.0 = subst (λ (x : TraceStep). IsPart to x matched.0) (sym first) matched.3 in
        let new : IsPart to (Reach node) (Crossed link ∷ matched.0)
        = (link ∷ old.0, old.1, ap (λ (xs : List StepEvent). Crossed link ∷ xs) old.2, (away, old.3), old.4) in
        record {
          finished = d ∷ ds;
          part = Crossed link ∷ part;
          begun = begun;
          steps = steps;
          events = ap (λ (xs : List StepEvent). Crossed link ∷ xs) events;
          matched = (
            Crossed link ∷ matched.0,
            matched.1,
            ap (λ (xs : List StepEvent). Crossed link ∷ xs) matched.2,
            subst (λ (x : TraceStep). IsPart to x (Crossed link ∷ matched.0)) first new,
            matched.4,
          );
          is_begun = is_begun;
        }

leaves_one : (to : Ends) (ts vs : List TraceStep) (e : StepEvent) (es : List StepEvent) (us : List TraceStep) → left_behind to ts e ≡ Some vs
    → Leaves to vs es us → Leaves to ts (e ∷ es) us
leaves_one to [] vs e es us h l = absurd (cc)
leaves_one to (Links set ∷ ts) vs (Crossed link) es us h l =
    let i = if_some (has_link set link) (Some ts) vs h in
    let same : ts ≡ vs = some_same ts vs i.1 in
    finish_one to (Links set) ts (Crossed link) es us (link, refl, i.0) (subst (λ (xs : List TraceStep). Leaves to xs es us) (sym same) l)
leaves_one to (Links set ∷ ts) vs (Executed n) es us h l = absurd (cc)
leaves_one to (Function m ∷ ts) vs (Crossed link) es us h l = absurd (cc)
leaves_one to (Function m ∷ ts) vs (Executed n) es us h l =
    let i = if_some (m == n) (Some ts) vs h in
    let same : ts ≡ vs = some_same ts vs i.1 in
    finish_one to (Function m) ts (Executed n) es us (ap (λ (k : ℕ). Executed k ∷ []) (sym (eqb-true m n i.0)))
    (subst (λ (xs : List TraceStep). Leaves to xs es us) (sym same) l)
leaves_one to (Reach node ∷ ts) vs (Executed n) es us h l = absurd (cc)
leaves_one to (Reach node ∷ ts) vs (Crossed link) es us h l = by_end (to link) refl h
  where
    by_test : (other : ℕ) → to link ≡ Some other → (t : Bool) → (other == node) ≡ t
        → (if t then Some ts else Some (Reach node ∷ ts)) ≡ Some vs → Leaves to (Reach node ∷ ts) (Crossed link ∷ es) us
    by_test other is true test h =
        let same : ts ≡ vs = some_same ts vs h in
        finish_one to (Reach node) ts (Crossed link) es us
        ([], link, refl, tt, is ∙ ap (λ (k : ℕ). Some k) (eqb-true other node test))
        (subst (λ (xs : List TraceStep). Leaves to xs es us) (sym same) l)
    by_test other is false test h =
        let same : Reach node ∷ ts ≡ vs = some_same (Reach node ∷ ts) vs h in
        go_on to node ts link es us (other, is, eqb-false other node test)
        (subst (λ (xs : List TraceStep). Leaves to xs es us) (sym same) l)

    by_end : (o : Option ℕ) → to link ≡ o → left_by_reach node ts o ≡ Some vs → Leaves to (Reach node ∷ ts) (Crossed link ∷ es) us
    by_end None is h = absurd (cc)
    by_end (Some other) is h = by_test other is (other == node) refl h

nothing_begun : (to : Ends) (us : List TraceStep) → IsBegun to us []
nothing_begun to [] = refl
nothing_begun to (Links set ∷ us) = refl
nothing_begun to (Function n ∷ us) = refl
nothing_begun to (Reach node ∷ us) = ([], refl, tt)

leaves_all : (to : Ends) (es : List StepEvent) (ts us : List TraceStep) → left_by to ts es ≡ Some us → Leaves to ts es us
leaves_all to [] ts us h = record {
  finished = [];
  part = [];
  begun = [];
  steps = some_same ts us h;
  events = refl;
  matched = refl;
  is_begun = nothing_begun to us;
}
leaves_all to (e ∷ es) ts us h =
    let t = then_some (λ (vs : List TraceStep). left_by to vs es) (left_behind to ts e) us h in
    leaves_one to ts t.0 e es us t.1 (leaves_all to es t.0 us t.2)

-- ---- from split to left

begun_all : (to : Ends) (us : List TraceStep) (begun : List StepEvent) → IsBegun to us begun → left_by to us begun ≡ Some us
begun_all to [] begun is = ap (left_by to []) is
begun_all to (Links set ∷ us) begun is = ap (left_by to (Links set ∷ us)) is
begun_all to (Function n ∷ us) begun is = ap (left_by to (Function n ∷ us)) is
begun_all to (Reach node ∷ us) begun is =
    ap (left_by to (Reach node ∷ us)) (is.1 ∙ sym (append-nil (map Crossed is.0))) ∙ begun_left to node us is.0 [] is.2

pub leaves_iff : (to : Ends) (ts us : List TraceStep) (es : List StepEvent) → (left_by to ts es ≡ Some us) ↔ Leaves to ts es us
leaves_iff to ts us es = (leaves_all to es ts us, back)
  where
    back : Leaves to ts es us → left_by to ts es ≡ Some us
    back l =
        ap (λ (xs : List TraceStep). left_by to xs es) l.steps ∙ ap (left_by to (l.finished ++ us)) l.events
        ∙ matched_left to l.finished us l.part l.begun l.matched ∙ begun_all to us l.begun l.is_begun

-- ---- whole traces

done_none : (o : Option (List TraceStep)) → is_done o ≡ true → o ≡ Some []
done_none None h = absurd (cc)
done_none (Some []) h = refl
done_none (Some (t ∷ ts)) h = absurd (cc)

pub follows_iff : (to : Ends) (ts : List TraceStep) (es : List StepEvent) → Matches to ts es ↔ (follows to es ts ≡ true)
follows_iff to ts es = (there, back)
  where
    there : Matches to ts es → follows to es ts ≡ true
    there m =
        let whole = matched_left to ts [] es [] m in
        ap is_done (ap (λ (xs : List TraceStep). left_by to xs es) (sym (append-nil ts))
        ∙ ap (left_by to (ts ++ [])) (sym (append-nil es)) ∙ whole)

    back : follows to es ts ≡ true → Matches to ts es
    back h =
        let l = leaves_all to es ts [] (done_none (left_by to ts es) h) in
        let steps : ts ≡ l.finished = l.steps ∙ append-nil l.finished in
        let events : es ≡ l.part = l.events ∙ ap (λ (xs : List StepEvent). l.part ++ xs) l.is_begun ∙ append-nil l.part in
        subst (λ (xs : List TraceStep). Matches to xs es) (sym steps) (subst (Matches to l.finished) (sym events) l.matched)

-- ---- the part in front is one

reach_one : (to : Ends) (node last end : ℕ) (before others : List ℕ) (rest behind : List StepEvent)
    → AllLeadElsewhere to node before → to last ≡ Some node → AllLeadElsewhere to node others → to end ≡ Some node
    → map Crossed before ++ (Crossed last ∷ rest) ≡ map Crossed others ++ (Crossed end ∷ behind)
    → (before ≡ others) × (last ≡ end) × (rest ≡ behind)
reach_one to node last end [] [] rest behind all at his his_at e = (refl, cc, cc)
reach_one to node last end [] (link ∷ others) rest behind all at his his_at e =
    let same : last ≡ link = cc in
    let node_is : his.0.0 ≡ node = some_same his.0.0 node (sym his.0.1 ∙ ap to (sym same) ∙ at) in
    absurd (his.0.2 node_is)
reach_one to node last end (link ∷ before) [] rest behind all at his his_at e =
    let same : link ≡ end = cc in
    let node_is : all.0.0 ≡ node = some_same all.0.0 node (sym all.0.1 ∙ ap to same ∙ his_at) in
    absurd (all.0.2 node_is)
reach_one to node last end (link ∷ before) (other ∷ others) rest behind all at his his_at e =
    let first : link ≡ other = cc in
    let more : map Crossed before ++ (Crossed last ∷ rest) ≡ map Crossed others ++ (Crossed end ∷ behind) = cc in
    let r = reach_one to node last end before others rest behind all.1 at his.1 his_at more in
    (cc, r.1, r.2)

pub part_one : (to : Ends) (t : TraceStep) (part rest other behind : List StepEvent) → IsPart to t part → IsPart to t other
    → part ++ rest ≡ other ++ behind → (part ≡ other) × (rest ≡ behind)
part_one to (Links set) part rest other behind is his e =
    let one : Crossed is.0 ∷ rest ≡ Crossed his.0 ∷ behind
    = ap (λ (p : List StepEvent). p ++ rest) (sym is.1) ∙ e ∙ ap (λ (p : List StepEvent). p ++ behind) his.1 in
    let link : is.0 ≡ his.0 = cc in
    (is.1 ∙ ap (λ (k : ℕ). Crossed k ∷ []) link ∙ sym his.1, cc)
part_one to (Function n) part rest other behind is his e =
    let one : Executed n ∷ rest ≡ Executed n ∷ behind
    = ap (λ (p : List StepEvent). p ++ rest) (sym is) ∙ e ∙ ap (λ (p : List StepEvent). p ++ behind) his in
    (is ∙ sym his, cc)
part_one to (Reach node) part rest other behind is his e =
    let one : map Crossed is.0 ++ (Crossed is.1 ∷ rest) ≡ map Crossed his.0 ++ (Crossed his.1 ∷ behind)
    = sym (append_assoc (map Crossed is.0) (Crossed is.1 ∷ []) rest)
    ∙ ap (λ (p : List StepEvent). p ++ rest) (sym is.2) ∙ e ∙ ap (λ (p : List StepEvent). p ++ behind) his.2
    ∙ append_assoc (map Crossed his.0) (Crossed his.1 ∷ []) behind in
    let r = reach_one to node is.1 his.1 is.0 his.0 rest behind is.3 is.4 his.3 his.4 one in (
      is.2 ∙ ap (λ (ks : List ℕ). map Crossed ks ++ (Crossed is.1 ∷ [])) r.0
          ∙ ap (λ (k : ℕ). map Crossed his.0 ++ (Crossed k ∷ [])) r.1 ∙ sym his.2,
      r.2,
    )

-- ---- steps of one event each

if_left : (to : Ends) (b : Bool) (ts : List TraceStep) (es : List StepEvent)
    → is_done (option_and_then (λ us. left_by to us es) (if b then Some ts else None)) ≡ (if b then is_done (left_by to ts es) else false)
if_left to true ts es = refl
if_left to false ts es = refl

pub strict_each : (to : Ends) (ts : List TraceStep) (es : List StepEvent) → IsStrict ts → follows to es ts ≡ meet_each ts es
strict_each to [] [] s = refl
strict_each to [] (e ∷ es) s = refl
strict_each to (t ∷ ts) [] s = refl
strict_each to (Links set ∷ ts) (Crossed link ∷ es) s =
    if_left to (has_link set link) ts es ∙ ap (λ (b : Bool). if has_link set link then b else false) (strict_each to ts es s)
strict_each to (Links set ∷ ts) (Executed n ∷ es) s = refl
strict_each to (Function m ∷ ts) (Crossed link ∷ es) s = refl
strict_each to (Function m ∷ ts) (Executed n ∷ es) s =
    if_left to (m == n) ts es ∙ ap (λ (b : Bool). if m == n then b else false) (strict_each to ts es s)
strict_each to (Reach node ∷ ts) (e ∷ es) s = absurd s
