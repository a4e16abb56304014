-- A step's part, read event by event.
use Rattle.std.proofs.Common.{◌≡◌, ◌≢◌, ℕ, ◌==◌, Bool, true, false, if◌then◌else◌, List, [], ◌∷◌, ◌++◌, map, Option, Some, None, refl, ◌∙◌, ap, eqb-true, eq-eqb, append_assoc}
use Rattle.std.specs.Option.{option_and_then}
use Rattle.intent_traces.specs.declared.trace_steps.TraceStep.{TraceStep}
use Rattle.intent_traces.specs.declared.trace_steps.TraceStep.TheVariants.{Links, Function, Reach}
use Rattle.intent_traces.specs.Traces.{StepEvent, Crossed, Ends, LeadsElsewhere, AllLeadElsewhere, IsPart, Matches, left_by_reach, left_by}

pub neq_eqb : (a b : ℕ) → a ≢ b → (a == b) ≡ false
neq_eqb a b ne = by_test (a == b) refl
  where
    by_test : (t : Bool) → (a == b) ≡ t → (a == b) ≡ false
    by_test false e = e
    by_test true e = absurd (ne (eqb-true a b e))

pub then_some : {X Y : Type 0} (f : X → Option Y) (o : Option X) (y : Y) → option_and_then f o ≡ Some y
    → (x : X) × (o ≡ Some x) × (f x ≡ Some y)
then_some f None y h = absurd (cc)
then_some f (Some x) y h = (x, refl, h)

pub if_some : {X : Type 0} (t : Bool) (o : Option X) (y : X) → (if t then o else None) ≡ Some y → (t ≡ true) × (o ≡ Some y)
if_some true o y h = (refl, h)
if_some false o y h = absurd (cc)

pub some_same : {X : Type 0} (x y : X) → Path (Option X) (Some x) (Some y) → x ≡ y
some_same x y h = cc

-- what leads elsewhere leaves the reach as it was
pub elsewhere_left : (to : Ends) (node : ℕ) (ts : List TraceStep) (link : ℕ) → LeadsElsewhere to node link
    → left_by_reach node ts (to link) ≡ Some (Reach node ∷ ts)
elsewhere_left to node ts link away =
    ap (left_by_reach node ts) away.1
    ∙ ap (λ (b : Bool). if b then Some ts else Some (Reach node ∷ ts)) (neq_eqb away.0 node away.2)

pub begun_left : (to : Ends) (node : ℕ) (ts : List TraceStep) (before : List ℕ) (rest : List StepEvent) → AllLeadElsewhere to node before
    → left_by to (Reach node ∷ ts) (map Crossed before ++ rest) ≡ left_by to (Reach node ∷ ts) rest
begun_left to node ts [] rest all = refl
begun_left to node ts (link ∷ before) rest all =
    ap (option_and_then (λ (us : List TraceStep). left_by to us (map Crossed before ++ rest))) (elsewhere_left to node ts link all.0)
    ∙ begun_left to node ts before rest all.1

-- a step's part leaves the steps behind it
pub part_left : (to : Ends) (t : TraceStep) (ts : List TraceStep) (part rest : List StepEvent) → IsPart to t part
    → left_by to (t ∷ ts) (part ++ rest) ≡ left_by to ts rest
part_left to (Links set) ts part rest is =
    ap (λ (p : List StepEvent). left_by to (Links set ∷ ts) (p ++ rest)) is.1
    ∙ ap (λ (b : Bool). option_and_then (λ (us : List TraceStep). left_by to us rest) (if b then Some ts else None)) is.2
part_left to (Function n) ts part rest is =
    ap (λ (p : List StepEvent). left_by to (Function n ∷ ts) (p ++ rest)) is
    ∙ ap (λ (b : Bool). option_and_then (λ (us : List TraceStep). left_by to us rest) (if b then Some ts else None)) (eq-eqb n n refl)
part_left to (Reach node) ts part rest is =
    ap (λ (p : List StepEvent). left_by to (Reach node ∷ ts) (p ++ rest)) is.2
    ∙ ap (left_by to (Reach node ∷ ts)) (append_assoc (map Crossed is.0) (Crossed is.1 ∷ []) rest)
    ∙ begun_left to node ts is.0 (Crossed is.1 ∷ rest) is.3
    ∙ ap (λ (o : Option ℕ). option_and_then (λ (us : List TraceStep). left_by to us rest) (left_by_reach node ts o)) is.4
    ∙ ap (λ (b : Bool). option_and_then (λ (us : List TraceStep). left_by to us rest) (if b then Some ts else Some (Reach node ∷ ts)))
    (eq-eqb node node refl)

pub matched_left : (to : Ends) (ts us : List TraceStep) (part rest : List StepEvent) → Matches to ts part
    → left_by to (ts ++ us) (part ++ rest) ≡ left_by to us rest
matched_left to [] us part rest is = ap (λ (p : List StepEvent). left_by to us (p ++ rest)) is
matched_left to (t ∷ ts) us part rest is =
    ap (λ (p : List StepEvent). left_by to (t ∷ (ts ++ us)) (p ++ rest)) is.2
    ∙ ap (left_by to (t ∷ (ts ++ us))) (append_assoc is.0 is.1 rest)
    ∙ part_left to t (ts ++ us) is.0 (is.1 ++ rest) is.3
    ∙ matched_left to ts us is.1 rest is.4
