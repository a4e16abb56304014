-- Walks, by what is found: each comes to the answer, one takes the greatest number, and where all come to one answer it is found.
use Rattle.std.proofs.Common.{◌≡◌, ℕ, zero, suc, ◌+◌, ◌%◌, ◌<◌, ◌≤◌, Bool, true, false, List, [], ◌∷◌, length, slice_index, Option, Some, None, refl, sym, ◌∙◌, ap, subst, arith, mod-eq_of_lt, mod-lt}
use Rattle.std.specs.Option.{option_map}
use Rattle.choice_graph.specs.declared.vertices.Vertex.{Vertex}
use Rattle.choice_graph.specs.declared.vertices.Vertex.TheVariants.{Lost, Stop, Over}
use Rattle.choice_graph.specs.declared.vertices.Found.{Found}
use Rattle.choice_graph.specs.GraphWalks.{vertex_at}
use Rattle.choice_graph.specs.GraphWalksTerms.{Picks, later, End, over, nowhere, walk, walk_first, answer_of, AlwaysComes}
use Rattle.choice_graph.specs.FoundInGraphs.{Finds, found_over, found_by, found_in, found_at, lowered}
use Rattle.choice_graph.proofs.GraphOptions.{map_some, some_same, none_some}
use Rattle.choice_graph.proofs.GraphJoins.{over_agrees, over_taken, over_complete, FoundAt}
use Rattle.choice_graph.proofs.GraphDepths.{found_deep}

-- a choice in front of others
abbrev pub put_first : ℕ → Picks → Picks
put_first i picks zero = i
put_first i picks (suc k) = picks k

over_first : (on : Picks → ℕ → Option End) (i : ℕ) (picks : Picks) (set : List ℕ) → i < length set
    → over on (put_first i picks) set ≡ on picks (slice_index set i)
over_first on i picks [] l = absurd (omega arith)
over_first on i picks (w ∷ ws) l =
    let at : i % length (w ∷ ws) ≡ i = mod-eq_of_lt l in
    ap (λ (k : ℕ). on picks (slice_index (w ∷ ws) k)) at

pub over_nowhere : (picks : Picks) (set : List ℕ) → over nowhere picks set ≡ None
over_nowhere picks [] = refl
over_nowhere picks (w ∷ ws) = refl

pub walk_is : (vertices : List Vertex) (hops_left : ℕ) (picks : Picks) (v : ℕ)
    → walk vertices hops_left picks v ≡ walk_first vertices true hops_left picks (vertex_at vertices v)
walk_is vertices zero picks v = refl
walk_is vertices (suc hops_left) picks v = refl

pub first_stop_law : (vertices : List Vertex) (lowers : Bool) (hops_left : ℕ) (picks : Picks) (answer : ℕ)
    → walk_first vertices lowers hops_left picks (Stop answer) ≡ Some (record { answer = answer; hops_left = hops_left; picks = picks })
first_stop_law vertices false hops_left picks answer = refl
first_stop_law vertices true zero picks answer = refl
first_stop_law vertices true (suc hops_left) picks answer = refl

-- a walk comes to the answer of what is found, and takes no more lowerings than its number
pub record Reaches (f : Found) (hops_left : ℕ) (o : Option End) : Type 0 where
  pub end : End
  pub here : o ≡ Some end
  pub same : end.answer ≡ f.answer
  pub spent : hops_left ≤ end.hops_left + f.most

sound_over : (finds : Finds) (on : Picks → ℕ → Option End) (hops_left : ℕ)
    → ((w : ℕ) (g : Found) → finds w ≡ Some g → g.most ≤ hops_left → (picks : Picks) → Reaches g hops_left (on picks w))
    → (set : List ℕ) (h : Found) → found_over finds set ≡ Some h → h.most ≤ hops_left → (picks : Picks) → Reaches h hops_left (over on picks set)
sound_over finds on hops_left all [] h e l picks = absurd (none_some h e)
sound_over finds on hops_left all (w ∷ ws) h e l picks =
    let i : ℕ = picks 0 % length (w ∷ ws) in
    let inside : i < length (w ∷ ws) = mod-lt (picks 0) (omega arith) in
    let at = over_agrees finds (w ∷ ws) h e i inside in
    let low : at.found.most ≤ h.most = at.within in
    let r = all (slice_index (w ∷ ws) i) at.found at.here (omega arith) (later picks) in
    let spent : hops_left ≤ r.end.hops_left + at.found.most = r.spent in
    record { end = r.end; here = r.here; same = r.same ∙ at.same; spent = omega arith }

module _ (vertices : List Vertex) where
  abbrev pub IsSound : Finds → Type 0
  IsSound finds = (w : ℕ) (g : Found) → finds w ≡ Some g → (hops_left : ℕ) → g.most ≤ hops_left → (picks : Picks)
      → Reaches g hops_left (walk vertices hops_left picks w)

  pub sound_first : (lowers : Bool) (finds : Finds) → IsSound finds → (vertex : Vertex) (f : Found) → found_by lowers finds vertex ≡ Some f
      → (hops_left : ℕ) → f.most ≤ hops_left → (picks : Picks) → Reaches f hops_left (walk_first vertices lowers hops_left picks vertex)
  sound_first lowers finds all Lost f e hops_left l picks = absurd (none_some f e)
  sound_first lowers finds all (Stop answer) f e hops_left l picks =
      record {
        end = record { answer = answer; hops_left = hops_left; picks = picks };
        here = first_stop_law vertices lowers hops_left picks answer;
        same = ap (λ (x : Found). x.answer) (some_same (record { most = 0; answer = answer }) f e);
        spent = omega arith;
      }
  sound_first lowers finds all (Over set) f e hops_left l picks =
      let m = map_some (lowered lowers) (found_over finds set) f e in by_move lowers hops_left m.0 m.1 m.2 l
    where
      by_move : (lowers : Bool) (hops_left : ℕ) (g : Found) → found_over finds set ≡ Some g → lowered lowers g ≡ f → f.most ≤ hops_left
          → Reaches f hops_left (walk_first vertices lowers hops_left picks (Over set))
      by_move false hops_left g is same l =
          let k : g.most + 0 ≡ f.most = ap (λ (x : Found). x.most) same in
          let r = sound_over finds (walk vertices hops_left) hops_left (λ w x e l. all w x e hops_left l) set g is (omega arith) picks in
          let spent : hops_left ≤ r.end.hops_left + g.most = r.spent in
          record { end = r.end; here = r.here; same = r.same ∙ ap (λ (x : Found). x.answer) same; spent = omega arith }
      by_move true zero g is same l =
          let k : g.most + 1 ≡ f.most = ap (λ (x : Found). x.most) same in absurd (omega arith)
      by_move true (suc hops_left) g is same l =
          let k : g.most + 1 ≡ f.most = ap (λ (x : Found). x.most) same in
          let r = sound_over finds (walk vertices hops_left) hops_left (λ w x e l. all w x e hops_left l) set g is (omega arith) picks in
          let spent : hops_left ≤ r.end.hops_left + g.most = r.spent in
          record { end = r.end; here = r.here; same = r.same ∙ ap (λ (x : Found). x.answer) same; spent = omega arith }

  sound_in : (depth : ℕ) → IsSound (found_in vertices depth)
  sound_in zero v f e hops_left l picks = absurd (none_some f e)
  sound_in (suc depth) v f e hops_left l picks =
      subst (Reaches f hops_left) (sym (walk_is vertices hops_left picks v))
      (sound_first true (found_in vertices depth) (sound_in depth) (vertex_at vertices v) f e hops_left l picks)

  pub sound_at : IsSound (found_at vertices)
  sound_at = sound_in (length vertices)

-- choices under which a walk takes exactly the greatest number, is lost with fewer, and leaves the choices that are handed in
pub record Tight (f : Found) (go : ℕ → Picks → Option End) (rest : Picks) : Type 0 where
  pub picks : Picks
  pub exact : (more : ℕ) → go (f.most + more) picks ≡ Some (record { answer = f.answer; hops_left = more; picks = rest })
  pub lost : (hops_left : ℕ) → hops_left < f.most → go hops_left picks ≡ None

module _ (vertices : List Vertex) where
  abbrev pub IsTight : Finds → Type 0
  IsTight finds = (w : ℕ) (g : Found) → finds w ≡ Some g → (rest : Picks) → Tight g (λ hops_left picks. walk vertices hops_left picks w) rest

  tight_over : (finds : Finds) → IsTight finds → (set : List ℕ) (h : Found) → found_over finds set ≡ Some h → (rest : Picks)
      → Tight h (λ hops_left picks. over (walk vertices hops_left) picks set) rest
  tight_over finds all set h e rest =
      let t = over_taken finds set h e in
      let u = all (slice_index set t.place) h t.here rest in
      record {
        picks = put_first t.place u.picks;
        exact = λ more. over_first (walk vertices (h.most + more)) t.place u.picks set t.inside ∙ u.exact more;
        lost = λ hops_left l. over_first (walk vertices hops_left) t.place u.picks set t.inside ∙ u.lost hops_left l;
      }

  pub tight_first : (lowers : Bool) (finds : Finds) → IsTight finds → (vertex : Vertex) (f : Found) → found_by lowers finds vertex ≡ Some f
      → (rest : Picks) → Tight f (λ hops_left picks. walk_first vertices lowers hops_left picks vertex) rest
  tight_first lowers finds all Lost f e rest = absurd (none_some f e)
  tight_first lowers finds all (Stop answer) f e rest =
      let stop : Found = record { most = 0; answer = answer } in
      let here : Tight stop (λ hops_left picks. walk_first vertices lowers hops_left picks (Stop answer)) rest
      = record {
        picks = rest;
        exact = λ more. first_stop_law vertices lowers (0 + more) rest answer
            ∙ (let n : 0 + more ≡ more = omega arith in ap (λ (k : ℕ). Some (record { answer = answer; hops_left = k; picks = rest })) n);
        lost = λ hops_left l. absurd (omega arith);
      } in
      subst (λ (x : Found). Tight x (λ hops_left picks. walk_first vertices lowers hops_left picks (Stop answer)) rest) (some_same stop f e) here
  tight_first lowers finds all (Over set) f e rest =
      let m = map_some (lowered lowers) (found_over finds set) f e in
      subst (λ (x : Found). Tight x (λ hops_left picks. walk_first vertices lowers hops_left picks (Over set)) rest) m.2
      (by_move lowers m.0 (tight_over finds all set m.0 m.1 rest))
    where
      by_move : (lowers : Bool) (g : Found) → Tight g (λ hops_left picks. over (walk vertices hops_left) picks set) rest
          → Tight (lowered lowers g) (λ hops_left picks. walk_first vertices lowers hops_left picks (Over set)) rest
      by_move false g t =
          record {
            picks = t.picks;
            exact = λ more. (let n : g.most + 0 + more ≡ g.most + more = omega arith in
                ap (λ (k : ℕ). over (walk vertices k) t.picks set) n) ∙ t.exact more;
            lost = λ hops_left l. t.lost hops_left (omega arith);
          }
      by_move true g t =
          record {
            picks = t.picks;
            exact = λ more. (let n : g.most + 1 + more ≡ suc (g.most + more) = omega arith in
                ap (λ (k : ℕ). walk_first vertices true k t.picks (Over set)) n) ∙ t.exact more;
            lost = fails;
          }
        where
          fails : (hops_left : ℕ) → hops_left < g.most + 1 → walk_first vertices true hops_left t.picks (Over set) ≡ None
          fails zero l = over_nowhere t.picks set
          fails (suc hops_left) l = t.lost hops_left (omega arith)

  tight_in : (depth : ℕ) → IsTight (found_in vertices depth)
  tight_in zero v f e rest = absurd (none_some f e)
  tight_in (suc depth) v f e rest =
      let t = tight_first true (found_in vertices depth) (tight_in depth) (vertex_at vertices v) f e rest in
      record {
        picks = t.picks;
        exact = λ more. walk_is vertices (f.most + more) t.picks v ∙ t.exact more;
        lost = λ hops_left l. walk_is vertices hops_left t.picks v ∙ t.lost hops_left l;
      }

  pub tight_at : IsTight (found_at vertices)
  tight_at = tight_in (length vertices)

-- ---- where all choices come to one answer it is found

complete_over : (finds : Finds) (on : Picks → ℕ → Option End) (answer : ℕ) (set : List ℕ)
    → ((w : ℕ) → ((picks : Picks) → answer_of (on picks w) ≡ Some answer) → FoundAt finds answer w)
    → ((picks : Picks) → answer_of (over on picks set) ≡ Some answer)
    → (h : Found) × (found_over finds set ≡ Some h) × (h.answer ≡ answer)
complete_over finds on answer [] all always = absurd (none_some answer (always (λ k. 0)))
complete_over finds on answer (w ∷ ws) all always =
    over_complete finds (w ∷ ws) answer (omega arith)
    (λ i l. all (slice_index (w ∷ ws) i)
    (λ picks. ap answer_of (sym (over_first on i picks (w ∷ ws) l)) ∙ always (put_first i picks)))

-- what holds behind a first move, if there is one
abbrev pub Behind : Bool → ℕ → (ℕ → Type 0) → Type 0
Behind false hops_left P = P hops_left
Behind true zero P = Unit {0}
Behind true (suc hops_left) P = P hops_left

module _ (vertices : List Vertex) where
  abbrev pub IsComplete : Finds → ℕ → Type 0
  IsComplete finds hops_left = (w answer : ℕ) → AlwaysComes vertices hops_left w answer → FoundAt finds answer w

  pub complete_first : (lowers : Bool) (hops_left : ℕ) (finds : Finds) (vertex : Vertex) (answer : ℕ) → Behind lowers hops_left (IsComplete finds)
      → ((picks : Picks) → answer_of (walk_first vertices lowers hops_left picks vertex) ≡ Some answer)
      → (f : Found) × (found_by lowers finds vertex ≡ Some f) × (f.answer ≡ answer)
  complete_first false hops_left finds Lost answer all always = absurd (none_some answer (always (λ k. 0)))
  complete_first true zero finds Lost answer all always = absurd (none_some answer (always (λ k. 0)))
  complete_first true (suc hops_left) finds Lost answer all always = absurd (none_some answer (always (λ k. 0)))
  complete_first false hops_left finds (Stop a) answer all always =
      (record { most = 0; answer = a }, refl, some_same a answer (always (λ k. 0)))
  complete_first true zero finds (Stop a) answer all always =
      (record { most = 0; answer = a }, refl, some_same a answer (always (λ k. 0)))
  complete_first true (suc hops_left) finds (Stop a) answer all always =
      (record { most = 0; answer = a }, refl, some_same a answer (always (λ k. 0)))
  complete_first false hops_left finds (Over set) answer all always =
      let c = complete_over finds (walk vertices hops_left) answer set (λ w. all w answer) always in
      (lowered false c.0, ap (option_map (lowered false)) c.1, c.2)
  complete_first true zero finds (Over set) answer all always =
      absurd (none_some answer (ap answer_of (sym (over_nowhere (λ k. 0) set)) ∙ always (λ k. 0)))
  complete_first true (suc hops_left) finds (Over set) answer all always =
      let c = complete_over finds (walk vertices hops_left) answer set (λ w. all w answer) always in
      (lowered true c.0, ap (option_map (lowered true)) c.1, c.2)

  complete_in : (hops_left : ℕ) → IsComplete (found_in vertices (suc hops_left)) hops_left
  complete_in zero v answer always = complete_first true zero (found_in vertices zero) (vertex_at vertices v) answer tt always
  complete_in (suc hops_left) v answer always =
      complete_first true (suc hops_left) (found_in vertices (suc hops_left)) (vertex_at vertices v) answer (complete_in hops_left) always

  pub complete_at : (hops_left : ℕ) → IsComplete (found_at vertices) hops_left
  complete_at hops_left v answer always =
      let c = complete_in hops_left v answer always in (c.0, found_deep vertices (suc hops_left) v c.0 c.1, c.2)
