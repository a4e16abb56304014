-- The numbers of vertices.
use Rattle.std.proofs.Common.{◌≡◌, ℕ, zero, suc, ◌+◌, ◌*◌, ◌<◌, ◌≤◌, List, [], ◌∷◌, ◌++◌, length, true, Option, Some, None, refl, sym, ◌∙◌, ap, subst, arith, length-append, append_assoc}
use Rattle.std.specs.Prelude.{IfSome}
use Rattle.std.proofs.Math.Nat.{mul-le-mul_left}
use Rattle.net_model.specs.Network.{Network}
use Rattle.net_model.specs.NetworkKeeps.{Keeps}
use Rattle.net_model.specs.LookupTables.{TableOf}
use Rattle.srv6_rules.specs.declared.family.Family.TheVariants as families
use Rattle.walk_rules.specs.declared.place.Place.{Place}
use Rattle.walk_rules.specs.Way.{Way, NoWay, Over, Own, Into, way_of, way_by_table}
use Rattle.walk_rules.proofs.PublicLaws.{way_into}
use Rattle.choice_graph.specs.declared.vertices.Vertex.{Vertex}
use Rattle.intent_traces.specs.declared.trace_steps.TraceStep.{TraceStep}
use Rattle.intent_traces.specs.Traces.{Crossed, count_left, left_behind}
use Rattle.loose_walks.specs.WalkStops.{ends_in}
use Rattle.loose_walks.specs.WayGraphs.{arrived, vertex_behind, next_vertex, numbers_of, row_from}
use Rattle.loose_walks.specs.WayGraphsTerms.{number_behind, IsInto}
use Rattle.loose_walks.proofs.Quiet.{left_steps, end_there}

pub small_product : (a b : ℕ) → a ≤ 49 → b ≤ 256 → a * b ≤ 12544
small_product a b few low = let h : a * b ≤ a * 256 = mul-le-mul_left a low in omega arith

number_is : (net : Network) (count : ℕ) (o : Option (List TraceStep)) (end : Option ℕ)
    → vertex_behind (numbers_of net count) o end ≡ number_behind (length net.nodes) ((count + 1) * length net.nodes) (count_left o) end
number_is net count None end = refl
number_is net count (Some us) None = refl
number_is net count (Some us) (Some node) = refl

pub next_is : (net : Network) (count link result size lost : ℕ) (left : List TraceStep) (behind : Option ℕ) (end : Option ℕ)
    → size ≡ length net.nodes → lost ≡ (count + 1) * size → end ≡ ends_in net link
    → behind ≡ count_left (left_behind (ends_in net) left (Crossed link))
    → result ≡ number_behind size lost behind end → result ≡ next_vertex net (numbers_of net count) left link
next_is net count link result size lost left behind end size_is lost_is end_is behind_is e =
    e ∙ ap (λ (n : ℕ). number_behind n lost behind end) size_is
    ∙ ap (λ (n : ℕ). number_behind (length net.nodes) n behind end) (lost_is ∙ ap (λ (n : ℕ). (count + 1) * n) size_is)
    ∙ ap (λ (o : Option ℕ). number_behind (length net.nodes) ((count + 1) * length net.nodes) o end) behind_is
    ∙ ap (number_behind (length net.nodes) ((count + 1) * length net.nodes) (count_left (left_behind (ends_in net) left (Crossed link))))
    end_is
    ∙ sym (number_is net count (left_behind (ends_in net) left (Crossed link)) (ends_in net link))

pub behind_few : (net : Network) (left : List TraceStep) (link : ℕ) (behind : Option ℕ) → length left ≤ 48
    → behind ≡ count_left (left_behind (ends_in net) left (Crossed link)) → IfSome behind (λ n. n ≤ 48)
behind_few net left link behind few e =
    subst (λ (o : Option ℕ). IfSome o (λ n. n ≤ 48)) (sym e) (by_left (left_behind (ends_in net) left (Crossed link)) refl)
  where
    by_left : (o : Option (List TraceStep)) → left_behind (ends_in net) left (Crossed link) ≡ o → IfSome (count_left o) (λ n. n ≤ 48)
    by_left None is = tt
    by_left (Some us) is =
        let l = left_steps (ends_in net) left us (Crossed link) is in
        let long : length left ≡ length l.0 + length us = ap length l.1 ∙ length-append l.0 us in
        omega arith

pub end_few : (net : Network) → Keeps net → (link size : ℕ) (end : Option ℕ) → size ≡ length net.nodes → end ≡ ends_in net link
    → IfSome end (λ node. node < size)
end_few net keeps link size end size_is e = by_end end e
  where
    by_end : (o : Option ℕ) → o ≡ ends_in net link → IfSome o (λ node. node < size)
    by_end None is = tt
    by_end (Some node) is =
        subst (λ (k : ℕ). node < k) (sym size_is) (end_there net keeps link node (sym is))

-- ---- rows

row_push : (value : ℕ → Vertex) (node count : ℕ) → row_from value node (suc count) ≡ row_from value node count ++ (value (node + count) ∷ [])
row_push value node zero = let n : node ≡ node + 0 = omega arith in ap (λ (k : ℕ). value k ∷ []) n
row_push value node (suc count) =
    let n : suc node + count ≡ node + suc count = omega arith in
    ap (λ (xs : List Vertex). value node ∷ xs)
    (row_push value (suc node) count ∙ ap (λ (k : ℕ). row_from value (suc node) count ++ (value k ∷ [])) n)

pub row_more : (value : ℕ → Vertex) (node : ℕ) (items next before : List Vertex) (vertex : Vertex) → items ≡ before ++ row_from value 0 node
    → next ≡ items ++ (vertex ∷ []) → vertex ≡ value node → next ≡ before ++ row_from value 0 (node + 1)
row_more value node items next before vertex so_far pushed is =
    let n : 0 + node ≡ node = omega arith in
    let m : suc node ≡ node + 1 = omega arith in
    pushed ∙ ap (λ (xs : List Vertex). xs ++ (vertex ∷ [])) so_far ∙ append_assoc before (row_from value 0 node) (vertex ∷ [])
    ∙ ap (λ (s : Vertex). before ++ (row_from value 0 node ++ (s ∷ []))) (is ∙ ap value (sym n))
    ∙ ap (λ (xs : List Vertex). before ++ xs) (sym (row_push value 0 node))
    ∙ ap (λ (k : ℕ). before ++ row_from value 0 k) m

pub way_arrived : (net : Network) (node destination : ℕ) (table : TableOf) (w : Way)
    → table ≡ record { net = net; node = node; table = 0; family = families.V6 }
    → w ≡ way_by_table table.net table.node table.table table.family true destination → w ≡ way_of net (arrived node) destination
unfolding way_of
way_arrived net node d table w is e = e ∙ ap (λ (t : TableOf). way_by_table t.net t.node t.table t.family true d) is

pub into_there : (net : Network) (place : Place) (destination : ℕ) (w : Way) → w ≡ way_of net place destination → IsInto net w
into_there net place d (NoWay reason) e = tt
into_there net place d (Over set lower) e = tt
into_there net place d Own e = tt
into_there net place d (Into n) e = (way_into net place d n (sym e)).within
