-- No fault is found exactly where the parts keep the rules, and each SID has the keys that its behaviour takes.
use Rattle.std.proofs.Common.{◌≡◌, ◌∙◌, ◌+◌, Bool, true, false, not, ◌&&◌, ◌||◌, ◌==◌, List, [], ◌∷◌, ◌++◌, length, map, Some, is_some, refl, sym, ap, append_assoc, arith}
use Rattle.std.specs.Prelude.{Result, Ok, Err, slice_get}
use Rattle.std.specs.List.{list_any}
use Rattle.std.proofs.lemmas.Bool.{and_parts}
use Rattle.std.proofs.lemmas.List.{length_push}
use Rattle.srv6_rules.specs.declared.sid.SidEntry.{SidEntry}
use Rattle.srv6_rules.specs.Behaviours.{behaviour_takes_links, behaviour_table, behaviour_policy, behaviour_takes_flavours}
use Rattle.text_faults.specs.declared.text_place.TableKind.TheVariants as tables
use Rattle.text_faults.specs.declared.text_place.FaultPlace.{FaultPlace}
use Rattle.text_faults.specs.declared.fault.TextFault.{TextFault}
use Rattle.text_faults.specs.declared.fault_kind.FaultKind.TheVariants as kinds
use Rattle.text_faults.specs.TextFaults.{fault_at}
use Rattle.net_model.specs.declared.standing.Standing.{Standing}
use Rattle.net_model.specs.Network.{Network}
use Rattle.net_model.specs.NetworkRules.{suits_flavours, block_of}
use Rattle.net_model.specs.NetworkJudging.{is_unknown, is_unknown_policy, is_set_of, suits_compression, first_of, and_then, judged, judge_block, judge_node, judge_link, judge_route, judge_policy, same_answer, fitting, standing_or, suits_keys, judge_joins, judge_flavours, judge_apart, judge_standing, judge_sid, judging}

abbrev Verdict : Type 0
Verdict = Result (Unit {0}) TextFault

no_fault : (fault : TextFault) (done : Unit {0}) → Err fault ≡ Ok done → ⊥
no_fault fault done e = cc

before_ok : (r next : Verdict) → and_then r next ≡ Ok tt → r ≡ Ok tt
before_ok (Ok u) next e = refl
before_ok (Err fault) next e = absurd (no_fault fault tt e)

behind_ok : (r next : Verdict) → and_then r next ≡ Ok tt → next ≡ Ok tt
behind_ok (Ok u) next e = e
behind_ok (Err fault) next e = absurd (no_fault fault tt e)

row_passed : (b : Bool) (fault : TextFault) (rows : List (Bool × TextFault)) → first_of ((b, fault) ∷ rows) ≡ Ok tt
    → (b ≡ false) × (first_of rows ≡ Ok tt)
row_passed true fault rows e = absurd (no_fault fault tt e)
row_passed false fault rows e = (refl, e)

not_false : (b : Bool) → not b ≡ false → b ≡ true
not_false true e = refl
not_false false e = cc

answers_same : (a b : Bool) → same_answer a b ≡ true → a ≡ b
answers_same true b e = sym e
answers_same false true e = cc
answers_same false false e = refl

-- ---- one SID

abbrev made : Bool → Bool → Bool → Bool → Standing
made links table policy twice = record { links = links; table = table; policy = policy; double_flavour = twice }

made_same : (k : Standing) (a b c d : Bool) → k.links ≡ a → k.table ≡ b → k.policy ≡ c → k.double_flavour ≡ d → k ≡ made a b c d
made_same k a b c d links table policy twice =
    ap (λ x. made x k.table k.policy k.double_flavour) links ∙ ap (λ x. made a x k.policy k.double_flavour) table
    ∙ ap (λ x. made a b x k.double_flavour) policy ∙ ap (λ x. made a b c x) twice

keys_same : (k : Standing) (s : SidEntry) → suits_keys k s ≡ true → k.double_flavour ≡ false → k ≡ fitting s
keys_same k s suits once =
    let links = same_answer k.links (behaviour_takes_links s.behaviour) in
    let table = same_answer k.table (is_some (behaviour_table s.behaviour)) in
    let policy = same_answer k.policy (is_some (behaviour_policy s.behaviour)) in
    let none = behaviour_takes_links s.behaviour || (length s.links == 0) in
    let first = and_parts links (table && (policy && none)) suits in
    let second = and_parts table (policy && none) first.1 in
    let third = and_parts policy none second.1 in
    made_same k _ _ _ _ (answers_same _ _ first.0) (answers_same _ _ second.0) (answers_same _ _ third.0) once

stands_well : (net : Network) (k : Standing) (before : List SidEntry) (p : FaultPlace) (s : SidEntry)
    → judge_standing net k before p s ≡ Ok tt → k ≡ fitting s
stands_well net k before p s e =
    let flavours = and_then (judge_flavours net k p s) (judge_apart net.titles before p s) in
    let joins : judge_joins net k p s ≡ Ok tt = before_ok (judge_joins net k p s) flavours e in
    let rest : flavours ≡ Ok tt = behind_ok (judge_joins net k p s) flavours e in
    let fine : judge_flavours net k p s ≡ Ok tt = before_ok (judge_flavours net k p s) (judge_apart net.titles before p s) rest in
    let unknown = fault_at p kinds.UnknownName in
    let structure = fault_at p kinds.BadStructure in
    let flavour = fault_at p kinds.BadFlavour in
    let parts : List (Bool × TextFault) = (list_any (is_unknown (length net.links)) s.links, unknown)
    ∷ (is_unknown_policy (length net.policies) (behaviour_policy s.behaviour), unknown)
    ∷ (behaviour_takes_links s.behaviour && not (is_set_of net.links s.node s.links), structure) ∷ [] in
    let rows : List (Bool × TextFault) = (not (suits_keys k s), structure) ∷ parts in
    let others : List (Bool × TextFault) = (not (suits_flavours (behaviour_takes_flavours s.behaviour) s.psp s.usp s.usd), flavour)
    ∷ (not (suits_compression (block_of net.blocks s.prefix) s), flavour) ∷ [] in
    let node = row_passed (is_unknown (length net.nodes) s.node) unknown rows joins in
    let keys = row_passed (not (suits_keys k s)) structure parts node.1 in
    keys_same k s (not_false (suits_keys k s) keys.0) (row_passed k.double_flavour flavour others fine).0

-- ---- all SIDs

at_its_place : {X : Type 0} (front : List X) (x : X) (rest : List X) → slice_get (front ++ x ∷ rest) (length front) ≡ Some x
at_its_place [] x rest = refl
at_its_place (y ∷ front) x rest = at_its_place front x rest

empty_count : {X : Type 0} (x : X) (xs : List X) → length (x ∷ xs) ≡ 0 → ⊥
empty_count x xs e = omega (arith, e)

module _ (net : Network) (ks : List Standing) where
  all_stand_well : (front rest : List Standing) (before xs : List SidEntry) → ks ≡ front ++ rest → length front ≡ length before
      → length rest ≡ length xs → judged tables.Sid (judge_sid net ks) before xs ≡ Ok tt → rest ≡ map fitting xs
  all_stand_well front [] before [] all placed as_many e = refl
  all_stand_well front [] before (x ∷ xs) all placed as_many e = absurd (empty_count x xs (sym as_many))
  all_stand_well front (k ∷ rest) before [] all placed as_many e = absurd (empty_count k rest as_many)
  all_stand_well front (k ∷ rest) before (x ∷ xs) all placed as_many e =
      let p : FaultPlace = record { table = tables.Sid; item = length before + 1 } in
      let later = judged tables.Sid (judge_sid net ks) (before ++ x ∷ []) xs in
      let here : slice_get ks (length before) ≡ Some k =
      ap (λ l. slice_get l (length before)) all ∙ ap (slice_get (front ++ k ∷ rest)) (sym placed) ∙ at_its_place front k rest in
      let fine : judge_standing net (standing_or x (slice_get ks (length before))) before p x ≡ Ok tt =
      before_ok (judge_sid net ks before p x) later e in
      let well : k ≡ fitting x =
      stands_well net k before p x (sym (ap (λ o. judge_standing net (standing_or x o) before p x) here) ∙ fine) in
      let more : length (front ++ k ∷ []) ≡ length (before ++ x ∷ []) =
      length_push front k ∙ ap (λ n. n + 1) placed ∙ sym (length_push before x) in
      let count : length rest ≡ length xs = omega (arith, as_many) in
      let others : rest ≡ map fitting xs =
      all_stand_well (front ++ k ∷ []) rest (before ++ x ∷ []) xs (all ∙ sym (append_assoc front (k ∷ []) rest)) more count
      (behind_ok (judge_sid net ks before p x) later e) in
      ap (λ first. first ∷ rest) well ∙ ap (λ l. fitting x ∷ l) others

  pub well_from : judging net ks ≡ Ok tt → length ks ≡ length net.sids → ks ≡ map fitting net.sids
  unfolding judging
  well_from e as_many =
      let sids = judged tables.Sid (judge_sid net ks) [] net.sids in
      let policies = and_then (judged tables.Policy judge_policy [] net.policies) sids in
      let routes = and_then (judged tables.Route (judge_route (length net.nodes) net.links) [] net.routes) policies in
      let links = and_then (judged tables.Link (judge_link (length net.nodes)) [] net.links) routes in
      let nodes = and_then (judged tables.Node judge_node [] net.nodes) links in
      let last : sids ≡ Ok tt =
      behind_ok (judged tables.Policy judge_policy [] net.policies) sids
      (behind_ok (judged tables.Route (judge_route (length net.nodes) net.links) [] net.routes) policies
      (behind_ok (judged tables.Link (judge_link (length net.nodes)) [] net.links) routes
      (behind_ok (judged tables.Node judge_node [] net.nodes) links
      (behind_ok (judged tables.Block judge_block [] net.blocks) nodes e)))) in
      all_stand_well [] ks [] net.sids refl refl as_many last

-- SIDs that stand as their behaviours take them are judged as with no standings
judged_alike : (net : Network) (all before xs : List SidEntry) → all ≡ before ++ xs
    → judged tables.Sid (judge_sid net (map fitting all)) before xs ≡ judged tables.Sid (judge_sid net []) before xs
judged_alike net all before [] is = refl
judged_alike net all before (x ∷ xs) is =
    let p : FaultPlace = record { table = tables.Sid; item = length before + 1 } in
    let here : slice_get (map fitting all) (length before) ≡ Some (fitting x) =
    ap (λ l. slice_get (map fitting l) (length before)) is ∙ in_place before x xs in
    let rest = judged_alike net all (before ++ x ∷ []) xs (is ∙ sym (append_assoc before (x ∷ []) xs)) in
    ap (λ o. and_then (judge_standing net (standing_or x o) before p x)
    (judged tables.Sid (judge_sid net (map fitting all)) (before ++ x ∷ []) xs)) here
    ∙ ap (and_then (judge_standing net (fitting x) before p x)) rest
  where
    in_place : (front : List SidEntry) (y : SidEntry) (rest : List SidEntry)
        → slice_get (map fitting (front ++ y ∷ rest)) (length front) ≡ Some (fitting y)
    in_place [] y rest = refl
    in_place (z ∷ front) y rest = in_place front y rest

pub judging_alike : (net : Network) → judging net (map fitting net.sids) ≡ judging net []
unfolding judging
judging_alike net =
    ap (λ last. and_then (judged tables.Block judge_block [] net.blocks) (and_then (judged tables.Node judge_node [] net.nodes)
    (and_then (judged tables.Link (judge_link (length net.nodes)) [] net.links)
    (and_then (judged tables.Route (judge_route (length net.nodes) net.links) [] net.routes)
    (and_then (judged tables.Policy judge_policy [] net.policies) last))))) (judged_alike net net.sids [] net.sids refl)
