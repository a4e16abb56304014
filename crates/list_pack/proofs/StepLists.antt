-- A legal list is the list of its steps.
use Rattle.std.proofs.Common.{◌≡◌, List, [], ◌∷◌, ◌++◌, map, Option, Some, None, refl, ◌∙◌, ap, subst}
use Rattle.v6_addr.specs.Address.{PrefixValue}
use Rattle.net_model.specs.Network.{Network}
use Rattle.sid_list_spec.specs.SegmentLists.{ListSid, SidBlock, Follow, IsLegal}
use Rattle.list_pack.specs.declared.types.PathStep.{PathStep}
use Rattle.list_pack.specs.declared.types.Container.{Container}
use Rattle.list_pack.specs.declared.types.Container.TheVariants.{Full, Packed}
use Rattle.list_pack.specs.PathLists.{container_by, staying, asked_after, list_from, list_of}
use Rattle.list_pack.specs.SidLists.{list_sid, list_in, stays, steps_in}
use Rattle.list_pack.proofs.PathLaws.{list_same}

-- after the steps that stay comes one that opens a container
none_stay : (cs : List Container) → staying (steps_in cs) ≡ []
none_stay [] = refl
none_stay (Full p ps ∷ cs) = refl
none_stay (Packed p ps ∷ cs) = refl

staying_back : (ps : List PrefixValue) (cs : List Container) → staying (map stays ps ++ steps_in cs) ≡ ps
staying_back [] cs = none_stay cs
staying_back (p ∷ ps) cs = ap (λ (qs : List PrefixValue). p ∷ qs) (staying_back ps cs)

module _ (sid_on : PrefixValue → ListSid) where
  -- they open none
  past_stays : (k : Option SidBlock) (ps : List PrefixValue) (steps : List PathStep)
      → list_from sid_on k (map stays ps ++ steps) ≡ list_from sid_on k steps
  past_stays k [] steps = refl
  past_stays k (p ∷ ps) steps = past_stays k ps steps

  list_back : (k : Option SidBlock) (cs : List Container) → Follow k (map (container_by sid_on) cs)
      → list_from sid_on k (steps_in cs) ≡ cs
  list_back k [] legal = refl
  list_back None (Full p ps ∷ cs) legal =
      let steps : List PathStep = map stays ps ++ steps_in cs in
      ap (λ (qs : List PrefixValue). Full p qs ∷ list_from sid_on (asked_after None (sid_on p) (map sid_on qs)) steps) (staying_back ps cs)
      ∙ ap (λ (more : List Container). Full p ps ∷ more)
      (past_stays (asked_after None (sid_on p) (map sid_on ps)) ps (steps_in cs)
      ∙ list_back (asked_after None (sid_on p) (map sid_on ps)) cs legal.1)
  list_back None (Packed p ps ∷ cs) legal = absurd legal
  list_back (Some b) (Full p ps ∷ cs) legal = absurd legal
  list_back (Some b) (Packed p ps ∷ cs) legal =
      let steps : List PathStep = map stays ps ++ steps_in cs in
      ap (λ (qs : List PrefixValue). Packed p qs ∷ list_from sid_on (asked_after (Some b) (sid_on p) (map sid_on qs)) steps)
      (staying_back ps cs)
      ∙ ap (λ (more : List Container). Packed p ps ∷ more)
      (past_stays (asked_after (Some b) (sid_on p) (map sid_on ps)) ps (steps_in cs)
      ∙ list_back (asked_after (Some b) (sid_on p) (map sid_on ps)) cs legal.1)

legal_back : (net : Network) (list : List Container) → IsLegal (map (container_by (list_sid net)) list)
    → list_of net (steps_in list) ≡ list
legal_back net [] legal = absurd legal
legal_back net (c ∷ cs) legal = list_back (list_sid net) None (c ∷ cs) legal

pub steps_list : (net : Network) (list : List Container) → IsLegal (list_in net list) → list_of net (steps_in list) ≡ list
steps_list net list legal = legal_back net list (subst IsLegal (list_same net list) legal)
