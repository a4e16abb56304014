-- The steps of lists and the lists of steps.
use Rattle.std.proofs.Common.{◌≡◌, ℕ, ◌+◌, ◌<◌, Bool, true, false, List, [], ◌∷◌, ◌++◌, length, map, take, Option, Some, None, refl, ◌∙◌, ap, arith}
use Rattle.v6_addr.specs.Address.{PrefixValue}
use Rattle.sid_list_spec.specs.SegmentLists.{ListSid, SidBlock}
use Rattle.list_pack.specs.declared.types.PathStep.{PathStep}
use Rattle.list_pack.specs.declared.types.Container.{Container}
use Rattle.list_pack.specs.declared.types.Container.TheVariants.{Full, Packed}
use Rattle.list_pack.specs.LegsValue.{LegsValue}
use Rattle.list_pack.specs.Costs.{Move}
use Rattle.list_pack.specs.PathsTerms.{sids_of_moves, opened}
use Rattle.list_pack.specs.PathLists.{container_as, staying, asked_after, list_from, moves_by, before_last}
use Rattle.list_pack.specs.SidLists.{prefixes_of, prefixes_in, opens, stays, steps_of, steps_in}
use Rattle.list_pack.proofs.PathsToLists.{steps_by}
use Rattle.list_pack.proofs.ListsToPaths.{prefixes_by, heads, tails}

-- ---- the steps of the list of steps

abbrev GivesBack : (PrefixValue → ListSid) → List PathStep → Type 0
GivesBack sid_on ps = (k : Option SidBlock) → map stays (staying ps) ++ steps_in (list_from sid_on k ps) ≡ ps

steps_as : (k : Option SidBlock) (p : PrefixValue) (ps : List PrefixValue) → steps_of (container_as k p ps) ≡ opens p ∷ map stays ps
steps_as None p ps = refl
steps_as (Some b) p ps = refl

gives_step : (sid_on : PrefixValue → ListSid) (ps : List PathStep) → GivesBack sid_on ps → (b : Bool) (x : PrefixValue)
    → GivesBack sid_on (record { stays = b; prefix = x } ∷ ps)
gives_step sid_on ps rest true x k = ap (λ (qs : List PathStep). stays x ∷ qs) (rest k)
gives_step sid_on ps rest false x k =
    let asked = asked_after k (sid_on x) (map sid_on (staying ps)) in
    ap (λ (qs : List PathStep). qs ++ steps_in (list_from sid_on asked ps)) (steps_as k x (staying ps))
    ∙ ap (λ (qs : List PathStep). opens x ∷ qs) (rest asked)

gives_back : (sid_on : PrefixValue → ListSid) (ps : List PathStep) → GivesBack sid_on ps
gives_back sid_on [] = λ k. refl
gives_back sid_on (p ∷ ps) = gives_step sid_on ps (gives_back sid_on ps) p.stays p.prefix

-- steps whose first opens a container are those of their list
pub steps_back : (sid_on : PrefixValue → ListSid) (k : Option SidBlock) (p : PrefixValue) (ps : List PathStep)
    → steps_in (list_from sid_on k (opens p ∷ ps)) ≡ opens p ∷ ps
steps_back sid_on k p ps = gives_back sid_on (opens p ∷ ps) k

-- as many containers as are opened
length_step : (sid_on : PrefixValue → ListSid) (v : LegsValue) (moves : List Move)
    → ((k : Option SidBlock) → length (list_from sid_on k (steps_by v moves)) ≡ opened moves) → (m : Move) (b : Bool) → m.stays ≡ b
    → (k : Option SidBlock) → length (list_from sid_on k (steps_by v (record { stays = b; sid = m.sid } ∷ moves)))
    ≡ opened (record { stays = b; sid = m.sid } ∷ moves)
length_step sid_on v moves rest m true e k = omega (arith, rest k)
length_step sid_on v moves rest m false e k =
    let more = rest (asked_after k (sid_on (v.shape m.sid).prefix) (map sid_on (staying (steps_by v moves)))) in
    omega (arith, more)

pub list_length : (sid_on : PrefixValue → ListSid) (v : LegsValue) (moves : List Move) (k : Option SidBlock)
    → length (list_from sid_on k (steps_by v moves)) ≡ opened moves
list_length sid_on v [] k = refl
list_length sid_on v (m ∷ ms) k = length_step sid_on v ms (λ j. list_length sid_on v ms j) m m.stays refl k

-- ---- the moves along the steps of a list

abbrev prefix_in : PathStep → PrefixValue
prefix_in p = p.prefix

map_append : (xs ys : List PathStep) → map prefix_in (xs ++ ys) ≡ map prefix_in xs ++ map prefix_in ys
map_append [] ys = refl
map_append (x ∷ xs) ys = ap (λ (ps : List PrefixValue). x.prefix ∷ ps) (map_append xs ys)

stay_prefixes : (ps : List PrefixValue) → map prefix_in (map stays ps) ≡ ps
stay_prefixes [] = refl
stay_prefixes (p ∷ ps) = ap (λ (qs : List PrefixValue). p ∷ qs) (stay_prefixes ps)

container_prefixes : (c : Container) → map prefix_in (steps_of c) ≡ prefixes_of c
container_prefixes (Full p ps) = ap (λ (qs : List PrefixValue). p ∷ qs) (stay_prefixes ps)
container_prefixes (Packed p ps) = ap (λ (qs : List PrefixValue). p ∷ qs) (stay_prefixes ps)

pub steps_prefixes : (cs : List Container) → map (λ (p : PathStep). p.prefix) (steps_in cs) ≡ prefixes_in cs
steps_prefixes [] = refl
steps_prefixes (c ∷ cs) =
    map_append (steps_of c) (steps_in cs) ∙ ap (λ (ps : List PrefixValue). ps ++ map prefix_in (steps_in cs)) (container_prefixes c)
    ∙ ap (λ (ps : List PrefixValue). prefixes_of c ++ ps) (steps_prefixes cs)

pub moves_sids : (v : LegsValue) (ns : List ℕ) (ps : List PathStep)
    → prefixes_by v ns ≡ take (length ns) (map (λ (p : PathStep). p.prefix) ps) → sids_of_moves (moves_by ns ps) ≡ ns
moves_sids v [] ps e = refl
moves_sids v (n ∷ ns) [] e = absurd (cc)
moves_sids v (n ∷ ns) (p ∷ ps) e =
    ap (λ (ms : List ℕ). n ∷ ms) (moves_sids v ns ps (tails (v.shape n).prefix p.prefix _ _ e))

pub moves_steps : (v : LegsValue) (ns : List ℕ) (ps : List PathStep)
    → prefixes_by v ns ≡ take (length ns) (map (λ (p : PathStep). p.prefix) ps) → steps_by v (moves_by ns ps) ≡ take (length ns) ps
moves_steps v [] ps e = refl
moves_steps v (n ∷ ns) [] e = absurd (cc)
moves_steps v (n ∷ ns) (p ∷ ps) e =
    ap (λ (x : PrefixValue). record { stays = p.stays; prefix = x } ∷ steps_by v (moves_by ns ps))
    (heads (v.shape n).prefix p.prefix _ _ e)
    ∙ ap (λ (qs : List PathStep). p ∷ qs) (moves_steps v ns ps (tails (v.shape n).prefix p.prefix _ _ e))

-- more SIDs than stand before the last container: each container is opened
abbrev Reach : List PrefixValue → List Container → List ℕ → Type 0
Reach ps [] ns = Unit {0}
Reach ps (c ∷ cs) ns = length ps + before_last (c ∷ cs) < length ns

reach_more : (p : PrefixValue) (ps : List PrefixValue) (cs : List Container) (n : ℕ) (ns : List ℕ) → Reach (p ∷ ps) cs (n ∷ ns)
    → Reach ps cs ns
reach_more p ps [] n ns h = tt
reach_more p ps (c ∷ cs) n ns h = omega (arith, h)

reach_full : (p : PrefixValue) (ps : List PrefixValue) (cs : List Container) (n : ℕ) (ns : List ℕ)
    → before_last (Full p ps ∷ cs) < length (n ∷ ns) → Reach ps cs ns
reach_full p ps [] n ns h = tt
reach_full p ps (c ∷ cs) n ns h = omega (arith, h)

reach_packed : (p : PrefixValue) (ps : List PrefixValue) (cs : List Container) (n : ℕ) (ns : List ℕ)
    → before_last (Packed p ps ∷ cs) < length (n ∷ ns) → Reach ps cs ns
reach_packed p ps [] n ns h = tt
reach_packed p ps (c ∷ cs) n ns h = omega (arith, h)

opened_from : (ns : List ℕ) (ps : List PrefixValue) (cs : List Container) → Reach ps cs ns
    → opened (moves_by ns (map stays ps ++ steps_in cs)) ≡ length cs
opened_from [] ps [] h = refl
opened_from [] ps (c ∷ cs) h = absurd (omega (arith, h))
opened_from (n ∷ ns) (p ∷ ps) cs h =
    let rest = opened_from ns ps cs (reach_more p ps cs n ns h) in
    omega (arith, rest)
opened_from (n ∷ ns) [] [] h = refl
opened_from (n ∷ ns) [] (Full p ps ∷ cs) h =
    let more : before_last (Full p ps ∷ cs) < length (n ∷ ns) = omega (arith, h) in
    let rest = opened_from ns ps cs (reach_full p ps cs n ns more) in
    omega (arith, rest)
opened_from (n ∷ ns) [] (Packed p ps ∷ cs) h =
    let more : before_last (Packed p ps ∷ cs) < length (n ∷ ns) = omega (arith, h) in
    let rest = opened_from ns ps cs (reach_packed p ps cs n ns more) in
    omega (arith, rest)

pub list_opened : (ns : List ℕ) (cs : List Container) → before_last cs < length ns → opened (moves_by ns (steps_in cs)) ≡ length cs
list_opened ns [] h = opened_from ns [] [] tt
list_opened ns (c ∷ cs) h = opened_from ns [] (c ∷ cs) (omega (arith, h))
