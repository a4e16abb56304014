-- The text of a certificate is UTF-8.
use Rattle.std.proofs.Common.{◌≡◌, ℕ, ◌<◌, ◌^◌, Bool, true, false, List, [], ◌∷◌, ◌++◌, All, Contains, Option, Some, None, map, slice_get, get_or, refl, sym, subst, arith}
use Rattle.std.specs.Prelude.{codes, if◌then◌else◌}
use Rattle.std.specs.Fmt.{decimal}
use Rattle.std.specs.List.{flat_map}
use Rattle.std.specs.Str.{IsUtf8}
use Rattle.std.proofs.lemmas.List.Elements.{All-append, All-cons, All-head, All-map, All-nil, All-tail}
use Rattle.std.proofs.lemmas.Option.{slice_get-get_or, get_or_from_slice_get}
use Rattle.v6_addr.specs.Address.{PrefixValue}
use Rattle.v6_addr.specs.AddressTerms.{IsPrefix}
use Rattle.v6_addr.specs.Text.{prefix_text}
use Rattle.srv6_rules.specs.declared.sid.SidEntry.{SidEntry}
use Rattle.net_model.specs.declared.parts.Node.{Node}
use Rattle.net_model.specs.Network.{Network}
use Rattle.net_model.specs.NetworkKeeps.{Keeps, KeepsSid}
use Rattle.trace_replay.proofs.WordTexts.{decimal_word, name_word, prefix_word}
use Rattle.list_pack.specs.declared.types.Container.{Container}
use Rattle.list_pack.specs.declared.types.Container.TheVariants as containers
use Rattle.list_pack.specs.declared.types.Cost.{Cost}
use Rattle.list_pack.specs.declared.types.PathStep.{PathStep}
use Rattle.list_pack.specs.declared.types.Potential.{Potential}
use Rattle.list_pack.specs.declared.types.Solution.{Solution}
use Rattle.list_pack.specs.LegsValue.{LegsValue}
use Rattle.list_pack.specs.LegsValueTerms.{KeepsLaws}
use Rattle.list_pack.specs.Least.{IsListing}
use Rattle.list_pack.specs.SidLists.{IsSidPrefix, opens, prefixes_in, prefixes_of, stays, steps_in, steps_of}
use Rattle.list_certificate.specs.declared.certificate_types.Form.{Form}
use Rattle.list_certificate.specs.declared.certificate_types.Form.TheVariants.{First, Second}
use Rattle.list_certificate.specs.Spelling.{cost_text, end_text, form_of, head_text, is_shared, name_by, new_text, none_text, placed_text, potential_of_text, potential_text, sid_text, sid_text_by, spelled, start_text, state_text, state_text_by, stay_text, step_text, way_text}
use Rattle.list_certificate.proofs.Bounds.{containers_few, hops_few, sids_shown}
use Rattle.list_certificate.proofs.LineWords.{HasNumbers, position_few, room_few}
use Rattle.pce_answers.proofs.PlainTexts.{IsPlain, plain_append, plain_flat, plain_text, plain_then, word_plain}

number_plain : (n : ℕ) → n < 2 ^ 32 → IsPlain (decimal n)
number_plain n few = word_plain (decimal n) (decimal_word n few)

prefix_plain : (p : PrefixValue) → IsPrefix p → IsPlain (prefix_text p)
prefix_plain p is = word_plain (prefix_text p) (prefix_word p is)

-- a mark between two parts
parted : (xs : List ℕ) (mark : ℕ) (ys : List ℕ) → IsPlain (mark ∷ []) → IsPlain xs → IsPlain ys → IsPlain (xs ++ mark ∷ ys)
parted xs mark ys m a b = plain_append xs (mark ∷ ys) a (plain_append (mark ∷ []) ys m b)

-- of two lists one after the other
all_left : {X : Type 0} (P : X → Type 0) (xs ys : List X) → All P (xs ++ ys) → All P xs
all_left P [] ys h = All-nil P
all_left P (x ∷ xs) ys h = All-cons P x xs (All-head P x (xs ++ ys) h) (all_left P xs ys (All-tail P x (xs ++ ys) h))

all_right : {X : Type 0} (P : X → Type 0) (xs ys : List X) → All P (xs ++ ys) → All P ys
all_right P [] ys h = h
all_right P (x ∷ xs) ys h = all_right P xs ys (All-tail P x (xs ++ ys) h)

-- ---- costs

cost_plain : (form : Form) (c : Cost) → HasNumbers form c → IsPlain (cost_text form c)
unfolding cost_text
cost_plain First c h =
    parted (decimal c.containers) 32 (decimal c.hops) refl (number_plain c.containers h.containers) (number_plain c.hops h.hops)
cost_plain Second c h =
    parted (decimal c.containers) 32 (decimal c.sids ++ 32 ∷ decimal c.hops) refl (number_plain c.containers h.containers)
    (parted (decimal c.sids) 32 (decimal c.hops) refl (number_plain c.sids h.sids) (number_plain c.hops h.hops))

-- ---- states

module _ (net : Network) (keeps : Keeps net) where
  node_plain : (n : ℕ) (o : Option Node) → slice_get net.nodes n ≡ o → IsPlain (name_by o)
  node_plain n None e = refl
  node_plain n (Some node) e = word_plain node.name (name_word node.name (keeps.node n node e).name)

  entry_plain : (s : SidEntry) → KeepsSid net s → (shared : Bool)
      → IsPlain (if shared then prefix_text s.prefix ++ 64 ∷ name_by (slice_get net.nodes s.node) else prefix_text s.prefix)
  entry_plain s is true =
      parted (prefix_text s.prefix) 64 (name_by (slice_get net.nodes s.node)) refl (prefix_plain s.prefix is.prefix)
      (node_plain s.node (slice_get net.nodes s.node) refl)
  entry_plain s is false = prefix_plain s.prefix is.prefix

  sid_plain : (n : ℕ) (o : Option SidEntry) → slice_get net.sids n ≡ o → IsPlain (sid_text_by net o)
  sid_plain n None e = refl
  sid_plain n (Some s) e = entry_plain s (keeps.sid n s e) (is_shared net s.prefix)

  state_plain : (position : ℕ) (via : Option ℕ) (room : ℕ) → position < 2 ^ 32 → room < 2 ^ 32
      → IsPlain (state_text_by net position via room)
  unfolding start_text placed_text
  state_plain position None room p r = refl
  state_plain position (Some n) room p r =
      parted (decimal position) 32 (sid_text net n ++ 32 ∷ decimal room) refl (number_plain position p)
      (parted (sid_text net n) 32 (decimal room) refl (sid_plain n (slice_get net.sids n) refl) (number_plain room r))

  -- ---- potentials

  line_plain : (state cost : List ℕ) → IsPlain state → IsPlain cost → IsPlain (potential_of_text state cost)
  unfolding potential_of_text
  line_plain state cost s c =
      plain_append (codes "potential ") (state ++ 32 ∷ (cost ++ 10 ∷ [])) refl
      (parted state 32 (cost ++ 10 ∷ []) refl s (parted cost 10 [] refl c refl))

  potentials_plain : (v : LegsValue) → KeepsLaws v → (qs : List Potential) → IsListing v qs
      → All (λ q. IsPlain (potential_text net (form_of v.sid_cost) q)) qs
  potentials_plain v laws qs is k d h =
      let q : Potential = get_or qs k d in
      let among : Contains qs q = (k, h, get_or_from_slice_get qs k q q (slice_get-get_or qs k d h)) in
      let at = (is.exact q among).0 in
      let position = position_few v laws q.state.position q.state.via q.state.room at in
      let room = room_few v q.state.position q.state.via q.state.room at in
      line_plain (state_text net q.state) (cost_text (form_of v.sid_cost) q.cost)
      (state_plain q.state.position q.state.via q.state.room (omega (arith, position)) (omega (arith, room)))
      (cost_plain (form_of v.sid_cost) q.cost (record {
        containers = containers_few v laws qs is q among;
        sids = sids_shown v laws qs is q among;
        hops = hops_few v laws qs is q among;
      }))

  -- ---- the path

  abbrev StepIs : PathStep → Type 0
  StepIs step = IsPrefix step.prefix

  turn_plain : (p : PrefixValue) → IsPrefix p → (stay : Bool) → IsPlain (if stay then stay_text p else new_text p)
  unfolding stay_text new_text
  turn_plain p is true =
      plain_append (codes "path stay ") (prefix_text p ++ 10 ∷ []) refl (parted (prefix_text p) 10 [] refl (prefix_plain p is) refl)
  turn_plain p is false =
      plain_append (codes "path new ") (prefix_text p ++ 10 ∷ []) refl (parted (prefix_text p) 10 [] refl (prefix_plain p is) refl)

  steps_plain : (path : List PathStep) → All StepIs path → All (λ step. IsPlain (step_text step)) path
  steps_plain [] h = All-nil (λ (step : PathStep). IsPlain (step_text step))
  steps_plain (step ∷ more) h =
      All-cons (λ (s : PathStep). IsPlain (step_text s)) step more (turn_plain step.prefix (All-head StepIs step more h) step.stays)
      (steps_plain more (All-tail StepIs step more h))

  way_plain : (path : List PathStep) → All StepIs path → IsPlain (way_text path)
  unfolding none_text
  way_plain [] h = refl
  way_plain (step ∷ more) h = plain_flat step_text (step ∷ more) (steps_plain (step ∷ more) h)

  head_plain : (form : Form) → IsPlain (head_text form)
  unfolding head_text
  head_plain First = refl
  head_plain Second = refl

  end_plain : IsPlain end_text
  unfolding end_text
  end_plain = refl

  pub certificate_is_text : (v : LegsValue) (s : Solution) → KeepsLaws v → IsListing v s.potentials → All StepIs s.path
      → IsUtf8 (spelled net v.sid_cost s)
  certificate_is_text v s laws is path =
      let form = form_of v.sid_cost in
      let potentials = flat_map (potential_text net form) s.potentials in
      let front = plain_append (head_text form) potentials (head_plain form)
      (plain_flat (potential_text net form) s.potentials (potentials_plain v laws s.potentials is)) in
      let way = plain_append (head_text form ++ potentials) (way_text s.path) front (way_plain s.path path) in
      plain_text (spelled net v.sid_cost s) (plain_append ((head_text form ++ potentials) ++ way_text s.path) end_text way end_plain)

  -- ---- the steps of a list whose prefixes are those of SIDs

  prefix_is : (p : PrefixValue) → IsSidPrefix net p → IsPrefix p
  prefix_is p is = subst IsPrefix is.3 (keeps.sid is.0 is.1 is.2).prefix

  container_steps : (first : PrefixValue) (more : List PrefixValue) → All (IsSidPrefix net) (first ∷ more)
      → All StepIs (opens first ∷ map stays more)
  container_steps first more h =
      All-cons StepIs (opens first) (map stays more) (prefix_is first (All-head (IsSidPrefix net) first more h))
      (All-map StepIs stays more (λ k d g. prefix_is (get_or more k d) (All-tail (IsSidPrefix net) first more h k d g)))

  container_is : (c : Container) → All (IsSidPrefix net) (prefixes_of c) → All StepIs (steps_of c)
  container_is (containers.Full first more) h = container_steps first more h
  container_is (containers.Packed first more) h = container_steps first more h

  pub list_steps : (list : List Container) → All (IsSidPrefix net) (prefixes_in list) → All StepIs (steps_in list)
  list_steps [] h = All-nil StepIs
  list_steps (c ∷ cs) h =
      All-append StepIs (steps_of c) (steps_in cs)
      (container_is c (all_left (IsSidPrefix net) (prefixes_of c) (prefixes_in cs) h))
      (list_steps cs (all_right (IsSidPrefix net) (prefixes_of c) (prefixes_in cs) h))
