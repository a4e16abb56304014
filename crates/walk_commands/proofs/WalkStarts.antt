-- The headend with the compiled list.
use Rattle.std.proofs.Common.{◌≡◌, ℕ, ◌^◌, ◌<◌, ◌≤◌, List, [], ◌∷◌, length, map, refl, sym, ap, ◌∙◌, subst, arith}
use Rattle.std.specs.Prelude.{nat_le, nat_lt}
use Rattle.std.proofs.lemmas.Bool.{and_parts, leb-true, ltb-true}
use Rattle.std.proofs.lemmas.List.{length-map}
use Rattle.v6_addr.specs.declared.address.Addr.{Addr}
use Rattle.srv6_rules.specs.PoliciesTerms.{IsPolicy}
use Rattle.net_model.specs.Network.{Network}
use Rattle.intent_reader.specs.declared.intent.Intent.{Intent}
use Rattle.intent_reader.specs.IntentRulesTerms.{IsIntent, is_intent}
use Rattle.sid_list_spec.specs.SegmentLists.{IsLegal}
use Rattle.list_pack.specs.declared.types.Container.{Container}
use Rattle.list_pack.specs.SidLists.{list_in, list_values}
use Rattle.path_compiler.specs.declared.compiled.Compiled.{Compiled}
use Rattle.compile_commands.specs.CompiledLists.{IsCompiledFor}
use Rattle.run_commands.specs.AdmissionTerms.{AllEnterIn, EntersIn}
use Rattle.walk_commands.specs.declared.headend.Headend.{Headend}
use Rattle.walk_commands.specs.WalkCommand.{AtHeadend, NotRead, Dropped, Enters, at_headend, admission_at_headend, admission_of, headend_of, policy_of, segment_of}

-- ---- the segments

pub addresses_of : (values : List ℕ) (segments : List Addr) → map (λ (a : Addr). a.value) segments ≡ values
    → segments ≡ map segment_of values
addresses_of [] [] e = refl
addresses_of (v ∷ vs) [] e = absurd (cc)
addresses_of [] (a ∷ more) e = absurd (cc)
addresses_of (v ∷ vs) (a ∷ more) e =
    let first : a.value ≡ v = head_same a.value v (map (λ (x : Addr). x.value) more) vs e in
    let rest : map (λ (x : Addr). x.value) more ≡ vs = tail_same a.value v (map (λ (x : Addr). x.value) more) vs e in
    ap (λ (x : ℕ). segment_of x ∷ more) first
    ∙ ap (λ (xs : List Addr). segment_of v ∷ xs) (addresses_of vs more rest)
  where
    head_same : (x y : ℕ) (xs ys : List ℕ) → Path (List ℕ) (x ∷ xs) (y ∷ ys) → x ≡ y
    head_same x y xs ys h = cc

    tail_same : (x y : ℕ) (xs ys : List ℕ) → Path (List ℕ) (x ∷ xs) (y ∷ ys) → xs ≡ ys
    tail_same x y xs ys h = cc

-- the rules of an intent that the headend asks for
intent_bounds : (net : Network) (intent : Intent) → IsIntent net intent
    → (intent.headend < length net.nodes) × (intent.max_containers ≤ 127) × (intent.flow_label < 2 ^ 20)
unfolding is_intent
intent_bounds net intent h =
    let a = and_parts (nat_lt intent.headend (length net.nodes)) _ h in
    let b = and_parts (nat_le 1 intent.hop_limit) _ a.1 in
    let c = and_parts (nat_le 1 intent.max_containers) _ b.1 in
    let d = and_parts (nat_le intent.max_containers 127) _ c.1 in
    let e = and_parts (nat_lt intent.flow_label (2 ^ 20)) _ d.1 in (
      ltb-true intent.headend (length net.nodes) a.0,
      leb-true intent.max_containers 127 d.0,
      ltb-true intent.flow_label (2 ^ 20) e.0,
    )

-- a legal list has a container
some_containers : (net : Network) (list : List Container) → IsLegal (list_in net list) → 0 < length list
some_containers net [] legal = absurd legal
some_containers net (c ∷ cs) legal = omega arith

pub values_count : (net : Network) (list : List Container) → length (list_values net list) ≡ length list
values_count net list = length-map (list_in net list) _ ∙ length-map list _

-- a compiled list makes a policy
list_fits : (net : Network) (intent : Intent) (c : Compiled) → IsIntent net intent → IsCompiledFor net intent c
    → IsPolicy (policy_of net intent c)
list_fits net intent c is compiled =
    let bounds = intent_bounds net intent is in
    let some = some_containers net c.list compiled.found.chosen.whole.legal.rules in
    let count : length (map segment_of (list_values net c.list)) ≡ length c.list
    = length-map (list_values net c.list) segment_of ∙ values_count net c.list in
    let containers = compiled.found.containers in
    let short = compiled.short in
    let most = bounds.1 in
    record {
      some = omega (arith, some, count);
      most = omega (arith, count, containers, short, most);
      flow_label = bounds.2;
    }

-- ---- the headend with a list: what it puts in front of packets is a policy, and packets enter within the network

pub headend_ready : (net : Network) (intent : Intent) (c : Compiled) (h : Headend) → IsIntent net intent → IsCompiledFor net intent c
    → h ≡ headend_of net intent c → IsPolicy h.policy
headend_ready net intent c h is compiled same =
    subst (λ (h : Headend). IsPolicy h.policy) (sym same) (list_fits net intent c is compiled)

enters_within : (net : Network) (node : ℕ) (at : AtHeadend) → node < length net.nodes → EntersIn net (admission_of node at)
enters_within net node (NotRead cause) there = tt
enters_within net node (Dropped reason) there = there
enters_within net node (Enters content) there = (there, tt)

pub headend_within : (net : Network) (intent : Intent) (c : Compiled) (h : Headend) → IsIntent net intent → h ≡ headend_of net intent c
    → AllEnterIn net (admission_at_headend h)
headend_within net intent c h is same body =
    let there : h.node < length net.nodes = subst (λ (h : Headend). h.node < length net.nodes) (sym same) (intent_bounds net intent is).0 in
    enters_within net h.node (at_headend h.policy h.inner body) there

pub ruleset segments = (addresses_of)
