-- The headline, from what `serve` leaves of a run of `walk`.
use Rattle.std.proofs.Common.{◌≡◌, inl, inr, ℕ, ◌*◌, ◌^◌, ◌<◌, ◌≤◌, Bool, true, false, if◌then◌else◌, List, [], ◌∷◌, length, map, Option, None, Some, Result, Ok, Err, refl, sym, ap, ◌∙◌, subst, arith}
use Rattle.std.specs.Prelude.{IsSomeAnd, nat_le, nat_lt}
use Rattle.std.specs.Result.{IsOk}
use Rattle.v6_addr.specs.declared.address.Addr.{Addr}
use Rattle.srv6_rules.specs.declared.family.Family.{Family}
use Rattle.srv6_rules.specs.declared.family.Family.TheVariants as families
use Rattle.srv6_rules.specs.Encapsulation.{header_bytes, inner_lowered}
use Rattle.srv6_rules.specs.Packet.{Content, Packet, V6, V4, Unreadable, spelling}
use Rattle.srv6_rules.specs.Packet4.{lowered4, spelling4, ttl}
use Rattle.srv6_rules.specs.Policies.{InnerHop, Outer, TooBig, most_payload, outer_by, pushed_round}
use Rattle.net_model.specs.Network.{Network}
use Rattle.net_model.specs.NetworkRulesTerms.{IsNetwork}
use Rattle.net_flatness.specs.Flat.{flatness_of, IsFlat}
use Rattle.net_flatness.specs.declared.not_flat.NotFlat.{NotFlat}
use Rattle.net_flatness.proofs.PublicLaws.{flatness_ok}
use Rattle.walk_rules.specs.declared.limits.TheConstants.{MAX_STAGES}
use Rattle.walk_rules.proofs.PublicLaws.{walk_of_list}
use Rattle.intent_reader.specs.Preferences.{sid_cost_of}
use Rattle.intent_reader.specs.declared.intent.Intent.{Intent}
use Rattle.list_pack.specs.declared.types.Container.{Container}
use Rattle.list_pack.specs.SidLists.{IsLegalList, list_values, prefixes_in}
use Rattle.leg_table.specs.Realizes.{IsInner, encapsulation_of, headend_place}
use Rattle.binding_spec.specs.OwnHandCounting.{handed_at_depth}
use Rattle.path_compiler.specs.declared.compiled.Compiled.{Compiled}
use Rattle.path_compiler.specs.declared.compiled.CompileFault.{CompileFault}
use Rattle.path_compiler.specs.declared.compiled.CompileFault.TheVariants as faults
use Rattle.srx_edge.specs.Edge.{file_named}
use Rattle.srx_edge.specs.CallSteps.{Ending, Failing, Wanting, Whole}
use Rattle.command_output.specs.declared.refusal.Refusal.{Refusal}
use Rattle.command_output.specs.Endings.{OnWhole, OrNothing}
use Rattle.command_output.specs.Gathered.{InGroups}
use Rattle.command_output.specs.OutputPieces.{At, AtFiles, AtInput, Elsewhere, Never, Output, Stop, ending_by}
use Rattle.command_output.specs.CommandSpec.{Held, WantedOf}
use Rattle.command_output.proofs.PublicLaws.{groups_whole}
use Rattle.command_inputs.specs.Judgements.{intent_in, network_in}
use Rattle.command_inputs.proofs.PublicLaws.{RulesAreKept, rules_kept}
use Rattle.compile_commands.specs.CompileCommand.{CompiledWants, IntentWants, NetworkWants, Wanted}
use Rattle.compile_commands.specs.CompiledLists.{IntentAnswers, IsCompiledFor, IsLeastFor, ListHandsFor, NoneLessFor}
use Rattle.compile_commands.proofs.PublicLaws.{cost_for}
use Rattle.walk_commands.specs.WalkCommand.{Enters, KeepsTo, WalkWants, WalksKeep, of_content, of_encapsulating, policy_of, segment_of, walk_at_headend}
use Rattle.srv6_cli.specs.Captured.{IsSmallEnough, Wrote, outer_for}
use Rattle.srv6_cli.specs.Commands.{spec_of, walk_by}
use Rattle.srv6_cli.specs.Headline.{Carries, ComesTo, IsCarried, IsNoWorse, WalkRun}
use Rattle.srv6_cli.proofs.Captures.{captured_all, captured_each}
use Rattle.srv6_cli.proofs.ServeHopLimits.{hop_limit_byte}

-- ---- what is wanted of a run that ended, and that all of it was written

never_stopped : (stop : Stop) → ending_by stop ≡ Whole → stop ≡ Never
never_stopped Never e = refl
never_stopped AtFiles e = cc
never_stopped AtInput e = cc
never_stopped (At sink Failing) e = cc
never_stopped (At sink Wanting) e = cc
never_stopped Elsewhere e = cc

-- of the texts that are there
by_texts : (Wants : Wanted) (net : Network) (intent : Intent) (file asked : Option (List ℕ)) (output : Output)
    → IsSomeAnd file (λ text. network_in text ≡ Ok net) → IsSomeAnd asked (λ text. intent_in net text ≡ Ok intent)
    → IsSomeAnd file (λ text. NetworkWants Wants (network_in text) asked output) → CompiledWants Wants net intent output
by_texts Wants net intent None asked output is reads wants = absurd is
by_texts Wants net intent (Some text) None output is reads wants = absurd reads
by_texts Wants net intent (Some text) (Some more) output is reads wants =
    subst (λ (r : Result Intent Refusal). IntentWants Wants net r output) reads
    (subst (λ (r : Result Network Refusal). NetworkWants Wants r (Some more) output) is wants)

network_of : RulesAreKept → (net : Network) (file : Option (List ℕ)) → IsSomeAnd file (λ text. network_in text ≡ Ok net) → IsNetwork net
network_of rules net None is = absurd is
network_of rules net (Some text) is = rules_kept rules text net is

byte_of : (net : Network) (intent : Intent) (asked : Option (List ℕ)) → IsSomeAnd asked (λ text. intent_in net text ≡ Ok intent)
    → intent.hop_limit < 2 ^ 8
byte_of net intent None is = absurd is
byte_of net intent (Some text) is = hop_limit_byte net text intent is

module _ (net : Network) (intent : Intent) (run : WalkRun net intent) where
  abbrev output : Output
  output = run.serves.output

  stop_is : run.serves.stop ≡ Never
  stop_is = never_stopped run.serves.stop (run.serves.ending ∙ run.ended)

  wants : CompiledWants (WalkWants run.words.choices run.words.schedule run.input) net intent output
  wants =
      let spec = spec_of (walk_by run.words) in
      let all = subst (λ (stop : Stop). OrNothing stop output (WantedOf spec run.old.files.told run.old.input.left output)) stop_is
      run.serves.wanted in
      let held = subst (λ (told : Option Held). WantedOf spec told run.old.input.left output) run.files all in
      by_texts (WalkWants run.words.choices run.words.schedule run.input) net intent (file_named run.held run.words.file)
      (file_named run.held run.words.intent) output run.described run.asked
      (subst (λ (left : Option (List ℕ)). WantedOf spec (Some run.held) left output) run.bytes held)

  wrote : Wrote run.old run.new run.status output
  wrote = (
    groups_whole output.pieces run.old.sinks run.new.sinks
        (subst (λ (stop : Stop). InGroups stop output.pieces run.old.sinks run.new.sinks) stop_is run.serves.went),
    sym (subst (λ (ending : Ending). OnWhole ending (output.status ≡ run.status)) run.ended run.serves.status_wanted),
  )

  wrote_as : (other : Output) → output ≡ other → Wrote run.old run.new run.status other
  wrote_as other same = subst (Wrote run.old run.new run.status) same wrote

-- ---- inner packets are carried

-- what enters is the encapsulation

same_values : (values : List ℕ) → map (λ (a : Addr). a.value) (map segment_of values) ≡ values
same_values [] = refl
same_values (v ∷ vs) = ap (λ (more : List ℕ). v ∷ more) (same_values vs)

made : (low big : Bool) (outer : Packet) (len : ℕ) (content : Content)
    → of_encapsulating (if low then InnerHop else (if big then TooBig len else Outer outer)) ≡ Enters content → content ≡ V6 outer
made true big outer len content e = cc
made false true outer len content e = cc
made false false outer len content e = cc

module _ (net : Network) (intent : Intent) (c : Compiled) where
  made_by : (family : Family) (bytes : List ℕ) (hop : ℕ) (content : Content) → intent.inner ≡ family
      → of_encapsulating (if nat_le hop 1 then InnerHop
      else (let p : Packet = outer_by (policy_of net intent c) intent.reduced family bytes in
      if nat_lt most_payload (length p.payload) then TooBig (length p.payload) else Outer p)) ≡ Enters content
      → content ≡ V6 (pushed_round (encapsulation_of intent (list_values net c.list)) intent.inner bytes intent.hop_limit)
  made_by family bytes hop content same e =
      let p : Packet = outer_by (policy_of net intent c) intent.reduced family bytes in
      made (nat_le hop 1) (nat_lt most_payload (length p.payload)) p (length p.payload) content e
      ∙ ap (λ (list : List ℕ). V6 (pushed_round (encapsulation_of intent list) family bytes intent.hop_limit))
      (same_values (list_values net c.list))
      ∙ ap (λ (f : Family). V6 (pushed_round (encapsulation_of intent (list_values net c.list)) f bytes intent.hop_limit)) (sym same)

  enters_as : (family : Family) (inner content : Content) → intent.inner ≡ family → IsInner family inner
      → of_content (policy_of net intent c) inner ≡ Enters content → content ≡ outer_for net intent c inner
  enters_as families.V6 (V6 p) content same is e = made_by families.V6 (spelling (inner_lowered p)) p.hop_limit content same e
  enters_as families.V6 (V4 p) content same is e = absurd is
  enters_as families.V6 (Unreadable bytes reason) content same is e = absurd is
  enters_as families.V4 (V4 p) content same is e = made_by families.V4 (spelling4 (lowered4 p)) (ttl p) content same e
  enters_as families.V4 (V6 p) content same is e = absurd is
  enters_as families.V4 (Unreadable bytes reason) content same is e = absurd is

-- what `serve` says of the walks of the choices in its words, of all choices: by the law `a_walk_keeps_to_the_intent`
abbrev pub AllWalksKeep : Type 0
AllWalksKeep = (net : Network) (intent : Intent) (c : Compiled) (choices : List ℕ) → IsNetwork net → intent.hop_limit < 2 ^ 8
    → IsCompiledFor net intent c → 0 < length choices → WalksKeep net intent c choices

keeps_to : (net : Network) (intent : Intent) (c : Compiled) (choices : List ℕ) (inner : Content) → WalksKeep net intent c choices
    → IsInner intent.inner inner → IsSmallEnough net intent c inner → KeepsTo net intent c choices inner
keeps_to net intent c choices inner walks is (inl small) = walks.small inner is small
keeps_to net intent c choices inner walks is (inr (inl realizes, fits)) = (walks.strict realizes inner fits).keeps
keeps_to net intent c choices inner walks is (inr (inr (inl none), fits)) = (walks.plain none inner fits).keeps
keeps_to net intent c choices inner walks is (inr (inr (inr reach), fits)) = (walks.loose reach inner fits).keeps

module _ (keeps : AllWalksKeep) (net : Network) (intent : Intent) (c : Compiled) (network : IsNetwork net)
    (byte : intent.hop_limit < 2 ^ 8) (compiled : IsCompiledFor net intent c) (inner : Content) (is : IsInner intent.inner inner)
    (small : IsSmallEnough net intent c inner) where
  abbrev outer : Content
  outer = outer_for net intent c inner

  module _ (choices : List ℕ) (some : 0 < length choices) where
    abbrev kept : KeepsTo net intent c choices inner
    kept = keeps_to net intent c choices inner (keeps net intent c choices network byte compiled some) is small

    same_outer : kept.outer ≡ outer
    same_outer = enters_as net intent c intent.inner inner kept.outer refl is kept.enters

    kept_enters : of_content (policy_of net intent c) inner ≡ Enters outer
    kept_enters = kept.enters ∙ ap Enters same_outer

    kept_own : handed_at_depth net 0 (walk_at_headend net intent choices outer) ≡ Some kept.handed
    kept_own =
        subst (λ (content : Content). handed_at_depth net 0 (walk_at_headend net intent choices content) ≡ Some kept.handed) same_outer
        kept.own

  enters : of_content (policy_of net intent c) inner ≡ Enters outer
  enters = kept_enters (0 ∷ []) (omega arith)

  -- each walk is one of a list of choices
  carried : (pick : ℕ → ℕ) → IsCarried net intent c inner pick
  carried pick =
      let listed = walk_of_list MAX_STAGES net (Some (headend_place intent)) outer pick in
      record {
        enters = enters;
        handed = (kept listed.0 listed.1).handed;
        over = ap (handed_at_depth net 0) listed.2 ∙ kept_own listed.0 listed.1;
        in_order = (kept listed.0 listed.1).steps;
        lowered = (kept listed.0 listed.1).lowered;
      }

-- a list that hands over even one inner packet is no better
no_worse : (net : Network) (intent : Intent) (c : Compiled) → IsCompiledFor net intent c → IsLeastFor net intent c
    → (other : List Container) (hop : ℕ) → IsLegalList net other → ListHandsFor net intent other hop → IsNoWorse intent c.list other
no_worse net intent c compiled least other hop legal hands =
    let at_most = least.least other hop legal hands in
    let containers : c.containers ≡ length c.list = compiled.found.containers in
    let sids : c.sids ≡ length (prefixes_in c.list) = compiled.found.sids in
    record {
      containers = omega (arith, containers, at_most.containers);
      sids = λ prefers same.
          let cost = cost_for net intent ∙ ap sid_cost_of prefers in
          let few : 1 * c.sids ≤ 1 * length (prefixes_in other)
          = subst (λ (each : ℕ). each * c.sids ≤ each * length (prefixes_in other)) cost (at_most.sids (containers ∙ same)) in
          omega (arith, sids, few);
    }

carries : AllWalksKeep → (net : Network) (intent : Intent) (c : Compiled) → IsNetwork net → intent.hop_limit < 2 ^ 8
    → IsCompiledFor net intent c → IsLeastFor net intent c → Carries net intent c
carries keeps net intent c network byte compiled least = record {
  legal = compiled.found.chosen.whole.legal;
  each = λ inner pick is small. carried keeps net intent c network byte compiled inner is small pick;
  fewest = λ other hop legal hands.
      subst (λ (bytes : ℕ). bytes ≤ header_bytes intent.reduced (length other))
      (compiled.found.header ∙ ap (header_bytes intent.reduced) compiled.found.containers) (least.fewest other hop legal hands);
  preferred = λ other hop legal hands. no_worse net intent c compiled least other hop legal hands;
}

-- ---- the headline

-- a flat network isn't refused
flat_refused : (net : Network) (why : NotFlat) → IsFlat net → flatness_of net ≡ Err why → ⊥
flat_refused net why flat refused =
    let no = subst (λ (r : Result (Unit {0}) NotFlat). IsOk r) refused ((flatness_ok net flat.whole).1 flat) in cc

module _ (keeps : AllWalksKeep) (net : Network) (intent : Intent) (run : WalkRun net intent) (network : IsNetwork net)
    (byte : intent.hop_limit < 2 ^ 8) where
  comes_to : (answer : Result Compiled CompileFault) → IntentAnswers net intent answer → NoneLessFor net intent answer
      → WalkWants run.words.choices run.words.schedule run.input net intent answer run.serves.output → ComesTo net intent run answer
  comes_to (Ok c) compiled least wanted =
      let all = wrote_as net intent run _ wanted.0 in (
        carries keeps net intent c network byte compiled least,
        all,
        λ packets read. record {
          all = captured_all net intent c run.words run.input packets run.old.sinks run.new.sinks read all.0;
          each = λ frame inner held reads is small.
              captured_each net intent c run.words packets frame inner is
              (enters keeps net intent c network byte compiled inner is small) held reads;
        },
      )
  comes_to (Err (faults.NotFlat why)) refused least wanted = absurd (flat_refused net why run.flat refused)
  comes_to (Err (faults.NoList solution)) none least wanted = (least, wrote_as net intent run _ wanted)
  comes_to (Err (faults.TooLong found)) long least wanted = (least, long.long, wrote_as net intent run _ wanted)
  comes_to (Err (faults.HopLimit found)) over least wanted = (least, over.over, wrote_as net intent run _ wanted)
  comes_to (Err faults.NoMemory) none least wanted = absurd wanted

pub headline : RulesAreKept → AllWalksKeep → (net : Network) (intent : Intent) (run : WalkRun net intent)
    → (answer : Result Compiled CompileFault) × IntentAnswers net intent answer × ComesTo net intent run answer
headline rules keeps net intent run =
    let found = wants net intent run in
    let network = network_of rules net (file_named run.held run.words.file) run.described in
    let byte = byte_of net intent (file_named run.held run.words.intent) run.asked in
    (found.0, found.1, comes_to keeps net intent run network byte found.0 found.1 found.2 found.3)
