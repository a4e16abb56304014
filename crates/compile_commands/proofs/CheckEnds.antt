-- What `check` leaves, by where it ends.
use Rattle.std.proofs.Common.{◌≡◌, inl, inr, ℕ, Bool, false, List, [], ◌∷◌, Option, None, Some, IfSome, Result, Ok, Err, refl, sym, ap, ap₂, ◌∙◌, subst}
use Rattle.std.specs.Prelude.{IsSomeAnd, if◌then◌else◌, is_ok}
use Rattle.srx_edge.specs.Edge.{file_named}
use Rattle.srx_edge.specs.FilesRead.{FilesSeen, FailsAt, asked_for}
use Rattle.srx_edge.specs.Sources.{SourceSeen}
use Rattle.srx_edge.specs.Sinks.{SinkSeen, sent}
use Rattle.srx_edge.specs.CallSteps.{How}
use Rattle.srx_edge.specs.CallStepsTerms.{Wrote}
use Rattle.net_model.specs.Network.{Network}
use Rattle.net_flatness.specs.Flat.{flatness_of}
use Rattle.net_flatness.specs.declared.not_flat.NotFlat.{NotFlat}
use Rattle.intent_reader.specs.declared.intent.Intent.{Intent}
use Rattle.list_certificate.specs.declared.certificate_types.Cert.{Cert}
use Rattle.leg_table.specs.StrictTableTerms.{LegTable}
use Rattle.intent_compiler.specs.IntentLegs.{intent_legs_value}
use Rattle.command_output.specs.declared.conclusion.Judgement.{Judgement}
use Rattle.command_output.specs.declared.halt.Failure.{Failure}
use Rattle.command_output.specs.declared.halt.Failure.TheVariants as failures
use Rattle.command_output.specs.declared.halt.Halt.{Halt}
use Rattle.command_output.specs.declared.halt.Halt.TheVariants as halts
use Rattle.command_output.specs.declared.refusal.Refusal.{Refusal}
use Rattle.command_output.specs.declared.status.Status.{Status}
use Rattle.command_output.specs.declared.status.Status.TheVariants as statuses
use Rattle.command_output.specs.declared.conclusion.Conclusion.{Conclusion}
use Rattle.command_output.specs.CommandAnswers.{ending_of_failure, JudgesFile, CommandsUnread}
use Rattle.compile_commands.specs.CheckCommand.{CertWants, FlatWants, CheckedIntentWants, CheckedNetworkWants, asks_for_next, check_spec}
use Rattle.compile_commands.specs.CheckCommandTerms.{RefusesFlat, LegsOf, JudgesAs}
use Rattle.command_output.specs.Outputs.{reported, refused}
use Rattle.command_output.specs.OutputsTerms.{output_of_judgement}
use Rattle.command_inputs.specs.Judgements.{network_in, intent_in, cert_in}
use Rattle.command_output.specs.OutputLinesTerms.{bytes_of_text}
use Rattle.command_output.specs.Outside.{FailsBy, IsFrontOf, Asks, asked_for_all, files_left_by}
use Rattle.command_output.specs.OutputPieces.{Output, Stop, Never, AtFiles, At, Elsewhere, ToOut}
use Rattle.command_output.specs.OutputPiecesTerms.{stop_at}
use Rattle.command_output.specs.Endings.{Takes}
use Rattle.command_output.specs.CommandSpec.{Held, goes_on_with, texts_with, WantedOf, IsOneOf}
use Rattle.command_output.proofs.PublicLaws.{judgement_status, each, each_map, some_map, front_whole, front_longer, front_after, asks_all, asks_fault, asks_front, is_at_input, reads_its_none, reads_nothing, refused_commands, files_fault, memory_wants, written_whole, written_cut}

-- what holds of what is told, of two facts of it
both : (told : Option Held) (P Q R : Held → Type 0) → ((held : Held) → P held → Q held → R held) → IfSome told P → IfSome told Q
    → IfSome told R
both None P Q R f p q = tt
both (Some held) P Q R f p q = f held p q

-- a text that is there is judged so
abbrev GivesText : {A : Type 0} → (List ℕ → Result A Refusal) → Result A Refusal → Option (List ℕ) → Type 0
GivesText judge judged o = IsSomeAnd o (λ text. judge text ≡ judged)

-- the network is not flat

flat_refused : (net : Network) (intent : Intent) (refusal : Refusal) (cert : Option (List ℕ)) (flat : Result (Unit {0}) NotFlat)
    → RefusesFlat net refusal flat → FlatWants net intent flat cert (refused refusal)
flat_refused net intent refusal cert (Ok u) h = absurd h
flat_refused net intent refusal cert (Err why) h = ap refused h

flat_not_ok : (net : Network) (refusal : Refusal) (flat : Result (Unit {0}) NotFlat) → RefusesFlat net refusal flat → is_ok flat ≡ false
flat_not_ok net refusal (Ok u) h = absurd h
flat_not_ok net refusal (Err why) h = refl

-- the names that are asked for, by the judgements of the description and the intent

module _ (file intent cert : List ℕ) where
  abbrev behind : Option (List ℕ) → Option (List ℕ) → List (List ℕ)
  behind o p = if goes_on_with asks_for_next (texts_with [] o) p then cert ∷ [] else []

  abbrev names : Option (List ℕ) → Option (List ℕ) → List (List ℕ)
  names o p = file ∷ (if goes_on_with asks_for_next [] o then intent ∷ behind o p else [])

  abbrev after_file : Option (List ℕ) → Option (List ℕ) → List (List ℕ)
  after_file o p = if goes_on_with asks_for_next [] o then intent ∷ behind o p else []

  names_refused : (refusal : Refusal) (o p : Option (List ℕ)) → GivesText network_in (Err refusal) o → names o p ≡ file ∷ []
  names_refused refusal None p h = absurd h
  names_refused refusal (Some text) p h = rw h refl

  names_net : (net : Network) (o p : Option (List ℕ)) → GivesText network_in (Ok net) o → names o p ≡ file ∷ intent ∷ behind o p
  names_net net None p h = absurd h
  names_net net (Some text) p h = rw h refl

  behind_refused : (net : Network) (refusal : Refusal) (o p : Option (List ℕ)) → GivesText network_in (Ok net) o
      → GivesText (intent_in net) (Err refusal) p → behind o p ≡ []
  behind_refused net refusal None p h i = absurd h
  behind_refused net refusal (Some text) None h i = absurd i
  behind_refused net refusal (Some text) (Some more) h i = rw (h, i) refl

  behind_flat : (net : Network) (value : Intent) (o p : Option (List ℕ)) → GivesText network_in (Ok net) o
      → GivesText (intent_in net) (Ok value) p → behind o p ≡ (if is_ok (flatness_of net) then cert ∷ [] else [])
  behind_flat net value None p h i = absurd h
  behind_flat net value (Some text) None h i = absurd i
  behind_flat net value (Some text) (Some more) h i = rw (h, i) refl

  abbrev names_in : Held → List (List ℕ)
  names_in held = names (file_named held file) (file_named held intent)

  abbrev GivesNet : Result Network Refusal → Held → Type 0
  GivesNet judged held = GivesText network_in judged (file_named held file)

  abbrev GivesIntent : Network → Result Intent Refusal → Held → Type 0
  GivesIntent net judged held = GivesText (intent_in net) judged (file_named held intent)

  abbrev GivesCert : Network → Intent → Result Cert Refusal → Held → Type 0
  GivesCert net value judged held = GivesText (cert_in net (intent_legs_value net value)) judged (file_named held cert)

  -- an output that is wanted of what is told

  abbrev Wants : Held → Output → Type 0
  Wants held output = IsSomeAnd (file_named held file)
      (λ text. CheckedNetworkWants (network_in text) (file_named held intent) (file_named held cert) output)

  wanted : (told : Option Held) (left : Option (List ℕ)) (output : Output) → IfSome told (λ held. Wants held output)
      → WantedOf (check_spec file intent cert) told left output
  wanted None left output w = tt
  wanted (Some held) left output w = w

  wants_net : (judged : Result Network Refusal) (held : Held) (output : Output) → GivesNet judged held
      → CheckedNetworkWants judged (file_named held intent) (file_named held cert) output → Wants held output
  wants_net judged held output h w = some_map (file_named held file) (λ text. network_in text ≡ judged)
      (λ text. CheckedNetworkWants (network_in text) (file_named held intent) (file_named held cert) output)
      (λ text is. subst (λ (j : Result Network Refusal). CheckedNetworkWants j (file_named held intent) (file_named held cert) output)
      (sym is) w) h

  wants_intent : (net : Network) (judged : Result Intent Refusal) (held : Held) (output : Output) → GivesNet (Ok net) held
      → GivesIntent net judged held → CheckedIntentWants net judged (file_named held cert) output → Wants held output
  wants_intent net judged held output h i w = wants_net (Ok net) held output h
      (some_map (file_named held intent) (λ text. intent_in net text ≡ judged)
      (λ text. CheckedIntentWants net (intent_in net text) (file_named held cert) output)
      (λ text is. subst (λ (j : Result Intent Refusal). CheckedIntentWants net j (file_named held cert) output) (sym is) w) i)

  wants_cert : (net : Network) (value : Intent) (judged : Result Cert Refusal) (held : Held) (output : Output) → GivesNet (Ok net) held
      → GivesIntent net (Ok value) held → flatness_of net ≡ Ok tt → GivesCert net value judged held → CertWants net value judged output
      → Wants held output
  wants_cert net value judged held output h i flat c w = wants_intent net (Ok value) held output h i
      (subst (λ (r : Result (Unit {0}) NotFlat). FlatWants net value r (file_named held cert) output) (sym flat)
      (some_map (file_named held cert) (λ text. cert_in net (intent_legs_value net value) text ≡ judged)
      (λ text. CertWants net value (cert_in net (intent_legs_value net value) text) output)
      (λ text is. subst (λ (j : Result Cert Refusal). CertWants net value j output) (sym is) w) c))

  takes : (stop : Stop) (f g : FilesSeen) (s : SourceSeen) → Asks (check_spec file intent cert) stop f g
      → is_at_input stop ≡ false
      → Takes (check_spec file intent cert) stop f g s s
  takes stop f g s asks other = record {
    asks = asks;
    reads = reads_nothing stop s other;
    unread = each f.told (λ held. Unit {0} → s ≡ s) (λ held _. refl);
    reads_none = λ _. refl;
    reads_its = reads_its_none (check_spec file intent cert) f.told stop s s refl;
  }

  -- the description was refused, wasn't read, or memory was wanting
  pub check_halted_at_file : (f g : FilesSeen) (o : SinkSeen) (halt : Halt) → JudgesFile network_in file (Err halt) f g
      → CommandsUnread (check_spec file intent cert) (Err halt) f g o o
  check_halted_at_file f g o (halts.Refused refusal) h = λ s. refused_commands (check_spec file intent cert) refusal f g s s o
      (wanted f.told s.left (refused refusal) (each_map f.told (GivesNet (Err refusal)) (λ held. Wants held (refused refusal))
      (λ held is. wants_net (Err refusal) held (refused refusal) is refl) h.0)) (inr (inl refl))
      (takes Never f g s (asks_all (check_spec file intent cert) Never (file ∷ []) f g
      (record { rest = intent ∷ cert ∷ []; whole = refl }) tt
      (each_map f.told (GivesNet (Err refusal)) (λ held. names_in held ≡ file ∷ [])
      (λ held is. names_refused refusal (file_named held file) (file_named held intent) is) h.0) h.1) refl)
  check_halted_at_file f g o (halts.Failed failures.Fault) h = λ s. files_fault (check_spec file intent cert) f g s o
      (takes AtFiles f g s (asks_fault (check_spec file intent cert) (file ∷ []) f g
      (record { rest = intent ∷ cert ∷ []; whole = refl }) h.0
      (each f.told (λ held. IsFrontOf (names_in held) (file ∷ []))
      (λ held. record { rest = after_file (file_named held file) (file_named held intent); whole = refl })) h.1) refl)
  check_halted_at_file f g o (halts.Failed failures.NoMemory) h = λ s. memory_wants (check_spec file intent cert) f g s s o
      (takes Elsewhere f g s (asks_front (check_spec file intent cert) h.names f g
      (front_longer (file ∷ []) h.names (intent ∷ cert ∷ []) h.front)
      (each f.told (λ held. IsFrontOf (names_in held) h.names)
      (λ held. front_longer (file ∷ []) h.names (after_file (file_named held file) (file_named held intent)) h.front)) h.seen) refl)

  module _ (f mid g : FilesSeen) (o p : SinkSeen) (net : Network) (judged : JudgesFile network_in file (Ok net) f mid) where
    -- what is told is told of the files as they were
    of_first : (P : Held → Type 0) → IfSome mid.told P → IfSome f.told P
    of_first P h = subst (λ (files : FilesSeen). IfSome files.told P) judged.1 h

    -- as many names as these are asked for, at least
    front_of : (first : List (List ℕ)) → IsFrontOf (intent ∷ []) first → IfSome f.told (λ held. IsFrontOf (names_in held) (file ∷ first))
    front_of first front = each_map f.told (GivesNet (Ok net)) (λ held. IsFrontOf (names_in held) (file ∷ first))
        (λ held is. let more = behind (file_named held file) (file_named held intent) in
        subst (λ (all : List (List ℕ)). IsFrontOf all (file ∷ first))
        (sym (names_net net (file_named held file) (file_named held intent) is))
        (front_after file (intent ∷ more) first (front_longer (intent ∷ []) first more front))) judged.0

    -- the intent was refused, wasn't read, or memory was wanting
    pub check_halted_at_intent : (halt : Halt) → JudgesFile (intent_in net) intent (Err halt) mid g
        → CommandsUnread (check_spec file intent cert) (Err halt) f g o o
    check_halted_at_intent (halts.Refused refusal) h = λ s. refused_commands (check_spec file intent cert) refusal f g s s o
        (wanted f.told s.left (refused refusal)
        (both f.told (GivesNet (Ok net)) (GivesIntent net (Err refusal)) (λ held. Wants held (refused refusal))
        (λ held is i. wants_intent net (Err refusal) held (refused refusal) is i refl) judged.0
        (of_first (GivesIntent net (Err refusal)) h.0)))
        (inr (inl refl))
        (takes Never f g s (asks_all (check_spec file intent cert) Never (file ∷ intent ∷ []) f g
        (record { rest = cert ∷ []; whole = refl }) tt
        (both f.told (GivesNet (Ok net)) (GivesIntent net (Err refusal)) (λ held. names_in held ≡ file ∷ intent ∷ [])
        (λ held is i. names_net net (file_named held file) (file_named held intent) is
        ∙ ap (λ (more : List (List ℕ)). file ∷ intent ∷ more)
        (behind_refused net refusal (file_named held file) (file_named held intent) is i))
        judged.0 (of_first (GivesIntent net (Err refusal)) h.0))
        (h.1 ∙ ap (λ (files : FilesSeen). asked_for intent files) judged.1)) refl)
    check_halted_at_intent (halts.Failed failures.Fault) h = λ s. files_fault (check_spec file intent cert) f g s o
        (takes AtFiles f g s (asks_fault (check_spec file intent cert) (file ∷ intent ∷ []) f g
        (record { rest = cert ∷ []; whole = refl }) (subst (FailsAt intent) judged.1 h.0)
        (front_of (intent ∷ []) (front_whole (intent ∷ [])))
        (h.1 ∙ ap (λ (files : FilesSeen). files_left_by AtFiles (asked_for intent files)) judged.1)) refl)
    check_halted_at_intent (halts.Failed failures.NoMemory) h = λ s. memory_wants (check_spec file intent cert) f g s s o
        (takes Elsewhere f g s (asks_front (check_spec file intent cert) (file ∷ h.names) f g
        (front_after file (intent ∷ cert ∷ []) h.names (front_longer (intent ∷ []) h.names (cert ∷ []) h.front))
        (front_of h.names h.front) (h.seen ∙ ap (asked_for_all h.names) judged.1)) refl)

  -- where the description and the intent were read
  module _ (f mid last g : FilesSeen) (o p : SinkSeen) (net : Network) (judged : JudgesFile network_in file (Ok net) f mid)
      (value : Intent) (read : JudgesFile (intent_in net) intent (Ok value) mid last) where
    told_intent : IfSome f.told (GivesIntent net (Ok value))
    told_intent = of_first f mid last o p net judged (GivesIntent net (Ok value)) read.0

    last_is : last ≡ asked_for_all (file ∷ intent ∷ []) f
    last_is = read.1 ∙ ap (λ (files : FilesSeen). asked_for intent files) judged.1

    names_two : (flat : is_ok (flatness_of net) ≡ false) → IfSome f.told (λ held. names_in held ≡ file ∷ intent ∷ [])
    names_two flat = both f.told (GivesNet (Ok net)) (GivesIntent net (Ok value)) (λ held. names_in held ≡ file ∷ intent ∷ [])
        (λ held is i. names_net net (file_named held file) (file_named held intent) is
        ∙ ap (λ (more : List (List ℕ)). file ∷ intent ∷ more) (behind_flat net value (file_named held file) (file_named held intent) is i
        ∙ ap (λ (b : Bool). if b then cert ∷ [] else []) flat)) judged.0 told_intent

    -- the network is not flat
    halted_not_flat : (refusal : Refusal) → RefusesFlat net refusal (flatness_of net)
        → CommandsUnread (check_spec file intent cert) (Err (halts.Refused refusal)) f last o o
    halted_not_flat refusal h = λ s. refused_commands (check_spec file intent cert) refusal f last s s o
        (wanted f.told s.left (refused refusal)
        (both f.told (GivesNet (Ok net)) (GivesIntent net (Ok value)) (λ held. Wants held (refused refusal))
        (λ held is i. wants_intent net (Ok value) held (refused refusal) is i
        (flat_refused net value refusal (file_named held cert) (flatness_of net) h)) judged.0 told_intent))
        (inr (inl refl))
        (takes Never f last s (asks_all (check_spec file intent cert) Never (file ∷ intent ∷ []) f last
        (record { rest = cert ∷ []; whole = refl }) tt (names_two (flat_not_ok net refusal (flatness_of net) h)) last_is) refl)

    -- or memory was wanting
    pub check_halted_at_legs : (halt : Halt) → LegsOf net value (Err halt)
        → CommandsUnread (check_spec file intent cert) (Err halt) f last o o
    check_halted_at_legs (halts.Refused refusal) h = halted_not_flat refusal h
    check_halted_at_legs (halts.Failed failures.Fault) h = absurd h
    check_halted_at_legs (halts.Failed failures.NoMemory) h = λ s. memory_wants (check_spec file intent cert) f last s s o
        (takes Elsewhere f last s (asks_front (check_spec file intent cert) (file ∷ intent ∷ []) f last
        (record { rest = cert ∷ []; whole = refl })
        (front_of f mid last o p net judged (intent ∷ []) (front_whole (intent ∷ []))) last_is) refl)

    -- where the network is flat, too
    module _ (flat : flatness_of net ≡ Ok tt) where
      names_three : IfSome f.told (λ held. names_in held ≡ file ∷ intent ∷ cert ∷ [])
      names_three = both f.told (GivesNet (Ok net)) (GivesIntent net (Ok value)) (λ held. names_in held ≡ file ∷ intent ∷ cert ∷ [])
          (λ held is i. names_net net (file_named held file) (file_named held intent) is
          ∙ ap (λ (more : List (List ℕ)). file ∷ intent ∷ more) (behind_flat net value (file_named held file) (file_named held intent) is i
          ∙ ap (λ (r : Result (Unit {0}) NotFlat). if is_ok r then cert ∷ [] else []) flat)) judged.0 told_intent

      -- all three files were asked for
      asks_three : (stop : Stop) → FailsBy stop (file ∷ intent ∷ cert ∷ []) f → g ≡ files_left_by stop (asked_for cert last)
          → Asks (check_spec file intent cert) stop f g
      asks_three stop fails seen = asks_all (check_spec file intent cert) stop (file ∷ intent ∷ cert ∷ []) f g
          (front_whole (file ∷ intent ∷ cert ∷ [])) fails names_three
          (seen ∙ ap (λ (files : FilesSeen). files_left_by stop (asked_for cert files)) last_is)

      of_last : (P : Held → Type 0) → IfSome last.told P → IfSome f.told P
      of_last P h = subst (λ (files : FilesSeen). IfSome files.told P) last_is h

      wants_all : (read : Result Cert Refusal) (left : Option (List ℕ)) (output : Output) → IfSome last.told (GivesCert net value read)
          → CertWants net value read output → WantedOf (check_spec file intent cert) f.told left output
      wants_all cert_read left output h w = wanted f.told left output
          (both f.told (GivesNet (Ok net)) (λ held. GivesIntent net (Ok value) held × GivesCert net value cert_read held)
          (λ held. Wants held output)
          (λ held is more. wants_cert net value cert_read held output is more.0 flat more.1 w) judged.0
          (both f.told (GivesIntent net (Ok value)) (GivesCert net value cert_read)
          (λ held. GivesIntent net (Ok value) held × GivesCert net value cert_read held) (λ held i c. (i, c)) told_intent
          (of_last (GivesCert net value cert_read) h)))

      -- the certificate was refused, wasn't read, or memory was wanting
      halted_at_cert : (halt : Halt) → JudgesFile (cert_in net (intent_legs_value net value)) cert (Err halt) last g
          → CommandsUnread (check_spec file intent cert) (Err halt) f g o o
      halted_at_cert (halts.Refused refusal) h = λ s. refused_commands (check_spec file intent cert) refusal f g s s o
          (wants_all (Err refusal) s.left (refused refusal) h.0 refl) (inr (inl refl)) (takes Never f g s (asks_three Never tt h.1) refl)
      halted_at_cert (halts.Failed failures.Fault) h = λ s. files_fault (check_spec file intent cert) f g s o
          (takes AtFiles f g s (asks_three AtFiles (subst (FailsAt cert) last_is h.0) h.1) refl)
      halted_at_cert (halts.Failed failures.NoMemory) h = λ s. memory_wants (check_spec file intent cert) f g s s o
          (takes Elsewhere f g s (asks_front (check_spec file intent cert) (file ∷ intent ∷ h.names) f g
          (front_after file (intent ∷ cert ∷ []) (intent ∷ h.names) (front_after intent (cert ∷ []) h.names h.front))
          (each_map f.told (λ held. names_in held ≡ file ∷ intent ∷ cert ∷ []) (λ held. IsFrontOf (names_in held) (file ∷ intent ∷ h.names))
          (λ held e. subst (λ (all : List (List ℕ)). IsFrontOf all (file ∷ intent ∷ h.names)) (sym e)
          (front_after file (intent ∷ cert ∷ []) (intent ∷ h.names) (front_after intent (cert ∷ []) h.names h.front))) names_three)
          (h.seen ∙ ap (asked_for_all h.names) last_is)) refl)

      pub check_halted_at_cert : (legs : LegTable) (halt : Halt) → legs ≡ record { net = net; intent = value }
          → JudgesFile (cert_in net (intent_legs_value legs.net legs.intent)) cert (Err halt) last g
          → CommandsUnread (check_spec file intent cert) (Err halt) f g o o
      check_halted_at_cert legs halt is h = halted_at_cert halt
          (subst (λ (t : LegTable). JudgesFile (cert_in net (intent_legs_value t.net t.intent)) cert (Err halt) last g) is h)

      module _ (spelt : Cert) (given : JudgesFile (cert_in net (intent_legs_value net value)) cert (Ok spelt) last g) where
        -- memory was wanting for the line
        pub check_halted_at_judgement : CommandsUnread (check_spec file intent cert) (Err (halts.Failed failures.NoMemory)) f g o o
        check_halted_at_judgement = λ s. memory_wants (check_spec file intent cert) f g s s o
            (takes Elsewhere f g s (asks_three Elsewhere tt given.1) refl)

        module _ (judgement : Judgement) (judges : JudgesAs net value spelt judgement) where
          wants_judgement : (left : Option (List ℕ)) → WantedOf (check_spec file intent cert) f.told left (output_of_judgement judgement)
          wants_judgement left = wants_all (Ok spelt) left (output_of_judgement judgement) given.0 judges.0

          takes_how : (s : SourceSeen) (how : Option How) → Takes (check_spec file intent cert) (stop_at ToOut how) f g s s
          takes_how s None = takes Elsewhere f g s (asks_three Elsewhere tt given.1) refl
          takes_how s (Some how) = takes (At ToOut how) f g s (asks_three (At ToOut how) tt given.1) refl

          -- the line didn't go out whole
          pub check_halted_at_out : (failure : Failure) → Wrote (ending_of_failure failure) (bytes_of_text judgement.line) o p
              → CommandsUnread (check_spec file intent cert) (Err (halts.Failed failure)) f g o p
          check_halted_at_out failure wrote = λ s. written_cut (check_spec file intent cert) failure (bytes_of_text judgement.line) []
              judgement.status f g s s o p wrote (wants_judgement s.left) (takes_how s)

          -- it did
          pub check_done : (told : Conclusion) → bytes_of_text told.line ≡ [] → told.status ≡ judgement.status
              → p ≡ sent (bytes_of_text judgement.line) o → CommandsUnread (check_spec file intent cert) (Ok told) f g o p
          check_done told line status went = λ s. written_whole (check_spec file intent cert) told (bytes_of_text judgement.line)
              f g s s o p went
              (subst (λ (output : Output). WantedOf (check_spec file intent cert) f.told s.left output)
              (ap₂ (λ (l : List ℕ) (t : Status). reported (bytes_of_text judgement.line) l t) (sym line) (sym status))
              (wants_judgement s.left))
              (judgement_status told.status own).0 (judgement_status told.status own).1
              (takes Never f g s (asks_three Never tt given.1) refl) (λ _ no. cc)
            where
              own : IsOneOf (statuses.Done ∷ statuses.SaysNo ∷ []) told.status
              own = subst (IsOneOf (statuses.Done ∷ statuses.SaysNo ∷ [])) (sym status) judges.1
