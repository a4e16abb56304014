-- What `compile` prints is read by `check` as the certificate of what was compiled, and judged so.
use Rattle.std.proofs.Common.{◌≡◌, ◌↔◌, ℕ, ◌+◌, ◌*◌, ◌≤◌, Bool, true, false, List, [], ◌++◌, length, All, Option, None, Some, Result, Ok, Err, IsOk, refl, sym, ◌∙◌, ap, subst, arith}
use Rattle.std.specs.Prelude.{IsSomeAnd, nat_lt, if◌then◌else◌}
use Rattle.std.proofs.lemmas.Bool.{le-ltb}
use Rattle.std.proofs.lemmas.List.{append-nil}
use Rattle.srx_edge.specs.Edge.{file_named}
use Rattle.net_model.specs.Network.{Network}
use Rattle.net_model.specs.NetworkRulesTerms.{IsNetwork}
use Rattle.net_flatness.specs.Flat.{flatness_of, IsFlat}
use Rattle.text_faults.specs.declared.fault.TextFault.{TextFault}
use Rattle.net_flatness.specs.declared.not_flat.NotFlat.{NotFlat}
use Rattle.net_flatness.proofs.PublicLaws.{flatness_ok}
use Rattle.toml_reader.specs.TomlReading.{◌>>=◌}
use Rattle.net_syntax.specs.declared.intent_table.DescribedIntent.{DescribedIntent}
use Rattle.net_syntax.specs.declared.intent_table.Prefer.{Prefer}
use Rattle.net_syntax.specs.declared.intent_table.Prefer.TheVariants as prefers
use Rattle.net_syntax.specs.IntentText as words
use Rattle.intent_reader.specs.Preferences.{sid_cost_of}
use Rattle.intent_reader.specs.declared.intent.Intent.{Intent}
use Rattle.intent_reader.specs.declared.fault.IntentFault.{IntentFault}
use Rattle.intent_reader.specs.IntentJudging.{judged, intent_of_text}
use Rattle.intent_reader.specs.IntentReading.{of_text}
use Rattle.intent_reader.specs.IntentRulesTerms.{IsIntent}
use Rattle.intent_reader.proofs.IntentJudgingLemmas.{judged_keeps}
use Rattle.intent_reader.proofs.IntentRangeLemmas.{said_in_range}
use Rattle.list_pack.specs.declared.types.Solution.{Solution}
use Rattle.list_pack.specs.Least.{IsSolution}
use Rattle.list_pack.specs.LegsValue.{LegsValue}
use Rattle.list_pack.specs.LegsValueTerms.{KeepsLaws}
use Rattle.list_certificate.specs.declared.certificate_types.Cert.{Cert}
use Rattle.list_certificate.specs.declared.certificate_types.Verdict.{Verdict}
use Rattle.list_certificate.specs.declared.certificate_types.Verdict.TheVariants.{NoList}
use Rattle.list_certificate.specs.CertsTerms.{certificate_of}
use Rattle.list_certificate.specs.CertificateLaws.{IsComment, lines_text}
use Rattle.list_certificate.specs.CertificateReading.{read_of}
use Rattle.list_certificate.specs.Spelling.{spelled}
use Rattle.list_certificate.specs.Verdicts.{IsVerdict}
use Rattle.list_certificate.proofs.PublicLaws.{one_verdict, solution_cert, what_is_read}
use Rattle.intent_compiler.specs.IntentLegs.{ListExecutesFor, ListHandsFor, ListRealizesFor, intent_legs_value}
use Rattle.path_compiler.specs.declared.compiled.Compiled.{Compiled}
use Rattle.path_compiler.specs.declared.compiled.CompileFault.{CompileFault}
use Rattle.path_compiler.specs.declared.compiled.CompileFault.TheVariants as faults
use Rattle.path_compiler.specs.CheckedTerms.{least_of}
use Rattle.path_compiler.proofs.PublicLaws.{says_lists}
use Rattle.intent_compiler.specs.CompilerAnswers.{IntentAnswers}
use Rattle.intent_compiler.specs.IntentVerdicts.{SaysFor, SaysOfHandingFor}
use Rattle.intent_compiler.specs.IntentVerdictsTerms.{CertifiesFor}
use Rattle.intent_compiler.proofs.PublicLaws.{certifies_for, cost_for, laws_for, means_for, says_handing_for, sids_for}
use Rattle.net_model.specs.declared.limits.TheConstants.{MAX_TEXT_BYTES}
use Rattle.command_output.specs.declared.refusal.Refusal.{Refusal}
use Rattle.command_output.specs.declared.refusal.Refusal.TheVariants as refusals
use Rattle.command_output.specs.declared.status.Status.{Status}
use Rattle.command_output.specs.declared.status.Status.TheVariants as statuses
use Rattle.command_output.specs.Outputs.{reported}
use Rattle.compile_commands.specs.CheckCommand as checks
use Rattle.compile_commands.specs.CheckCommand.{CertWants, FlatWants, told_of}
use Rattle.compile_commands.specs.CompileCommand.{AnswerWants, NetworkWants, IntentWants, hop_limit_line, no_report, none_line, printed, report_of, too_long_line}
use Rattle.compile_commands.specs.CompileCommandTerms.{HasValues}
use Rattle.command_inputs.specs.Judgements.{network_in, intent_in, intent_by, cert_in, cert_by}
use Rattle.command_output.specs.OutputPieces.{Output, bytes_for_out}
use Rattle.compile_commands.specs.Printed.{ConfirmsAnswer, ConfirmsList, ConfirmsPrinted, CheckConfirmsCompile}
use Rattle.command_inputs.proofs.PublicLaws.{RulesAreKept, rules_kept}
use Rattle.compile_commands.proofs.Compiling.{values_kept, values_long, values_over}
use Rattle.compile_commands.proofs.Reporting.{report_texts, no_report_texts, report_lines, no_report_lines, report_comments, no_report_comments}

-- a text that gives an intent gives one that keeps the rules

intent_by_law : (net : Network) (text : List ℕ) (intent : Intent) (said : Result DescribedIntent TextFault) → words.intent_in text ≡ said
    → intent_of_text net text ≡ Ok intent → IsIntent net intent
intent_by_law net text intent (Ok d) is h =
    judged_keeps net d intent (said_in_range text d is)
    (subst (λ (r : Result DescribedIntent TextFault). ◌>>=◌ (of_text r) (judged net) ≡ Ok intent) is h)
intent_by_law net text intent (Err fault) is h =
    let none = subst (λ (r : Result DescribedIntent TextFault). ◌>>=◌ (of_text r) (judged net) ≡ Ok intent) is h in absurd (cc)

intent_of : (net : Network) (text : List ℕ) (intent : Intent) → intent_in net text ≡ Ok intent → IsIntent net intent
intent_of net text intent is = by (nat_lt MAX_TEXT_BYTES (length text)) (intent_of_text net text) refl is
  where
    by : (big : Bool) (read : Result Intent IntentFault) → intent_of_text net text ≡ read
        → (if big then Err (refusals.TooBig MAX_TEXT_BYTES) else intent_by read) ≡ Ok intent → IsIntent net intent
    by true read e h = absurd (cc)
    by false (Ok i) e h = let same : i ≡ intent = cc in intent_by_law net text intent (words.intent_in text) refl (e ∙ ap Ok same)
    by false (Err fault) e h = absurd (cc)

-- the line of a list's verdict has the list's SIDs where they are counted

line_by : (prefer : Prefer) (containers sids need : ℕ)
    → checks.least_line prefer containers (sid_cost_of prefer * sids) need ≡ checks.least_line prefer containers sids need
unfolding checks.least_line
line_by prefers.Need containers sids need = refl
line_by prefers.Sids containers sids need =
    ap (λ (n : ℕ). checks.least_line prefers.Sids containers n need) (let e : 1 * sids ≡ sids = omega arith in e)

confirms_list : (net : Network) (intent : Intent) (c : Compiled)
    → told_of net intent.prefer (least_of (intent_legs_value net intent) c)
    ≡ reported (checks.least_line intent.prefer c.containers c.sids c.need) [] statuses.Done
confirms_list net intent c =
    ap (λ (cost : ℕ). reported (checks.least_line intent.prefer c.containers (cost * c.sids) c.need) [] statuses.Done)
    (cost_for net intent)
    ∙ ap (λ (bytes : List ℕ). reported bytes [] statuses.Done) (line_by intent.prefer c.containers c.sids c.need)

module _ (net : Network) (intent : Intent) (network : IsNetwork net) (is_intent : IsIntent net intent) where
  abbrev v : LegsValue
  v = intent_legs_value net intent

  flat_by : net.hidden ≡ [] → flatness_of net ≡ Ok tt → IsFlat net
  flat_by whole is = (flatness_ok net whole).0 (subst (λ (r : Result (Unit {0}) NotFlat). IsOk r) (sym is) refl)

  -- what is spelled goes by the intent's preference
  abbrev spelling : Solution → List ℕ
  spelling s = spelled net (sid_cost_of intent.prefer) s

  laws_of : net.hidden ≡ [] → flatness_of net ≡ Ok tt → KeepsLaws v
  laws_of whole is = laws_for net intent network (flat_by whole is) is_intent

  -- the text is read as the certificate of the solution
  cert_read : (s : Solution) (comments : List (List ℕ)) (text : List ℕ) → KeepsLaws v → IsSolution v s → All IsComment comments
      → text ≡ lines_text comments ++ spelling s → length text ≤ MAX_TEXT_BYTES → IsFlat net
      → cert_in net v text ≡ Ok (certificate_of (1 + length comments) s)
  cert_read s comments text laws is all parts small flat =
      let fits : nat_lt MAX_TEXT_BYTES (length text) ≡ false = le-ltb MAX_TEXT_BYTES (length text) small in
      let read : read_of net v text ≡ Ok (certificate_of (1 + length comments) s)
      = ap (read_of net v) (parts ∙ ap (λ (cost : ℕ). lines_text comments ++ spelled net cost s) (sym (cost_for net intent)))
      ∙ what_is_read net v comments s network laws (sids_for net intent network flat is_intent) is all in
      rw fits (ap cert_by read)

  -- so the verdict is the one that it certifies
  told_by : (s : Solution) (comments : List (List ℕ)) (text : List ℕ) (verdict : Verdict) (output : Output) → net.hidden ≡ []
      → flatness_of net ≡ Ok tt → IsSolution v s → CertifiesFor net intent s verdict → All IsComment comments
      → text ≡ lines_text comments ++ spelling s → length text ≤ MAX_TEXT_BYTES
      → FlatWants net intent (flatness_of net) (Some text) output → output ≡ told_of net intent.prefer verdict
  told_by s comments text verdict output whole flat is certifies all parts small wants =
      let laws = laws_of whole flat in
      let head : ℕ = 1 + length comments in
      let flat_wants : FlatWants net intent (Ok tt) (Some text) output
      = subst (λ (r : Result (Unit {0}) NotFlat). FlatWants net intent r (Some text) output) flat wants in
      let read : CertWants net intent (Ok (certificate_of head s)) output
      = subst (λ (r : Result Cert Refusal). CertWants net intent r output)
      (cert_read s comments text laws is all parts small (flat_by whole flat))
      flat_wants in
      let same : read.0 ≡ verdict
      = one_verdict v (certificate_of head s) read.0 verdict laws (solution_cert v head s is) read.1.is (certifies head) in
      read.2 ∙ ap (told_of net intent.prefer) same

  -- and that verdict is wanted
  told_back : (s : Solution) (comments : List (List ℕ)) (text : List ℕ) (verdict : Verdict) (output : Output) → net.hidden ≡ []
      → flatness_of net ≡ Ok tt → IsSolution v s → CertifiesFor net intent s verdict → All IsComment comments
      → text ≡ lines_text comments ++ spelling s → length text ≤ MAX_TEXT_BYTES
      → output ≡ told_of net intent.prefer verdict → FlatWants net intent (flatness_of net) (Some text) output
  told_back s comments text verdict output whole flat is certifies all parts small told =
      let laws = laws_of whole flat in
      let cert : Cert = certificate_of (1 + length comments) s in
      let judges : IsVerdict v cert verdict = certifies (1 + length comments) in
      let says : SaysFor net intent verdict
      = says_lists v net (ListRealizesFor net intent) (ListExecutesFor net intent) (ListHandsFor net intent)
      (means_for net intent network (flat_by whole flat) is_intent) cert verdict laws judges in
      let handing : SaysOfHandingFor net intent verdict = says_handing_for net intent verdict network (flat_by whole flat) is_intent says in
      let wants : CertWants net intent (Ok cert) output = (verdict, record { is = judges; says = says; handing = handing }, told) in
      let read : FlatWants net intent (Ok tt) (Some text) output
      = subst (λ (r : Result Cert Refusal). CertWants net intent r output)
      (sym (cert_read s comments text laws is all parts small (flat_by whole flat))) wants in
      subst (λ (r : Result (Unit {0}) NotFlat). FlatWants net intent r (Some text) output) (sym flat) read

  -- what is for `out` of a report with a certificate after it
  out_is : (told report : List ℕ) (status : Status) (s : Solution) (comments : List (List ℕ)) (output : Output)
      → output ≡ reported (printed net intent.prefer report s) told status → report ≡ lines_text comments
      → bytes_for_out output.pieces ≡ lines_text comments ++ spelling s
  out_is told report status s comments output is lines =
      ap (λ (o : Output). bytes_for_out o.pieces) is ∙ append-nil (report ++ spelling s)
      ∙ ap (λ (bytes : List ℕ). bytes ++ spelling s) lines

  module _ (old output : Output) (small : length (bytes_for_out old.pieces) ≤ MAX_TEXT_BYTES) where
    -- what `check` wants of what was printed
    abbrev Checks : Type 0
    Checks = FlatWants net intent (flatness_of net) (Some (bytes_for_out old.pieces)) output

    list_confirmed : (c : Compiled) (told : List ℕ) (status : Status) → net.hidden ≡ [] → flatness_of net ≡ Ok tt → IsSolution v c.solution
        → CertifiesFor net intent c.solution (least_of v c) → HasValues net c
        → old ≡ reported (printed net intent.prefer (report_of net intent.prefer c) c.solution) told status
        → Checks ↔ ConfirmsList intent c output
    list_confirmed c told status whole flat is certifies has e =
        let texts = report_texts net intent.prefer c in
        let all = report_comments net intent.prefer c has in
        let parts = out_is told (report_of net intent.prefer c) status c.solution texts old e (report_lines net intent.prefer c) in
        let text : List ℕ = bytes_for_out old.pieces in
        let verdict : Verdict = least_of v c in
        let confirms = confirms_list net intent c in (
          λ h. told_by c.solution texts text verdict output whole flat is certifies all parts small h ∙ confirms,
          λ h. told_back c.solution texts text verdict output whole flat is certifies all parts small (h ∙ sym confirms),
        )

    none_confirmed : (s : Solution) (told : List ℕ) (status : Status) → net.hidden ≡ [] → flatness_of net ≡ Ok tt → IsSolution v s
        → CertifiesFor net intent s NoList → old ≡ reported (printed net intent.prefer no_report s) told status → Checks ↔ (output ≡ told_of net intent.prefer NoList)
    none_confirmed s told status whole flat is certifies e =
        let parts = out_is told no_report status s no_report_texts old e no_report_lines in
        let text : List ℕ = bytes_for_out old.pieces in (
          told_by s no_report_texts text NoList output whole flat is certifies no_report_comments parts small,
          told_back s no_report_texts text NoList output whole flat is certifies no_report_comments parts small,
        )

    confirmed : (answer : Result Compiled CompileFault) → IntentAnswers net intent answer → AnswerWants net intent answer old
        → Checks ↔ ConfirmsAnswer net intent answer output
    confirmed (Ok c) answers e =
        list_confirmed c [] statuses.Done answers.whole answers.flat answers.found.solution
        (certifies_for net intent (Ok c) network is_intent answers) (values_kept net intent c network answers) e
    confirmed (Err (faults.NotFlat why)) answers e =
        let P : Result (Unit {0}) NotFlat → Type 0 = λ r. FlatWants net intent r (Some (bytes_for_out old.pieces)) output in
        (λ wants. subst P answers wants, λ told. subst P (sym answers) told)
    confirmed (Err (faults.NoList s)) answers e =
        none_confirmed s none_line statuses.NoAnswer answers.whole answers.flat answers.solution
        (certifies_for net intent (Err (faults.NoList s)) network is_intent answers) e
    confirmed (Err (faults.TooLong c)) answers e =
        list_confirmed c (too_long_line c.containers) statuses.NoAnswer answers.whole answers.flat answers.found.solution
        (certifies_for net intent (Err (faults.TooLong c)) network is_intent answers) (values_long net intent c network answers) e
    confirmed (Err (faults.HopLimit c)) answers e =
        list_confirmed c (hop_limit_line c.need) statuses.NoAnswer answers.whole answers.flat answers.found.solution
        (certifies_for net intent (Err (faults.HopLimit c)) network is_intent answers) (values_over net intent c network answers) e
    confirmed (Err faults.NoMemory) answers e = absurd e

-- by the judgements of the description and the intent

module _ (rules : RulesAreKept) (old output : Output) (small : length (bytes_for_out old.pieces) ≤ MAX_TEXT_BYTES) where
  abbrev bytes : List ℕ
  bytes = bytes_for_out old.pieces

  by_intent : (net : Network) (text : List ℕ) (r : Result Intent Refusal) → IsNetwork net → intent_in net text ≡ r
      → IntentWants AnswerWants net r old
      → checks.CheckedIntentWants net r (Some bytes) output ↔ IntentWants (ConfirmsPrinted old) net r output
  by_intent net text (Err refusal) network is wants = (λ h. h, λ h. h)
  by_intent net text (Ok intent) network is wants =
      let is_intent = intent_of net text intent is in (
        λ h. (wants.0, wants.1, wants.2, (wants.3, (confirmed net intent network is_intent old output small wants.0 wants.1 wants.3).0 h)),
        λ h. (confirmed net intent network is_intent old output small h.0 h.1 h.3.0).1 h.3.1,
      )

  by_network : (text : List ℕ) (r : Result Network Refusal) (p : Option (List ℕ)) → network_in text ≡ r
      → NetworkWants AnswerWants r p old
      → checks.CheckedNetworkWants r p (Some bytes) output ↔ NetworkWants (ConfirmsPrinted old) r p output
  by_network text (Err refusal) p is wants = (λ h. h, λ h. h)
  by_network text (Ok net) None is wants = absurd wants
  by_network text (Ok net) (Some plan) is wants =
      by_intent net plan (intent_in net plan) (rules_kept rules text net is) refl wants

  by_file : (o p : Option (List ℕ)) → IsSomeAnd o (λ text. NetworkWants AnswerWants (network_in text) p old)
      → IsSomeAnd o (λ text. checks.CheckedNetworkWants (network_in text) p (Some bytes) output)
      ↔ IsSomeAnd o (λ text. NetworkWants (ConfirmsPrinted old) (network_in text) p output)
  by_file None p wants = absurd wants
  by_file (Some text) p wants = by_network text (network_in text) p refl wants

-- what is wanted of `check` by what its files hold
abbrev CheckOf : Output → Option (List ℕ) → Option (List ℕ) → Option (List ℕ) → Type 0
CheckOf output o p q = IsSomeAnd o (λ text. checks.CheckedNetworkWants (network_in text) p q output)

files_to : (output : Output) (a b c x y z : Option (List ℕ)) → a ≡ x → b ≡ y → c ≡ z → CheckOf output a b c → CheckOf output x y z
files_to output a b c x y z f g h wants =
    subst (λ (o : Option (List ℕ)). CheckOf output o y z) f
    (subst (λ (p : Option (List ℕ)). CheckOf output a p z) g
    (subst (λ (q : Option (List ℕ)). CheckOf output a b q) h wants))

pub check_confirms : RulesAreKept → CheckConfirmsCompile
check_confirms rules old new file intent cert input other made output holds wants =
    let o : Option (List ℕ) = file_named old file in
    let p : Option (List ℕ) = file_named old intent in
    let q : Option (List ℕ) = Some (bytes_for_out made.pieces) in
    let x : Option (List ℕ) = file_named new file in
    let y : Option (List ℕ) = file_named new intent in
    let z : Option (List ℕ) = file_named new cert in
    let both = by_file rules made output holds.small o p wants in (
      λ h. both.0 (files_to output x y z o p q holds.described holds.intended holds.certified h),
      λ h. files_to output o p q x y z (sym holds.described) (sym holds.intended) (sym holds.certified) (both.1 h),
    )
