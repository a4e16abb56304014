-- What is written of an intent, by the compiler's answer.
use Rattle.std.proofs.Common.{◌≡◌, ℕ, List, [], ◌∷◌, ◌++◌, map, Result, Ok, Err, refl, sym, ap, ap₂, ◌∙◌, subst}
use Rattle.std.specs.Prelude.{IsOk}
use Rattle.std.specs.List.{flat_map}
use Rattle.v6_addr.specs.declared.address.Addr.{Addr}
use Rattle.net_model.specs.Network.{Network}
use Rattle.net_model.specs.NetworkRulesTerms.{IsNetwork}
use Rattle.net_flatness.specs.declared.not_flat.NotFlat.{NotFlat}
use Rattle.net_flatness.specs.Flat.{flatness_of, IsFlat}
use Rattle.net_flatness.proofs.PublicLaws.{flatness_ok}
use Rattle.net_syntax.specs.declared.intent_table.Prefer.{Prefer}
use Rattle.intent_reader.specs.declared.intent.Intent.{Intent}
use Rattle.intent_reader.specs.IntentRulesTerms.{IsIntent}
use Rattle.list_pack.specs.declared.types.Solution.{Solution}
use Rattle.list_pack.specs.SidLists.{list_values}
use Rattle.list_pack.proofs.PublicLaws.{flat_lists, legal_flat}
use Rattle.path_compiler.specs.declared.compiled.Compiled.{Compiled}
use Rattle.path_compiler.specs.declared.compiled.CompileFault.{CompileFault}
use Rattle.path_compiler.specs.declared.compiled.CompileFault.TheVariants as faults
use Rattle.path_compiler.specs.Compiled.{IsFound}
use Rattle.intent_compiler.specs.IntentLegs.{ListExecutesFor, ListRealizesFor, intent_legs_value}
use Rattle.intent_compiler.specs.CompilerAnswers.{IntentAnswers, NoneLessFor}
use Rattle.compile_commands.specs.declared.compile_command.Answer.{Answer}
use Rattle.command_output.specs.declared.halt.Failure.TheVariants as failures
use Rattle.command_output.specs.declared.halt.Halt.{Halt}
use Rattle.command_output.specs.declared.halt.Halt.TheVariants as halts
use Rattle.compile_commands.proofs.CommandChecking.{knows_states}
use Rattle.compile_commands.specs.CompileCommand.{container_line, numbers_lines, report_of}
use Rattle.compile_commands.specs.CompileCommandTerms.{HasValues, KnowsStates, GivesAnswer, GivesOf}

-- the lines of containers are those of their values, and the numbers' lines are after them

lines_map : (values : List Addr)
    → flat_map (λ (a : Addr). container_line a.value) values ≡ flat_map container_line (map (λ (a : Addr). a.value) values)
lines_map [] = refl
lines_map (a ∷ more) = ap (λ (bytes : List ℕ). container_line a.value ++ bytes) (lines_map more)

pub report_is : (net : Network) (prefer : Prefer) (c : Compiled) (values : List Addr) (lines numbers : List ℕ)
    → map (λ (a : Addr). a.value) values ≡ list_values net c.list
    → lines ≡ flat_map (λ (a : Addr). container_line a.value) values
    → numbers ≡ numbers_lines prefer c
    → lines ++ numbers ≡ report_of net prefer c
report_is net prefer c values lines numbers are is counts =
    ap₂ (λ (a b : List ℕ). a ++ b) (is ∙ (lines_map values ∙ ap (flat_map container_line) are)) counts

flat_by : (net : Network) → net.hidden ≡ [] → flatness_of net ≡ Ok tt → IsFlat net
flat_by net whole is = (flatness_ok net whole).0 (subst (λ (r : Result (Unit {0}) NotFlat). IsOk r) (sym is) refl)

-- a list that was found in a flat network has values
values_of : (net : Network) (intent : Intent) (c : Compiled) → IsNetwork net → net.hidden ≡ [] → flatness_of net ≡ Ok tt
    → IsFound (intent_legs_value net intent) net (ListRealizesFor net intent) (ListExecutesFor net intent) intent.reduced c
    → HasValues net c
values_of net intent c network whole is_flat found =
    let legal = found.chosen.whole.legal in
    (legal, legal_flat net c.list (flat_lists net network (flat_by net whole is_flat)) legal)

pub values_kept : (net : Network) (intent : Intent) (c : Compiled) → IsNetwork net → IntentAnswers net intent (Ok c) → HasValues net c
values_kept net intent c network answers = values_of net intent c network answers.whole answers.flat answers.found

pub values_long : (net : Network) (intent : Intent) (c : Compiled) → IsNetwork net → IntentAnswers net intent (Err (faults.TooLong c))
    → HasValues net c
values_long net intent c network answers = values_of net intent c network answers.whole answers.flat answers.found

pub values_over : (net : Network) (intent : Intent) (c : Compiled) → IsNetwork net → IntentAnswers net intent (Err (faults.HopLimit c))
    → HasValues net c
values_over net intent c network answers = values_of net intent c network answers.whole answers.flat answers.found

-- the SIDs of what was found are SIDs of the network

pub knows_kept : (net : Network) (intent : Intent) (c : Compiled) → IsNetwork net → IsIntent net intent → IntentAnswers net intent (Ok c)
    → KnowsStates net c.solution
knows_kept net intent c network is answers =
    knows_states net intent network (flat_by net answers.whole answers.flat) is c.solution answers.found.solution

pub knows_long : (net : Network) (intent : Intent) (c : Compiled) → IsNetwork net → IsIntent net intent
    → IntentAnswers net intent (Err (faults.TooLong c))
    → KnowsStates net c.solution
knows_long net intent c network is answers =
    knows_states net intent network (flat_by net answers.whole answers.flat) is c.solution answers.found.solution

pub knows_over : (net : Network) (intent : Intent) (c : Compiled) → IsNetwork net → IsIntent net intent
    → IntentAnswers net intent (Err (faults.HopLimit c))
    → KnowsStates net c.solution
knows_over net intent c network is answers =
    knows_states net intent network (flat_by net answers.whole answers.flat) is c.solution answers.found.solution

pub knows_none_in : (net : Network) (intent : Intent) (compiled : Result Compiled CompileFault) (s : Solution) → IsNetwork net
    → IsIntent net intent → IntentAnswers net intent compiled → compiled ≡ Err (faults.NoList s) → KnowsStates net s
knows_none_in net intent compiled s network is answers none =
    let a = subst (IntentAnswers net intent) none answers in
    knows_states net intent network (flat_by net a.whole a.flat) is s a.solution

pub ruleset valued = (values_kept, values_long, values_over, knows_kept, knows_long, knows_over)

pub taken_gives : (net : Network) (intent : Intent) (compiled : Result Compiled CompileFault) (answer : Result Answer Halt)
    → IntentAnswers net intent compiled → NoneLessFor net intent compiled → GivesAnswer net intent compiled answer
    → GivesOf net intent answer
taken_gives net intent compiled (Ok answer) answers none gives = ((compiled, answers, none, gives.0), gives.1)
taken_gives net intent compiled (Err (halts.Refused refusal)) answers none gives = (compiled, answers, none, gives)
taken_gives net intent compiled (Err (halts.Failed failures.Fault)) answers none gives = absurd gives
taken_gives net intent compiled (Err (halts.Failed failures.NoMemory)) answers none gives = tt

pub ruleset taken = (taken_gives)
