-- Answers and verdicts over relations of lists that hold of the same lists.
use Rattle.std.proofs.Common.{◌↔◌, ℕ, Bool, List, Result, Ok, Err}
use Rattle.net_model.specs.Network.{Network}
use Rattle.intent_reader.specs.declared.intent.Intent.{Intent}
use Rattle.list_pack.specs.declared.types.Container.{Container}
use Rattle.list_pack.specs.LegsValue.{LegsValue}
use Rattle.list_certificate.specs.declared.certificate_types.Verdict.{Verdict}
use Rattle.list_certificate.specs.declared.certificate_types.Verdict.TheVariants.{Least, NoList, No}
use Rattle.path_compiler.specs.declared.compiled.Compiled.{Compiled}
use Rattle.path_compiler.specs.declared.compiled.CompileFault.{CompileFault}
use Rattle.path_compiler.specs.declared.compiled.CompileFault.TheVariants as faults
use Rattle.path_compiler.specs.Checked.{Says, SaysOver}
use Rattle.path_compiler.specs.Compiled.{AnswersOver, IsChosen, IsFound, IsLeastOver, IsWhole, NoneLessOver}

abbrev pub OfLists : Type 1
OfLists = List Container → ℕ → Type 0

-- two relations hold of the same lists with the same numbers
abbrev pub AreAlike : OfLists → OfLists → Type 0
AreAlike P Q = (list : List Container) (n : ℕ) → P list n ↔ Q list n

pub turned : (P Q : OfLists) → AreAlike P Q → AreAlike Q P
turned P Q alike list n = ((alike list n).1, (alike list n).0)

module _ (net : Network) (Realizes Executes Others Also : OfLists) (real : AreAlike Realizes Others) (all : AreAlike Executes Also) where
  whole_alike : (list : List Container) (need : ℕ) → IsWhole net Realizes Executes list need → IsWhole net Others Also list need
  whole_alike list need w = record {
    legal = w.legal;
    realizes = (real list need).0 w.realizes;
    executes = (all list _).0 w.executes;
  }

  whole_back : (list : List Container) (need : ℕ) → IsWhole net Others Also list need → IsWhole net Realizes Executes list need
  whole_back list need w = record {
    legal = w.legal;
    realizes = (real list need).1 w.realizes;
    executes = (all list _).1 w.executes;
  }

  chosen_alike : (sid_cost : ℕ) (list : List Container) (need : ℕ) → IsChosen sid_cost net Realizes Executes list need → IsChosen sid_cost net Others Also list need
  chosen_alike sid_cost list need c = record {
    whole = whole_alike list need c.whole;
    least = λ other n legal its. c.least other n legal ((real other n).1 its);
    first = λ other whole same. c.first other (whole_back other need whole) same;
  }

  pub says_alike : (sid_cost : ℕ) (verdict : Verdict) → Says sid_cost net Realizes Executes verdict → Says sid_cost net Others Also verdict
  says_alike sid_cost (Least containers sids need) is = record {
    list = is.list;
    whole = whole_alike is.list need is.whole;
    costs = is.costs;
    least = λ other n legal its. is.least other n legal ((real other n).1 its);
  }
  says_alike sid_cost NoList none = λ list need legal its. none list need legal ((real list need).1 its)
  says_alike sid_cost (No line why) says = tt

  module _ (v : LegsValue) where
    found_alike : (reduced : Bool) (c : Compiled) → IsFound v net Realizes Executes reduced c → IsFound v net Others Also reduced c
    found_alike reduced c found = record {
      chosen = chosen_alike v.sid_cost c.list c.need found.chosen;
      containers = found.containers;
      sids = found.sids;
      header = found.header;
      fewest = λ other n legal its. found.fewest other n legal ((real other n).1 its);
      path = found.path;
      solution = found.solution;
    }

    pub answers_alike : (intent : Intent) (answer : Result Compiled CompileFault) → AnswersOver v net Realizes Executes intent answer
        → AnswersOver v net Others Also intent answer
    answers_alike intent (Ok c) a = record {
      whole = a.whole;
      flat = a.flat;
      found = found_alike intent.reduced c a.found;
      short = a.short;
      within = a.within;
    }
    answers_alike intent (Err (faults.NotFlat why)) a = a
    answers_alike intent (Err (faults.NoList s)) a = record {
      whole = a.whole;
      flat = a.flat;
      none = λ list need legal its. a.none list need legal ((real list need).1 its);
      solution = a.solution;
      no_path = a.no_path;
    }
    answers_alike intent (Err (faults.TooLong c)) a = record {
      whole = a.whole;
      flat = a.flat;
      found = found_alike intent.reduced c a.found;
      long = a.long;
    }
    answers_alike intent (Err (faults.HopLimit c)) a = record {
      whole = a.whole;
      flat = a.flat;
      found = found_alike intent.reduced c a.found;
      short = a.short;
      over = a.over;
    }
    answers_alike intent (Err faults.NoMemory) a = tt

-- of the lists that hand over even one packet
module _ (sid_cost : ℕ) (net : Network) (Hands Others : OfLists) (alike : AreAlike Hands Others) where
  least_alike : (reduced : Bool) (c : Compiled) → IsLeastOver sid_cost net Hands reduced c → IsLeastOver sid_cost net Others reduced c
  least_alike reduced c is = record {
    fewest = λ list hop legal its. is.fewest list hop legal ((alike list hop).1 its);
    least = λ list hop legal its. is.least list hop legal ((alike list hop).1 its);
  }

  pub none_less_alike : (reduced : Bool) (answer : Result Compiled CompileFault) → NoneLessOver sid_cost net Hands reduced answer
      → NoneLessOver sid_cost net Others reduced answer
  none_less_alike reduced (Ok c) is = least_alike reduced c is
  none_less_alike reduced (Err (faults.NotFlat why)) is = tt
  none_less_alike reduced (Err (faults.NoList s)) none = λ list hop legal its. none list hop legal ((alike list hop).1 its)
  none_less_alike reduced (Err (faults.TooLong c)) is = least_alike reduced c is
  none_less_alike reduced (Err (faults.HopLimit c)) is = least_alike reduced c is
  none_less_alike reduced (Err faults.NoMemory) is = tt

  pub over_alike : (verdict : Verdict) → SaysOver sid_cost net Hands verdict → SaysOver sid_cost net Others verdict
  over_alike (Least containers sids need) least = λ list hop legal its. least list hop legal ((alike list hop).1 its)
  over_alike NoList none = λ list hop legal its. none list hop legal ((alike list hop).1 its)
  over_alike (No line why) says = tt
