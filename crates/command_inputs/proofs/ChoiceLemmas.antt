-- Numbers joined by commas, read part by part.
use Rattle.std.proofs.Common.{◌≡◌, ℕ, ◌<◌, Bool, true, false, ◌==◌, List, [], ◌∷◌, ◌++◌, length, nat_lt, Option, None, Some, IfSome, Result, Ok, Err, sym, subst, arith, rules}
use Rattle.std.specs.Prelude.{if◌then◌else◌, IfOk}
use Rattle.std.specs.Global.{Vec}
use Rattle.std.proofs.lemmas.List.Splits.{length-slice_split}
use Rattle.command_inputs.specs.declared.limits.TheConstants.{MAX_CHOICES}
use Rattle.command_inputs.specs.ChoiceWords.{number_before, numbers_in, parts_at_commas, choices_in}
use Rattle.command_inputs.specs.ChoiceWordsTerms.{items_of}
use Rattle.trace_replay.specs.TraceGrammar.{number_in}

-- numbers that were read, and then those of the parts that are left

abbrev pub numbers_after : List ℕ → Option (List ℕ) → Option (List ℕ)
numbers_after first None = None
numbers_after first (Some more) = Some (first ++ more)

-- of one part or more come one number or more

some_before : (number : Option ℕ) (more : Option (List ℕ)) (choices : List ℕ) → number_before number more ≡ Some choices
    → 0 < length choices
some_before None more choices h = cc
some_before (Some number) None choices h = cc
some_before (Some number) (Some more) choices h =
    let e : number ∷ more ≡ choices = cc in
    let P : List ℕ → Type 0 = λ all. 0 < length all in
    let some : 0 < length (number ∷ more) = search rules in
    subst P e some

some_parts : (parts : List (List ℕ)) (choices : List ℕ) → 0 < length parts → numbers_in parts ≡ Some choices → 0 < length choices
some_parts [] choices some h = absurd (omega arith)
some_parts (part ∷ parts) choices some h = some_before (number_in part) (numbers_in parts) choices h

-- there is always one choice

by_limit : (many : Bool) (parts : List (List ℕ)) (choices : List ℕ) → 0 < length parts
    → Some choices ≡ (if many then None else numbers_in parts) → 0 < length choices
by_limit true parts choices some h = cc
by_limit false parts choices some h = some_parts parts choices some (sym h)

pub choices_in_some : (text choices : List ℕ) → Some choices ≡ choices_in text → 0 < length choices
choices_in_some text choices h =
    let many = length-slice_split (λ byte. byte == 44) text in
    by_limit (nat_lt MAX_CHOICES (length (parts_at_commas text))) (parts_at_commas text) choices (omega arith) h

given_choices : (choices : Option (Vec ℕ)) (text : List ℕ) → items_of choices ≡ choices_in text
    → IfSome choices (λ all. 0 < length all.items)
given_choices None text h = tt
given_choices (Some all) text h = choices_in_some text all.items h

pub read_choices : {E : Type 0} (read : Result (Option (Vec ℕ)) E) (text : List ℕ)
    → IfOk read (λ choices. items_of choices ≡ choices_in text) → IfOk read (λ choices. IfSome choices (λ all. 0 < length all.items))
read_choices (Ok choices) text h = given_choices choices text h
read_choices (Err fault) text h = tt
