-- What reading an intent gives: a value, or the first fault.
use Rattle.std.specs.Prelude.{Bool, List, [], ◌∷◌, Result, Ok, Err, if◌then◌else◌}
use Rattle.text_faults.specs.declared.fault.TextFault.{TextFault}
use Rattle.toml_reader.specs.TomlReading.{◌>>=◌}
use Rattle.intent_reader.specs.declared.fault.IntentFault.{IntentFault}
use Rattle.intent_reader.specs.declared.fault.IntentFault.TheVariants.{Text}

-- a value that passes a test, and else this fault
abbrev pub checked : {X : Type 0} → IntentFault → Bool → X → Result X IntentFault
checked fault passes x = if passes then Ok x else Err fault

-- what a text says, with its fault as one of the intent's text
abbrev pub of_text : {X : Type 0} → Result X TextFault → Result X IntentFault
of_text (Ok x) = Ok x
of_text (Err fault) = Err (Text fault)

-- one after another, up to the first fault
abbrev pub each_of : {X Y : Type 0} → (X → Result Y IntentFault) → List X → Result (List Y) IntentFault
each_of read [] = Ok []
each_of read (x ∷ xs) = do
  y ← read x
  ys ← each_of read xs
  Ok (y ∷ ys)
