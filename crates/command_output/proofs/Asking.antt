-- Which files were asked for, by how far the files were judged.
use Rattle.std.proofs.Common.{◌≡◌, inl, ℕ, Bool, true, false, List, [], ◌∷◌, ◌++◌, length, Option, None, Some, IfSome, refl, sym, ap, ◌∙◌, append-nil, append_assoc}
use Rattle.std.specs.Prelude.{IsSomeAnd, ◌==◌, not}
use Rattle.srx_edge.specs.FilesRead.{FilesSeen}
use Rattle.srx_edge.specs.Sources.{SourceSeen}
use Rattle.command_output.specs.Endings.{ReadsIts}
use Rattle.command_output.specs.Outside.{FailsAtLast, FailsBy, IsFrontOf, Asks, AsksAs, Reads, ReadsAs, asked_for_all, files_left_by}
use Rattle.command_output.specs.OutputPieces.{Stop, Never, AtFiles, AtInput, At, Elsewhere}
use Rattle.command_output.specs.CommandSpec.{Held, IfTold, CommandSpec, names_of}

-- what holds of all files holds of those that are told
pub each : (told : Option Held) (P : Held → Type 0) → ((held : Held) → P held) → IfSome told P
each None P f = tt
each (Some held) P f = f held

pub each_map : (told : Option Held) (P Q : Held → Type 0) → ((held : Held) → P held → Q held) → IfSome told P → IfSome told Q
each_map None P Q f p = tt
each_map (Some held) P Q f p = f held p

-- what follows of a text that is there
pub some_map : (o : Option (List ℕ)) (P Q : List ℕ → Type 0) → ((text : List ℕ) → P text → Q text) → IsSomeAnd o P → IsSomeAnd o Q
some_map None P Q f p = absurd p
some_map (Some text) P Q f p = f text p

pub front_whole : (names : List (List ℕ)) → IsFrontOf names names
front_whole names = record { rest = []; whole = append-nil names }

pub front_longer : (first names rest : List (List ℕ)) → IsFrontOf first names → IsFrontOf (first ++ rest) names
front_longer first names rest front =
    record {
      rest = front.rest ++ rest;
      whole = sym (append_assoc names front.rest rest) ∙ ap (λ (all : List (List ℕ)). all ++ rest) front.whole;
    }

pub front_after : (name : List ℕ) (wanted names : List (List ℕ)) → IsFrontOf wanted names → IsFrontOf (name ∷ wanted) (name ∷ names)
front_after name wanted names front = record { rest = front.rest; whole = ap (λ (all : List (List ℕ)). name ∷ all) front.whole }

-- all names that are come to were asked for

asks_all_law : (stop : Stop) (wanted names : List (List ℕ)) → names ≡ wanted → AsksAs stop wanted names
asks_all_law Never wanted names e = e
asks_all_law AtFiles wanted names e = record { rest = []; whole = append-nil names ∙ e }
asks_all_law AtInput wanted names e = e
asks_all_law (At sink how) wanted names e = e
asks_all_law Elsewhere wanted names e = record { rest = []; whole = append-nil names ∙ e }

pub asks_all : (spec : CommandSpec) (stop : Stop) (names : List (List ℕ)) (old new : FilesSeen) → IsFrontOf spec.files names
    → FailsBy stop names old
    → IfSome old.told (λ held. names_of spec held ≡ names) → new ≡ files_left_by stop (asked_for_all names old) → Asks spec stop old new
asks_all spec stop names old new front fails those seen = record {
  names = names;
  in_order = front;
  those = each_map old.told (λ held. names_of spec held ≡ names) (λ held. AsksAs stop (names_of spec held) names)
      (λ held e. asks_all_law stop (names_of spec held) names (sym e)) those;
  fails = fails;
  seen = seen;
}

-- the last of the names that were asked for failed, or memory was wanting

pub asks_fault : (spec : CommandSpec) (names : List (List ℕ)) (old new : FilesSeen) → IsFrontOf spec.files names → FailsAtLast names old
    → IfSome old.told (λ held. IsFrontOf (names_of spec held) names) → new ≡ files_left_by AtFiles (asked_for_all names old)
    → Asks spec AtFiles old new
asks_fault spec names old new front fails those seen =
    record { names = names; in_order = front; those = those; fails = fails; seen = seen }

pub asks_front : (spec : CommandSpec) (names : List (List ℕ)) (old new : FilesSeen) → IsFrontOf spec.files names
    → IfSome old.told (λ held. IsFrontOf (names_of spec held) names) → new ≡ asked_for_all names old → Asks spec Elsewhere old new
asks_front spec names old new front those seen = record { names = names; in_order = front; those = those; fails = tt; seen = seen }

-- what is read of the input

abbrev pub is_at_input : Stop → Bool
is_at_input Never = false
is_at_input AtFiles = false
is_at_input AtInput = true
is_at_input (At sink how) = false
is_at_input Elsewhere = false

-- nothing is
pub reads_nothing : (stop : Stop) (s : SourceSeen) → is_at_input stop ≡ false → Reads stop s s
reads_nothing Never s e = inl refl
reads_nothing AtFiles s e = refl
reads_nothing AtInput s e = cc
reads_nothing (At sink how) s e = inl refl
reads_nothing Elsewhere s e = inl refl

pub each_told : (some : Bool) (none : Held) (told : Option Held) (P : Held → Type 0) → ((held : Held) → P held) → IfTold some none told P
each_told false none told P f = f none
each_told true none None P f = tt
each_told true none (Some held) P f = f held

told_map : (some : Bool) (none : Held) (told : Option Held) (P Q : Held → Type 0) → some ≡ true → ((held : Held) → P held → Q held)
    → IfSome told P → IfTold some none told Q
told_map false none told P Q e f p = cc
told_map true none None P Q e f p = tt
told_map true none (Some held) P Q e f p = f held p

-- a command that reads none
pub reads_its_none : (spec : CommandSpec) (told : Option Held) (stop : Stop) (old new : SourceSeen) → spec.reads ≡ false
    → ReadsIts spec told stop old new
reads_its_none spec told stop old new none = each_told (not (length spec.files == 0)) [] told
    (λ held. (¬ spec.leaves_input held) → spec.reads ≡ true → ReadsAs stop old new) (λ held comes reads. cc)

-- one that comes to it
pub reads_its_whole : (spec : CommandSpec) (told : Option Held) (stop : Stop) (old new : SourceSeen) → ReadsAs stop old new
    → ReadsIts spec told stop old new
reads_its_whole spec told stop old new read = each_told (not (length spec.files == 0)) [] told
    (λ held. (¬ spec.leaves_input held) → spec.reads ≡ true → ReadsAs stop old new) (λ held comes reads. read)

-- one that has files, and ends before
pub reads_its_early : (spec : CommandSpec) (told : Option Held) (stop : Stop) (old new : SourceSeen) → not (length spec.files == 0) ≡ true
    → IfSome told spec.leaves_input → ReadsIts spec told stop old new
reads_its_early spec told stop old new files early = told_map (not (length spec.files == 0)) [] told spec.leaves_input
    (λ held. (¬ spec.leaves_input held) → spec.reads ≡ true → ReadsAs stop old new) files
    (λ held leaves comes. absurd (comes leaves)) early
