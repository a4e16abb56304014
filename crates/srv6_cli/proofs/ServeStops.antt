-- Which counts a call changes, by where it stopped.
use Rattle.std.proofs.Common.{◌≡◌, ◌⊎◌, inl, inr, ℕ, Bool, true, false, List, [], ◌∷◌, refl, ap, ◌∙◌}
use Rattle.srx_edge.specs.Edge.{next_count}
use Rattle.srx_edge.specs.FilesRead.{FilesSeen, asked_for}
use Rattle.srx_edge.specs.Sources.{SourceSeen}
use Rattle.srx_edge.specs.Sinks.{SinkSeen, sent}
use Rattle.srx_edge.specs.CallSteps.{How, Failing, Wanting}
use Rattle.command_output.specs.Outside.{Reads, ReadsWhole, asked_for_all, files_left_by}
use Rattle.command_output.specs.OutputPieces.{Piece, ForOut, ForErr, Which, ToOut, ToErr, Sinks, gone, left_by, Stop, Never, AtFiles, AtInput, At, Elsewhere, Went}
use Rattle.command_output.proofs.PublicLaws.{seen_of}

-- a count of a sink

abbrev count_of : How → SinkSeen → ℕ
count_of Failing sink = sink.faults
count_of Wanting sink = sink.wants

abbrev count : Which → How → Sinks → ℕ
count sink how sinks = count_of how (seen_of sink sinks)

-- bytes that go out change no count

count_sent : (how : How) (bytes : List ℕ) (sink : SinkSeen) → count_of how (sent bytes sink) ≡ count_of how sink
count_sent how [] sink = refl
count_sent Failing (b ∷ bytes) sink = refl
count_sent Wanting (b ∷ bytes) sink = refl

count_gone : (sink : Which) (how : How) (pieces : List Piece) (sinks : Sinks) → count sink how (gone pieces sinks) ≡ count sink how sinks
count_gone sink how [] sinks = refl
count_gone ToOut how (ForOut bytes ∷ more) sinks =
    count_gone ToOut how more (record sinks { out = sent bytes sinks.out }) ∙ count_sent how bytes sinks.out
count_gone ToErr how (ForOut bytes ∷ more) sinks = count_gone ToErr how more (record sinks { out = sent bytes sinks.out })
count_gone ToOut how (ForErr bytes ∷ more) sinks = count_gone ToOut how more (record sinks { err = sent bytes sinks.err })
count_gone ToErr how (ForErr bytes ∷ more) sinks =
    count_gone ToErr how more (record sinks { err = sent bytes sinks.err }) ∙ count_sent how bytes sinks.err

-- whether a stop is that of a sink, in one of the two ways

abbrev is_at : Which → How → Which → How → Bool
is_at ToOut Failing ToOut Failing = true
is_at ToOut Wanting ToOut Wanting = true
is_at ToErr Failing ToErr Failing = true
is_at ToErr Wanting ToErr Wanting = true
is_at stopped by sink how = false

abbrev is_stop : Stop → Which → How → Bool
is_stop Never sink how = false
is_stop AtFiles sink how = false
is_stop AtInput sink how = false
is_stop (At stopped by) sink how = is_at stopped by sink how
is_stop Elsewhere sink how = false

abbrev count_after : Bool → ℕ → ℕ
count_after true n = next_count n
count_after false n = n

count_left : (stopped : Which) (by : How) (sink : Which) (how : How) (sinks : Sinks)
    → count sink how (left_by stopped by sinks) ≡ count_after (is_at stopped by sink how) (count sink how sinks)
count_left ToOut Failing ToOut Failing sinks = refl
count_left ToOut Failing ToOut Wanting sinks = refl
count_left ToOut Failing ToErr Failing sinks = refl
count_left ToOut Failing ToErr Wanting sinks = refl
count_left ToOut Wanting ToOut Failing sinks = refl
count_left ToOut Wanting ToOut Wanting sinks = refl
count_left ToOut Wanting ToErr Failing sinks = refl
count_left ToOut Wanting ToErr Wanting sinks = refl
count_left ToErr Failing ToOut Failing sinks = refl
count_left ToErr Failing ToOut Wanting sinks = refl
count_left ToErr Failing ToErr Failing sinks = refl
count_left ToErr Failing ToErr Wanting sinks = refl
count_left ToErr Wanting ToOut Failing sinks = refl
count_left ToErr Wanting ToOut Wanting sinks = refl
count_left ToErr Wanting ToErr Failing sinks = refl
count_left ToErr Wanting ToErr Wanting sinks = refl

-- a count goes on by one exactly where the call stopped so
pub count_stop : (stop : Stop) (sink : Which) (how : How) (pieces : List Piece) (old new : Sinks) → Went stop pieces old new
    → count sink how new ≡ count_after (is_stop stop sink how) (count sink how old)
count_stop Never sink how pieces old new w = ap (λ (s : Sinks). count sink how s) w ∙ count_gone sink how pieces old
count_stop AtFiles sink how pieces old new w = ap (λ (s : Sinks). count sink how s) w
count_stop AtInput sink how pieces old new w = ap (λ (s : Sinks). count sink how s) w
count_stop (At stopped by) sink how pieces old new w = ap (λ (s : Sinks). count sink how s) w.sinks
    ∙ (count_left stopped by sink how (gone w.first old) ∙ ap (count_after (is_at stopped by sink how)) (count_gone sink how w.first old))
count_stop Elsewhere sink how pieces old new w = ap (λ (s : Sinks). count sink how s) w.sinks ∙ count_gone sink how w.first old

-- the files' count

faults_asked : (names : List (List ℕ)) (files : FilesSeen) → (asked_for_all names files).faults ≡ files.faults
faults_asked [] files = refl
faults_asked (name ∷ names) files = faults_asked names (asked_for name files)

abbrev at_files : Stop → Bool
at_files Never = false
at_files AtFiles = true
at_files AtInput = false
at_files (At sink how) = false
at_files Elsewhere = false

files_left : (stop : Stop) (files : FilesSeen) → (files_left_by stop files).faults ≡ count_after (at_files stop) files.faults
files_left Never files = refl
files_left AtFiles files = refl
files_left AtInput files = refl
files_left (At sink how) files = refl
files_left Elsewhere files = refl

pub files_stop : (stop : Stop) (names : List (List ℕ)) (old new : FilesSeen) → new ≡ files_left_by stop (asked_for_all names old)
    → new.faults ≡ count_after (at_files stop) old.faults
files_stop stop names old new seen = ap (λ (f : FilesSeen). f.faults) seen
    ∙ (files_left stop (asked_for_all names old) ∙ ap (count_after (at_files stop)) (faults_asked names old))

-- the input's count

abbrev at_input : Stop → Bool
at_input Never = false
at_input AtFiles = false
at_input AtInput = true
at_input (At sink how) = false
at_input Elsewhere = false

faults_whole : (old new : SourceSeen) → ReadsWhole old new → new.faults ≡ old.faults
faults_whole old new (inl end) = ap (λ (s : SourceSeen). s.faults) end.1
faults_whole old new (inr past) = ap (λ (s : SourceSeen). s.faults) past.1

faults_unless : (old new : SourceSeen) → (new ≡ old) ⊎ ReadsWhole old new → new.faults ≡ old.faults
faults_unless old new (inl same) = ap (λ (s : SourceSeen). s.faults) same
faults_unless old new (inr whole) = faults_whole old new whole

pub input_stop : (stop : Stop) (old new : SourceSeen) → Reads stop old new → new.faults ≡ count_after (at_input stop) old.faults
input_stop Never old new reads = faults_unless old new reads
input_stop AtFiles old new reads = ap (λ (s : SourceSeen). s.faults) reads
input_stop AtInput old new reads = ap (λ (s : SourceSeen). s.faults) reads.seen
input_stop (At sink how) old new reads = faults_unless old new reads
input_stop Elsewhere old new (inl same) = ap (λ (s : SourceSeen). s.faults) same
input_stop Elsewhere old new (inr (inl whole)) = faults_whole old new whole
input_stop Elsewhere old new (inr (inr drawn)) = ap (λ (s : SourceSeen). s.faults) drawn.seen
