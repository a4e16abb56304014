-- The text of each refusal has the word `refused ` in front.
use Rattle.std.proofs.Common.{◌≡◌, ℕ, List, [], ◌∷◌, ◌++◌, drop, refl, sym, ap, subst, ◌∙◌}
use Rattle.std.specs.Prelude.{codes}
use Rattle.pcap_io.specs.declared.fault.CaptureFault.{CaptureFault}
use Rattle.pcap_io.specs.declared.fault.CaptureFault.TheVariants as captures
use Rattle.command_output.specs.declared.refusal.Refusal.{Refusal}
use Rattle.command_output.specs.declared.refusal.Refusal.TheVariants as refusals
use Rattle.command_output.specs.OutputLines.{capture_text, refusal_text}
use Rattle.pce_answers.specs.NetAnswers.{why_of}

capture_begins : (fault : CaptureFault) → codes "refused " ++ drop 8 (capture_text fault) ≡ capture_text fault
unfolding capture_text
capture_begins captures.BadMagic = refl
capture_begins captures.PcapNg = refl
capture_begins captures.BadVersion = refl
capture_begins (captures.BadLink link) = refl
capture_begins captures.CutHead = refl
capture_begins captures.FrameLimit = refl

pub refusal_begins : (refusal : Refusal) → codes "refused " ++ drop 8 (refusal_text refusal) ≡ refusal_text refusal
unfolding refusal_text
refusal_begins (refusals.TooBig limit) = refl
refusal_begins (refusals.Net fault) = refl
refusal_begins (refusals.Intent fault) = refl
refusal_begins (refusals.Capture fault) = capture_begins fault
refusal_begins (refusals.CutFrame frame) = refl
refusal_begins refusals.BadNode = refl
refusal_begins (refusals.BadTrace line) = refl
refusal_begins (refusals.Nested outer inner) = refl
refusal_begins (refusals.ZeroCsid prefix) = refl
refusal_begins (refusals.MixedBlock block prefix) = refl
refusal_begins (refusals.Clash prefix first second) = refl
refusal_begins (refusals.BadCert line) = refl
refusal_begins (refusals.Conflict before after) = refl
refusal_begins (refusals.Differs table item) = refl
refusal_begins (refusals.NgBlock block) = refl
refusal_begins (refusals.NgMagic block) = refl
refusal_begins (refusals.NgVersion block) = refl
refusal_begins (refusals.NgInterface block) = refl
refusal_begins (refusals.NgCut block) = refl
refusal_begins (refusals.NgOldBlock block) = refl

-- so a line that is the refusal's text begins with the word, and what is behind it says why

pub line_begins : (refusal : Refusal) (line : List ℕ) → line ≡ refusal_text refusal → codes "refused " ++ drop 8 line ≡ line
line_begins refusal line e = subst (λ (text : List ℕ). codes "refused " ++ drop 8 text ≡ text) (sym e) (refusal_begins refusal)

pub why_is : (refusal : Refusal) (line why : List ℕ) → line ≡ refusal_text refusal → why ≡ drop 8 line → why ≡ why_of refusal
why_is refusal line why e behind = behind ∙ ap (drop 8) e

pub ruleset refusing = (line_begins, why_is)
