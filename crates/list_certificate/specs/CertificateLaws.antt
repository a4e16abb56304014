-- Need not be believed: helps proofs and other laws.
-- What a verdict shows, what the certificate of a solution shows, and what may stand in front of its text.
use Rattle.std.specs.Prelude.{◌≡◌, ℕ, List, [], ◌∷◌, ◌++◌, flat_map, slice_index, Contains, Some, None}
use Rattle.list_pack.specs.declared.types.Cost.{Cost}
use Rattle.list_pack.specs.declared.types.PathStep.{PathStep}
use Rattle.list_pack.specs.declared.types.Solution.{Solution}
use Rattle.list_pack.specs.LegsValue.{LegsValue}
use Rattle.list_pack.specs.Costs.{start}
use Rattle.list_pack.specs.Least.{IsLeast}
use Rattle.list_certificate.specs.declared.certificate_types.Verdict.{Verdict}
use Rattle.list_certificate.specs.declared.certificate_types.Verdict.TheVariants.{Least, NoList, No}
use Rattle.list_certificate.specs.CertsTerms.{certificate_of}
use Rattle.list_certificate.specs.Verdicts.{IsVerdict}

-- what a verdict shows of the start: its least cost, or that there is no path
abbrev pub Shows : LegsValue → Verdict → Type 0
Shows v (Least containers sids hops) = IsLeast v start (Some (record { containers = containers; sids = sids; hops = hops }))
Shows v NoList = IsLeast v start None
Shows v (No line why) = Unit {0}

-- the verdict on the certificate of a solution: without a path that there is none, else what the start's least path costs
pub record IsAccepted (v : LegsValue) (head : ℕ) (s : Solution) (cost : Cost) : Type 0 where
  pub least : IsLeast v start (Some cost)
  pub verdict : IsVerdict v (certificate_of head s) (Least cost.containers cost.sids cost.hops)

abbrev pub IsAcceptedBy : LegsValue → ℕ → Solution → List PathStep → Type 0
IsAcceptedBy v head s [] = IsVerdict v (certificate_of head s) NoList
IsAcceptedBy v head s (p ∷ ps) = (cost : Cost) × IsAccepted v head s cost

-- a comment: it begins with `#`, 35, and has no line feed, 10
pub record IsComment (line : List ℕ) : Type 0 where
  pub hash : slice_index line 0 ≡ 35
  pub one_line : ¬ Contains line 10

-- lines, each with the line feed that ends it
abbrev pub lines_text : List (List ℕ) → List ℕ
lines_text lines = flat_map (λ line. line ++ 10 ∷ []) lines
