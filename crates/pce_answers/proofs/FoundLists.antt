-- The parts of a list that was found, as a reply has them.
use Rattle.std.proofs.Common.{◌≡◌, ℕ, List, [], ◌∷◌, map, refl, sym, ap, ◌∙◌}
use Rattle.v6_addr.specs.declared.address.Addr.{Addr}
use Rattle.list_pack.specs.declared.types.PathStep.{PathStep}
use Rattle.list_pack.specs.SegmentValues.{addr_value}
use Rattle.pce_protocol.specs.declared.reply.PathSid.{PathSid}
use Rattle.pce_answers.specs.NetAnswers.{path_sid, segment}

same_segments : (values : List Addr) → values ≡ map segment (map addr_value values)
same_segments [] = refl
same_segments (a ∷ more) = ap (λ (rest : List Addr). a ∷ rest) (same_segments more)

pub segments_are : (values : List Addr) (numbers : List ℕ) → map addr_value values ≡ numbers → values ≡ map segment numbers
segments_are values numbers e = same_segments values ∙ ap (map segment) e

pub path_is : (path : List PathSid) (steps wanted : List PathStep) → path ≡ map path_sid steps → steps ≡ wanted
    → path ≡ map path_sid wanted
path_is path steps wanted e same = e ∙ ap (map path_sid) same

pub ruleset parts = (segments_are, path_is)
