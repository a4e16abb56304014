-- The text of the certificate of a solution. Numbers are decimal; each line ends with a line feed, 10; 32 is the space, 64 is
-- `@`.
use Rattle.std.specs.Prelude.{ℕ, Bool, ◌==◌, if◌then◌else◌, count_by, nat_lt, List, [], ◌∷◌, ◌++◌, codes, flat_map, slice_get, Option, Some, None}
use Rattle.std.specs.Fmt.{decimal}
use Rattle.v6_addr.specs.Address.{PrefixValue}
use Rattle.v6_addr.specs.Text.{prefix_text}
use Rattle.srv6_rules.specs.declared.sid.SidEntry.{SidEntry}
use Rattle.net_model.specs.declared.parts.Node.{Node}
use Rattle.net_model.specs.Network.{Network}
use Rattle.net_model.specs.NetworkRules.{same_prefix}
use Rattle.list_pack.specs.declared.types.Cost.{Cost}
use Rattle.list_pack.specs.declared.types.State.{State}
use Rattle.list_pack.specs.declared.types.PathStep.{PathStep}
use Rattle.list_pack.specs.declared.types.Potential.{Potential}
use Rattle.list_pack.specs.declared.types.Solution.{Solution}
use Rattle.list_certificate.specs.declared.certificate_types.Form.{Form}
use Rattle.list_certificate.specs.declared.certificate_types.Form.TheVariants.{First, Second}

-- a certificate has the first form where SIDs cost nothing, else the second, whose costs have SIDs
abbrev pub form_of : ℕ → Form
form_of sid_cost = if sid_cost == 0 then First else Second

-- two SIDs of the network or more have the prefix
abbrev pub is_shared : Network → PrefixValue → Bool
is_shared net p = nat_lt 1 (count_by (λ (s : SidEntry). same_prefix s.prefix p) net.sids)

abbrev pub name_by : Option Node → List ℕ
name_by None = []
name_by (Some n) = n.name

-- a SID by its prefix, and where another SID has that prefix too by the name of its node
abbrev pub sid_text_by : Network → Option SidEntry → List ℕ
sid_text_by net None = []
sid_text_by net (Some s) =
    if is_shared net s.prefix then prefix_text s.prefix ++ 64 ∷ name_by (slice_get net.nodes s.node) else prefix_text s.prefix

abbrev pub sid_text : Network → ℕ → List ℕ
sid_text net n = sid_text_by net (slice_get net.sids n)

-- a state: its position, its SID and its room
unfoldable pub start_text : List ℕ
start_text = codes "0 - 0"

unfoldable pub placed_text : ℕ → List ℕ → ℕ → List ℕ
placed_text position sid room = decimal position ++ 32 ∷ (sid ++ 32 ∷ decimal room)

abbrev pub state_text_by : Network → ℕ → Option ℕ → ℕ → List ℕ
state_text_by net position None room = start_text
state_text_by net position (Some n) room = placed_text position (sid_text net n) room

abbrev pub state_text : Network → State → List ℕ
state_text net s = state_text_by net s.position s.via s.room

-- a cost: its containers, in the second form its SIDs, and its hops
unfoldable pub cost_text : Form → Cost → List ℕ
cost_text First c = decimal c.containers ++ 32 ∷ decimal c.hops
cost_text Second c = decimal c.containers ++ 32 ∷ (decimal c.sids ++ 32 ∷ decimal c.hops)

-- a line with a potential
unfoldable pub potential_of_text : List ℕ → List ℕ → List ℕ
potential_of_text state cost = codes "potential " ++ (state ++ 32 ∷ (cost ++ 10 ∷ []))

abbrev pub potential_text : Network → Form → Potential → List ℕ
potential_text net form q = potential_of_text (state_text net q.state) (cost_text form q.cost)

-- a line with a step of the path
unfoldable pub stay_text : PrefixValue → List ℕ
stay_text p = codes "path stay " ++ (prefix_text p ++ 10 ∷ [])

unfoldable pub new_text : PrefixValue → List ℕ
new_text p = codes "path new " ++ (prefix_text p ++ 10 ∷ [])

abbrev pub step_text : PathStep → List ℕ
step_text step = if step.stays then stay_text step.prefix else new_text step.prefix

unfoldable pub none_text : List ℕ
none_text = codes "none" ++ 10 ∷ []

abbrev pub way_text : List PathStep → List ℕ
way_text [] = none_text
way_text (p ∷ ps) = flat_map step_text (p ∷ ps)

-- the head tells the form
abbrev pub head_words : Form → List ℕ
head_words First = codes "srv6 certificate 1"
head_words Second = codes "srv6 certificate 2"

unfoldable pub head_text : Form → List ℕ
head_text form = head_words form ++ 10 ∷ []

unfoldable pub end_text : List ℕ
end_text = codes "end" ++ 10 ∷ []

-- from the head to the end
abbrev pub spelled_in : Network → Form → Solution → List ℕ
spelled_in net form s = head_text form ++ flat_map (potential_text net form) s.potentials ++ way_text s.path ++ end_text

-- where a SID costs so much
abbrev pub spelled : Network → ℕ → Solution → List ℕ
spelled net sid_cost s = spelled_in net (form_of sid_cost) s
