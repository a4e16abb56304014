-- Equal items of two descriptions: all fields are equal, in lists in their order. Titles are compared by their texts,
-- since each description numbers its own, and policies without their names, since no packet sees one.
use Rattle.std.specs.Prelude.{ℕ, Bool, true, false, ◌==◌, ◌&&◌, List, [], ◌∷◌, Option, Some, None}
use Rattle.v6_addr.specs.declared.address.Addr.{Addr}
use Rattle.srv6_rules.specs.declared.sid.Behaviour.{Behaviour}
use Rattle.srv6_rules.specs.declared.sid.Behaviour.TheVariants as behaviours
use Rattle.srv6_rules.specs.declared.sid.Csid.{Csid}
use Rattle.srv6_rules.specs.declared.sid.Csid.TheVariants as csids
use Rattle.srv6_rules.specs.declared.sid.SidEntry.{SidEntry}
use Rattle.srv6_rules.specs.declared.policy.Policy.{Policy}
use Rattle.srv6_rules.specs.Behaviours.{behaviour_table, behaviour_policy}
use Rattle.net_model.specs.declared.parts.Block.{Block}
use Rattle.net_model.specs.declared.parts.BlockKind.{BlockKind}
use Rattle.net_model.specs.declared.parts.BlockKind.TheVariants as kinds
use Rattle.net_model.specs.declared.parts.Node.{Node}
use Rattle.net_model.specs.declared.parts.Link.{Link}
use Rattle.net_model.specs.declared.parts.Route.{Route}
use Rattle.net_model.specs.declared.parts.NamedPolicy.{NamedPolicy}
use Rattle.net_model.specs.Network.{Network}
use Rattle.net_model.specs.NetworkRules.{same_bytes, same_number, same_prefix, same_route}
use Rattle.net_model.specs.NetworkJudging.{same_answer, title_text}

-- as many items, each equal to the one at its place
abbrev pub equal_lists : {X : Type 0} → (X → X → Bool) → List X → List X → Bool
equal_lists equal [] [] = true
equal_lists equal [] (y ∷ ys) = false
equal_lists equal (x ∷ xs) [] = false
equal_lists equal (x ∷ xs) (y ∷ ys) = equal x y && equal_lists equal xs ys

-- both are there and equal, or neither is there
abbrev pub equal_options : {X : Type 0} → (X → X → Bool) → Option X → Option X → Bool
equal_options equal None None = true
equal_options equal None (Some y) = false
equal_options equal (Some x) None = false
equal_options equal (Some x) (Some y) = equal x y

abbrev pub equal_kinds : BlockKind → BlockKind → Bool
equal_kinds kinds.Next kinds.Next = true
equal_kinds kinds.Next kinds.Replace = false
equal_kinds kinds.Replace kinds.Next = false
equal_kinds kinds.Replace kinds.Replace = true

abbrev pub equal_block : Block → Block → Bool
equal_block a b = same_prefix a.prefix b.prefix && (equal_kinds a.kind b.kind && (a.csid == b.csid))

abbrev pub equal_node : Node → Node → Bool
equal_node m n = same_bytes m.name n.name && ((m.address.value == n.address.value) && same_bytes m.allow n.allow)

abbrev pub equal_link : Link → Link → Bool
equal_link l m = same_bytes l.name m.name && ((l.from == m.from) && (equal_options same_number l.to m.to && (l.mtu == m.mtu)))

abbrev pub same_address : Addr → Addr → Bool
same_address a b = a.value == b.value

abbrev pub equal_outer : Policy → Policy → Bool
equal_outer p q =
    (p.traffic_class == q.traffic_class) && ((p.flow_label == q.flow_label)
    && ((p.hop_limit == q.hop_limit) && same_answer p.reduced q.reduced))

-- names are not compared
abbrev pub equal_policy : NamedPolicy → NamedPolicy → Bool
equal_policy p q =
    same_address p.policy.source q.policy.source && (equal_lists same_address p.policy.segments q.policy.segments
    && equal_outer p.policy q.policy)

abbrev pub equal_route : Route → Route → Bool
equal_route q r = same_route q r && same_bytes q.via r.via

-- which behaviour it is, in the order of RFC 8986 section 4
abbrev pub behaviour_place : Behaviour → ℕ
behaviour_place behaviours.End = 1
behaviour_place behaviours.EndX = 2
behaviour_place (behaviours.EndT table) = 3
behaviour_place behaviours.Dx6 = 4
behaviour_place behaviours.Dx4 = 5
behaviour_place (behaviours.Dt6 table) = 6
behaviour_place (behaviours.Dt4 table) = 7
behaviour_place (behaviours.Dt46 table) = 8
behaviour_place (behaviours.B6 policy) = 13
behaviour_place (behaviours.B6Red policy) = 14

abbrev pub equal_behaviour : Behaviour → Behaviour → Bool
equal_behaviour a b =
    (behaviour_place a == behaviour_place b) && (equal_options same_number (behaviour_table a) (behaviour_table b)
    && equal_options same_number (behaviour_policy a) (behaviour_policy b))

abbrev pub equal_csid : Csid → Csid → Bool
equal_csid csids.Plain csids.Plain = true
equal_csid csids.Plain csids.Next = false
equal_csid csids.Plain csids.Replace = false
equal_csid csids.Next csids.Plain = false
equal_csid csids.Next csids.Next = true
equal_csid csids.Next csids.Replace = false
equal_csid csids.Replace csids.Plain = false
equal_csid csids.Replace csids.Next = false
equal_csid csids.Replace csids.Replace = true

-- the parts of a SID that tell how it is compressed, and its flavours
abbrev pub equal_forms : SidEntry → SidEntry → Bool
equal_forms s t =
    equal_csid s.csid t.csid && ((s.block_len == t.block_len) && (same_answer s.psp t.psp
    && (same_answer s.usp t.usp && same_answer s.usd t.usd)))

-- a SID of the old description and one of the new, each with the titles of its own
abbrev pub equal_sid : Network → Network → SidEntry → SidEntry → Bool
equal_sid old new s t =
    (s.node == t.node) && (same_prefix s.prefix t.prefix && (equal_behaviour s.behaviour t.behaviour
    && (equal_forms s t && (same_bytes s.links t.links
    && equal_options same_bytes (title_text old.titles s) (title_text new.titles t)))))
