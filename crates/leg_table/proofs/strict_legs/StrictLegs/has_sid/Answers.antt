use Rattle.std.proofs.Common.{◌≡◌, Some, length, get_or, slice_get, sym, ◌∙◌, ap, subst, arith, eqb-true}
use Rattle.std.proofs.lemmas.Option.{same_Some, slice_get_within}
use Rattle.srv6_rules.specs.declared.sid.SidEntry.{SidEntry}
use Rattle.leg_table.specs.PositionSids.{node_at}
use Rattle.leg_table.specs.StrictTableTerms.{LegTable}
use Rattle.leg_table.proofs.StrictWays.{first_stands, none_of_none, none_above}
use Rattle.leg_table.proofs.strict_legs.StrictLegs.has_sid.Goals as goal

pub returns-then-is_empty : goal.returns-then-is_empty
returns-then-is_empty c =
    sym (none_of_none c.args.self.now.net c.keeps_rules.ensures.facts c.args.self.now.intent c.args.position c.row-row.result.now
    c.row-row.ensures c.args.n (eqb-true (length c.row-row.result.now) 0 (sym c.is_empty.ensures ∙ c.if-is_empty.true)))

pub returns-then-n-sids : goal.returns-then-n-sids
returns-then-n-sids c =
    let same : length c.self.inside.net.now.sids ≡ length c.args.self.now.net.sids =
    ap (λ (t : LegTable). length t.net.sids) c.self.view_is in
    sym (none_above c.args.self.now.net c.keeps_rules.ensures.facts c.args.self.now.intent c.args.position c.row-row.result.now
    c.row-row.ensures c.args.n (omega (arith, c.sids.ensures, same, c.if-n-sids.true)))

pub sid-requires : goal.sid-requires
sid-requires c =
    let numbers = c.row-row.result.now in
    let same : length c.self.inside.net.now.sids ≡ length c.args.self.now.net.sids =
    ap (λ (t : LegTable). length t.net.sids) c.self.view_is in
    let stands = first_stands c.args.self.now.net c.keeps_rules.ensures.facts c.args.self.now.intent c.args.position numbers
    c.row-row.ensures
    (sym c.is_empty.ensures ∙ c.if-is_empty.false) in
    let within = slice_get_within c.args.self.now.net.sids (get_or numbers 0 0) stands.0 stands.1 in
    omega (arith, within, same)

pub is_sid_at-requires-clause-stands : goal.is_sid_at-requires-clause-stands
is_sid_at-requires-clause-stands c =
    let numbers = c.row-row.result.now in
    let stands = first_stands c.args.self.now.net c.keeps_rules.ensures.facts c.args.self.now.intent c.args.position numbers
    c.row-row.ensures
    (sym c.is_empty.ensures ∙ c.if-is_empty.false) in
    let found : slice_get c.args.self.now.net.sids (get_or numbers 0 0) ≡ Some c.sid.result.now =
    subst (λ (t : LegTable). slice_get t.net.sids (get_or numbers 0 0) ≡ Some c.sid.result.now) c.self.view_is c.sid.ensures in
    let is : stands.0 ≡ c.sid.result.now = same_Some stands.0 c.sid.result.now (sym stands.1 ∙ found) in
    subst (λ (t : LegTable). node_at t.net t.intent c.args.position ≡ Some c.sid.result.now.node) (sym c.self.view_is)
    (stands.2 ∙ ap (λ (s : SidEntry). Some s.node) is)
