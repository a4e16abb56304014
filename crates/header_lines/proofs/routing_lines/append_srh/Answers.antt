use Rattle.std.proofs.Common.{◌≡◌, ℕ, List, length, ◌++◌, string_bytes, ap, ◌∙◌, append_assoc}
use Rattle.std.proofs.lemmas.Result.{on_ok_weaker}
use Rattle.srv6_rules.specs.Srh.{Srh}
use Rattle.header_lines.specs.HeaderLines.{area_line, srh_lines}
use Rattle.header_lines.proofs.routing_lines.append_srh.Goals as goal

three_more : (old one two new a b c : List ℕ) → one ≡ old ++ a → two ≡ one ++ b → new ≡ two ++ c → new ≡ old ++ (a ++ (b ++ c))
three_more old one two new a b c first second third =
    third ∙ ap (λ xs. xs ++ c) (second ∙ ap (λ xs. xs ++ b) first)
    ∙ append_assoc (old ++ a) b c
    ∙ append_assoc old a (b ++ c)

pub returns : goal.returns
returns c =
    let len = length c.args.header.now in
    on_ok_weaker c.append_area.result
    (λ (added : string_bytes c.append_area.new.out ≡ string_bytes c.append_entries.new.out ++ area_line c.in-Ok.srh).
    three_more (string_bytes c.args.out.now) (string_bytes c.append_fields.new.out) (string_bytes c.append_entries.new.out)
    (string_bytes c.append_area.new.out) _ _ _ c.in_ok-append_fields.ensures c.in_ok-append_entries.ensures added
    ∙ ap (λ (s : Srh). string_bytes c.args.out.now ++ srh_lines s c.args.at len) c.in-Ok.ensures.value)
    c.append_area.ensures
