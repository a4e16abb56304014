use Rattle.std.proofs.Common.{◌≡◌, string_bytes}
use Rattle.std.specs.List.{list_any, list_all}
use Rattle.std.specs.Map.{keys_of}
use Rattle.std.specs.Str.{bytes_eq}
use Rattle.plan_syntax.specs.PlanWords.{plan_key_text}
use Rattle.plan_syntax.proofs.plan_keys.has_only.Given as goal

abbrev pub invariant-loop-key : goal.invariant-loop-key
invariant-loop-key l =
    list_all (λ k. list_any (λ known. bytes_eq (plan_key_text known) (string_bytes k)) l.keys) l.key-iterator
    ≡ list_all (λ k. list_any (λ known. bytes_eq (plan_key_text known) (string_bytes k)) l.keys) (keys_of l.table.entries)
