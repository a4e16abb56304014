-- The intent over a generated network, byte by byte: through its nodes in their order, and then its function
use Rattle.std.specs.Prelude.{ℕ, ◌%◌, ◌==◌, if◌then◌else◌, List, ◌++◌, codes, flat_map}
use Rattle.std.specs.List.{concat}
use Rattle.net_generator.specs.GeneratedWords.{Pieces, from_to, word, quoted, list_of_one, list_of_two, key, table, a_name, b_name}

-- the keys in front of the steps, and an empty line
unfoldable pub root_keys : List ℕ
root_keys =
    concat (key (codes "headend") (quoted (word (codes "n0"))) ++ key (codes "source") (quoted (word (codes "2001:db8::1")))
    ++ key (codes "inner") (quoted (word (codes "ipv6"))) ++ key (codes "mode") (quoted (word (codes "reduced")))
    ++ key (codes "hop_limit") (word (codes "255")) ++ key (codes "max_containers") (word (codes "127")) ++ word (codes "\n"))

-- the links of step i: the first alone to each third node, else both
abbrev pub step_links : ℕ → Pieces
step_links i = if i % 3 == 0 then list_of_one (a_name i) else list_of_two (a_name i) (b_name i)

-- a step of links
unfoldable pub links_table : Pieces → List ℕ
links_table links = concat (table (codes "step") (key (codes "links") links))

abbrev pub step_table : ℕ → List ℕ
step_table i = links_table (step_links i)

-- the last step
unfoldable pub function_table : List ℕ
function_table = concat (table (codes "step") (key (codes "function") (quoted (word (codes "vpn")))))

abbrev pub step_tables : ℕ → List ℕ
step_tables n = flat_map step_table (from_to 1 n)

-- the intent over the network of size n
abbrev pub intent_text : ℕ → List ℕ
intent_text n = root_keys ++ step_tables n ++ function_table
