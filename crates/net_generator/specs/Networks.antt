-- The description of a generated network, byte by byte: a chain of nodes n0 to n(n), two links to each next node,
-- and a link that leaves from the last
use Rattle.std.specs.Prelude.{ℕ, ◌+◌, ◌-◌, List, [], ◌∷◌, ◌++◌, codes, flat_map}
use Rattle.std.specs.List.{concat}
use Rattle.net_generator.specs.GeneratedWords.{Pieces, from_to, hex, word, quoted, list_of_one, list_of_two, key, table, numbered, node_name, a_name, b_name}

-- the prefix of a CSID in the block
abbrev pub csid_prefix : ℕ → Pieces
csid_prefix csid = codes "fcbb:bb00:" ∷ hex csid ∷ codes "::/48" ∷ []

unfoldable pub block_table : List ℕ
block_table =
    concat (table (codes "block")
    (key (codes "prefix") (quoted (word (codes "fcbb:bb00::/32"))) ++ key (codes "kind") (quoted (word (codes "next")))
    ++ key (codes "csid") (word (codes "16"))))

unfoldable pub node_table : ℕ → List ℕ
node_table i =
    concat (table (codes "node")
    (key (codes "name") (quoted (node_name i))
    ++ key (codes "address") (quoted (codes "2001:db8:0:" ∷ hex i ∷ codes "::1" ∷ []))))

-- a link of a name to node i from the node before it
unfoldable pub link_table : List ℕ → ℕ → List ℕ
link_table name i =
    concat (table (codes "link")
    (key (codes "name") (quoted (numbered name i)) ++ key (codes "from") (quoted (node_name (i - 1)))
    ++ key (codes "to") (quoted (node_name i))))

-- both links to node i
abbrev pub link_tables : ℕ → List ℕ
link_tables i = link_table (codes "a") i ++ link_table (codes "b") i

-- the link that leaves from the last node
unfoldable pub out_table : ℕ → List ℕ
out_table n =
    concat (table (codes "link") (key (codes "name") (quoted (word (codes "out"))) ++ key (codes "from") (quoted (node_name n))))

-- node i's route to node j
unfoldable pub route_table : ℕ → ℕ → List ℕ
route_table i j =
    concat (table (codes "route")
    (key (codes "node") (quoted (node_name i)) ++ key (codes "prefix") (quoted (csid_prefix j))
    ++ key (codes "via") (list_of_two (a_name (i + 1)) (b_name (i + 1)))))

-- the last node's route of table 100
unfoldable pub last_route_table : ℕ → List ℕ
last_route_table n =
    concat (table (codes "route")
    (key (codes "node") (quoted (node_name n)) ++ key (codes "table") (word (codes "100"))
    ++ key (codes "prefix") (quoted (word (codes "::/0"))) ++ key (codes "via") (list_of_one (word (codes "out")))))

-- node i's own SID
unfoldable pub end_table : ℕ → List ℕ
end_table i =
    concat (table (codes "sid")
    (key (codes "node") (quoted (node_name i)) ++ key (codes "prefix") (quoted (csid_prefix i))
    ++ key (codes "behaviour") (quoted (word (codes "End"))) ++ key (codes "csid") (quoted (word (codes "next")))))

-- node i's SID through the first link to the next node
unfoldable pub end_x_table : ℕ → List ℕ
end_x_table i =
    concat (table (codes "sid")
    (key (codes "node") (quoted (node_name i)) ++ key (codes "prefix") (quoted (csid_prefix (0xe000 + i)))
    ++ key (codes "behaviour") (quoted (word (codes "End.X"))) ++ key (codes "csid") (quoted (word (codes "next")))
    ++ key (codes "links") (list_of_one (a_name (i + 1)))))

-- the last node's SID that hands packets over to table 100, a function
unfoldable pub vpn_table : ℕ → List ℕ
vpn_table n =
    concat (table (codes "sid")
    (key (codes "node") (quoted (node_name n)) ++ key (codes "prefix") (quoted (word (codes "fcbb:bb00:f001::/48")))
    ++ key (codes "behaviour") (quoted (word (codes "End.DT6"))) ++ key (codes "title") (quoted (word (codes "vpn")))
    ++ key (codes "table") (word (codes "100"))))

-- the tables of each kind, in order

abbrev pub node_tables : ℕ → List ℕ
node_tables n = flat_map node_table (from_to 0 n)

abbrev pub chain_tables : ℕ → List ℕ
chain_tables n = flat_map link_tables (from_to 1 n)

abbrev pub all_link_tables : ℕ → List ℕ
all_link_tables n = chain_tables n ++ out_table n

-- node i's routes to the nodes after it
abbrev pub routes_of : ℕ → ℕ → List ℕ
routes_of n i = flat_map (route_table i) (from_to (i + 1) n)

abbrev pub routes_in_block : ℕ → List ℕ
routes_in_block n = flat_map (routes_of n) (from_to 0 (n - 1))

abbrev pub route_tables : ℕ → List ℕ
route_tables n = routes_in_block n ++ last_route_table n

abbrev pub end_tables : ℕ → List ℕ
end_tables n = flat_map end_table (from_to 1 n)

abbrev pub end_x_tables : ℕ → List ℕ
end_x_tables n = flat_map end_x_table (from_to 0 (n - 1))

abbrev pub sid_tables : ℕ → List ℕ
sid_tables n = end_tables n ++ end_x_tables n ++ vpn_table n

-- the description of the network of size n
abbrev pub net_text : ℕ → List ℕ
net_text n = block_table ++ node_tables n ++ all_link_tables n ++ route_tables n ++ sid_tables n
