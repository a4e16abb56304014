use Rattle.std.proofs.Common.{◌≡◌, drop}
use Rattle.srx_edge.specs.Edge.{file_named}
use Rattle.srx_edge.proofs.mem_files.find.Given as goal

-- no file so far has the name
abbrev pub invariant-loop-file : goal.invariant-loop-file
invariant-loop-file l = file_named (drop l.file-index l.files) l.name ≡ file_named l.files l.name
