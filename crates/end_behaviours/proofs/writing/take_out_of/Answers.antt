use Rattle.std.proofs.Common.{◌+◌}
use Rattle.ip6_headers.specs.ChainStepping.{place_view}
use Rattle.end_behaviours.proofs.EndRemovalLemmas.{out_comes, out_reaches, out_reaches_by, remains_alone, remains_within}
use Rattle.end_behaviours.proofs.writing.take_out_of.Goals as goal

pub returns-in-On-clause-outcome : goal.returns-in-On-clause-outcome
returns-in-On-clause-outcome c =
    let at = c.args.place.at + c.args.len in
    let bytes = c.args.buf.now.bytes in
    let alone = remains_alone at bytes c.args.outcome c.in-On.is c.requires.remains in
    let within = remains_within at bytes c.args.outcome c.in-On.is c.requires.remains in
    out_comes bytes c.take_out.new.buf.bytes (place_view c.args.place) c.args.len alone c.requires.behind within c.args.outcome c.in-On.is
    c.take_out.ensures.packet

pub returns-in-On-clause-reaches : goal.returns-in-On-clause-reaches
returns-in-On-clause-reaches c =
    let at = c.args.place.at + c.args.len in
    let bytes = c.args.buf.now.bytes in
    let alone = remains_alone at bytes c.args.outcome c.in-On.is c.requires.remains in
    let within = remains_within at bytes c.args.outcome c.in-On.is c.requires.remains in
    out_reaches_by c.args.outcome c.args.place.at c.take_out.new.buf.bytes
    (out_reaches bytes c.take_out.new.buf.bytes
    (place_view c.args.place) c.args.len alone c.requires.behind within c.take_out.ensures.packet)
