use Rattle.pce_engine.proofs.FileTexts.{no_text}
use Rattle.pce_engine.proofs.loading.network_of.Goals as goal

pub returns-in-Err-clause-made : goal.returns-in-Err-clause-made
returns-in-Err-clause-made g c =
    no_text c.args.load.now c.in-File.path c.args.networks.now (g.F.Files.seen c.args.files.now) (g.F.Files.seen c.file_text.new.files)
    c.in-Err.error c.in-File.is c.in-Err.ensures
