use Rattle.ltx_reader.proofs.ReaderLawLemmas.{ended_files, file_pages}
use Rattle.ltx_reader.proofs.laws.ended_readers_have_files.Goals as goal

pub returns : goal.returns
returns c = record { files = ended_files; pages = file_pages }
