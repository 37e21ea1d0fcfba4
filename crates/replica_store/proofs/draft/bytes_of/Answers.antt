use Rattle.std.proofs.Common.{sym, ap, ◌∙◌, length}
use Rattle.replica_store.proofs.PathLemmas.{length-file_path}
use Rattle.replica_store.proofs.draft.bytes_of.Goals as goal

pub copy_from_slice-requires : goal.copy_from_slice-requires
copy_from_slice-requires c =
    sym (ap length (c.as_bytes.ensures.value ∙ c.as_str.ensures ∙ c.write_name.ensures)
    ∙ length-file_path c.args.name.now.level c.args.name.now.min c.args.name.now.max)
