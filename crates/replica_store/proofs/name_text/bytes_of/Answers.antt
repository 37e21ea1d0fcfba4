use Rattle.std.proofs.Common.{refl, ◌∙◌}
use Rattle.ls_base.specs.Txid.{hex_digits}
use Rattle.replica_store.specs.NameText.{file_path}
use Rattle.replica_store.proofs.name_text.bytes_of.Goals as goal

pub returns : goal.returns
unfolding hex_digits file_path
returns c = rw (
  c.copy_from_slice.ensures.after ∙ c.digits.ensures.value,
  c.copy_from_slice-2.ensures.after
      ∙ c.digits-2.ensures.value,
) refl
