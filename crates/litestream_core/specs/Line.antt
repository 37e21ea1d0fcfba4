-- The line that a restore prints. This project's rule.
use Rattle.std.specs.Prelude.{ℕ, List, ◌++◌, codes, decimal}
use Rattle.ls_base.specs.Txid.{hex_digits}

abbrev pub restored_text : ℕ → ℕ → List ℕ
restored_text txid pages = codes "restored " ++ hex_digits txid ++ codes " pages " ++ decimal pages ++ codes "\n"
