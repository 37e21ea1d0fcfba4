-- What was copied.
use Rattle.ls_base.specs.declared.mark.Mark.{Mark}
use Rattle.wal_frames.specs.declared.header.WalHeader.{WalHeader}

-- the header of the log, and the mark up to which its frames were copied
pub record CopiedState : Type 0 where
  pub head : WalHeader
  pub mark : Mark
