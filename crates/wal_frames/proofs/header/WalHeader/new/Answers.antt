use Rattle.std.proofs.Common.{sym}
use Rattle.wal_frames.specs.WalFormat.{header_front}
use Rattle.wal_frames.proofs.header.WalHeader.new.Goals as goal

pub returns-clause-sums : goal.returns-clause-sums
unfolding header_front
returns-clause-sums c = sym c.front_sums-sums.ensures
