use Rattle.wal_follow.proofs.FitsLemmas.{fits_stays}
use Rattle.wal_follow.proofs.PassedLemmas.{passed_fits}
use Rattle.wal_follow.proofs.law.follow_laws.Goals as goal

pub returns-clause-stays : goal.returns-clause-stays
returns-clause-stays c = fits_stays

pub returns-clause-passed : goal.returns-clause-passed
returns-clause-passed c = passed_fits
