use Rattle.wal_frames.proofs.LongestLemmas.{is_longest}
use Rattle.wal_frames.proofs.MarkLemmas.{valid_is, mark_stands, stands_mark}
use Rattle.wal_frames.proofs.LogLemmas.{marks_rise}
use Rattle.wal_frames.proofs.law.prefix_laws.Goals as goal

pub returns-clause-longest : goal.returns-clause-longest
returns-clause-longest c front h all = is_longest front h all

pub returns-clause-marks : goal.returns-clause-marks
returns-clause-marks c log h mark e = (
  λ is_mark. rw (valid_is log h e) (mark_stands log h mark e is_mark),
  λ stands. stands_mark log h mark e (rw (valid_is log h e) at stands),
)

pub returns-clause-rise : goal.returns-clause-rise
returns-clause-rise c log = marks_rise log
