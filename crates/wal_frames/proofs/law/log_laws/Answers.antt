use Rattle.wal_frames.proofs.LogLemmas.{growing_keeps, last_never_earlier, cut_keeps, by_its_bytes, ends_within}
use Rattle.wal_frames.proofs.LogLemmas.{last_is_greatest, one_mark_an_end, committed_marks, committed_twice}
use Rattle.wal_frames.proofs.LogLemmas.{frame_stands}
use Rattle.wal_frames.proofs.law.log_laws.Goals as goal

pub returns-clause-grown : goal.returns-clause-grown
returns-clause-grown c log more = growing_keeps log more

pub returns-clause-last : goal.returns-clause-last
returns-clause-last c log more mark e = last_never_earlier log more mark e

pub returns-clause-cut : goal.returns-clause-cut
returns-clause-cut c log at mark is_mark below = cut_keeps log at mark is_mark below

pub returns-clause-shared : goal.returns-clause-shared
returns-clause-shared c a b mark is_mark same = by_its_bytes a b mark is_mark same

pub returns-clause-within : goal.returns-clause-within
returns-clause-within c log mark is_mark = ends_within log mark is_mark

pub returns-clause-greatest : goal.returns-clause-greatest
returns-clause-greatest c log mark last is_mark e = last_is_greatest log mark last is_mark e

pub returns-clause-one_an_end : goal.returns-clause-one_an_end
returns-clause-one_an_end c log a b left right e = one_mark_an_end log a b left right e

pub returns-clause-committed_marks : goal.returns-clause-committed_marks
returns-clause-committed_marks c log = committed_marks log

pub returns-clause-committed : goal.returns-clause-committed
returns-clause-committed c log = committed_twice log

pub returns-clause-frames : goal.returns-clause-frames
returns-clause-frames c log h before frame behind e split = frame_stands log h before frame behind e split
