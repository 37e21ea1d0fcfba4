use Rattle.snapshot_read.proofs.OffsetLemmas.{mapped_is_view, mapped_lies_within}
use Rattle.snapshot_read.proofs.law.read_laws.Goals as goal

pub returns-clause-view : goal.returns-clause-view
returns-clause-view c file log h mark offsets number accepted is_mark are from upto = mapped_is_view log h mark offsets
    number accepted is_mark are file from upto

pub returns-clause-within : goal.returns-clause-within
returns-clause-within c log h mark offsets number accepted is_mark are = mapped_lies_within log h mark offsets number
    accepted is_mark are
