use Rattle.std.proofs.Common.{refl}
use Rattle.wal_frames.specs.WalFormat.{header_front}
use Rattle.wal_frames.proofs.header.put_front.Goals as goal

pub returns-clause-bytes : goal.returns-clause-bytes
unfolding header_front
returns-clause-bytes c =
    rw (
      c.put_number-6.ensures.bytes,
      c.put_number-5.ensures.bytes,
      c.put_number-4.ensures.bytes,
      c.put_number-3.ensures.bytes,
      c.put_number-2.ensures.bytes,
      c.put_number.ensures.bytes,
      c.magic_of.ensures,
      c.get.ensures.value,
    ) refl

pub returns-clause-fits : goal.returns-clause-fits
returns-clause-fits c = record {
  size = c.get.ensures.valid;
  seq = c.put_number-4.ensures.fits;
  salt1 = c.put_number-5.ensures.fits;
  salt2 = c.put_number-6.ensures.fits;
}
