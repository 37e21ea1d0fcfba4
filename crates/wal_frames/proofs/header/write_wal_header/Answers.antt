use Rattle.std.proofs.Common.{◌≡◌, ◌∙◌, length, take, sym, refl, arith}
use Rattle.std.proofs.Math.Seq.{take-length}
use Rattle.wal_frames.specs.WalFormat.{header_front, wal_header_bytes}
use Rattle.wal_frames.proofs.HeaderLemmas.{page_size_fits}
use Rattle.wal_frames.proofs.WrittenLemmas.{FitsHeader, header_reads_back}
use Rattle.wal_frames.proofs.header.write_wal_header.Goals as goal

pub returns-clause-bytes : goal.returns-clause-bytes
unfolding wal_header_bytes header_front
returns-clause-bytes c =
    let written = c.put_number-2.new.into in
    let len : length written ≡ 32 = omega arith in
    let all : take 32 written ≡ written = rw (← len) (take-length written) in
    sym all ∙ rw (c.put_number-2.ensures.bytes, c.put_number.ensures.bytes, c.put_front.ensures.bytes) refl

pub returns-clause-reads_back : goal.returns-clause-reads_back
returns-clause-reads_back c =
    let h = c.args.head.now in
    let f = c.put_front.ensures.fits in
    let fits : FitsHeader h = record {
      size = f.size;
      small = page_size_fits h.size f.size;
      seq = f.seq;
      salt1 = f.salt1;
      salt2 = f.salt2;
      s0 = c.put_number.ensures.fits;
      s1 = c.put_number-2.ensures.fits;
    } in
    rw (returns-clause-bytes c) (header_reads_back h fits c.requires)
