use Rattle.std.proofs.Common.{◌≡◌, ◌∙◌, ◌+◌, ◌-◌, [], length, drop, refl, append-nil, rules, length-drop, arith}
use Rattle.std.proofs.lemmas.List.{drop_all}
use Rattle.wal_frames.specs.WalFrame.{frame_bytes}
use Rattle.wal_frames.proofs.FrameLemmas.{size_in_eights}
use Rattle.wal_frames.proofs.WrittenLemmas.{FitsFrame, frame_is_valid}
use Rattle.wal_frames.proofs.frame.write_frame.Goals as goal

pub sums_over-sums-requires-clause-page : goal.sums_over-sums-requires-clause-page
sums_over-sums-requires-clause-page c = rw c.requires.page (size_in_eights c.args.head.now.size c.get.ensures.valid)

pub returns-clause-bytes : goal.returns-clause-bytes
unfolding frame_bytes
returns-clause-bytes c =
    let into = c.put_number-6.new.into in
    let size : c.get.result ≡ c.args.head.now.size = c.get.ensures.value in
    let len : length (drop 24 into) ≡ c.args.head.now.size = length-drop 24 into ∙ omega (arith, c.requires.room) in
    let none : drop (24 + c.get.result - 24) (drop 24 into) ≡ [] = drop_all (24 + c.get.result - 24) (drop 24 into)
    (omega (arith, len, size)) in
    rw (
      c.copy_from_slice.ensures.after,
      none,
      append-nil c.args.page.now,
      c.put_number-6.ensures.bytes,
      c.put_number-5.ensures.bytes,
      c.put_number-4.ensures.bytes,
      c.put_number-3.ensures.bytes,
      c.put_number-2.ensures.bytes,
      c.put_number.ensures.bytes,
    ) refl

pub returns-clause-value : goal.returns-clause-value
returns-clause-value c = search rules

pub returns-clause-valid : goal.returns-clause-valid
returns-clause-valid c some =
    let h = c.args.head.now in
    let sums = c.sums_over-sums.result in
    let fits : FitsFrame h sums c.args.number c.args.commit = record {
      number_small = c.put_number.ensures.fits;
      commit_small = c.put_number-2.ensures.fits;
      salt1 = c.put_number-3.ensures.fits;
      salt2 = c.put_number-4.ensures.fits;
      s0 = c.put_number-5.ensures.fits;
      s1 = c.put_number-6.ensures.fits;
    } in
    rw (returns-clause-bytes c) (frame_is_valid h sums c.args.number c.args.commit c.args.page.now fits c.args.sums
    some (returns-clause-value c))
