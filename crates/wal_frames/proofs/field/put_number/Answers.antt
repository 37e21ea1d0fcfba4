use Rattle.std.proofs.Common.{◌≡◌, ◌∙◌, ◌+◌, ◌-◌, ℕ, List, [], ◌++◌, take, drop, ap, arith}
use Rattle.std.proofs.lemmas.List.{length-take, drop_all}
use Rattle.std.proofs.lemmas.Slice.{take-put_mid}
use Rattle.byteorder.specs.Endian.{big_bytes}
use Rattle.wal_frames.proofs.field.put_number.Goals as goal

pub returns-clause-bytes : goal.returns-clause-bytes
returns-clause-bytes c =
    let at = c.args.at in
    let xs = c.args.into.now in
    let bytes = big_bytes 4 c.args.number in
    let four : at + 4 - at ≡ 4 = omega arith in
    let none : drop 4 (take (at + 4 - at) (drop at xs)) ≡ [] = drop_all 4 (take (at + 4 - at) (drop at xs))
    (omega (arith, length-take (at + 4 - at) (drop at xs))) in
    let put : c.write_u32.new.buf ≡ bytes = c.write_u32.ensures ∙ ap (λ (rest : List ℕ). bytes ++ rest) none in
    rw put (take-put_mid at (at + 4 - at) xs bytes (at + 4) (omega arith) (omega arith))
