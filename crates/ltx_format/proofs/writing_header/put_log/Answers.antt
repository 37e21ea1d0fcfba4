use Rattle.std.proofs.Common.{◌≡◌, ◌-◌, ℕ, List, ◌++◌, take, ap, ◌∙◌, append_assoc}
use Rattle.byteorder.specs.Endian.{big_bytes}
use Rattle.ltx_format.proofs.writing_header.put_log.Goals as goal

four : (old a b c d : List ℕ) → old ++ a ++ b ++ c ++ d ≡ old ++ (a ++ b ++ c ++ d)
four old a b c d =
    ap (λ (x : List ℕ). x ++ c ++ d) (append_assoc old a b)
    ∙ ap (λ (x : List ℕ). x ++ d) (append_assoc old (a ++ b) c)
    ∙ append_assoc old (a ++ b ++ c) d

pub returns : goal.returns
returns c =
    let wal = c.in-Wal in
    let size = big_bytes 8 (wal.end - 32) in
    let two = c.put_u64-2.ensures in
    rw (c.put_u32-2.ensures, c.put_u32.ensures, two, c.put_u64.ensures, c.saturating_sub.ensures, wal.is)
    (four (take 48 c.args.into.now) (big_bytes 8 32) size (big_bytes 4 wal.salt1) (big_bytes 4 wal.salt2))
