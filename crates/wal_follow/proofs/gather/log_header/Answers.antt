use Rattle.std.proofs.Common.{◌≡◌, ◌∙◌, ◌≤◌, length, take, drop, Ok, Err, sym, ap, arith}
use Rattle.std.proofs.lemmas.List.{take-append-le, length-take}
use Rattle.wal_frames.specs.WalFormat.{read_header}
use Rattle.snapshot_read.proofs.TellLemmas.{goes_then, goes_weaker, err_of}
use Rattle.wal_follow.proofs.HeaderLemmas.{head_short, head_unaimed, head_unread, head_accepted, head_none}
use Rattle.wal_follow.proofs.gather.log_header.Goals as goal

pub returns-then-bytes-clause-told : goal.returns-then-bytes-clause-told
returns-then-bytes-clause-told g c =
    goes_weaker _ _ _ _ c.in_ok-aim.ensures.told (λ x y aims. head_short c.args.bytes x y aims c.if-bytes.true)

pub returns-in_err-aim-clause-told : goal.returns-in_err-aim-clause-told
returns-in_err-aim-clause-told g c =
    goes_weaker _ _ _ _ c.in_err-aim.ensures.told (λ x y aims.
    head_unaimed c.args.bytes _ _ c.in_err-aim.field-0.0 x y (err_of _ _ c.from_residual.ensures.1) aims)

pub returns-in_err-count-clause-told : goal.returns-in_err-count-clause-told
returns-in_err-count-clause-told g c =
    let room : length c.fill.new.into ≡ 32 = omega
    (arith, c.in_err-count.ensures.length, length-take 32 c.args.buffer.now, c.requires.room) in
    goes_then _ _ _ _ _ _ c.in_ok-aim.ensures.told c.in_err-count.ensures.told (λ x y z aims fills.
    head_unread c.args.bytes _ _ c.in_err-count.field-0.0 c.fill.new.into x y z
    (err_of _ _ c.from_residual-in_err-count.ensures.1) aims fills room)

pub returns-in-Ok-clause-told : goal.returns-in-Ok-clause-told
returns-in-Ok-clause-told g c =
    let count = c.in_ok-count.count in
    let part = c.fill.new.into in
    let room : length part ≡ 32 = omega
    (arith, c.in_ok-count.ensures.length, length-take 32 c.args.buffer.now, c.requires.room) in
    let few : count ≤ length part = omega (arith, c.in_ok-count.ensures.bound, c.in_ok-count.ensures.length) in
    let same = take-append-le count part (drop 32 c.args.buffer.now) few in
    let is : read_header (take count part) ≡ Ok c.in-Ok.head = ap read_header (sym same)
    ∙ sym c.in-Ok.ensures.value in
    goes_then _ _ _ _ _ _ c.in_ok-aim.ensures.told c.in_ok-count.ensures.told (λ x y z aims fills.
    head_accepted c.args.bytes part count x y z aims fills room c.in-Ok.head is)

pub returns-in-Err-clause-told : goal.returns-in-Err-clause-told
returns-in-Err-clause-told g c =
    let count = c.in_ok-count.count in
    let part = c.fill.new.into in
    let room : length part ≡ 32 = omega
    (arith, c.in_ok-count.ensures.length, length-take 32 c.args.buffer.now, c.requires.room) in
    let few : count ≤ length part = omega (arith, c.in_ok-count.ensures.bound, c.in_ok-count.ensures.length) in
    let same = take-append-le count part (drop 32 c.args.buffer.now) few in
    let is : read_header (take count part) ≡ Err c.in-Err.field-0 = ap read_header (sym same)
    ∙ sym c.in-Err.ensures.value in
    goes_then _ _ _ _ _ _ c.in_ok-aim.ensures.told c.in_ok-count.ensures.told (λ x y z aims fills.
    head_none c.args.bytes part count x y z aims fills room c.in-Err.field-0 is)
