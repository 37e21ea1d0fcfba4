use Rattle.std.proofs.Common.{◌-◌, ◌∙◌, flat_map, length}
use Rattle.std.specs.List.{concat}
use Rattle.ls_sums.specs.Crc64.{after_bytes}
use Rattle.ls_sums.proofs.WindowLemmas.{many_words}
use Rattle.ls_sums.proofs.window.after_many.Goals as goal

pub returns : goal.returns
returns c =
    let first = c.after_words.result in
    let blocks = c.as_rchunks.result.1.now in
    c.last_block.ensures (after_bytes first (flat_map concat blocks))
    (c.take_blocks.ensures first c.ring_of-ring.ensures)
    ∙ many_words c.args.register first (length c.args.words.now - 64) c.args.words.now c.split_at.result.0.now
    c.split_at.result.1.now
    c.as_rchunks.result.0.now blocks c.split_at.ensures.front c.split_at.ensures.back c.as_rchunks.ensures.front
    c.as_rchunks.ensures.back
    c.after_words.ensures
