use Rattle.std.proofs.Common.{◌≡◌, ◌<◌, ◌^◌, map}
use Rattle.std.specs.List.{range_with_len}
use Rattle.ls_base.specs.PageSize.{lock_page}
use Rattle.ls_sums.specs.PageSum.{sums_from}
use Rattle.wal_frames.specs.View.{page_at_rest}
use Rattle.sim_writer.proofs.rest.rest_entry.Given as goal

abbrev pub invariant-loop-before : goal.invariant-loop-before
invariant-loop-before l = record {
  few : l.count < 2 ^ 32;
  pages : l.pages ≡ map (page_at_rest l.size l.file) (range_with_len 1 l.before);
  sum : l.sum ≡ sums_from (lock_page l.size) 1 (map (page_at_rest l.size l.file) (range_with_len 1 l.before));
}
