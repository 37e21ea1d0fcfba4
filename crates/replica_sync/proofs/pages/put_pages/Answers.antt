use Rattle.std.proofs.Common.{◌≡◌, ◌≤◌, ℕ, Ok, Err, refl, sym, ap, subst, ◌∙◌, arith}
use Rattle.std.specs.Prelude.{false}
use Rattle.snapshot_read.proofs.TellLemmas.{err_of}
use Rattle.crash_disk.specs.GoesOn as disk
use Rattle.live_gate.specs.LiveRecord.{GoesOn}
use Rattle.ltx_format.specs.declared.header.LtxHeader.{LtxHeader}
use Rattle.wal_follow.specs.Following.{Fits}
use Rattle.wal_follow.proofs.GoesOnLemmas.{goes_map, goes_both}
use Rattle.replica_store.specs.Putting.{KeepsOthers}
use Rattle.replica_store.proofs.PutLemmas.{err_leaves}
use Rattle.replica_sync.specs.PageFile.{PutsPages, GainsPage}
use Rattle.replica_sync.specs.Pages.{count_of}
use Rattle.replica_sync.specs.Answers.{HasCauses}
use Rattle.replica_sync.specs.Reading.{ReadsFound, ReadsPage, IsReadFault}
use Rattle.replica_sync.proofs.NumberLemmas.{above_none, page_stored, found_rises}
use Rattle.replica_sync.proofs.PagesLemmas.{none_put, put_more}
use Rattle.replica_sync.proofs.ReadingLemmas.{moves_itself, moves_more, moves_then, all_read, live_now, with_now}
use Rattle.replica_sync.proofs.ReadingLemmas.{later_causes, none_failed}
use Rattle.replica_sync.proofs.pages.put_pages.Goals as goal

pub loop-at-init : goal.loop-at-init
loop-at-init g c = record {
  path = refl;
  header = refl;
  sized = c.requires.sized;
  below = λ k from few. above_none c.args.found.now c.requires.storable c.args.file.now.writer.last k
      c.requires.begun.first few;
  moves = moves_itself (g.L.Live.told c.args.live.now);
  fits = c.requires.fits;
  awake = c.requires.awake;
  puts = none_put c.args.found.now c.args.file.now (g.S.Disk.told c.args.store.now) (g.L.Live.told c.args.live.now);
  keeps = record { attached = refl; there = refl };
  folder = record { folder = refl; given = refl };
  live_later = omega arith;
  store_later = omega arith;
}

pub put_page-requires : goal.put_page-requires
put_page-requires g c =
    let found = c.args.found.now in
    let inv = c.loop-at.invariant in
    let few = c.loop-at-test.true in
    let size : c.loop-at.file.writer.header.size ≡ found.size = ap (λ (h : LtxHeader). h.size) inv.header
    ∙ c.requires.begun.size in
    let commit : c.loop-at.file.writer.header.commit ≡ found.commit = ap (λ (h : LtxHeader). h.commit) inv.header
    ∙ c.requires.begun.commit in
    let within : c.loop-at.at ≤ count_of found = omega (arith, few, c.count_of-at-end.ensures) in
    let put = inv.puts c.requires.begun.begun c.requires.begun.has in
    record {
      found = c.requires.found;
      sized = inv.sized;
      fits = inv.fits;
      writing = record { begun = c.requires.begun.begun; pages = put.pages; has = put.has };
      rises = let below = inv.below c.loop-at.at (omega arith) (omega (arith, few, c.count_of-at-end.ensures)) in
          omega (arith, below, c.number_at-number.ensures);
      stored = page_stored found c.requires.storable c.loop-at.file.writer.header c.number_at-number.result c.loop-at.at
          (omega (arith, few, c.count_of-at-end.ensures)) c.number_at-number.ensures size commit;
      size = size;
      commit = commit;
    }

pub returns-in_err-put_page-clause-reads : goal.returns-in_err-put_page-clause-reads
returns-in_err-put_page-clause-reads g c =
    let f = c.args.follower.now in
    let place = c.args.found.now.place in
    goes_both _ _ _ _ _ _ c.loop-at.invariant.moves c.in_err-put_page.ensures.reads (λ r mid after told step reads.
    subst (λ result. ReadsFound f place result r after) (sym (err_of _ _ c.from_residual.ensures.1))
    (moves_then f place (Err c.in_err-put_page.field-0.0) r mid after step (λ ok. absurd cc) reads.reads))

pub returns-in_err-put_page-clause-err : goal.returns-in_err-put_page-clause-err
returns-in_err-put_page-clause-err g c =
    err_leaves c.from_residual.result _ (λ begun has.
    let put = c.loop-at.invariant.puts begun has in
    subst (λ path. disk.GoesOn begun (g.S.Disk.told c.put_page.new.store) (KeepsOthers path)) c.loop-at.invariant.path
    (c.in_err-put_page.ensures.err begun put.pages put.has))

pub returns-in_err-put_page-clause-answer : goal.returns-in_err-put_page-clause-answer
returns-in_err-put_page-clause-answer g c =
    subst IsReadFault (sym (err_of _ _ c.from_residual.ensures.1)) c.in_err-put_page.ensures.answer

pub returns-in_err-put_page-clause-causes : goal.returns-in_err-put_page-clause-causes
returns-in_err-put_page-clause-causes g c =
    subst (λ result. HasCauses (g.L.Live.fault_count c.args.live.now) (g.L.Live.fault_count c.put_page.new.live)
    (g.S.Disk.fault_count c.args.store.now) (g.S.Disk.fault_count c.put_page.new.store) result)
    (sym (err_of _ _ c.from_residual.ensures.1))
    (later_causes (Err c.in_err-put_page.field-0.0) (g.L.Live.fault_count c.args.live.now)
    (g.L.Live.fault_count c.loop-at.live) (g.L.Live.fault_count c.put_page.new.live)
    (g.S.Disk.fault_count c.args.store.now) (g.S.Disk.fault_count c.loop-at.store)
    (g.S.Disk.fault_count c.put_page.new.store) c.loop-at.invariant.live_later c.loop-at.invariant.store_later
    c.in_err-put_page.ensures.causes)

pub loop-at-preserved : goal.loop-at-preserved
loop-at-preserved g c =
    let f = c.args.follower.now in
    let found = c.args.found.now in
    let inv = c.loop-at.invariant in
    let call = c.put_page.ensures in
    let ok = c.in_ok-put_page.ensures in
    let page = c.put_page.new.page in
    let number = c.number_at-number.ensures in
    record {
      path = call.path ∙ inv.path;
      header = call.header ∙ inv.header;
      sized = call.sized ∙ inv.sized;
      below = λ k from few.
          let rises = found_rises found c.requires.storable c.loop-at.at k (omega (arith, from)) few in
          omega (arith, rises, ok.last, number);
      moves = goes_both _ _ _ _ _ _ inv.moves ok.reads (λ r mid after told moves reads.
          moves_more f found c.number_at-number.result page r mid after moves reads);
      fits = live_now (g.L.Live.told c.loop-at.live) (g.L.Live.told c.put_page.new.live) _ (λ r. Fits f r.database)
          (λ r. Fits f r.database) ok.reads inv.fits (λ x y was reads. reads.reads.fits (reads.awake refl));
      awake = live_now (g.L.Live.told c.loop-at.live) (g.L.Live.told c.put_page.new.live) _ (λ r. Fits f r.database)
          (λ r. r.database.stopped ≡ false) ok.reads inv.fits (λ x y was reads. reads.awake refl);
      puts = put_more found c.loop-at.at page f c.args.file.now c.loop-at.file c.put_page.new.file
          (g.S.Disk.told c.args.store.now) (g.S.Disk.told c.loop-at.store) (g.S.Disk.told c.put_page.new.store)
          (g.L.Live.told c.args.live.now) (g.L.Live.told c.loop-at.live) (g.L.Live.told c.put_page.new.live)
          c.requires.found (goes_map _ _ _ _ inv.moves (λ r mid moves. moves.step)) c.requires.fits
          (subst (λ (n : ℕ). GoesOn (g.L.Live.told c.loop-at.live) (g.L.Live.told c.put_page.new.live)
          (ReadsPage f found n (Ok tt) page)) number ok.reads)
          inv.puts
          (subst (λ (n : ℕ). GainsPage c.loop-at.file c.put_page.new.file n page (g.S.Disk.told c.loop-at.store)
          (g.S.Disk.told c.put_page.new.store)) number ok.ok);
      keeps = record {
        attached = call.keeps.attached ∙ inv.keeps.attached;
        there = call.keeps.there ∙ inv.keeps.there;
      };
      folder = record {
        folder = call.keeps_folder.folder ∙ inv.folder.folder;
        given = call.keeps_folder.given ∙ inv.folder.given;
      };
      live_later = omega (arith, call.causes.live_later, inv.live_later);
      store_later = omega (arith, call.causes.store_later, inv.store_later);
    }

pub returns-clause-reads : goal.returns-clause-reads
returns-clause-reads g c =
    let f = c.args.follower.now in
    let inv = c.loop-at.invariant in
    with_now (g.L.Live.told c.args.live.now) (g.L.Live.told c.loop-at.live) _ _
    (λ r. (r.database.stopped ≡ false) × Fits f r.database) inv.moves
    (λ r told. (inv.awake r told, inv.fits r told))
    (λ x y step now. all_read f c.args.found.now.place x y step now.0 now.1)

pub returns-clause-ok : goal.returns-clause-ok
returns-clause-ok g c =
    let found = c.args.found.now in
    let all : c.loop-at.at ≡ count_of found
    = omega (arith, c.loop-at-test.false, c.loop-at.auto.at-end, c.count_of-at-end.ensures) in
    subst (λ (n : ℕ). PutsPages found n c.args.file.now c.loop-at.file (g.S.Disk.told c.args.store.now)
    (g.S.Disk.told c.loop-at.store) (g.L.Live.told c.args.live.now) (g.L.Live.told c.loop-at.live)) all
    c.loop-at.invariant.puts

pub returns-clause-causes : goal.returns-clause-causes
returns-clause-causes g c =
    none_failed (g.L.Live.fault_count c.args.live.now) (g.L.Live.fault_count c.loop-at.live)
    (g.S.Disk.fault_count c.args.store.now) (g.S.Disk.fault_count c.loop-at.store) c.loop-at.invariant.live_later
    c.loop-at.invariant.store_later
