use Rattle.std.proofs.Common.{Err, sym, ap, ◌∙◌, arith}
use Rattle.std.proofs.lemmas.Result.{on_ok_weaker, on_err_weaker}
use Rattle.snapshot_read.proofs.TellLemmas.{err_of}
use Rattle.ltx_format.specs.declared.header.LtxHeader.{LtxHeader}
use Rattle.replica_store.proofs.PutLemmas.{err_leaves}
use Rattle.replica_sync.proofs.ReadingLemmas.{unread, read_answer, later_causes, not_store, not_want}
use Rattle.replica_sync.proofs.StoringLemmas.{stores, may_store, store_same, store_kept}
use Rattle.replica_sync.specs.declared.answer.SyncFault.TheVariants.{Memory as want}
use Rattle.replica_sync.proofs.storing.store_found.Goals as goal

pub header_of-header-requires : goal.header_of-header-requires
header_of-header-requires g c = record { storable = c.if-not-is_storable.ensures; valid = c.requires.valid }

pub write_file-requires : goal.write_file-requires
write_file-requires g c =
    let same = c.in_ok-file.ensures.header in
    record {
      found = c.requires.found;
      storable = c.if-not-is_storable.ensures;
      sized = omega (arith, c.deref_mut.ensures.len, c.in_ok-page.ensures.len, c.get.ensures.value);
      fits = c.requires.fits;
      awake = c.requires.awake;
      begun = record {
        begun = g.S.Disk.told c.args.store.now;
        has = c.in_ok-file.ensures.ok;
        first = c.in_ok-file.ensures.first;
        size = ap (λ (h : LtxHeader). h.size) same ∙ c.header_of-header.ensures.size;
        commit = ap (λ (h : LtxHeader). h.commit) same ∙ c.header_of-header.ensures.commit;
      };
    }

pub returns-clause-reads : goal.returns-clause-reads
returns-clause-reads g c = c.write_file.ensures.reads

pub returns-clause-ok : goal.returns-clause-ok
returns-clause-ok g c =
    let head = c.header_of-header.ensures in
    on_ok_weaker c.write_file.result
    (stores c.in_ok-file.file c.args.found.now c.args.name.now c.header_of-header.result c.args.moment
    (g.L.Live.told c.args.live.now) (g.L.Live.told c.write_file.new.live) c.if-not-is_storable.ensures
    c.in_ok-file.ensures.header head.size head.commit head.place head.min head.max head.moment
    (g.S.Disk.told c.args.store.now) (g.S.Disk.told c.begin.new.store) (g.S.Disk.told c.write_file.new.store)
    c.in_ok-file.ensures.path c.in_ok-file.ensures.ok) c.write_file.ensures.ok

pub returns-clause-err : goal.returns-clause-err
returns-clause-err g c =
    let head = c.header_of-header.ensures in
    on_err_weaker c.write_file.result
    (may_store c.in_ok-file.file c.args.found.now c.args.name.now c.header_of-header.result c.args.moment
    (g.L.Live.told c.args.live.now) (g.L.Live.told c.write_file.new.live) c.if-not-is_storable.ensures
    c.in_ok-file.ensures.header head.size head.commit head.place head.min head.max head.moment
    (g.S.Disk.told c.args.store.now) (g.S.Disk.told c.begin.new.store) (g.S.Disk.told c.write_file.new.store)
    c.in_ok-file.ensures.path c.in_ok-file.ensures.ok) c.write_file.ensures.err

pub returns-clause-answer : goal.returns-clause-answer
returns-clause-answer g c = read_answer c.write_file.result c.write_file.ensures.answer

pub returns-clause-causes : goal.returns-clause-causes
returns-clause-causes g c =
    later_causes c.write_file.result (g.L.Live.fault_count c.args.live.now) (g.L.Live.fault_count c.args.live.now)
    (g.L.Live.fault_count c.write_file.new.live) (g.S.Disk.fault_count c.args.store.now)
    (g.S.Disk.fault_count c.begin.new.store) (g.S.Disk.fault_count c.write_file.new.store) (omega arith)
    c.begin.ensures.cause.later c.write_file.ensures.causes

pub returns-in_err-page-clause-reads : goal.returns-in_err-page-clause-reads
returns-in_err-page-clause-reads g c =
    let failed = err_of _ _ c.from_residual.ensures.1 in
    record {
      told = λ r told. (
        r,
        told,
        unread c.args.follower.now c.args.found.now.place c.from_residual.result r
            (λ fault is. not_want fault (sym failed ∙ is)) (c.requires.fits r told),
      );
      silent = λ none. none;
    }

pub returns-in_err-page-clause-err : goal.returns-in_err-page-clause-err
returns-in_err-page-clause-err g c =
    err_leaves c.from_residual.result _
    (store_same c.args.found.now c.args.name.now c.args.moment (g.S.Disk.told c.args.store.now)
    (g.L.Live.told c.args.live.now) (g.L.Live.told c.args.live.now))

pub returns-in_err-gathered-clause-reads : goal.returns-in_err-gathered-clause-reads
returns-in_err-gathered-clause-reads g c =
    let failed = err_of _ _ c.from_residual-in_err-gathered.ensures.1 in
    record {
      told = λ r told. (
        r,
        told,
        unread c.args.follower.now c.args.found.now.place c.from_residual-in_err-gathered.result r
            (λ fault is. not_want fault (sym failed ∙ is)) (c.requires.fits r told),
      );
      silent = λ none. none;
    }

pub returns-in_err-gathered-clause-err : goal.returns-in_err-gathered-clause-err
returns-in_err-gathered-clause-err g c =
    err_leaves c.from_residual-in_err-gathered.result _
    (store_same c.args.found.now c.args.name.now c.args.moment (g.S.Disk.told c.args.store.now)
    (g.L.Live.told c.args.live.now) (g.L.Live.told c.args.live.now))

pub returns-in_err-file-clause-reads : goal.returns-in_err-file-clause-reads
returns-in_err-file-clause-reads g c =
    let failed = err_of _ _ c.from_residual-in_err-file.ensures.1 in
    record {
      told = λ r told. (
        r,
        told,
        unread c.args.follower.now c.args.found.now.place c.from_residual-in_err-file.result r
            (λ fault is. not_store c.in_err-file.field-0.0 fault (sym failed ∙ is)) (c.requires.fits r told),
      );
      silent = λ none. none;
    }

pub returns-in_err-file-clause-err : goal.returns-in_err-file-clause-err
returns-in_err-file-clause-err g c =
    err_leaves c.from_residual-in_err-file.result _
    (store_kept c.args.found.now c.args.name.now c.args.moment (g.S.Disk.told c.args.store.now)
    (g.S.Disk.told c.begin.new.store) (g.L.Live.told c.args.live.now) (g.L.Live.told c.args.live.now)
    c.in_err-file.ensures.err)

pub returns-then-not-is_storable-clause-reads : goal.returns-then-not-is_storable-clause-reads
returns-then-not-is_storable-clause-reads g c = record {
  told = λ r told. (
    r,
    told,
    unread c.args.follower.now c.args.found.now.place (Err want) r not_want
        (c.requires.fits r told),
  );
  silent = λ none. none;
}
