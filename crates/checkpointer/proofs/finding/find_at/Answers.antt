use Rattle.std.proofs.Common.{◌≡◌, ◌∙◌, List, ℕ, Some, Ok, length, take, drop, refl, ap, sym, subst, arith}
use Rattle.std.proofs.lemmas.List.{length-take-le, take-append-drop}
use Rattle.wal_frames.specs.WalFormat.{read_header}
use Rattle.wal_frames.specs.Marks.{IsMark, last_mark_of}
use Rattle.std.specs.Ordering.{nat_cmp}
use Rattle.std.specs.BTreeMap.{get}
use Rattle.wal_frames.specs.declared.header.WalHeader.{WalHeader}
use Rattle.wal_frames.specs.ValidPrefix.{valid_frames}
use Rattle.wal_frames.specs.View.{frames_page}
use Rattle.wal_frames.specs.Scanned.{Scanned}
use Rattle.wal_frames.proofs.AcceptedLemmas.{read_header-append}
use Rattle.wal_frames.proofs.LogLemmas.{last_is_mark, stays_mark}
use Rattle.checkpointer.specs.PairState.{bytes_at}
use Rattle.checkpointer.specs.Gathering.{HasGathered, StandsFrom}
use Rattle.checkpointer.proofs.FindLemmas.{last_by, has_a_last, last_ends}
use Rattle.checkpointer.proofs.CauseLemmas.{rose_after, err_cause, ok_cause}
use Rattle.checkpointer.proofs.GatherLemmas.{gather_begins}
use Rattle.checkpointer.proofs.finding.find_at.Goals as goal

pub returns-clause-found : goal.returns-clause-found
returns-clause-found g c events told =
    let log = bytes_at events c.args.wal.now in
    let front = take c.args.upto log in
    let asked = c.requires.log events told in
    let len : length (take 32 log) ≡ 32 = length-take-le 32 log (omega (arith, asked.long, c.requires.bound.0)) in
    let begun : HasGathered (take 32 log) c.in_ok-scan.scan c.new-pages.result =
    gather_begins (take 32 log) c.in_ok-scan.scan c.new-pages.result len
    (c.in_ok-scan.ensures.value (take 32 log) len asked.head) c.new-pages.ensures.empty in
    let gathered = c.in-Ok.ensures.value events told asked.long begun in
    let last : last_mark_of front ≡ Some c.in-Some.mark = sym (c.in-Some.ensures.value front gathered.taken) in
    let among : IsMark front c.in-Some.mark = last_is_mark front c.in-Some.mark last in
    let is_mark : IsMark log c.in-Some.mark = subst (λ (l : List ℕ). IsMark l c.in-Some.mark)
    (take-append-drop c.args.upto log) (stays_mark front (drop c.args.upto log) c.in-Some.mark among) in
    let head : c.back.new.self.head ≡ c.gather_on.new.scan.head = ap (λ (v : Scanned). v.head) c.back.ensures.exact
    ∙ c.in-Ok-newer_mark.ensures.head in
    let many : length front ≡ c.args.upto = length-take-le c.args.upto log asked.long in
    let whole : read_header log ≡ read_header front =
    ap read_header (sym (take-append-drop c.args.upto log)) ∙ read_header-append front (drop c.args.upto log)
    (omega (arith, many, c.requires.bound.0)) in
    let by = last_by log c.in-Some.mark c.args.upto c.gather_on.new.scan is_mark c.if-mark-upto.false asked.long
    gathered.taken c.in-Ok-newer_mark.newer c.is_none.result c.is_none.ensures
    (c.in-Ok-newer_mark.ensures.value events (c.in-Ok.ensures.unchanged ∙ told)) in
    record {
      head = whole ∙ gathered.taken.accepted ∙ ap (λ (h : WalHeader). Ok h) (sym head);
      is_mark = is_mark;
      end = c.if-mark-upto.false;
      offsets = λ p.
          subst (λ (h : WalHeader). StandsFrom h.size front (get nat_cmp c.gather_on.new.pages p)
          (frames_page p (valid_frames front))) (sym head) (gathered.offsets p);
      last = by.0;
      not_last = by.1;
    }

pub returns-in_default-clause-not_mark : goal.returns-in_default-clause-not_mark
returns-in_default-clause-not_mark g c events told is mark is_mark end =
    let log = bytes_at events c.args.wal.now in
    let front = take c.args.upto log in
    let asked = c.requires.log events told in
    let len : length (take 32 log) ≡ 32 = length-take-le 32 log (omega (arith, asked.long, c.requires.bound.0)) in
    let begun : HasGathered (take 32 log) c.in_ok-scan.scan c.new-pages.result =
    gather_begins (take 32 log) c.in_ok-scan.scan c.new-pages.result len
    (c.in_ok-scan.ensures.value (take 32 log) len asked.head) c.new-pages.ensures.empty in
    let gathered = c.in-Ok.ensures.value events told asked.long begun in
    has_a_last log c.args.upto asked.long mark is_mark end (sym (c.in_default.ensures.value front gathered.taken))

pub returns-then-mark-upto-clause-not_mark : goal.returns-then-mark-upto-clause-not_mark
returns-then-mark-upto-clause-not_mark g c events told is mark is_mark end =
    let log = bytes_at events c.args.wal.now in
    let front = take c.args.upto log in
    let asked = c.requires.log events told in
    let len : length (take 32 log) ≡ 32 = length-take-le 32 log (omega (arith, asked.long, c.requires.bound.0)) in
    let begun : HasGathered (take 32 log) c.in_ok-scan.scan c.new-pages.result =
    gather_begins (take 32 log) c.in_ok-scan.scan c.new-pages.result len
    (c.in_ok-scan.ensures.value (take 32 log) len asked.head) c.new-pages.ensures.empty in
    let gathered = c.in-Ok.ensures.value events told asked.long begun in
    c.if-mark-upto.true (last_ends log c.args.upto asked.long mark is_mark end c.in-Some.mark
    (sym (c.in-Some.ensures.value front gathered.taken)))

pub returns-in-Err-clause-cause : goal.returns-in-Err-clause-cause
returns-in-Err-clause-cause g c = err_cause (g.D.Disk.fault_count c.args.disk.now)
    (g.D.Disk.fault_count c.gather_on.new.disk) c.in-Err.fault c.in-Err.ensures.cause

pub returns-in_default-clause-cause : goal.returns-in_default-clause-cause
returns-in_default-clause-cause g c = record { later = c.in-Ok.ensures.cause.later; rose = λ fault is. absurd cc }

pub returns-then-mark-upto-clause-cause : goal.returns-then-mark-upto-clause-cause
returns-then-mark-upto-clause-cause g c = record { later = c.in-Ok.ensures.cause.later; rose = λ fault is. absurd cc }

pub returns-in-Err-newer_mark-clause-cause : goal.returns-in-Err-newer_mark-clause-cause
returns-in-Err-newer_mark-clause-cause g c = record {
  later = omega (arith, c.in-Ok.ensures.cause.later, c.in-Err-newer_mark.ensures.cause.later);
  rose = λ fault is.
      rose_after (g.D.Disk.fault_count c.args.disk.now) (g.D.Disk.fault_count c.gather_on.new.disk)
      (g.D.Disk.fault_count c.newer_mark.new.disk) c.in-Ok.ensures.cause.later
      (c.in-Err-newer_mark.ensures.cause.rose refl);
}

pub returns-clause-cause : goal.returns-clause-cause
returns-clause-cause g c =
    ok_cause (g.D.Disk.fault_count c.args.disk.now) (g.D.Disk.fault_count c.newer_mark.new.disk) _
    (omega (arith, c.in-Ok.ensures.cause.later, c.in-Ok-newer_mark.ensures.cause.later))
