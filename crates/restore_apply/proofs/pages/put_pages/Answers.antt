use Rattle.std.proofs.Common.{◌≡◌, ◌+◌, ◌++◌, List, [], ℕ, refl, sym, ap, subst, ◌∙◌, arith}
use Rattle.std.proofs.lemmas.List.{append-nil}
use Rattle.crash_disk.proofs.GoesOnLemmas.{goes_on-same, goes_on-then, goes_on-weaker}
use Rattle.crash_disk.specs.Files.{files_after}
use Rattle.page_cursors.specs.Costs.{left_of_all, nothing}
use Rattle.page_cursors.proofs.CostLemmas.{takes_none, takes_then}
use Rattle.page_cursors.proofs.CostListLemmas.{takes_all}
use Rattle.page_cursors.proofs.NextLemmas.{from_none, from_some}
use Rattle.restore_apply.specs.Pages.{bytes_put, lock_between}
use Rattle.restore_apply.specs.Staging.{OnlyAppends, AppendsGathered}
use Rattle.restore_apply.proofs.PutLemmas.{put_start, put_goes_on, put_end}
use Rattle.restore_apply.proofs.StagingLemmas.{gathers-then, only_appends, only_appends-then, still_there, err_leaves}
use Rattle.restore_apply.proofs.pages.put_pages.Goals as goal

pub loop-target-init : goal.loop-target-init
loop-target-init g c =
    let target = g.T.Disk.told c.args.target.now in
    let name = c.args.name.now in
    let gathered = c.args.gathered.now in
    record {
      put = [];
      puts =
          goes_on-same target target (AppendsGathered name gathered [] gathered) refl
          (λ events. record { pieces = []; record_is = refl; bytes = append-nil gathered });
      are = put_start (g.S.Disk.told c.args.store.now) c.args.cursors.now c.requires.given;
      costs = λ events told counted. (counted, takes_none _ _ _ _ _ refl refl);
      ready = c.requires.ready;
      there = c.requires.there;
      unchanged = refl;
      same_folder = refl;
      same_target_folder = refl;
      store_later = omega arith;
      target_later = omega arith;
    }

pub returns-in_err-last-clause-err : goal.returns-in_err-last-clause-err
returns-in_err-last-clause-err g c =
    let name = c.args.name.now in
    let before = c.loop-target.invariant in
    err_leaves c.from_residual-in_err-last.result _
    (goes_on-then (g.T.Disk.told c.args.target.now) (g.T.Disk.told c.loop-target.target) (g.T.Disk.told
    c.put_page.new.disk) _ (OnlyAppends name) (OnlyAppends name) before.puts c.in_err-last.ensures.err
    (λ x y z first second. only_appends-then name x y z (only_appends name _ _ _ x y first) second))

pub loop-target-preserved : goal.loop-target-preserved
loop-target-preserved g c =
    let name = c.args.name.now in
    let before = c.loop-target.invariant in
    let first = c.args.cursors.now in
    let now = c.loop-target.cursors in
    let next = c.next.new.self in
    let last = c.loop-target.last in
    let number = c.in-Some.field-0 in
    let store = g.S.Disk.told c.args.store.now in
    let rises = from_some c.in_ok-next.field-0 _ number c.in_ok-next.ensures.rises c.in-Some.is in
    let gives = from_some c.in_ok-next.field-0 _ number c.in_ok-next.ensures.gives c.in-Some.is in
    let start = g.T.Disk.told c.args.target.now in
    let mid = g.T.Disk.told c.loop-target.target in
    let after = g.T.Disk.told c.put_page.new.disk in
    let more = bytes_put next.size next.commit last next.last next.page.items in
    record {
      put = before.put ++ more;
      puts =
          goes_on-then start mid after _ _ (AppendsGathered name c.args.gathered.now (before.put ++ more)
          c.put_page.new.gathered) before.puts c.in_ok-last.ensures.ok
          (λ x y z one two. gathers-then name _ _ _ _ _ x y z one two);
      are =
          put_goes_on store first now next last number before.put next.page.items before.are rises.0 rises.1
          (λ events told. gives events (before.unchanged ∙ told)) c.in_ok-next.ensures.same c.in_ok-last.last
          c.in_ok-last.ensures.last;
      costs = λ events told counted.
          let files = files_after events in
          let so_far = c.loop-target.invariant.costs events told counted in
          let went = c.in_ok-next.ensures.takes events (c.loop-target.invariant.unchanged ∙ told) so_far.0 in
          let all = takes_then (left_of_all files c.args.cursors.now.cursors.items) (left_of_all files
          c.loop-target.cursors.cursors.items) (left_of_all files c.next.new.self.cursors.items) c.args.steps.now
          c.loop-target.steps c.next.new.steps (g.S.Disk.given c.args.store.now) (g.S.Disk.given c.loop-target.store)
          (g.S.Disk.given c.next.new.store) so_far.1 went.1 in
          (went.0, all);
      ready = c.in_ok-next.ensures.ready;
      there =
          still_there mid after name
          (goes_on-weaker mid after _ (OnlyAppends name) c.in_ok-last.ensures.ok (only_appends name _ _ _))
          before.there;
      unchanged = c.next.ensures.unchanged ∙ before.unchanged;
      same_folder = c.next.ensures.same_folder ∙ before.same_folder;
      same_target_folder = c.put_page.ensures.same_folder ∙ before.same_target_folder;
      store_later = omega (arith, c.next.ensures.cause.later, before.store_later);
      target_later = omega (arith, c.put_page.ensures.cause.later, before.target_later);
    }

pub returns-in_err-put_lock_page-clause-err : goal.returns-in_err-put_lock_page-clause-err
returns-in_err-put_lock_page-clause-err g c =
    let name = c.args.name.now in
    let before = c.loop-target.invariant in
    err_leaves c.from_residual-in_err-put_lock_page.result _
    (goes_on-then (g.T.Disk.told c.args.target.now) (g.T.Disk.told c.loop-target.target) (g.T.Disk.told
    c.put_lock_page.new.disk) _ (OnlyAppends name) (OnlyAppends name) before.puts c.in_err-put_lock_page.ensures.err
    (λ x y z first second. only_appends-then name x y z (only_appends name _ _ _ x y first) second))

pub returns-clause-ok : goal.returns-clause-ok
returns-clause-ok g c =
    let name = c.args.name.now in
    let before = c.loop-target.invariant in
    let first = c.args.cursors.now in
    let now = c.loop-target.cursors in
    let next = c.next.new.self in
    let last = c.loop-target.last in
    let store = g.S.Disk.told c.args.store.now in
    let ended = from_none c.in_ok-next.field-0 _ c.in_ok-next.ensures.ended c.in_default.is in
    let same = c.in_ok-next.ensures.same in
    let size : next.size ≡ first.size = same.size ∙ before.are.same.size in
    let commit : next.commit ≡ first.commit = same.commit ∙ before.are.same.commit in
    let lock : lock_between next.size last (c.from-end.result + 1) ≡ lock_between first.size last (first.commit + 1) =
    ap (λ (s : ℕ). lock_between s last (c.from-end.result + 1)) size
    ∙ ap (λ (n : ℕ). lock_between first.size last (n + 1)) (c.from-end.ensures ∙ commit) in
    let all = before.put ++ lock_between first.size last (first.commit + 1) in
    record {
      bytes = all;
      puts =
          goes_on-then (g.T.Disk.told c.args.target.now) (g.T.Disk.told c.loop-target.target)
          (g.T.Disk.told c.put_lock_page.new.disk) _ _ (AppendsGathered name c.args.gathered.now all
          c.put_lock_page.new.gathered) before.puts c.in_ok-put_lock_page.ensures.ok
          (λ x y z one two. subst (λ (bytes : List ℕ). AppendsGathered name c.args.gathered.now (before.put ++ bytes)
          c.put_lock_page.new.gathered x z) lock (gathers-then name _ _ _ _ _ x y z one two));
      state =
          put_end store first now last before.put before.are
          (λ events told. ended events (before.unchanged ∙ told));
    }

pub returns-in_err-last-clause-takes : goal.returns-in_err-last-clause-takes
returns-in_err-last-clause-takes g c = λ events told counted.
    let files = files_after events in
    let so_far = c.loop-target.invariant.costs events told counted in
    let went = c.in_ok-next.ensures.takes events (c.loop-target.invariant.unchanged ∙ told) so_far.0 in
    let all = takes_then (left_of_all files c.args.cursors.now.cursors.items) (left_of_all files
    c.loop-target.cursors.cursors.items) (left_of_all files c.next.new.self.cursors.items) c.args.steps.now
    c.loop-target.steps c.next.new.steps (g.S.Disk.given c.args.store.now) (g.S.Disk.given c.loop-target.store)
    (g.S.Disk.given c.next.new.store) so_far.1 went.1 in
    takes_all (left_of_all files c.args.cursors.now.cursors.items) (left_of_all files c.next.new.self.cursors.items)
    c.args.steps.now c.next.new.steps (g.S.Disk.given c.args.store.now) (g.S.Disk.given c.next.new.store) all

pub returns-in_err-put_lock_page-clause-takes : goal.returns-in_err-put_lock_page-clause-takes
returns-in_err-put_lock_page-clause-takes g c = λ events told counted.
    let files = files_after events in
    let so_far = c.loop-target.invariant.costs events told counted in
    let went = c.in_ok-next.ensures.takes events (c.loop-target.invariant.unchanged ∙ told) so_far.0 in
    let all = takes_then (left_of_all files c.args.cursors.now.cursors.items) (left_of_all files
    c.loop-target.cursors.cursors.items) (left_of_all files c.next.new.self.cursors.items) c.args.steps.now
    c.loop-target.steps c.next.new.steps (g.S.Disk.given c.args.store.now) (g.S.Disk.given c.loop-target.store)
    (g.S.Disk.given c.next.new.store) so_far.1 went.1 in
    takes_all (left_of_all files c.args.cursors.now.cursors.items) (left_of_all files c.next.new.self.cursors.items)
    c.args.steps.now c.next.new.steps (g.S.Disk.given c.args.store.now) (g.S.Disk.given c.next.new.store) all

pub returns-clause-takes : goal.returns-clause-takes
returns-clause-takes g c = λ events told counted.
    let files = files_after events in
    let so_far = c.loop-target.invariant.costs events told counted in
    let went = c.in_ok-next.ensures.takes events (c.loop-target.invariant.unchanged ∙ told) so_far.0 in
    let all = takes_then (left_of_all files c.args.cursors.now.cursors.items) (left_of_all files
    c.loop-target.cursors.cursors.items) (left_of_all files c.next.new.self.cursors.items) c.args.steps.now
    c.loop-target.steps c.next.new.steps (g.S.Disk.given c.args.store.now) (g.S.Disk.given c.loop-target.store)
    (g.S.Disk.given c.next.new.store) so_far.1 went.1 in
    takes_all (left_of_all files c.args.cursors.now.cursors.items) (left_of_all files c.next.new.self.cursors.items)
    c.args.steps.now c.next.new.steps (g.S.Disk.given c.args.store.now) (g.S.Disk.given c.next.new.store) all

pub returns-in_err-next-clause-takes : goal.returns-in_err-next-clause-takes
returns-in_err-next-clause-takes g c = λ events told counted.
    let files = files_after events in
    let so_far = c.loop-target.invariant.costs events told counted in
    takes_then (left_of_all files c.args.cursors.now.cursors.items) (left_of_all files
    c.loop-target.cursors.cursors.items) nothing c.args.steps.now c.loop-target.steps c.next.new.steps
    (g.S.Disk.given c.args.store.now) (g.S.Disk.given c.loop-target.store) (g.S.Disk.given c.next.new.store) so_far.1
    (c.in_err-next.ensures.spends events (c.loop-target.invariant.unchanged ∙ told) so_far.0)
