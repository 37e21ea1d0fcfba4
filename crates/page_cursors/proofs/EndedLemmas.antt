-- All cursors have come to the ends of their files.
use Rattle.std.proofs.Common.{◌≡◌, ℕ, ◌+◌, ◌<◌, List, length, get_or, Option, Some, None, sym, subst, ◌∙◌}
use Rattle.std.proofs.Common.{arith}
use Rattle.std.specs.Prelude.{map, slice_get}
use Rattle.std.proofs.lemmas.Option.{slice_get_within, slice_get-get_or}
use Rattle.crash_disk.specs.declared.event.Event.{Event}
use Rattle.crash_disk.specs.Files.{Files, files_after}
use Rattle.crash_disk.specs.Told.{Told}
use Rattle.ltx_reader.specs.declared.progress.Progress.TheVariants.{Ended}
use Rattle.ltx_format.specs.LtxFormat.{change_of}
use Rattle.replica_store.specs.declared.file_name.FileName.{FileName}
use Rattle.page_cursors.specs.declared.cursor.Cursor.{Cursor}
use Rattle.page_cursors.specs.declared.cursors.Cursors.{Cursors}
use Rattle.page_cursors.specs.declared.fault.CursorsFault.{CursorsFault}
use Rattle.page_cursors.specs.declared.fault.CursorsFault.TheVariants.{Damaged, PageMissing, Store, Memory}
use Rattle.page_cursors.specs.Blocks.{Blocks}
use Rattle.page_cursors.specs.Cursor.{WaitsNext}
use Rattle.page_cursors.specs.Cursors.{HaveShape, HaveGiven, HaveRead, HaveAllRead, plan_of}
use Rattle.page_cursors.specs.Ending.{AllHold, IsLackingAt, LacksAt}
use Rattle.page_cursors.specs.Fault.{Blames}
use Rattle.page_cursors.specs.LastPages.{last_commit}
use Rattle.page_cursors.specs.PlanFiles.{IsFirstMissing}
use Rattle.page_cursors.specs.Queue.{NoneWaits}
use Rattle.page_cursors.proofs.DamageLemmas.{same_events}
use Rattle.page_cursors.proofs.MissingLemmas.{first_missing, same_some}
use Rattle.page_cursors.proofs.NextLemmas.{front_at}
use Rattle.page_cursors.proofs.ReadLemmas.{AreReadBy, read_all}
use Rattle.page_cursors.proofs.TakeLemmas.{some_commit}

number_at : (numbers : List (Option ℕ)) (place : ℕ) → place < length numbers
    → (next : Option ℕ) × (slice_get numbers place ≡ Some next)
number_at numbers place low = (get_or numbers place None, slice_get-get_or numbers place None low)

ended_next : (cursor : Cursor) (numbers : List (Option ℕ)) (place last : ℕ) (next : Option ℕ)
    → slice_get numbers place ≡ Some next → NoneWaits numbers → WaitsNext cursor last next
    → cursor.reader.progress ≡ Ended
ended_next cursor numbers place last None is none waits = waits
ended_next cursor numbers place last (Some n) is none waits = absurd (none place n is)

-- where none waits, each has ended
has_ended : (files : Files) (cursors : Cursors) (given : Blocks) → HaveGiven files cursors given → HaveShape cursors
    → NoneWaits cursors.waiting.numbers
    → (place : ℕ) (cursor : Cursor) → slice_get cursors.cursors.items place ≡ Some cursor
    → cursor.reader.progress ≡ Ended
has_ended files cursors given has shape none place cursor is =
    let low = slice_get_within cursors.cursors.items place cursor is in
    let next = number_at cursors.waiting.numbers place (omega (arith, low, shape.count)) in
    ended_next cursor cursors.waiting.numbers place cursors.last next.0 next.1 none
    (has.waits place cursor next.0 is next.1)

-- each was read to its end
each_read : (files : Files) (cursors : Cursors) (given : Blocks) (has : HaveGiven files cursors given)
    → HaveShape cursors → NoneWaits cursors.waiting.numbers
    → AreReadBy files cursors.size 0 cursors.cursors.items has.fronts
each_read files cursors given has shape none =
    read_all files cursors.size (cursors.last + 1) 0 cursors.cursors.items has.fronts has.count
    (λ place commit cursor front is at_commit at_front. (
      has.each place commit cursor front is at_commit at_front,
      has_ended files cursors given has shape none
          place cursor is,
    ))

pub have_all_read : (files : Files) (cursors : Cursors) (given : Blocks) → HaveGiven files cursors given
    → HaveShape cursors → NoneWaits cursors.waiting.numbers → HaveAllRead files cursors given
have_all_read files cursors given has shape none =
    let all = each_read files cursors given has shape none in
    record {
      read = all.read;
      are = all.are;
      one_size = all.one_size;
      ends = same_some (last_commit 0 (map change_of all.read)) cursors.commit (sym all.ends ∙ has.ends);
      pages = λ p. has.given_is p ∙ all.pages p;
    }

pub have_read : (files : Files) (cursors : Cursors) (given : Blocks) → HaveGiven files cursors given
    → HaveShape cursors → NoneWaits cursors.waiting.numbers → AllHold cursors.cursors.items
    → HaveRead files cursors given
have_read files cursors given has shape none hold =
    let all = each_read files cursors given has shape none in
    record {
      read = all.read;
      are = all.are;
      one_size = all.one_size;
      hold = all.hold hold;
      ends = same_some (last_commit 0 (map change_of all.read)) cursors.commit (sym all.ends ∙ has.ends);
      pages = λ p. has.given_is p ∙ all.pages p;
    }

pub is_missing : (files : Files) (cursors : Cursors) (given : Blocks) (name : FileName) (number : ℕ)
    → HaveGiven files cursors given → HaveShape cursors → NoneWaits cursors.waiting.numbers
    → IsLackingAt cursors.cursors.items name number → IsFirstMissing files (plan_of cursors) name number
is_missing files cursors given name number has shape none lacking =
    let at = slice_get_within cursors.cursors.items lacking.place lacking.cursor lacking.is in
    let commit = some_commit cursors.cursors.items lacking.place at in
    let front = front_at has.fronts lacking.place (omega (arith, at, has.count)) in
    first_missing files cursors.size (cursors.last + 1) cursors.cursors.items has.fronts name number has.count
    (λ place n cursor f is at_commit at_front. (
      has.each place n cursor f is at_commit at_front,
      has_ended files
          cursors given has shape none place cursor is,
    ))
    lacking commit.0 commit.1 front.0 front.1 (λ place cursor is.
    let low = slice_get_within cursors.cursors.items place cursor is in
    let one = some_commit cursors.cursors.items place low in
    let f = front_at has.fronts place (omega (arith, low, has.count)) in
    (one.0, one.1, f.0, f.1))

-- the fault that tells so
pub blames_missing : (told : Told) (events : List Event) (cursors : Cursors) (given : Blocks) (fault : CursorsFault)
    → told ≡ Some events → HaveGiven (files_after events) cursors given → HaveShape cursors
    → NoneWaits cursors.waiting.numbers → LacksAt cursors.cursors.items fault → Blames told (plan_of cursors) fault
blames_missing told events cursors given (Damaged name damage) is has shape none lacks = absurd lacks
blames_missing told events cursors given (PageMissing name number) is has shape none lacks = λ events' is'.
    subst (λ (es : List Event). IsFirstMissing (files_after es) (plan_of cursors) name number)
    (same_events told events events' is is')
    (is_missing (files_after events) cursors given name number has shape none lacks)
blames_missing told events cursors given (Store fault) is has shape none lacks = tt
blames_missing told events cursors given Memory is has shape none lacks = tt
