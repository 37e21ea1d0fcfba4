-- What the next page of a run's files says at their end.
use Rattle.std.proofs.Common.{◌≡◌, ℕ, Option, Some, None}
use Rattle.std.specs.Prelude.{Result, Ok, Err, IfOk, map}
use Rattle.std.specs.Option.{IfNone}
use Rattle.crash_disk.specs.Files.{Files, files_after}
use Rattle.crash_disk.specs.Told.{Told, IfTold}
use Rattle.page_cursors.specs.declared.cursors.Cursors.{Cursors}
use Rattle.page_cursors.specs.declared.fault.CursorsFault.{CursorsFault}
use Rattle.page_cursors.specs.Blocks.{Blocks}
use Rattle.page_cursors.specs.Cursors.{HaveAllRead, HaveGiven, HaveRead, plan_of}
use Rattle.compact_levels.specs.Drafting.{HaveCopied}

copied_whole : (files : Files) (cursors : Cursors) (given : Blocks) (min : ℕ) → HaveRead files cursors given
    → HaveCopied min files (plan_of cursors) cursors.size given
copied_whole files cursors given min has = record {
  read = has.read;
  are = has.are;
  one_size = has.one_size;
  pages = has.pages;
  hold = λ one. has.hold;
}

copied_later : (files : Files) (cursors : Cursors) (given : Blocks) (min : ℕ) → (min ≡ 1 → ⊥)
    → HaveAllRead files cursors given
    → HaveCopied min files (plan_of cursors) cursors.size given
copied_later files cursors given min later has = record {
  read = has.read;
  are = has.are;
  one_size = has.one_size;
  pages = has.pages;
  hold = λ one. absurd (later one);
}

abbrev Ended : Told → Cursors → ℕ → Option ℕ → Type 0
Ended told cursors min next =
    IfNone next (IfTold told (λ events. (given : Blocks) → HaveGiven (files_after events) cursors given
    → HaveCopied min (files_after events) (plan_of cursors) cursors.size given))

pub ended_whole : (r : Result (Option ℕ) CursorsFault) (told : Told) (cursors : Cursors) (min : ℕ)
    → IfOk r (λ next. IfNone next (IfTold told
    (λ events. (given : Blocks) → HaveGiven (files_after events) cursors given
    → HaveRead (files_after events) cursors given))) → IfOk r (Ended told cursors min)
ended_whole (Err fault) told cursors min ended = tt
ended_whole (Ok (Some n)) told cursors min ended = tt
ended_whole (Ok None) told cursors min ended = λ events is given has.
    copied_whole (files_after events) cursors given min (ended events is given has)

pub ended_later : (r : Result (Option ℕ) CursorsFault) (told : Told) (cursors : Cursors) (min : ℕ) → (min ≡ 1 → ⊥)
    → IfOk r (λ next. IfNone next (IfTold told
    (λ events. (given : Blocks) → HaveGiven (files_after events) cursors given
    → HaveAllRead (files_after events) cursors given))) → IfOk r (Ended told cursors min)
ended_later (Err fault) told cursors min later ended = tt
ended_later (Ok (Some n)) told cursors min later ended = tt
ended_later (Ok None) told cursors min later ended = λ events is given has.
    copied_later (files_after events) cursors given min later (ended events is given has)
