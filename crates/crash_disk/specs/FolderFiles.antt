-- What ties the files that a folder keeps to its record.
use Rattle.std.specs.Prelude.{◌≡◌, List}
use Rattle.crash_disk.specs.declared.event.Event.{Event}
use Rattle.crash_disk.specs.Files.{Files, files_after}

-- the files are those that the changes made, the newest first
pub record AreTheFiles (files : Files) (events : List Event) : Type 0 where
  pub same : files ≡ files_after events
