-- What follows from the rule of lists.
use Rattle.std.specs.Prelude.{◌≡◌, List}
use Rattle.crash_disk.specs.Files.{Files}
use Rattle.replica_store.specs.declared.file_name.FileName.{FileName}
use Rattle.replica_store.specs.Listing.{AreListed}

-- files have one list of names
abbrev pub OneList : Type 0
OneList = (files : Files) (a b : List FileName) → AreListed files a → AreListed files b → a ≡ b
