-- The names of a list, told with moments or without.
use Rattle.std.specs.Prelude.{List}
use Rattle.replica_store.specs.declared.file_name.FileName.{FileName}
use Rattle.replica_store.specs.Chain.{names_of}
use Rattle.restore_plan.specs.declared.listing.Source.{Source}
use Rattle.restore_plan.specs.declared.listing.Source.TheVariants.{Names, Dated}

abbrev pub listed : Source → List FileName
listed (Names names) = names.now
listed (Dated dated) = names_of dated.now
