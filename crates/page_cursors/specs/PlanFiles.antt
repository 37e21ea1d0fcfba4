-- The files of a plan: the names of a chain, in their order.
use Rattle.std.specs.Prelude.{◌≡◌, ℕ, List, [], ◌∷◌, ◌++◌}
use Rattle.crash_disk.specs.Files.{Files}
use Rattle.ls_base.specs.State.{State}
use Rattle.ltx_format.specs.declared.file.LtxFile.{LtxFile}
use Rattle.ltx_format.specs.LtxFormat.{change_of}
use Rattle.replica_store.specs.declared.error.Damage.{Damage}
use Rattle.replica_store.specs.declared.error.Damage.TheVariants.{SizeDiffers}
use Rattle.replica_store.specs.declared.file_name.FileName.{FileName}
use Rattle.replica_store.specs.Applying.{MakeState, LacksPage}
use Rattle.replica_store.specs.FileOf.{IsDamage, IsFileUnder, AreFilesUnder, HavePageSize}
use Rattle.replica_store.specs.Listing.{path_of, bytes_under}

-- the files under the names of the plan, all of one page size
pub record ArePlanFiles (files : Files) (plan : List FileName) (read : List LtxFile) : Type 0 where
  pub are : AreFilesUnder files plan read
  pub size : ℕ
  pub one_size : HavePageSize size read

-- the files of the plan, applied one after another to nothing, make this state
pub record Makes (files : Files) (plan : List FileName) (state : State) : Type 0 where
  pub read : List LtxFile
  pub are : ArePlanFiles files plan read
  pub makes : MakeState read state

-- the first file of the plan that is damaged, and what is wrong with it
pub record IsFirstDamaged (files : Files) (plan : List FileName) (name : FileName) (damage : Damage) : Type 0 where
  pub before : List FileName
  pub after : List FileName
  pub split : plan ≡ before ++ name ∷ after
  pub read : List LtxFile
  pub are : AreFilesUnder files before read
  pub size : ℕ
  pub one_size : HavePageSize size read
  -- the first file of all gives the page size
  pub first : before ≡ [] → damage ≡ SizeDiffers → ⊥
  pub damaged : IsDamage (bytes_under files (path_of name)) name size damage

-- No file of the plan is damaged. This is the first that doesn't fit what those before it make, and the first page that
-- is missing there.
pub record IsFirstMissing (files : Files) (plan : List FileName) (name : FileName) (number : ℕ) : Type 0 where
  pub read : List LtxFile
  pub are : ArePlanFiles files plan read
  pub before : List FileName
  pub after : List FileName
  pub split : plan ≡ before ++ name ∷ after
  pub read_before : List LtxFile
  pub are_before : AreFilesUnder files before read_before
  pub state : State
  pub makes : MakeState read_before state
  pub file : LtxFile
  pub is : IsFileUnder files name file
  pub lacks : LacksPage state (change_of file) number
