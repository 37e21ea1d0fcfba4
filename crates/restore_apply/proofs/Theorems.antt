-- Where a replica's files tell the truth, the files of a chain to a transaction make its recorded state.
use Rattle.std.proofs.Common.{◌≡◌, ℕ, ◌<◌, ◌≤◌, List, [], ◌∷◌, map, Option, Some, None, refl, sym, ap, subst, ◌∙◌, inl}
use Rattle.std.proofs.Common.{inr, arith}
use Rattle.std.specs.Prelude.{unwrap_or, IsSome}
use Rattle.std.specs.List.{AllByRecursion, All, Contains}
use Rattle.std.proofs.lemmas.List.{get_or-map, length-map}
use Rattle.std.specs.FinMap.{get}
use Rattle.crash_disk.specs.Files.{Files}
use Rattle.ls_base.specs.Change.{Change, IsApplicable, apply}
use Rattle.ls_base.specs.History.{History}
use Rattle.ls_base.specs.State.{State, empty_state}
use Rattle.ls_base.specs.SyncLog.{SyncLog, recorded_state}
use Rattle.ltx_format.specs.declared.file.LtxFile.{LtxFile}
use Rattle.ltx_format.specs.declared.header.LtxHeader.{LtxHeader}
use Rattle.ltx_format.specs.LtxFormat.{IsLtxFile, change_of}
use Rattle.replica_store.specs.declared.file_name.FileName.{FileName}
use Rattle.replica_store.specs.Applying.{AppliesTo}
use Rattle.replica_store.specs.Chain.{LeadsTo, IsChain, BeginsOnce}
use Rattle.replica_store.specs.Faithful.{MayFollow, IsFaithfulFile, IsFaithful}
use Rattle.replica_store.specs.FileOf.{IsFileUnder, AreFilesUnder, HavePageSize}
use Rattle.replica_store.specs.Listing.{IsValid, AreListed, path_of, paths_of, bytes_under}
use Rattle.restore_apply.specs.RestoreLaws.{MakesRecorded}

valid_in : (names : List FileName) (name : FileName) → All IsValid names → Contains names name → IsValid name
valid_in names name all has = subst IsValid has.2 (all has.0 name has.1)

-- a file that is there has bytes
named_there : (o : Option (List ℕ)) → IsSome o → o ≡ Some (unwrap_or o [])
named_there None some = absurd cc
named_there (Some bytes) some = refl

path_in : (names : List FileName) (name : FileName) → Contains names name → Contains (paths_of names) (path_of name)
path_in names name has = (
  has.0,
  omega (arith, has.1, length-map names path_of),
  get_or-map path_of names has.0 name (path_of name) has.1 ∙ ap path_of has.2,
)

-- the file that a header and a change are
file_made : LtxHeader → Change → LtxFile
file_made h c = record { header = h; pages = c.pages }

same_change : (bytes : List ℕ) (h : LtxHeader) (c : Change) → IsLtxFile bytes h c → c ≡ change_of (file_made h c)
unfolding file_made
same_change bytes h c is =
    ap (λ (size : ℕ). record { page_size = size; commit = c.commit; pages = c.pages }) is.same_size
    ∙ ap (λ (commit : ℕ). record { page_size = h.size; commit = commit; pages = c.pages }) is.same_commit

same_state : (a b : State) → ◌≡◌ {A = Option State} (Some a) (Some b) → a ≡ b
same_state a b e = cc

-- a file that faithful files have under a name
record HasFile (files : Files) (history : History) (log : SyncLog) (name : FileName) (file : LtxFile) : Type 0 where
  is : IsFileUnder files name file
  own : IsFaithfulFile history log name.min name.max (bytes_under files (path_of name))
  same : own.change ≡ change_of file

module _ (files : Files) (history : History) (log : SyncLog) (faithful : IsFaithful files history log)
    (names : List FileName)
    (listed : AreListed files names) where
  has_file : (name : FileName) → Contains names name → (file : LtxFile) × HasFile files history log name file
  unfolding file_made
  has_file name has =
      let path = path_of name in
      let there = ((listed.each path).0 (path_in names name has)).1 in
      let own = faithful.each name (bytes_under files path) (valid_in names name listed.valid has)
      (named_there (get files path) there) in
      let same = same_change (bytes_under files path) own.header own.change own.file.file in (
        file_made own.header own.change,
        record {
          is = record {
            file = subst (IsLtxFile (bytes_under files path) own.header) same own.file.file;
            from_min =
                own.file.from_min;
            to_max = own.file.to_max;
          };
          own = own;
          same = same;
        },
      )

  -- what such files make of a recorded state
  record Made (chain : List FileName) (t size : ℕ) (before : State) : Type 0 where
    made : List LtxFile
    are : AreFilesUnder files chain made
    sized : HavePageSize size made
    state : State
    makes : AppliesTo before (map change_of made) state
    recorded : recorded_state history log t ≡ Some state

  -- a file applied to the recorded state before it
  record Applied (name : FileName) (before : State) : Type 0 where
    file : LtxFile
    has : HasFile files history log name file
    fits : IsApplicable before (change_of file)
    after : recorded_state history log name.max ≡ Some (apply before (change_of file))

  applied : (name : FileName) (from : ℕ) (before : State) → Contains names name → MayFollow name.min name.max from
      → recorded_state history log from ≡ Some before → Applied name before
  applied name from before has follows recorded =
      let found = has_file name has in
      let turns = found.1.own.leads from follows in
      let state = same_state turns.before before (sym turns.recorded ∙ recorded) in
      record {
        file = found.0;
        has = found.1;
        fits = subst (IsApplicable before) found.1.same
            (subst (λ (s : State). IsApplicable s found.1.own.change) state turns.fits);
        after = turns.after ∙ ap (λ (s : State). Some (apply s found.1.own.change)) state
            ∙ ap (λ (c : Change). Some (apply before c)) found.1.same;
      }

  later_made : (chain : List FileName) (from t size : ℕ) (before : State) → 0 < from → LeadsTo names from chain t
      → AllByRecursion (λ name. 1 < name.min) chain
      → recorded_state history log from ≡ Some before → before.page_size ≡ Some size → Made chain t size before
  later_made [] from t size before positive leads later recorded sized =
      record {
        made = [];
        are = tt;
        sized = tt;
        state = before;
        makes = refl;
        recorded =
            ap (recorded_state history log) (sym leads) ∙ recorded;
      }
  later_made (name ∷ chain) from t size before positive (there, next, leads) (late, later) recorded sized =
      let one = applied name from before there (inr (late, next.begins, omega (arith, next.goes_on))) recorded in
      let its : size ≡ one.file.header.size = one.fits.same_size size sized in
      let rest = later_made chain name.max t size (apply before (change_of one.file)) (omega (arith, next.goes_on))
      leads later one.after
      (ap (λ (n : ℕ). Some n) (sym its)) in
      record {
        made = one.file ∷ rest.made;
        are = (one.has.is, rest.are);
        sized = (sym its, rest.sized);
        state = rest.state;
        makes = (one.fits, rest.makes);
        recorded = rest.recorded;
      }

  -- The files of a chain to t make the recorded state of t, where only the first of them begins with the first
  -- transaction.
  pub makes_recorded : (t : ℕ) (chain : List FileName) → 1 ≤ t → IsChain names t chain → BeginsOnce chain
      → MakesRecorded files history log t chain
  makes_recorded t [] positive leads once = absurd (omega (arith, positive, leads))
  makes_recorded t (first ∷ rest) positive (there, next, leads) once =
      let own = valid_in names first listed.valid there in
      let begins : first.min ≡ 1 = omega (arith, next.begins, own.from_first) in
      let one = applied first 0 empty_state there (inl (begins, refl)) refl in
      let made = later_made rest first.max t one.file.header.size (apply empty_state (change_of one.file))
      (omega (arith, next.goes_on)) leads once one.after refl in
      record {
        state = made.state;
        makes = record {
          read = one.file ∷ made.made;
          are = record { are = (one.has.is, made.are); size = one.file.header.size; one_size = (refl, made.sized) };
          makes = (one.fits, made.makes);
        };
        recorded = made.recorded;
      }
