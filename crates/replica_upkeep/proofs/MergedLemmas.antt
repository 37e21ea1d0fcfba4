-- The merged file of a run: its name, its header and its moment.
use Rattle.std.proofs.Common.{◌≡◌, ℕ, List, [], ◌∷◌, ◌++◌, Option, Some, None, refl, sym, ap, subst, ◌∙◌, arith}
use Rattle.std.specs.Prelude.{◌<◌, IsSome, unwrap_or}
use Rattle.std.specs.FinMap.{get}
use Rattle.std.specs.List.{Contains}
use Rattle.std.proofs.lemmas.List.Elements.{Contains-push}
use Rattle.crash_disk.specs.declared.event.Event.{Event}
use Rattle.crash_disk.specs.Files.{Files, files_after, file_at}
use Rattle.ls_base.specs.History.{History}
use Rattle.ls_base.specs.SyncLog.{SyncLog}
use Rattle.ltx_format.specs.declared.file.LtxFile.{LtxFile}
use Rattle.ltx_format.specs.LtxFormat.{HasHeader}
use Rattle.compact_levels.specs.Due.{IsDue}
use Rattle.compact_levels.specs.Level.{IsOfLevel}
use Rattle.compact_levels.specs.Merged.{IsMergeOf, IsNameOf, Merges, run_path}
use Rattle.compact_levels.specs.MergeLaws.{AreIn}
use Rattle.compact_levels.specs.declared.run.Run.{Run}
use Rattle.compact_levels.proofs.FaithMergeLemmas.{merges_keep_faith, run_end, run_in}
use Rattle.compact_levels.proofs.MergeLemmas.{last_file, last_same}
use Rattle.replica_store.specs.declared.dated_names.Dated.{Dated}
use Rattle.replica_store.specs.declared.file_name.FileName.{FileName}
use Rattle.replica_store.specs.Chain.{names_of}
use Rattle.replica_store.specs.Dating.{IsHeaderUnder}
use Rattle.replica_store.specs.Faithful.{IsFaithful}
use Rattle.replica_store.specs.FileOf.{AreFilesUnder, IsFileUnder}
use Rattle.replica_store.specs.Listing.{IsFilePath, IsIn, IsValid, bytes_under, path_of}
use Rattle.replica_store.specs.NameText.{IsName, file_path}
use Rattle.replica_store.specs.PutFiles.{IsMergedFile}
use Rattle.replica_store.specs.Putting.{IsAbsent, Puts}
use Rattle.replica_store.proofs.ExtendedLemmas.{begins_with_header}
use Rattle.replica_store.proofs.FaithLemmas.{is_path}
use Rattle.replica_store.proofs.PutCarryLemmas.{not_draft}
use Rattle.replica_upkeep.specs.Kept.{AreFiles, IsMergeUnder}
use Rattle.replica_upkeep.specs.Levels.{IsDatedRun}
use Rattle.replica_upkeep.proofs.ListedLemmas.{IsMore, listed_in, in_listed}
use Rattle.replica_upkeep.proofs.MomentLemmas.{told_moment}

pub path_is : (run : Run) (name : FileName) → IsNameOf run name → path_of name ≡ run_path run
path_is run name named =
    ap (λ (l : ℕ). file_path l name.min name.max) named.level ∙ ap (λ (m : ℕ). file_path run.level m name.max) named.min
    ∙ ap (λ (m : ℕ). file_path run.level run.min m) named.max

pub valid_name : (run : Run) (name : FileName) → IsName run.level run.min run.max → IsNameOf run name → IsValid name
valid_name run name valid named =
    subst (λ (l : ℕ). IsName l name.min name.max) (sym named.level)
    (subst (λ (m : ℕ). IsName run.level m name.max) (sym named.min)
    (subst (λ (m : ℕ). IsName run.level run.min m) (sym named.max) valid))

pub run_path_valid : (run : Run) → IsName run.level run.min run.max → IsFilePath (run_path run)
run_path_valid run valid =
    record { level = run.level; min = run.min; max = run.max; valid = valid; is = refl }

pub all_in : (files : Files) (dated : List Dated) → AreFiles files dated → AreIn files (names_of dated)
all_in files dated are name has = listed_in files (names_of dated) are.listed name has

-- What is known of a run that is due and of its name.
pub record IsDueRun (dated : List Dated) (level now : ℕ) (run : Run) (name : FileName) : Type 0 where
  pub due : IsDue dated now run
  pub at_level : run.level ≡ level
  pub valid : IsName run.level run.min run.max
  pub new : (other : FileName) → IsOfLevel (names_of dated) level other → other.max < run.max
  pub named : IsNameOf run name

pub due_run : (dated seen : List Dated) (level now : ℕ) (run : Run) (name : FileName) → seen ≡ dated
    → IsDue seen now run
    → run.level ≡ level → IsName run.level run.min run.max
    → ((other : FileName) → IsOfLevel (names_of seen) level other → other.max < run.max) → IsNameOf run name
    → IsDueRun dated level now run name
due_run dated seen level now run name same due at_level valid new named = record {
  due = subst (λ (ds : List Dated). IsDue ds now run) same due;
  at_level = at_level;
  valid = valid;
  new = subst (λ (ds : List Dated). (other : FileName) → IsOfLevel (names_of ds) level other → other.max < run.max)
      same new;
  named = named;
}

-- the name that a run's merged file has
abbrev pub run_name : (run : Run) → IsName run.level run.min run.max → FileName
run_name run valid = record {
  level = run.level;
  min = run.min;
  max = run.max;
  on_level = valid.known;
  in_order = valid.in_order;
  from_first = valid.whole;
}

pub run_named : (run : Run) (valid : IsName run.level run.min run.max) → IsNameOf run (run_name run valid)
run_named run valid = record { level = refl; min = refl; max = refl }

none_there : (file : Option (List ℕ)) → (IsSome file → ⊥) → file ≡ None
none_there None not = refl
none_there (Some bytes) not = absurd (not refl)

-- no file has its name
pub is_absent : (events : List Event) (dated : List Dated) (level now : ℕ) (run : Run) (name : FileName)
    → AreFiles (files_after events) dated → IsDueRun dated level now run name → IsAbsent events (path_of name)
is_absent events dated level now run name are is =
    none_there (file_at events (path_of name))
    (λ there.
    let has = in_listed (files_after events) (names_of dated) are.listed name
    (record { valid = valid_name run name is.valid is.named; there = there }) in
    let low = is.new name (record { there = has; of_level = is.named.level ∙ is.at_level }) in
    omega (arith, low, is.named.max))

module _ (files : Files) (dated : List Dated) (run : Run) (name : FileName) (bytes : List ℕ)
    (are : AreFiles files dated)
    (merges : Merges files (names_of dated) run bytes) (named : IsNameOf run name) where
  abbrev merge : IsMergeOf merges.merge.read bytes
  merge = merges.merge.merge

  abbrev plan : List FileName
  plan = merges.of.first ∷ merges.of.rest

  there : AreIn files plan
  there = run_in files (names_of dated) run merges.of.first merges.of.rest (all_in files dated are) merges.of.files

  -- the file under the run's last name
  record IsAtEnd : Type 0 where
    before : List FileName
    last : FileName
    ends : plan ≡ before ++ last ∷ []
    in_files : IsIn files last
    max : last.max ≡ run.max
    is : IsFileUnder files last merge.last

  at_end : IsAtEnd
  at_end =
      let end = run_end (names_of dated) run merges.of.first merges.of.rest merges.of.files in
      let under = subst (λ (ns : List FileName). AreFilesUnder files ns merges.merge.read) end.2 merges.merge.are.are in
      let found = last_file files end.0 end.1 merges.merge.read under in
      let same = last_same found.before merge.before found.last merge.last (sym found.ends ∙ merge.ends) in
      record {
        before = end.0;
        last = end.1;
        ends = end.2;
        in_files = there end.1 (subst (λ (ns : List FileName). Contains ns end.1) (sym end.2)
            (Contains-push end.0 end.1));
        max = end.3;
        is = subst (IsFileUnder files end.1) same found.is;
      }

  pub min_is : merge.header.min ≡ name.min
  min_is =
      let under = subst (λ (fs : List LtxFile). AreFilesUnder files plan fs) merge.begins merges.merge.are.are in
      merge.min ∙ under.0.from_min ∙ merges.of.files.begins ∙ sym named.min

  pub max_is : merge.header.max ≡ name.max
  max_is = merge.max ∙ at_end.is.to_max ∙ at_end.max ∙ sym named.max

  -- the header that the merged file has, where its bytes stand
  pub header_under : (now : Files) → get now (path_of name) ≡ Some bytes → IsHeaderUnder now name merge.header
  header_under now is =
      let under : bytes_under now (path_of name) ≡ bytes = ap (λ (o : Option (List ℕ)). unwrap_or o []) is in
      record {
        has = subst (λ (b : List ℕ). HasHeader b merge.header) (sym under)
            (begins_with_header bytes merge.header merge.change merge.file);
        from_min = min_is;
        to_max = max_is;
      }

  -- the header that the last file has
  last_header : IsHeaderUnder files at_end.last merge.last.header
  last_header = record {
    has = begins_with_header (bytes_under files (path_of at_end.last)) merge.last.header _ at_end.is.file;
    from_min = at_end.is.from_min;
    to_max = at_end.is.to_max;
  }

  pub dated_run : (one : Dated) → one.name ≡ name → one.moment ≡ merge.header.moment → IsDatedRun dated run one
  dated_run one is moment = record {
    named = subst (IsNameOf run) (sym is) named;
    plan = plan;
    files = record { of = merges.of; is = refl };
    before = at_end.before;
    last = at_end.last;
    ends = at_end.ends;
    moment = told_moment files dated at_end.last merge.last.header are.moments
        (in_listed files (names_of dated) are.listed at_end.last at_end.in_files) last_header
        ∙ ap (λ (m : ℕ). Some m) (sym merge.moment ∙ sym moment);
  }

  pub merge_under : (events : List Event) → file_at events (path_of name) ≡ Some bytes → IsMergeUnder events name
  merge_under events is = record {
    bytes = bytes;
    there = is;
    read = merges.merge.read;
    merge = merge;
    from_min = min_is;
    to_max = max_is;
  }

  pub merged_truth : IsName run.level run.min run.max → (history : History) (log : SyncLog)
      → IsFaithful files history log
      → IsMergedFile history log name bytes
  merged_truth valid history log faithful =
      merges_keep_faith files history log (names_of dated) run name bytes faithful (all_in files dated are) valid
      merges named

-- where its bytes were put
pub more_by_put : (before now : List Event) (name : FileName) (bytes : List ℕ) → IsValid name
    → IsAbsent before (path_of name)
    → Puts (path_of name) bytes before now → IsMore (files_after before) (files_after now) name bytes
more_by_put before now name bytes valid absent puts = record {
  valid = valid;
  absent = absent;
  there = puts.file;
  others = λ q is other. puts.others q other (not_draft q (path_of name) is (is_path name valid));
}
