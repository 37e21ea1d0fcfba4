-- What a step of the upkeep keeps: a temporary file, a merge that was put, and one step after another.
use Rattle.std.proofs.Common.{◌≡◌, ◌≢◌, ℕ, suc, ◌<◌, List, [], ◌∷◌, length, get_or, Option, Some, None, refl, sym, ap}
use Rattle.std.proofs.Common.{subst, ◌∙◌, inl, inr, arith}
use Rattle.std.specs.Prelude.{IsSome, is_some}
use Rattle.std.proofs.lemmas.Option.{slice_get-get_or}
use Rattle.crash_disk.specs.declared.event.Event.{Event}
use Rattle.crash_disk.specs.Files.{Files, files_after, file_at}
use Rattle.crash_disk.specs.GoesOn.{IsGrown}
use Rattle.crash_disk.specs.Images.{WasCrashImageSince}
use Rattle.crash_disk.proofs.NumberLaws.{by_names}
use Rattle.ls_base.specs.History.{History}
use Rattle.ls_base.specs.SyncLog.{SyncLog, line_of}
use Rattle.ls_base.specs.declared.line.Line.{Line}
use Rattle.replica_store.specs.declared.file_name.FileName.{FileName}
use Rattle.replica_store.specs.CarriesOn.{CarriesOn, IsYoung}
use Rattle.replica_store.specs.Faithful.{IsFaithful}
use Rattle.replica_store.specs.Listing.{IsFilePath, IsIn, IsValid, path_of}
use Rattle.replica_store.specs.PutFiles.{IsMergedFile}
use Rattle.replica_store.specs.Putting.{HasPut, IsAbsent, KeepsOthers, Puts}
use Rattle.replica_store.proofs.CarryLemmas.{carries_on_itself, carries_on_then}
use Rattle.replica_store.proofs.CrashLemmas.{since_split}
use Rattle.replica_store.proofs.FaithLemmas.{in_same, is_path, is_there, put_faithful, retained_more, same_faithful}
use Rattle.replica_store.proofs.LogLemmas.{longer_same}
use Rattle.replica_store.proofs.NextFileLemmas.{merged_file_carries_on, merged_file_settles}
use Rattle.replica_store.proofs.PathLemmas.{one_file_name}
use Rattle.replica_store.proofs.PutCarryLemmas.{kept_carries_on, kept_settled, not_draft}
use Rattle.replica_upkeep.specs.Faith.{IsReady, IsTrue, KeepsFaith, RetainsNewest, Settles}
use Rattle.replica_upkeep.specs.Kept.{AddsMerges, IsMergeUnder, KeepsFiles}
use Rattle.replica_upkeep.specs.Turn.{Adds}
use Rattle.replica_upkeep.proofs.ListedLemmas.{IsMore}
use Rattle.replica_upkeep.proofs.MergedLemmas.{more_by_put}

pub by_file : {P : Type 0} (file : Option (List ℕ)) → (file ≡ None → P) → ((bytes : List ℕ) → file ≡ Some bytes → P) → P
by_file None none some = none refl
by_file (Some bytes) none some = some bytes refl

pub none_is_some : (file : Option (List ℕ)) → file ≡ None → IsSome file → ⊥
none_is_some None is some = absurd cc
none_is_some (Some bytes) is some = absurd cc

-- ---- the newest transaction

last_line : (line : Line) (log : SyncLog) → (found : Line) × (line_of (line ∷ log) (suc (length log)) ≡ Some found)
last_line line log =
    (get_or (line ∷ log) (length log) line, slice_get-get_or (line ∷ log) (length log) line (omega arith))

newest_young : (log : SyncLog) → 0 < length log → IsYoung log 0 (length log)
newest_young [] some = absurd (omega (arith, some))
newest_young (line ∷ log) some =
    let last = last_line line log in record { line = last.0; is = last.1; late = omega arith }

-- where every transaction that was retained stays so
newest_by : (history : History) (log : SyncLog) (before now : List Event) → CarriesOn history 0 before now log log
    → RetainsNewest (files_after before) log → (image : Files) → WasCrashImageSince now (length before) image
    → RetainsNewest image log
newest_by history log before now carries newest image was some =
    carries.kept image was (length log) (newest_young log some) (newest some)

pub truth : (history : History) (log : SyncLog) (events : List Event) → IsReady history log events
    → IsTrue history log events
truth history log events ready = record { faithful = ready.settled.faithful.files; newest = ready.newest }

-- ---- nothing done

pub adds_nothing : (events : List Event) → AddsMerges events events
adds_nothing events = record {
  old = λ name there. refl;
  new = λ name there absent.
      absurd (none_is_some (file_at events (path_of name)) absent there.there);
}

pub same_adds : (events : List Event) → Adds events events
same_adds events = record {
  adds = adds_nothing events;
  read = λ history log faithful. faithful;
  faith = λ cut. record {
    read = λ history log told. told;
    at_a_stop = λ history log ready. record {
      carries = carries_on_itself history cut events log ready.settled;
      faithful = ready.settled.faithful;
      newest = newest_by history log events events (carries_on_itself history 0 events log ready.settled) ready.newest;
    };
  };
}

pub same_settles : (events : List Event) → Settles events events
same_settles events = record { ready = λ history log ready. ready }

-- ---- nothing but a temporary file has changed

module _ (path : List ℕ) (before now : List Event) (is : IsFilePath path) (kept : KeepsOthers path before now) where
  reads : (q : List ℕ) → IsFilePath q → file_at now q ≡ file_at before q
  reads q is-q = kept.files q (not_draft q path is-q is)

  pub kept_adds : Adds before now
  kept_adds = record {
    adds = record {
      old = λ name there. reads (path_of name) (is_path name there.valid);
      new = λ name there absent.
          absurd (none_is_some (file_at now (path_of name)) (reads (path_of name) (is_path name there.valid) ∙ absent)
          there.there);
    };
    read = λ history log faithful. same_faithful (files_after before) (files_after now) history log reads faithful;
    faith = λ cut. record {
      read = λ history log told. record {
        faithful = same_faithful (files_after before) (files_after now) history log reads told.faithful;
        newest = λ some. retained_more (files_after before) (files_after now) (length log)
            (in_same (files_after before) (files_after now) reads) (told.newest some);
      };
      at_a_stop = λ history log ready. record {
        carries = kept_carries_on history cut before now log ready.settled path is kept;
        faithful = (kept_settled history cut before now log ready.settled path is kept).faithful;
        newest = newest_by history log before now (kept_carries_on history 0 before now log ready.settled path is kept)
            ready.newest;
      };
    };
  }

-- ---- a merge was put

module _ (name : FileName) (bytes : List ℕ) (before now : List Event) (valid : IsValid name)
    (absent : IsAbsent before (path_of name)) (under : file_at now (path_of name) ≡ Some bytes → IsMergeUnder now name)
    (truthful : (history : History) (log : SyncLog) → IsFaithful (files_after before) history log
    → IsMergedFile history log name bytes)
    (puts : Puts (path_of name) bytes before now) where
  more : IsMore (files_after before) (files_after now) name bytes
  more = more_by_put before now name bytes valid absent puts

  apart : (other : FileName) → IsIn (files_after before) other → path_of other ≢ path_of name
  apart other there same =
      none_is_some (file_at before (path_of other)) (ap (file_at before) same ∙ absent) there.there

  old : (other : FileName) → IsIn (files_after before) other
      → file_at now (path_of other) ≡ file_at before (path_of other)
  old other there = more.others (path_of other) (is_path other there.valid) (apart other there)

  still_in : (other : FileName) → IsIn (files_after before) other → IsIn (files_after now) other
  still_in other there = record { valid = there.valid; there = ap is_some (old other there) ∙ there.there }

  put_read : (history : History) (log : SyncLog) → IsFaithful (files_after before) history log
      → IsFaithful (files_after now) history log
  put_read history log faithful =
      let merged = truthful history log faithful in
      put_faithful (files_after before) (files_after now) history log log name bytes faithful (longer_same log)
      faithful.rising
      faithful.placed valid merged.within merged.file (inr refl) puts.file more.others

  pub put_adds : Adds before now
  put_adds = record {
    adds = record {
      old = old;
      new = λ other there none. by_names (path_of other) (path_of name)
          (λ same. subst (IsMergeUnder now) (sym (one_file_name other name there.valid valid same)) (under puts.file))
          (λ differs.
          absurd (none_is_some (file_at now (path_of other))
          (more.others (path_of other) (is_path other there.valid) differs ∙ none) there.there));
    };
    read = put_read;
    faith = λ cut. record {
      read = λ history log told. record {
        faithful = put_read history log told.faithful;
        newest = λ some. retained_more (files_after before) (files_after now) (length log) still_in (told.newest some);
      };
      at_a_stop = λ history log ready.
          let merged = truthful history log ready.settled.faithful.files in
          let put = merged_file_carries_on history cut before now log name bytes ready.settled merged absent puts in
          let all = merged_file_carries_on history 0 before now log name bytes ready.settled merged absent puts in
          record {
            carries = put.0;
            faithful = put.1;
            newest = newest_by history log before now all.0 ready.newest;
          };
    };
  }

  pub put_settles : HasPut (path_of name) bytes before now → Settles before now
  put_settles put = record {
    ready = λ history log ready.
        let merged = truthful history log ready.settled.faithful.files in
        record {
          settled = merged_file_settles history before now log name bytes ready.settled merged absent put;
          newest = λ some. retained_more (files_after before) (files_after now) (length log) still_in
              (ready.newest some);
        };
  }

-- ---- one step after another

pub adds_then : (a b c : List Event) → AddsMerges a b → AddsMerges b c → AddsMerges a c
adds_then a b c first second = record {
  old = λ name there.
      let kept = first.old name there in
      second.old name (record { valid = there.valid; there = ap is_some kept ∙ there.there }) ∙ kept;
  new = λ name there absent. by_file (file_at b (path_of name))
      (λ none. second.new name there none)
      (λ bytes found.
      let in_b : IsIn (files_after b) name = record {
        valid = there.valid;
        there = is_there (file_at b (path_of name))
            bytes found;
      } in
      let merge = first.new name in_b absent in
      record {
        bytes = merge.bytes;
        there = second.old name in_b ∙ merge.there;
        read = merge.read;
        merge = merge.merge;
        from_min = merge.from_min;
        to_max = merge.to_max;
      });
}

pub faith_then : (cut : ℕ) (a b c : List Event) → IsGrown a b → IsGrown b c → KeepsFaith cut a b → Settles a b
    → KeepsFaith cut b c
    → KeepsFaith cut a c
faith_then cut a b c start rest first settles second = record {
  read = λ history log told. second.read history log (first.read history log told);
  at_a_stop = λ history log ready.
      let before = first.at_a_stop history log ready in
      let behind = second.at_a_stop history log (settles.ready history log ready) in
      record {
        carries = carries_on_then history cut a b c log log log start rest before.carries behind.carries;
        faithful = behind.faithful;
        newest = λ image was. elim (since_split b c (length a) image rest was) [
          | inl after ↦ behind.newest image after
          | inr earlier ↦ before.newest image earlier
        ];
      };
}

pub settles_then : (a b c : List Event) → Settles a b → Settles b c → Settles a c
settles_then a b c first second =
    record { ready = λ history log ready. second.ready history log (first.ready history log ready) }

pub all_then : (a b c : List Event) → IsGrown a b → IsGrown b c → Adds a b → Settles a b → Adds b c → Adds a c
all_then a b c start rest first settles second = record {
  adds = adds_then a b c first.adds second.adds;
  read = λ history log faithful. second.read history log (first.read history log faithful);
  faith = λ cut. faith_then cut a b c start rest (first.faith cut) settles (second.faith cut);
}

-- what was added alone is kept
pub adds_keep : (cut : ℕ) (a b : List Event) → AddsMerges a b → KeepsFiles cut a b
adds_keep cut a b adds = record { old = λ name there. inl (adds.old name there); new = adds.new }
