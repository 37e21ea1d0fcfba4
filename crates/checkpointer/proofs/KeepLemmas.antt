-- The states of the two files, while the database file changes where nothing is kept.
use Rattle.std.proofs.Common.{◌≡◌, ◌≢◌, ◌∙◌, ℕ, ◌+◌, ◌-◌, ◌*◌, ◌<◌, ◌≤◌, ◌⊎◌, List, [], ◌∷◌, length, Option}
use Rattle.std.proofs.Common.{unwrap_or, Some, sym, ap, refl, inl, inr}
use Rattle.ls_base.specs.declared.mark.Mark.{Mark}
use Rattle.crash_disk.specs.declared.event.Event.{Event}
use Rattle.crash_disk.specs.declared.event.Event.TheVariants.{Synced}
use Rattle.crash_disk.specs.Files.{files_after, file_at}
use Rattle.crash_disk.specs.FileState.{FileState, synced_file}
use Rattle.crash_disk.proofs.FileLaws.{file_at-Synced}
use Rattle.crash_disk.proofs.Moments.{since_more, since_start}
use Rattle.wal_frames.specs.Marks.{last_mark_of}
use Rattle.checkpointer.specs.Backfill.{KeepsStates}
use Rattle.checkpointer.specs.Copying.{Written, after_writes, EachIs}
use Rattle.checkpointer.specs.PairState.{bytes_at, log_page_size, state_of_pair, AreNamed}
use Rattle.checkpointer.proofs.FileLemmas.{AgreeAt}
use Rattle.checkpointer.proofs.PagesLemmas.{pages_in}
use Rattle.checkpointer.proofs.PairLemmas.{reads, is_named, HasPair, IsPair, has_pair, pair-Synced_log}
use Rattle.checkpointer.proofs.RunLemmas.{IsLong, WereAlike, Run, run_begins, run_writes}
use Rattle.checkpointer.proofs.ViewOfPair.{IsKept, states_agree, states_were}
use Rattle.checkpointer.proofs.WholeLemmas.{synced_was, is_long}

module _ (db wal : List ℕ) (apart : db ≢ wal) (x : List Event) (named : AreNamed x db wal) where
  abbrev pub entry : IsPair x db wal
  entry = has_pair x db wal apart named

  abbrev pub log : List ℕ
  log = bytes_at x wal

  bytes_of : Option (List ℕ) → List ℕ
  bytes_of left = unwrap_or left []

  pub log_is : entry.w.bytes ≡ log
  log_is = sym (ap (λ (left : Option (List ℕ)). unwrap_or left []) (reads x wal entry.pair.k entry.w entry.pair.log))

  pub file_is : bytes_at x db ≡ entry.d.bytes
  file_is = ap (λ (left : Option (List ℕ)). unwrap_or left []) (reads x db entry.pair.n entry.d entry.pair.database)

  pub keeps_same : KeepsStates db wal x x
  keeps_same = record {
    as_read = refl;
    others = record { others = λ q not. refl };
    named = λ is. is;
    at_any_stop = λ whole image was. (image, since_start x image was, refl);
  }

  pub keeps_synced : KeepsStates db wal x (Synced wal ∷ x)
  unfolding files_after
  keeps_synced =
      let p = pair-Synced_log x db wal entry.d entry.w entry.pair in
      record {
        as_read = refl;
        others = record { others = λ q not. file_at-Synced x wal q };
        named = λ _. record {
          database = is_named (Synced wal ∷ x) db p.n entry.d p.database;
          log = is_named
              (Synced wal ∷ x) wal p.k (synced_file entry.w.bytes) p.log;
        };
        at_any_stop = λ whole image was.
            elim (since_more (Synced wal) x (length x) image was) [
              | inl is ↦ (image, synced_was x wal image is, refl)
              | inr since ↦ (image, since_start x image since, refl)
            ];
      }

  pub same_synced : files_after (Synced wal ∷ x) ≡ files_after x
  unfolding files_after
  same_synced = refl

  module _ (last : Mark) (e : last_mark_of log ≡ Some last) where
    abbrev pub Kept : ℕ → Type 0
    Kept = IsKept log last

    -- the bytes of the two files as read
    pub file_now : (now : List Event) (d : FileState) → HasPair now db wal d (synced_file log)
        → bytes_at now db ≡ d.bytes
    file_now now d pair = ap (λ (left : Option (List ℕ)). unwrap_or left []) (reads now db pair.n d pair.database)

    pub log_now : (now : List Event) (d : FileState) → HasPair now db wal d (synced_file log) → bytes_at now wal ≡ log
    log_now now d pair = ap (λ (left : Option (List ℕ)). unwrap_or left [])
        (reads now wal pair.k (synced_file log) pair.log)

    pub keeps_pair : (now : List Event) (d : FileState) → HasPair now db wal d (synced_file log)
        → AgreeAt Kept d.bytes entry.d.bytes → (IsLong Kept db wal log entry.d → WereAlike Kept db wal log x now)
        → ((q : List ℕ) → q ≢ db → file_at now q ≡ file_at x q) → KeepsStates db wal x now
    keeps_pair now d pair agree alike others = record {
      as_read =
          let size = log_page_size log in
          ap (λ (b : List ℕ). state_of_pair size b (bytes_at now wal)) (file_now now d pair)
          ∙ ap (state_of_pair size d.bytes) (log_now now d pair)
          ∙ states_agree size log last d.bytes entry.d.bytes e agree
          ∙ ap (λ (b : List ℕ). state_of_pair size b log) (sym file_is);
      others = record { others = others };
      named = λ _. record {
        database = is_named now db pair.n d pair.database;
        log = is_named now wal pair.k
            (synced_file log) pair.log;
      };
      at_any_stop = λ whole. states_were (log_page_size log) db wal log last x now e
          (alike (is_long db wal x entry.d entry.w last apart entry.pair e whole));
    }

    pub keeps_run : (now : List Event) (d : FileState) → Run Kept db wal log entry.d x now d → KeepsStates db wal x now
    keeps_run now d r = keeps_pair now d r.pair r.agree r.alike r.others

    pub begun : Run Kept db wal log entry.d x (Synced wal ∷ x) entry.d
    begun = run_begins Kept db wal log entry.d x entry.w entry.pair log_is apart

    -- no place that is kept is written
    pub record IsFree (size : ℕ) (w : Written) : Type 0 where
      pub free : (place : ℕ) → Kept place
          → (place < (w.number - 1) * size) ⊎ ((w.number - 1) * size + length w.bytes ≤ place)

    pub run_pages : (size : ℕ) (writes : List Written) → EachIs (IsFree size) writes
        → Run Kept db wal log entry.d x (after_writes db size writes (Synced wal ∷ x)) (pages_in size writes entry.d)
    run_pages size [] each = begun
    run_pages size (w ∷ writes) each =
        run_writes Kept db wal log entry.d x entry.w entry.pair log_is apart
        (after_writes db size writes (Synced wal ∷ x)) (pages_in size writes entry.d) ((w.number - 1) * size)
        w.bytes
        (run_pages size writes each.1) each.0.free
