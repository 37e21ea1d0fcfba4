-- What stands of the files that a replica had, through the rounds of a replication.
use Rattle.std.proofs.Common.{◌≡◌, ◌≢◌, ℕ, ◌+◌, ◌-◌, ◌<◌, ◌≤◌, List, [], ◌∷◌, Option, Some, None, Result, Ok, Err}
use Rattle.std.proofs.Common.{refl, sym, ap, subst, ◌∙◌, inl, inr, ⊎_elim, arith}
use Rattle.std.specs.Prelude.{◌⊎◌, IsSome, is_some, unwrap_or}
use Rattle.std.specs.List.{Contains}
use Rattle.crash_disk.specs.declared.event.Event.{Event}
use Rattle.crash_disk.specs.Files.{files_after, file_at}
use Rattle.crash_disk.proofs.NumberLaws.{by_names}
use Rattle.ltx_format.specs.declared.header.LtxHeader.{LtxHeader}
use Rattle.ltx_format.specs.LtxFormat.{HasHeader}
use Rattle.replica_store.specs.declared.dated_names.Dated.{Dated}
use Rattle.replica_store.specs.declared.file_name.FileName.{FileName}
use Rattle.replica_store.specs.Chain.{names_of}
use Rattle.replica_store.specs.Listing.{IsIn, IsValid, path_of}
use Rattle.replica_store.specs.Putting.{draft_path, IsAbsent, KeepsOthers, Puts}
use Rattle.replica_store.proofs.ExtendedLemmas.{begins_with_header}
use Rattle.replica_store.proofs.FaithLemmas.{is_path, is_there}
use Rattle.replica_store.proofs.PathLemmas.{one_file_name}
use Rattle.replica_store.proofs.PutCarryLemmas.{not_draft}
use Rattle.round_line.specs.declared.round.Round.{Round}
use Rattle.round_line.specs.declared.round.Synced.{Synced}
use Rattle.round_line.specs.declared.round.Synced.TheVariants.{Same, Piece, Whole}
use Rattle.wal_follow.specs.declared.fault.FollowFault.TheVariants as follow
use Rattle.replica_sync.specs.declared.answer.SyncFault.{SyncFault}
use Rattle.replica_sync.specs.declared.answer.SyncFault.TheVariants as fault
use Rattle.replica_sync.specs.Answers.{IsNamed}
use Rattle.replica_sync.specs.Newest.{newest_of, next_moment}
use Rattle.replica_sync.specs.StoreSide.{IsStoredFile, HasStored, MayHaveStored, Stores}
use Rattle.replica_upkeep.specs.declared.answer.UpkeepStop.{UpkeepStop}
use Rattle.replica_upkeep.specs.declared.answer.UpkeepStop.TheVariants as upkeep
use Rattle.replica_upkeep.specs.Kept.{AreFiles, IsMergeUnder, KeepsFiles, WasOld}
use Rattle.replica_upkeep.proofs.ListedLemmas.{head_or_tail, in_listed}
use Rattle.replica_round.specs.declared.stop.RoundStop.{RoundStop}
use Rattle.replica_round.specs.declared.stop.RoundStop.TheVariants as stop
use Rattle.replica_round.specs.ChangesStore.{SyncsStore}
use Rattle.replica_round.specs.StoreSide.{HasRounded, StopsUpkeep, StoresRound}
use Rattle.replicate_command.specs.Standing.{IsWritten, IsFreeOrWritten, KeepsStanding}

-- ---- nothing changed, and one moment after another

stands_itself : (cut : ℕ) (events : List Event) → KeepsStanding cut events events
stands_itself cut events = record { old = λ name is. inl refl; new = λ name valid absent. inl absent }

pub unchanged_stands : (cut : ℕ) (before now : List Event) → now ≡ before → KeepsStanding cut before now
unchanged_stands cut before now same =
    subst (λ (es : List Event). KeepsStanding cut before es) (sym same) (stands_itself cut before)

-- where each file reads as before
pub stands_same : (cut : ℕ) (before now : List Event) → ((q : List ℕ) → file_at now q ≡ file_at before q)
    → KeepsStanding cut before now
stands_same cut before now same = record {
  old = λ name is. inl (same (path_of name));
  new = λ name valid absent. inl (same (path_of name) ∙ absent);
}

still_written : (at now : List Event) (name : FileName) → file_at now (path_of name) ≡ file_at at (path_of name)
    → IsWritten at name → IsFreeOrWritten now name
still_written at now name same written = inr (record {
  bytes = written.bytes;
  there = same ∙ written.there;
  header = written.header;
  change = written.change;
  under = written.under;
  file = written.file;
})

-- what is old at a later moment and has its bytes was old before
was_old : (cut : ℕ) (before at : List Event) (name : FileName)
    → file_at at (path_of name) ≡ file_at before (path_of name) → WasOld (files_after at) cut name
    → WasOld (files_after before) cut name
was_old cut before at name same was = record {
  header = was.header;
  under = record {
    has = subst (λ (file : Option (List ℕ)). HasHeader (unwrap_or file []) was.header) same was.under.has;
    from_min = was.under.from_min;
    to_max = was.under.to_max;
  };
  old = was.old;
}

module _ (cut : ℕ) (at now : List Event) (second : KeepsStanding cut at now) where
  then_free : (name : FileName) → IsValid name → IsFreeOrWritten at name → IsFreeOrWritten now name
  then_free name valid (inl absent) = second.new name valid absent
  then_free name valid (inr written) =
      let is : IsIn (files_after at) name =
      record { valid = valid; there = is_there (file_at at (path_of name)) written.bytes written.there } in
      ⊎_elim (λ same. still_written at now name same written) (λ gone. gone.1) (second.old name is)

  then_old : (before : List Event) (name : FileName) → IsIn (files_after before) name
      → file_at at (path_of name) ≡ file_at before (path_of name)
      → (file_at now (path_of name) ≡ file_at before (path_of name))
      ⊎ (WasOld (files_after before) cut name × IsFreeOrWritten now name)
  then_old before name is same =
      let still : IsIn (files_after at) name =
      record { valid = is.valid; there = ap is_some same ∙ is.there } in
      ⊎_elim (λ again. inl (again ∙ same)) (λ gone. inr (was_old cut before at name same gone.0, gone.1))
      (second.old name still)

  pub stands_then : (before : List Event) → KeepsStanding cut before at → KeepsStanding cut before now
  stands_then before first = record {
    old = λ name is.
        ⊎_elim (λ same. then_old before name is same) (λ gone. inr (gone.0, then_free name is.valid gone.1))
        (first.old name is);
    new = λ name valid absent. then_free name valid (first.new name valid absent);
  }

-- ---- a sync

-- no file of the list ends beyond the newest transaction
ends_low : (dated : List Dated) (name : FileName) → Contains (names_of dated) name → name.max ≤ newest_of dated
ends_low [] name has = absurd (omega (arith, has.1))
ends_low (d ∷ dated) name has = elim (head_or_tail d.name name (names_of dated) has) [
  | inl is ↦ let same = ap (λ (n : FileName). n.max) is in omega (arith, same)
  | inr later ↦ let low = ends_low dated name later in omega (arith, low)
]

none_there : (file : Option (List ℕ)) → (IsSome file → ⊥) → file ≡ None
none_there None not = refl
none_there (Some bytes) not = absurd (not refl)

not_some : (file : Option (List ℕ)) → file ≡ None → IsSome file → ⊥
not_some None is some = cc
not_some (Some bytes) is some = cc

-- the name of a file that begins with its header is valid
valid_of : (name : FileName) (bytes : List ℕ) (h : LtxHeader) → HasHeader bytes h → h.min ≡ name.min
    → h.max ≡ name.max → IsValid name
valid_of name bytes h has least most = record {
  known = name.on_level;
  from_first = omega (arith, has.header.from_first, least);
  in_order = name.in_order;
  max_fits = subst (λ (n : ℕ). n < 18446744073709551616) most has.header.max_fits;
  whole = name.from_first;
}

module _ (cut moment : ℕ) (before now : List Event) (dated : List Dated) (are : AreFiles (files_after before) dated)
    (name : FileName) (valid : IsValid name) where
  apart : (other : FileName) → IsValid other → path_of other ≢ draft_path (path_of name)
  apart other ok = not_draft (path_of other) (path_of name) (is_path other ok) (is_path name valid)

  -- the temporary file alone changed
  draft_stands : KeepsOthers (path_of name) before now → KeepsStanding cut before now
  draft_stands keeps = record {
    old = λ other is. inl (keeps.files (path_of other) (apart other is.valid));
    new = λ other ok absent. inl (keeps.files (path_of other) (apart other ok) ∙ absent);
  }

  -- a file of the next transaction was put
  module _ (next : name.max ≡ newest_of dated + 1) (bytes : List ℕ) (file : IsStoredFile name moment bytes)
      (puts : Puts (path_of name) bytes before now) where
    is_new : IsAbsent before (path_of name)
    is_new = none_there (file_at before (path_of name)) (λ there.
        let low = ends_low dated name (in_listed (files_after before) (names_of dated) are.listed name
        (record { valid = valid; there = there })) in
        omega (arith, low, next))

    written : IsWritten now name
    written = record {
      bytes = bytes;
      there = puts.file;
      header = file.header;
      change = file.change;
      under = file.under;
      file = file.file;
    }

    other_file : (other : FileName) → IsIn (files_after before) other → path_of other ≢ path_of name
    other_file other is same =
        not_some (file_at before (path_of other)) (ap (file_at before) same ∙ is_new) is.there

    put_stands : KeepsStanding cut before now
    put_stands = record {
      old = λ other is. inl (puts.others (path_of other) (other_file other is) (apart other is.valid));
      new = λ other ok absent. by_names (path_of other) (path_of name)
          (λ same. inr (subst (λ (n : FileName). IsWritten now n) (sym (one_file_name other name ok valid same))
          written))
          (λ differs. inl (puts.others (path_of other) differs (apart other ok) ∙ absent));
    }

module _ (cut moment : ℕ) (before now : List Event) (dated : List Dated) (are : AreFiles (files_after before) dated)
  where
    stored_stands : (name : FileName) → name.max ≡ newest_of dated + 1 → HasStored moment name before now
        → KeepsStanding cut before now
    stored_stands name next stored =
        let under = stored.file.under in
        put_stands cut moment before now dated are name
        (valid_of name stored.bytes stored.file.header under.0 under.1 under.2) next stored.bytes stored.file
        stored.put.puts

    may_stand : MayHaveStored dated moment before now → KeepsStanding cut before now
    may_stand may =
        ⊎_elim (λ keeps. draft_stands cut moment before now dated are may.name may.valid keeps)
        (λ put. put_stands cut moment before now dated are may.name may.valid may.next put.0 put.1 put.2) may.puts

    stores_stand : (result : Result Synced SyncFault) → IsNamed dated result → Stores dated moment result before now
        → KeepsStanding cut before now
    stores_stand (Ok Same) named stores = unchanged_stands cut before now stores
    stores_stand (Ok (Piece name)) named stores = stored_stands name named.max stores
    stores_stand (Ok (Whole name)) named stores = stored_stands name named.max stores
    stores_stand (Err fault) named (inl same) = unchanged_stands cut before now same
    stores_stand (Err fault) named (inr may) = may_stand may

pub sync_stands : (cut now : ℕ) (result : Result Synced SyncFault) (before after : List Event)
    → SyncsStore now result before after → KeepsStanding cut before after
sync_stands cut now result before after is =
    stores_stand cut (next_moment is.dated now) before after is.dated is.files result is.named is.stores

-- ---- an upkeep

merge_written : (events : List Event) (name : FileName) → IsMergeUnder events name → IsWritten events name
merge_written events name is = record {
  bytes = is.bytes;
  there = is.there;
  header = is.merge.header;
  change = is.merge.change;
  under = (
    begins_with_header is.bytes is.merge.header is.merge.change is.merge.file,
    is.from_min,
    is.to_max,
  );
  file = λ whole. record { file = is.merge.file; from_min = is.from_min; to_max = is.to_max };
}

pub upkeep_stands : (cut : ℕ) (before now : List Event) → KeepsFiles cut before now → KeepsStanding cut before now
upkeep_stands cut before now keeps = record {
  old = λ name is. ⊎_elim (λ same. inl same) (λ gone. inr (gone.0, inl gone.1)) (keeps.old name is);
  new = λ name valid absent. free_or_merged name valid absent (file_at now (path_of name)) refl;
}
  where
    free_or_merged : (name : FileName) → IsValid name → IsAbsent before (path_of name) → (found : Option (List ℕ))
        → file_at now (path_of name) ≡ found → IsFreeOrWritten now name
    free_or_merged name valid absent None is = inl is
    free_or_merged name valid absent (Some bytes) is =
        let there = is_there (file_at now (path_of name)) bytes is in
        inr (merge_written now name (keeps.new name (record { valid = valid; there = there }) absent))

-- ---- a round

module _ (keep now : ℕ) (before after : List Event) where
  unchanged_round : after ≡ before → KeepsStanding (now - keep) before after
  unchanged_round same = unchanged_stands (now - keep) before after same

  synced_round : (result : Result Synced SyncFault) → SyncsStore now result before after
      → KeepsStanding (now - keep) before after
  synced_round result is = sync_stands (now - keep) now result before after is

  stopped_round : (refusal : UpkeepStop) → StopsUpkeep keep now refusal before after
      → KeepsStanding (now - keep) before after
  stopped_round refusal is =
      stands_then (now - keep) is.stored after (upkeep_stands (now - keep) is.stored after is.keeps) before
      (sync_stands (now - keep) now (Ok is.synced) before is.stored is.syncs)

  ended_round : (round : Round) → HasRounded keep now round before after → KeepsStanding (now - keep) before after
  ended_round round is =
      stands_then (now - keep) is.stored after (upkeep_stands (now - keep) is.stored after is.keeps) before
      (sync_stands (now - keep) now (Ok round.sync) before is.stored is.syncs)

  -- whatever it answers
  pub round_stands : (result : Result Round RoundStop) → StoresRound keep now result before after
      → KeepsStanding (now - keep) before after
  round_stands (Ok round) is = ended_round round is
  round_stands (Err (stop.Damaged name damage)) (inl listed) = unchanged_round listed.0
  round_stands (Err (stop.Damaged name damage)) (inr run) = stopped_round (upkeep.Damaged name damage) run
  round_stands (Err (stop.PageMissing name page)) is = stopped_round (upkeep.PageMissing name page) is
  round_stands (Err stop.TxidSpent) is = synced_round (Err fault.TxidSpent) is
  round_stands (Err (stop.Store cause)) (inl same) = unchanged_round same
  round_stands (Err (stop.Store cause)) (inr (inl is)) = synced_round (Err (fault.Store cause)) is
  round_stands (Err (stop.Store cause)) (inr (inr is)) = stopped_round (upkeep.Store cause) is
  round_stands (Err stop.Memory) (inl same) = unchanged_round same
  round_stands (Err stop.Memory) (inr (inl is)) = synced_round (Err fault.Memory) is
  round_stands (Err stop.Memory) (inr (inr (inl synced))) = synced_round (Ok synced.0) synced.1
  round_stands (Err stop.Memory) (inr (inr (inr is))) = stopped_round upkeep.Memory is
  round_stands (Err (stop.Follow (follow.Live cause))) (inl is) =
      synced_round (Err (fault.Follow (follow.Live cause))) is
  round_stands (Err (stop.Follow (follow.Live cause))) (inr synced) = synced_round (Ok synced.0) synced.1
  round_stands (Err (stop.Follow (follow.Header cause))) is = synced_round (Err (fault.Follow (follow.Header cause))) is
  round_stands (Err (stop.Follow (follow.SizesDiffer db wal))) is =
      synced_round (Err (fault.Follow (follow.SizesDiffer db wal))) is
  round_stands (Err (stop.Follow (follow.WalTooLong n))) is = synced_round (Err (fault.Follow (follow.WalTooLong n))) is
  round_stands (Err (stop.Follow (follow.TooLarge n))) is = synced_round (Err (fault.Follow (follow.TooLarge n))) is
  round_stands (Err (stop.Follow (follow.GateBroken broken))) is =
      synced_round (Err (fault.Follow (follow.GateBroken broken))) is
  round_stands (Err (stop.Follow follow.Memory)) is = synced_round (Err (fault.Follow follow.Memory)) is
